-- The views of a seat, and what each step tells.
use Rattle.std.specs.Prelude.{◌≡◌, ◌≢◌, ℕ, ◌+◌, ◌%◌, ◌^◌, ◌<◌, ◌≤◌, List, [], ◌∷◌, ◌++◌, Option, Some, None}
use mathlib.Core.Option.{some}
use lib.ListN.{get_elem?}
use Rattle.atomic_table.specs.Seated.{TableId}
use Rattle.atomic_table.specs.Table.{State, Me, Step, rest}
use Rattle.kex_core.specs.declared.place.Place.{Place}
use Rattle.kex_core.specs.declared.place.Place.TheVariants.{Out, Dec, Mark, Look, Spin, Naming, Named, Holding, Clearing, Inc, Unmark}
use Rattle.kex_core.specs.Worlds.{value_found}
use Rattle.kex_core.specs.Laws.{Placed}
use Rattle.kex_core.specs.Costs.{bound}
use Rattle.kex_core.specs.Shapes.{Sheet, plan}
use Rattle.kex_words.specs.declared.card.Card.{Card}
use Rattle.pass_roles.specs.declared.role.Role.TheVariants.{Maker, Party, Spent}
use Rattle.kex_words.specs.declared.view.View.{View}
use Rattle.kex_words.specs.Passes.{Pass, Held, TakenIn, due_at, next_pass}
use Rattle.pass_roles.specs.Roles.{made_of, number_of, total}
use Rattle.kex_words.specs.Rule.{took_of, IsReadOff}

-- the number of a place among the names
abbrev pub name_at : Place → ℕ
name_at (Named s) = s
name_at (Holding s) = s
name_at (Clearing s) = s
name_at (Naming i) = i
name_at Out = 0
name_at (Dec j) = 0
name_at (Mark j) = 0
name_at (Look j) = 0
name_at (Spin j) = 0
name_at (Inc j) = 0
name_at (Unmark j) = 0

-- the words and slots of a table, and what each seat knows
abbrev pub TableState : Type 0
TableState = State (Option Card) View

-- a seat's view, and the cards that it has out
abbrev pub Self : Type 0
Self = Me (Option Card) View

-- the maker's view, once so many passes were dealt
abbrev pub maker : Sheet → ℕ → View
maker net m = record { net = net; role = Maker m; place = Out; firsts = 0; spins = 0; got = []; uses = 0; joined = [] }

abbrev pub no_net : Sheet
no_net = record { parties = 0; width = 0; caps = []; nexts = []; starts = [] }

abbrev pub spent_view : View
spent_view = record { net = no_net; role = Spent; place = Out; firsts = 0; spins = 0; got = []; uses = 0; joined = [] }

-- a split leaves the maker with this
abbrev pub dealt_view : View → View
dealt_view v = record v { role = Maker (made_of v.role + 1) }

-- and the new seat with this
abbrev pub newcomer : View → View
newcomer v = record { net = v.net; role = Party (made_of v.role); place = Out; firsts = 0; spins = 0; got = []; uses = 0; joined = [] }

-- a join keeps what the other took, and its numbers
abbrev pub both : View → View → View
both v w = record v { got = v.got ++ w.got; joined = number_of w.role ∷ (w.joined ++ v.joined) }

-- the view of a pass
abbrev pub seated_view : Pass → View
seated_view p = record { net = p.table.net; role = Party p.number; place = p.place; firsts = p.firsts; spins = p.spins; got = p.got; uses = 0; joined = [] }

-- the same, where its card was used so often
abbrev pub holding_seat : Pass → ℕ → View
holding_seat p u = record (seated_view p) { uses = u }

-- the pass that a view at this table is
abbrev pub pass_of : TableId → View → Pass
pass_of id v = record { table = record { id = id; net = v.net }; number = number_of v.role; place = v.place; firsts = v.firsts; spins = v.spins; got = v.got }

-- the held card that a view at this table is
abbrev pub held_of : TableId → View → Held
held_of id v = record { pass = pass_of id v; card = record { number = name_at v.place; uses = v.uses } }

-- a table of no words
abbrev pub no_table : TableId
no_table = record { words = 0; slots = 0; views_name = 0; atom = 0; block = 0; offset = 0; slot_names = [] }

-- the pass that a view is, of whatever table
abbrev pub standing : View → Pass
standing v = pass_of no_table v

-- the view, where its pass has become p
abbrev pub view_with_pass : View → Pass → View
view_with_pass v p = record v { place = p.place; firsts = p.firsts; spins = p.spins; got = p.got; uses = 0 }

-- the view after an access that found n
abbrev pub next_view : View → ℕ → View
next_view v n = view_with_pass v (next_pass (standing v) n)

-- what is known of the access of a party's view, which found n: the state that it met, and where it leads
pub record Told (v : View) (n : ℕ) : Type 0 where
  pub state : TableState
  pub ruled : IsReadOff v.net state
  pub seat : ℕ
  pub sits : get_elem? state.views seat ≡ some v
  pub inside : number_of v.role < v.net.parties
  pub stood : ruled.world.place (number_of v.role) ≡ v.place
  pub found_is : n ≡ value_found ruled.world (number_of v.role) (due_at (standing v))
  pub placed : Placed (plan v.net) (number_of v.role) (next_pass (standing v) n).place
  pub bounded : (next_pass (standing v) n).firsts ≤ bound (plan v.net) (number_of v.role) (next_pass (standing v) n).place

-- an access that moves no card
abbrev pub moves_no_card : Step (Option Card) → Self → ℕ → Self → Type 0
moves_no_card st m n m' = Told m.0 n × (m' ≡ (next_view m.0 n, m.1))

-- a look at a bit: where it is set that is the test of it that was due, which leaves it set, and else it is no access
abbrev pub looks_at_bit : Step (Option Card) → Self → ℕ → Self → Type 0
looks_at_bit st m n m' = (n ≡ 1 → moves_no_card st m n m') × (n ≢ 1 → m' ≡ m)

-- the card was taken, and its uses are to be one more
abbrev pub took : Step (Option Card) → Self → ℕ → Self → Type 0
took st m n m' = (t : Told m.0 n) × ((c : Card) × (c.number ≡ name_at m.0.place)
    × (m' ≡ (record (next_view m.0 n) { uses = (c.uses + 1) % 2 ^ 64 }, (name_at m.0.place, Some c) ∷ m.1))
    × (c.uses ≡ total (took_of (name_at m.0.place)) t.state.views % 2 ^ 64))

-- the card went home
abbrev pub gave : Step (Option Card) → Self → ℕ → Self → Type 0
gave st m n m' = Told m.0 n × (m' ≡ (next_view m.0 n, rest m.1))

-- the seat has the pass's view and no card, and the pass lies on its party's path
pub record IsPass (p : Pass) (m : Self) : Type 0 where
  pub sits : m ≡ (seated_view p, [])
  pub inside : p.number < p.table.net.parties
  pub placed : Placed (plan p.table.net) p.number p.place

-- the seat of a pass that is Out
pub record IsAtRest (p : Pass) (m : Self) : Type 0 where
  pub sits : m ≡ (seated_view p, [])
  pub rests : p.place ≡ Out

-- the seat of a pass that has its card in hand
pub record IsHolder (h : Held) (m : Self) : Type 0 where
  pub sits : m ≡ (holding_seat h.pass h.card.uses, (h.card.number, None) ∷ [])
  pub inside : h.pass.number < h.pass.table.net.parties
  pub place_is : h.pass.place ≡ Holding h.card.number
  pub placed : Placed (plan h.pass.table.net) h.pass.number h.pass.place

-- the numbers of passes
abbrev pub numbers_of : List Pass → List ℕ
numbers_of [] = []
numbers_of (p ∷ ps) = p.number ∷ numbers_of ps

-- what was taken in, by the view of the seat that the others were joined into
abbrev pub taken_in : TableId → View → TakenIn
taken_in id v = record { table = record { id = id; net = v.net }; numbers = v.joined ++ number_of v.role ∷ []; got = v.got }

-- the seat is that of a party that is Out, and others may have been joined into it
pub record IsTakenIn (m : Self) : Type 0 where
  pub alone : m.1 ≡ []
  pub role_is : m.0.role ≡ Party (number_of m.0.role)
  pub rests : m.0.place ≡ Out
