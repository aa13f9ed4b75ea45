-- What a table and its passes are to whoever has them.
use Rattle.std.specs.Prelude.{◌≡◌, ◌≢◌, ℕ, ◌+◌, ◌-◌, ◌*◌, ◌%◌, ◌^◌, ◌<◌, ◌==◌, if◌then◌else◌, List, [], ◌∷◌, ◌++◌, length, slice_index}
use Rattle.atomic_table.specs.Seated.{TableId}
use Rattle.kex_core.specs.declared.place.Place.{Place}
use Rattle.kex_core.specs.declared.place.Place.TheVariants.{Out, Dec, Mark, Look, Spin, Naming, Named, Holding, Clearing, Inc, Unmark}
use Rattle.kex_core.specs.Worlds.{due, after}
use Rattle.kex_core.specs.Costs.{is_spin, kept_at}
use Rattle.kex_core.specs.Shapes.{Sheet, plan, IsNet}
use Rattle.kex_words.specs.declared.card.Card.{Card}

-- a table: `id` tells it from others
pub record TableNet : Type 0 where
  pub id : TableId
  pub net : Sheet

-- a pass: of which table, of which party, and where that stands; its accesses since it was last Out, but for reads of spin words, and its reads of them; and the numbers that it took, in order
pub record Pass : Type 0 where
  pub table : TableNet
  pub number : ℕ
  pub place : Place
  pub firsts : ℕ
  pub spins : ℕ
  pub got : List ℕ

-- a pass that is Out
pub record IsOut (p : Pass) : Type 0 where
  pub place_is : p.place ≡ Out
  pub firsts : p.firsts ≡ 0
  pub spins : p.spins ≡ 0

-- a pass at Holding, with its card
pub record Held : Type 0 where
  pub pass : Pass
  pub card : Card

-- the kinds of place, each with a type of pass. At Out a party enters by the access of its start
pub data Kind : Type 0 where
  outside : Kind
  entering : Kind
  naming : Kind
  named : Kind
  holding : Kind
  leaving : Kind

abbrev pub kind_of : Place → Kind
kind_of Out = outside
kind_of (Dec j) = entering
kind_of (Mark j) = entering
kind_of (Look j) = entering
kind_of (Spin j) = entering
kind_of (Naming i) = naming
kind_of (Named s) = named
kind_of (Holding s) = holding
kind_of (Clearing s) = leaving
kind_of (Inc j) = leaving
kind_of (Unmark j) = leaving

-- the place whose access is due
abbrev pub due_at : Pass → Place
due_at p = due (plan p.table.net) p.number p.place

-- which access is due for a pass that enters, by its place
abbrev pub EntersAt : Pass → Place → Type 0
EntersAt p Out = (j : ℕ) × (due_at p ≡ Dec j)
EntersAt p (Dec i) = (j : ℕ) × (due_at p ≡ Dec j)
EntersAt p (Mark j) = (due_at p ≡ Mark j)
EntersAt p (Look j) = (due_at p ≡ Look j)
EntersAt p (Spin j) = (due_at p ≡ Spin j)
EntersAt p (Naming i) = ⊥
EntersAt p (Named s) = ⊥
EntersAt p (Holding s) = ⊥
EntersAt p (Clearing s) = ⊥
EntersAt p (Inc j) = ⊥
EntersAt p (Unmark j) = ⊥

-- what was taken, after the access of this place
abbrev pub got_after : Place → List ℕ → List ℕ
got_after (Named s) l = l ++ s ∷ []
got_after Out l = l
got_after (Dec j) l = l
got_after (Mark j) l = l
got_after (Look j) l = l
got_after (Spin j) l = l
got_after (Naming i) l = l
got_after (Holding s) l = l
got_after (Clearing s) l = l
got_after (Inc j) l = l
got_after (Unmark j) l = l

-- the pass, once the access that is due has led to the place a
abbrev pub pass_led_to : Pass → Place → Pass
pass_led_to p a = record {
  table = p.table;
  number = p.number;
  place = a;
  firsts = kept_at a (p.firsts + 1 - is_spin (due_at p));
  spins = kept_at a (p.spins + is_spin (due_at p));
  got = got_after (due_at p) p.got;
}

-- the pass after the access that is due, which found n
abbrev pub next_pass : Pass → ℕ → Pass
next_pass p n = pass_led_to p (after (plan p.table.net) p.number (due_at p) n)

-- how often x stands in a list
abbrev pub times : ℕ → List ℕ → ℕ
times x [] = 0
times x (y ∷ ys) = (if y == x then 1 else 0) + times x ys

-- how often the passes took the number s
abbrev pub times_taken : ℕ → List Pass → ℕ
times_taken s [] = 0
times_taken s (p ∷ ps) = times s p.got + times_taken s ps

-- card s of a table that these passes have used
abbrev pub used_card : List Pass → ℕ → Card
used_card passes s = record { number = s; uses = times_taken s passes % 2 ^ 64 }

-- passes of a table that were taken in for its close: their numbers, the last first, and the numbers that they took
pub record TakenIn : Type 0 where
  pub table : TableNet
  pub numbers : List ℕ
  pub got : List ℕ

-- card s of a table, which was taken as often as s stands in the list
abbrev pub counted_card : List ℕ → ℕ → Card
counted_card got s = record { number = s; uses = times s got % 2 ^ 64 }

-- a pass that was never used
abbrev pub unused_pass : TableNet → ℕ → Pass
unused_pass t p = record { table = t; number = p; place = Out; firsts = 0; spins = 0; got = [] }

-- a card that was never used
abbrev pub unused_card : ℕ → Card
unused_card s = record { number = s; uses = 0 }

-- the words of a new table
pub record OpensWords (net : Sheet) (words : List ℕ) : Type 0 where
  pub wide : length words ≡ 2 * length net.caps + 2 * net.width
  pub counters : (j : ℕ) → j < length net.caps → slice_index words (2 * j + 1) ≡ slice_index net.caps j + 1
  pub others : (k : ℕ) → ((j : ℕ) → j < length net.caps → k ≢ 2 * j + 1) → slice_index words k ≡ 0

-- the table of a net has a word for split and join, two for each stage, one for each bit and each card, and a slot for each card
pub record IsSetUp (id : TableId) (told net : Sheet) : Type 0 where
  pub words : id.words ≡ 2 * length net.caps + 2 * net.width
  pub slots : id.slots ≡ net.width
  pub told_is : told ≡ net
  pub is_net : IsNet net
