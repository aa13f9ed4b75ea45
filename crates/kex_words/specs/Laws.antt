-- One access as a change of the table's state, whoever makes it and whatever the others do.
use Rattle.std.specs.Prelude.{◌≡◌, ℕ, ◌+◌, ◌-◌, ◌*◌, ◌%◌, ◌^◌, List, length, slice_index, slice_set, Some}
use mathlib.Core.Option.{none, some}
use lib.ListN.{get_elem?}
use Rattle.kex_core.specs.declared.place.Place.{Place}
use Rattle.kex_core.specs.declared.place.Place.TheVariants.{Out, Dec, Mark, Look, Spin, Naming, Named, Holding, Clearing, Inc, Unmark}
use Rattle.kex_core.specs.Worlds.{due}
use Rattle.kex_core.specs.Shapes.{Sheet, plan}
use Rattle.pass_roles.specs.declared.role.Role.TheVariants.{Party}
use Rattle.kex_words.specs.declared.view.View.{View}
use Rattle.pass_roles.specs.Roles.{total, number_of}
use Rattle.kex_words.specs.Rule.{took_of, Homes}
use Rattle.kex_words.specs.Steps.{TableState, next_view}

-- the word of the access of this place
abbrev pub word_at : Sheet → Place → ℕ
word_at net Out = 0
word_at net (Dec j) = 2 * j + 1
word_at net (Mark j) = 2 * j + 2
word_at net (Look j) = 2 * j + 1
word_at net (Spin j) = 2 * j + 2
word_at net (Naming i) = 2 * length net.caps + 1 + i
word_at net (Named s) = 2 * length net.caps + net.width + s
word_at net (Holding s) = 2 * length net.caps + net.width + s
word_at net (Clearing s) = 2 * length net.caps + 1 + s
word_at net (Inc j) = 2 * j + 1
word_at net (Unmark j) = 2 * j + 2

-- what party p's access leaves in that word, which had n
abbrev pub word_after : ℕ → Place → ℕ → ℕ
word_after p Out n = n
word_after p (Dec j) n = (n + (2 ^ 64 - 1)) % 2 ^ 64
word_after p (Mark j) n = p + 1
word_after p (Look j) n = n
word_after p (Spin j) n = n
word_after p (Naming i) n = 1
word_after p (Named s) n = 1
word_after p (Holding s) n = 0
word_after p (Clearing s) n = 0
word_after p (Inc j) n = (n + 1) % 2 ^ 64
word_after p (Unmark j) n = p + 1

-- what the access tells: of a store, what it stores
abbrev pub told_by : ℕ → Place → ℕ → ℕ
told_by p (Mark j) n = p + 1
told_by p (Unmark j) n = p + 1
told_by p (Clearing s) n = 0
told_by p Out n = n
told_by p (Dec j) n = n
told_by p (Look j) n = n
told_by p (Spin j) n = n
told_by p (Naming i) n = n
told_by p (Named s) n = n
told_by p (Holding s) n = n
told_by p (Inc j) n = n

-- a card that is taken leaves its slot empty, and one that was used u times comes home
abbrev pub homes_after : Place → ℕ → Homes → Homes
homes_after (Named s) u hs = slice_set hs s none
homes_after (Holding s) u hs = slice_set hs s (some (Some (record { number = s; uses = u })))
homes_after Out u hs = hs
homes_after (Dec j) u hs = hs
homes_after (Mark j) u hs = hs
homes_after (Look j) u hs = hs
homes_after (Spin j) u hs = hs
homes_after (Naming i) u hs = hs
homes_after (Clearing s) u hs = hs
homes_after (Inc j) u hs = hs
homes_after (Unmark j) u hs = hs

-- the uses that a party knows that takes a card: one more than the card had
abbrev pub uses_after : Place → List View → ℕ
uses_after (Named s) views = (total (took_of s) views % 2 ^ 64 + 1) % 2 ^ 64
uses_after Out views = 0
uses_after (Dec j) views = 0
uses_after (Mark j) views = 0
uses_after (Look j) views = 0
uses_after (Spin j) views = 0
uses_after (Naming i) views = 0
uses_after (Holding s) views = 0
uses_after (Clearing s) views = 0
uses_after (Inc j) views = 0
uses_after (Unmark j) views = 0

-- the state after the access of the place d by the seat `id`, whose view is v
abbrev pub state_after : TableState → ℕ → View → Place → TableState
state_after s id v d = record {
  words = slice_set s.words (word_at v.net d) (word_after (number_of v.role) d (slice_index s.words (word_at v.net d)));
  homes = homes_after d v.uses s.homes;
  views = slice_set s.views id (record (next_view v (told_by (number_of v.role) d (slice_index s.words (word_at v.net d)))) { uses = uses_after d s.views });
}

-- the seat `id` is a party's, who is due to make the access of the place d
pub record IsDue (s : TableState) (id : ℕ) (v : View) (d : Place) : Type 0 where
  pub sits : get_elem? s.views id ≡ some v
  pub party : v.role ≡ Party (number_of v.role)
  pub due_is : due (plan v.net) (number_of v.role) v.place ≡ d

-- the seat `id` is a party's, who holds card s
pub record Holds (s : TableState) (id : ℕ) (v : View) (card : ℕ) : Type 0 where
  pub sits : get_elem? s.views id ≡ some v
  pub party : v.role ≡ Party (number_of v.role)
  pub place_is : v.place ≡ Holding card
