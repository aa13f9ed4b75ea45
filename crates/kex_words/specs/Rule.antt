-- The rule of the table: the words, the cards at home and all views, read off, are a world that meets its invariant.
use Rattle.std.specs.Prelude.{◌≡◌, ◌≢◌, ◌⊎◌, ℕ, ◌+◌, ◌*◌, ◌%◌, ◌^◌, ◌<◌, ◌≤◌, List, [], ◌∷◌, length, slice_index, Option, Some}
use mathlib.Core.Option.{none, some}
use mathlib.Core.Option as maybe
use lib.ListN.{get_elem?}
use Rattle.atomic_table.specs.Table.{State}
use Rattle.kex_core.specs.declared.place.Place.TheVariants.{Out, Holding}
use Rattle.kex_core.specs.Worlds.{Machine}
use Rattle.kex_core.specs.Laws.{Kept}
use Rattle.kex_core.specs.Costs.{cost}
use Rattle.kex_core.specs.Shapes.{Sheet, plan, IsNet}
use Rattle.kex_words.specs.declared.card.Card.{Card}
use Rattle.pass_roles.specs.Roles.{total, number_of, weigh}
use Rattle.pass_roles.specs.declared.role.Role.{Role}
use Rattle.pass_roles.specs.declared.role.Role.TheVariants.{Maker, Party, Spent}
use Rattle.kex_words.specs.declared.view.View.{View}
use Rattle.kex_words.specs.Passes.{times}

-- how often the view's party took the number s
abbrev pub took_of : ℕ → View → ℕ
took_of s v = times s v.got

abbrev pub weight : ℕ → View → ℕ
weight n v = weigh n (length v.joined) v.role

module _ (sheet : Sheet) (world : Machine) (made maker_seat : ℕ) (owner : ℕ → ℕ) (views : List View) (seat : ℕ) where
  -- a party's view: its place is the world's, its numbers are its alone, and those that were joined into it are Out
  pub record Standing (p : ℕ) (v : View) : Type 0 where
    pub net_is : v.net ≡ sheet
    pub place_is : world.place p ≡ v.place
    pub numbers : (q : ℕ) → 0 < times q (p ∷ v.joined) → (q < made) × (owner q ≡ seat) × (q ≢ p → world.place q ≡ Out)
    pub once : (q : ℕ) → times q (p ∷ v.joined) ≤ 1
    pub got : (s : ℕ) → sheet.width ≤ s → times s v.got ≡ 0
    pub uses : (s : ℕ) → v.place ≡ Holding s → v.uses ≡ total (took_of s) views % 2 ^ 64
    pub firsts : v.firsts ≤ cost (plan sheet) p v.place

  -- the maker's view, who has dealt m passes
  pub record Making (m : ℕ) (v : View) : Type 0 where
    pub net_is : v.net ≡ sheet
    pub made_is : m ≡ made
    pub seat_is : seat ≡ maker_seat
    pub got : v.got ≡ []

  -- a view that was joined into another
  pub record Nobody (v : View) : Type 0 where
    pub got : v.got ≡ []

  -- the same by the role
  abbrev pub Fits : View → Role → Type 0
  Fits v (Maker m) = Making m v
  Fits v (Party p) = Standing p v
  Fits v Spent = Nobody v

-- the number is a party's own, or was joined into it
abbrev pub HasNumber : ℕ → View → Type 0
HasNumber q v = (v.role ≡ Party (number_of v.role)) × (0 < times q (number_of v.role ∷ v.joined))

-- the slots of cards, of which the card words tell who is at home
abbrev pub Homes : Type 0
Homes = List (maybe.Option (Option Card))

module _ (card : ℕ → ℕ) (homes : Homes) (views : List View) (s : ℕ) where
  -- card s is at home, with the number of its uses
  abbrev pub IsHome : Type 0
  IsHome = (card s ≡ 0) × ((c : Card) × (get_elem? homes s ≡ some (some (Some c))) × (c.number ≡ s) × (c.uses ≡ total (took_of s) views % 2 ^ 64))

  -- card s is out with a seat
  abbrev pub IsAway : Type 0
  IsAway = (card s ≡ 1) × (get_elem? homes s ≡ some none)

-- the rule
pub record IsReadOff (sheet : Sheet) (s : State (Option Card) View) : Type 0 where
  -- the world that is read off, how many passes were dealt, where the maker sits, and the seat that has a party's number
  pub world : Machine
  pub made : ℕ
  pub maker_seat : ℕ
  pub owner : ℕ → ℕ
  pub is_net : IsNet sheet
  pub kept : Kept (plan sheet) world
  -- the words
  pub wide : length s.words ≡ 2 * length sheet.caps + 2 * sheet.width
  pub x_is : (j : ℕ) → j < length sheet.caps → slice_index s.words (2 * j + 1) ≡ world.x j
  pub q_is : (j : ℕ) → j < length sheet.caps → slice_index s.words (2 * j + 2) ≡ world.q j
  pub bit_is : (i : ℕ) → i + 1 < sheet.width → slice_index s.words (2 * length sheet.caps + 1 + i) ≡ world.bit i
  pub card_is : (k : ℕ) → k < sheet.width → slice_index s.words (2 * length sheet.caps + sheet.width + k) ≡ world.card k
  -- card k is at home exactly where its word is 0
  pub cards : (k : ℕ) → k < sheet.width → IsHome world.card s.homes s.views k ⊎ IsAway world.card s.homes s.views k
  -- the numbers that the views stand for are all there are
  pub few : made ≤ sheet.parties
  pub weights : total (weight sheet.parties) s.views ≡ sheet.parties
  -- there is one maker
  pub maker : (v : View) × (get_elem? s.views maker_seat ≡ some v) × (v.role ≡ Maker made)
  -- a party whose pass was not dealt is Out, and any other's number is in a view
  pub undealt : (q : ℕ) → made ≤ q → world.place q ≡ Out
  pub dealt : (q : ℕ) → q < made → (v : View) × (get_elem? s.views (owner q) ≡ some v) × HasNumber q v
  pub each : (j : ℕ) (v : View) → get_elem? s.views j ≡ some v → Fits sheet world made maker_seat owner s.views j v v.role
