-- The rule of the lock's table.
use Rattle.std.specs.Prelude.{◌≡◌, ◌≢◌, ◌⊎◌, ℕ, ◌+◌, ◌%◌, ◌^◌, ◌<◌, ◌≤◌, ◌==◌, Bool, true, false, List, [], ◌∷◌, length, count_by, slice_index, Option, Some}
use mathlib.Core.Option.{some, none}
use mathlib.Core.Option as maybe
use lib.ListN.{get_elem?}
use Rattle.atomic_table.specs.Table.{State}
use Rattle.turn_lock.specs.declared.kept.Entry.{Entry}
use Rattle.pass_roles.specs.Roles.{total, weigh}
use Rattle.pass_roles.specs.declared.role.Role.{Role}
use Rattle.pass_roles.specs.declared.role.Role.TheVariants.{Maker, Party, Spent}
use Rattle.turn_lock.specs.declared.view.Stage.{Stage}
use Rattle.turn_lock.specs.declared.view.Stage.TheVariants.{Idle, Waiting, Turn, Out, Counted, Home}
use Rattle.turn_lock.specs.declared.view.Joined.{Joined}
use Rattle.turn_lock.specs.declared.view.View.{View}
use Rattle.turn_lock.specs.Entries.{own, IsPrefix}

-- how many tickets a seat has at a stage
abbrev pub has_ticket : Stage → ℕ
has_ticket Idle = 0
has_ticket (Waiting t) = 1
has_ticket (Turn t) = 1
has_ticket (Out t) = 1
has_ticket (Counted t) = 1
has_ticket (Home t) = 1

-- how many entries a seat has in the history whose ticket is still served
abbrev pub has_entry : Stage → ℕ
has_entry Idle = 0
has_entry (Waiting t) = 0
has_entry (Turn t) = 0
has_entry (Out t) = 0
has_entry (Counted t) = 1
has_entry (Home t) = 1

-- whether the value is out with a seat
abbrev pub is_out : Stage → Bool
is_out Idle = false
is_out (Waiting t) = false
is_out (Turn t) = false
is_out (Out t) = true
is_out (Counted t) = true
is_out (Home t) = false

abbrev pub tickets_in : {L Q A : Type 0} → View L Q A → ℕ
tickets_in v = has_ticket v.stage

abbrev pub entries_in : {L Q A : Type 0} → View L Q A → ℕ
entries_in v = has_entry v.stage

abbrev pub weight : {L Q A : Type 0} → ℕ → View L Q A → ℕ
weight n v = weigh n (length v.joined) v.role

-- what is true of a seat's ticket at a stage: each ticket that is out has one holder, and the turn is the served ticket's
module _ {E : Type 0} (history : List E) (served drawn : ℕ) (holder : ℕ → ℕ) (seat : ℕ) where
  abbrev pub Stays : List E → Stage → Type 0
  Stays seen Idle = Unit {0}
  Stays seen (Waiting t) = (served ≤ t) × (t < drawn) × (holder t ≡ seat)
  Stays seen (Turn t) = (t ≡ served) × (t < drawn) × (holder t ≡ seat)
  Stays seen (Out t) = (t ≡ served) × (t < drawn) × (holder t ≡ seat) × (seen ≡ history)
  Stays seen (Counted t) = (t ≡ served) × (t < drawn) × (holder t ≡ seat) × (seen ≡ history)
  Stays seen (Home t) = (t ≡ served) × (t < drawn) × (holder t ≡ seat)

module _ {L Q A : Type 0} (party : Q → ℕ) (history : List (Entry Q A)) (law : L) (made maker_seat : ℕ) (owner : ℕ → ℕ) (seat : ℕ) where
  -- what a pass with the number p knows
  pub record Standing (p : ℕ) (v : View L Q A) : Type 0 where
    pub law_is : v.law ≡ law ∷ []
    pub inside : p < made
    pub owned : owner p ≡ seat
    pub seen : IsPrefix v.seen history
    pub mine_seen : own party p v.seen ≡ v.mine
    pub mine : own party p history ≡ v.mine
    -- the numbers that were joined into it are its alone, none is its own, and none was joined twice
    pub joined : (i : ℕ) (j : Joined Q A) → get_elem? v.joined i ≡ some j → (j.number < made) × (owner j.number ≡ seat) × (own party j.number history ≡ j.mine) × (j.number ≢ p) × IsPrefix j.seen history
    pub once : (q : ℕ) → count_by (λ (j : Joined Q A). q == j.number) v.joined ≤ 1

  -- what the maker knows, who has dealt m passes
  pub record Making (m : ℕ) (v : View L Q A) : Type 0 where
    pub law_is : v.law ≡ law ∷ []
    pub made_is : m ≡ made
    pub seat_is : seat ≡ maker_seat
    pub idle : v.stage ≡ Idle

  -- what is known of a seat that was joined into another
  pub record Nobody (v : View L Q A) : Type 0 where
    pub idle : v.stage ≡ Idle

  -- the same by the role
  abbrev pub Fits : View L Q A → Role → Type 0
  Fits v (Maker m) = Making m v
  Fits v (Party p) = Standing p v
  Fits v Spent = Nobody v

-- the number is a party's own, or was joined into it
abbrev pub HasNumber : {L Q A : Type 0} → ℕ → View L Q A → Type 0
HasNumber {L} {Q} {A} p v = (q : ℕ) × (v.role ≡ Party q) × ((q ≡ p) ⊎ ((i : ℕ) × (j : Joined Q A) × (get_elem? v.joined i ≡ some j) × (j.number ≡ p)))

-- it was seen by a party, or by one that was joined into it
abbrev pub HasSeen : {L Q A : Type 0} → List (Entry Q A) → View L Q A → Type 0
HasSeen {L} {Q} {A} h v = (v.seen ≡ h) ⊎ ((i : ℕ) × (j : Joined Q A) × (get_elem? v.joined i ≡ some j) × (j.seen ≡ h))

-- the history is empty, or it is what some view has seen
abbrev pub IsLongest : {L Q A : Type 0} → List (Entry Q A) → List (View L Q A) → Type 0
IsLongest {L} {Q} {A} h views = (h ≡ []) ⊎ ((j : ℕ) × (v : View L Q A) × (get_elem? views j ≡ some v) × HasSeen h v)

-- the value is at home and stands for the history, and no view has it out
abbrev pub IsIn : {V L Q A : Type 0} → (V → L) → (V → List (Entry Q A) → Type 0) → L → List (Entry Q A) → List (maybe.Option (Option V)) → List (View L Q A) → Type 0
IsIn {V} {L} {Q} {A} law_of stands law h homes views = (x : V) × (homes ≡ some (Some x) ∷ []) × stands x h × (law_of x ≡ law)
    × ((j : ℕ) (v : View L Q A) → get_elem? views j ≡ some v → is_out v.stage ≡ false)

-- some view has it out
abbrev pub IsOut : {V L Q A : Type 0} → List (maybe.Option (Option V)) → List (View L Q A) → Type 0
IsOut {V} {L} {Q} {A} homes views = (homes ≡ none ∷ []) × ((j : ℕ) × (v : View L Q A) × (get_elem? views j ≡ some v) × (is_out v.stage ≡ true))

module _ {V L Q A : Type 0} (law_of : V → L) (party : Q → ℕ) (run : L → List (Entry Q A) → Type 0) (stands : V → List (Entry Q A) → Type 0) where
  -- the rule
  pub record Ruled (law : L) (n : ℕ) (s : State (Option V) (View L Q A)) : Type 0 where
    -- the entries so far, the tickets served and drawn, the passes dealt, and where the maker sits
    pub history : List (Entry Q A)
    pub served : ℕ
    pub drawn : ℕ
    pub made : ℕ
    pub maker_seat : ℕ
    -- the seat that has a ticket, and the seat that has a party's number
    pub holder : ℕ → ℕ
    pub owner : ℕ → ℕ
    -- the words
    pub wide : length s.words ≡ 3
    pub ticket_is : slice_index s.words 1 ≡ drawn % 2 ^ 64
    pub serving_is : slice_index s.words 2 ≡ served % 2 ^ 64
    -- the views with a ticket are as many as were drawn and not served
    pub tickets : drawn ≡ served + total tickets_in s.views
    -- each ticket that was served has an entry, and so has the one that is, once its view has added it
    pub entries : length history ≡ served + total entries_in s.views
    -- the numbers that the views stand for are all n
    pub few : made ≤ n
    pub weights : total (weight n) s.views ≡ n
    -- there is exactly one maker: this view is one, and by `Making` each maker sits in this seat
    pub maker : (v : View L Q A) × (get_elem? s.views maker_seat ≡ some v) × (v.role ≡ Maker made)
    pub runs : run law history
    pub longest : IsLongest history s.views
    -- a party whose pass was not dealt has no entry, and any other has a view
    pub others : (q : ℕ) → made ≤ q → own party q history ≡ []
    pub kept : (q : ℕ) → q < made → (v : View L Q A) × (get_elem? s.views (owner q) ≡ some v) × HasNumber q v
    pub each : (j : ℕ) (v : View L Q A) → get_elem? s.views j ≡ some v → Fits party history law made maker_seat owner j v v.role × Stays history served drawn holder j v.seen v.stage
    pub value : IsIn law_of stands law history s.homes s.views ⊎ IsOut s.homes s.views
