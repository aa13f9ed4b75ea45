-- The views of a seat, and what each step tells.
use Rattle.std.specs.Prelude.{◌≡◌, ◌≢◌, ℕ, ◌+◌, ◌%◌, ◌^◌, ◌<◌, List, [], ◌∷◌, ◌++◌, map, length, Option, Some}
use Rattle.std.proofs.Math.Nat.{lt_irrefl}
use Rattle.atomic_table.specs.Table.{Me, Step}
use Rattle.turn_lock.specs.declared.kept.Entry.{Entry}
use Rattle.pass_roles.specs.declared.role.Role.TheVariants.{Maker, Party, Spent}
use Rattle.turn_lock.specs.declared.view.Stage.{Stage}
use Rattle.turn_lock.specs.declared.view.Stage.TheVariants.{Idle, Waiting, Turn, Out, Counted, Home}
use Rattle.turn_lock.specs.declared.view.Joined.{Joined}
use Rattle.turn_lock.specs.declared.view.View.{View}
use Rattle.turn_lock.specs.Entries.{own, IsPrefix}
use Rattle.turn_lock.specs.Passes.{LockId, Pass}
use Rattle.pass_roles.specs.Roles.{made_of, number_of}

-- the first of a list that is not empty
abbrev pub the_first : {X : Type 0} → (xs : List X) → 0 < length xs → X
the_first [] some = absurd (lt_irrefl 0 some)
the_first (x ∷ xs) some = x

module _ {L Q A : Type 0} where
  -- the maker's view, once so many passes were made
  abbrev pub maker : L → ℕ → View L Q A
  maker l m = record { law = l ∷ []; role = Maker m; stage = Idle; seen = []; mine = []; joined = [] }

  abbrev pub spent_view : View L Q A
  spent_view = record { law = []; role = Spent; stage = Idle; seen = []; mine = []; joined = [] }

  -- what a badge knows, or nothing
  abbrev pub knows : List (View L Q A) → View L Q A
  knows [] = spent_view
  knows (v ∷ vs) = v

  -- a split leaves the maker with this
  abbrev pub dealt_view : View L Q A → View L Q A
  dealt_view v = record v { role = Maker (made_of v.role + 1) }

  -- and the new seat with this
  abbrev pub newcomer : View L Q A → View L Q A
  newcomer v = record { law = v.law; role = Party (made_of v.role); stage = Idle; seen = []; mine = []; joined = [] }

  abbrev pub joined_of : View L Q A → Joined Q A
  joined_of w = record { number = number_of w.role; seen = w.seen; mine = w.mine }

  -- a join keeps what the other had seen, and what was its own
  abbrev pub both : View L Q A → View L Q A → View L Q A
  both v w = record v { joined = joined_of w ∷ (w.joined ++ v.joined) }

  -- the view of a pass at a stage of its turn
  abbrev pub seated_view : Pass L Q A → Stage → View L Q A
  seated_view p st = record { law = p.law ∷ []; role = Party p.number; stage = st; seen = p.seen; mine = p.mine; joined = [] }

  -- the pass, once it has seen this history
  abbrev pub pass_with_seen : Pass L Q A → List (Entry Q A) → Pass L Q A
  pass_with_seen p h = record p { seen = h }

  -- the pass, once these entries were counted as its own
  abbrev pub longer : Pass L Q A → List (Entry Q A) → Pass L Q A
  longer p es = record p { seen = p.seen ++ es; mine = p.mine ++ es }

  -- the pass that has this number and this badge
  abbrev pub pass_at : LockId → ℕ → (views : List (View L Q A)) → 0 < length (knows views).law → Pass L Q A
  pass_at lock number views lawful = record { lock = lock; number = number; law = the_first (knows views).law lawful; seen = (knows views).seen; mine = (knows views).mine }

  -- the badge is that of a seat with no ticket
  abbrev pub RestsAs : Pass L Q A → List (View L Q A) → Type 0
  RestsAs p views = views ≡ seated_view p Idle ∷ []

module _ {S L Q A : Type 0} where
  -- the seat has no ticket, and nothing of the table is out with it
  abbrev pub IsAtRest : Pass L Q A → Me S (View L Q A) → Type 0
  IsAtRest p m = m ≡ (seated_view p Idle, [])

  -- the passes were joined into the last of them
  abbrev pub IsGathered : List (Pass L Q A) → Me S (View L Q A) → Type 0
  IsGathered passes m = (first : Pass L Q A) × (done : List (Pass L Q A)) × (passes ≡ done ++ first ∷ [])
      × (m ≡ (record (seated_view first Idle) { joined = map (λ p. joined_of (seated_view p Idle)) done }, []))

  -- a ticket was drawn
  abbrev pub drew : Step S → Me S (View L Q A) → ℕ → Me S (View L Q A) → Type 0
  drew st m n m' = (p : Pass L Q A) → m ≡ (seated_view p Idle, [])
      → (t : ℕ) × (n ≡ t % 2 ^ 64) × (m' ≡ (seated_view p (Waiting t), []))

  -- the ticket was drawn where it was the next one, and else nothing has changed
  abbrev pub claims_ticket : Step S → Me S (View L Q A) → ℕ → Me S (View L Q A) → Type 0
  claims_ticket st m n m' = (p : Pass L Q A) → m ≡ (seated_view p Idle, [])
      → (n ≡ st.first → (t : ℕ) × (n ≡ t % 2 ^ 64) × (m' ≡ (seated_view p (Waiting t), []))) × (n ≢ st.first → m' ≡ m)

  -- the turn has come where the serving word is the ticket's
  abbrev pub watches_turn : Step S → Me S (View L Q A) → ℕ → Me S (View L Q A) → Type 0
  watches_turn st m n m' = (p : Pass L Q A) (t : ℕ) → m ≡ (seated_view p (Waiting t), [])
      → (n ≡ t % 2 ^ 64 → m' ≡ (seated_view p (Turn t), [])) × (n ≢ t % 2 ^ 64 → m' ≡ m)

  -- the entry is in the history, and the number found is that of the entries before it
  abbrev pub extends_history : List (Entry Q A) → Step S → Me S (View L Q A) → ℕ → Me S (View L Q A) → Type 0
  extends_history es st m n m' = (p : Pass L Q A) (t : ℕ) (c : List (ℕ × S)) → m ≡ (seated_view p (Out t), c)
      → (m' ≡ (seated_view (longer p es) (Counted t), c)) × (n ≡ length p.seen % 2 ^ 64)

  -- the value is at home again
  abbrev pub gave : Step S → Me S (View L Q A) → ℕ → Me S (View L Q A) → Type 0
  gave st m n m' = (p : Pass L Q A) (t : ℕ) (x : S) → m ≡ (seated_view p (Counted t), (0, x) ∷ [])
      → m' ≡ (seated_view p (Home t), [])

  -- the turn was handed on
  abbrev pub hands_on_turn : Step S → Me S (View L Q A) → ℕ → Me S (View L Q A) → Type 0
  hands_on_turn st m n m' = (p : Pass L Q A) (t : ℕ) → m ≡ (seated_view p (Home t), [])
      → m' ≡ (seated_view p Idle, [])

module _ {V L Q A : Type 0} (law_of : V → L) (party : Q → ℕ) (run : L → List (Entry Q A) → Type 0) (stands : V → List (Entry Q A) → Type 0) where
  -- the value x stands for h, a run that goes on from what the pass had seen
  abbrev pub StandsFor : V → List (Entry Q A) → Pass L Q A → Type 0
  StandsFor x h p = stands x h × run p.law h × (law_of x ≡ p.law) × IsPrefix p.seen h × (own party p.number h ≡ p.mine)

  -- the value was taken, and for which list it stands is known
  abbrev pub took : Step (Option V) → Me (Option V) (View L Q A) → ℕ → Me (Option V) (View L Q A) → Type 0
  took st m n m' = (p : Pass L Q A) (t : ℕ) → m ≡ (seated_view p (Turn t), [])
      → (x : V) × (h : List (Entry Q A)) × (m' ≡ (seated_view (pass_with_seen p h) (Out t), (0, Some x) ∷ [])) × StandsFor x h p

module _ {V L Q A : Type 0} (law_of : V → L) (run : L → List (Entry Q A) → Type 0) (used : L → List (Entry Q A) → ℕ → ℕ) (stands : V → List (Entry Q A) → Type 0) where
  -- the value x became y by a step that was handed this moment and made this entry
  pub record StepsBy (x y : V) (handed : ℕ) (e : Entry Q A) : Type 0 where
    pub law : law_of y ≡ law_of x
    pub stood : (h : List (Entry Q A)) → stands x h → run (law_of x) h → stands y (h ++ e ∷ [])
    pub runs : (h : List (Entry Q A)) → stands x h → run (law_of x) h → run (law_of x) (h ++ e ∷ [])
    pub moment : (h : List (Entry Q A)) → stands x h → run (law_of x) h → e.used ≡ used (law_of x) h handed
