-- What a lock and its passes are to whoever has them.
use Rattle.std.specs.Prelude.{◌≡◌, ◌≢◌, ℕ, ◌%◌, ◌^◌, ◌<◌, ◌≤◌, ◌==◌, List, [], length, count_by, sum_by, All, Contains}
use Rattle.atomic_table.specs.Seated.{TableId}
use Rattle.turn_lock.specs.declared.kept.Entry.{Entry}
use Rattle.turn_lock.specs.Entries.{own, IsPrefix}
use Rattle.turn_lock.specs.declared.table.TheConstants.{PASS_LIMIT}

-- Which lock it is: what no other lock shares with it, and how many passes it has
pub record LockId : Type 0 where
  pub table : TableId
  pub parties : ℕ

-- `id` tells one lock from another, and the law is the value's
pub record Lock (L : Type 0) : Type 0 where
  pub id : LockId
  pub law : L

-- of which lock, for which party, under which law; the history as it was seen last, and the party's own part of it
pub record Pass (L Q A : Type 0) : Type 0 where
  pub lock : LockId
  pub number : ℕ
  pub law : L
  pub seen : List (Entry Q A)
  pub mine : List (Entry Q A)

-- the table of a lock, whose rule was told how many passes there are
pub record IsSetUp (id : TableId) (told parties : ℕ) : Type 0 where
  pub words : id.words ≡ 3
  pub slots : id.slots ≡ 1
  pub told_is : told ≡ parties
  pub some : 1 ≤ parties
  pub few : parties ≤ PASS_LIMIT

-- a pass that was never used
abbrev pub unused_lock_pass : {L Q A : Type 0} → Lock L → ℕ → Pass L Q A
unused_lock_pass k p = record { lock = k.id; number = p; law = k.law; seen = []; mine = [] }

-- what is known of the value and of the count when a lock was closed with all its passes
pub record Closes {V L Q A : Type 0} (party : Q → ℕ) (run : L → List (Entry Q A) → Type 0) (stands : V → List (Entry Q A) → Type 0)
    (l : L) (passes : List (Pass L Q A)) (x : V) (count : ℕ) : Type 0 where
  pub history : List (Entry Q A)
  pub stood : stands x history
  pub runs : run l history
  pub count_is : count ≡ length history % 2 ^ 64
  pub seen : All (λ p. IsPrefix p.seen history) passes
  pub mine : All (λ p. own party p.number history ≡ p.mine) passes
  -- the passes' numbers are those below n, each once
  pub low : All (λ p. p.number < length passes) passes
  pub apart : (q : ℕ) → count_by (λ (p : Pass L Q A). q == p.number) passes ≤ 1
  -- the entries of a party are those of its pass, and there are no others
  pub each : (q : ℕ) → q < length passes → (p : Pass L Q A) × Contains passes p × (p.number ≡ q) × (own party q history ≡ p.mine)
  pub others : (q : ℕ) → All (λ p. p.number ≢ q) passes → own party q history ≡ []
  -- so, whatever an entry counts for, the passes' own entries count for what the history does
  pub sums : (f : Entry Q A → ℕ) → sum_by (λ (p : Pass L Q A). sum_by f p.mine) passes ≡ sum_by f history
