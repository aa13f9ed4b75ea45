-- How far a text is that is gathered before it is written.
use Rattle.std.specs.Prelude.{◌≡◌, ℕ, ◌≤◌, List, ◌++◌, Option, Vec, vec_capacity, Result, Ok, OnErr, OnOk}
use Rattle.std.specs.declared.alloc.Global.{Global}
use Rattle.outside.specs.Told.{HasRisen, TakesPrefix, held_after}
use Rattle.outside.specs.declared.sink.WriteFailed.{WriteFailed}

-- a prefix of this text was written, and the rest of it is gathered
pub record IsGathered (old now : Option (List ℕ)) (gathered text : List ℕ) : Type 0 where
  pub done : List ℕ
  pub written : now ≡ held_after old done
  pub all : done ++ gathered ≡ text

-- how it ended that a text was put behind what was gathered, of which both together are this whole: a prefix of the whole was written, and the rest of it is gathered; or a write failed, took a prefix of the whole, and the sink's count of faults rose. That stands still in every other case, and never falls; the room for what is gathered stays
pub record Gathers {S : Type 0} (held : S → Option (List ℕ)) (faults : S → ℕ) (old new : S) (before after : Vec ℕ Global) (whole : List ℕ) (result : Result (Unit {0}) WriteFailed) : Type 0 where
  pub ok : OnOk result (IsGathered (held old) (held new) after.items whole)
  pub err : OnErr result (TakesPrefix (held old) (held new) whole)
  pub failed : OnErr result (HasRisen (faults old) (faults new))
  pub steady : OnOk result (faults new ≡ faults old)
  pub later : faults old ≤ faults new
  pub room : vec_capacity after ≡ vec_capacity before

-- of a whole text, which comes behind what was gathered at first, this is left to be gathered, and no write failed
pub record IsUnderWay {S : Type 0} (held : S → Option (List ℕ)) (faults : S → ℕ) (old now : S) (before after : Vec ℕ Global) (left whole : List ℕ) : Type 0 where
  pub done : List ℕ
  pub taken : Gathers held faults old now before after (before.items ++ done) (Ok tt)
  pub all : done ++ left ≡ whole
