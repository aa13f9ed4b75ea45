-- Asking several desks, one after another.
use Rattle.std.specs.Prelude.{◌≡◌, ℕ, ◌<◌, ◌≤◌, Bool, List, [], length, get_or, Option, Some, None}
use Rattle.counter.specs.Account.{Account}
use Rattle.lic_types.specs.declared.client.Client.{Client}
use Rattle.options_machine.specs.Own.{holds, queues}
use Rattle.options_machine.specs.declared.reply.Kind.{Kind}
use Rattle.options_machine.specs.declared.reply.Kind.TheVariants.{Quit}
use Rattle.session_outside.specs.Talk.{Follows}
use Rattle.session.specs.Acts.{Act, askings, moments_of}
use Rattle.session.specs.Did.{IsSilent}
use Rattle.session.specs.Pass.{Gains, IsIdle}
use Rattle.session.specs.Table.{AsksEach, Setup, desks, is_meant}
use Rattle.session.specs.declared.asked.Whom.{Whom}
use Rattle.session.specs.declared.asked.Whom.TheVariants.{Keeping}

-- whether a counter is meant
abbrev pub is_meant_at : Whom → Account → Bool
is_meant_at whom a = is_meant whom (holds a.mine a.party) (queues a.mine a.party)

-- after a Quit the counter there is idle, and the others are as before
abbrev pub IsLeftIdle : {C : Type 0} → (C → Account) → Kind → ℕ → List C → List C → Type 0
IsLeftIdle account what i old new = what ≡ Quit → (j : ℕ) (c : _) → j < length old → (j ≡ i → IsIdle (account (get_or new j c))) × ((j ≡ i → ⊥) → get_or new j c ≡ get_or old j c)

-- where those that keep a place were asked to quit, the first n counters are idle
abbrev pub LeavesIdle : {C : Type 0} → (C → Account) → Whom → Kind → List C → ℕ → Type 0
LeavesIdle account whom what cs n = whom ≡ Keeping → what ≡ Quit → (j : ℕ) (c : _) → j < n → IsIdle (account (get_or cs j c))

-- the same of all counters, where there was a client
abbrev pub LeavesIdleWhere : {C : Type 0} → (C → Account) → Whom → Kind → Option Client → List C → Type 0
LeavesIdleWhere account whom what None cs = Unit {0}
LeavesIdleWhere account whom what (Some client) cs = LeavesIdle account whom what cs (length cs)

-- desks were asked, and nothing else was done
pub record AsksOnly {C K : Type 0} (account : C → Account) (gave : K → List ℕ → Type 0) (pass0 pass1 : List C) (clock0 clock1 : K) (new : List Act) : Type 0 where
  pub pass : Gains account new pass0 pass1
  pub clock : Follows gave clock0 clock1 (moments_of new)
  pub silent : IsSilent new

-- those of the first n desks that are meant were asked, in order, and nothing else was done
pub record AsksUpTo {C K : Type 0} (account : C → Account) (gave : K → List ℕ → Type 0) (o : Setup) (client : Client) (whom : Whom) (what : Kind) (before : List Act) (n : ℕ) (pass0 pass1 : List C) (clock0 clock1 : K) (new : List Act) : Type 0 where
  pub only : AsksOnly account gave pass0 pass1 clock0 clock1 new
  pub each : AsksEach client what (desks whom o before n) new
  pub later : (k : ℕ) → n ≤ k → askings k new ≡ []
