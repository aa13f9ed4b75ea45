-- A seat's stage stays right while another steps.
use Rattle.std.proofs.Common.{◌≡◌, ◌≢◌, ℕ, ◌+◌, ◌≤◌, true, List, sym, ap, ◌∙◌, arith}
use Rattle.turn_lock.specs.declared.view.Stage.{Stage}
use Rattle.turn_lock.specs.declared.view.Stage.TheVariants.{Idle, Waiting, Turn, Out, Counted, Home}
use Rattle.turn_lock.specs.Rule.{has_entry, is_out, Stays}
use Rattle.turn_lock.proofs.Owners.{put, put_else}

module _ {E : Type 0} where
  -- a ticket more is drawn
  pub stays_drawn : (history : List E) (served drawn : ℕ) (holder : ℕ → ℕ) (me seat : ℕ) (seen : List E) (st : Stage)
      → Stays history served drawn holder seat seen st → Stays history served (drawn + 1) (put holder drawn me) seat seen st
  stays_drawn history served drawn holder me seat seen Idle k = tt
  stays_drawn history served drawn holder me seat seen (Waiting t) k = (k.0, omega arith, put_else holder drawn me t (λ e. omega arith) ∙ k.2)
  stays_drawn history served drawn holder me seat seen (Turn t) k = (k.0, omega arith, put_else holder drawn me t (λ e. omega arith) ∙ k.2)
  stays_drawn history served drawn holder me seat seen (Out t) k = (k.0, omega arith, put_else holder drawn me t (λ e. omega arith) ∙ k.2, k.3)
  stays_drawn history served drawn holder me seat seen (Counted t) k = (k.0, omega arith, put_else holder drawn me t (λ e. omega arith) ∙ k.2, k.3)
  stays_drawn history served drawn holder me seat seen (Home t) k = (k.0, omega arith, put_else holder drawn me t (λ e. omega arith) ∙ k.2)

  -- the ticket that is served is another seat's: it only waits
  pub stays_passed : (history history' : List E) (served drawn : ℕ) (holder : ℕ → ℕ) (me seat : ℕ) (seen : List E) (st : Stage) → holder served ≡ me → seat ≢ me
      → Stays history served drawn holder seat seen st → Stays history' (served + 1) drawn holder seat seen st
  stays_passed history history' served drawn holder me seat seen Idle his other k = tt
  stays_passed history history' served drawn holder me seat seen (Waiting t) his other k = let n : t ≢ served = λ e. other (sym k.2 ∙ (ap holder e ∙ his)) in (omega arith, k.1, k.2)
  stays_passed history history' served drawn holder me seat seen (Turn t) his other k = absurd (other (sym k.2 ∙ (ap holder k.0 ∙ his)))
  stays_passed history history' served drawn holder me seat seen (Out t) his other k = absurd (other (sym k.2 ∙ (ap holder k.0 ∙ his)))
  stays_passed history history' served drawn holder me seat seen (Counted t) his other k = absurd (other (sym k.2 ∙ (ap holder k.0 ∙ his)))
  stays_passed history history' served drawn holder me seat seen (Home t) his other k = absurd (other (sym k.2 ∙ (ap holder k.0 ∙ his)))

  -- the same where the history grows
  pub stays_longer : (history history' : List E) (served drawn : ℕ) (holder : ℕ → ℕ) (me seat : ℕ) (seen : List E) (st : Stage) → holder served ≡ me → seat ≢ me
      → Stays history served drawn holder seat seen st → Stays history' served drawn holder seat seen st
  stays_longer history history' served drawn holder me seat seen Idle his other k = tt
  stays_longer history history' served drawn holder me seat seen (Waiting t) his other k = k
  stays_longer history history' served drawn holder me seat seen (Turn t) his other k = k
  stays_longer history history' served drawn holder me seat seen (Out t) his other k = absurd (other (sym k.2 ∙ (ap holder k.0 ∙ his)))
  stays_longer history history' served drawn holder me seat seen (Counted t) his other k = absurd (other (sym k.2 ∙ (ap holder k.0 ∙ his)))
  stays_longer history history' served drawn holder me seat seen (Home t) his other k = k

  -- who has the value out has the turn
  pub out_has : (history : List E) (served drawn : ℕ) (holder : ℕ → ℕ) (seat : ℕ) (seen : List E) (st : Stage) → is_out st ≡ true → Stays history served drawn holder seat seen st → holder served ≡ seat
  out_has history served drawn holder seat seen Idle o k = cc
  out_has history served drawn holder seat seen (Waiting t) o k = cc
  out_has history served drawn holder seat seen (Turn t) o k = cc
  out_has history served drawn holder seat seen (Out t) o k = ap holder (sym k.0) ∙ k.2
  out_has history served drawn holder seat seen (Counted t) o k = ap holder (sym k.0) ∙ k.2
  out_has history served drawn holder seat seen (Home t) o k = cc

  -- and so has who has an entry whose ticket is served
  pub entry_has : (history : List E) (served drawn : ℕ) (holder : ℕ → ℕ) (seat : ℕ) (seen : List E) (st : Stage) → 1 ≤ has_entry st → Stays history served drawn holder seat seen st → holder served ≡ seat
  entry_has history served drawn holder seat seen Idle o k = absurd (omega arith)
  entry_has history served drawn holder seat seen (Waiting t) o k = absurd (omega arith)
  entry_has history served drawn holder seat seen (Turn t) o k = absurd (omega arith)
  entry_has history served drawn holder seat seen (Out t) o k = absurd (omega arith)
  entry_has history served drawn holder seat seen (Counted t) o k = ap holder (sym k.0) ∙ k.2
  entry_has history served drawn holder seat seen (Home t) o k = ap holder (sym k.0) ∙ k.2
