-- Posts at which nothing came.
use Rattle.std.proofs.Common.{◌≡◌, ℕ, suc, ◌+◌, List, [], ◌∷◌, length, get_or, sym, subst, ◌∙◌, arith}
use Rattle.session_outside.specs.Talk.{Event}
use Rattle.daemon_run.specs.Gives.{AreKept, AreStarted, IsStarted, kept_from, no_sessions}
use Rattle.daemon_run.specs.declared.worker.Worker.{Worker}

-- of posts that were never used a site keeps that there was no session
pub all_unused : {P D K B G : Type 0} (talks : D → List (List Event) → Type 0) (gave : K → List ℕ → Type 0) (faults quiets fails lent : D → ℕ) (tolls rings : B → ℕ) (base : ℕ) (ws : List (Worker P D K B G))
    → AreStarted talks gave faults quiets fails lent tolls rings base ws → AreKept talks gave ws (kept_from base (no_sessions (length ws)))
all_unused talks gave faults quiets fails lent tolls rings base [] started = tt
all_unused {P = P} {D = D} {K = K} {B = B} {G = G} talks gave faults quiets fails lent tolls rings base (w ∷ ws) started =
    let first = started 0 w (omega arith) in
    let same : base + 0 ≡ base = omega arith in (
      record { number_is = sym (first.number_is ∙ same); talks_are = first.unused.no_talks; moments_are = first.unused.no_moments },
      all_unused talks gave faults quiets fails lent tolls rings (suc base) ws (λ i d below.
          let next : base + suc i ≡ suc base + i = omega arith in
          subst (λ (n : ℕ). IsStarted {P = P} {D = D} {K = K} {B = B} {G = G} talks gave faults quiets fails lent tolls rings n (get_or ws i d)) next (started (suc i) d (omega (arith, below)))),
    )
