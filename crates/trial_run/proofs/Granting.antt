-- What the history of a trial grants.
use Rattle.std.proofs.Common.{◌≡◌, ◌∙◌, ℕ, ◌*◌, ◌%◌, ◌<◌, ◌≤◌, ◌^◌, List, [], ◌∷◌, length, get_or, ap, sym, subst, arith}
use Rattle.std.proofs.Math.Nat.{mod-eq_of_lt, mul-le-mul_right}
use Rattle.std.proofs.lemmas.List.{length-map}
use Rattle.counter.specs.Account.{grants}
use Rattle.door_worker.specs.Visits.{Visit}
use Rattle.feature_desk.specs.Sitters.{DeskView}
use Rattle.licence_office.specs.Offices.{IsDeskFor}
use Rattle.options_machine.specs.Own.{own}
use Rattle.options_machine.specs.Run.{IsRun}
use Rattle.session.specs.Acts.{entries}
use Rattle.stat_board.specs.Fronts.{the_first}
use Rattle.trial_rounds.proofs.Rounds.{granted_each}
use Rattle.trial_rounds.proofs.Sums.{grants_product}
use Rattle.trial_rounds.specs.Rounds.{trial_sets, trial_setup}
use Rattle.trial_terms.specs.Terms.{no_options, trial_pool}
use Rattle.trial_run.proofs.Trying.{alone_acts}
use Rattle.trial_run.specs.Held.{Held}
use Rattle.trial_run.specs.Tried.{Tried, each_alone}
use Rattle.trial_run.specs.declared.player.Trial.{Trial}

module _ (desk : DeskView) (seats clients rounds : ℕ) (kept : List Visit → Type 0) (trial : Trial) (is : IsDeskFor (no_options ∷ []) clients (trial_pool seats) desk) (few : seats < 2 ^ 32) (many : clients ≤ 256) (any : 0 < rounds) (short : rounds ≤ 10000)
    (t : Held desk (trial_setup seats) clients rounds kept trial) where
  long : length (each_alone t.sessions) ≡ clients
  long = length-map t.sessions (λ (v : Visit). v ∷ []) ∙ t.clients_are

  run : IsRun (trial_sets seats) t.history
  run = subst (λ sets. IsRun sets t.history) is.rules t.joined.run

  -- each client was granted a seat once in each of its rounds
  each : (p : ℕ) → p < clients → grants (own t.history p) ≡ rounds
  each p l =
      let v = the_first t.sessions (omega (arith, t.clients_are, l)) in
      let q = t.played p v l in
      let s = get_or t.sessions p v in
      let mine : own t.history p ≡ entries 0 s.acts = t.joined.own_is p (subst (λ n. p < n) (sym long) l) ∙ ap (entries 0) (alone_acts t.sessions p v (subst (λ n. p < n) (sym t.clients_are) l)) in
      granted_each seats few p rounds (omega arith) t.history run s.acts s.end any mine q.is_session.session q.talk

  product : grants t.history ≡ clients * rounds
  product = grants_product t.history clients rounds each (λ p l. t.joined.others p (subst (λ n. n ≤ p) (sym long) l))

  small : clients * rounds < 2 ^ 64
  small = omega (arith, mul-le-mul_right rounds many, short)

  granted : trial.grants ≡ clients * rounds
  granted = t.grants_are ∙ ap (λ n. n % 2 ^ 64) product ∙ mod-eq_of_lt small

  -- so it is whole
  pub tried : Tried desk seats clients rounds kept trial
  tried = record {
    sessions = t.sessions;
    history = t.history;
    clients_are = t.clients_are;
    played = t.played;
    keeps = t.keeps;
    joined = t.joined;
    granted = product;
    grants_are = granted;
    uses_are = t.uses_are ∙ granted;
  }
