use Rattle.std.proofs.Common.{◌≡◌, ℕ, ◌<◌, List, [], ◌∷◌, length, map, get_or, Vec, refl, sym, ap, ◌∙◌, subst, arith, vec_len}
use Rattle.std.specs.List.{AllByRecursion, flat_map}
use Rattle.std.proofs.lemmas.List.{length-map}
use Rattle.counter.specs.Account.{Asking}
use Rattle.daemon_run.specs.Join.{HasSets, Ran}
use Rattle.daemon_run.specs.Join as run
use Rattle.desk_logs.specs.Ends.{AreEnds}
use Rattle.door_worker.specs.Visits.{AreSessions, Visit, acts_in}
use Rattle.feature_desk.specs.Sitters.{DeskView, Sitter, account_of, newcomer}
use Rattle.feature_desk.specs.Sittings.{AreLow}
use Rattle.feature_lines.specs.declared.pool.Pool.{Pool}
use Rattle.licence_office.specs.Offices.{AreDealt, IsDeskFor}
use Rattle.licence_office.specs.declared.closing.OfficeEnd.{OfficeEnd}
use Rattle.office_view.specs.View.{View}
use Rattle.options_machine.specs.Rules.{Rules}
use Rattle.options_machine.specs.Run.{IsRun}
use Rattle.options_machine.specs.declared.reply.Entry.{Entry}
use Rattle.options_text.specs.Options.{OptionsFile}
use Rattle.policy.specs.Pools.{rules_of}
use Rattle.session.specs.Acts.{askings}
use Rattle.session.specs.Pass.{Stands}
use Rattle.session.specs.Session.{setup_of}
use Rattle.session.specs.Table.{Setup}
use Rattle.licence_daemon.specs.Daemon.{AreHistories, IsHistory, setup_for}
use Rattle.licence_daemon.specs.Terms.{TermsRead}
use Rattle.stat_board.specs.Fronts.{the_first}

-- an office that was made for these terms and so many parties
pub record IsOpened {Z : Type 0} (terms : TermsRead) (parties : ℕ) (office : View DeskView) (passes : List (Vec Sitter Z)) : Type 0 where
  pub pools_are : office.pools ≡ terms.licence.pools
  pub sets_are : office.sets ≡ length terms.sets
  pub desks_are : (j : ℕ) (p : Pool) (d : DeskView) → j < length terms.licence.pools → IsDeskFor terms.sets parties (get_or terms.licence.pools j p) (get_or office.desks j d)
  pub paired : length office.desks ≡ length office.pools
  pub count : length passes ≡ parties
  pub dealt : AreDealt office.desks passes

-- what is known of an office that was made, and of its passes
pub opened : {Z Y : Type 0} (terms : TermsRead) (parties : ℕ) (office : View DeskView) (passes : Vec (Vec Sitter Z) Y) (sets : List OptionsFile) → sets ≡ terms.sets
    → office.pools ≡ terms.licence.pools → office.sets ≡ length sets
    → ((j : ℕ) (p : Pool) (d : DeskView) → j < length terms.licence.pools → IsDeskFor sets parties (get_or terms.licence.pools j p) (get_or office.desks j d))
    → length office.desks ≡ length office.pools → vec_len passes ≡ parties → AreDealt office.desks passes.items → IsOpened terms parties office passes.items
opened terms parties office passes sets e pools many desks paired count dealt = record {
  pools_are = pools;
  sets_are = many ∙ ap length e;
  desks_are = λ j p d lt. subst (λ (l : List OptionsFile). IsDeskFor l parties (get_or terms.licence.pools j p) (get_or office.desks j d)) e (desks j p d lt);
  paired = paired;
  count = sym passes.ok.0 ∙ count;
  dealt = dealt;
}

-- each of its desks has as many rule sets as it says
pub has_sets : {Z : Type 0} (terms : TermsRead) (parties : ℕ) (office : View DeskView) (passes : List (Vec Sitter Z)) → IsOpened terms parties office passes → HasSets office
has_sets terms parties office passes o = λ j d lt.
    let within : j < length terms.licence.pools = subst (λ (l : List Pool). j < length l) o.pools_are lt in
    let pool : Pool = the_first terms.licence.pools (omega arith) in
    ap length (o.desks_are j pool d within).rules ∙ (length-map terms.sets (rules_of (get_or terms.licence.pools j pool)) ∙ sym o.sets_are)

-- the number of a party at each of its desks
own_numbers : (p : ℕ) (desks : List DeskView) (pools : List Pool) → length desks ≡ length pools
    → map (λ (s : Sitter). (account_of s).party) (map (λ (d : DeskView). newcomer d p) desks) ≡ map (λ (pool : Pool). p) pools
own_numbers p [] [] e = refl
own_numbers p [] (x ∷ pools) e = absurd (omega arith)
own_numbers p (d ∷ desks) [] e = absurd (omega arith)
own_numbers p (d ∷ desks) (x ∷ pools) e = ap (λ (l : List ℕ). p ∷ l) (own_numbers p desks pools (omega arith))

-- what the sessions of a party stand on
same_setup : {Z : Type 0} (terms : TermsRead) (parties : ℕ) (office : View DeskView) (passes : List (Vec Sitter Z)) (p : ℕ) (v : Vec Sitter Z) → IsOpened terms parties office passes → p < length passes
    → setup_of account_of office (get_or passes p v).items ≡ setup_for terms p
same_setup {Z} terms parties office passes p v o lt =
    let numbers : map (λ (s : Sitter). (account_of s).party) (get_or passes p v).items ≡ map (λ (pool : Pool). p) terms.licence.pools =
    ap (λ (l : List Sitter). map (λ (s : Sitter). (account_of s).party) l) (o.dealt p v lt) ∙ own_numbers p office.desks terms.licence.pools (o.paired ∙ ap length o.pools_are) in
    ap (λ (l : List Pool). record { pools = l; sets = office.sets; parties = map (λ (s : Sitter). (account_of s).party) (get_or passes p v).items }) o.pools_are
    ∙ (ap (λ (n : ℕ). record { pools = terms.licence.pools; sets = n; parties = map (λ (s : Sitter). (account_of s).party) (get_or passes p v).items }) o.sets_are
    ∙ ap (λ (l : List ℕ). record { pools = terms.licence.pools; sets = length terms.sets; parties = l }) numbers)

-- a history of a desk is one of its rule sets and its number of seats
pub same_history : (sets : List Rules) (width j : ℕ) (desk : DeskView) (sessions : List (List Visit)) (history : List Entry) → desk.lock.law.sets ≡ sets → desk.seats.net.width ≡ width
    → run.IsHistory desk j sessions history → IsHistory sets width j sessions history
same_history sets width j desk sessions history s w h = record {
  run = subst (λ (r : List Rules). IsRun r history) s h.run;
  own_is = h.own_is;
  stands = λ p lt. subst (λ (r : List Rules). AllByRecursion (Stands r p history) (askings j (acts_in (get_or sessions p [])))) s (h.stands p lt);
  seats_are = λ p lt. subst (λ (n : ℕ). AreLow n (flat_map (λ (a : Asking). a.seats) (askings j (acts_in (get_or sessions p []))))) w (h.seats_are p lt);
  others = h.others;
}

-- what a run tells, by its terms
pub ran_under : {Z : Type 0} (terms : TermsRead) (parties : ℕ) (office : View DeskView) (passes : List (Vec Sitter Z)) (kept : List (List Visit) → Type 0) (rings0 rings1 : ℕ) (end : OfficeEnd) → 0 < parties
    → IsOpened terms parties office passes → (r : Ran office passes kept rings0 rings1 end) → AreHistories terms parties kept rings0 rings1 r.histories
ran_under {Z} terms parties office passes kept rings0 rings1 end some o r = record {
  sessions = r.sessions;
  parties_are = r.parties_are ∙ o.count;
  served = λ p lt.
      let within : p < length passes = omega (arith, o.count) in
      let v : Vec Sitter Z = the_first passes (omega (arith, o.count)) in
      subst (λ (s : Setup). AreSessions s (get_or r.sessions p [])) (same_setup terms parties office passes p v o within) (r.served p v (omega (arith, o.count, r.parties_are)));
  told = r.told;
  pools_are = r.desks_are ∙ (o.paired ∙ ap length o.pools_are);
  joined = λ j pool lt.
      let long : length office.desks ≡ length terms.licence.pools = o.paired ∙ ap length o.pools_are in
      let d : DeskView = the_first office.desks (omega (arith, long)) in
      let is = o.desks_are j pool d lt in
      same_history _ _ j (get_or office.desks j d) r.sessions (get_or r.histories j []) is.rules is.seats_are (r.joined j d (omega (arith, long)));
  rung = r.rung;
}

-- its logs and tallies are those of its histories
pub ends_of : {Z : Type 0} (office : View DeskView) (passes : List (Vec Sitter Z)) (kept : List (List Visit) → Type 0) (rings0 rings1 : ℕ) (end : OfficeEnd)
    → (r : Ran office passes kept rings0 rings1 end) → AreEnds end.logs.items end.tallies.items r.histories
ends_of office passes kept rings0 rings1 end r = record {
  logs_are = sym end.logs.ok.0 ∙ (r.logs_are ∙ sym r.desks_are);
  tallies_are = sym end.tallies.ok.0 ∙ (r.tallies_are ∙ sym r.desks_are);
  each = λ j l t lt.
      let within : j < length office.desks = omega (arith, r.desks_are) in
      let tally = r.tallied j t within in
      record { log_is = r.logged j l within; calls_is = tally.calls_is; grants_is = tally.grants_is; uses_are = tally.uses_are };
}
