use Rattle.std.proofs.Common.{List, ap, map, subst, sym, ◌∙◌}
use Rattle.std.specs.List.{AllByRecursion}
use Rattle.options_machine.specs.Rules.{Rules}
use Rattle.log_audit.specs.Audit.{IsFirstBad, IsRunLog}
use Rattle.log_audit.specs.Audited.{sets_of}
use Rattle.log_audit.specs.Kept.{HasLawfulSets}
use Rattle.log_audit.specs.Usage.{usage}
use Rattle.log_audit.proofs.Openings.{sets_are, stand_first}
use Rattle.log_audit.proofs.auditing.audit_entries.Goals as goal

pub judge_all-requires-clause-opening : goal.judge_all-requires-clause-opening
judge_all-requires-clause-opening c =
    stand_first c.args.options.now c.pools.result.now c.as_mut_slice-desks.result.now c.requires.some (rw c.pools.ensures.pools c.pools.ensures.counts)
    (c.as_mut_slice-desks.ensures.value ∙ c.in_ok-made.ensures.desks) (subst (AllByRecursion HasLawfulSets) (sym c.as_mut_slice-desks.ensures.value) c.in_ok-made.ensures.lawful)

pub returns-in-Some : goal.returns-in-Some
returns-in-Some c =
    let pools = c.pools.ensures.pools in
    let sets = sets_are c.args.options.now c.pools.result.now c.as_mut_slice-desks.result.now (c.as_mut_slice-desks.ensures.value ∙ c.in_ok-made.ensures.desks) ∙ ap (map (sets_of c.args.options.now)) pools in
    let shown = rw c.in-Some.is at c.in_ok-no.ensures in
    subst (λ (ps : List (List Rules)). IsFirstBad ps c.args.log.now c.in-Some.no.line c.in-Some.no.expected.place c.in-Some.no.expected.moment c.in-Some.no.expected.reply) sets shown

pub returns : goal.returns
returns c =
    let pools = c.pools.ensures.pools in
    let sets = sets_are c.args.options.now c.pools.result.now c.as_mut_slice-desks.result.now (c.as_mut_slice-desks.ensures.value ∙ c.in_ok-made.ensures.desks) ∙ ap (map (sets_of c.args.options.now)) pools in
    let shown = rw c.in-None.is at c.in_ok-no.ensures in
    let sums = c.in_ok-sum_up-in-None.ensures in
    (subst (λ (ps : List (List Rules)). IsRunLog ps c.args.log.now) sets shown.0, record { counted = sums.entries; granted = sums.users; used = sums.days ∙ (shown.1 ∙ ap (λ (ps : List (List Rules)). usage ps c.args.log.now) sets) })
