use Rattle.std.proofs.Common.{length, map, refl, string_bytes}
use Rattle.std.proofs.lemmas.Result.{err_from_is_err_and}
use Rattle.log_audit.specs.Audited.{sets_of}
use Rattle.outside.specs.Told.{HasRisen}
use Rattle.licence_tool.specs.Outcome.{Verdict}
use Rattle.licence_tool.proofs.Asking.{join, stop, wrote}
use Rattle.licence_tool.proofs.Readings.{accepted, begins, refused, several}
use Rattle.licence_tool.proofs.Runs.{audit_done, audit_hears}
use Rattle.licence_tool.proofs.perform.audit.Goals as goal

pub returns-in_err-licence-clause-says : goal.returns-in_err-licence-clause-says
returns-in_err-licence-clause-says g c =
    let p = err_from_is_err_and c.from_residual.result c.from_residual.ensures.1 in
    let none = begins (audit_hears c.args.report) (g.F.Files.contents c.args.files.now) (length (g.F.Files.failed c.args.files.now)) in
    rw (p.1, p.2) (audit_done (refused _ _ _ none c.in_err-licence.ensures.later c.in_err-licence.ensures.says) (refl, refl))

pub returns-in_err-options-clause-says : goal.returns-in_err-options-clause-says
returns-in_err-options-clause-says g c =
    let p = err_from_is_err_and c.from_residual-in_err-options.result c.from_residual-in_err-options.ensures.1 in
    let none = begins (audit_hears c.args.report) (g.F.Files.contents c.args.files.now) (length (g.F.Files.failed c.args.files.now)) in
    let licence = accepted _ _ none c.in_ok-licence.ensures.same c.in_ok-licence.ensures.later c.in_ok-licence.ensures.says in
    rw (p.1, p.2) (audit_done (refused _ _ _ licence c.in_err-options.ensures.later c.in_err-options.ensures.says) (refl, refl))

pub returns-in_err-log-clause-says : goal.returns-in_err-log-clause-says
returns-in_err-log-clause-says g c =
    let p = err_from_is_err_and c.from_residual-in_err-log.result c.from_residual-in_err-log.ensures.1 in
    let none = begins (audit_hears c.args.report) (g.F.Files.contents c.args.files.now) (length (g.F.Files.failed c.args.files.now)) in
    let licence = accepted _ _ none c.in_ok-licence.ensures.same c.in_ok-licence.ensures.later c.in_ok-licence.ensures.says in
    let options = accepted _ _ licence c.in_ok-options.ensures.same c.in_ok-options.ensures.later c.in_ok-options.ensures.says in
    rw (p.1, p.2) (audit_done (refused _ _ _ options c.in_err-log.ensures.later (rw c.pools.ensures.pools at c.in_err-log.ensures.says)) (refl, refl))

pub returns-in_err-sets-clause-says : goal.returns-in_err-sets-clause-says
returns-in_err-sets-clause-says g c =
    let p = err_from_is_err_and c.from_residual-in_err-sets.result c.from_residual-in_err-sets.ensures.1 in
    let none = begins (audit_hears c.args.report) (g.F.Files.contents c.args.files.now) (length (g.F.Files.failed c.args.files.now)) in
    let licence = accepted _ _ none c.in_ok-licence.ensures.same c.in_ok-licence.ensures.later c.in_ok-licence.ensures.says in
    let options = accepted _ _ licence c.in_ok-options.ensures.same c.in_ok-options.ensures.later c.in_ok-options.ensures.says in
    let log = accepted _ _ options c.in_ok-log.ensures.same c.in_ok-log.ensures.later (rw c.pools.ensures.pools at c.in_ok-log.ensures.says) in
    rw (p.1, p.2) (audit_done (several _ string_bytes _ log c.in_err-sets.ensures.later c.in_err-sets.ensures.says) (refl, refl))

pub returns-clause-says : goal.returns-clause-says
returns-clause-says g c =
    let none = begins (audit_hears c.args.report) (g.F.Files.contents c.args.files.now) (length (g.F.Files.failed c.args.files.now)) in
    let licence = accepted _ _ none c.in_ok-licence.ensures.same c.in_ok-licence.ensures.later c.in_ok-licence.ensures.says in
    let options = accepted _ _ licence c.in_ok-options.ensures.same c.in_ok-options.ensures.later c.in_ok-options.ensures.says in
    let log = accepted _ _ options c.in_ok-log.ensures.same c.in_ok-log.ensures.later (rw c.pools.ensures.pools at c.in_ok-log.ensures.says) in
    audit_done (several _ string_bytes _ log c.in_ok-sets.ensures.later c.in_ok-sets.ensures.says)
    (rw (c.as_slice.ensures.value, c.as_slice-2.ensures.value) at c.write_audit.ensures)

pub returns-in_err-licence-clause-asked : goal.returns-in_err-licence-clause-asked
returns-in_err-licence-clause-asked g c =
    let p = err_from_is_err_and c.from_residual.result c.from_residual.ensures.1 in
    rw (p.1, p.2) (stop _ _ 1 _ _ _ _ _ _ _ c.in_err-licence.ensures.says.says c.in_err-licence.ensures.asked)

pub returns-in_err-options-clause-asked : goal.returns-in_err-options-clause-asked
returns-in_err-options-clause-asked g c =
    let p = err_from_is_err_and c.from_residual-in_err-options.result c.from_residual-in_err-options.ensures.1 in
    rw (p.1, p.2) (stop _ _ 1 _ _ _ _ _ _ _ c.in_err-options.ensures.says.says (join 1 _ _ _ _ _ _ _ _ _ c.in_ok-licence.ensures.asked c.in_err-options.ensures.asked))

pub returns-in_err-log-clause-asked : goal.returns-in_err-log-clause-asked
returns-in_err-log-clause-asked g c =
    let p = err_from_is_err_and c.from_residual-in_err-log.result c.from_residual-in_err-log.ensures.1 in
    rw (p.1, p.2) (stop _ _ 1 _ _ _ _ _ _ _ c.in_err-log.ensures.says.says
    (join 1 _ _ _ _ _ _ _ _ _ (join 1 _ _ _ _ _ _ _ _ _ c.in_ok-licence.ensures.asked c.in_ok-options.ensures.asked) c.in_err-log.ensures.asked))

pub returns-in_err-sets-clause-asked : goal.returns-in_err-sets-clause-asked
returns-in_err-sets-clause-asked g c =
    let p = err_from_is_err_and c.from_residual-in_err-sets.result c.from_residual-in_err-sets.ensures.1 in
    rw (p.1, p.2) (join 1 _ _ _ _ _ _ _ _ _
    (join 1 _ _ _ _ _ _ _ _ _ (join 1 _ _ _ _ _ _ _ _ _ c.in_ok-licence.ensures.asked c.in_ok-options.ensures.asked) c.in_ok-log.ensures.asked)
    c.in_err-sets.ensures.asked)

pub returns-clause-asked : goal.returns-clause-asked
returns-clause-asked g c =
    wrote (HasRisen (g.O.Sink.faults c.args.out.now) (g.O.Sink.faults c.write_audit.new.out)) (g.O.Sink.held c.args.out.now) (g.O.Sink.held c.write_audit.new.out)
    (Verdict c.args.report c.in_ok-licence.licence.pools (map (sets_of c.as_slice.result.now) c.in_ok-licence.licence.pools) c.as_slice-2.result.now) 1 _ _ _ _ _ _ c.write_audit.ensures (join 1 _ _ _ _ _ _ _ _ _
    (join 1 _ _ _ _ _ _ _ _ _ (join 1 _ _ _ _ _ _ _ _ _ c.in_ok-licence.ensures.asked c.in_ok-options.ensures.asked) c.in_ok-log.ensures.asked)
    c.in_ok-sets.ensures.asked)
