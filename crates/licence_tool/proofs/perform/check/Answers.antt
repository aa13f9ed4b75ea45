use Rattle.std.proofs.Common.{length, refl}
use Rattle.std.proofs.lemmas.Result.{err_from_is_err_and}
use Rattle.licence_tool.proofs.Asking.{join, stop, wrote_text}
use Rattle.licence_tool.proofs.Ends.{due_written}
use Rattle.licence_tool.proofs.Readings.{accepted, begins, finished, refused}
use Rattle.licence_tool.proofs.Runs.{check_done, check_hears}
use Rattle.licence_tool.proofs.perform.check.Goals as goal

pub returns-in_err-licence-clause-says : goal.returns-in_err-licence-clause-says
returns-in_err-licence-clause-says g c =
    let p = err_from_is_err_and c.from_residual.result c.from_residual.ensures.1 in
    let none = begins check_hears (g.F.Files.contents c.args.files.now) (length (g.F.Files.failed c.args.files.now)) in
    rw (p.1, p.2) (check_done (refused _ _ _ none c.in_err-licence.ensures.later c.in_err-licence.ensures.says) (refl, refl))

pub returns-in_err-options-clause-says : goal.returns-in_err-options-clause-says
returns-in_err-options-clause-says g c =
    let p = err_from_is_err_and c.from_residual-in_err-options.result c.from_residual-in_err-options.ensures.1 in
    let none = begins check_hears (g.F.Files.contents c.args.files.now) (length (g.F.Files.failed c.args.files.now)) in
    let licence = accepted _ _ none c.in_ok-licence.ensures.same c.in_ok-licence.ensures.later c.in_ok-licence.ensures.says in
    rw (p.1, p.2) (check_done (refused _ _ _ licence c.in_err-options.ensures.later c.in_err-options.ensures.says) (refl, refl))

pub returns-clause-says : goal.returns-clause-says
returns-clause-says g c =
    let none = begins check_hears (g.F.Files.contents c.args.files.now) (length (g.F.Files.failed c.args.files.now)) in
    let licence = accepted _ _ none c.in_ok-licence.ensures.same c.in_ok-licence.ensures.later c.in_ok-licence.ensures.says in
    let options = accepted _ _ licence c.in_ok-options.ensures.same c.in_ok-options.ensures.later c.in_ok-options.ensures.says in
    check_done (finished _ options refl) (due_written _ _ _ _ _ c.write_check.ensures)

pub returns-in_err-licence-clause-asked : goal.returns-in_err-licence-clause-asked
returns-in_err-licence-clause-asked g c =
    let p = err_from_is_err_and c.from_residual.result c.from_residual.ensures.1 in
    rw (p.1, p.2) (stop _ _ 1 _ _ _ _ _ _ _ c.in_err-licence.ensures.says.says c.in_err-licence.ensures.asked)

pub returns-in_err-options-clause-asked : goal.returns-in_err-options-clause-asked
returns-in_err-options-clause-asked g c =
    let p = err_from_is_err_and c.from_residual-in_err-options.result c.from_residual-in_err-options.ensures.1 in
    rw (p.1, p.2) (join 1 _ _ _ _ _ _ _ _ _ c.in_ok-licence.ensures.asked c.in_err-options.ensures.asked)

pub returns-clause-asked : goal.returns-clause-asked
returns-clause-asked g c =
    wrote_text _ _ _ _ 1 _ _ _ _ _ _ c.write_check.ensures (join 1 _ _ _ _ _ _ _ _ _ c.in_ok-licence.ensures.asked c.in_ok-options.ensures.asked)
