use Rattle.std.proofs.Common.{length, string_bytes}
use Rattle.std.proofs.lemmas.Result.{err_from_is_err_and}
use Rattle.licence_tool.proofs.Asking.{join, stop, wrote_text}
use Rattle.licence_tool.proofs.Readings.{accepted, begins, refused, several}
use Rattle.licence_tool.proofs.Replays.{accepted_heard, replay_hears, replay_refused, replay_written}
use Rattle.licence_tool.proofs.perform.replay.Goals as goal

pub returns-in_err-licence-clause-says : goal.returns-in_err-licence-clause-says
returns-in_err-licence-clause-says g c =
    let p = err_from_is_err_and c.from_residual.result c.from_residual.ensures.1 in
    let none = begins (replay_hears c.args.report) (g.F.Files.contents c.args.files.now) (length (g.F.Files.failed c.args.files.now)) in
    rw (p.1, p.2) (replay_refused (refused _ _ _ none c.in_err-licence.ensures.later c.in_err-licence.ensures.says))

pub returns-in_err-options-clause-says : goal.returns-in_err-options-clause-says
returns-in_err-options-clause-says g c =
    let p = err_from_is_err_and c.from_residual-in_err-options.result c.from_residual-in_err-options.ensures.1 in
    let none = begins (replay_hears c.args.report) (g.F.Files.contents c.args.files.now) (length (g.F.Files.failed c.args.files.now)) in
    let licence = accepted _ _ none c.in_ok-licence.ensures.same c.in_ok-licence.ensures.later c.in_ok-licence.ensures.says in
    rw (p.1, p.2) (replay_refused (refused _ _ _ licence c.in_err-options.ensures.later c.in_err-options.ensures.says))

pub returns-in_err-script-clause-says : goal.returns-in_err-script-clause-says
returns-in_err-script-clause-says g c =
    let p = err_from_is_err_and c.from_residual-in_err-script.result c.from_residual-in_err-script.ensures.1 in
    let none = begins (replay_hears c.args.report) (g.F.Files.contents c.args.files.now) (length (g.F.Files.failed c.args.files.now)) in
    let licence = accepted _ _ none c.in_ok-licence.ensures.same c.in_ok-licence.ensures.later c.in_ok-licence.ensures.says in
    let options = accepted _ _ licence c.in_ok-options.ensures.same c.in_ok-options.ensures.later c.in_ok-options.ensures.says in
    rw (p.1, p.2) (replay_refused (refused _ _ _ options c.in_err-script.ensures.later c.in_err-script.ensures.says))

pub returns-in_err-sets-clause-says : goal.returns-in_err-sets-clause-says
returns-in_err-sets-clause-says g c =
    let p = err_from_is_err_and c.from_residual-in_err-sets.result c.from_residual-in_err-sets.ensures.1 in
    let none = begins (replay_hears c.args.report) (g.F.Files.contents c.args.files.now) (length (g.F.Files.failed c.args.files.now)) in
    let licence = accepted _ _ none c.in_ok-licence.ensures.same c.in_ok-licence.ensures.later c.in_ok-licence.ensures.says in
    let options = accepted _ _ licence c.in_ok-options.ensures.same c.in_ok-options.ensures.later c.in_ok-options.ensures.says in
    let script = accepted _ _ options c.in_ok-script.ensures.same c.in_ok-script.ensures.later c.in_ok-script.ensures.says in
    rw (p.1, p.2) (replay_refused (several _ string_bytes _ script c.in_err-sets.ensures.later c.in_err-sets.ensures.says))

pub returns-clause-says : goal.returns-clause-says
returns-clause-says g c =
    let none = begins accepted_heard (g.F.Files.contents c.args.files.now) (length (g.F.Files.failed c.args.files.now)) in
    let licence = accepted _ _ none c.in_ok-licence.ensures.same c.in_ok-licence.ensures.later c.in_ok-licence.ensures.says in
    let options = accepted _ _ licence c.in_ok-options.ensures.same c.in_ok-options.ensures.later c.in_ok-options.ensures.says in
    let script = accepted _ _ options c.in_ok-script.ensures.same c.in_ok-script.ensures.later c.in_ok-script.ensures.says in
    replay_written (several _ string_bytes _ script c.in_ok-sets.ensures.later c.in_ok-sets.ensures.says)
    (rw (c.as_slice.ensures.value, c.as_slice-2.ensures.value) at c.write_replay.ensures.histories) (rw (c.as_slice.ensures.value, c.as_slice-2.ensures.value) at c.write_replay.ensures.says)

pub returns-in_err-licence-clause-asked : goal.returns-in_err-licence-clause-asked
returns-in_err-licence-clause-asked g c =
    let p = err_from_is_err_and c.from_residual.result c.from_residual.ensures.1 in
    rw (p.1, p.2) (stop _ _ 1 _ _ _ _ _ _ _ c.in_err-licence.ensures.says.says c.in_err-licence.ensures.asked)

pub returns-in_err-options-clause-asked : goal.returns-in_err-options-clause-asked
returns-in_err-options-clause-asked g c =
    let p = err_from_is_err_and c.from_residual-in_err-options.result c.from_residual-in_err-options.ensures.1 in
    rw (p.1, p.2) (stop _ _ 1 _ _ _ _ _ _ _ c.in_err-options.ensures.says.says (join 1 _ _ _ _ _ _ _ _ _ c.in_ok-licence.ensures.asked c.in_err-options.ensures.asked))

pub returns-in_err-script-clause-asked : goal.returns-in_err-script-clause-asked
returns-in_err-script-clause-asked g c =
    let p = err_from_is_err_and c.from_residual-in_err-script.result c.from_residual-in_err-script.ensures.1 in
    rw (p.1, p.2) (stop _ _ 1 _ _ _ _ _ _ _ c.in_err-script.ensures.says.says
    (join 1 _ _ _ _ _ _ _ _ _ (join 1 _ _ _ _ _ _ _ _ _ c.in_ok-licence.ensures.asked c.in_ok-options.ensures.asked) c.in_err-script.ensures.asked))

pub returns-in_err-sets-clause-asked : goal.returns-in_err-sets-clause-asked
returns-in_err-sets-clause-asked g c =
    let p = err_from_is_err_and c.from_residual-in_err-sets.result c.from_residual-in_err-sets.ensures.1 in
    rw (p.1, p.2) (join 1 _ _ _ _ _ _ _ _ _
    (join 1 _ _ _ _ _ _ _ _ _ (join 1 _ _ _ _ _ _ _ _ _ c.in_ok-licence.ensures.asked c.in_ok-options.ensures.asked) c.in_ok-script.ensures.asked)
    c.in_err-sets.ensures.asked)

pub returns-clause-asked : goal.returns-clause-asked
returns-clause-asked g c =
    wrote_text _ _ _ _ 1 _ _ _ _ _ _ c.write_replay.ensures.says (join 1 _ _ _ _ _ _ _ _ _
    (join 1 _ _ _ _ _ _ _ _ _ (join 1 _ _ _ _ _ _ _ _ _ c.in_ok-licence.ensures.asked c.in_ok-options.ensures.asked) c.in_ok-script.ensures.asked)
    c.in_ok-sets.ensures.asked)
