use Rattle.std.proofs.Common.{length, inl, Ok, Err, string_bytes}
use Rattle.std.proofs.lemmas.Simd.{map-map}
use Rattle.std.proofs.lemmas.Result.{err_from_is_err_and}
use Rattle.licence_tool.proofs.Asking.{join}
use Rattle.licence_tool.proofs.Readings.{accepted, begins, refused, several}
use Rattle.licence_daemon.proofs.Hearing.{not_done, terms_hears, terms_of}
use Rattle.licence_daemon.proofs.reading.read_terms.Goals as goal

pub returns-in_err-licence-clause-says : goal.returns-in_err-licence-clause-says
returns-in_err-licence-clause-says g c =
    let p = err_from_is_err_and c.from_residual.result c.from_residual.ensures.1 in
    let none = begins terms_hears (g.F.Files.contents c.args.files.now) (length (g.F.Files.failed c.args.files.now)) in
    rw (p.1, p.2) (terms_of (Err _) (refused _ _ _ none c.in_err-licence.ensures.later c.in_err-licence.ensures.says))

pub returns-in_err-options-clause-says : goal.returns-in_err-options-clause-says
returns-in_err-options-clause-says g c =
    let p = err_from_is_err_and c.from_residual-in_err-options.result c.from_residual-in_err-options.ensures.1 in
    let none = begins terms_hears (g.F.Files.contents c.args.files.now) (length (g.F.Files.failed c.args.files.now)) in
    let licence = accepted _ _ none c.in_ok-licence.ensures.same c.in_ok-licence.ensures.later c.in_ok-licence.ensures.says in
    rw (p.1, p.2) (terms_of (Err _) (refused _ _ _ licence c.in_err-options.ensures.later c.in_err-options.ensures.says))

pub returns-in_err-sets-clause-says : goal.returns-in_err-sets-clause-says
returns-in_err-sets-clause-says g c =
    let p = err_from_is_err_and c.from_residual-in_err-sets.result c.from_residual-in_err-sets.ensures.1 in
    let none = begins terms_hears (g.F.Files.contents c.args.files.now) (length (g.F.Files.failed c.args.files.now)) in
    let licence = accepted _ _ none c.in_ok-licence.ensures.same c.in_ok-licence.ensures.later c.in_ok-licence.ensures.says in
    let options = accepted _ _ licence c.in_ok-options.ensures.same c.in_ok-options.ensures.later c.in_ok-options.ensures.says in
    rw (p.1, p.2, map-map) (terms_of (Err _) (several _ string_bytes _ options c.in_err-sets.ensures.later c.in_err-sets.ensures.says))

pub returns-clause-says : goal.returns-clause-says
returns-clause-says g c =
    let none = begins terms_hears (g.F.Files.contents c.args.files.now) (length (g.F.Files.failed c.args.files.now)) in
    let licence = accepted _ _ none c.in_ok-licence.ensures.same c.in_ok-licence.ensures.later c.in_ok-licence.ensures.says in
    let options = accepted _ _ licence c.in_ok-options.ensures.same c.in_ok-options.ensures.later c.in_ok-options.ensures.says in
    rw map-map (terms_of (Ok _) (several _ string_bytes _ options c.in_ok-sets.ensures.later c.in_ok-sets.ensures.says))

pub returns-in_err-options-clause-asked : goal.returns-in_err-options-clause-asked
returns-in_err-options-clause-asked g c =
    let p = err_from_is_err_and c.from_residual-in_err-options.result c.from_residual-in_err-options.ensures.1 in
    rw (p.1, p.2) (inl (not_done _ _ _ c.in_err-options.ensures.says.says, join 1 _ _ _ _ _ _ _ _ _ c.in_ok-licence.ensures.asked c.in_err-options.ensures.asked))
