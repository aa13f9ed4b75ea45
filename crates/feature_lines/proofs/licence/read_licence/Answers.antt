use Rattle.std.proofs.Common.{List, Result, Ok, map, sym, ap, ◌∙◌}
use Rattle.std.proofs.lemmas.Result.{err_from_is_err_and}
use Rattle.lic_text.specs.Lines.{Worded, lines_of}
use Rattle.lic_text.specs.LinesLeft.{lines_left, item_view}
use Rattle.lic_text.specs.declared.fault.TextFault.{TextFault}
use Rattle.feature_lines.specs.Draft.{sofar_of}
use Rattle.feature_lines.specs.Line.{said_or_fault}
use Rattle.feature_lines.specs.Steps.{blank, sofar_after_lines}
use Rattle.feature_lines.proofs.Passes.{ended, lines_small, pass_reads, pass_refuses}
use Rattle.feature_lines.proofs.Sound.{no_pools, pass_sound, sound_at}
use Rattle.feature_lines.proofs.licence.read_licence.Goals as goal

pub returns-in_err-take_line : goal.returns-in_err-take_line
returns-in_err-take_line c =
    let p = err_from_is_err_and c.from_residual.result c.from_residual.ensures.1 in
    let next = ap (λ (ls : List (Result Worded TextFault)). sofar_after_lines (Ok (sofar_of c.loop-line.draft)) (map said_or_fault ls)) (sym c.in-Some.ensures.steps) ∙ c.loop-line.invariant in
    rw (p.1, p.2) (pass_refuses (sofar_of c.loop-line.draft) (said_or_fault (item_view c.in-Some.line)) (map said_or_fault (lines_left c.next.new.self)) (map said_or_fault (lines_of c.args.file.now)) c.in_err-take_line.field-0.0 (lines_small (lines_of c.args.file.now)) next c.in_err-take_line.ensures.err)

pub invariant_of-result : goal.invariant_of-result
invariant_of-result c =
    let end = ap (λ (ls : List (Result Worded TextFault)). sofar_after_lines (Ok (sofar_of c.loop-line.draft)) (map said_or_fault ls)) (sym c.in-None.ensures.steps.0) ∙ c.loop-line.invariant in
    sound_at (sofar_of c.loop-line.draft) (sofar_after_lines (Ok blank) (map said_or_fault (lines_of c.args.file.now))) (sym end) (pass_sound (map said_or_fault (lines_of c.args.file.now)) (Ok blank) (lines_small (lines_of c.args.file.now)) no_pools)

pub returns : goal.returns
returns c =
    let end = ap (λ (ls : List (Result Worded TextFault)). sofar_after_lines (Ok (sofar_of c.loop-line.draft)) (map said_or_fault ls)) (sym c.in-None.ensures.steps.0) ∙ c.loop-line.invariant in
    sym (pass_reads (map said_or_fault (lines_of c.args.file.now)) (lines_small (lines_of c.args.file.now))) ∙ ap ended (sym end)
