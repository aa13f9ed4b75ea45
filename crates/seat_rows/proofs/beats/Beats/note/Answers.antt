use Rattle.std.proofs.Common.{◌≡◌, ◌∙◌, None, Some, get_or, rules}
use Rattle.seat_rows.proofs.Marks.{mark_at, noted_anew}
use Rattle.seat_rows.proofs.beats.Beats.note.Goals as goal

pub returns-then-beat-mark : goal.returns-then-beat-mark
returns-then-beat-mark c =
    let there : get_or c.self.inside.marks.items c.args.party None ≡ Some c.in-Some.mark = mark_at c.self.inside.marks.items c.args.party c.index.result.now (search rules) c.index.ensures ∙ c.in-Some.is in
    let anew = noted_anew c.self.inside.marks.items c.args.party c.in-Some.mark c.args.beat there (search rules) in
    search rules
