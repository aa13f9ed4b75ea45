use Rattle.std.proofs.lemmas.Result.{err_from_is_err_and}
use Rattle.client_talk.specs.Holding.{seat_line, seat_want}
use Rattle.client_talk.specs.Requests.{line_judged}
use Rattle.client_talk.specs.Talks.{beat_line, checkin_line}
use Rattle.client_talk.specs.declared.want.Want.TheVariants.{Beaten, Returned}
use Rattle.client_talk.proofs.Judgings.{alone, fault_first, then_rest}
use Rattle.client_talk.proofs.judging.judge_hold.Goals as goal

pub returns-in_err-judge_made : goal.returns-in_err-judge_made
returns-in_err-judge_made c =
    let hold = c.args.hold.now in
    let p = err_from_is_err_and c.from_residual.result c.from_residual.ensures.1 in
    rw (p.1, p.2) (fault_first (line_judged (seat_line hold)) _ c.in_err-judge_made.field-0.0 (c.in_err-judge_made.ensures (seat_line hold) (seat_want hold) c.seat.ensures))

pub returns-in_err-judge_made-2 : goal.returns-in_err-judge_made-2
returns-in_err-judge_made-2 c =
    let hold = c.args.hold.now in
    let line = beat_line hold.feature.now in
    let p = err_from_is_err_and c.from_residual-in_err-judge_made-2.result c.from_residual-in_err-judge_made-2.ensures.1 in
    rw (p.1, p.2)
    (then_rest (line_judged (seat_line hold)) _ _ (c.in_ok-judge_made.ensures (seat_line hold) (seat_want hold) c.seat.ensures)
    (fault_first (line_judged line) _ c.in_err-judge_made-2.field-0.0 (c.in_err-judge_made-2.ensures line Beaten c.beat.ensures)))

pub returns : goal.returns
returns c =
    let hold = c.args.hold.now in
    let line = beat_line hold.feature.now in
    let last = checkin_line hold.feature.now in
    then_rest (line_judged (seat_line hold)) _ _ (c.in_ok-judge_made.ensures (seat_line hold) (seat_want hold) c.seat.ensures)
    (then_rest (line_judged line) _ _ (c.in_ok-judge_made-2.ensures line Beaten c.beat.ensures)
    (alone (line_judged last) _ (c.judge_made-3.ensures last Returned c.checkin.ensures)))
