use Rattle.std.proofs.Common.{arith, drop, length, List, [], subst, sym, ℕ, ◌+◌, ◌≡◌}
use Rattle.std.proofs.lemmas.Grind.{common_steps}
use Rattle.scripts.specs.Played.{IsPlayed}
use Rattle.scripts.specs.Script.{output_of}
use Rattle.std.proofs.lemmas.Result.{err_from_is_err_and}
use Rattle.scripts.proofs.Reached.{begins, next_line, party_within, played_all, played_front, played_more, played_written, pools_then, ready_then}
use Rattle.scripts.proofs.playing.play_lines.Goals as goal

pub loop-line-init : goal.loop-line-init
loop-line-init g c =
    subst (λ (gathered : List ℕ). IsPlayed g.O.Sink.held g.O.Sink.faults (length c.args.options.now) 0 c.args.licence.now.pools c.args.runs.now c.args.lines.now c.args.out.now c.args.out.now gathered (output_of c.args.licence.now.pools c.args.options.now c.args.lines.now))
    (sym c.requires.none) (begins g.O.Sink.held g.O.Sink.faults c.args.options.now c.args.licence.now.pools c.args.runs.now c.args.lines.now c.args.out.now c.requires.opened)

pub answer_line-answer-requires-clause-pools : goal.answer_line-answer-requires-clause-pools
answer_line-answer-requires-clause-pools g c = pools_then c.loop-line.invariant.reached

pub answer_line-answer-requires-clause-party : goal.answer_line-answer-requires-clause-party
answer_line-answer-requires-clause-party g c = party_within c.args.lines.now c.loop-line.line-index c.line-item.result c.requires.fit c.loop-line-test.true c.line-item.is

pub answer_line-answer-requires-clause-ready : goal.answer_line-answer-requires-clause-ready
answer_line-answer-requires-clause-ready g c = ready_then (omega arith) c.loop-line.invariant.reached

pub returns-in_err-make_room : goal.returns-in_err-make_room
returns-in_err-make_room g c =
    let p = err_from_is_err_and c.from_residual.result c.from_residual.ensures.1 in
    let (written, all, wrote) = c.in_err-make_room.ensures.wrote in
    rw p.1 (played_front c.loop-line.invariant written c.make_room.new.gathered p.0 all wrote)

pub loop-line-preserved : goal.loop-line-preserved
loop-line-preserved g c =
    let i = c.loop-line.line-index in
    let (written, all, wrote) = c.in_ok-make_room.ensures.wrote in
    rw c.answer_line-answer.ensures.runs (played_more c.args.options.now c.line-item.result (drop (i + 1) c.args.lines.now)
    (party_within c.args.lines.now i c.line-item.result c.requires.fit c.loop-line-test.true c.line-item.is)
    (next_line c.args.lines.now i c.line-item.result c.loop-line-test.true c.line-item.is)
    c.answer_line-answer.result c.answer_line-answer.ensures.answer (played_written c.loop-line.invariant written all wrote) c.add.ensures)

pub returns : goal.returns
returns g c =
    let none : drop c.loop-line.line-index c.args.lines.now ≡ [] = grind (arith, common_steps) in
    played_all c.loop-line.invariant c.write.result none c.write.ensures.wrote
