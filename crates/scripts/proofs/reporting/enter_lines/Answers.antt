use Rattle.std.proofs.Common.{ap, arith, drop, length, sym, ◌+◌, ◌∙◌}
use Rattle.std.proofs.lemmas.List.{length-map}
use Rattle.scripts.specs.PoolRuns.{run_walk}
use Rattle.scripts.proofs.Reached.{entered_more, enters, next_line, party_within, pools_then, ready_then}
use Rattle.scripts.proofs.reporting.enter_lines.Goals as goal

pub loop-line-init : goal.loop-line-init
loop-line-init c = enters c.args.options.now c.args.licence.now.pools c.args.runs.now c.args.lines.now c.requires.opened

pub answer_line-requires-clause-pools : goal.answer_line-requires-clause-pools
answer_line-requires-clause-pools c = pools_then c.loop-line.invariant.reached

pub answer_line-requires-clause-party : goal.answer_line-requires-clause-party
answer_line-requires-clause-party c = party_within c.args.lines.now c.loop-line.line-index c.line-item.result c.requires.fit c.loop-line-test.true c.line-item.is

pub answer_line-requires-clause-ready : goal.answer_line-requires-clause-ready
answer_line-requires-clause-ready c = ready_then (omega arith) c.loop-line.invariant.reached

pub loop-line-preserved : goal.loop-line-preserved
loop-line-preserved c =
    let i = c.loop-line.line-index in
    rw c.answer_line.ensures.runs (entered_more c.args.options.now c.line-item.result (drop (i + 1) c.args.lines.now)
    (party_within c.args.lines.now i c.line-item.result c.requires.fit c.loop-line-test.true c.line-item.is)
    (next_line c.args.lines.now i c.line-item.result c.loop-line-test.true c.line-item.is)
    c.loop-line.invariant)

pub returns-clause-len : goal.returns-clause-len
returns-clause-len c =
    sym (length-map c.loop-line.runs run_walk.pool)
    ∙ (ap length (pools_then c.loop-line.invariant.reached ∙ sym (pools_then (enters c.args.options.now c.args.licence.now.pools c.args.runs.now c.args.lines.now c.requires.opened).reached))
    ∙ length-map c.args.runs.now run_walk.pool)
