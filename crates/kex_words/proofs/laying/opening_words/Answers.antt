use Rattle.std.proofs.Common.{◌+◌, arith, ap, ◌∙◌}
use Rattle.kex_words.proofs.Start.{opened_more, opens}
use Rattle.kex_words.proofs.laying.opening_words.Goals as goal

pub loop-j-preserved : goal.loop-j-preserved
loop-j-preserved c = let i = c.loop-j-test.true in let e = c.stages-stages.ensures.value in opened_more c.args.net.now _ _ _ _ (omega arith) c.counter_word.ensures (ap (λ x. x + 1) (c.from.ensures ∙ c.cap.ensures)) c.loop-j.invariant

pub returns : goal.returns
returns c = let e = c.stages-stages.ensures.value in let f = c.loop-j-test.false in let a = c.loop-j.auto.j-end in opens _ _ c.loop-j.j (omega arith) c.loop-j.invariant (omega arith)
