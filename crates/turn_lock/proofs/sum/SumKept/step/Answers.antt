use Rattle.std.proofs.Common.{ℕ, ◌+◌, ◌%◌, ◌^◌, sym, ap, ◌∙◌}
use Rattle.turn_lock.proofs.SumLists.{total_longer, run_longer}
use Rattle.turn_lock.proofs.sum.SumKept.step.Goals as goal

pub returns-clause-stands : goal.returns-clause-stands
returns-clause-stands g c h s r = ap (λ (n : ℕ). (n + c.args.request.now.amount) % 2 ^ 64) s ∙ sym (total_longer h _)

pub returns-clause-runs : goal.returns-clause-runs
returns-clause-runs g c h s r = run_longer h _ r s
