use Rattle.std.proofs.Common.{◌≡◌, ◌++◌, ◌&&◌, List, ltb, map, drop, find}
use Rattle.options_machine.specs.declared.limits.Limit.{Limit}
use Rattle.options_machine.specs.declared.reply.Charge.{Charge}
use Rattle.options_machine.specs.declared.rows.Holder.{Holder}
use Rattle.options_machine.specs.declared.rows.Lingerer.{Lingerer}
use Rattle.options_machine.specs.Rules.{applies}
use Rattle.options_machine.specs.Step.{times}
use Rattle.policy.proofs.anew.next_line.Given as goal

abbrev pub invariant-loop-i : goal.invariant-loop-i
invariant-loop-i l =
    let given : List Charge = map (λ (h : Holder). h.charge) l.holders ++ map (λ (x : Lingerer). x.charge) l.lingering in
    find (λ (m : Limit). applies l.rules.groups l.client m.line && ltb (times given m.line.line) m.number) (drop l.i l.rules.reserves) ≡ find (λ (m : Limit). applies l.rules.groups l.client m.line && ltb (times given m.line.line) m.number) l.rules.reserves
