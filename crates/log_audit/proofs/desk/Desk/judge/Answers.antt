use Rattle.std.proofs.Common.{◌≤◌, ℕ, ap, arith, refl, rules, subst}
use Rattle.log_audit.specs.declared.desk.Desk.{Desk}
use Rattle.log_audit.proofs.Judged.{made, no_set}
use Rattle.log_audit.proofs.desk.Desk.judge.Goals as goal

pub returns-then-not-has_set : goal.returns-then-not-has_set
returns-then-not-has_set c = no_set c.args.self.now c.args.entry.now c.expect.result _ (λ fits. let h = c.if-not-has_set.ensures.1 fits in cc) refl c.expect.ensures.says

pub overflow_add-self : goal.overflow_add-self
overflow_add-self c =
    let same = ap (λ (d : Desk). d.entries) c.expect-expected.ensures.moved in
    let few = c.requires.few in
    omega arith

pub returns : goal.returns
returns c =
    made c.args.self.now c.expect-expected.new.self c.args.entry.now c.expect-expected.result c.expect-expected.ensures.says c.expect-expected.ensures.moved
    (subst (λ (n : ℕ). n ≤ c.args.entry.now.entry.moment) c.now-before.ensures c.if-moment-before.false)
    (c.if-not-has_set.ensures.0 refl)
    c.if-entry-expected.false
    (search rules)
