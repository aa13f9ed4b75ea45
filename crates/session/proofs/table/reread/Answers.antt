use Rattle.std.proofs.Common.{◌≡◌, ◌∙◌, ◌++◌, Bool, true, false, None, refl, sym, ap, subst, arith, length, ◌<◌, ◌≤◌, nat_lt}
use Rattle.line_protocol.specs.declared.told.Told.TheVariants as told
use Rattle.options_machine.specs.declared.reply.Kind.TheVariants as kind
use Rattle.session.specs.Table.{AsksEach, desks, Rereads}
use Rattle.session.specs.declared.asked.Whom.TheVariants.{Everyone}
use Rattle.session.proofs.Doings.{did_asked, did_then, did_writes}
use Rattle.session.proofs.Steps.{a_set, no_set}
use Rattle.session.proofs.table.reread.Goals as goal

pub ask_each-requires-clause-fits : goal.ask_each-requires-clause-fits
ask_each-requires-clause-fits g c = subst (λ n. c.args.set < n) c.sets.ensures (omega arith)

pub returns-then-set-sets-clause-reread : goal.returns-then-set-sets-clause-reread
returns-then-set-sets-clause-reread g c = λ o before agrees.
    let w = c.say.ensures in
    let sets : c.sets.result ≡ o.sets = c.sets.ensures ∙ sym agrees.sets in
    let none : nat_lt c.args.set o.sets ≡ false = no_set c.args.set o.sets (subst (λ n. n ≤ c.args.set) sets c.if-set-sets.true) in (
      w.0,
      did_writes g.C.Counter.account g.L.Link.tells g.L.Link.faults g.L.Link.quiets g.K.Clock.gave g.B.Bell.answered g.B.Bell.tolls g.B.Bell.rings (told.NoRules c.args.set) None c.say.result w.0 c.args.pass.now c.args.link.now c.say.new.link c.args.clock.now c.args.bell.now w.1 w.2 w.3,
      subst (λ (b : Bool). Rereads o before c.args.client.now c.args.set b w.0 c.say.result) (sym none) w.1,
    )

pub returns-clause-reread : goal.returns-clause-reread
returns-clause-reread g c = λ o before agrees.
    let b = c.ask_each.ensures.asked o before agrees in
    let w = c.say-2.ensures in
    let sets : c.sets.result ≡ o.sets = c.sets.ensures ∙ sym agrees.sets in
    let some : nat_lt c.args.set o.sets ≡ true = a_set c.args.set o.sets (subst (λ n. c.args.set < n) sets c.if-set-sets.false) in
    let all : length c.args.pass.now ≡ length o.pools = c.requires.long ∙ sym (ap length agrees.pools) in (
      b.0 ++ w.0,
      did_then (did_asked g.C.Counter.account g.L.Link.tells g.L.Link.faults g.L.Link.quiets g.K.Clock.gave g.B.Bell.answered g.B.Bell.tolls g.B.Bell.rings b.0 c.args.pass.now c.ask_each.new.pass c.args.link.now c.args.clock.now c.ask_each.new.clock c.args.bell.now b.1.only)
          (did_writes g.C.Counter.account g.L.Link.tells g.L.Link.faults g.L.Link.quiets g.K.Clock.gave g.B.Bell.answered g.B.Bell.tolls g.B.Bell.rings (told.Reread c.args.set) None c.say-2.result w.0 c.ask_each.new.pass c.args.link.now c.say-2.new.link c.ask_each.new.clock c.args.bell.now w.1 w.2 w.3),
      subst (λ (t : Bool). Rereads o before c.args.client.now c.args.set t (b.0 ++ w.0) c.say-2.result) (sym some)
          (b.0, w.0, refl, subst (λ n. AsksEach c.args.client.now (kind.Reread c.args.set) (desks Everyone o before n) b.0) all b.1.each, w.1),
    )
