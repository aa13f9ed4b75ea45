use Rattle.std.proofs.Common.{◌+◌, ◌*◌, ◌-◌, ◌<◌, ◌^◌, length, Option, IfSome, ap, subst, sym}
use Rattle.log_audit.specs.declared.day_sum.DaySum.{DaySum}
use Rattle.log_audit.specs.declared.desk.Desk.{Desk}
use Rattle.log_audit.proofs.Usages.{has_time}
use Rattle.log_audit.proofs.desk.Desk.take.Goals as goal

pub count-requires-clause-seconds : goal.count-requires-clause-seconds
count-requires-clause-seconds c =
    let before = c.args.self.now in
    let until = c.args.entry.now.entry.moment in
    let next = c.in_default.ensures in
    let small = c.requires.small in
    let room = has_time before.days.last before.entries before.book.state.now until (length before.book.state.holders) next.0.later c.requires.moment small.held small.last in
    subst (λ (last : Option DaySum). IfSome last (λ (sum : DaySum). sum.seconds + c.held.result * (until - c.now.result) < 2 ^ 64)) (sym (ap (λ (d : Desk). d.days.last) next.1))
    (rw (c.now.ensures, c.held.ensures) room)
