use Rattle.std.proofs.Common.{◌++◌, subst}
use Rattle.seat_names.specs.declared.turns.Turn.TheVariants.{Again}
use Rattle.seat_names.specs.Turns.{pass_in_turn}
use Rattle.seat_names.proofs.Coming.{Coming, coming_on}
use Rattle.seat_names.proofs.Leading.{leads_on}
use Rattle.seat_names.proofs.seats.Seats.go_on.Goals as goal

pub returns-in-Through-clause-moved : goal.returns-in-Through-clause-moved
returns-in-Through-clause-moved g c = let so = subst (Coming c.args.self.now (pass_in_turn c.args.turn)) c.in-Through.is c.loop.invariant in let w = c.name.ensures.moved in
    (so.way ++ w.0, leads_on (pass_in_turn c.args.turn) so.way _ w.0 _ so.leads w.1)

pub loop-preserved : goal.loop-preserved
loop-preserved g c = let so = subst (Coming c.args.self.now (pass_in_turn c.args.turn)) c.in-Again.is c.loop.invariant in
    coming_on c.args.self.now (pass_in_turn c.args.turn) (Again c.in-Again.entering) c.turn-turn.result so c.turn-turn.ensures.same c.turn-turn.ensures.got c.turn-turn.ensures.turned.moved
