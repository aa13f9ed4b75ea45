use Rattle.std.proofs.Common.{[], ap, arith}
use Rattle.options_machine.specs.State.{in_use}
use Rattle.seat_book.proofs.Anew.{length_anew}
use Rattle.seat_book.proofs.charging.charge_anew.Goals as goal

pub charge_lingering-requires-clause-few : goal.charge_lingering-requires-clause-few
charge_lingering-requires-clause-few c =
    omega (arith, ap in_use c.charge_holders.ensures.state, length_anew c.args.rules.now [] c.args.parts.now.seats.holders, c.requires.few)
