use Rattle.std.proofs.Common.{◌≤◌, arith}
use Rattle.seat_book.proofs.Heard.{heard_after_later}
use Rattle.seat_book.proofs.lapsing.let_go.Goals as goal

pub drop_silent-requires-clause-unheard : goal.drop_silent-requires-clause-unheard
drop_silent-requires-clause-unheard c =
    let later : c.args.parts.now.moment ≤ c.max-parts.result = omega arith in
    omega (arith, heard_after_later c.args.parts.now.moment c.max-parts.result c.args.parts.now.seats.holders later, c.requires.unheard)
