use Rattle.std.proofs.Common.{arith}
use Rattle.desk_book.proofs.Closings.{as_many, locks_are, tells}
use Rattle.desk_book.proofs.end.close_book.Goals as goal

pub close-book-requires-clause-count : goal.close-book-requires-clause-count
close-book-requires-clause-count g c =
    let n = as_many c.args.passes.items c.collect.new.tickets.items c.collect.ensures in let k = c.requires.count in
    let a = c.collect.new.tickets.ok.0 in let b = c.args.passes.ok.0 in omega (arith, n, k, a, b)

pub close-book-requires-clause-lock : goal.close-book-requires-clause-lock
close-book-requires-clause-lock g c = locks_are c.args.turns.id c.args.passes.items c.collect.new.tickets.items c.collect.ensures c.requires.lock

pub returns : goal.returns
returns g c =
    let e = c.end.ensures in
    tells c.args.turns.law c.args.passes.items c.collect.new.tickets.items c.close-book.result.0 c.close-book.result.1 c.end.result c.collect.ensures c.close-book.ensures.history
    e.numbers.0 e.numbers.1 e.entries e.cut
