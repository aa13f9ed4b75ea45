use Rattle.std.proofs.Common.{arith, length, ap}
use Rattle.std.proofs.lemmas.Fmt.{length-decimal-le}
use Rattle.lic_types.proofs.printed_day.put_day.Goals as goal

pub returns-clause-offset : goal.returns-clause-offset
returns-clause-offset c =
    let short = length-decimal-le 2 c.args.day (omega arith) (omega arith) (omega arith) in
    omega (arith, short, ap length c.as_bytes.ensures.value, ap length c.format.ensures.text)
