use Rattle.std.proofs.Common.{◌<◌, arith}
use Rattle.lic_text.proofs.Values.{digits_fit}
use Rattle.lic_text.proofs.digits.short_number.Goals as goal

pub overflow_mul-value : goal.overflow_mul-value
overflow_mul-value c =
    let l = c.loop-b in
    let few : l.b-index < 19 = omega arith in
    omega (arith, digits_fit l.value l.b-index 0 l.invariant.small few (omega arith))

pub overflow_add-value : goal.overflow_add-value
overflow_add-value c =
    let l = c.loop-b in
    let few : l.b-index < 19 = omega arith in
    let digit : c.from.result < 10 = grind (arith, c.is_ascii_digit.ensures.bound, c.if-not-is_ascii_digit.false, c.from.ensures) in
    omega (arith, digits_fit l.value l.b-index c.from.result l.invariant.small few digit)
