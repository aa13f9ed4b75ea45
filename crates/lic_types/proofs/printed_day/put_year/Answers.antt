use Rattle.std.proofs.Common.{◌≡◌, ℕ, ◌≤◌, ◌<◌, ◌^◌, List, length, decimal, ap, ◌∙◌, arith}
use Rattle.std.proofs.lemmas.Fmt.{length-decimal-le}
use Rattle.lic_types.proofs.printed_day.put_year.Goals as goal

-- digits that write a year are four at most
year_length : (year : ℕ) (digits : List ℕ) → year < 10 ^ 4 → digits ≡ decimal year → length digits ≤ 4
year_length year digits small is = omega (arith, length-decimal-le 4 year (omega arith) small (omega arith), ap length is)

pub overflow_sub-digits : goal.overflow_sub-digits
overflow_sub-digits c = year_length c.args.year _ c.requires.year (c.as_bytes-digits.ensures.value ∙ c.format.ensures.text)

pub put-requires : goal.put-requires
put-requires c = omega (arith, year_length c.args.year _ c.requires.year (c.as_bytes-digits.ensures.value ∙ c.format.ensures.text))

pub returns-clause-offset : goal.returns-clause-offset
returns-clause-offset c = omega (arith, year_length c.args.year _ c.requires.year (c.as_bytes-digits.ensures.value ∙ c.format.ensures.text))
