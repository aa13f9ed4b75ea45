use Rattle.std.proofs.Common.{◌≡◌, ◌∙◌, ◌≤◌, ℤ, pos, ap, arith, nat_abs, of_z, rules, subst, sym, to_z, w16, w64}
use Rattle.std.proofs.lemmas.Int.{ints, to_z-of_z}
use Rattle.jiff_core.specs.Calendar.{IsCivilDate, days_from_civil}
use Rattle.jiff_core.specs.Date.{epoch_day}
use Rattle.licence_tool.proofs.Calendars.{year_from}
use Rattle.licence_tool.proofs.dates.date_of.Goals as goal

pub overflow_cast-result : goal.overflow_cast-result
overflow_cast-result c =
    let date = c.in-Ok.date in
    let day : epoch_day date ≡ pos c.args.number = c.in-Ok.ensures.value ∙ (to_z-of_z w64 c.from.result (search rules) ∙ c.from.ensures) in
    let year = year_from date c.args.number day in
    let is : to_z w16 (of_z w16 date.year) ≡ pos year.0 = to_z-of_z w16 date.year (search rules) ∙ year.1 in
    let last : year.0 ≤ 9999 = omega (arith, ints, date.year_in, year.1) in
    rw is (search rules)

pub returns : goal.returns
returns c =
    let date = c.in-Ok.date in
    let day : epoch_day date ≡ pos c.args.number = c.in-Ok.ensures.value ∙ (to_z-of_z w64 c.from.result (search rules) ∙ c.from.ensures) in
    let year = year_from date c.args.number day in
    let is : to_z w16 (of_z w16 date.year) ≡ pos year.0 = to_z-of_z w16 date.year (search rules) ∙ year.1 in
    let same : pos (nat_abs (to_z w16 (of_z w16 date.year))) ≡ date.year = ap (λ (z : ℤ). pos (nat_abs z)) is ∙ sym year.1 in
    let civil : IsCivilDate date.year date.month date.day = (date.year_in, date.month_in, date.day_in) in
    record {
      civil = subst (λ (y : ℤ). IsCivilDate y date.month date.day) (sym same) civil;
      counted = subst (λ (y : ℤ). days_from_civil y date.month date.day ≡ pos c.args.number) (sym same) day;
    }
