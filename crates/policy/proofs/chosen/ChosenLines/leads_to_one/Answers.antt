use Rattle.std.proofs.Common.{◌≡◌, ◌<◌, ℕ, Bool, List, true, get_or, length, refl, sym, ap, subst, ◌∙◌, rules}
use Rattle.std.proofs.lemmas.Option.{slice_get_read}
use Rattle.std.specs.List.{list_any}
use Rattle.lic_types.specs.declared.client.RuleLine.{RuleLine}
use Rattle.options_machine.specs.Rules.{applies}
use Rattle.policy.proofs.Others.{led_to, led_within}
use Rattle.policy.proofs.chosen.ChosenLines.leads_to_one.Goals as goal

pub offset_bounds-lines-place : goal.offset_bounds-lines-place
offset_bounds-lines-place c =
    let within : c.in-Some.place < length c.as_slice-lines.result.now =
    subst (λ (ls : List RuleLine). c.in-Some.place < length ls) (sym c.as_slice-lines.ensures)
    (led_within c.self.inside.all c.self.inside.places.items c.self.inside.printed _ c.in-Some.place c.self.invariant.there c.self.invariant.others c.in-Some.ensures.found) in
    search rules

pub bounds-lines-place : goal.bounds-lines-place
bounds-lines-place c =
    subst (λ (ls : List RuleLine). c.in-Some.place < length ls) (sym c.as_slice-lines.ensures)
    (led_within c.self.inside.all c.self.inside.places.items c.self.inside.printed _ c.in-Some.place c.self.invariant.there c.self.invariant.others c.in-Some.ensures.found)

pub returns-in-Some : goal.returns-in-Some
returns-in-Some c = λ (speaks : c.applies.result ≡ true).
    let all : List RuleLine = c.self.inside.all in
    let p : RuleLine → Bool = applies c.args.groups.now c.args.client.now in
    let line : RuleLine = c.index-lines-place.result in
    let place : ℕ = c.in-Some.place in
    let within : place < length all = led_within all c.self.inside.places.items c.self.inside.printed _ place c.self.invariant.there c.self.invariant.others c.in-Some.ensures.found in
    let is : line ≡ get_or all place line = subst (λ (ls : List RuleLine). line ≡ get_or ls place line) c.as_slice-lines.ensures c.index-lines-place.is in
    ap (list_any p) (sym c.self.view_is)
    ∙ led_to p all c.self.inside.places.items c.self.inside.printed _ place line c.self.invariant.others c.in-Some.ensures.found (slice_get_read all (length all) place line refl within is) (sym c.applies.ensures ∙ speaks)
