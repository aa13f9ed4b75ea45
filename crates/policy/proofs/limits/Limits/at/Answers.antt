use Rattle.std.proofs.Common.{◌≡◌, ◌<◌, List, Some, length, ap, sym, ◌∙◌, arith, slice_get, refl, rules}
use Rattle.std.proofs.lemmas.Option.{slice_get_read}
use Rattle.lic_types.specs.declared.client.RuleLine.{RuleLine}
use Rattle.options_machine.specs.declared.limits.Limit.{Limit}
use Rattle.policy.proofs.Placings.{length-limits_at, limits_at-get, limit_within}
use Rattle.policy.proofs.limits.Limits.at.Goals as goal

pub index-limit-requires : goal.index-limit-requires
index-limit-requires c = omega (arith, ap length c.self.view_is, length-limits_at c.self.inside.all c.self.inside.limits.items c.self.invariant, c.requires)

pub offset_bounds-lines-limit : goal.offset_bounds-lines-limit
offset_bounds-lines-limit c =
    let within : c.args.i < length c.self.inside.limits.items = omega (arith, ap length c.self.view_is, length-limits_at c.self.inside.all c.self.inside.limits.items c.self.invariant, c.requires) in
    let below : c.index-limit.result.now.place < length c.as_slice-lines.result.now = omega (arith, ap length c.as_slice-lines.ensures, limit_within c.self.inside.all c.self.inside.limits.items c.args.i c.index-limit.result.now c.self.invariant within c.index-limit.ensures) in
    search rules

pub bounds-lines-limit : goal.bounds-lines-limit
bounds-lines-limit c =
    let within : c.args.i < length c.self.inside.limits.items = omega (arith, ap length c.self.view_is, length-limits_at c.self.inside.all c.self.inside.limits.items c.self.invariant, c.requires) in
    omega (arith, ap length c.as_slice-lines.ensures, limit_within c.self.inside.all c.self.inside.limits.items c.args.i c.index-limit.result.now c.self.invariant within c.index-limit.ensures)

pub returns : goal.returns
returns c =
    let within : c.args.i < length c.self.inside.limits.items = omega (arith, ap length c.self.view_is, length-limits_at c.self.inside.all c.self.inside.limits.items c.self.invariant, c.requires) in
    let below : c.index-limit.result.now.place < length c.as_slice-lines.result.now = omega (arith, ap length c.as_slice-lines.ensures, limit_within c.self.inside.all c.self.inside.limits.items c.args.i c.index-limit.result.now c.self.invariant within c.index-limit.ensures) in
    let limit : slice_get c.self.inside.limits.items c.args.i ≡ Some c.index-limit.result.now = slice_get_read c.self.inside.limits.items (length c.self.inside.limits.items) c.args.i c.index-limit.result.now refl within c.index-limit.ensures in
    let line : slice_get c.as_slice-lines.result.now c.index-limit.result.now.place ≡ Some c.index-lines-limit.result = slice_get_read c.as_slice-lines.result.now (length c.as_slice-lines.result.now) c.index-limit.result.now.place c.index-lines-limit.result refl below c.index-lines-limit.is in
    ap (λ (xs : List Limit). slice_get xs c.args.i) (sym c.self.view_is)
    ∙ limits_at-get c.self.inside.all c.self.inside.limits.items c.args.i c.index-limit.result.now c.index-lines-limit.result c.self.invariant limit
    (ap (λ (xs : List RuleLine). slice_get xs c.index-limit.result.now.place) (sym c.as_slice-lines.ensures) ∙ line)
