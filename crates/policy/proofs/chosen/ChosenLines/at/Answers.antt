use Rattle.std.proofs.Common.{◌≡◌, ◌<◌, List, Some, length, ap, sym, ◌∙◌, arith, slice_get, refl, rules}
use Rattle.std.proofs.lemmas.Option.{slice_get_read}
use Rattle.lic_types.specs.declared.client.RuleLine.{RuleLine}
use Rattle.policy.proofs.Placings.{length-lines_at, lines_at-get, place_within}
use Rattle.policy.proofs.chosen.ChosenLines.at.Goals as goal

pub index-requires : goal.index-requires
index-requires c = omega (arith, ap length c.self.view_is, length-lines_at c.self.inside.all c.self.inside.places.items c.self.invariant.there, c.requires)

pub offset_bounds-lines-index : goal.offset_bounds-lines-index
offset_bounds-lines-index c =
    let within : c.args.i < length c.self.inside.places.items = omega (arith, ap length c.self.view_is, length-lines_at c.self.inside.all c.self.inside.places.items c.self.invariant.there, c.requires) in
    let below : c.index.result.now < length c.as_slice-lines.result.now = omega (arith, ap length c.as_slice-lines.ensures, place_within c.self.inside.all c.self.inside.places.items c.args.i c.index.result.now c.self.invariant.there within c.index.ensures) in
    search rules

pub bounds-lines-index : goal.bounds-lines-index
bounds-lines-index c =
    let within : c.args.i < length c.self.inside.places.items = omega (arith, ap length c.self.view_is, length-lines_at c.self.inside.all c.self.inside.places.items c.self.invariant.there, c.requires) in
    omega (arith, ap length c.as_slice-lines.ensures, place_within c.self.inside.all c.self.inside.places.items c.args.i c.index.result.now c.self.invariant.there within c.index.ensures)

pub returns : goal.returns
returns c =
    let within : c.args.i < length c.self.inside.places.items = omega (arith, ap length c.self.view_is, length-lines_at c.self.inside.all c.self.inside.places.items c.self.invariant.there, c.requires) in
    let below : c.index.result.now < length c.as_slice-lines.result.now = omega (arith, ap length c.as_slice-lines.ensures, place_within c.self.inside.all c.self.inside.places.items c.args.i c.index.result.now c.self.invariant.there within c.index.ensures) in
    let place : slice_get c.self.inside.places.items c.args.i ≡ Some c.index.result.now = slice_get_read c.self.inside.places.items (length c.self.inside.places.items) c.args.i c.index.result.now refl within c.index.ensures in
    let line : slice_get c.as_slice-lines.result.now c.index.result.now ≡ Some c.index-lines-index.result = slice_get_read c.as_slice-lines.result.now (length c.as_slice-lines.result.now) c.index.result.now c.index-lines-index.result refl below c.index-lines-index.is in
    ap (λ (xs : List RuleLine). slice_get xs c.args.i) (sym c.self.view_is)
    ∙ lines_at-get c.self.inside.all c.self.inside.places.items c.args.i c.index.result.now c.self.invariant.there place
    ∙ ap (λ (xs : List RuleLine). slice_get xs c.index.result.now) (sym c.as_slice-lines.ensures)
    ∙ line
