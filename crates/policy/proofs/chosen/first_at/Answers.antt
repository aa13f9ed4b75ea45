use Rattle.std.proofs.Common.{◌≡◌, ◌∷◌, ◌+◌, Bool, List, Some, true, false, drop, find, refl, sym, ap, ◌∙◌}
use Rattle.std.specs.Option.{option_map}
use Rattle.lic_types.specs.declared.client.RuleLine.{RuleLine}
use Rattle.options_machine.specs.Decide.{number_of_line}
use Rattle.options_machine.specs.Rules.{applies}
use Rattle.policy.specs.Places.{lines_at}
use Rattle.policy.proofs.Placings.{next_at}
use Rattle.policy.proofs.chosen.first_at.Goals as goal
use Rattle.policy.proofs.chosen.first_at.Goals.{then-not-name_one_group+else-applies+then-names_group, then-not-name_one_group+else-applies+else-names_group, else-not-name_one_group}

found : (p : RuleLine → Bool) (line : RuleLine) (rest : List RuleLine) → p line ≡ true → find p (line ∷ rest) ≡ Some line
found p line rest e = rw e refl

passed : (p : RuleLine → Bool) (line : RuleLine) (rest : List RuleLine) → p line ≡ false → find p rest ≡ find p (line ∷ rest)
passed p line rest e = rw e refl

pub returns-then-applies : goal.returns-then-applies
returns-then-applies c =
    let p : RuleLine → Bool = applies c.args.groups.now c.args.client.now in
    let line : RuleLine = c.index-lines-place.result in
    let rest : List RuleLine = lines_at c.args.lines.now (drop (c.loop-place.place-index + 1) c.args.places.now) in
    let step = next_at c.args.lines.now c.args.places.now c.loop-place.place-index line c.requires c.loop-place-test.true c.index-lines-place.is in
    ap (option_map number_of_line) (sym (sym c.loop-place.invariant.later ∙ ap (find p) step ∙ found p line rest (sym c.applies.ensures ∙ c.if-applies.true)))

pub loop-place-preserved : goal.loop-place-preserved
loop-place-preserved c =
    let p : RuleLine → Bool = applies c.args.groups.now c.args.client.now in
    let line : RuleLine = c.index-lines-place.result in
    let rest : List RuleLine = lines_at c.args.lines.now (drop (c.loop-place.place-index + 1) c.args.places.now) in
    let step = next_at c.args.lines.now c.args.places.now c.loop-place.place-index line c.requires c.loop-place-test.true c.index-lines-place.is in
    let later = λ (silent : p line ≡ false). passed p line rest silent ∙ ap (find p) (sym step) ∙ c.loop-place.invariant.later in
    elim c.if-not-name_one_group.branch [
      | then-not-name_one_group+else-applies+then-names_group w ↦
          let silent : p line ≡ false = sym w.applies.ensures ∙ w.if-applies.false in
          record { silent = rw w.passed-is silent; later = later silent }
      | then-not-name_one_group+else-applies+else-names_group w ↦
          record { silent = rw w.passed-is c.loop-place.invariant.silent; later = later (sym w.applies.ensures ∙ w.if-applies.false) }
      | else-not-name_one_group w ↦
          let silent : p line ≡ false = rw (c.name_one_group.ensures.same w.if-not-name_one_group.false) c.loop-place.invariant.silent in
          record { silent = rw w.passed-is c.loop-place.invariant.silent; later = later silent }
    ]
