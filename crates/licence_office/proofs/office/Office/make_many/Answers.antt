use Rattle.std.proofs.Common.{ℕ, List, Vec, Global, ap, refl, sym, ◌∙◌, subst, arith}
use Rattle.feature_desk.specs.Sitters.{DeskView, Sitter}
use Rattle.office_view.specs.View.{View}
use Rattle.licence_office.proofs.Dealt.{same_desks, whole_again}
use Rattle.licence_office.proofs.Rounds.{ends_named, keepers_are, keepers_many, parties_are, places_are}
use Rattle.licence_office.specs.Offices.{AreDealt}
use Rattle.licence_office.specs.Rooms.{AreEnds, HasRoom}
use Rattle.licence_office.proofs.office.Office.make_many.Goals as goal

pub returns-clause-desks : goal.returns-clause-desks
returns-clause-desks g c =
    same_desks c.args.sets.now _ c.args.parties c.pools-pools.result.now c.args.licence.now.pools c.in_ok-desks-2.field-0.desks.items c.of-view.result.desks
    (c.as_mut_slice.ensures.len ∙ c.in_ok-passes.ensures.count) c.pools-pools.ensures.pools (ap (λ (v : View DeskView). v.desks) (sym c.of-view.ensures)) c.in_ok-desks-2.ensures.desks

pub returns-clause-passes : goal.returns-clause-passes
returns-clause-passes g c =
    let ok = c.in_ok-passes.passes.ok.0 in
    let lent = c.as_mut_slice.ensures.len in
    let same = c.open_all.auto.parties in (
      c.in_ok-passes.ensures.count,
      subst (λ (z : List (Vec Sitter Global)). AreDealt c.of-view.result.desks z) (sym (whole_again c.open_all.new.parties c.in_ok-passes.passes.items c.in_ok-passes.passes.len ok (omega (arith, ok, lent, same))))
          (subst (λ (z : List DeskView). AreDealt z c.open_all.new.parties) (ap (λ (v : View DeskView). v.desks) (sym c.of-view.ensures)) c.in_ok-desks-2.ensures.dealt),
    )

pub invariant_of-office : goal.invariant_of-office
invariant_of-office g c =
    parties_are c.of-view.result.desks c.in_ok-desks-2.field-0.ends.items c.args.parties
    (ends_named _ c.args.parties c.in_ok-desks-2.field-0.desks.items c.of-view.result.desks c.in_ok-desks-2.field-0.ends.items (c.as_mut_slice.ensures.len ∙ c.in_ok-passes.ensures.count) (ap (λ (v : View DeskView). v.desks) (sym c.of-view.ensures)) c.in_ok-desks-2.ensures.ends)

pub invariant_of-logs : goal.invariant_of-logs
invariant_of-logs g c =
    let desks = c.in_ok-desks-2.field-0.desks.items in
    let ends = c.in_ok-desks-2.field-0.ends.items in
    let are : AreEnds c.args.parties desks ends = ends_named _ c.args.parties desks desks ends (c.as_mut_slice.ensures.len ∙ c.in_ok-passes.ensures.count) (λ i. desks) c.in_ok-desks-2.ensures.ends in
    let many = are.many in let ok = c.in_ok-desks-2.field-0.desks.ok.0 in let count = c.in_ok-desks-2.ensures.count in
    record {
      places = places_are desks ends c.args.parties are;
      told = subst (λ (n : ℕ). HasRoom n c.in_ok-desks-2.field-0.told) (omega (arith, many, ok, count)) c.in_ok-desks-2.ensures.told;
    }

pub returns-clause-logs : goal.returns-clause-logs
returns-clause-logs g c =
    let desks = c.of-view.result.desks in
    let ends = c.in_ok-desks-2.field-0.ends.items in
    let are : AreEnds c.args.parties desks ends
    = ends_named _ c.args.parties c.in_ok-desks-2.field-0.desks.items desks ends (c.as_mut_slice.ensures.len ∙ c.in_ok-passes.ensures.count) (ap (λ (v : View DeskView). v.desks) (sym c.of-view.ensures)) c.in_ok-desks-2.ensures.ends in
    record { parties = refl; many = keepers_many desks ends c.args.parties are; keepers = keepers_are desks ends c.args.parties are }
