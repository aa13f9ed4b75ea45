use Rattle.std.proofs.Common.{◌≡◌, ℕ, All, length, ap, sym, ◌∙◌, subst}
use Rattle.licence_office.proofs.Ended.{same_told}
use Rattle.licence_office.proofs.Rounds.{ends_named, ends_of_logs}
use Rattle.licence_office.specs.Logs.{AreLogsOf, LogsSeen}
use Rattle.licence_office.specs.Offices.{OfficeSeen}
use Rattle.licence_office.specs.Rooms.{HasPlace}
use Rattle.licence_office.specs.contracts.logs.OfficeLogs.{the_view as logs_view}
use Rattle.licence_office.specs.contracts.office.Office.{the_view as office_view}
use Rattle.licence_office.proofs.office.Office.close_with_log.Goals as goal

pub close_all-requires-clause-ends : goal.close_all-requires-clause-ends
close_all-requires-clause-ends g c =
    let l : AreLogsOf (logs_view c.logs.inside) (office_view c.self.inside)
    = subst (λ (z : LogsSeen). AreLogsOf z (office_view c.self.inside)) (sym c.logs.view_is) (subst (AreLogsOf c.args.logs) (sym c.self.view_is) c.requires.logs) in
    let places : All (HasPlace c.self.inside.parties) c.logs.inside.ends.items = subst (λ (n : ℕ). All (HasPlace n) c.logs.inside.ends.items) l.parties c.logs.invariant.places in
    let count : c.self.inside.parties ≡ length c.as_mut_slice.result.now = ap (λ (o : OfficeSeen). o.parties) c.self.view_is ∙ (sym c.requires.count ∙ sym c.as_mut_slice.ensures.len) in
    ends_named c.self.inside.parties (length c.as_mut_slice.result.now) c.self.inside.view.desks c.into_desks.result.items c.logs.inside.ends.items count (sym c.into_desks.ensures)
    (ends_of_logs c.self.inside.view.desks c.logs.inside.ends.items c.self.inside.parties l.many l.keepers c.self.invariant places)

pub returns : goal.returns
returns g c =
    same_told c.into_desks.result.items c.args.self.view.desks c.as_mut_slice.result.now c.args.passes.items _ _ _ _ (c.into_desks.ensures ∙ ap (λ (o : OfficeSeen). o.view.desks) c.self.view_is) c.as_mut_slice.ensures.value c.close_all.ensures
