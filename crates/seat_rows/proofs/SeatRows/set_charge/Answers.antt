use Rattle.std.proofs.Common.{refl}
use Rattle.options_machine.specs.declared.rows.Holder.{Holder}
use Rattle.seat_rows.specs.Seats.{charged_if}
use Rattle.seat_rows.proofs.Kept.{charged_if_there, map_if_there, row_is}
use Rattle.seat_rows.proofs.SeatRows.set_charge.Goals as goal

pub invariant_of-self : goal.invariant_of-self
invariant_of-self c =
    rw c.set_charge.ensures (charged_if_there (λ b (h : Holder). charged_if b c.args.charge h) (λ h. refl) (λ h. refl) c.self.inside.rows.items c.self.inside.held c.self.inside.beats c.args.party c.index_mut.result.now c.self.invariant
    (row_is c.args.self.now c.self.inside.rows.items c.args.party c.index_mut.result.now c.self.view_is c.requires c.index_mut.ensures.value))

pub returns : goal.returns
returns c =
    rw c.set_charge.ensures (map_if_there (λ b (h : Holder). charged_if b c.args.charge h) (λ h. refl) c.args.self.now c.self.inside.rows.items c.self.inside.held c.self.inside.beats c.args.party c.index_mut.result.now c.self.view_is c.self.invariant
    (row_is c.args.self.now c.self.inside.rows.items c.args.party c.index_mut.result.now c.self.view_is c.requires c.index_mut.ensures.value))
