use Rattle.std.proofs.Common.{◌∙◌, refl, sym}
use Rattle.options_machine.specs.declared.rows.Holder.{Holder}
use Rattle.options_machine.specs.Apply.{told_if}
use Rattle.seat_rows.proofs.Kept.{map_if_there, row_is, told_if_there}
use Rattle.seat_rows.proofs.SeatRows.tell.Goals as goal

pub invariant_of-self : goal.invariant_of-self
invariant_of-self c =
    rw c.tell.ensures.told (told_if_there (λ b (h : Holder). told_if b c.args.now h) c.args.now (λ h. refl) (λ h. refl) c.self.inside.rows.items c.self.inside.held c.self.inside.beats c.note.new.self c.args.party c.index_mut.result.now c.self.invariant
    (row_is c.args.self.now c.self.inside.rows.items c.args.party c.index_mut.result.now c.self.view_is c.requires c.index_mut.ensures.value)
    (sym c.tell.ensures.held ∙ c.if-tell.true) c.note.ensures)

pub returns-then-tell : goal.returns-then-tell
returns-then-tell c =
    rw c.tell.ensures.told (map_if_there (λ b (h : Holder). told_if b c.args.now h) (λ h. refl) c.args.self.now c.self.inside.rows.items c.self.inside.held c.self.inside.beats c.args.party c.index_mut.result.now c.self.view_is c.self.invariant
    (row_is c.args.self.now c.self.inside.rows.items c.args.party c.index_mut.result.now c.self.view_is c.requires c.index_mut.ensures.value))

pub returns-else-tell : goal.returns-else-tell
returns-else-tell c =
    rw c.tell.ensures.told (map_if_there (λ b (h : Holder). told_if b c.args.now h) (λ h. refl) c.args.self.now c.self.inside.rows.items c.self.inside.held c.self.inside.beats c.args.party c.index_mut.result.now c.self.view_is c.self.invariant
    (row_is c.args.self.now c.self.inside.rows.items c.args.party c.index_mut.result.now c.self.view_is c.requires c.index_mut.ensures.value))
