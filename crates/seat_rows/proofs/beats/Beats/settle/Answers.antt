use Rattle.std.proofs.Common.{◌≡◌, ◌+◌, ◌<◌, ◌∙◌, None, length, rules, set, sym}
use Rattle.seat_rows.proofs.Marks.{due_fewer, due_taken, due_within, none_come}
use Rattle.seat_rows.specs.Beats.{due_marks}
use Rattle.seat_rows.proofs.beats.Beats.settle.Goals as goal

pub returns-in_err-party-clause-none : goal.returns-in_err-party-clause-none
returns-in_err-party-clause-none c =
    let none : due_marks c.args.over c.self.inside.marks.items ≡ 0 = none_come c.self.inside.marks.items c.self.inside.clock c.args.over c.self.invariant (sym c.settle.ensures.first ∙ c.in_err-party.was) in
    search rules

pub index_mut-requires : goal.index_mut-requires
index_mut-requires c =
    let within : c.in_ok-party.party < length c.self.inside.marks.items = due_within c.self.inside.marks.items c.self.inside.clock c.args.over c.in_ok-party.party c.self.invariant (sym c.settle.ensures.first ∙ c.in_ok-party.was) in
    search rules

pub invariant_of-self-2 : goal.invariant_of-self-2
invariant_of-self-2 c =
    due_taken c.self.inside.marks.items c.self.inside.clock c.args.over c.in_ok-party.party c.settle.new.self c.self.invariant (sym c.settle.ensures.first ∙ c.in_ok-party.was) c.in_ok-party.ensures.taken c.settle.ensures.kept

pub returns-clause-inside : goal.returns-clause-inside
returns-clause-inside c =
    let within : c.in_ok-party.party < length c.self.inside.marks.items = due_within c.self.inside.marks.items c.self.inside.clock c.args.over c.in_ok-party.party c.self.invariant (sym c.settle.ensures.first ∙ c.in_ok-party.was) in
    search rules

pub returns-clause-fewer : goal.returns-clause-fewer
returns-clause-fewer c =
    let fewer : due_marks c.args.over (set c.self.inside.marks.items c.in_ok-party.party None) + 1 ≡ due_marks c.args.over c.self.inside.marks.items =
    due_fewer c.self.inside.marks.items c.self.inside.clock c.args.over c.in_ok-party.party c.self.invariant (sym c.settle.ensures.first ∙ c.in_ok-party.was)
    in
    search rules
