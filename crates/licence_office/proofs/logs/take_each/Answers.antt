use Rattle.std.proofs.Common.{◌≡◌, ◌+◌, ◌<◌, ◌∷◌, ◌++◌, [], get_or, length, map, sum_by, ap, sym, ◌∙◌, arith, append-nil, length-append, ℕ}
use Rattle.options_machine.specs.declared.reply.Entry.{Entry}
use Rattle.licence_office.specs.declared.logs.DeskEnd.{DeskEnd}
use Rattle.licence_office.specs.Rooms.{taken_at}
use Rattle.licence_office.proofs.Rounds.{count_more, taken_more}
use Rattle.licence_office.proofs.logs.take_each.Goals.{then-take, else-take}
use Rattle.licence_office.proofs.logs.take_each.Goals as goal

pub loop-end-preserved : goal.loop-end-preserved
loop-end-preserved g c =
    let i = c.loop-end.invariant in
    let e = c.take.ensures in
    let within = i.within in
    let ends = c.loop-end.ends in
    let at = c.loop-end.end-index in
    let test = c.loop-end-test.true in let same_many = c.loop-end.auto.ends in
    let lt : at < length ends = omega (arith, test, same_many) in
    let first : DeskEnd = c.end-item.result in
    let was : DeskEnd = get_or ends at first in
    let is : DeskEnd = c.take.new.self in
    let total : ℕ = sum_by length (map taken_at c.args.ends.now) in
    elim c.if-take.branch [
      | then-take w ↦
          (let k = w.count-is in
          let more : (x : Entry) × (taken_at is ≡ taken_at was ++ x ∷ []) = rw w.if-take.true at e.taken in
          record {
            taken = taken_more c.args.ends.now ends at first is lt i.taken e.keeper e.room (more.0 ∷ [], more.1);
            count = count_more c.args.ends.now ends at first is lt total c.loop-end.count 1 i.count (ap length more.1 ∙ length-append (taken_at was) (more.0 ∷ [])) ∙ ap (λ (n : ℕ). total + n) (sym k);
            within = omega (arith, k, within);
          })
      | else-take w ↦
          (let k = w.count-is in
          let same : taken_at is ≡ taken_at was = rw w.if-take.false at e.taken in
          let long = ap length same in
          record {
            taken = taken_more c.args.ends.now ends at first is lt i.taken e.keeper e.room ([], same ∙ sym (append-nil (taken_at was)));
            count = count_more c.args.ends.now ends at first is lt total c.loop-end.count 0 i.count (omega (arith, long)) ∙ ap (λ (n : ℕ). total + n) (omega (arith, k));
            within = omega (arith, k, within);
          })
    ]
