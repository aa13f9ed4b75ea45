use Rattle.std.proofs.Common.{◌≡◌, [], ◌∷◌, arith, ap, ◌∙◌, sym}
use Rattle.turn_lock.proofs.Join.{joins}
use Rattle.pass_roles.proofs.Members.{all_cut, all_gone, front_of, moved_over}
use Rattle.turn_lock.proofs.Seats.{joined_on}
use Rattle.turn_lock.proofs.turns.Turns.gather.Goals as goal

pub loop-pass-init : goal.loop-pass-init
loop-pass-init g c = let e = front_of _ _ _ _ c.pop.ensures.items c.in-Some.is in
    let a = all_cut (λ p. p.lock ≡ c.args.self.now.id) _ _ _ e c.requires.lock in
    (c.into_seat-seat.ensures.lock ∙ ap (λ z. z.table) a.1, a.0, (c.in-Some.first, [], e, c.into_seat-seat.ensures.idle))

pub join_seat-requires : goal.join_seat-requires
join_seat-requires g c = let i = c.loop-pass.invariant in let id = sym (ap (λ z. z.id.table) c.self.view_is) in let idle = c.into_seat.ensures.idle in
    let e = front_of _ _ _ _ c.pop-in-loop-pass.ensures.items c.in-Some-pop.is in
    let a = all_cut (λ p. p.lock ≡ c.args.self.now.id) _ _ _ e i.1 in (
      i.0 ∙ id,
      c.into_seat.ensures.lock ∙ (ap (λ z. z.table) a.1 ∙ id),
      ap (λ m. m.1) idle,
      (let inv = c.self.invariant in omega arith),
      joins _ _ _ _ _ _ _ _ _ _ i.2.0.number c.in-Some-pop.pass.number (ap (λ m. m.0.role) i.2.3) (ap (λ m. m.0.role) idle) (ap (λ m. m.0.stage) i.2.3) (ap (λ m. m.0.stage) idle),
    )

pub loop-pass-preserved : goal.loop-pass-preserved
loop-pass-preserved g c = let i = c.loop-pass.invariant in
    let e = front_of _ _ _ _ c.pop-in-loop-pass.ensures.items c.in-Some-pop.is in
    let a = all_cut (λ p. p.lock ≡ c.args.self.now.id) _ _ _ e i.1 in let j = c.join_seat.ensures in (
      j.0 ∙ i.0,
      a.0,
      (i.2.0, c.in-Some-pop.pass ∷ i.2.1, moved_over _ _ _ _ _ _ i.2.2 e, joined_on c.loop-pass.seat.me c.join_seat.new.seat.me c.into_seat.result.me i.2.0 c.in-Some-pop.pass i.2.1 i.2.3 c.into_seat.ensures.idle j.2),
    )

pub returns-clause-all : goal.returns-clause-all
returns-clause-all g c = let i = c.loop-pass.invariant in let none = rw c.in_default-pop.is at c.pop-in-loop-pass.ensures.cases in
    (i.2.0, i.2.1, all_gone c.loop-pass.passes.items _ _ (sym c.loop-pass.passes.ok.0 ∙ none.0) i.2.2, i.2.3)
