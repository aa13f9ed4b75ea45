use Rattle.std.proofs.Common.{◌≡◌, ℕ, ◌+◌, ◌++◌, ◌∷◌, [], List, reverse, length, vec_len, ap, sym, ◌∙◌, subst, arith, length-append}
use Rattle.stat_board.specs.Fronts.{Front}
use Rattle.pass_roles.proofs.Members.{all_cut, front_of}
use Rattle.turn_lock.specs.Passes.{Lock, unused_lock_pass}
use Rattle.desk_book.specs.declared.book.DeskLaw.{DeskLaw}
use Rattle.desk_book.specs.Askers.{Asker, asker_of, newcomer}
use Rattle.desk_book.proofs.Pairs.{all_made, newcomers, one_more, popped_is, popped_left}
use Rattle.desk_book.proofs.making.pair.Goals as goal

pub loop-ticket-preserved : goal.loop-ticket-preserved
loop-ticket-preserved c =
    let l : Lock DeskLaw = c.args.turns.now in
    let i = c.loop-ticket.invariant in
    let e = front_of _ _ _ _ c.pop.ensures.items c.in-Some.is in
    let f = front_of _ _ _ _ c.pop-in-Some.ensures.items c.in-Some-pop.is in
    let t = popped_is (λ (n : ℕ). unused_lock_pass l n) c.loop-ticket.tickets.items c.pop.new.self.items c.in-Some.ticket e i.1 in
    let v = all_cut (λ (b : Front). b ≡ l.law.board) c.loop-ticket.views.items c.pop-in-Some.new.self.items c.in-Some-pop.view f i.2 in
    let n : length c.loop-ticket.tickets.items ≡ length c.pop.new.self.items + 1 = ap length e ∙ length-append c.pop.new.self.items (c.in-Some.ticket ∷ []) in
    let m : length c.loop-ticket.views.items ≡ length c.pop-in-Some.new.self.items + 1 = ap length f ∙ length-append c.pop-in-Some.new.self.items (c.in-Some-pop.view ∷ []) in
    let a = c.loop-ticket.tickets.ok.0 in let b = c.pop.new.self.ok.0 in let x = c.loop-ticket.views.ok.0 in let y = c.pop-in-Some.new.self.ok.0 in
    let z = i.0 in let sum = i.4 in let room = i.5 in
    let k = c.push_reserved.ensures.len in let cap = c.push_reserved.ensures.capacity in
    let who : c.of.result ≡ newcomer l (length c.pop.new.self.items) = c.of.ensures ∙ (λ j. asker_of (t j) 0 (v.1 j)) in
    let made : reverse c.loop-ticket.passes.items ≡ newcomers l (length c.pop.new.self.items + 1) (length c.loop-ticket.passes.items) = i.3 ∙ ap (λ (q : ℕ). newcomers l q (length c.loop-ticket.passes.items)) (omega (arith, n, a)) in
    let more = one_more l (length c.pop.new.self.items) c.loop-ticket.passes.items c.of.result who made in (
      omega (arith, n, m, a, b, x, y, z),
      popped_left (λ (q : ℕ). unused_lock_pass l q) c.loop-ticket.tickets.items c.pop.new.self.items c.in-Some.ticket e i.1,
      v.0,
      subst (λ (w : List Asker). reverse w ≡ newcomers l (vec_len c.pop.new.self) (length w)) (sym c.push_reserved.ensures.items) (more ∙ ap (λ (q : ℕ). newcomers l q (length (c.loop-ticket.passes.items ++ c.of.result ∷ []))) (sym b)),
      omega (arith, sum, k, n, a, b),
      omega (arith, cap, room),
      c.pop.ensures.capacity ∙ i.6,
    )

pub returns-clause-passes : goal.returns-clause-passes
returns-clause-passes c =
    let l : Lock DeskLaw = c.args.turns.now in
    let i = c.loop-ticket.invariant in
    let none = rw c.in_default.is at c.pop.ensures.cases in let zero = none.0 in
    let sum = i.4 in let k = c.loop-ticket.passes.ok.0 in let r = c.reverse.new.self.ok.0 in
    let t = all_made l c.loop-ticket.passes.items c.reverse.new.self.items (vec_len c.args.tickets.now) c.reverse.ensures.items
    (i.3 ∙ ap (λ (n : ℕ). newcomers l n (length c.loop-ticket.passes.items)) zero) (omega (arith, zero, sum, k)) in
    (r ∙ t.0, t.1)
