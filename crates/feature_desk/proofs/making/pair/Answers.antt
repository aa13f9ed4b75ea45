use Rattle.std.proofs.Common.{◌≡◌, ℕ, ◌+◌, ◌++◌, ◌∷◌, [], List, reverse, length, vec_len, ap, sym, ◌∙◌, subst, arith, length-append}
use Rattle.pass_roles.proofs.Members.{front_of}
use Rattle.feature_desk.specs.Sitters.{DeskView, Sitter, newcomer}
use Rattle.feature_desk.proofs.Pairs.{all_made, newcomer_fits, newcomers, newcomers_own, one_more, popped_is, popped_left}
use Rattle.feature_desk.proofs.making.pair.Goals as goal

pub of-requires : goal.of-requires
of-requires c =
    let d : DeskView = record { lock = c.args.turns.now; seats = c.args.seats.now } in
    let i = c.loop-ticket.invariant in
    let e = front_of _ _ _ _ c.pop.ensures.items c.in-Some.is in
    let f = front_of _ _ _ _ c.pop-in-Some.ensures.items c.in-Some-pop.is in
    let n : length c.loop-ticket.tickets.items ≡ length c.pop.new.self.items + 1 = ap length e ∙ length-append c.pop.new.self.items (c.in-Some.ticket ∷ []) in
    let m : length c.loop-ticket.outs.items ≡ length c.pop-in-Some.new.self.items + 1 = ap length f ∙ length-append c.pop-in-Some.new.self.items (c.in-Some-pop.out ∷ []) in
    let a = c.loop-ticket.tickets.ok.0 in let x = c.loop-ticket.outs.ok.0 in let z = i.0 in
    newcomer_fits d (length c.pop.new.self.items) (length c.pop-in-Some.new.self.items) c.in-Some.ticket c.in-Some-pop.out
    (popped_is (λ (k : ℕ). (newcomer d k).ticket) c.loop-ticket.tickets.items c.pop.new.self.items c.in-Some.ticket e i.1)
    (popped_is (λ (k : ℕ). (newcomer d k).seat) c.loop-ticket.outs.items c.pop-in-Some.new.self.items c.in-Some-pop.out f i.2) (omega (arith, n, m, a, x, z))

pub loop-ticket-preserved : goal.loop-ticket-preserved
loop-ticket-preserved c =
    let d : DeskView = record { lock = c.args.turns.now; seats = c.args.seats.now } in
    let i = c.loop-ticket.invariant in
    let e = front_of _ _ _ _ c.pop.ensures.items c.in-Some.is in
    let f = front_of _ _ _ _ c.pop-in-Some.ensures.items c.in-Some-pop.is in
    let t = popped_is (λ (n : ℕ). (newcomer d n).ticket) c.loop-ticket.tickets.items c.pop.new.self.items c.in-Some.ticket e i.1 in
    let o = popped_is (λ (n : ℕ). (newcomer d n).seat) c.loop-ticket.outs.items c.pop-in-Some.new.self.items c.in-Some-pop.out f i.2 in
    let n : length c.loop-ticket.tickets.items ≡ length c.pop.new.self.items + 1 = ap length e ∙ length-append c.pop.new.self.items (c.in-Some.ticket ∷ []) in
    let m : length c.loop-ticket.outs.items ≡ length c.pop-in-Some.new.self.items + 1 = ap length f ∙ length-append c.pop-in-Some.new.self.items (c.in-Some-pop.out ∷ []) in
    let a = c.loop-ticket.tickets.ok.0 in let b = c.pop.new.self.ok.0 in let x = c.loop-ticket.outs.ok.0 in let y = c.pop-in-Some.new.self.ok.0 in
    let z = i.0 in let sum = i.4 in let room = i.5 in
    let l = c.push_reserved.ensures.len in let cap = c.push_reserved.ensures.capacity in
    let same : length c.pop-in-Some.new.self.items ≡ length c.pop.new.self.items = omega (arith, n, m, a, b, x, y, z) in
    let who : c.of.result ≡ newcomer d (length c.pop.new.self.items) = c.of.ensures ∙ (λ j. record { ticket = t j; seat = (o ∙ ap (λ (k : ℕ). (newcomer d k).seat) same) j }) in
    let made : reverse c.loop-ticket.passes.items ≡ newcomers d (length c.pop.new.self.items + 1) (length c.loop-ticket.passes.items) = i.3 ∙ ap (λ (k : ℕ). newcomers d k (length c.loop-ticket.passes.items)) (omega (arith, n, a)) in
    let more = one_more d (length c.pop.new.self.items) c.loop-ticket.passes.items c.of.result who made in (
      omega (arith, n, m, a, b, x, y, z),
      popped_left (λ (k : ℕ). (newcomer d k).ticket) c.loop-ticket.tickets.items c.pop.new.self.items c.in-Some.ticket e i.1,
      popped_left (λ (k : ℕ). (newcomer d k).seat) c.loop-ticket.outs.items c.pop-in-Some.new.self.items c.in-Some-pop.out f i.2,
      subst (λ (z : List Sitter). reverse z ≡ newcomers d (vec_len c.pop.new.self) (length z)) (sym c.push_reserved.ensures.items) (more ∙ ap (λ (k : ℕ). newcomers d k (length (c.loop-ticket.passes.items ++ c.of.result ∷ []))) (sym b)),
      omega (arith, sum, l, n, a, b),
      omega (arith, cap, room),
      c.pop.ensures.capacity ∙ i.6,
    )

pub returns-clause-passes : goal.returns-clause-passes
returns-clause-passes c =
    let d : DeskView = record { lock = c.args.turns.now; seats = c.args.seats.now } in
    let i = c.loop-ticket.invariant in
    let none = rw c.in_default.is at c.pop.ensures.cases in let zero = none.0 in
    let sum = i.4 in let k = c.loop-ticket.passes.ok.0 in let r = c.reverse.new.self.ok.0 in
    let t = all_made d c.loop-ticket.passes.items c.reverse.new.self.items (vec_len c.args.tickets.now) c.reverse.ensures.items
    (i.3 ∙ ap (λ (n : ℕ). newcomers d n (length c.loop-ticket.passes.items)) zero) (omega (arith, zero, sum, k)) in
    (r ∙ t.0, t.1)

pub returns-clause-own : goal.returns-clause-own
returns-clause-own c =
    let d : DeskView = record { lock = c.args.turns.now; seats = c.args.seats.now } in
    newcomers_own d c.reverse.new.self.items (returns-clause-passes c).1
