use Rattle.std.proofs.Common.{◌+◌, ◌++◌, ◌∷◌, [], List, Vec, Global, length, sym, subst, arith}
use Rattle.feature_desk.specs.Sitters.{DeskView, Sitter}
use Rattle.licence_office.specs.declared.logs.DeskEnd.{DeskEnd}
use Rattle.licence_office.proofs.Dealt.{AreOpened, dealt_are_at, has_room, opened_more}
use Rattle.licence_office.specs.Rooms.{IsEndOf}
use Rattle.licence_office.proofs.making.open_all.Goals as goal

pub hand_out-requires-clause-room : goal.hand_out-requires-clause-room
hand_out-requires-clause-room g c =
    has_room c.args.sets.now (length c.args.parties.now) c.args.pools.now c.loop-pool.pool-index c.loop-pool.desks.items c.loop-pool.ends.items c.loop-pool.parties c.loop-pool.invariant.opened c.loop-pool-test.true

pub close_all-end-requires-clause-ready : goal.close_all-end-requires-clause-ready
close_all-end-requires-clause-ready g c = dealt_are_at c.loop-pool.desks.items c.loop-pool.parties c.loop-pool.invariant.opened.dealt

pub loop-pool-preserved : goal.loop-pool-preserved
loop-pool-preserved g c =
    let i = c.loop-pool.invariant in
    let d : DeskView = c.in-Ok.desk in
    let e : DeskEnd = record { keeper = c.in-Ok.keeper; room = c.hand_out.new.passes } in
    let n = length c.args.parties.now in
    let passes : Vec Sitter Global = c.in-Ok.passes in
    let ok = passes.ok.0 in let fit = passes.ok.1 in
    let count = c.in-Ok.ensures.passes.0 in
    let room = c.hand_out.ensures.room in
    let end : IsEndOf n d e = record { parties = c.in-Ok.ensures.desk.parties; keeper = c.in-Ok.ensures.keeper; empty = c.hand_out.ensures.empty; room = omega (arith, fit, count, room) } in
    let more : AreOpened c.args.sets.now n c.args.pools.now (c.loop-pool.pool-index + 1) (c.loop-pool.desks.items ++ d ∷ []) (c.loop-pool.ends.items ++ e ∷ []) c.hand_out.new.parties
    = opened_more c.args.sets.now n c.args.pools.now c.loop-pool.pool-index c.loop-pool.desks.items c.loop-pool.ends.items c.loop-pool.parties i.opened c.pool-item.result d e passes.items c.hand_out.new.parties
    c.loop-pool-test.true c.pool-item.is c.in-Ok.ensures.desk (omega (arith, ok, count)) c.in-Ok.ensures.passes.1 c.hand_out.ensures.handed end in
    let a = i.desks_room in let b = i.ends_room in
    let cap = c.push_reserved.ensures.capacity in let cup = c.push_reserved-in-Ok.ensures.capacity in
    record {
      opened = subst (λ (z : List DeskView). AreOpened c.args.sets.now n c.args.pools.now (c.loop-pool.pool-index + 1) z c.push_reserved-in-Ok.new.self.items c.hand_out.new.parties) (sym {A = List DeskView} c.push_reserved.ensures.items)
          (subst (λ (z : List DeskEnd). AreOpened c.args.sets.now n c.args.pools.now (c.loop-pool.pool-index + 1) (c.loop-pool.desks.items ++ d ∷ []) z c.hand_out.new.parties) (sym {A = List DeskEnd} c.push_reserved-in-Ok.ensures.items) more);
      desks_room = omega (arith, a, cap);
      ends_room = omega (arith, b, cup);
    }
