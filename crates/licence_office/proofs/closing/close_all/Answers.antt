use Rattle.std.proofs.Common.{◌++◌, ◌∷◌, [], List, length, ap, sym, ◌∙◌, subst, arith}
use Rattle.pass_roles.proofs.Members.{front_of}
use Rattle.desk_book.specs.declared.end.DeskLog.{DeskLog}
use Rattle.feature_desk.specs.declared.closing.DeskTally.{DeskTally}
use Rattle.licence_office.proofs.Ended.{Closes, closable_last, closes_all, closes_more, closes_none, each_has_one}
use Rattle.licence_office.proofs.Ends.{ends_parted}
use Rattle.licence_office.proofs.closing.close_all.Goals as goal

pub loop-end-init : goal.loop-end-init
loop-end-init g c =
    let o = c.args.opened in
    let t = c.requires.told in
    let a = ap length t.no_tallies in let b = o.told.tallies.ok.0 in
    let d = ap length t.no_logs in let e = o.told.logs.ok.0 in
    record {
      closes = closes_none o.desks.items c.args.parties.now o.told.tallies.items o.told.logs.items t.no_tallies t.no_logs c.requires.ready;
      many = (λ i. length c.args.parties.now);
      ends_are = c.requires.ends;
      tally_count = omega (arith, a, b);
      log_count = omega (arith, d, e);
      tally_room = t.tallies;
      log_room = t.logs;
    }

pub take_in-requires-clause-some : goal.take_in-requires-clause-some
take_in-requires-clause-some g c =
    let cases = c.in-Some-pop.ensures.cases in let ok = c.loop-end.desks.ok.0 in
    each_has_one c.loop-end.desks.items c.loop-end.parties (omega (arith, cases, ok)) c.loop-end.invariant.closes.ready

pub take_in-requires-clause-empty : goal.take_in-requires-clause-empty
take_in-requires-clause-empty g c =
    (ends_parted _ _ _ _ _ _ _ (front_of _ _ _ _ c.pop-in-Some.ensures.items c.in-Some-pop.is) (front_of _ _ _ _ c.pop.ensures.items c.in-Some.is) c.loop-end.invariant.ends_are).1.empty

pub take_in-requires-clause-room : goal.take_in-requires-clause-room
take_in-requires-clause-room g c =
    let one = (ends_parted _ _ _ _ _ _ _ (front_of _ _ _ _ c.pop-in-Some.ensures.items c.in-Some-pop.is) (front_of _ _ _ _ c.pop.ensures.items c.in-Some.is) c.loop-end.invariant.ends_are).1.room in
    let many = c.loop-end.invariant.many in
    omega (arith, one, many)

pub close_with_log-log-requires-clause-count : goal.close_with_log-log-requires-clause-count
close_with_log-log-requires-clause-count g c =
    let one = (ends_parted _ _ _ _ _ _ _ (front_of _ _ _ _ c.pop-in-Some.ensures.items c.in-Some-pop.is) (front_of _ _ _ _ c.pop.ensures.items c.in-Some.is) c.loop-end.invariant.ends_are).1.parties in
    let many = c.loop-end.invariant.many in let count = c.take_in.ensures.taken.count in let ok = c.take_in.new.passes.ok.0 in
    omega (arith, one, many, count, ok)

pub close_with_log-log-requires-clause-all : goal.close_with_log-log-requires-clause-all
close_with_log-log-requires-clause-all g c =
    closable_last c.loop-end.desks.items c.pop-in-Some.new.self.items c.in-Some-pop.desk c.loop-end.parties c.take_in.new.parties c.take_in.new.passes.items c.in-Some.end.room (front_of _ _ _ _ c.pop-in-Some.ensures.items c.in-Some-pop.is) c.loop-end.invariant.closes.ready
    c.take_in.ensures.taken

pub close_with_log-log-requires-clause-keeper : goal.close_with_log-log-requires-clause-keeper
close_with_log-log-requires-clause-keeper g c =
    (ends_parted _ _ _ _ _ _ _ (front_of _ _ _ _ c.pop-in-Some.ensures.items c.in-Some-pop.is) (front_of _ _ _ _ c.pop.ensures.items c.in-Some.is) c.loop-end.invariant.ends_are).1.keeper

pub loop-end-preserved : goal.loop-end-preserved
loop-end-preserved g c =
    let i = c.loop-end.invariant in
    let r = c.close_with_log-log.result in
    let told = c.close_with_log-log.ensures in
    let f = front_of _ _ _ _ c.pop-in-Some.ensures.items c.in-Some-pop.is in
    let closes : Closes c.args.opened.desks.items c.args.parties.now c.pop-in-Some.new.self.items c.take_in.new.parties (c.loop-end.tallies.items ++ r.0 ∷ []) (c.loop-end.logs.items ++ r.1 ∷ [])
    = closes_more c.args.opened.desks.items c.loop-end.desks.items c.pop-in-Some.new.self.items c.in-Some-pop.desk c.args.parties.now c.loop-end.parties c.take_in.new.parties c.take_in.new.passes.items c.in-Some.end.room
    c.loop-end.tallies.items c.loop-end.logs.items r.0 r.1 told.0 f i.closes c.take_in.ensures.taken told.1 told.2 in
    let desks = c.in-Some-pop.ensures.cases in
    let a = i.tally_count in let b = i.log_count in let room = i.tally_room in let space = i.log_room in
    let l = c.push_reserved.ensures.len in let m = c.push_reserved-in-Some.ensures.len in
    let cap = c.push_reserved.ensures.capacity in let cup = c.push_reserved-in-Some.ensures.capacity in
    record {
      closes = subst (λ (z : List DeskTally). Closes c.args.opened.desks.items c.args.parties.now c.pop-in-Some.new.self.items c.take_in.new.parties z c.push_reserved-in-Some.new.self.items) (sym {A = List DeskTally} c.push_reserved.ensures.items)
          (subst (λ (z : List DeskLog). Closes c.args.opened.desks.items c.args.parties.now c.pop-in-Some.new.self.items c.take_in.new.parties (c.loop-end.tallies.items ++ r.0 ∷ []) z) (sym {A = List DeskLog} c.push_reserved-in-Some.ensures.items) closes);
      many = c.take_in.ensures.taken.same ∙ i.many;
      ends_are = (ends_parted _ _ _ _ _ _ _ f (front_of _ _ _ _ c.pop.ensures.items c.in-Some.is) i.ends_are).0;
      tally_count = omega (arith, a, l, desks);
      log_count = omega (arith, b, m, desks);
      tally_room = omega (arith, room, cap);
      log_room = omega (arith, space, cup);
    }

pub returns : goal.returns
returns g c =
    let i = c.loop-end.invariant in
    let none = rw c.in_default.is at c.pop.ensures.cases in
    let zero = none.0 in
    let many = i.ends_are.many in let ok = c.loop-end.ends.ok.0 in
    closes_all c.args.opened.desks.items c.args.parties.now c.loop-end.desks.items c.loop-end.parties c.loop-end.tallies.items c.reverse.new.self.items c.loop-end.logs.items c.reverse-2.new.self.items _ _ (omega (arith, zero, many, ok)) i.closes
    c.reverse.ensures.items c.reverse-2.ensures.items c.reverse.new.self.ok.0 c.reverse-2.new.self.ok.0
