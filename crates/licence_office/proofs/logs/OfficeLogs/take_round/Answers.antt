use Rattle.std.proofs.Common.{◌≡◌, ◌++◌, List, All, length, take, drop, sym, subst, arith}
use Rattle.licence_office.proofs.Dealt.{whole_again}
use Rattle.licence_office.proofs.Rounds.{still_kept}
use Rattle.licence_office.specs.declared.logs.DeskEnd.{DeskEnd}
use Rattle.licence_office.specs.Rooms.{AreTaken, HasPlace, HasRoom}
use Rattle.licence_office.proofs.logs.OfficeLogs.take_round.Goals as goal

pub invariant_of-self : goal.invariant_of-self
invariant_of-self g c =
    let ends = c.self.inside.ends in
    let new : List DeskEnd = c.take_each-taken.new.ends in
    let taken : AreTaken ends.items new = subst (λ (z : List DeskEnd). AreTaken z new) c.as_mut_slice.ensures.value c.take_each-taken.ensures.taken in
    let ok = ends.ok.0 in let lent = c.as_mut_slice.ensures.len in let same = c.take_each-taken.auto.ends in
    let whole : take ends.len (new ++ drop (length new) ends.items) ≡ new = whole_again new ends.items ends.len ok (omega (arith, ok, lent, same)) in
    let kept = still_kept ends.items new taken c.self.inside.parties c.self.inside.told c.self.invariant.places c.self.invariant.told in
    record {
      places = subst (All (HasPlace c.self.inside.parties)) (sym whole) kept.0;
      told = subst (λ (z : List DeskEnd). HasRoom (length z) c.self.inside.told) (sym whole) kept.1;
    }
