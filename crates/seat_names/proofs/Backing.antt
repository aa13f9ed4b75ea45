-- The loop on the way out.
use Rattle.std.proofs.Common.{◌≡◌, ℕ, ◌+◌, ◌*◌, ◌<◌, List, [], ◌∷◌, ◌++◌, length, eqb, refl, sym, ap, ◌∙◌, subst, length-append, arith}
use Rattle.kex_core.specs.declared.place.Place.{Place}
use Rattle.kex_core.specs.declared.place.Place.TheVariants.{Out, Dec, Mark, Look, Spin, Naming, Named, Holding, Clearing, Inc, Unmark}
use Rattle.kex_core.specs.Nets.{Plan, Valid}
use Rattle.kex_core.specs.Worlds.{due}
use Rattle.kex_core.specs.Costs.{depth}
use Rattle.kex_core.specs.Shapes.{plan}
use Rattle.kex_core.proofs.Sums.{chosen}
use Rattle.kex_words.specs.Passes.{TableNet, Pass, IsOut, kind_of, got_after, leaving, outside}
use Rattle.kex_words.specs.Moves.{Moved}
use Rattle.kex_words.specs.Sorts.{pass_in_back, kind_in_back}
use Rattle.kex_words.specs.declared.passes.Back.{Back}
use Rattle.seat_names.specs.Ways.{Leads, back_at}
use Rattle.seat_names.proofs.Leading.{leads_more}
use Rattle.seat_names.proofs.Ranks.{back_step}
use Rattle.seat_names.proofs.Moving.{moved_table, moved_number, met, moved_place, moved_got, stood_placed, rests_out}

-- a place on the way out: its own access is due, nothing is taken there, and it is not Out yet
pub record IsBack (net : Plan) (p : ℕ) (d : Place) : Type 0 where
  pub due_is : due net p d ≡ d
  pub got : (l : List ℕ) → got_after d l ≡ l
  pub more : 0 < back_at net p d

pub holding_back : (net : Plan) (p : ℕ) (s : ℕ) → IsBack net p (Holding s)
holding_back net p s = record { due_is = refl; got = λ l. refl; more = chosen (λ (n : ℕ). 0 < n + 2 * depth net p) (eqb (s + 1) net.width) 1 2 (λ _. omega arith) (λ _. omega arith) }

pub leaving_back : (net : Plan) (p : ℕ) (d : Place) → kind_of d ≡ leaving → IsBack net p d
leaving_back net p (Clearing s) k = record { due_is = refl; got = λ l. refl; more = omega arith }
leaving_back net p (Inc j) k = record { due_is = refl; got = λ l. refl; more = omega arith }
leaving_back net p (Unmark j) k = record { due_is = refl; got = λ l. refl; more = omega arith }
leaving_back net p Out k = cc
leaving_back net p (Dec j) k = cc
leaving_back net p (Mark j) k = cc
leaving_back net p (Look j) k = cc
leaving_back net p (Spin j) k = cc
leaving_back net p (Naming i) k = cc
leaving_back net p (Named s) k = cc
leaving_back net p (Holding s) k = cc

-- one access on the way out
module _ (p q : Pass) (valid : Valid (plan p.table.net)) (at : IsBack (plan p.table.net) p.number p.place) (m : Moved p q) where
  pub falls : back_at (plan p.table.net) p.number q.place + 1 ≡ back_at (plan p.table.net) p.number p.place
  falls = ap (λ (z : Place). back_at (plan p.table.net) p.number z + 1) (moved_place p q m p.place at.due_is)
      ∙ back_step (plan p.table.net) valid p.number m.inside p.place (met p q m) (stood_placed p q m) at.more

  pub same_got : q.got ≡ p.got
  same_got = moved_got p q m p.place at.due_is ∙ at.got p.got

-- the accesses so far
pub record Backing (t : TableNet) (start : Pass) (b : Back) : Type 0 where
  pub table : (pass_in_back b).table ≡ t
  pub same : ((pass_in_back b).table ≡ start.table) × ((pass_in_back b).number ≡ start.number)
  pub got : (pass_in_back b).got ≡ start.got
  pub kind : kind_in_back b ≡ kind_of (pass_in_back b).place
  pub rests : kind_of (pass_in_back b).place ≡ outside → IsOut (pass_in_back b)
  pub way : List Pass
  pub leads : Leads start way (pass_in_back b)
  pub count : length way + back_at (plan t.net) start.number (pass_in_back b).place ≡ back_at (plan t.net) start.number start.place

-- the card went home
pub backing_first : (t : TableNet) (valid : Valid (plan t.net)) (start : Pass) (s : ℕ) (b : Back) → start.table ≡ t → start.place ≡ Holding s → Moved start (pass_in_back b) → kind_in_back b ≡ kind_of (pass_in_back b).place → Backing t start b
backing_first t valid start s b e h m k =
    let q = pass_in_back b in
    let v : Valid (plan start.table.net) = subst (λ (z : TableNet). Valid (plan z.net)) (sym e) valid in
    let at : IsBack (plan start.table.net) start.number start.place = subst (IsBack (plan start.table.net) start.number) (sym h) (holding_back (plan start.table.net) start.number s) in
    record {
      table = moved_table start q m ∙ e;
      same = (moved_table start q m, moved_number start q m);
      got = same_got start q v at m;
      kind = k;
      rests = rests_out start q m;
      way = q ∷ [];
      leads = (m, refl);
      count = let f = subst (λ (z : TableNet). back_at (plan z.net) start.number q.place + 1 ≡ back_at (plan z.net) start.number start.place) e (falls start q v at m) in omega arith;
    }

module _ (t : TableNet) (valid : Valid (plan t.net)) (start : Pass) (b c : Back) (so : Backing t start b) (k : kind_in_back b ≡ leaving) (m : Moved (pass_in_back b) (pass_in_back c)) where
  fallen : back_at (plan t.net) start.number (pass_in_back c).place + 1 ≡ back_at (plan t.net) start.number (pass_in_back b).place
  fallen = let p = pass_in_back b in let q = pass_in_back c in
      let v : Valid (plan p.table.net) = subst (λ (z : TableNet). Valid (plan z.net)) (sym so.table) valid in
      let f = falls p q v (leaving_back (plan p.table.net) p.number p.place (sym so.kind ∙ k)) m in
      let g = subst (λ (z : TableNet). back_at (plan z.net) p.number q.place + 1 ≡ back_at (plan z.net) p.number p.place) so.table f in
      subst (λ (n : ℕ). back_at (plan t.net) n q.place + 1 ≡ back_at (plan t.net) n p.place) so.same.1 g

  -- one access more
  pub backing_on : kind_in_back c ≡ kind_of (pass_in_back c).place → Backing t start c
  backing_on l = let p = pass_in_back b in let q = pass_in_back c in
      let v : Valid (plan p.table.net) = subst (λ (z : TableNet). Valid (plan z.net)) (sym so.table) valid in
      record {
        table = moved_table p q m ∙ so.table;
        same = (moved_table p q m ∙ so.same.0, moved_number p q m ∙ so.same.1);
        got = same_got p q v (leaving_back (plan p.table.net) p.number p.place (sym so.kind ∙ k)) m ∙ so.got;
        kind = l;
        rests = rests_out p q m;
        way = so.way ++ q ∷ [];
        leads = leads_more start so.way p q so.leads m;
        count = let f = fallen in let a = so.count in let n = length-append so.way (q ∷ []) in omega arith;
      }

  -- the measure
  pub backing_falls : back_at (plan t.net) start.number (pass_in_back c).place < back_at (plan t.net) start.number (pass_in_back b).place
  backing_falls = let f = fallen in omega arith
