-- The loop over tests of bits.
use Rattle.std.proofs.Common.{◌≡◌, ◌≢◌, ℕ, ◌+◌, ◌-◌, ◌<◌, List, [], ◌∷◌, ◌++◌, length, cond, eqb, min, refl, sym, ap, ◌∙◌, subst, length-append, arith}
use Rattle.std.proofs.lemmas.Bool.{eqb-true}
use Rattle.kex_core.specs.declared.place.Place.{Place}
use Rattle.kex_core.specs.declared.place.Place.TheVariants.{Out, Dec, Mark, Look, Spin, Naming, Named, Holding, Clearing, Inc, Unmark}
use Rattle.kex_core.specs.Nets.{Plan, Valid}
use Rattle.kex_core.specs.Worlds.{due, after}
use Rattle.kex_core.specs.Shapes.{plan}
use Rattle.kex_core.proofs.Sums.{chosen, ne_from}
use Rattle.kex_core.proofs.Exports.{due_placed}
use Rattle.kex_words.specs.Passes.{TableNet, Pass, due_at, kind_of, naming}
use Rattle.kex_words.specs.Moves.{Moved}
use Rattle.seat_names.specs.Ways.{Leads, tests_at}
use Rattle.seat_names.proofs.Leading.{leads_more}
use Rattle.seat_names.proofs.Moving.{moved_table, moved_number, met, moved_place, moved_got}

-- the bit whose test is due
abbrev pub bit_at : Place → ℕ
bit_at (Naming i) = i
bit_at Out = 0
bit_at (Dec j) = 0
bit_at (Mark j) = 0
bit_at (Look j) = 0
bit_at (Spin j) = 0
bit_at (Named s) = 0
bit_at (Holding s) = 0
bit_at (Clearing s) = 0
bit_at (Inc j) = 0
bit_at (Unmark j) = 0

-- after the test of bit i
module _ (net : Plan) (p i n : ℕ) where
  -- the next bit, which is not the last number
  pub test_on : kind_of (after net p (Naming i) n) ≡ naming → (after net p (Naming i) n ≡ Naming (i + 1)) × (i + 2 ≢ net.width)
  test_on = chosen (λ (q : Place). kind_of q ≡ naming → (q ≡ Naming (i + 1)) × (i + 2 ≢ net.width)) (eqb n 0) (Named i) (cond (eqb (i + 2) net.width) (Named (i + 1)) (Naming (i + 1))) (λ _ k. cc)
      (λ _. chosen (λ (q : Place). kind_of q ≡ naming → (q ≡ Naming (i + 1)) × (i + 2 ≢ net.width)) (eqb (i + 2) net.width) (Named (i + 1)) (Naming (i + 1)) (λ _ k. cc) (λ d k. (refl, ne_from (i + 2) net.width d)))

  -- the number
  pub test_end : i + 1 < net.width → (s : ℕ) → after net p (Naming i) n ≡ Named s → min (s + 1) (net.width - 1) ≡ i + 1
  test_end l s = chosen (λ (q : Place). q ≡ Named s → min (s + 1) (net.width - 1) ≡ i + 1) (eqb n 0) (Named i) (cond (eqb (i + 2) net.width) (Named (i + 1)) (Naming (i + 1))) (λ _ e. let h : i ≡ s = cc in omega arith)
      (λ _. chosen (λ (q : Place). q ≡ Named s → min (s + 1) (net.width - 1) ≡ i + 1) (eqb (i + 2) net.width) (Named (i + 1)) (Naming (i + 1)) (λ t e. let h : i + 1 ≡ s = cc in let w = eqb-true (i + 2) net.width t in omega arith) (λ _ e. cc))

-- the tests so far
pub record Testing (t : TableNet) (start now : Pass) : Type 0 where
  pub table : now.table ≡ t
  pub same : (now.table ≡ start.table) × (now.number ≡ start.number)
  pub got : now.got ≡ start.got
  pub way : List Pass
  pub leads : Leads start way now
  pub count : length way + bit_at (due_at start) ≡ bit_at (due_at now)
  pub starts : (i : ℕ) → due_at now ≡ Naming i → (k : ℕ) × (due_at start ≡ Naming k)

pub testing_first : (t : TableNet) (start : Pass) → start.table ≡ t → Testing t start start
testing_first t start e = record { table = e; same = (refl, refl); got = refl; way = []; leads = refl; count = omega arith; starts = λ i d. (i, d) }

module _ (t : TableNet) (valid : Valid (plan t.net)) (start now next : Pass) (so : Testing t start now) (i : ℕ) (d : due_at now ≡ Naming i) (m : Moved now next) where
  low : i + 1 < (plan now.table.net).width
  low = let v : Valid (plan now.table.net) = subst (λ (z : TableNet). Valid (plan z.net)) (sym so.table) valid in
      let b = due_placed (plan now.table.net) v m.ruled.world m.ruled.kept now.number m.inside (Naming i) (ap (due (plan now.table.net) now.number) m.stood ∙ d) in b.0

  next_place : next.place ≡ after (plan now.table.net) now.number (Naming i) (met now next m)
  next_place = moved_place now next m (Naming i) d

  longer : Leads start (so.way ++ next ∷ []) next
  longer = leads_more start so.way now next so.leads m

  next_same : (next.table ≡ start.table) × (next.number ≡ start.number)
  next_same = (moved_table now next m ∙ so.same.0, moved_number now next m ∙ so.same.1)

  next_got : next.got ≡ start.got
  next_got = moved_got now next m (Naming i) d ∙ so.got

  further : kind_of next.place ≡ naming → (next.place ≡ Naming (i + 1)) × (i + 2 ≢ (plan now.table.net).width)
  further k = let h = test_on (plan now.table.net) now.number i (met now next m) (sym (ap kind_of next_place) ∙ k) in (next_place ∙ h.0, h.1)

  -- one test more
  pub testing_on : kind_of next.place ≡ naming → Testing t start next
  testing_on k =
      let e : due_at next ≡ Naming (i + 1) = ap (due (plan next.table.net) next.number) (further k).0 in
      record {
        table = moved_table now next m ∙ so.table;
        same = next_same;
        got = next_got;
        way = so.way ++ next ∷ [];
        leads = longer;
        count = let a = so.count in let b : bit_at (due_at now) ≡ i = ap bit_at d in let c : bit_at (due_at next) ≡ i + 1 = ap bit_at e in let l = length-append so.way (next ∷ []) in omega arith;
        starts = λ _ _. so.starts i d;
      }

  -- the measure
  pub testing_falls : kind_of next.place ≡ naming → t.net.width - bit_at (due_at next) < t.net.width - bit_at (due_at now)
  testing_falls k =
      let e : due_at next ≡ Naming (i + 1) = ap (due (plan next.table.net) next.number) (further k).0 in
      let b : bit_at (due_at now) ≡ i = ap bit_at d in let c : bit_at (due_at next) ≡ i + 1 = ap bit_at e in
      let w : (plan now.table.net).width ≡ t.net.width = ap (λ (z : TableNet). z.net.width) so.table in let l = low in omega arith

  -- the number was found
  pub testing_end : (way : List Pass) × Leads start way next × ((s : ℕ) → next.place ≡ Named s → length way ≡ tests_at t.net.width s (due_at start))
  testing_end = (
    so.way ++ next ∷ [],
    longer,
    λ s e.
        let k = so.starts i d in
        let b : bit_at (due_at now) ≡ i = ap bit_at d in let c : bit_at (due_at start) ≡ k.0 = ap bit_at k.1 in
        let w : (plan now.table.net).width ≡ t.net.width = ap (λ (z : TableNet). z.net.width) so.table in
        let f = test_end (plan now.table.net) now.number i (met now next m) low s (sym next_place ∙ e) in
        let g : tests_at t.net.width s (due_at start) ≡ min (s + 1) (t.net.width - 1) - k.0 = ap (tests_at t.net.width s) k.1 in
        let a = so.count in let l = length-append so.way (next ∷ []) in
        let h : min (s + 1) (t.net.width - 1) ≡ i + 1 = ap (λ (z : ℕ). min (s + 1) (z - 1)) (sym w) ∙ f in omega arith,
  )
