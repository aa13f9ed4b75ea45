-- A chain is a valid net.
use Rattle.std.proofs.Common.{◌≡◌, ◌≢◌, ◌⊎◌, ℕ, zero, suc, ◌+◌, ◌-◌, ◌<◌, ◌≤◌, ◌^◌, eqb, List, length, min, slice_index, sym, refl, ap, ◌∙◌, subst, ⊎_elim, inl, inr, arith}
use Rattle.std.proofs.lemmas.List.{get_or_past, length-replicate}
use Rattle.std.proofs.Math.ListN.{replicate}
use Rattle.std.proofs.lemmas.Bool.{cases_lt, eq-eqb}
use Rattle.kex_core.proofs.Openings.{replicate_at}
use Rattle.kex_core.specs.Nets.{over, starts, feeds}
use Rattle.kex_core.proofs.Thresholds.{starts_at, feeds_at}
use Rattle.kex_core.specs.Shapes.{Sheet, sheet, plan, IsNet}
use Rattle.kex_core.proofs.Sums.{over_one, over_zero, over_same, yes_is, no_is, ne_test}
use Rattle.kex_net.specs.Chains.{IsChain}

-- a sum of one summand
single : (n : ℕ) (f : ℕ → ℕ) (i : ℕ) → i < n → ((k : ℕ) → k < n → k ≢ i → f k ≡ 0) → over n f ≡ f i
single n f i l h = let a = over_one n (λ (k : ℕ). 0) f i l h in let z = over_zero n in omega arith

none : (n : ℕ) (f : ℕ → ℕ) → ((k : ℕ) → k < n → f k ≡ 0) → over n f ≡ 0
none n f h = over_same n f (λ (k : ℕ). 0) h ∙ over_zero n

ones : (n : ℕ) → over n (λ (k : ℕ). 1) ≡ n
ones zero = refl
ones (suc n) = let a = ones n in omega arith

pub min_facts : (k n : ℕ) → (min k n ≤ n) × (min k n ≤ k) × ((min k n ≡ n) ⊎ (min k n ≡ k))
min_facts k n = ⊎_elim (λ (a : k < n). (omega arith, omega arith, inr (omega arith))) (λ (a : n ≤ k). (omega arith, omega arith, inl (omega arith))) (cases_lt k n)

module _ (n k : ℕ) (two : 2 ≤ n) (small : n ≤ 256) (some : 1 ≤ k) (s : Sheet) (is : IsChain n k s) where
  start_none : (j : ℕ) → 0 < j → starts (plan s) j ≡ 0
  start_none j l = none s.parties (λ (p : ℕ). starts_at (plan s) p j) (λ p m. let w = is.parties in let z = is.start p (omega arith) in no_is (eqb (slice_index s.starts p) j) 1 0 (ne_test (slice_index s.starts p) j (λ e. omega arith)))

  start_all : starts (plan s) 0 ≡ n
  start_all = over_same s.parties (λ (p : ℕ). starts_at (plan s) p 0) (λ (p : ℕ). 1) (λ p m. let w = is.parties in let z = is.start p (omega arith) in yes_is (eqb (slice_index s.starts p) 0) 1 0 (eq-eqb (slice_index s.starts p) 0 z)) ∙ (ones s.parties ∙ is.parties)

  feed_none : feeds (plan s) 0 ≡ 0
  feed_none = none (length s.caps) (λ (i : ℕ). feeds_at (plan s) i 0) (λ i m. let z = is.next i m in no_is (eqb (slice_index s.nexts i) 0) (slice_index s.caps i) 0 (ne_test (slice_index s.nexts i) 0 (λ e. omega arith)))

  feed_one : (j : ℕ) → j < length s.caps → feeds (plan s) (j + 1) ≡ n - 1 - j
  feed_one j l = single (length s.caps) (λ (i : ℕ). feeds_at (plan s) i (j + 1)) j l
      (λ i m d. let z = is.next i m in no_is (eqb (slice_index s.nexts i) (j + 1)) (slice_index s.caps i) 0 (ne_test (slice_index s.nexts i) (j + 1) (λ e. d (omega arith))))
      ∙ (yes_is (eqb (slice_index s.nexts j) (j + 1)) (slice_index s.caps j) 0 (eq-eqb (slice_index s.nexts j) (j + 1) (is.next j l)) ∙ is.cap j l)

  room : (j : ℕ) → j < length s.caps → starts (plan s) j + feeds (plan s) j ≤ slice_index s.caps j + 1
  room zero l = let a = start_all in let b = feed_none in let c = is.cap 0 l in omega arith
  room (suc j) l = let a = start_none (suc j) (omega arith) in let b : feeds (plan s) (suc j) ≡ n - 1 - j = let z : j + 1 ≡ suc j = omega arith in subst (λ (i : ℕ). feeds (plan s) i ≡ n - 1 - j) z (feed_one j (omega arith)) in let c = is.cap (suc j) l in omega arith

  room_exit : (e : ℕ) → e ≡ length s.caps → starts (plan s) e + feeds (plan s) e ≤ s.width
  room_exit zero q = let a = start_all in let b = feed_none in let w = is.width in let t = is.stages in let m = min_facts k n in let m0 = m.0 in omega arith
  room_exit (suc e) q = let a = start_none (suc e) (omega arith) in let b : feeds (plan s) (suc e) ≡ n - 1 - e = let z : e + 1 ≡ suc e = omega arith in subst (λ (i : ℕ). feeds (plan s) i ≡ n - 1 - e) z (feed_one e (omega arith)) in
      let w = is.width in let t = is.stages in let m = min_facts k n in let m0 = m.0 in omega arith

  caps_small : (j : ℕ) → slice_index s.caps j < 2 ^ 32
  caps_small j = ⊎_elim (λ (l : j < length s.caps). let c = is.cap j l in omega arith) (λ (l : length s.caps ≤ j). let c : slice_index s.caps j ≡ 0 = get_or_past s.caps j 0 l in omega arith) (cases_lt j (length s.caps))

  pub chain_valid : IsNet s
  chain_valid = let w = is.width in let t = is.stages in let p = is.parties in let m = min_facts k n in let m0 = m.0 in let m2 = m.2 in record {
    sized = record { two = omega arith; parties = omega arith; wide = ⊎_elim (λ (e : min k n ≡ n). omega arith) (λ (e : min k n ≡ k). omega arith) m.2; width = omega arith; stages = omega arith; nexts = is.nexts; starts = is.starts ∙ sym is.parties };
    caps = caps_small;
    valid = record {
      two = omega arith;
      wide = ⊎_elim (λ (e : min k n ≡ n). omega arith) (λ (e : min k n ≡ k). omega arith) m.2;
      cap = λ j l. let c = is.cap j l in ⊎_elim (λ (e : min k n ≡ n). omega arith) (λ (e : min k n ≡ k). omega arith) m.2;
      next_low = λ j l. let c = is.next j l in omega arith;
      next_high = λ j l. let c = is.next j l in omega arith;
      start = λ p l. let c = is.start p (omega arith) in omega arith;
      room = room;
      room_exit = room_exit (length s.caps) refl;
    };
  }

pub zeros : (l : List ℕ) (n i : ℕ) → l ≡ replicate n 0 → slice_index l i ≡ 0
zeros l n i e = ap (λ (m : List ℕ). slice_index m i) e ∙ replicate_at n i 0

pub chain_of : (n k m : ℕ) (caps next start : List ℕ) → m ≡ min k n → (length caps ≡ n - m) × ((j : ℕ) → j < n - m → slice_index caps j ≡ n - 1 - j) → (length next ≡ n - m) × ((j : ℕ) → j < n - m → slice_index next j ≡ j + 1)
    → start ≡ replicate n 0 → IsChain n k (sheet n m caps next start)
chain_of n k m caps next start em a b s = let a0 = a.0 in record {
  parties = refl;
  width = em;
  stages = a.0 ∙ ap (λ (x : ℕ). n - x) em;
  nexts = b.0 ∙ sym a.0;
  starts = ap length s ∙ length-replicate n 0;
  cap = λ j l. a.1 j (omega arith);
  next = λ j l. b.1 j (omega arith);
  start = λ p l. zeros start n p s;
}
