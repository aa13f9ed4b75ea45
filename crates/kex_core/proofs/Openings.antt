-- The lists of a new world read as the opening.
use Rattle.std.proofs.Common.{◌≡◌, ℕ, zero, suc, ◌+◌, Bool, false, cond, ltb, List, [], ◌∷◌, length, get_or, map, sym, refl, ap, ◌∙◌, subst, arith}
use Rattle.std.proofs.Math.ListN.{replicate}
use Rattle.std.proofs.lemmas.List.{length-map, length-replicate}
use Rattle.std.proofs.lemmas.Bool.Decides.{nat_tests}
use mathlib.Core.Path.{fun_ext}
use Rattle.kex_core.specs.declared.place.Place.{Place}
use Rattle.kex_core.specs.declared.place.Place.TheVariants.{Out}
use Rattle.kex_core.specs.Worlds.{opening}
use Rattle.kex_core.specs.Laws.{Kept}
use Rattle.kex_core.specs.Shapes.{Sheet, plan, IsNet, IsWorld, machine_of, number_of}
use Rattle.kex_core.proofs.Sums.{yes_is, no_is}
use Rattle.kex_core.proofs.Worlds.{machine_eq}
use Rattle.kex_core.proofs.Runs.{kept_opening}

pub replicate_at : {X : Type 0} (n i : ℕ) (a : X) → get_or (replicate n a) i a ≡ a
replicate_at zero i a = refl
replicate_at (suc n) zero a = refl
replicate_at (suc n) (suc i) a = replicate_at n i a

counters_at : (l : List ℕ) (j : ℕ) → get_or (map (λ c. c + 1) l) j 0 ≡ cond (ltb j (length l)) (get_or l j 0 + 1) 0
counters_at [] j = sym (no_is (ltb j 0) (0 + 1) 0 (grind (arith, nat_tests)))
counters_at (c ∷ l) zero = sym (yes_is (ltb 0 (suc (length l))) (c + 1) 0 (grind (arith, nat_tests)))
counters_at (c ∷ l) (suc j) = counters_at l j ∙ ap (λ (b : Bool). cond b (get_or l j 0 + 1) 0) (shift j (length l))
  where
    shift : (i n : ℕ) → ltb i n ≡ ltb (suc i) (suc n)
    shift i n = grind (arith, nat_tests)

pub opening_is : (s : Sheet) (n a b c : ℕ) → machine_of (replicate n Out) (map (λ k. k + 1) s.caps) (replicate a 0) (replicate b false) (replicate c false) ≡ opening (plan s)
opening_is s n a b c = machine_eq (machine_of (replicate n Out) (map (λ k. k + 1) s.caps) (replicate a 0) (replicate b false) (replicate c false)) (opening (plan s))
    (fun_ext (λ j. counters_at s.caps j)) (fun_ext (λ j. replicate_at a j 0)) (fun_ext (λ i. ap number_of (replicate_at b i false))) (fun_ext (λ i. ap number_of (replicate_at c i false))) (fun_ext (λ p. replicate_at n p Out))

pub opening_world : (s : Sheet) (n a b c : ℕ) (places : List Place) (counters spin_words : List ℕ) (bits cards : List Bool) → IsNet s → n ≡ s.parties → a ≡ length s.caps → b + 1 ≡ s.width → c ≡ s.width
    → places ≡ replicate n Out → counters ≡ map (λ k. k + 1) s.caps → spin_words ≡ replicate a 0 → bits ≡ replicate b false → cards ≡ replicate c false
    → IsWorld (record { net = s; places = places; counters = counters; spin_words = spin_words; bits = bits; cards = cards }) × (machine_of places counters spin_words bits cards ≡ opening (plan s))
opening_world s n a b c places counters spin_words bits cards net en ea eb ec ep ex eq et ed = (
  record {
    net = net;
    kept = subst (Kept (plan s)) (sym all) (kept_opening (plan s));
    places = ap length ep ∙ (length-replicate n Out ∙ en);
    counters = ap length ex ∙ simp length-map;
    spin_words = ap length eq ∙ (length-replicate a 0 ∙ ea);
    bits = let e : length bits ≡ b = ap length et ∙ length-replicate b false in omega arith;
    cards = ap length ed ∙ (length-replicate c false ∙ ec);
  },
  all,
)
  where
    all : machine_of places counters spin_words bits cards ≡ opening (plan s)
    all = (λ i. machine_of (ep i) (ex i) (eq i) (et i) (ed i)) ∙ opening_is s n a b c
