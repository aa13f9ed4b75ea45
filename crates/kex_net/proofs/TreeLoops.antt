-- The steps of the loops that make a tree.
use Rattle.std.proofs.Common.{◌≡◌, ◌≢◌, ◌⊎◌, ℕ, zero, suc, ◌+◌, ◌-◌, ◌*◌, ◌/◌, ◌%◌, ◌<◌, ◌≤◌, min, List, [], ◌∷◌, ◌++◌, length, get_or, take, drop, sum, sym, refl, ap, ◌∙◌, subst, ⊎_elim, inl, inr, arith}
use Rattle.std.proofs.lemmas.List.{append-nil, append_assoc, drop_more, drop_all, length-drop}
use Rattle.std.proofs.lemmas.List.Sums.{sum_by-take-drop}
use Rattle.kex_net.specs.Trees.{groups, above, after_levels, falling, leading, stage_met, level_caps, level_nexts, level_meets, level_below, levels_over, stages_of, AreLevels}
use Rattle.kex_net.proofs.Flows.{sum-cons}

-- some more of what is wanted were added
pub added : (new old more rest left whole : List ℕ) → new ≡ old ++ more → left ≡ more ++ rest → old ++ left ≡ whole → new ++ rest ≡ whole
added new old more rest left whole e f h = ap (λ (v : List ℕ). v ++ rest) e ∙ (append_assoc old more rest ∙ (ap (λ (v : List ℕ). old ++ v) (sym f) ∙ h))

-- the last that is wanted was added
pub last_added : (new old more left whole : List ℕ) → new ≡ old ++ more → left ≡ more → old ++ left ≡ whole → new ≡ whole
last_added new old more left whole e f h = e ∙ (ap (λ (v : List ℕ). old ++ v) (sym f) ∙ h)

-- and nothing is left
pub all_added : (new left whole : List ℕ) → left ≡ [] → new ++ left ≡ whole → new ≡ whole
all_added new left whole e h = sym (append-nil new) ∙ (ap (λ (v : List ℕ). new ++ v) (sym e) ∙ h)

pub falling_step : (m count i : ℕ) → i < count → falling m (count - i) ≡ (m + (count - 1 - i)) ∷ falling m (count - (i + 1))
falling_step m count i l = let e : count - i ≡ suc (count - 1 - i) = omega arith in let g : count - 1 - i ≡ count - (i + 1) = omega arith in
    ap (falling m) e ∙ ap (λ (v : ℕ). (m + (count - 1 - i)) ∷ falling m v) g

pub leading_start : (first count up : ℕ) → 0 < count → leading (first + 1 - 1) (suc (first + count - (first + 1))) up ≡ leading first count up
leading_start first count up l = let a : first + 1 - 1 ≡ first = omega arith in let b : suc (first + count - (first + 1)) ≡ count = omega arith in
    ap (λ (x : ℕ). leading x (suc (first + count - (first + 1))) up) a ∙ ap (λ (x : ℕ). leading first x up) b

pub leading_step : (first count up stage : ℕ) → first + 1 ≤ stage → stage < first + count → leading (stage - 1) (suc (first + count - stage)) up ≡ stage ∷ leading (stage + 1 - 1) (suc (first + count - (stage + 1))) up
leading_step first count up stage a b = let e : first + count - stage ≡ suc (first + count - (stage + 1)) = omega arith in let f : stage - 1 + 1 ≡ stage = omega arith in let g : stage ≡ stage + 1 - 1 = omega arith in
    ap (λ (x : ℕ). leading (stage - 1) (suc x) up) e ∙ (ap (λ (x : ℕ). x ∷ leading x (suc (first + count - (stage + 1))) up) f ∙ ap (λ (x : ℕ). stage ∷ leading x (suc (first + count - (stage + 1))) up) g)

pub groups_step : (more m n i : ℕ) → i < more → groups (more - i) m (n - i * m) ≡ min m (n - i * m) ∷ groups (more - (i + 1)) m (n - (i + 1) * m)
groups_step more m n i l = let e : more - i ≡ suc (more - (i + 1)) = omega arith in let g : n - i * m - m ≡ n - (i + 1) * m = omega arith in
    ap (λ (x : ℕ). groups x m (n - i * m)) e ∙ ap (λ (x : ℕ). min m (n - i * m) ∷ groups (more - (i + 1)) m x) g

-- the next pair
pub two_more : (sizes : List ℕ) (p : ℕ) → p < length sizes / 2 → drop (2 * p) sizes ≡ get_or sizes (2 * p) 0 ∷ get_or sizes (2 * p + 1) 0 ∷ drop (2 * (p + 1)) sizes
two_more sizes p l = let e : 2 * p + 1 + 1 ≡ 2 * (p + 1) = omega arith in
    drop_more sizes (2 * p) 0 (omega arith) ∙ ap (λ (v : List ℕ). get_or sizes (2 * p) 0 ∷ v) (drop_more sizes (2 * p + 1) 0 (omega arith) ∙ ap (λ (x : ℕ). get_or sizes (2 * p + 1) 0 ∷ drop x sizes) e)

pub pair_fits : (sizes : List ℕ) (p : ℕ) → p < length sizes / 2 → get_or sizes (2 * p) 0 + get_or sizes (2 * p + 1) 0 + sum (drop (2 * (p + 1)) sizes) ≡ sum (drop (2 * p) sizes)
pair_fits sizes p l = let e : sum (drop (2 * p) sizes) ≡ sum (get_or sizes (2 * p) 0 ∷ get_or sizes (2 * p + 1) 0 ∷ drop (2 * (p + 1)) sizes) = ap sum (two_more sizes p l) in
    let a = sum-cons (get_or sizes (2 * p) 0) (get_or sizes (2 * p + 1) 0 ∷ drop (2 * (p + 1)) sizes) in let b = sum-cons (get_or sizes (2 * p + 1) 0) (drop (2 * (p + 1)) sizes) in omega arith

pub pair_most : (sizes : List ℕ) (p : ℕ) → p < length sizes / 2 → get_or sizes (2 * p) 0 + get_or sizes (2 * p + 1) 0 ≤ sum sizes
pair_most sizes p l = let a = pair_fits sizes p l in let b : sum (take (2 * p) sizes) + sum (drop (2 * p) sizes) ≡ sum sizes = sum_by-take-drop (λ (v : ℕ). v) sizes (2 * p) in omega arith

pub above_step : (m : ℕ) (sizes : List ℕ) (p : ℕ) → p < length sizes / 2 → above m (drop (2 * p) sizes) ≡ min m (get_or sizes (2 * p) 0 + get_or sizes (2 * p + 1) 0) ∷ above m (drop (2 * (p + 1)) sizes)
above_step m sizes p l = ap (above m) (two_more sizes p l)

-- behind the last pair
pub last_left : (sizes : List ℕ) (p : ℕ) → length sizes / 2 ≤ p → p ≤ length sizes / 2 → length sizes % 2 ≡ 1 → drop (2 * p) sizes ≡ get_or sizes (2 * p) 0 ∷ []
last_left sizes p a b o = drop_more sizes (2 * p) 0 (omega arith) ∙ ap (λ (v : List ℕ). get_or sizes (2 * p) 0 ∷ v) (drop_all (2 * p + 1) sizes (omega arith))

pub above_last : (m : ℕ) (sizes : List ℕ) (p : ℕ) → length sizes / 2 ≤ p → p ≤ length sizes / 2 → length sizes % 2 ≡ 1 → above m (drop (2 * p) sizes) ≡ get_or sizes (length sizes - 1) 0 ∷ []
above_last m sizes p end low o = let q : 2 * p ≡ length sizes - 1 = omega arith in ap (above m) (last_left sizes p end low o) ∙ ap (λ (x : ℕ). get_or sizes x 0 ∷ []) q

pub none_left : (sizes : List ℕ) (p : ℕ) → length sizes / 2 ≤ p → length sizes % 2 ≢ 1 → drop (2 * p) sizes ≡ []
none_left sizes p a o = drop_all (2 * p) sizes (omega arith)

module _ (m first : ℕ) (sizes ups : List ℕ) (p : ℕ) (more : p < length sizes / 2) (same : length (drop p ups) ≡ length (above m (drop (2 * p) sizes))) where
  abbrev a : ℕ
  a = get_or sizes (2 * p) 0

  abbrev b : ℕ
  b = get_or sizes (2 * p + 1) 0

  pub some_up : p < length ups
  some_up = let s = ap length (above_step m sizes p more) in let d = length-drop p ups in omega arith

  up_is : drop p ups ≡ get_or ups p 0 ∷ drop (p + 1) ups
  up_is = drop_more ups p 0 some_up

  pub same_next : length (drop (p + 1) ups) ≡ length (above m (drop (2 * (p + 1)) sizes))
  same_next = let s = ap length (above_step m sizes p more) in let u = ap length up_is in omega arith

  pub caps_step : level_caps m (drop (2 * p) sizes) ≡ falling m (a + b - m) ++ level_caps m (drop (2 * (p + 1)) sizes)
  caps_step = ap (level_caps m) (two_more sizes p more)

  pub nexts_step : (second : ℕ) → second ≡ first + (a + b - m) → level_nexts m first (drop (2 * p) sizes) (drop p ups) ≡ leading first (a + b - m) (get_or ups p 0) ++ level_nexts m second (drop (2 * (p + 1)) sizes) (drop (p + 1) ups)
  nexts_step second e = ap (λ (v : List ℕ). level_nexts m first v (drop p ups)) (two_more sizes p more) ∙ (ap (λ (v : List ℕ). level_nexts m first (a ∷ b ∷ drop (2 * (p + 1)) sizes) v) up_is
      ∙ ap (λ (x : ℕ). leading first (a + b - m) (get_or ups p 0) ++ level_nexts m x (drop (2 * (p + 1)) sizes) (drop (p + 1) ups)) (sym e))

  pub meets_step : (second : ℕ) → second ≡ first + (a + b - m)
      → level_meets m first (drop (2 * p) sizes) (drop p ups) ≡ (stage_met first (a + b - m) (get_or ups p 0) ∷ stage_met first (a + b - m) (get_or ups p 0) ∷ []) ++ level_meets m second (drop (2 * (p + 1)) sizes) (drop (p + 1) ups)
  meets_step second e = ap (λ (v : List ℕ). level_meets m first v (drop p ups)) (two_more sizes p more) ∙ (ap (λ (v : List ℕ). level_meets m first (a ∷ b ∷ drop (2 * (p + 1)) sizes) v) up_is
      ∙ ap (λ (x : ℕ). stage_met first (a + b - m) (get_or ups p 0) ∷ stage_met first (a + b - m) (get_or ups p 0) ∷ level_meets m x (drop (2 * (p + 1)) sizes) (drop (p + 1) ups)) (sym e))

module _ (m first : ℕ) (sizes ups : List ℕ) (p : ℕ) (end : length sizes / 2 ≤ p) (low : p ≤ length sizes / 2) (same : length (drop p ups) ≡ length (above m (drop (2 * p) sizes))) where
  pub last_up : length sizes % 2 ≡ 1 → length sizes / 2 < length ups
  last_up o = let s = ap length (ap (above m) (last_left sizes p end low o)) in let d = length-drop p ups in omega arith

  pub caps_end : level_caps m (drop (2 * p) sizes) ≡ []
  caps_end = ⊎_elim (λ (o : length sizes % 2 ≡ 1). ap (level_caps m) (last_left sizes p end low o)) (λ (d : length sizes % 2 ≢ 1). ap (level_caps m) (none_left sizes p end d)) (parity (length sizes % 2))
    where
      parity : (x : ℕ) → (x ≡ 1) ⊎ (x ≢ 1)
      parity zero = inr (λ e. omega arith)
      parity (suc zero) = inl refl
      parity (suc (suc x)) = inr (λ e. omega arith)

  pub nexts_end : level_nexts m first (drop (2 * p) sizes) (drop p ups) ≡ []
  nexts_end = ⊎_elim (λ (o : length sizes % 2 ≡ 1). ap (λ (v : List ℕ). level_nexts m first v (drop p ups)) (last_left sizes p end low o)) (λ (d : length sizes % 2 ≢ 1). ap (λ (v : List ℕ). level_nexts m first v (drop p ups)) (none_left sizes p end d)) (parity (length sizes % 2))
    where
      parity : (x : ℕ) → (x ≡ 1) ⊎ (x ≢ 1)
      parity zero = inr (λ e. omega arith)
      parity (suc zero) = inl refl
      parity (suc (suc x)) = inr (λ e. omega arith)

  pub meets_none : length sizes % 2 ≢ 1 → level_meets m first (drop (2 * p) sizes) (drop p ups) ≡ []
  meets_none d = ap (λ (v : List ℕ). level_meets m first v (drop p ups)) (none_left sizes p end d)

  pub meets_last : length sizes % 2 ≡ 1 → level_meets m first (drop (2 * p) sizes) (drop p ups) ≡ (get_or ups (length sizes / 2) 0 ∷ [])
  meets_last o = let l = last_up o in let q : p ≡ length sizes / 2 = omega arith in
      ap (λ (v : List ℕ). level_meets m first v (drop p ups)) (last_left sizes p end low o) ∙ (ap (λ (v : List ℕ). level_meets m first (get_or sizes (2 * p) 0 ∷ []) v) (drop_more ups p 0 (omega arith))
      ∙ ap (λ (x : ℕ). get_or ups x 0 ∷ []) q)

-- no level, and one level more
pub top_levels : (m first : ℕ) (sizes caps nexts meets : List ℕ) → length sizes ≡ 1 → caps ≡ [] → nexts ≡ [] → meets ≡ first ∷ [] → AreLevels m first sizes (stages_of caps nexts meets)
top_levels m first [] caps nexts meets e a b c = absurd (omega arith)
top_levels m first (x ∷ []) caps nexts meets e a b c = record {
  levels = 0;
  height = record { one = refl; more = λ l h. absurd (omega arith) };
  stages = ap (λ (v : List ℕ). stages_of v nexts meets) a ∙ (ap (λ (v : List ℕ). stages_of [] v meets) b ∙ ap (λ (v : List ℕ). stages_of [] [] v) c);
}
top_levels m first (x ∷ y ∷ sizes) caps nexts meets e a b c = absurd (omega arith)

pub level_more : (m first second : ℕ) (sizes caps nexts meets higher ucaps unexts umeets : List ℕ) → 2 ≤ length sizes → higher ≡ above m sizes → second ≡ first + length (level_caps m sizes)
    → AreLevels m second higher (stages_of ucaps unexts umeets) → caps ≡ level_caps m sizes ++ ucaps → nexts ≡ level_nexts m first sizes umeets ++ unexts → meets ≡ level_meets m first sizes umeets
    → AreLevels m first sizes (stages_of caps nexts meets)
level_more m first second sizes caps nexts meets higher ucaps unexts umeets two h e up a b c = record {
  levels = suc up.levels;
  height = record { one = subst (λ (v : List ℕ). length (after_levels up.levels m v) ≡ 1) h up.height.one; more = taller };
  stages = ap (λ (v : List ℕ). stages_of v nexts meets) a ∙ (ap (λ (v : List ℕ). stages_of (level_caps m sizes ++ ucaps) v meets) b ∙ (ap (λ (v : List ℕ). stages_of (level_caps m sizes ++ ucaps) (level_nexts m first sizes umeets ++ unexts) v) c
      ∙ ap (level_below m first sizes) (up.stages ∙ (ap (λ (x : ℕ). levels_over up.levels m x higher) e ∙ ap (λ (v : List ℕ). levels_over up.levels m (first + length (level_caps m sizes)) v) h))));
}
  where
    taller : (l : ℕ) → l < suc up.levels → 2 ≤ length (after_levels l m sizes)
    taller zero q = two
    taller (suc l) q = subst (λ (v : List ℕ). 2 ≤ length (after_levels l m v)) h (up.height.more l (omega arith))
