-- How many stages are left on a path. A number that falls from each stage to its next bounds the stages on a path by what it is at the start.
use Rattle.std.proofs.Common.{◌≡◌, ◌≢◌, ◌⊎◌, ℕ, zero, suc, ◌+◌, ◌-◌, ◌*◌, ◌<◌, ◌≤◌, ◌/◌, true, min, List, [], ◌∷◌, ◌++◌, length, get_or, slice_index, sym, refl, ap, ◌∙◌, subst, ⊎_elim, arith}
use Rattle.std.proofs.lemmas.List.{length-append, get_or_append_left, get_or-append_right, get_or_past, get_or-append-add}
use Rattle.std.proofs.Math.Nat.{le-div_iff_mul-le, div-mul-le_self}
use Rattle.std.proofs.lemmas.Bool.{cases_lt}
use Rattle.kex_core.specs.Nets.{Plan, Valid, on_path}
use Rattle.kex_core.specs.Shapes.{Sheet, plan}
use Rattle.kex_core.specs.Laws.{Stage}
use Rattle.kex_core.specs.declared.place.Place.{Place}
use Rattle.kex_core.specs.declared.place.Place.TheVariants.{Out, Dec, Mark, Look, Spin, Naming, Named, Holding, Clearing, Inc, Unmark}
use Rattle.kex_core.specs.Costs.{rank, depth, bound}
use Rattle.kex_net.specs.Limits.{limit}
use Rattle.kex_core.proofs.Thresholds.{below}
use Rattle.kex_core.proofs.Sums.{same_or, over_same, over_zero, over_one}
use Rattle.kex_core.proofs.Moves.{below_yes, below_no, below_same, next_below, start_low, path_start, path_next}
use Rattle.kex_net.specs.Trees.{groups, bottom, above, falling, leading, stage_met, level_caps, level_nexts, level_meets, Stages, through, levels_over, IsTree}
use Rattle.kex_net.proofs.ChainLemmas.{min_facts}
use Rattle.kex_net.proofs.Pieces.{length-falling}
use Rattle.kex_net.proofs.TreeNets.{length-meets, length-groups, tree_valid}

module _ (net : Plan) (valid : Valid net) (p : ℕ) (mine : p < net.parties) where
  rank_next : (j : ℕ) → Stage net p j → rank net p (net.next j) ≡ rank net p j + 1
  rank_next j s =
      let a = over_same net.stages (λ (i : ℕ). below net p (net.next j) i) (λ (i : ℕ). below net p (j + 1) i) (λ i l. next_below net valid p mine j i l s.0 s.1) in
      let b = over_one net.stages (λ (i : ℕ). below net p j i) (λ (i : ℕ). below net p (j + 1) i) j s.0 (λ i l d. below_same net p (j + 1) j i (λ _ h. omega arith) (λ _ h. omega arith)) in
      let c = below_yes net p (j + 1) j s.1 (omega arith) in let d = below_no net p j j (λ _ h. absurd (omega arith)) in omega arith

  rank_start : rank net p (net.start p) ≡ 0
  rank_start = over_same net.stages (λ (i : ℕ). below net p (net.start p) i) (λ (i : ℕ). 0) (λ i l. below_no net p (net.start p) i (λ o h. let z = start_low net valid p mine i (omega arith) o in absurd (omega arith))) ∙ over_zero net.stages

  module _ (h : ℕ → ℕ) (falls : (j : ℕ) → j < net.stages → h (net.next j) + 1 ≤ h j) where
    left_over : (left j : ℕ) → net.stages ≤ left + j → j ≤ net.stages → on_path net p j ≡ true → depth net p ≤ rank net p j + h j
    left_over zero j e l o = let q : j ≡ net.stages = omega arith in let s : rank net p j ≡ depth net p = ap (rank net p) q in omega arith
    left_over (suc left) j e l o = ⊎_elim (λ (q : j ≡ net.stages). let s : rank net p j ≡ depth net p = ap (rank net p) q in omega arith)
        (λ (d : j ≢ net.stages). let m : j < net.stages = omega arith in let a = rank_next j (m, o) in let f = falls j m in let low = valid.next_low j m in
        let r = left_over left (net.next j) (omega arith) (valid.next_high j m) (path_next net valid p mine j m o) in omega arith) (same_or j net.stages)

    -- no more stages than the number at the start
    pub depth_most : depth net p ≤ h (net.start p)
    depth_most = let a = rank_start in let r = left_over net.stages (net.start p) (omega arith) (valid.start p mine) (path_start net valid p mine) in omega arith

-- The numbers in a tree: those of a pair's stages fall to one more than that of all above.
abbrev pub level_heights : ℕ → ℕ → List ℕ → List ℕ
level_heights m above [] = []
level_heights m above (a ∷ []) = []
level_heights m above (a ∷ b ∷ sizes) = falling (suc above) (a + b - m) ++ level_heights m above sizes

abbrev pub heights : ℕ → ℕ → List ℕ → List ℕ
heights zero m sizes = []
heights (suc levels) m sizes = level_heights m (levels * m) sizes ++ heights levels m (above m sizes)

length-level_heights : (m up : ℕ) (sizes : List ℕ) → length (level_heights m up sizes) ≡ length (level_caps m sizes)
length-level_heights m up [] = refl
length-level_heights m up (a ∷ []) = refl
length-level_heights m up (a ∷ b ∷ sizes) = let x = length-append (falling (suc up) (a + b - m)) (level_heights m up sizes) in let y = length-append (falling m (a + b - m)) (level_caps m sizes) in
    let u = length-falling (suc up) (a + b - m) in let v = length-falling m (a + b - m) in let h = length-level_heights m up sizes in omega arith

pub length-heights : (levels m first : ℕ) (sizes : List ℕ) → length (heights levels m sizes) ≡ length ((levels_over levels m first sizes).caps)
length-heights zero m first sizes = refl
length-heights (suc levels) m first sizes = let x = length-append (level_heights m (levels * m) sizes) (heights levels m (above m sizes)) in
    let y = length-append (level_caps m sizes) ((levels_over levels m (first + length (level_caps m sizes)) (above m sizes)).caps) in
    let h = length-heights levels m (first + length (level_caps m sizes)) (above m sizes) in let l = length-level_heights m (levels * m) sizes in omega arith

-- each is at most m
abbrev pub Most : ℕ → List ℕ → Type 0
Most m [] = Unit {0}
Most m (x ∷ xs) = (x ≤ m) × Most m xs

above_most : (m : ℕ) (sizes : List ℕ) → Most m sizes → Most m (above m sizes)
above_most m [] h = tt
above_most m (a ∷ []) h = h
above_most m (a ∷ b ∷ sizes) h = (omega arith, above_most m sizes h.1.1)

pub groups_most : (more m n : ℕ) → Most m (groups more m n)
groups_most zero m n = tt
groups_most (suc more) m n = (omega arith, groups_most more m (n - m))

-- h is these numbers from `first` on
abbrev pub Reads : (ℕ → ℕ) → ℕ → List ℕ → Type 0
Reads h first hs = (i : ℕ) → i < length hs → h (first + i) ≡ get_or hs i 0

-- h falls from each of the stages from `first` on to its next
abbrev pub Falls : (ℕ → ℕ) → ℕ → List ℕ → Type 0
Falls h first nexts = (i : ℕ) → i < length nexts → h (get_or nexts i 0) + 1 ≤ h (first + i)

abbrev pub Below : (ℕ → ℕ) → ℕ → List ℕ → Type 0
Below h top [] = Unit {0}
Below h top (x ∷ xs) = (h x ≤ top) × Below h top xs

reads_left : (h : ℕ → ℕ) (first : ℕ) (xs ys : List ℕ) → Reads h first (xs ++ ys) → Reads h first xs
reads_left h first xs ys r i l = let a = length-append xs ys in r i (omega arith) ∙ get_or_append_left xs ys 0 i l

reads_right : (h : ℕ → ℕ) (first second : ℕ) (xs ys : List ℕ) → second ≡ first + length xs → Reads h first (xs ++ ys) → Reads h second ys
reads_right h first second xs ys e r i l = let a = length-append xs ys in let q : second + i ≡ first + (length xs + i) = omega arith in ap h q ∙ (r (length xs + i) (omega arith) ∙ get_or-append-add xs ys i 0)

falls_both : (h : ℕ → ℕ) (first second : ℕ) (xs ys : List ℕ) → second ≡ first + length xs → Falls h first xs → Falls h second ys → Falls h first (xs ++ ys)
falls_both h first second xs ys e f g i l = let a = length-append xs ys in ⊎_elim
    (λ (m : i < length xs). subst (λ (v : ℕ). h v + 1 ≤ h (first + i)) (sym (get_or_append_left xs ys 0 i m)) (f i m))
    (λ (m : length xs ≤ i). let q : second + (i - length xs) ≡ first + i = omega arith in
    subst (λ (v : ℕ). h v + 1 ≤ h (first + i)) (sym (get_or-append_right xs ys (length xs) i 0 refl m)) (subst (λ (v : ℕ). h (get_or ys (i - length xs) 0) + 1 ≤ h v) q (g (i - length xs) (omega arith)))) (cases_lt i (length xs))

length-leading : (first count up : ℕ) → length (leading first count up) ≡ count
length-leading first zero up = refl
length-leading first (suc zero) up = refl
length-leading first (suc (suc count)) up = let h = length-leading (first + 1) (suc count) up in omega arith

-- in a pair
pub pair_falls : (h : ℕ → ℕ) (top first count up : ℕ) → Reads h first (falling (suc top) count) → h up ≤ top → Falls h first (leading first count up)
pair_falls h top first zero up r u i l = absurd (omega arith)
pair_falls h top first (suc zero) up r u zero l = let a = r 0 (omega arith) in omega arith
pair_falls h top first (suc zero) up r u (suc i) l = absurd (omega arith)
pair_falls h top first (suc (suc count)) up r u zero l = let a = r 0 (omega arith) in let b = r 1 (omega arith) in let q : h (first + 0) ≡ h (first + 0) = refl in omega arith
pair_falls h top first (suc (suc count)) up r u (suc i) l = let e : first + 1 + i ≡ first + suc i = omega arith in
    subst (λ (v : ℕ). h (get_or (leading (first + 1) (suc count) up) i 0) + 1 ≤ h v) e
    (pair_falls h top (first + 1) (suc count) up (λ k m. let q : first + 1 + k ≡ first + suc k = omega arith in ap h q ∙ r (suc k) (omega arith)) u i (omega arith))

pair_below : (h : ℕ → ℕ) (top first count up : ℕ) → Reads h first (falling (suc top) count) → h up ≤ top → h (stage_met first count up) ≤ top + count
pair_below h top first zero up r u = omega arith
pair_below h top first (suc count) up r u = let a = r 0 (omega arith) in let q : h (first + 0) ≡ h first = ap h (omega arith) in omega arith

level_below_m : (h : ℕ → ℕ) (m top first : ℕ) (sizes ups : List ℕ) → Most m sizes → Reads h first (level_heights m top sizes) → Below h top ups → Below h (top + m) (level_meets m first sizes ups)
level_below_m h m top first [] ups s r u = tt
level_below_m h m top first (a ∷ []) [] s r u = tt
level_below_m h m top first (a ∷ []) (x ∷ ups) s r u = let l = u.0 in (omega arith, tt)
level_below_m h m top first (a ∷ b ∷ sizes) [] s r u = tt
level_below_m h m top first (a ∷ b ∷ sizes) (x ∷ ups) s r u =
    let sa = s.0 in let sb = s.1.0 in let f = length-falling (suc top) (a + b - m) in
    let p = pair_below h top first (a + b - m) x (reads_left h first (falling (suc top) (a + b - m)) (level_heights m top sizes) r) u.0 in
    (omega arith, (omega arith, level_below_m h m top (first + (a + b - m)) sizes ups s.1.1 (reads_right h first (first + (a + b - m)) (falling (suc top) (a + b - m)) (level_heights m top sizes) (omega arith) r) u.1))

level_falls : (h : ℕ → ℕ) (m top first : ℕ) (sizes ups : List ℕ) → Reads h first (level_heights m top sizes) → Below h top ups → Falls h first (level_nexts m first sizes ups)
level_falls h m top first [] ups r u = λ i l. absurd (omega arith)
level_falls h m top first (a ∷ []) ups r u = λ i l. absurd (omega arith)
level_falls h m top first (a ∷ b ∷ sizes) [] r u = λ i l. absurd (omega arith)
level_falls h m top first (a ∷ b ∷ sizes) (x ∷ ups) r u = let f = length-falling (suc top) (a + b - m) in let g = length-leading first (a + b - m) x in
    falls_both h first (first + (a + b - m)) (leading first (a + b - m) x) (level_nexts m (first + (a + b - m)) sizes ups) (omega arith)
    (pair_falls h top first (a + b - m) x (reads_left h first (falling (suc top) (a + b - m)) (level_heights m top sizes) r) u.0)
    (level_falls h m top (first + (a + b - m)) sizes ups (reads_right h first (first + (a + b - m)) (falling (suc top) (a + b - m)) (level_heights m top sizes) (omega arith) r) u.1)

length-level_nexts : (m first : ℕ) (sizes ups : List ℕ) → length ups ≡ length (above m sizes) → length (level_nexts m first sizes ups) ≡ length (level_caps m sizes)
length-level_nexts m first [] ups e = refl
length-level_nexts m first (a ∷ []) ups e = refl
length-level_nexts m first (a ∷ b ∷ sizes) [] e = absurd (omega arith)
length-level_nexts m first (a ∷ b ∷ sizes) (x ∷ ups) e = let h = length-level_nexts m (first + (a + b - m)) sizes ups (omega arith) in
    let p = length-append (leading first (a + b - m) x) (level_nexts m (first + (a + b - m)) sizes ups) in let q = length-append (falling m (a + b - m)) (level_caps m sizes) in
    let f = length-falling m (a + b - m) in let g = length-leading first (a + b - m) x in omega arith

through_below : (h : ℕ → ℕ) (exit : ℕ) (sizes : List ℕ) → h exit ≡ 0 → Below h 0 (through exit sizes)
through_below h exit [] e = tt
through_below h exit (s ∷ sizes) e = (omega arith, through_below h exit sizes e)

below_is : (h : ℕ → ℕ) (a b : ℕ) (xs : List ℕ) → a ≡ b → Below h a xs → Below h b xs
below_is h a b xs e = subst (λ (v : ℕ). Below h v xs) e

-- in a tree of some levels
pub tree_below : (h : ℕ → ℕ) (levels m first : ℕ) (sizes : List ℕ) → Most m sizes → Reads h first (heights levels m sizes) → h (first + length (heights levels m sizes)) ≡ 0 → Below h (levels * m) ((levels_over levels m first sizes).meets)
tree_below h zero m first sizes s r z = below_is h 0 (0 * m) (through first sizes) (omega arith) (through_below h first sizes (let e : h (first + 0) ≡ h first = ap h (omega arith) in sym e ∙ z))
tree_below h (suc levels) m first sizes s r z =
    let a = length-append (level_heights m (levels * m) sizes) (heights levels m (above m sizes)) in let l = length-level_heights m (levels * m) sizes in
    let e : first + length (level_caps m sizes) + length (heights levels m (above m sizes)) ≡ first + length (level_heights m (levels * m) sizes ++ heights levels m (above m sizes)) = omega arith in
    below_is h (levels * m + m) (suc levels * m) (level_meets m first sizes ((levels_over levels m (first + length (level_caps m sizes)) (above m sizes)).meets)) (omega arith)
    (level_below_m h m (levels * m) first sizes ((levels_over levels m (first + length (level_caps m sizes)) (above m sizes)).meets) s (reads_left h first (level_heights m (levels * m) sizes) (heights levels m (above m sizes)) r)
    (tree_below h levels m (first + length (level_caps m sizes)) (above m sizes) (above_most m sizes s) (reads_right h first (first + length (level_caps m sizes)) (level_heights m (levels * m) sizes) (heights levels m (above m sizes)) (omega arith) r) (ap h e ∙ z)))

pub tree_falls : (h : ℕ → ℕ) (levels m first : ℕ) (sizes : List ℕ) → Most m sizes → Reads h first (heights levels m sizes) → h (first + length (heights levels m sizes)) ≡ 0 → Falls h first ((levels_over levels m first sizes).nexts)
tree_falls h zero m first sizes s r z = λ i l. absurd (omega arith)
tree_falls h (suc levels) m first sizes s r z =
    let a = length-append (level_heights m (levels * m) sizes) (heights levels m (above m sizes)) in let l = length-level_heights m (levels * m) sizes in
    let n = length-level_nexts m first sizes ((levels_over levels m (first + length (level_caps m sizes)) (above m sizes)).meets) (length-meets levels m (first + length (level_caps m sizes)) (above m sizes)) in
    let e : first + length (level_caps m sizes) + length (heights levels m (above m sizes)) ≡ first + length (level_heights m (levels * m) sizes ++ heights levels m (above m sizes)) = omega arith in
    let right = reads_right h first (first + length (level_caps m sizes)) (level_heights m (levels * m) sizes) (heights levels m (above m sizes)) (omega arith) r in
    falls_both h first (first + length (level_caps m sizes)) (level_nexts m first sizes ((levels_over levels m (first + length (level_caps m sizes)) (above m sizes)).meets)) ((levels_over levels m (first + length (level_caps m sizes)) (above m sizes)).nexts) (omega arith)
    (level_falls h m (levels * m) first sizes ((levels_over levels m (first + length (level_caps m sizes)) (above m sizes)).meets) (reads_left h first (level_heights m (levels * m) sizes) (heights levels m (above m sizes)) r)
    (tree_below h levels m (first + length (level_caps m sizes)) (above m sizes) (above_most m sizes s) right (ap h e ∙ z)))
    (tree_falls h levels m (first + length (level_caps m sizes)) (above m sizes) (above_most m sizes s) right (ap h e ∙ z))

pub below_get : (h : ℕ → ℕ) (top : ℕ) (xs : List ℕ) (i : ℕ) → i < length xs → Below h top xs → h (get_or xs i 0) ≤ top
below_get h top [] i l b = absurd (omega arith)
below_get h top (x ∷ xs) zero l b = b.0
below_get h top (x ∷ xs) (suc i) l b = below_get h top xs i (omega arith) b.1

pub quotient_less : (p n m : ℕ) → 1 ≤ m → p < n → p / m + 1 ≤ (n + m - 1) / m
quotient_less p n m some l = let z : 0 < m = omega arith in (le-div_iff_mul-le {k = m} {x = p / m + 1} {y = n + m - 1} z).1 (let b : (p / m) * m ≤ p = div-mul-le_self p m in omega arith)

module _ (n k : ℕ) (two : 2 ≤ n) (small : n ≤ 256) (some : 1 ≤ k) (s : Sheet) (is : IsTree n k s) where
  abbrev whole : Stages
  whole = levels_over is.levels (min k n) 0 (bottom (min k n) n)

  abbrev hs : List ℕ
  hs = heights is.levels (min k n) (bottom (min k n) n)

  abbrev h : ℕ → ℕ
  h j = get_or hs j 0

  same : length hs ≡ length s.caps
  same = length-heights is.levels (min k n) 0 (bottom (min k n) n) ∙ sym (ap length is.caps)

  reads : Reads h 0 hs
  reads i l = let e : 0 + i ≡ i = omega arith in ap h e

  at_end : h (0 + length hs) ≡ 0
  at_end = get_or_past hs (0 + length hs) 0 (omega arith)

  falls : (j : ℕ) → j < length s.caps → h (slice_index s.nexts j) + 1 ≤ h j
  falls j l = let v = (tree_valid n k two small some s is).sized.nexts in let e : length s.nexts ≡ length whole.nexts = ap length is.nexts in let q : 0 + j ≡ j = omega arith in
      subst (λ (x : ℕ). h (slice_index s.nexts j) + 1 ≤ h x) q (subst (λ (x : List ℕ). h (get_or x j 0) + 1 ≤ h (0 + j)) (sym is.nexts)
      (tree_falls h is.levels (min k n) 0 (bottom (min k n) n) (groups_most ((n + min k n - 1) / min k n) (min k n) n) reads at_end j (omega arith)))

  -- at most m stages for each level
  pub tree_depth : (p : ℕ) → p < n → depth (plan s) p ≤ is.levels * min k n
  tree_depth p l = let v = tree_valid n k two small some s is in let g = is.parties in
      let d = depth_most (plan s) v.valid p (omega arith) h falls in
      let w : h (slice_index s.starts p) ≡ h (slice_index whole.meets (p / min k n)) = ap h (is.start p l) in
      let b = below_get h (is.levels * min k n) whole.meets (p / min k n) at_exit (tree_below h is.levels (min k n) 0 (bottom (min k n) n) (groups_most ((n + min k n - 1) / min k n) (min k n) n) reads at_end) in omega arith
    where
      at_exit : p / min k n < length whole.meets
      at_exit = let m = min_facts k n in let m0 = m.0 in let one : 1 ≤ min k n = ⊎_elim (λ (e : min k n ≡ n). omega arith) (λ (e : min k n ≡ k). omega arith) m.2 in
          let a : length whole.meets ≡ (n + min k n - 1) / min k n = length-meets is.levels (min k n) 0 (bottom (min k n) n) ∙ length-groups ((n + min k n - 1) / min k n) (min k n) n in
          let b : p / min k n + 1 ≤ (n + min k n - 1) / min k n = quotient_less p n (min k n) one l in omega arith

-- what a place may have cost, with no more stages than d on the path
pub limit_most : (net : Plan) (p d : ℕ) (q : Place) → depth net p ≤ d → bound net p q ≤ limit d net.width q
limit_most net p d Out l = omega arith
limit_most net p d (Dec j) l = omega arith
limit_most net p d (Mark j) l = omega arith
limit_most net p d (Look j) l = omega arith
limit_most net p d (Spin j) l = omega arith
limit_most net p d (Naming i) l = omega arith
limit_most net p d (Named i) l = omega arith
limit_most net p d (Holding i) l = omega arith
limit_most net p d (Clearing i) l = omega arith
limit_most net p d (Inc j) l = omega arith
limit_most net p d (Unmark j) l = omega arith
