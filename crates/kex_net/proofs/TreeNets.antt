-- The tree is a valid net: each level hands up at most m from each group.
use Rattle.std.proofs.Common.{◌≡◌, ◌≢◌, ℕ, zero, suc, ◌+◌, ◌-◌, ◌*◌, ◌/◌, ◌<◌, ◌≤◌, ◌^◌, cond, eqb, min, List, [], ◌∷◌, length, get_or, sum, slice_index, sym, refl, ap, ◌∙◌, subst, ⊎_elim, arith}
use Rattle.std.proofs.lemmas.List.{length-append}
use Rattle.std.proofs.Math.Nat.{add-div_left, div-eq_of_lt}
use Rattle.kex_core.specs.Nets.{over, starts}
use Rattle.kex_core.specs.Shapes.{Sheet, sheet, Sized, plan, IsNet}
use Rattle.kex_core.proofs.Sums.{same_or}
use Rattle.kex_net.specs.Trees.{groups, bottom, above, after_levels, falling, leading, stage_met, level_caps, level_nexts, level_meets, Stages, through, levels_over, stages_of, AreLevels, IsTree}
use Rattle.kex_net.proofs.ChainLemmas.{min_facts}
use Rattle.kex_net.proofs.Flows.{inflow, link, inflow_most, inflow_over, sum-cons, over_split, over_link, not_at}
use Rattle.kex_net.proofs.Pieces.{IsPiece, in_row, with_behind, with_one, nothing, pair, length-falling}

-- each of these is from lo to hi
abbrev pub Within : ℕ → ℕ → List ℕ → Type 0
Within lo hi [] = Unit {0}
Within lo hi (x ∷ xs) = (lo ≤ x) × (x ≤ hi) × Within lo hi xs

pub within_more : (lo low hi : ℕ) (xs : List ℕ) → low ≤ lo → Within lo hi xs → Within low hi xs
within_more lo low hi [] l h = tt
within_more lo low hi (x ∷ xs) l h = let a = h.0 in (omega arith, h.1, within_more lo low hi xs l h.2)

pub within_low : (lo hi : ℕ) (xs cs : List ℕ) (j : ℕ) → j < lo → Within lo hi xs → inflow j xs cs ≡ 0
within_low lo hi [] cs j l h = refl
within_low lo hi (x ∷ xs) [] j l h = refl
within_low lo hi (x ∷ xs) (c ∷ cs) j l h = let a = h.0 in let b = not_at x j c (λ e. omega arith) in let d = within_low lo hi xs cs j l h.2 in omega arith

pub within_get : (lo hi : ℕ) (xs : List ℕ) (i : ℕ) → Within lo hi xs → get_or xs i 0 ≤ hi
within_get lo hi [] i h = omega arith
within_get lo hi (x ∷ xs) zero h = h.1
within_get lo hi (x ∷ xs) (suc i) h = within_get lo hi xs i h.2

met_within : (lo hi count up : ℕ) → lo ≤ up → up ≤ hi → lo ≤ hi → (lo ≤ stage_met lo count up) × (stage_met lo count up ≤ hi)
met_within lo hi zero up a b c = (a, b)
met_within lo hi (suc count) up a b c = (omega arith, c)

pub length-level_caps : (m a b : ℕ) (sizes : List ℕ) → length (level_caps m (a ∷ b ∷ sizes)) ≡ (a + b - m) + length (level_caps m sizes)
length-level_caps m a b sizes = let l = length-append (falling m (a + b - m)) (level_caps m sizes) in let f = length-falling m (a + b - m) in omega arith

pub level_meets_within : (m first hi : ℕ) (sizes ups : List ℕ) → first + length (level_caps m sizes) ≤ hi → Within (first + length (level_caps m sizes)) hi ups → Within first hi (level_meets m first sizes ups)
level_meets_within m first hi [] ups t h = tt
level_meets_within m first hi (a ∷ []) [] t h = tt
level_meets_within m first hi (a ∷ []) (u ∷ ups) t h = let x = h.0 in (omega arith, h.1, tt)
level_meets_within m first hi (a ∷ b ∷ sizes) [] t h = tt
level_meets_within m first hi (a ∷ b ∷ sizes) (u ∷ ups) t h =
    let l = length-level_caps m a b sizes in let x = h.0 in
    let w = met_within first hi (a + b - m) u (omega arith) h.1 (omega arith) in (
      w.0,
      w.1,
      (
        w.0,
        w.1,
        within_more (first + (a + b - m)) first hi (level_meets m (first + (a + b - m)) sizes ups) (omega arith)
            (level_meets_within m (first + (a + b - m)) hi sizes ups (omega arith) (within_more (first + length (level_caps m (a ∷ b ∷ sizes))) (first + (a + b - m) + length (level_caps m sizes)) hi ups (omega arith) h.2)),
      ),
    )

pub length-level_meets : (m first : ℕ) (sizes ups : List ℕ) → length ups ≡ length (above m sizes) → length (level_meets m first sizes ups) ≡ length sizes
length-level_meets m first [] ups e = refl
length-level_meets m first (a ∷ []) [] e = absurd (omega arith)
length-level_meets m first (a ∷ []) (u ∷ ups) e = refl
length-level_meets m first (a ∷ b ∷ sizes) [] e = absurd (omega arith)
length-level_meets m first (a ∷ b ∷ sizes) (u ∷ ups) e = let h = length-level_meets m (first + (a + b - m)) sizes ups (omega arith) in omega arith

-- a level is a piece
pub level_piece : (exit m first : ℕ) (sizes ups : List ℕ) → length ups ≡ length (above m sizes) → first + length (level_caps m sizes) ≤ exit → Within (first + length (level_caps m sizes)) exit ups → 1 ≤ m → sum sizes < 2 ^ 32
    → IsPiece exit first (level_meets m first sizes ups) sizes (level_caps m sizes) (level_nexts m first sizes ups) ups (above m sizes)
level_piece exit m first [] ups e t w some small = record {
  same = refl;
  below = λ j l. refl;
  before = λ j l. refl;
  room = λ i l. absurd (omega arith);
  behind = λ j l. omega arith;
  next_low = λ i l. absurd (omega arith);
  next_high = λ i. omega arith;
  cap_low = λ i l. absurd (omega arith);
  cap_high = λ i. omega arith;
}
level_piece exit m first (a ∷ []) [] e t w some small = absurd (omega arith)
level_piece exit m first (a ∷ []) (u ∷ ups) e t w some small = let h = w.0 in record {
  same = refl;
  below = λ j l. let x = not_at u j a (λ q. omega arith) in omega arith;
  before = λ j l. refl;
  room = λ i l. absurd (omega arith);
  behind = λ j l. omega arith;
  next_low = λ i l. absurd (omega arith);
  next_high = λ i. omega arith;
  cap_low = λ i l. absurd (omega arith);
  cap_high = λ i. omega arith;
}
level_piece exit m first (a ∷ b ∷ sizes) [] e t w some small = absurd (omega arith)
level_piece exit m first (a ∷ b ∷ sizes) (u ∷ ups) e t w some small =
    let l = length-level_caps m a b sizes in let f = length-falling m (a + b - m) in let low = w.0 in
    let s = sum-cons a (b ∷ sizes) in let s2 = sum-cons b sizes in
    let wide = within_more (first + length (level_caps m (a ∷ b ∷ sizes))) (first + (a + b - m) + length (level_caps m sizes)) exit ups (omega arith) w.2 in
    let rest = level_meets_within m (first + (a + b - m)) exit sizes ups (omega arith) wide in
    in_row exit first (level_meets m first (a ∷ b ∷ sizes) (u ∷ ups)) (a ∷ b ∷ sizes) (falling m (a + b - m)) (leading first (a + b - m) u)
    (u ∷ level_meets m (first + (a + b - m)) sizes ups) (min m (a + b) ∷ sizes) (level_caps m sizes) (level_nexts m (first + (a + b - m)) sizes ups) (u ∷ ups) (min m (a + b) ∷ above m sizes) (first + (a + b - m)) (omega arith)
    (with_behind exit first (stage_met first (a + b - m) u ∷ stage_met first (a + b - m) u ∷ []) (a ∷ b ∷ []) (falling m (a + b - m)) (leading first (a + b - m) u) (u ∷ []) (min m (a + b) ∷ [])
    (pair exit m a b (a + b - m) first u refl (omega arith) w.1 some (omega arith))
    (level_meets m (first + (a + b - m)) sizes ups) sizes refl refl (λ j q. within_low (first + (a + b - m)) exit (level_meets m (first + (a + b - m)) sizes ups) sizes j (omega arith) rest))
    (with_one exit (first + (a + b - m)) (level_meets m (first + (a + b - m)) sizes ups) sizes (level_caps m sizes) (level_nexts m (first + (a + b - m)) sizes ups) ups (above m sizes)
    (level_piece exit m (first + (a + b - m)) sizes ups (omega arith) (omega arith) wide some (omega arith)) u (min m (a + b)) (omega arith))

-- what a level hands up is what comes to it less one for each stage
pub sum-above : (m : ℕ) (sizes : List ℕ) → sum (above m sizes) + length (level_caps m sizes) ≡ sum sizes
sum-above m [] = refl
sum-above m (a ∷ []) = omega arith
sum-above m (a ∷ b ∷ sizes) = let h = sum-above m sizes in let l = length-level_caps m a b sizes in let x = sum-cons (min m (a + b)) (above m sizes) in let y = sum-cons a (b ∷ sizes) in let z = sum-cons b sizes in omega arith

pub above_fewer : (m : ℕ) (sizes : List ℕ) → 2 ≤ length sizes → length (above m sizes) < length sizes
above_fewer m [] l = absurd (omega arith)
above_fewer m (a ∷ []) l = absurd (omega arith)
above_fewer m (a ∷ b ∷ sizes) l = let h = above_most m sizes in omega arith
  where
    above_most : (m : ℕ) (sizes : List ℕ) → length (above m sizes) ≤ length sizes
    above_most m [] = omega arith
    above_most m (a ∷ []) = omega arith
    above_most m (a ∷ b ∷ sizes) = let h = above_most m sizes in omega arith

above_head : (m : ℕ) (sizes : List ℕ) → get_or sizes 0 0 ≡ m → get_or (above m sizes) 0 0 ≡ m
above_head m [] e = e
above_head m (a ∷ []) e = e
above_head m (a ∷ b ∷ sizes) e = omega arith

pub after_head : (levels m : ℕ) (sizes : List ℕ) → get_or sizes 0 0 ≡ m → get_or (after_levels levels m sizes) 0 0 ≡ m
after_head zero m sizes e = e
after_head (suc levels) m sizes e = after_head levels m (above m sizes) (above_head m sizes e)

pub length-through : (exit : ℕ) (sizes : List ℕ) → length (through exit sizes) ≡ length sizes
length-through exit [] = refl
length-through exit (a ∷ sizes) = let h = length-through exit sizes in omega arith

through_within : (lo hi exit : ℕ) (sizes : List ℕ) → lo ≤ exit → exit ≤ hi → Within lo hi (through exit sizes)
through_within lo hi exit [] a b = tt
through_within lo hi exit (s ∷ sizes) a b = (a, b, through_within lo hi exit sizes a b)

pub length-meets : (levels m first : ℕ) (sizes : List ℕ) → length ((levels_over levels m first sizes).meets) ≡ length sizes
length-meets zero m first sizes = length-through first sizes
length-meets (suc levels) m first sizes = length-level_meets m first sizes ((levels_over levels m (first + length (level_caps m sizes)) (above m sizes)).meets) (length-meets levels m (first + length (level_caps m sizes)) (above m sizes))

-- so many stages are in all
pub length-caps : (levels m first : ℕ) (sizes : List ℕ) → length ((levels_over levels m first sizes).caps) + sum (after_levels levels m sizes) ≡ sum sizes
length-caps zero m first sizes = omega arith
length-caps (suc levels) m first sizes = let h = length-caps levels m (first + length (level_caps m sizes)) (above m sizes) in let s = sum-above m sizes in
    let l = length-append (level_caps m sizes) ((levels_over levels m (first + length (level_caps m sizes)) (above m sizes)).caps) in omega arith

pub meets_within : (levels m first top : ℕ) (sizes : List ℕ) → top ≡ first + length ((levels_over levels m first sizes).caps) → Within first top ((levels_over levels m first sizes).meets)
meets_within zero m first top sizes e = through_within first top first sizes (omega arith) (omega arith)
meets_within (suc levels) m first top sizes e =
    let l = length-append (level_caps m sizes) ((levels_over levels m (first + length (level_caps m sizes)) (above m sizes)).caps) in
    level_meets_within m first top sizes ((levels_over levels m (first + length (level_caps m sizes)) (above m sizes)).meets) (omega arith) (meets_within levels m (first + length (level_caps m sizes)) top (above m sizes) (omega arith))

widen : (lo hi high : ℕ) (xs : List ℕ) → hi ≤ high → Within lo hi xs → Within lo high xs
widen lo hi high [] l h = tt
widen lo hi high (x ∷ xs) l h = let a = h.1 in (h.0, omega arith, widen lo hi high xs l h.2)

-- levels are a piece
pub levels_piece : (levels exit m first top : ℕ) (sizes : List ℕ) → top ≡ first + length ((levels_over levels m first sizes).caps) → top ≤ exit → 1 ≤ m → sum sizes < 2 ^ 32
    → IsPiece exit first ((levels_over levels m first sizes).meets) sizes ((levels_over levels m first sizes).caps) ((levels_over levels m first sizes).nexts) (through top (after_levels levels m sizes)) (after_levels levels m sizes)
levels_piece zero exit m first top sizes e t some small =
    let q : first ≡ top = omega arith in
    subst (λ (x : ℕ). IsPiece exit first (through first sizes) sizes [] [] (through x sizes) sizes) q
    (nothing exit first (through first sizes) sizes (λ j l. within_low first first (through first sizes) sizes j l (through_within first first first sizes (omega arith) (omega arith))))
levels_piece (suc levels) exit m first top sizes e t some small =
    let second : ℕ = first + length (level_caps m sizes) in
    let l = length-append (level_caps m sizes) ((levels_over levels m (first + length (level_caps m sizes)) (above m sizes)).caps) in
    let s = sum-above m sizes in
    let up : Stages = levels_over levels m (first + length (level_caps m sizes)) (above m sizes) in
    in_row exit first (level_meets m first sizes up.meets) sizes (level_caps m sizes) (level_nexts m first sizes up.meets) up.meets (above m sizes) up.caps up.nexts
    (through top (after_levels levels m (above m sizes))) (after_levels levels m (above m sizes)) (first + length (level_caps m sizes)) refl
    (level_piece exit m first sizes up.meets (length-meets levels m (first + length (level_caps m sizes)) (above m sizes)) (omega arith)
    (widen (first + length (level_caps m sizes)) top exit up.meets t (meets_within levels m (first + length (level_caps m sizes)) top (above m sizes) (omega arith))) some small)
    (levels_piece levels exit m (first + length (level_caps m sizes)) top (above m sizes) (omega arith) t some (omega arith))

-- the groups of n parties
pub sum-groups : (more m n : ℕ) → n ≤ more * m → sum (groups more m n) ≡ n
sum-groups zero m n l = omega arith
sum-groups (suc more) m n l = let h = sum-groups more m (n - m) (omega arith) in let s = sum-cons (min m n) (groups more m (n - m)) in omega arith

pub length-groups : (more m n : ℕ) → length (groups more m n) ≡ more
length-groups zero m n = refl
length-groups (suc more) m n = let h = length-groups more m (n - m) in omega arith

pub groups_enough : (n m : ℕ) → 1 ≤ m → n ≤ ((n + m - 1) / m) * m
groups_enough n m some = omega arith

groups_head : (more m n : ℕ) → 1 ≤ more → m ≤ n → get_or (groups more m n) 0 0 ≡ m
groups_head zero m n l w = absurd (omega arith)
groups_head (suc more) m n l w = omega arith

pub groups_some : (n m : ℕ) → 1 ≤ m → 1 ≤ n → 1 ≤ (n + m - 1) / m
groups_some n m some l = let h = groups_enough n m some in ⊎_elim (λ (z : (n + m - 1) / m ≡ 0). let q : ((n + m - 1) / m) * m ≡ 0 = ap (λ (x : ℕ). x * m) z ∙ omega arith in absurd (omega arith)) (λ (d : (n + m - 1) / m ≢ 0). omega arith) (same_or ((n + m - 1) / m) 0)

pub bottom_head : (m n : ℕ) → 1 ≤ m → m ≤ n → get_or (bottom m n) 0 0 ≡ m
bottom_head m n some w = groups_head ((n + m - 1) / m) m n (groups_some n m some (omega arith)) w

one_left : (xs : List ℕ) → length xs ≡ 1 → sum xs ≡ get_or xs 0 0
one_left [] e = absurd (omega arith)
one_left (x ∷ []) e = let a = sum-cons x [] in omega arith
one_left (x ∷ y ∷ xs) e = absurd (omega arith)

-- at the top one group of m is left
pub sum-top : (levels m n : ℕ) → 1 ≤ m → m ≤ n → length (after_levels levels m (bottom m n)) ≡ 1 → sum (after_levels levels m (bottom m n)) ≡ m
sum-top levels m n some w e = one_left (after_levels levels m (bottom m n)) e ∙ after_head levels m (bottom m n) (bottom_head m n some w)

div_more : (i m : ℕ) → 1 ≤ m → (m + i) / m ≡ suc (i / m)
div_more i m some = let l : 0 < m = omega arith in let h : (m + i) / m ≡ i / m + 1 = add-div_left i l in omega arith

-- parties by groups
pub starts_flow : (more m n j : ℕ) (meets : List ℕ) (f : ℕ → ℕ) → 1 ≤ m → length meets ≡ more → n ≤ more * m → ((p : ℕ) → p < n → f p ≡ get_or meets (p / m) 0)
    → over n (λ p. cond (eqb (f p) j) 1 0) ≡ inflow j meets (groups more m n)
starts_flow zero m n j [] f some e l h = let z : n ≡ 0 = omega arith in ap (λ (x : ℕ). over x (λ p. cond (eqb (f p) j) 1 0)) z
starts_flow zero m n j (t ∷ meets) f some e l h = absurd (omega arith)
starts_flow (suc more) m n j [] f some e l h = absurd (omega arith)
starts_flow (suc more) m n j (t ∷ meets) f some e l h =
    let s : n ≡ (n - m) + min m n = omega arith in
    ap (λ (x : ℕ). over x (λ p. cond (eqb (f p) j) 1 0)) s ∙ (over_split (min m n) (n - m) (λ (p : ℕ). cond (eqb (f p) j) 1 0)
    ∙ ap2 (over_link (min m n) t j (λ (p : ℕ). cond (eqb (f p) j) 1 0) front)
    (starts_flow more m (n - m) j meets (λ (p : ℕ). f (min m n + p)) some (omega arith) (omega arith) back))
  where
    ap2 : {a b c d : ℕ} → a ≡ b → c ≡ d → a + c ≡ b + d
    ap2 p q = omega arith

    front : (i : ℕ) → i < min m n → link (f i) j 1 ≡ link t j 1
    front i q = let small : i < m = omega arith in let z : i / m ≡ 0 = div-eq_of_lt small in ap (λ (x : ℕ). link x j 1) (h i (omega arith) ∙ ap (λ (x : ℕ). get_or (t ∷ meets) x 0) z)

    back : (p : ℕ) → p < n - m → f (min m n + p) ≡ get_or meets (p / m) 0
    back p q = let w : min m n ≡ m = omega arith in h (min m n + p) (omega arith) ∙ ap (λ (x : ℕ). get_or (t ∷ meets) x 0) (ap (λ (x : ℕ). (x + p) / m) w ∙ div_more p m some)

-- a whole net from a piece of all its stages
pub net_of_piece : (s : Sheet) (ins from outs to : List ℕ) → IsPiece (length s.caps) 0 ins from s.caps s.nexts outs to → ((j : ℕ) → starts (plan s) j ≡ inflow j ins from)
    → sum to ≤ s.width → ((p : ℕ) → p < s.parties → slice_index s.starts p ≤ length s.caps) → Sized s → IsNet s
net_of_piece s ins from outs to p flows wide low sized = record {
  sized = sized;
  caps = p.cap_high;
  valid = record {
    two = sized.two;
    wide = sized.wide;
    cap = p.cap_low;
    next_low = λ j l. let h = p.next_low j l in omega arith;
    next_high = λ j l. p.next_high j;
    start = low;
    room = λ j l. let f = flows j in let g = inflow_over j s.nexts s.caps sized.nexts in let e : 0 + j ≡ j = omega arith in
        let r = subst (λ (i : ℕ). inflow i ins from + inflow i s.nexts s.caps ≤ get_or s.caps j 0 + 1) e (p.room j l) in omega arith;
    room_exit = let f = flows (length s.caps) in let g = inflow_over (length s.caps) s.nexts s.caps sized.nexts in
        let r = p.behind (length s.caps) (omega arith) in let t = inflow_most (length s.caps) outs to in omega arith;
  };
}

-- the lists of a tree
pub tree_of : (n k m : ℕ) (sizes caps nexts meets met start : List ℕ) → m ≡ min k n → sizes ≡ bottom m n → AreLevels m 0 sizes (stages_of caps nexts meets) → met ≡ meets
    → (length start ≡ n) × ((p : ℕ) → p < n → slice_index start p ≡ slice_index met (p / m)) → IsTree n k (sheet n (min k n) caps nexts start)
tree_of n k m sizes caps nexts meets met start em es are e s = made (subst (λ (x : ℕ). AreLevels x 0 (bottom x n) (stages_of caps nexts meets)) em (subst (λ (v : List ℕ). AreLevels m 0 v (stages_of caps nexts meets)) es are))
  where
    made : AreLevels (min k n) 0 (bottom (min k n) n) (stages_of caps nexts meets) → IsTree n k (sheet n (min k n) caps nexts start)
    made whole = record {
      levels = whole.levels;
      height = whole.height;
      parties = refl;
      width = refl;
      caps = ap (λ (x : Stages). x.caps) whole.stages;
      nexts = ap (λ (x : Stages). x.nexts) whole.stages;
      starts = s.0;
      start = λ p l. s.1 p l ∙ (ap (λ (v : List ℕ). slice_index v (p / m)) (e ∙ ap (λ (x : Stages). x.meets) whole.stages)
          ∙ ap (λ (x : ℕ). slice_index ((levels_over whole.levels (min k n) 0 (bottom (min k n) n)).meets) (p / x)) em);
    }

module _ (n k : ℕ) (two : 2 ≤ n) (small : n ≤ 256) (some : 1 ≤ k) (s : Sheet) (is : IsTree n k s) where
  abbrev m : ℕ
  m = min k n

  abbrev whole : Stages
  whole = levels_over is.levels (min k n) 0 (bottom (min k n) n)

  wide : (1 ≤ min k n) × (min k n ≤ n)
  wide = let f = min_facts k n in let f0 = f.0 in (⊎_elim (λ (e : min k n ≡ n). omega arith) (λ (e : min k n ≡ k). omega arith) f.2, f.0)

  total : sum (bottom (min k n) n) ≡ n
  total = let w = wide in let w0 = w.0 in sum-groups ((n + min k n - 1) / min k n) (min k n) n (groups_enough n (min k n) w.0)

  top : sum (after_levels is.levels (min k n) (bottom (min k n) n)) ≡ min k n
  top = let w = wide in sum-top is.levels (min k n) n w.0 w.1 is.height.one

  -- there are n - m stages
  pub tree_stages : length s.caps + min k n ≡ n
  tree_stages = let c = length-caps is.levels (min k n) 0 (bottom (min k n) n) in let t = total in let u = top in let e : length s.caps ≡ length whole.caps = ap length is.caps in omega arith

  at_whole : length s.caps ≡ 0 + length whole.caps
  at_whole = let e : length s.caps ≡ length whole.caps = ap length is.caps in omega arith

  piece : IsPiece (length s.caps) 0 whole.meets (bottom (min k n) n) s.caps s.nexts (through (length s.caps) (after_levels is.levels (min k n) (bottom (min k n) n))) (after_levels is.levels (min k n) (bottom (min k n) n))
  piece = let w = wide in let t = total in
      subst (λ (x : List ℕ). IsPiece (length s.caps) 0 whole.meets (bottom (min k n) n) s.caps x (through (length s.caps) (after_levels is.levels (min k n) (bottom (min k n) n))) (after_levels is.levels (min k n) (bottom (min k n) n))) (sym is.nexts)
      (subst (λ (x : List ℕ). IsPiece (length s.caps) 0 whole.meets (bottom (min k n) n) x whole.nexts (through (length s.caps) (after_levels is.levels (min k n) (bottom (min k n) n))) (after_levels is.levels (min k n) (bottom (min k n) n))) (sym is.caps)
      (levels_piece is.levels (length s.caps) (min k n) 0 (length s.caps) (bottom (min k n) n) at_whole (omega arith) w.0 (omega arith)))

  pub tree_valid : IsNet s
  tree_valid = let w = wide in let w0 = w.0 in let w1 = w.1 in let t = top in let c = tree_stages in let p = is.parties in let q = is.width in
      net_of_piece s whole.meets (bottom (min k n) n) (through (length s.caps) (after_levels is.levels (min k n) (bottom (min k n) n))) (after_levels is.levels (min k n) (bottom (min k n) n)) piece
      (λ j. ap (λ (x : ℕ). over x (λ r. cond (eqb (slice_index s.starts r) j) 1 0)) is.parties
      ∙ starts_flow ((n + min k n - 1) / min k n) (min k n) n j whole.meets (λ (r : ℕ). slice_index s.starts r) w.0
      (length-meets is.levels (min k n) 0 (bottom (min k n) n) ∙ length-groups ((n + min k n - 1) / min k n) (min k n) n) (groups_enough n (min k n) w.0) is.start)
      (omega arith)
      (λ r l. subst (λ (x : ℕ). x ≤ length s.caps) (sym (is.start r (omega arith))) (within_get 0 (length s.caps) whole.meets (r / min k n) (meets_within is.levels (min k n) 0 (length s.caps) (bottom (min k n) n) at_whole)))
      (let e : length s.nexts ≡ length whole.nexts = ap length is.nexts in let f = piece.same in record { two = omega arith; parties = omega arith; wide = omega arith; width = omega arith; stages = omega arith; nexts = f; starts = is.starts ∙ sym is.parties })
