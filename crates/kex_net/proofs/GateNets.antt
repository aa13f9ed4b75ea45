-- The net behind the fast gate is valid: the tree hands up m at most, the gate lets m through, and the chain behind them both takes 2m.
use Rattle.std.proofs.Common.{◌≡◌, ◌⊎◌, ℕ, zero, suc, ◌+◌, ◌-◌, ◌*◌, ◌/◌, ◌<◌, ◌≤◌, min, List, [], ◌∷◌, ◌++◌, length, get_or, sum, slice_index, sym, refl, ap, ◌∙◌, subst, ⊎_elim, arith}
use Rattle.std.proofs.lemmas.List.{length-append, length-replicate, get_or-replicate, get_or_append_left, get_or-append-add}
use Rattle.std.proofs.Math.ListN.{replicate}
use Rattle.std.proofs.lemmas.Bool.{cases_lt}
use Rattle.kex_core.specs.Nets.{over, starts}
use Rattle.kex_core.specs.Shapes.{Sheet, sheet, plan, IsNet}
use Rattle.kex_net.specs.Trees.{bottom, after_levels, falling, leading, Stages, through, levels_over, IsTree}
use Rattle.kex_net.specs.Gates.{IsGated}
use Rattle.kex_net.proofs.ChainLemmas.{min_facts}
use Rattle.kex_net.proofs.Flows.{inflow, link, inflow-append, not_at, over_split, over_link, sum-cons}
use Rattle.kex_net.proofs.Pieces.{IsPiece, in_row, with_behind, stages, two_lead, LeadTo, length-falling}
use Rattle.kex_net.proofs.TreeNets.{starts_flow, sum-groups, levels_piece, length-meets, length-groups, groups_enough, meets_within, within_get, after_head, bottom_head, tree_stages, net_of_piece}

pub length-leading : (first count up : ℕ) → length (leading first count up) ≡ count
length-leading first zero up = refl
length-leading first (suc zero) up = refl
length-leading first (suc (suc count)) up = let h = length-leading (first + 1) (suc count) up in omega arith

one_is : (xs : List ℕ) (m : ℕ) → length xs ≡ 1 → get_or xs 0 0 ≡ m → xs ≡ m ∷ []
one_is [] m e h = absurd (omega arith)
one_is (x ∷ []) m e h = ap (λ (v : ℕ). v ∷ []) h
one_is (x ∷ y ∷ xs) m e h = absurd (omega arith)

-- m stages behind two groups of m
gate_stages : (exit m first : ℕ) → 1 ≤ m → m ≤ 256 → first + m ≤ exit → IsPiece exit first (first ∷ first ∷ []) (m ∷ m ∷ []) (falling m m) (leading first m exit) (exit ∷ []) (m ∷ [])
gate_stages exit m first some small high = let e : suc (m - 1) ≡ m = omega arith in let f : m + m ≡ m + (m - 1) + 1 = omega arith in
    subst (λ (x : ℕ). IsPiece exit first (first ∷ first ∷ []) (m ∷ m ∷ []) (falling m x) (leading first x exit) (exit ∷ []) (m ∷ [])) e
    (stages exit m (m - 1) first exit (first ∷ first ∷ []) (m ∷ m ∷ []) (subst (LeadTo first (first ∷ first ∷ []) (m ∷ m ∷ [])) f (two_lead first m m)) (omega arith) (omega arith) some (omega arith))

module _ (n k : ℕ) (two : 2 ≤ n) (some : 1 ≤ k) (room : 2 * min k n < n) (small : n + min k n ≤ 256) (s : Sheet) (is : IsGated n k s) where
  abbrev t : Sheet
  t = is.tree

  abbrev m : ℕ
  m = min k n

  abbrev e : ℕ
  e = length is.tree.caps

  abbrev whole : Stages
  whole = levels_over is.is_tree.levels (min k n) 0 (bottom (min k n) n)

  wide : (1 ≤ m) × (m ≤ n)
  wide = let f = min_facts k n in let f0 = f.0 in (⊎_elim (λ (q : min k n ≡ n). omega arith) (λ (q : min k n ≡ k). omega arith) f.2, f.0)

  first_is : e + m ≡ n
  first_is = tree_stages n k two (omega arith) some is.tree is.is_tree

  -- there are n stages
  pub gated_stages : length s.caps ≡ n
  gated_stages = let a : length s.caps ≡ length (is.tree.caps ++ falling m m) = ap length is.caps in let b = length-append is.tree.caps (falling m m) in let c = length-falling m m in let f = first_is in omega arith

  at_whole : e ≡ 0 + length whole.caps
  at_whole = let q : e ≡ length whole.caps = ap length is.is_tree.caps in omega arith

  top_is : after_levels is.is_tree.levels m (bottom m n) ≡ m ∷ []
  top_is = let w = wide in one_is (after_levels is.is_tree.levels m (bottom m n)) m is.is_tree.height.one (after_head is.is_tree.levels m (bottom m n) (bottom_head m n w.0 w.1))

  total : sum (bottom m n) ≡ n
  total = let w = wide in sum-groups ((n + m - 1) / m) m n (groups_enough n m w.0)

  tree_piece : IsPiece (length s.caps) 0 whole.meets (bottom m n) is.tree.caps is.tree.nexts (e ∷ []) (m ∷ [])
  tree_piece = let w = wide in let g = gated_stages in let f = first_is in let q = total in
      subst (λ (v : List ℕ). IsPiece (length s.caps) 0 whole.meets (bottom m n) is.tree.caps is.tree.nexts (through e v) v) top_is
      (subst (λ (x : List ℕ). IsPiece (length s.caps) 0 whole.meets (bottom m n) is.tree.caps x (through e (after_levels is.is_tree.levels m (bottom m n))) (after_levels is.is_tree.levels m (bottom m n))) (sym is.is_tree.nexts)
      (subst (λ (x : List ℕ). IsPiece (length s.caps) 0 whole.meets (bottom m n) x whole.nexts (through e (after_levels is.is_tree.levels m (bottom m n))) (after_levels is.is_tree.levels m (bottom m n))) (sym is.is_tree.caps)
      (levels_piece is.is_tree.levels (length s.caps) m 0 e (bottom m n) at_whole (omega arith) w.0 (omega arith))))

  groups_same : length whole.meets ≡ length (bottom m n)
  groups_same = length-meets is.is_tree.levels m 0 (bottom m n)

  both : IsPiece (length s.caps) 0 (whole.meets ++ e ∷ []) (bottom m n ++ m ∷ []) (is.tree.caps ++ falling m m) (is.tree.nexts ++ leading e m (length s.caps)) (length s.caps ∷ []) (m ∷ [])
  both = let w = wide in let w0 = w.0 in let w1 = w.1 in let g = gated_stages in let f = first_is in
      in_row (length s.caps) 0 (whole.meets ++ e ∷ []) (bottom m n ++ m ∷ []) is.tree.caps is.tree.nexts (e ∷ e ∷ []) (m ∷ m ∷ []) (falling m m) (leading e m (length s.caps)) (length s.caps ∷ []) (m ∷ []) e (omega arith)
      (with_behind (length s.caps) 0 whole.meets (bottom m n) is.tree.caps is.tree.nexts (e ∷ []) (m ∷ []) tree_piece (e ∷ []) (m ∷ []) groups_same refl (λ j l. let z = not_at e j m (λ q. omega arith) in omega arith))
      (gate_stages (length s.caps) m e w.0 (omega arith) (omega arith))

  piece : IsPiece (length s.caps) 0 (whole.meets ++ e ∷ []) (bottom m n ++ m ∷ []) s.caps s.nexts (length s.caps ∷ []) (m ∷ [])
  piece = subst (λ (x : List ℕ). IsPiece (length s.caps) 0 (whole.meets ++ e ∷ []) (bottom m n ++ m ∷ []) s.caps x (length s.caps ∷ []) (m ∷ [])) (sym is.nexts)
      (subst (λ (x : List ℕ). IsPiece (length s.caps) 0 (whole.meets ++ e ∷ []) (bottom m n ++ m ∷ []) x (is.tree.nexts ++ leading e m (length s.caps)) (length s.caps ∷ []) (m ∷ [])) (sym is.caps) both)

  pub start_left : (p : ℕ) → p < n → slice_index s.starts p ≡ slice_index whole.meets (p / m)
  start_left p l = let q = is.is_tree.starts in ap (λ (v : List ℕ). slice_index v p) is.starts ∙ (get_or_append_left is.tree.starts (replicate m e) 0 p (omega arith) ∙ is.is_tree.start p l)

  pub start_right : (i : ℕ) → i < m → slice_index s.starts (n + i) ≡ e
  start_right i l = ap (λ (v : List ℕ). slice_index v (n + i)) is.starts ∙ (ap (λ (x : ℕ). get_or (is.tree.starts ++ replicate m e) (x + i) 0) (sym is.is_tree.starts)
      ∙ (get_or-append-add is.tree.starts (replicate m e) i 0 ∙ get_or-replicate m i e 0 l))

  flows : (j : ℕ) → starts (plan s) j ≡ inflow j (whole.meets ++ e ∷ []) (bottom m n ++ m ∷ [])
  flows j = let w = wide in
      let a : starts (plan s) j ≡ over (m + n) (λ r. link (slice_index s.starts r) j 1) = ap (λ (x : ℕ). over x (λ r. link (slice_index s.starts r) j 1)) at in
      let b = over_split n m (λ (r : ℕ). link (slice_index s.starts r) j 1) in
      let c : over n (λ r. link (slice_index s.starts r) j 1) ≡ inflow j whole.meets (bottom m n) = starts_flow ((n + m - 1) / m) m n j whole.meets (λ (r : ℕ). slice_index s.starts r) w.0
      (groups_same ∙ length-groups ((n + m - 1) / m) m n) (groups_enough n m w.0) start_left in
      let d : over m (λ i. link (slice_index s.starts (n + i)) j 1) ≡ link e j m = over_link m e j (λ (i : ℕ). link (slice_index s.starts (n + i)) j 1) (λ i l. ap (λ (x : ℕ). link x j 1) (start_right i l)) in
      let f = inflow-append j whole.meets (e ∷ []) (bottom m n) (m ∷ []) groups_same in omega arith
    where
      at : s.parties ≡ m + n
      at = let p = is.parties in omega arith

  start_low : (p : ℕ) → p < n + m → slice_index s.starts p ≤ length s.caps
  start_low p l = let g = gated_stages in let f = first_is in ⊎_elim
      (λ (q : p < n). let z = within_get 0 e whole.meets (p / m) (meets_within is.is_tree.levels m 0 e (bottom m n) at_whole) in let y = start_left p q in omega arith)
      (λ (q : n ≤ p). let z = start_right (p - n) (omega arith) in let y : n + (p - n) ≡ p = omega arith in let x : slice_index s.starts (n + (p - n)) ≡ slice_index s.starts p = ap (λ (v : ℕ). slice_index s.starts v) y in omega arith) (cases_lt p n)

  pub gated_valid : IsNet s
  gated_valid = let w = wide in let w0 = w.0 in let w1 = w.1 in let g = gated_stages in let p = is.parties in let q = is.width in let c = sum-cons m [] in
      net_of_piece s (whole.meets ++ e ∷ []) (bottom m n ++ m ∷ []) (length s.caps ∷ []) (m ∷ []) piece flows (omega arith)
      (λ r l. start_low r (omega arith))
      (record {
        two = omega arith;
        parties = omega arith;
        wide = omega arith;
        width = omega arith;
        stages = omega arith;
        nexts = piece.same;
        starts = let a : length s.starts ≡ length (is.tree.starts ++ replicate m e) = ap length is.starts in let b = length-append is.tree.starts (replicate m e) in let d = length-replicate m e in let h = is.is_tree.starts in omega arith;
      })

-- the lists of the net
pub gated_of : (n k m first second : ℕ) (caps nexts starts gate caps' nexts' starts' : List ℕ) → m ≡ min k n → first ≡ length caps → second ≡ first + m → IsTree n k (sheet n (min k n) caps nexts starts) → gate ≡ replicate m first
    → caps' ≡ caps ++ falling m m → nexts' ≡ nexts ++ leading first m second → starts' ≡ starts ++ gate → IsGated n k (sheet (n + m) m caps' nexts' starts')
gated_of n k m first second caps nexts starts gate caps' nexts' starts' em ef es is eg a b c = record {
  tree = sheet n (min k n) caps nexts starts;
  is_tree = is;
  parties = ap (λ (x : ℕ). n + x) em;
  width = em;
  caps = a ∙ ap (λ (x : ℕ). caps ++ falling x x) em;
  nexts = b ∙ (ap (λ (x : ℕ). nexts ++ leading x m second) ef ∙ (ap (λ (x : ℕ). nexts ++ leading (length caps) x second) em ∙ ap (λ (x : ℕ). nexts ++ leading (length caps) (min k n) x) last));
  starts = c ∙ (ap (λ (v : List ℕ). starts ++ v) (eg ∙ (ap (λ (x : ℕ). replicate x first) em ∙ ap (λ (x : ℕ). replicate (min k n) x) ef)));
}
  where
    last : second ≡ length caps'
    last = let x : length caps' ≡ length (caps ++ falling m m) = ap length a in let y = length-append caps (falling m m) in let z = length-falling m m in omega arith
