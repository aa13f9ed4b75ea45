-- How many stages are left on a path behind the gate: m in the chain, and before it those of the tree.
use Rattle.std.proofs.Common.{◌≡◌, ◌⊎◌, ℕ, zero, suc, ◌+◌, ◌-◌, ◌*◌, ◌<◌, ◌≤◌, ◌/◌, min, List, ◌++◌, length, get_or, map, slice_index, sym, ap, ◌∙◌, ⊎_elim, arith}
use Rattle.std.proofs.lemmas.List.{length-append, length-map, get_or_append_left, get_or-append-add, get_or-append_right, get_or-map, get_or_past}
use Rattle.std.proofs.lemmas.Bool.{cases_lt}
use Rattle.kex_core.specs.Shapes.{Sheet, plan}
use Rattle.kex_core.specs.Costs.{depth}
use Rattle.kex_net.specs.Trees.{bottom, falling, leading, Stages, levels_over}
use Rattle.kex_net.specs.Gates.{IsGated}
use Rattle.kex_net.proofs.ChainLemmas.{min_facts}
use Rattle.kex_net.proofs.Pieces.{length-falling}
use Rattle.kex_net.proofs.TreeNets.{length-meets, length-groups, tree_stages, tree_valid}
use Rattle.kex_net.proofs.GateNets.{gated_valid, gated_stages, start_left, start_right, length-leading}
use Rattle.kex_net.proofs.Heights.{depth_most, heights, length-heights, groups_most, Reads, pair_falls, tree_below, tree_falls, below_get, quotient_less}

module _ (n k : ℕ) (two : 2 ≤ n) (some : 1 ≤ k) (room : 2 * min k n < n) (small : n + min k n ≤ 256) (s : Sheet) (is : IsGated n k s) where
  abbrev whole : Stages
  whole = levels_over is.is_tree.levels (min k n) 0 (bottom (min k n) n)

  abbrev e : ℕ
  e = length is.tree.caps

  abbrev hs : List ℕ
  hs = heights is.is_tree.levels (min k n) (bottom (min k n) n)

  abbrev more : List ℕ
  more = map (λ (x : ℕ). x + min k n) hs

  -- the number of a stage, and in the tree what it is above the chain's
  abbrev h : ℕ → ℕ
  h j = get_or (more ++ falling 1 (min k n)) j 0

  abbrev low : ℕ → ℕ
  low j = h j - min k n

  one : 1 ≤ min k n
  one = let f = min_facts k n in let f0 = f.0 in ⊎_elim (λ (q : min k n ≡ n). omega arith) (λ (q : min k n ≡ k). omega arith) f.2

  first_is : e + min k n ≡ n
  first_is = tree_stages n k two (omega arith) some is.tree is.is_tree

  length-more : length more ≡ e
  length-more = length-map hs (λ (x : ℕ). x + min k n) ∙ (length-heights is.is_tree.levels (min k n) 0 (bottom (min k n) n) ∙ sym (ap length is.is_tree.caps))

  length-hs : length hs ≡ e
  length-hs = length-heights is.is_tree.levels (min k n) 0 (bottom (min k n) n) ∙ sym (ap length is.is_tree.caps)

  low_reads : Reads low 0 hs
  low_reads i l = let q : 0 + i ≡ i = omega arith in let a = length-more in let b = length-hs in let c : low (0 + i) ≡ low i = ap low q in
      let d = get_or_append_left more (falling 1 (min k n)) 0 i (omega arith) in let g = get_or-map (λ (x : ℕ). x + min k n) hs i 0 0 l in omega arith

  at_chain : (i : ℕ) → h (e + i) ≡ get_or (falling 1 (min k n)) i 0
  at_chain i = ap (λ (x : ℕ). h (x + i)) (sym length-more) ∙ get_or-append-add more (falling 1 (min k n)) i 0

  falling_head : (m : ℕ) → 1 ≤ m → get_or (falling 1 m) 0 0 ≡ m
  falling_head zero l = absurd (omega arith)
  falling_head (suc m) l = omega arith

  at_first : h e ≡ min k n
  at_first = let q : e + 0 ≡ e = omega arith in sym (ap h q) ∙ (at_chain 0 ∙ falling_head (min k n) one)

  low_end : low (0 + length hs) ≡ 0
  low_end = let q : 0 + length hs ≡ e = let a = length-hs in omega arith in let c : low (0 + length hs) ≡ low e = ap low q in let d = at_first in omega arith

  at_exit : h (length s.caps) ≡ 0
  at_exit = let a = length-append more (falling 1 (min k n)) in let b = length-more in let c = length-falling 1 (min k n) in let g = gated_stages n k two some room small s is in let f = first_is in
      get_or_past (more ++ falling 1 (min k n)) (length s.caps) 0 (omega arith)

  tree_nexts : length is.tree.nexts ≡ e
  tree_nexts = (tree_valid n k two (omega arith) some is.tree is.is_tree).sized.nexts

  falls : (j : ℕ) → j < length s.caps → h (slice_index s.nexts j) + 1 ≤ h j
  falls j l = ⊎_elim (λ (a : j < e). in_tree a) (λ (a : e ≤ j). behind a) (cases_lt j e)
    where
      in_tree : j < e → h (slice_index s.nexts j) + 1 ≤ h j
      in_tree a = let t = tree_nexts in let q : 0 + j ≡ j = omega arith in let w : length is.tree.nexts ≡ length whole.nexts = ap length is.is_tree.nexts in
          let v : slice_index s.nexts j ≡ get_or whole.nexts j 0 = ap (λ (x : List ℕ). slice_index x j) is.nexts ∙ (get_or_append_left is.tree.nexts (leading e (min k n) (length s.caps)) 0 j (omega arith) ∙ ap (λ (x : List ℕ). get_or x j 0) is.is_tree.nexts) in
          let u : h (slice_index s.nexts j) ≡ h (get_or whole.nexts j 0) = ap h v in let x : low (0 + j) ≡ low j = ap low q in
          let r = tree_falls low is.is_tree.levels (min k n) 0 (bottom (min k n) n) (groups_most ((n + min k n - 1) / min k n) (min k n) n) low_reads low_end j (omega arith) in omega arith

      behind : e ≤ j → h (slice_index s.nexts j) + 1 ≤ h j
      behind a = let t = tree_nexts in let g = gated_stages n k two some room small s is in let f = first_is in let z = length-leading e (min k n) (length s.caps) in let c = length-falling 1 (min k n) in
          let v : slice_index s.nexts j ≡ get_or (leading e (min k n) (length s.caps)) (j - e) 0 = ap (λ (x : List ℕ). slice_index x j) is.nexts ∙ get_or-append_right is.tree.nexts (leading e (min k n) (length s.caps)) e j 0 t a in
          let u : h (slice_index s.nexts j) ≡ h (get_or (leading e (min k n) (length s.caps)) (j - e) 0) = ap h v in let q : e + (j - e) ≡ j = omega arith in let x : h (e + (j - e)) ≡ h j = ap h q in
          let y = at_exit in
          let r = pair_falls h 0 e (min k n) (length s.caps) (λ i _. at_chain i) (omega arith) (j - e) (omega arith) in omega arith

  -- those of the gate have m stages at most
  pub gate_depth : (p : ℕ) → n ≤ p → p < n + min k n → depth (plan s) p ≤ min k n
  gate_depth p a b = let v = gated_valid n k two some room small s is in let g = is.parties in
      let d = depth_most (plan s) v.valid p (omega arith) h falls in let r = start_right n k two some room small s is (p - n) (omega arith) in let q : n + (p - n) ≡ p = omega arith in
      let u : slice_index s.starts (n + (p - n)) ≡ slice_index s.starts p = ap (λ (x : ℕ). slice_index s.starts x) q in let w : h (slice_index s.starts p) ≡ h e = ap h (sym u ∙ r) in let z = at_first in omega arith

  -- the others those of the tree and m more
  pub other_depth : (p : ℕ) → p < n → depth (plan s) p ≤ is.is_tree.levels * min k n + min k n
  other_depth p l = let v = gated_valid n k two some room small s is in let g = is.parties in
      let d = depth_most (plan s) v.valid p (omega arith) h falls in
      let w : h (slice_index s.starts p) ≡ h (slice_index whole.meets (p / min k n)) = ap h (start_left n k two some room small s is p l) in
      let a : length whole.meets ≡ (n + min k n - 1) / min k n = length-meets is.is_tree.levels (min k n) 0 (bottom (min k n) n) ∙ length-groups ((n + min k n - 1) / min k n) (min k n) n in
      let q = quotient_less p n (min k n) one l in
      let b = below_get low (is.is_tree.levels * min k n) whole.meets (p / min k n) (omega arith) (tree_below low is.is_tree.levels (min k n) 0 (bottom (min k n) n) (groups_most ((n + min k n - 1) / min k n) (min k n) n) low_reads low_end) in omega arith
