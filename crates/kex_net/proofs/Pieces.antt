-- Pieces of a net: some stages, the groups that come to them, and the groups that they hand up. Pieces in a row, or beside other groups, are pieces.
use Rattle.std.proofs.Common.{◌≡◌, ◌≢◌, ◌⊎◌, ℕ, zero, suc, ◌+◌, ◌-◌, ◌<◌, ◌≤◌, ◌^◌, min, List, [], ◌∷◌, ◌++◌, length, get_or, sym, refl, subst, ⊎_elim, arith}
use Rattle.std.proofs.lemmas.List.{length-append, get_or_append_left, get_or-append_right}
use Rattle.std.proofs.lemmas.Bool.{cases_lt}
use Rattle.kex_net.specs.Trees.{falling, leading, stage_met}
use Rattle.kex_net.proofs.Flows.{inflow, inflow-append, at_it, not_at, link_add, link_le}

-- The stages from `first` on, with these capacities and next stages, none above `exit`. By the links `ins` come groups of the sizes `from`, and by `outs` go groups of the sizes `to`.
pub record IsPiece (exit first : ℕ) (ins from caps nexts outs to : List ℕ) : Type 0 where
  pub same : length nexts ≡ length caps
  pub below : (j : ℕ) → j < first → inflow j ins from ≡ 0
  pub before : (j : ℕ) → j ≤ first → inflow j nexts caps ≡ 0
  pub room : (i : ℕ) → i < length caps → inflow (first + i) ins from + inflow (first + i) nexts caps ≤ get_or caps i 0 + 1
  pub behind : (j : ℕ) → first + length caps ≤ j → inflow j ins from + inflow j nexts caps ≤ inflow j outs to
  pub next_low : (i : ℕ) → i < length caps → first + i < get_or nexts i 0
  pub next_high : (i : ℕ) → get_or nexts i 0 ≤ exit
  pub cap_low : (i : ℕ) → i < length caps → 1 ≤ get_or caps i 0
  pub cap_high : (i : ℕ) → get_or caps i 0 < 2 ^ 32

-- a member of two lists end to end
pub joined : (P : ℕ → ℕ → Type 0) (xs ys : List ℕ) (n : ℕ) → length xs ≡ n → ((i : ℕ) → i < n → P i (get_or xs i 0)) → ((i : ℕ) → n ≤ i → P i (get_or ys (i - n) 0)) → (i : ℕ) → P i (get_or (xs ++ ys) i 0)
joined P xs ys n e h k i = ⊎_elim (λ (l : i < n). subst (P i) (sym (get_or_append_left xs ys 0 i (omega arith))) (h i l))
    (λ (l : n ≤ i). subst (P i) (sym (get_or-append_right xs ys n i 0 e l)) (k i l)) (cases_lt i n)

module _ (exit first : ℕ) (ins from caps nexts mids mid caps' nexts' outs to : List ℕ) (second : ℕ) (at : second ≡ first + length caps)
    (p : IsPiece exit first ins from caps nexts mids mid) (q : IsPiece exit second mids mid caps' nexts' outs to) where
  flow : (j : ℕ) → inflow j (nexts ++ nexts') (caps ++ caps') ≡ inflow j nexts caps + inflow j nexts' caps'
  flow j = inflow-append j nexts nexts' caps caps' p.same

  room_in : (i : ℕ) → i < length caps → inflow (first + i) ins from + inflow (first + i) (nexts ++ nexts') (caps ++ caps') ≤ get_or (caps ++ caps') i 0 + 1
  room_in i l = let f = flow (first + i) in let r = p.room i l in let z = q.before (first + i) (omega arith) in let g = get_or_append_left caps caps' 0 i l in omega arith

  room_behind : (i : ℕ) → length caps ≤ i → i < length caps + length caps' → inflow (first + i) ins from + inflow (first + i) (nexts ++ nexts') (caps ++ caps') ≤ get_or (caps ++ caps') i 0 + 1
  room_behind i l m = let f = flow (first + i) in let b = p.behind (first + i) (omega arith) in let g = get_or-append_right caps caps' (length caps) i 0 refl l in
      let e : second + (i - length caps) ≡ first + i = omega arith in
      let r = subst (λ (j : ℕ). inflow j mids mid + inflow j nexts' caps' ≤ get_or caps' (i - length caps) 0 + 1) e (q.room (i - length caps) (omega arith)) in omega arith

  -- pieces in a row
  pub in_row : IsPiece exit first ins from (caps ++ caps') (nexts ++ nexts') outs to
  in_row = let s = p.same in let t = q.same in let a = length-append caps caps' in let b = length-append nexts nexts' in record {
    same = omega arith;
    below = p.below;
    before = λ j l. let f = flow j in let x = p.before j l in let y = q.before j (omega arith) in omega arith;
    room = λ i l. ⊎_elim (λ (m : i < length caps). room_in i m) (λ (m : length caps ≤ i). room_behind i m (omega arith)) (cases_lt i (length caps));
    behind = λ j l. let f = flow j in let x = p.behind j (omega arith) in let y = q.behind j (omega arith) in omega arith;
    next_low = λ i l. joined (λ (i v : ℕ). i < length caps + length caps' → first + i < v) nexts nexts' (length caps) s (λ i m _. p.next_low i m)
        (λ i m n. let x = q.next_low (i - length caps) (omega arith) in omega arith) i (omega arith);
    next_high = joined (λ (i v : ℕ). v ≤ exit) nexts nexts' (length nexts) refl (λ i _. p.next_high i) (λ i _. q.next_high (i - length nexts));
    cap_low = λ i l. joined (λ (i v : ℕ). i < length caps + length caps' → 1 ≤ v) caps caps' (length caps) refl (λ i m _. p.cap_low i m)
        (λ i m n. q.cap_low (i - length caps) (omega arith)) i (omega arith);
    cap_high = joined (λ (i v : ℕ). v < 2 ^ 32) caps caps' (length caps) refl (λ i _. p.cap_high i) (λ i _. q.cap_high (i - length caps));
  }

module _ (exit first : ℕ) (ins from caps nexts outs to : List ℕ) (p : IsPiece exit first ins from caps nexts outs to) where
  -- a piece with other groups behind its own, which come to nothing before the piece's end
  pub with_behind : (others sizes : List ℕ) → length ins ≡ length from → length outs ≡ length to → ((j : ℕ) → j < first + length caps → inflow j others sizes ≡ 0)
      → IsPiece exit first (ins ++ others) (from ++ sizes) caps nexts (outs ++ others) (to ++ sizes)
  with_behind others sizes e f low = record {
    same = p.same;
    below = λ j l. let a = inflow-append j ins others from sizes e in let b = p.below j l in let c = low j (omega arith) in omega arith;
    before = p.before;
    room = λ i l. let a = inflow-append (first + i) ins others from sizes e in let b = p.room i l in let c = low (first + i) (omega arith) in omega arith;
    behind = λ j l. let a = inflow-append j ins others from sizes e in let c = inflow-append j outs others to sizes f in let b = p.behind j l in omega arith;
    next_low = p.next_low;
    next_high = p.next_high;
    cap_low = p.cap_low;
    cap_high = p.cap_high;
  }

  -- a piece with one group before its own, which meets something behind the piece
  pub with_one : (up size : ℕ) → first + length caps ≤ up → IsPiece exit first (up ∷ ins) (size ∷ from) caps nexts (up ∷ outs) (size ∷ to)
  with_one up size high = record {
    same = p.same;
    below = λ j l. let b = p.below j l in let c = not_at up j size (λ e. omega arith) in omega arith;
    before = p.before;
    room = λ i l. let b = p.room i l in let c = not_at up (first + i) size (λ e. omega arith) in omega arith;
    behind = λ j l. let b = p.behind j l in omega arith;
    next_low = p.next_low;
    next_high = p.next_high;
    cap_low = p.cap_low;
    cap_high = p.cap_high;
  }

-- no stage: the groups go on
pub nothing : (exit first : ℕ) (ins from : List ℕ) → ((j : ℕ) → j < first → inflow j ins from ≡ 0) → IsPiece exit first ins from [] [] ins from
nothing exit first ins from low = record {
  same = refl;
  below = low;
  before = λ j l. refl;
  room = λ i l. absurd (omega arith);
  behind = λ j l. omega arith;
  next_low = λ i l. absurd (omega arith);
  next_high = λ i. omega arith;
  cap_low = λ i l. absurd (omega arith);
  cap_high = λ i. omega arith;
}

-- these links all lead to one stage, and so many can come by them
pub record LeadTo (first : ℕ) (ins from : List ℕ) (size : ℕ) : Type 0 where
  pub only : (j : ℕ) → j ≢ first → inflow j ins from ≡ 0
  pub most : inflow first ins from ≤ size

pub one_leads : (first size : ℕ) → LeadTo first (first ∷ []) (size ∷ []) size
one_leads first size = record { only = λ j d. let a = not_at first j size (λ e. d (sym e)) in omega arith; most = let a = at_it first first size refl in omega arith }

pub two_lead : (first a b : ℕ) → LeadTo first (first ∷ first ∷ []) (a ∷ b ∷ []) (a + b)
two_lead first a b = record {
  only = λ j d. let x = not_at first j a (λ e. d (sym e)) in let y = not_at first j b (λ e. d (sym e)) in omega arith;
  most = let x = at_it first first a refl in let y = at_it first first b refl in omega arith;
}

-- one stage
pub one_stage : (exit first cap up size : ℕ) (ins from : List ℕ) → LeadTo first ins from (cap + 1) → first < up → up ≤ exit → 1 ≤ cap → cap < 2 ^ 32 → cap ≤ size
    → IsPiece exit first ins from (cap ∷ []) (up ∷ []) (up ∷ []) (size ∷ [])
one_stage exit first cap up size ins from lead low high some small le = record {
  same = refl;
  below = λ j l. lead.only j (λ e. omega arith);
  before = λ j l. let a = not_at up j cap (λ e. omega arith) in omega arith;
  room = room;
  behind = λ j l. let z = lead.only j (λ e. omega arith) in let a = link_le up j cap size le in omega arith;
  next_low = λ i l. let e : i ≡ 0 = omega arith in subst (λ (i : ℕ). first + i < get_or (up ∷ []) i 0) (sym e) (omega arith);
  next_high = one up (λ (v : ℕ). v ≤ exit) high (omega arith);
  cap_low = λ i l. let e : i ≡ 0 = omega arith in subst (λ (i : ℕ). 1 ≤ get_or (cap ∷ []) i 0) (sym e) some;
  cap_high = one cap (λ (v : ℕ). v < 2 ^ 32) small (omega arith);
}
  where
    one : (v : ℕ) (P : ℕ → Type 0) → P v → P 0 → (i : ℕ) → P (get_or (v ∷ []) i 0)
    one v P h z zero = h
    one v P h z (suc i) = z

    room : (i : ℕ) → i < 1 → inflow (first + i) ins from + inflow (first + i) (up ∷ []) (cap ∷ []) ≤ get_or (cap ∷ []) i 0 + 1
    room i l = let e : i ≡ 0 = omega arith in let f : first ≡ first + 0 = omega arith in
        subst (λ (i : ℕ). inflow (first + i) ins from + inflow (first + i) (up ∷ []) (cap ∷ []) ≤ get_or (cap ∷ []) i 0 + 1) (sym e)
        (subst (λ (j : ℕ). inflow j ins from + inflow j (up ∷ []) (cap ∷ []) ≤ cap + 1) f (let m = lead.most in let a = not_at up first cap (λ e. omega arith) in omega arith))

pub length-falling : (m count : ℕ) → length (falling m count) ≡ count
length-falling m zero = refl
length-falling m (suc count) = let h = length-falling m count in omega arith

-- stages in a row, the last of them of capacity m
pub stages : (exit m count first up : ℕ) (ins from : List ℕ) → LeadTo first ins from (m + count + 1) → first + suc count ≤ up → up ≤ exit → 1 ≤ m → m + count < 2 ^ 32
    → IsPiece exit first ins from (falling m (suc count)) (leading first (suc count) up) (up ∷ []) (m ∷ [])
stages exit m zero first up ins from lead low high some small =
    one_stage exit first (m + 0) up m ins from lead (omega arith) high (omega arith) small (omega arith)
stages exit m (suc count) first up ins from lead low high some small =
    let l = length-falling m (suc count) in
    let e : m + suc count ≡ m + count + 1 = omega arith in
    in_row exit first ins from ((m + suc count) ∷ []) ((first + 1) ∷ []) ((first + 1) ∷ []) ((m + suc count) ∷ []) (falling m (suc count)) (leading (first + 1) (suc count) up) (up ∷ []) (m ∷ []) (first + 1) refl
    (one_stage exit first (m + suc count) (first + 1) (m + suc count) ins from lead (omega arith) (omega arith) (omega arith) small (omega arith))
    (stages exit m count (first + 1) up ((first + 1) ∷ []) ((m + suc count) ∷ []) (subst (LeadTo (first + 1) ((first + 1) ∷ []) ((m + suc count) ∷ [])) e (one_leads (first + 1) (m + suc count))) (omega arith) high some (omega arith))

-- a pair of groups
pub pair : (exit m a b count first up : ℕ) → count ≡ a + b - m → first + count ≤ up → up ≤ exit → 1 ≤ m → a + b < 2 ^ 32
    → IsPiece exit first (stage_met first count up ∷ stage_met first count up ∷ []) (a ∷ b ∷ []) (falling m count) (leading first count up) (up ∷ []) (min m (a + b) ∷ [])
pair exit m a b zero first up e low high some small = record {
  same = refl;
  below = λ j l. let x = not_at up j a (λ q. omega arith) in let y = not_at up j b (λ q. omega arith) in omega arith;
  before = λ j l. refl;
  room = λ i l. absurd (omega arith);
  behind = λ j l. let x = link_add up j a b in let y = link_le up j (a + b) (min m (a + b)) (omega arith) in omega arith;
  next_low = λ i l. absurd (omega arith);
  next_high = λ i. omega arith;
  cap_low = λ i l. absurd (omega arith);
  cap_high = λ i. omega arith;
}
pair exit m a b (suc count) first up e low high some small =
    let w : m ≡ min m (a + b) = omega arith in let s : a + b ≡ m + count + 1 = omega arith in
    subst (λ (v : ℕ). IsPiece exit first (first ∷ first ∷ []) (a ∷ b ∷ []) (falling m (suc count)) (leading first (suc count) up) (up ∷ []) (v ∷ [])) w
    (stages exit m count first up (first ∷ first ∷ []) (a ∷ b ∷ []) (subst (LeadTo first (first ∷ first ∷ []) (a ∷ b ∷ [])) s (two_lead first a b)) low high some (omega arith))
