use Rattle.std.proofs.Common.{◌≡◌, ℕ, zero, suc, ◌+◌, ◌-◌, ◌<◌, Bool, true, false, cond, List, [], ◌∷◌, ◌++◌, Some, length, map, take, drop, get_or, set, slice_get, refl, ap, sym, ◌∙◌, arith, add-one, append_assoc}
use Rattle.std.proofs.lemmas.Grind.{common_steps}
use Rattle.std.proofs.lemmas.List.{drop-drop, drop-set-lt, drop_more, take_more_set}
use Rattle.options_machine.specs.declared.limits.Limit.{Limit}
use Rattle.policy.proofs.Finds.{next_item}
use Rattle.seat_counters.specs.Counts.{first_line, with_less, with_more}

head_of : (zs : List ℕ) (at d : ℕ) → get_or (drop at zs) 0 d ≡ get_or zs at d
head_of zs at d = grind (arith, common_steps)

-- where two lists are the same from a place on, they are the same at it
pub at_drop : (xs ys : List ℕ) (at d : ℕ) → drop at xs ≡ drop at ys → get_or xs at d ≡ get_or ys at d
at_drop xs ys at d e = sym (head_of xs at d) ∙ ap (λ (zs : List ℕ). get_or zs 0 d) e ∙ head_of ys at d

-- and they are the same from the next place on, whatever was written at it
pub later_drop : (xs ys : List ℕ) (at v : ℕ) → drop at xs ≡ drop at ys → drop (at + 1) (set xs at v) ≡ drop (at + 1) ys
later_drop xs ys at v e = drop-set-lt (at + 1) xs at v (omega arith) ∙ sym (drop-drop 1 at xs) ∙ ap (drop 1) e ∙ drop-drop 1 at ys

-- one count is raised where its line passes
pub raised : (p : Limit → Bool) (ms : List Limit) (ns : List ℕ) (at : ℕ) (m : Limit) (v : ℕ)
    → at < length ns → slice_get ms at ≡ Some m → v ≡ get_or ns at 0 + cond (p m) 1 0
    → take (at + 1) (set ns at v) ++ with_more p (drop (at + 1) ms) (drop (at + 1) (set ns at v)) ≡ take at ns ++ with_more p (drop at ms) (drop at ns)
raised p ms ns at m v lt e is =
    rw (take_more_set ns at v lt, drop-set-lt (at + 1) ns at v (omega arith), next_item ms at m e, drop_more ns at 0 lt, is)
    (append_assoc (take at ns) ((get_or ns at 0 + cond (p m) 1 0) ∷ []) (with_more p (drop (at + 1) ms) (drop (at + 1) ns)))

-- and lowered
pub lowered : (p : Limit → Bool) (ms : List Limit) (ns : List ℕ) (at : ℕ) (m : Limit) (v : ℕ)
    → at < length ns → slice_get ms at ≡ Some m → v ≡ get_or ns at 0 - cond (p m) 1 0
    → take (at + 1) (set ns at v) ++ with_less p (drop (at + 1) ms) (drop (at + 1) (set ns at v)) ≡ take at ns ++ with_less p (drop at ms) (drop at ns)
lowered p ms ns at m v lt e is =
    rw (take_more_set ns at v lt, drop-set-lt (at + 1) ns at v (omega arith), next_item ms at m e, drop_more ns at 0 lt, is)
    (append_assoc (take at ns) ((get_or ns at 0 - cond (p m) 1 0) ∷ []) (with_less p (drop (at + 1) ms) (drop (at + 1) ns)))

-- a line that passes with its count is the first
pub first_here : (p : Limit → ℕ → Bool) (ms : List Limit) (ns : List ℕ) (at : ℕ) (m : Limit)
    → at < length ns → slice_get ms at ≡ Some m → p m (get_or ns at 0) ≡ true
    → first_line p (drop at ms) (drop at ns) ≡ Some m.line.line
first_here p ms ns at m lt e passes = rw (next_item ms at m e, drop_more ns at 0 lt, passes) refl

-- one that doesn't is passed over
pub first_later : (p : Limit → ℕ → Bool) (ms : List Limit) (ns : List ℕ) (at : ℕ) (m : Limit)
    → at < length ns → slice_get ms at ≡ Some m → p m (get_or ns at 0) ≡ false
    → first_line p (drop (at + 1) ms) (drop (at + 1) ns) ≡ first_line p (drop at ms) (drop at ns)
first_later p ms ns at m lt e fails = rw (next_item ms at m e, drop_more ns at 0 lt, fails) refl

zeros_suc : (ms : List Limit) (at : ℕ) → at < length ms → map {B = ℕ} (λ (m : Limit). 0) (take (suc at) ms) ≡ map {B = ℕ} (λ (m : Limit). 0) (take at ms) ++ 0 ∷ []
zeros_suc [] at h = absurd (omega arith)
zeros_suc (m ∷ ms) zero h = refl
zeros_suc (m ∷ ms) (suc at) h = ap (λ (ns : List ℕ). 0 ∷ ns) (zeros_suc ms at (omega arith))

-- a 0 for one line more
pub zeros_more : (ms : List Limit) (at : ℕ) → at < length ms → map {B = ℕ} (λ (m : Limit). 0) (take (at + 1) ms) ≡ map {B = ℕ} (λ (m : Limit). 0) (take at ms) ++ 0 ∷ []
zeros_more ms at h = rw add-one (zeros_suc ms at h)
