-- A history of a `Sum` one entry longer.
use Rattle.std.proofs.Common.{◌≡◌, ℕ, ◌+◌, ◌%◌, ◌^◌, List, [], ◌∷◌, ◌++◌, length, take, slice_get, Some, sym, ap, ◌∙◌, ⊎_elim, arith}
use Rattle.std.proofs.lemmas.List.Sums.{sum_by-append}
use Rattle.std.proofs.lemmas.List.{take-append-le}
use Rattle.std.proofs.Math.Seq.{take-append_seam}
use Rattle.std.proofs.lemmas.Option.{slice_get_within}
use Rattle.turn_lock.specs.declared.kept.Entry.{Entry}
use Rattle.turn_lock.specs.declared.sum.Addend.{Addend}
use Rattle.turn_lock.specs.Sums.{total_of, IsRun}
use Rattle.pass_roles.proofs.Members.{got_snoc}

pub total_longer : (h : List (Entry Addend ℕ)) (e : Entry Addend ℕ) → total_of (h ++ e ∷ []) ≡ (total_of h + e.request.amount) % 2 ^ 64
total_longer h e = let s = sum_by-append (λ (x : Entry Addend ℕ). x.request.amount) h (e ∷ []) in omega arith

pub run_longer : (h : List (Entry Addend ℕ)) (e : Entry Addend ℕ) → IsRun h → e.answer ≡ total_of h → IsRun (h ++ e ∷ [])
run_longer h e r a k x at = ⊎_elim
    (λ (old : slice_get h k ≡ Some x). let n = slice_get_within h k x old in r k x old ∙ ap total_of (sym (take-append-le k h (e ∷ []) (omega arith))))
    (λ (t : (k ≡ length h) × (e ≡ x)). ap (λ (z : Entry Addend ℕ). z.answer) (sym t.1) ∙ (a ∙ ap total_of (sym (ap (λ (z : ℕ). take z (h ++ e ∷ [])) t.0 ∙ take-append_seam h (e ∷ [])))))
    (got_snoc h e x k at)
