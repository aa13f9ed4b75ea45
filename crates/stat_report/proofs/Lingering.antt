-- The lines of seats that linger, one more.
use Rattle.std.proofs.Common.{◌≡◌, ℕ, zero, suc, ◌+◌, ◌<◌, List, [], ◌∷◌, ◌++◌, length, take, None, Some, slice_get, sym, ap, ◌∙◌, subst, append_assoc, add-one, arith}
use Rattle.std.proofs.lemmas.List.{append-nil}
use Rattle.std.specs.List.{flat_map}
use Rattle.options_machine.specs.declared.rows.Lingerer.{Lingerer}
use Rattle.stat_report.specs.Report.{lingering_line}

next : (ls : List Lingerer) (at : ℕ) (e : Lingerer) → slice_get ls at ≡ Some e → flat_map lingering_line (take (suc at) ls) ≡ flat_map lingering_line (take at ls) ++ lingering_line e
next [] at e h = absurd cc
next (x ∷ ls) zero e h = let same : x ≡ e = cc in append-nil (lingering_line x) ∙ ap lingering_line same
next (x ∷ ls) (suc at) e h = ap (λ (t : List ℕ). lingering_line x ++ t) (next ls at e h) ∙ sym (append_assoc (lingering_line x) (flat_map lingering_line (take at ls)) (lingering_line e))

-- a line more
pub one_more : (ls : List Lingerer) (at : ℕ) (e : Lingerer) (old now new : List ℕ) → slice_get ls at ≡ Some e → now ≡ old ++ flat_map lingering_line (take at ls) → new ≡ now ++ lingering_line e
    → new ≡ old ++ flat_map lingering_line (take (at + 1) ls)
one_more ls at e old now new h before after =
    after
    ∙ (ap (λ (t : List ℕ). t ++ lingering_line e) before
    ∙ (append_assoc old (flat_map lingering_line (take at ls)) (lingering_line e)
    ∙ rw add-one (ap (λ (t : List ℕ). old ++ t) (sym (next ls at e h)))))

-- there is an entry at each place before the end
pub none_before : (ls : List Lingerer) (at : ℕ) → at < length ls → slice_get ls at ≡ None → ⊥
none_before [] at h e = omega arith
none_before (x ∷ ls) zero h e = absurd cc
none_before (x ∷ ls) (suc at) h e = none_before ls at (omega arith) e
