-- One counter of a pass is changed.
use Rattle.std.proofs.Common.{◌≡◌, ℕ, ◌<◌, ◌∙◌, List, length, ap, sym, subst, get_or, set, length-set, inl, inr}
use Rattle.std.proofs.lemmas.List.{get_or-set_same, get_or-set_other}
use Rattle.std.proofs.lemmas.Bool.Decides.{eqb_tells}
use Rattle.counter.specs.Account.{Account}
use Rattle.office_view.specs.View.{View}
use Rattle.options_machine.specs.declared.reply.Kind.{Kind}
use Rattle.options_machine.specs.declared.reply.Kind.TheVariants.{Quit}
use Rattle.session.specs.Asks.{IsLeftIdle}
use Rattle.session.specs.Pass.{AreOf, IsIdle}

module _ {C : Type 0} (cs : List C) (i : ℕ) (new : C) (within : i < length cs) where
  -- what holds of the new one and of all others
  by_place : (P : ℕ → C → Type 0) (j : ℕ) (c : C) → P i new → P j (get_or cs j c) → P j (get_or (set cs i new) j c)
  by_place P j c here there =
      elim (eqb_tells i j) [
        | inl p ↦ subst (λ (k : ℕ). P k (get_or (set cs i new) k c)) p.1 (subst (λ (x : C). P i x) (sym (get_or-set_same cs i new c within)) here)
        | inr p ↦ subst (λ (x : C). P j x) (sym (get_or-set_other cs i j new c (λ e. p.1 (sym e)))) there
      ]

  pub of_set : {D : Type 0} (is_of : C → D → Type 0) (account : C → Account) (v : View D) (d : C) → AreOf is_of account cs v → ((e : D) → is_of (get_or cs i d) e → is_of new e) → (account new).sets ≡ (account (get_or cs i d)).sets → AreOf is_of account (set cs i new) v
  of_set {D} is_of account v d h keep same = record {
    long = length-set cs i new ∙ h.long;
    each = λ j c e below.
        by_place (λ k x. is_of x (get_or v.desks k e)) j c (keep (get_or v.desks i e) (h.each i d e within)) (h.each j c e (subst (λ n. j < n) (length-set cs i new) below));
    sets = λ j c below.
        by_place (λ k x. length (account x).sets ≡ v.sets) j c (ap length same ∙ h.sets i d within) (h.sets j c (subst (λ n. j < n) (length-set cs i new) below));
  }

  pub left_idle : (account : C → Account) (what : Kind) → (what ≡ Quit → IsIdle (account new)) → IsLeftIdle account what i cs (set cs i new)
  left_idle account what idle quit j c below = (
    λ e. subst (λ (k : ℕ). IsIdle (account (get_or (set cs i new) k c))) (sym e) (subst (λ (x : C). IsIdle (account x)) (sym (get_or-set_same cs i new c within)) (idle quit)),
    λ ne. get_or-set_other cs i j new c ne,
  )
