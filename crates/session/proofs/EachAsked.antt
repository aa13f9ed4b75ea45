-- Asking several desks, one after another.
use Rattle.std.proofs.Common.{◌≡◌, ℕ, ◌+◌, ◌<◌, ◌∙◌, ◌++◌, ◌∷◌, [], List, true, false, cond, length, ap, sym, refl, arith, subst, get_or, add-one, eqb, inl, inr}
use Rattle.std.proofs.lemmas.List.{append-nil, get_or_default}
use Rattle.std.proofs.lemmas.Grind.{flat_map-append}
use Rattle.std.proofs.lemmas.Bool.{ne_eqb, or_parts}
use Rattle.std.proofs.lemmas.Bool.Decides.{eqb_tells}
use Rattle.counter.specs.Account.{Account, Asking}
use Rattle.lic_types.specs.declared.client.Client.{Client}
use Rattle.options_machine.specs.declared.reply.Kind.{Kind}
use Rattle.session_outside.specs.Talk.{Follows}
use Rattle.session.specs.Acts.{Act, Moment, Enter, moments_of, peals_of, talk_of}
use Rattle.session.specs.Asks.{AsksOnly, AsksUpTo, IsLeftIdle, LeavesIdle}
use Rattle.session.specs.Did.{IsSilent}
use Rattle.session.specs.Pass.{Gains, IsIdle}
use Rattle.session.specs.Table.{AsksEach, Setup, IsAsking, desks, is_desk_meant}
use Rattle.session.specs.declared.asked.Whom.{Whom}
use Rattle.session.specs.declared.asked.Whom.TheVariants.{Keeping}
use Rattle.session.proofs.Counts.{follows_none, follows_then}
use Rattle.session.proofs.Gaining.{gains_none, gains_same, gains_then}

pub asks_more : (client : Client) (what : Kind) (js : List ℕ) (new : List Act) (j at : ℕ) (a : Asking) → IsAsking client what at a → AsksEach client what js new → AsksEach client what (js ++ j ∷ []) (new ++ Moment at ∷ Enter j a ∷ [])
asks_more client what [] new j at a h e = (at, a, [], ap (λ l. l ++ Moment at ∷ Enter j a ∷ []) e, h, refl)
asks_more client what (i ∷ js) new j at a h e = (e.0, e.1, e.2 ++ Moment at ∷ Enter j a ∷ [], ap (λ l. l ++ Moment at ∷ Enter j a ∷ []) e.3, e.4, asks_more client what js e.2 j at a h e.5)

silent_then : (as' bs : List Act) → IsSilent as' → talk_of bs ≡ [] → peals_of bs ≡ [] → IsSilent (as' ++ bs)
silent_then as' bs h e f = record {
  talk = flat_map-append _ as' bs ∙ ap (λ l. l ++ talk_of bs) h.talk ∙ e;
  peals = flat_map-append _ as' bs ∙ ap (λ l. l ++ peals_of bs) h.peals ∙ f;
}

module _ {C K : Type 0} (account : C → Account) (gave : K → List ℕ → Type 0) where
  pub only_none : (xs : List C) (k : K) → AsksOnly account gave xs xs k k []
  only_none xs k = record { pass = gains_none account xs; clock = follows_none gave k; silent = record { talk = refl; peals = refl } }

  module _ (o : Setup) (client : Client) (whom : Whom) (what : Kind) (before : List Act) where
    pub upto_none : (xs : List C) (k : K) → AsksUpTo account gave o client whom what before 0 xs xs k k []
    upto_none xs k = record { only = only_none xs k; each = refl; later = λ j h. refl }

    pub upto_passed : (i : ℕ) (xs ys : List C) (k0 k1 : K) (new : List Act) → is_desk_meant whom o before i ≡ false → AsksUpTo account gave o client whom what before i xs ys k0 k1 new → AsksUpTo account gave o client whom what before (i + 1) xs ys k0 k1 new
    upto_passed i xs ys k0 k1 new e h = record {
      only = h.only;
      each = subst (λ n. AsksEach client what (desks whom o before n) new) (sym (add-one i))
          (subst (λ l. AsksEach client what l new) (sym (ap (λ b. desks whom o before i ++ cond b (i ∷ []) []) e ∙ append-nil (desks whom o before i))) h.each);
      later = λ k below. h.later k (omega arith);
    }

    pub upto_asked : (i at : ℕ) (a : Asking) (xs ys zs : List C) (k0 k1 k2 : K) (new : List Act) → is_desk_meant whom o before i ≡ true → IsAsking client what at a → Follows gave k1 k2 (at ∷ []) → Gains account (Enter i a ∷ []) ys zs
        → AsksUpTo account gave o client whom what before i xs ys k0 k1 new → AsksUpTo account gave o client whom what before (i + 1) xs zs k0 k2 (new ++ Moment at ∷ Enter i a ∷ [])
    upto_asked i at a xs ys zs k0 k1 k2 new e asked f g h = record {
      only = record {
        pass = gains_then account new (Moment at ∷ Enter i a ∷ []) xs ys zs h.only.pass (gains_then account (Moment at ∷ []) (Enter i a ∷ []) ys ys zs (gains_same account (Moment at ∷ []) ys (λ j. refl) (λ j. refl)) g);
        clock = subst (λ l. Follows gave k0 k2 l) (sym (flat_map-append _ new (Moment at ∷ Enter i a ∷ []))) (follows_then gave k0 k1 k2 (moments_of new) (at ∷ []) h.only.clock f);
        silent = silent_then new (Moment at ∷ Enter i a ∷ []) h.only.silent refl refl;
      };
      each = subst (λ n. AsksEach client what (desks whom o before n) (new ++ Moment at ∷ Enter i a ∷ [])) (sym (add-one i))
          (subst (λ l. AsksEach client what l (new ++ Moment at ∷ Enter i a ∷ [])) (sym (ap (λ b. desks whom o before i ++ cond b (i ∷ []) []) e)) (asks_more client what (desks whom o before i) new i at a asked h.each));
      later = λ k below.
          flat_map-append _ new (Moment at ∷ Enter i a ∷ [])
          ∙ ap (λ l. l ++ (cond (eqb i k) (a ∷ []) [] ++ [])) (h.later k (omega arith))
          ∙ ap (λ b. cond b (a ∷ []) [] ++ []) (ne_eqb i k (omega arith));
    }

-- the counters below i are idle, and so is the one at i after its Quit
pub idle_asked : {C : Type 0} (account : C → Account) (whom : Whom) (what : Kind) (i : ℕ) (xs ys : List C) → i < length xs → IsLeftIdle account what i xs ys → LeavesIdle account whom what xs i → LeavesIdle account whom what ys (i + 1)
idle_asked account whom what i xs ys within left h keeping quit j c below =
    elim (eqb_tells j i) [
      | inl p ↦ (left quit j c (omega (arith, p.1))).0 p.1
      | inr p ↦
          (let ne = p.1 in
          let low : j < i = omega arith in
          let same = (left quit j c (omega arith)).1 p.1 in
          subst (λ x. IsIdle (account x)) (sym same) (h keeping quit j c low))
    ]

-- one that keeps nothing is idle
pub idle_passed : {C : Type 0} (account : C → Account) (whom : Whom) (what : Kind) (i : ℕ) (xs : List C) → (whom ≡ Keeping → (c : C) → IsIdle (account (get_or xs i c))) → LeavesIdle account whom what xs i → LeavesIdle account whom what xs (i + 1)
idle_passed {C} account whom what i xs here h keeping quit j c below =
    elim (eqb_tells j i) [
      | inl p ↦ subst (λ (k : ℕ). IsIdle (account (get_or xs k c))) (sym p.1) (here keeping c)
      | inr p ↦ (let ne = p.1 in h keeping quit j c (omega arith))
    ]

-- a counter that isn't meant among those that keep a place is idle
pub not_kept : {C : Type 0} (account : C → Account) (whom : Whom) (cs : List C) (i : ℕ) (d e : C) → i < length cs → whom ≡ Keeping → Rattle.session.specs.Asks.is_meant_at whom (account (get_or cs i d)) ≡ false → IsIdle (account (get_or cs i e))
not_kept {C} account whom cs i d e within keeping h =
    let k : Rattle.session.specs.Asks.is_meant_at Keeping (account (get_or cs i d)) ≡ false = ap (λ (w : Whom). Rattle.session.specs.Asks.is_meant_at w (account (get_or cs i d))) (sym keeping) ∙ h in
    subst (λ (x : C). IsIdle (account x)) (get_or_default cs i d e within) (or_parts _ _ k)
