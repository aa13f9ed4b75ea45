-- Counts, talks and peals, one after another.
use Rattle.std.proofs.Common.{◌≡◌, ℕ, ◌<◌, ◌≤◌, ◌∙◌, ◌++◌, ◌∷◌, [], List, Bool, true, false, ◌||◌, sym, refl, arith, subst, inl, inr, append_assoc}
use Rattle.std.proofs.lemmas.Grind.{flat_map-append}
use Rattle.std.proofs.lemmas.List.{append-nil}
use Rattle.std.specs.List.{list_any, flat_map}
use Rattle.std.proofs.lemmas.Bool.{or_parts, or_cases}
use Rattle.session_outside.specs.Talk.{Counted, Event, Follows, HasRisen}
use Rattle.session.specs.Acts.{Peal}
use Rattle.session.specs.Did.{Belled, Linked, answer_in, is_fault, is_ring, is_silence, is_toll}

pub follows_none : {X E : Type 0} (stands : X → List E → Type 0) (x : X) → Follows stands x x []
follows_none stands x t h = subst (λ l. stands x l) (sym (append-nil t)) h

pub follows_then : {X E : Type 0} (stands : X → List E → Type 0) (x y z : X) (as' bs : List E) → Follows stands x y as' → Follows stands y z bs → Follows stands x z (as' ++ bs)
follows_then stands x y z as' bs h k t s = subst (λ l. stands z l) (append_assoc t as' bs) (k (t ++ as') (h t s))

pub counted_none : (x : ℕ) → Counted false x x
counted_none x = record { never_falls = omega arith; rises = λ e. cc; stands = λ e. refl }

pub counted_still : (x y : ℕ) → y ≡ x → Counted false x y
counted_still x y e = record { never_falls = omega arith; rises = λ e. cc; stands = λ f. e }

rises_left : (x y z : ℕ) → HasRisen x y → y ≤ z → HasRisen x z
rises_left x y z h k small = let r : x < y = h (omega arith) in omega arith

rises_right : (x y z : ℕ) → HasRisen y z → x ≤ y → HasRisen x z
rises_right x y z h k small = let r : y < z = h small in omega arith

pub counted_then : (a b : Bool) (x y z : ℕ) → Counted a x y → Counted b y z → Counted (a || b) x z
counted_then a b x y z h k = record {
  never_falls = omega (arith, h.never_falls, k.never_falls);
  rises = λ e. elim (or_cases a b e) [ inl p ↦ rises_left x y z (h.rises p) k.never_falls | inr p ↦ rises_right x y z (k.rises p) h.never_falls ];
  stands = λ e. let both = or_parts a b e in k.stands both.1 ∙ h.stands both.0;
}

pub any-append : {X : Type 0} (p : X → Bool) (xs ys : List X) → list_any p (xs ++ ys) ≡ (list_any p xs || list_any p ys)
any-append p [] ys = refl
any-append p (x ∷ xs) ys = elim (p x) as (λ b. (b || list_any p (xs ++ ys)) ≡ ((b || list_any p xs) || list_any p ys)) [ true ↦ refl | false ↦ any-append p xs ys ]

pub counted_more : {X : Type 0} (p : X → Bool) (xs ys : List X) (a b c : ℕ) → Counted (list_any p xs) a b → Counted (list_any p ys) b c → Counted (list_any p (xs ++ ys)) a c
counted_more p xs ys a b c h k = subst (λ t. Counted t a c) (sym (any-append p xs ys)) (counted_then (list_any p xs) (list_any p ys) a b c h k)

module _ {L : Type 0} (tells : L → List Event → Type 0) (faults quiets : L → ℕ) where
  pub linked_none : (l : L) → Linked tells faults quiets [] l l
  linked_none l = record { told = follows_none tells l; fault = counted_none (faults l); quiet = counted_none (quiets l) }

  pub linked_then : (as' bs : List Event) (l0 l1 l2 : L) → Linked tells faults quiets as' l0 l1 → Linked tells faults quiets bs l1 l2 → Linked tells faults quiets (as' ++ bs) l0 l2
  linked_then as' bs l0 l1 l2 h k = record {
    told = follows_then tells l0 l1 l2 as' bs h.told k.told;
    fault = counted_more is_fault as' bs (faults l0) (faults l1) (faults l2) h.fault k.fault;
    quiet = counted_more is_silence as' bs (quiets l0) (quiets l1) (quiets l2) h.quiet k.quiet;
  }

module _ {B : Type 0} (answered : B → List Bool → Type 0) (tolls rings : B → ℕ) where
  pub belled_none : (b : B) → Belled answered tolls rings [] b b
  belled_none b = record { told = follows_none answered b; toll = counted_none (tolls b); ring = counted_none (rings b) }

  pub belled_then : (as' bs : List Peal) (b0 b1 b2 : B) → Belled answered tolls rings as' b0 b1 → Belled answered tolls rings bs b1 b2 → Belled answered tolls rings (as' ++ bs) b0 b2
  belled_then as' bs b0 b1 b2 h k = record {
    told = subst (λ l. Follows answered b0 b2 l) (sym (flat_map-append answer_in as' bs)) (follows_then answered b0 b1 b2 (flat_map answer_in as') (flat_map answer_in bs) h.told k.told);
    toll = counted_more is_toll as' bs (tolls b0) (tolls b1) (tolls b2) h.toll k.toll;
    ring = counted_more is_ring as' bs (rings b0) (rings b1) (rings b2) h.ring k.ring;
  }
