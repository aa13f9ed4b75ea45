-- Judgements, one behind another.
use Rattle.std.proofs.Common.{◌≡◌, ◌∙◌, ℕ, zero, suc, ◌+◌, ◌<◌, inl, inr, ◌++◌, ◌∷◌, [], List, Bor, map, take, length, get_or, ap, refl, sym, subst, arith, Result, Ok, Err}
use Rattle.std.proofs.lemmas.List.{map-append}
use Rattle.client_talk.specs.Judging.{Judges, lines_verdict, then}
use Rattle.client_talk.specs.Requests.{line_judged}
use Rattle.client_talk.specs.Talks.{glance_line}
use Rattle.client_talk.specs.declared.cause.Cause.{Cause}
use Rattle.client_talk.proofs.Showings.{next_feature}

abbrev Judged : Type 0
Judged = Result (Unit {0}) Cause

both : (a b : Judged) → then a b ≡ Ok tt → (a ≡ Ok tt) × (b ≡ Ok tt)
both (Ok u) b h = (refl, h)
both (Err cause) b h = absurd cc

-- what comes behind lines that will do
pub behind : (front rest : List (List ℕ)) → lines_verdict front ≡ Ok tt → lines_verdict (front ++ rest) ≡ lines_verdict rest
behind [] rest h = refl
behind (l ∷ ls) rest h =
    let parts = both (line_judged l) (lines_verdict ls) h in
    ap (λ (a : Judged). then a (lines_verdict (ls ++ rest))) parts.0 ∙ behind ls rest parts.1

-- the first fault decides
pub fault_first : (a b : Judged) (cause : Cause) → Judges a (Err cause) → Judges (then a b) (Err cause)
fault_first a b cause (inl e) = inl (ap (λ (x : Judged). then x b) e)
fault_first a b cause (inr e) = inr e

pub surely : (a : Judged) → Judges a (Ok tt) → a ≡ Ok tt
surely a (inl e) = sym e
surely a (inr e) = absurd cc

-- behind what will do the rest decides
pub then_rest : (a b r : Judged) → Judges a (Ok tt) → Judges b r → Judges (then a b) r
then_rest a b r h j = let P : Judged → Type 0 = λ x. Judges (then x b) r in subst P (sym (surely a h)) j

pub alone : (a r : Judged) → Judges a r → Judges (then a (Ok tt)) r
alone (Ok u) r j = j
alone (Err cause) r j = j

-- the feature at a place is the first that will not do
pub features_fault : (fs : List (Bor (List ℕ))) (i : ℕ) (d : Bor (List ℕ)) (cause : Cause) → i < length fs → lines_verdict (map glance_line (map (λ f. f.now) (take i fs))) ≡ Ok tt
    → Judges (line_judged (glance_line (get_or fs i d).now)) (Err cause) → Judges (lines_verdict (map glance_line (map (λ f. f.now) fs))) (Err cause)
features_fault [] i d cause h before j = absurd (omega arith)
features_fault (f ∷ fs) zero d cause h before j = fault_first (line_judged (glance_line f.now)) (lines_verdict (map glance_line (map (λ f. f.now) fs))) cause j
features_fault (f ∷ fs) (suc i) d cause h before j =
    let parts = both (line_judged (glance_line f.now)) (lines_verdict (map glance_line (map (λ f. f.now) (take i fs)))) before in
    then_rest (line_judged (glance_line f.now)) (lines_verdict (map glance_line (map (λ f. f.now) fs))) (Err cause) (inl (sym parts.0)) (features_fault fs i d cause (omega arith) parts.1 j)

-- the features up to the next one will do
pub features_more : (fs : List (Bor (List ℕ))) (i : ℕ) (d : Bor (List ℕ)) → i < length fs → lines_verdict (map glance_line (map (λ f. f.now) (take i fs))) ≡ Ok tt → Judges (line_judged (glance_line (get_or fs i d).now)) (Ok tt)
    → lines_verdict (map glance_line (map (λ f. f.now) (take (i + 1) fs))) ≡ Ok tt
features_more fs i d h before j =
    ap (λ (ls : List (List ℕ)). lines_verdict (map glance_line ls)) (next_feature fs i d h)
    ∙ (ap lines_verdict (map-append glance_line (map (λ (f : Bor (List ℕ)). f.now) (take i fs)) ((get_or fs i d).now ∷ []))
    ∙ (behind (map glance_line (map (λ (f : Bor (List ℕ)). f.now) (take i fs))) (glance_line (get_or fs i d).now ∷ []) before
    ∙ ap (λ (a : Judged). then a (Ok tt)) (surely (line_judged (glance_line (get_or fs i d).now)) j)))
