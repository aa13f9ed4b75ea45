-- What the parties' own entries add up to.
use Rattle.std.proofs.Common.{◌≡◌, ◌==◌, ℕ, zero, suc, ◌+◌, ◌*◌, ◌<◌, ◌≤◌, ◌∙◌, Bool, true, false, cond, List, [], ◌∷◌, nat_lt, ap, eq-eqb, refl, sym, subst, arith}
use Rattle.std.proofs.lemmas.Bool.{eqb-true, eqb-false, ltb-true, ltb-false, ne_eqb}
use Rattle.counter.specs.Account.{grants}
use Rattle.options_machine.proofs.Counts.{count-cons}
use Rattle.options_machine.specs.Own.{brings_seat, own}
use Rattle.options_machine.specs.declared.reply.Entry.{Entry}

-- the sum of the first n
abbrev total : (ℕ → ℕ) → ℕ → ℕ
total f zero = 0
total f (suc n) = total f n + f n

total_none : (n : ℕ) → total (λ p. 0) n ≡ 0
total_none zero = refl
total_none (suc n) = omega (arith, total_none n)

total_same : (f g : ℕ → ℕ) (n : ℕ) → ((p : ℕ) → p < n → g p ≡ f p) → total g n ≡ total f n
total_same f g zero h = refl
total_same f g (suc n) h = omega (arith, total_same f g n (λ p l. h p (omega arith)), h n (omega arith))

-- where one of them is more by this, and the others are the same
module _ (f g : ℕ → ℕ) (k more : ℕ) (others : (p : ℕ) → (p ≡ k → ⊥) → g p ≡ f p) (one : g k ≡ f k + more) where
  total_last : (n : ℕ) (b : Bool) → (n == k) ≡ b → ((k < n) → total g n ≡ total f n + more) → k < suc n → total g (suc n) ≡ total f (suc n) + more
  total_last n true e ih below =
      let same : n ≡ k = eqb-true n k e in
      let before = total_same f g n (λ p l. others p (λ q. omega arith)) in
      let last : g n ≡ f n + more = subst (λ i. g i ≡ f i + more) (sym same) one in
      omega (arith, before, last)
  total_last n false e ih below =
      let other : n ≡ k → ⊥ = eqb-false n k e in
      omega (arith, ih (omega arith), others n other)

  total_one : (n : ℕ) → k < n → total g n ≡ total f n + more
  total_one zero below = absurd (omega arith)
  total_one (suc n) below = total_last n (n == k) refl (total_one n) below

total_product : (f : ℕ → ℕ) (each n : ℕ) → ((p : ℕ) → p < n → f p ≡ each) → total f n ≡ n * each
total_product f each zero h = omega arith
total_product f each (suc n) h = omega (arith, total_product f each n (λ p l. h p (omega arith)), h n (omega arith))

-- an entry is its party's own, and no other's
own_other : (e : Entry) (es : List Entry) (p : ℕ) → (p ≡ e.request.party → ⊥) → own (e ∷ es) p ≡ own es p
own_other e es p other = rw (ne_eqb e.request.party p (λ q. other (sym q))) refl

own_same : (e : Entry) (es : List Entry) → own (e ∷ es) e.request.party ≡ e ∷ own es e.request.party
own_same e es = rw (eq-eqb e.request.party e.request.party refl) refl

-- the grants are those of the parties, where there are no others
abbrev brings : Entry → Bool
brings e = brings_seat e.reply

-- its party is one of those that have any
is_below : (e : Entry) (es : List Entry) (n : ℕ) → ((p : ℕ) → n ≤ p → own (e ∷ es) p ≡ []) → (b : Bool) → nat_lt e.request.party n ≡ b → e.request.party < n
is_below e es n none true t = ltb-true e.request.party n t
is_below e es n none false t =
    let nothing : e ∷ own es e.request.party ≡ [] = sym (own_same e es) ∙ none e.request.party (ltb-false e.request.party n t) in
    absurd cc

-- the grants are those of the first n parties, where no other has an entry
grants_total : (h : List Entry) (n : ℕ) → ((p : ℕ) → n ≤ p → own h p ≡ []) → grants h ≡ total (λ p. grants (own h p)) n
grants_total [] n none = sym (total_none n)
grants_total (e ∷ es) n none =
    let k = e.request.party in
    let more : ℕ = cond (brings e) 1 0 in
    let below = is_below e es n none (nat_lt k n) refl in
    let ih = grants_total es n (λ p l. sym (own_other e es p (λ q. omega (arith, l, q, below))) ∙ none p l) in
    let one : grants (own (e ∷ es) k) ≡ grants (own es k) + more = ap grants (own_same e es) ∙ omega (arith, count-cons brings e (own es k)) in
    let sum = total_one (λ p. grants (own es p)) (λ p. grants (own (e ∷ es) p)) k more (λ p other. ap grants (own_other e es p other)) one n below in
    omega (arith, count-cons brings e es, ih, sum)

-- where each of the first n parties has so many, and no other has an entry
pub grants_product : (h : List Entry) (n each : ℕ) → ((p : ℕ) → p < n → grants (own h p) ≡ each) → ((p : ℕ) → n ≤ p → own h p ≡ []) → grants h ≡ n * each
grants_product h n each own_are none = grants_total h n none ∙ total_product (λ p. grants (own h p)) each n own_are
