-- Chaining one pool more, before the others.
use Rattle.std.proofs.Common.{◌≡◌, ◌≢◌, ℕ, ◌+◌, ◌<◌, ◌≤◌, ◌==◌, ◌∙◌, List, false, cond, length, length-set, get_or, set, Option, None, Some, refl, sym, ap, subst, ⊎_elim, arith}
use Rattle.std.proofs.lemmas.Bool.{cases_eq, eq-eqb}
use Rattle.std.proofs.lemmas.Bool.Decides.{nat_tests}
use Rattle.std.proofs.lemmas.List.{drop_more, get_or_default, get_or-set_same, get_or-set_other}
use Rattle.std.specs.List.{position_from}
use Rattle.feature_lines.specs.declared.pool.Pool.{Pool}
use Rattle.office_view.specs.Chains.{AreChainedFrom, bucket_of, chained_from, is_in}

unlike : (a b : ℕ) → a ≢ b → (a == b) ≡ false
unlike a b h = grind (arith, nat_tests)

-- the first of a bucket, with a pool before the others
first_with : (c b i : ℕ) (pools : List Pool) (x : Pool) → i < length pools → x ≡ get_or pools i x → chained_from c b pools i ≡ cond (is_in c b x) (Some i) (chained_from c b pools (i + 1))
first_with c b i pools x within is = ap (position_from (is_in c b) i) (drop_more pools i x within) ∙ ap (λ (p : Pool). cond (is_in c b p) (Some i) (chained_from c b pools (i + 1))) (sym is)

first_more : (c b i b2 : ℕ) (heads : List (Option ℕ)) (pools : List Pool) (x : Pool) → c ≡ length heads → i < length pools → x ≡ get_or pools i x → b ≡ bucket_of c x.name → b < c → get_or heads b2 None ≡ chained_from c b2 pools (i + 1)
    → get_or (set heads b (Some i)) b2 None ≡ chained_from c b2 pools i
first_more c b i b2 heads pools x many within is bucket less old =
    ⊎_elim
    (λ (same : b2 ≡ b).
    ap (λ k. get_or (set heads b (Some i)) k None) same ∙ get_or-set_same heads b (Some i) None (omega (arith, less, many))
    ∙ sym (first_with c b2 i pools x within is ∙ ap (λ t. cond t (Some i) (chained_from c b2 pools (i + 1))) (eq-eqb _ _ (sym bucket ∙ sym same))))
    (λ (other : b2 ≢ b).
    get_or-set_other heads b b2 (Some i) None other ∙ old
    ∙ sym (first_with c b2 i pools x within is ∙ ap (λ t. cond t (Some i) (chained_from c b2 pools (i + 1))) (unlike (bucket_of c x.name) b2 (λ e. other (sym e ∙ sym bucket)))))
    (cases_eq b2 b)

next_more : (c b i j : ℕ) (heads nexts : List (Option ℕ)) (pools : List Pool) (x p : Pool) (o : Option ℕ) → AreChainedFrom heads nexts pools (i + 1) → c ≡ length heads → i < length pools → x ≡ get_or pools i x → b ≡ bucket_of c x.name → b < c → o ≡ get_or heads b o → i ≤ j → j < length pools
    → get_or (set nexts i o) j None ≡ chained_from c (bucket_of c (get_or pools j p).name) pools (j + 1)
next_more c b i j heads nexts pools x p o old many within is bucket less read least below =
    ⊎_elim
    (λ (same : j ≡ i).
    let here : get_or pools j p ≡ x = ap (λ k. get_or pools k p) same ∙ get_or_default pools i p x within ∙ sym is in
    ap (λ k. get_or (set nexts i o) k None) same ∙ get_or-set_same nexts i o None (omega (arith, within, old.paired))
    ∙ read ∙ get_or_default heads b o None (omega (arith, less, many)) ∙ old.first b (omega (arith, less, many))
    ∙ ap (λ k. chained_from k b pools (i + 1)) (sym many)
    ∙ ap (λ k. chained_from c k pools (i + 1)) (bucket ∙ ap (λ (q : Pool). bucket_of c q.name) (sym here))
    ∙ ap (λ k. chained_from c (bucket_of c (get_or pools j p).name) pools (k + 1)) (sym same))
    (λ (other : j ≢ i).
    get_or-set_other nexts i j o None other ∙ old.next j p (omega (arith, least, other)) below
    ∙ ap (λ k. chained_from k (bucket_of k (get_or pools j p).name) pools (j + 1)) (sym many))
    (cases_eq j i)

pub chained_more : (n b i : ℕ) (heads nexts : List (Option ℕ)) (pools : List Pool) (x : Pool) (o : Option ℕ) → AreChainedFrom heads nexts pools n → i + 1 ≡ n → i < length pools → x ≡ get_or pools i x → b ≡ bucket_of (length heads) x.name → b < length heads → o ≡ get_or heads b o
    → AreChainedFrom (set heads b (Some i)) (set nexts i o) pools i
chained_more n b i heads nexts pools x o chained next within is bucket less read =
    let old : AreChainedFrom heads nexts pools (i + 1) = subst (AreChainedFrom heads nexts pools) (sym next) chained in
    let many : length (set heads b (Some i)) ≡ length heads = length-set heads b (Some i) in
    record {
      some = omega (arith, many, old.some);
      paired = length-set nexts i o ∙ old.paired;
      first = λ b2 below. subst (λ c. get_or (set heads b (Some i)) b2 None ≡ chained_from c b2 pools i) (sym many)
          (first_more (length heads) b i b2 heads pools x refl within is bucket less (old.first b2 (omega (arith, below, many))));
      next = λ j p least below. subst (λ c. get_or (set nexts i o) j None ≡ chained_from c (bucket_of c (get_or pools j p).name) pools (j + 1)) (sym many)
          (next_more (length heads) b i j heads nexts pools x p o old refl within is bucket less read least below);
    }
