-- The pools of a bucket, one after another.
use Rattle.std.proofs.Common.{◌≡◌, ℕ, ◌+◌, ◌-◌, ◌<◌, ◌∙◌, List, Bool, true, false, cond, length, get_or, drop, Option, None, Some, IfSome, refl, sym, ap, subst, arith}
use Rattle.std.proofs.lemmas.Bool.{eq-eqb, eqb-true}
use Rattle.std.proofs.lemmas.List.{drop_more, get_or_default}
use Rattle.std.specs.List.{position_from}
use Rattle.feature_lines.specs.declared.pool.Pool.{Pool}
use Rattle.feature_lines.proofs.Keys.{same_name_is}
use Rattle.lic_types.specs.Groups.{same_name}
use Rattle.office_view.specs.Chains.{AreChained, bucket_of, chained_from, is_in}
use Rattle.office_view.specs.View.{first_named, named_from}
use Rattle.office_view.proofs.Searches.{IsHit, left_at, search_at, search_hits, search_leaves, search_narrows, search_within}

-- the next one that is looked at on the way to the first of a name: it is of the name's bucket, and the first of the name is here or behind it
pub record IsOnWay (buckets : ℕ) (pools : List Pool) (name : List ℕ) (from : ℕ) (at : Option ℕ) : Type 0 where
  pub same : named_from pools name from ≡ search_at None (named_from pools name) at
  pub bucket : IfSome at (λ i. (p : Pool) → bucket_of buckets (get_or pools i p).name ≡ bucket_of buckets name)

in_bucket : (buckets : ℕ) (name : List ℕ) (p : Pool) → same_name p.name name ≡ true → is_in buckets (bucket_of buckets name) p ≡ true
in_bucket buckets name p e = eq-eqb _ _ (ap (bucket_of buckets) (same_name_is p.name name e))

of_bucket : (buckets b k : ℕ) (pools : List Pool) (o : Option ℕ) → IfSome o (IsHit (is_in buckets b) k pools) → IfSome o (λ i. (p : Pool) → bucket_of buckets (get_or pools i p).name ≡ b)
of_bucket buckets b k pools None h = tt
of_bucket buckets b k pools (Some i) h = λ p. eqb-true _ _ (h.passes p)

-- at the first of the bucket
pub way_begins : (buckets : ℕ) (pools : List Pool) (name : List ℕ) (from : ℕ) (at : Option ℕ) → at ≡ chained_from buckets (bucket_of buckets name) pools from → IsOnWay buckets pools name from at
way_begins buckets pools name from at e =
    let q : Pool → Bool = is_in buckets (bucket_of buckets name) in
    record {
      same = search_narrows (λ (p : Pool). same_name p.name name) q (in_bucket buckets name) from pools ∙ ap (search_at None (named_from pools name)) (sym e);
      bucket = subst (λ (o : Option ℕ). IfSome o (λ i. (p : Pool) → bucket_of buckets (get_or pools i p).name ≡ bucket_of buckets name)) (sym e) (of_bucket buckets (bucket_of buckets name) from pools (chained_from buckets (bucket_of buckets name) pools from) (search_hits q from (drop from pools) pools refl));
    }

-- behind a pool of another name
pub way_goes_on : (buckets : ℕ) (pools : List Pool) (name : List ℕ) (from i : ℕ) (x : Pool) (at : Option ℕ) → i < length pools → x ≡ get_or pools i x → same_name x.name name ≡ false → IsOnWay buckets pools name from (Some i)
    → at ≡ chained_from buckets (bucket_of buckets (get_or pools i x).name) pools (i + 1) → IsOnWay buckets pools name from at
way_goes_on buckets pools name from i x at within is other way e =
    let bucket : at ≡ chained_from buckets (bucket_of buckets name) pools (i + 1) = e ∙ ap (λ b. chained_from buckets b pools (i + 1)) (way.bucket x) in
    let on : IsOnWay buckets pools name (i + 1) at = way_begins buckets pools name (i + 1) at bucket in
    let passed : named_from pools name i ≡ named_from pools name (i + 1) =
    ap (position_from (λ (p : Pool). same_name p.name name) i) (drop_more pools i x within)
    ∙ ap (λ b. cond b (Some i) (named_from pools name (i + 1))) (ap (λ (p : Pool). same_name p.name name) (sym is) ∙ other) in
    record { same = way.same ∙ passed ∙ on.same; bucket = on.bucket }

-- each place is within the list
chained_within : (buckets b k : ℕ) (pools : List Pool) (at : Option ℕ) → at ≡ chained_from buckets b pools k → IfSome at (λ i. i < length pools)
chained_within buckets b k pools at e = subst (λ (o : Option ℕ). IfSome o (λ i. i < length pools)) (sym e) (search_within (is_in buckets b) k pools)

-- what a pool leads to
next_is : (heads nexts : List (Option ℕ)) (pools : List Pool) (i : ℕ) (x : Pool) (at : Option ℕ) → AreChained heads nexts pools → i < length pools → at ≡ get_or nexts i at → at ≡ chained_from (length heads) (bucket_of (length heads) (get_or pools i x).name) pools (i + 1)
next_is heads nexts pools i x at chained within read = read ∙ get_or_default nexts i at None (omega (arith, within, chained.paired)) ∙ chained.next i x (omega arith) within

pub within_next : (heads nexts : List (Option ℕ)) (pools : List Pool) (i : ℕ) (x : Pool) (at : Option ℕ) → AreChained heads nexts pools → i < length pools → at ≡ get_or nexts i at → IfSome at (λ j. j < length pools)
within_next heads nexts pools i x at chained within read = chained_within (length heads) (bucket_of (length heads) (get_or pools i x).name) (i + 1) pools at (next_is heads nexts pools i x at chained within read)

pub fewer_next : (heads nexts : List (Option ℕ)) (pools : List Pool) (i : ℕ) (x : Pool) (at : Option ℕ) → AreChained heads nexts pools → i < length pools → at ≡ get_or nexts i at → left_at (length pools) at < length pools - i
fewer_next heads nexts pools i x at chained within read =
    subst (λ (o : Option ℕ). left_at (length pools) o < length pools - i) (sym (next_is heads nexts pools i x at chained within read)) (search_leaves (is_in (length heads) (bucket_of (length heads) (get_or pools i x).name)) i pools within)

pub way_to_next : (heads nexts : List (Option ℕ)) (pools : List Pool) (name : List ℕ) (from i : ℕ) (x : Pool) (at : Option ℕ) → AreChained heads nexts pools → i < length pools → x ≡ get_or pools i x → same_name x.name name ≡ false → at ≡ get_or nexts i at
    → IsOnWay (length heads) pools name from (Some i) → IsOnWay (length heads) pools name from at
way_to_next heads nexts pools name from i x at chained within is other read way = way_goes_on (length heads) pools name from i x at within is other way (next_is heads nexts pools i x at chained within read)

-- at a pool of the name the search ends
pub way_ends : (pools : List Pool) (name : List ℕ) (i : ℕ) (x : Pool) → i < length pools → x ≡ get_or pools i x → same_name x.name name ≡ true → named_from pools name i ≡ Some i
way_ends pools name i x within is named =
    ap (position_from (λ (p : Pool). same_name p.name name) i) (drop_more pools i x within)
    ∙ ap (λ b. cond b (Some i) (named_from pools name (i + 1))) (ap (λ (p : Pool). same_name p.name name) (sym is) ∙ named)

-- what a bucket leads to
head_is : (heads nexts : List (Option ℕ)) (pools : List Pool) (name : List ℕ) (buckets b : ℕ) (at : Option ℕ) → AreChained heads nexts pools → buckets ≡ length heads → b ≡ bucket_of buckets name → b < buckets → at ≡ get_or heads b at → at ≡ chained_from (length heads) (bucket_of (length heads) name) pools 0
head_is heads nexts pools name buckets b at chained many bucket less read =
    let within : b < length heads = omega (arith, less, many) in
    read ∙ get_or_default heads b at None within ∙ chained.first b within ∙ ap (λ k. chained_from (length heads) k pools 0) (bucket ∙ ap (λ n. bucket_of n name) many)

pub head_within : (heads nexts : List (Option ℕ)) (pools : List Pool) (name : List ℕ) (buckets b : ℕ) (at : Option ℕ) → AreChained heads nexts pools → buckets ≡ length heads → b ≡ bucket_of buckets name → b < buckets → at ≡ get_or heads b at → IfSome at (λ i. i < length pools)
head_within heads nexts pools name buckets b at chained many bucket less read = chained_within (length heads) (bucket_of (length heads) name) 0 pools at (head_is heads nexts pools name buckets b at chained many bucket less read)

pub first_is : (heads nexts : List (Option ℕ)) (pools : List Pool) (name : List ℕ) (buckets b : ℕ) (at found : Option ℕ) → AreChained heads nexts pools → buckets ≡ length heads → b ≡ bucket_of buckets name → b < buckets → at ≡ get_or heads b at
    → ((from : ℕ) → at ≡ chained_from (length heads) (bucket_of (length heads) name) pools from → found ≡ named_from pools name from) → found ≡ first_named pools name
first_is heads nexts pools name buckets b at found chained many bucket less read h = h 0 (head_is heads nexts pools name buckets b at chained many bucket less read)
