-- The first pool at which a session keeps a place, by the pools of the name alone.
use Rattle.std.proofs.Common.{◌≡◌, ℕ, ◌+◌, ◌-◌, ◌<◌, ◌∙◌, List, Bool, cond, ◌&&◌, length, ap, Option, Some, None, IfSome, get_or, drop, sym, subst, refl}
use Rattle.std.proofs.lemmas.List.{drop_more}
use Rattle.feature_lines.specs.declared.pool.Pool.{Pool}
use Rattle.feature_lines.proofs.Keys.{same_name_is, same_name_self}
use Rattle.lic_types.specs.Groups.{same_name}
use Rattle.office_view.specs.View.{first_named, named_from}
use Rattle.office_view.proofs.Searches.{IsHit, any_item, left_at, search_at, search_hits, search_leaves, search_skips}
use Rattle.session.specs.Table.{first_from}

-- the first pool of a name that passes a test, from a place on
abbrev pub kept_from : (ℕ → Bool) → List Pool → List ℕ → ℕ → Option ℕ
kept_from test pools name i = first_from (λ j p. same_name p.name name && test j) i (drop i pools)

-- it is sought from the first of the name on
pub kept_by : (test : ℕ → Bool) (pools : List Pool) (name : List ℕ) (k : ℕ) (next : Option ℕ) → next ≡ named_from pools name k → kept_from test pools name k ≡ search_at None (kept_from test pools name) next
kept_by test pools name k next e =
    search_skips (first_from (λ j p. same_name p.name name && test j)) None (λ p. same_name p.name name) (λ j. refl)
    (λ j x xs fails. ap (λ b. cond (b && test j) (Some j) (first_from (λ j p. same_name p.name name && test j) (j + 1) xs)) fails) k (drop k pools) pools refl
    ∙ ap (search_at None (kept_from test pools name)) (sym e)

-- and what is found next is of the name
named_hit : (pools : List Pool) (name : List ℕ) (k : ℕ) (o : Option ℕ) → IfSome o (IsHit (λ p. same_name p.name name) k pools) → IfSome o (λ i. (p : Pool) → (get_or pools i p).name ≡ name)
named_hit pools name k None h = tt
named_hit pools name k (Some i) h = λ p. same_name_is (get_or pools i p).name name (h.passes p)

pub named_next : (pools : List Pool) (name : List ℕ) (k : ℕ) (next : Option ℕ) → next ≡ named_from pools name k → IfSome next (λ i. (p : Pool) → (get_or pools i p).name ≡ name)
named_next pools name k next e =
    subst (λ (o : Option ℕ). IfSome o (λ i. (p : Pool) → (get_or pools i p).name ≡ name)) (sym e) (named_hit pools name k (named_from pools name k) (search_hits (λ p. same_name p.name name) k (drop k pools) pools refl))

-- where there is a first of a name, it is of the name, and the first of its own
pub named_first : (pools : List Pool) (name : List ℕ) (first : Option ℕ) (i : ℕ) → first ≡ first_named pools name → first ≡ Some i → (p : Pool) → (get_or pools i p).name ≡ name
named_first pools name first i e is = subst (λ (o : Option ℕ). IfSome o (λ j. (p : Pool) → (get_or pools j p).name ≡ name)) is (named_next pools name 0 first e)

pub first_of_own : (pools : List Pool) (name : List ℕ) (first : Option ℕ) (i : ℕ) → first ≡ first_named pools name → first ≡ Some i → (p : Pool) → first_named pools (get_or pools i p).name ≡ Some i
first_of_own pools name first i e is p = ap (first_named pools) (named_first pools name first i e is p) ∙ sym e ∙ is

-- the pool behind one of the name
pub next_is : (pools : List Pool) (name : List ℕ) (i : ℕ) (next : Option ℕ) → i < length pools → ((p : Pool) → (get_or pools i p).name ≡ name) → ((p : Pool) → next ≡ named_from pools (get_or pools i p).name (i + 1)) → next ≡ named_from pools name (i + 1)
next_is pools name i next within named h = let x : Pool = any_item pools i within in h x ∙ ap (λ n. named_from pools n (i + 1)) (named x)

pub next_leaves : (pools : List Pool) (name : List ℕ) (i : ℕ) (next : Option ℕ) → i < length pools → next ≡ named_from pools name (i + 1) → left_at (length pools) next < length pools - i
next_leaves pools name i next within e = subst (λ (o : Option ℕ). left_at (length pools) o < length pools - i) (sym e) (search_leaves (λ p. same_name p.name name) i pools within)

-- at a pool of the name
pub kept_at : (test : ℕ → Bool) (pools : List Pool) (name : List ℕ) (i : ℕ) → i < length pools → ((p : Pool) → (get_or pools i p).name ≡ name) → kept_from test pools name i ≡ cond (test i) (Some i) (kept_from test pools name (i + 1))
kept_at test pools name i within named =
    let x : Pool = any_item pools i within in
    ap (first_from (λ j p. same_name p.name name && test j) i) (drop_more pools i x within)
    ∙ ap (λ n. cond (same_name n name && test i) (Some i) (kept_from test pools name (i + 1))) (named x)
    ∙ ap (λ b. cond (b && test i) (Some i) (kept_from test pools name (i + 1))) (same_name_self name)
