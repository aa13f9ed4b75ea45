use Rattle.std.proofs.Common.{◌≡◌, ℕ, ◌+◌, Bool, true, false, ◌||◌, cond, List, [], ◌∷◌, ◌++◌, Option, None, Some, refl, sym, ap, ◌∙◌, append_assoc, append-nil, arith}
use Rattle.std.specs.List.{filter, filter_map, find, sum_by, cons_option}
use Rattle.std.specs.Option.{option_to_list}
use Rattle.std.proofs.lemmas.Bool.{or_parts}
use Rattle.std.proofs.lemmas.List.Elements.{filter-append, filter_map-append}
use Rattle.std.proofs.lemmas.List.Folds.{list_any-append}
use Rattle.std.proofs.lemmas.List.Sums.{sum_by-append}
use Rattle.feature_lines.specs.Licence.{PoolKey, has_line, line_key, pool_in, pool_key, pool_with, pools_of, same_key, total, with_before}
use Rattle.feature_lines.specs.Steps.{pools_with_more, with_more}
use Rattle.feature_lines.specs.declared.line.FeatureLine.{FeatureLine}
use Rattle.feature_lines.specs.declared.pool.Pool.{Pool}
use Rattle.feature_lines.proofs.Keys.{other_key, same_key_is, same_key_self}

-- The pools of lines, and of one line more.

-- one element more, with those before it
before_push : {X : Type 0} (front xs : List X) (y : X) → with_before front (xs ++ y ∷ []) ≡ with_before front xs ++ (front ++ xs, y) ∷ []
before_push front [] y = ap (λ (f : List _). (f, y) ∷ []) (sym (append-nil front))
before_push front (x ∷ xs) y =
    ap (λ (others : List _). (front, x) ∷ others) (before_push (front ++ x ∷ []) xs y ∙ ap (λ (f : List _). with_before (front ++ x ∷ []) xs ++ (f, y) ∷ []) (append_assoc front (x ∷ []) xs))

one_option : {Y : Type 0} (o : Option Y) → cons_option o [] ≡ option_to_list o
one_option None = refl
one_option (Some y) = refl

-- what is told of each element by those before it, with one element more
pub told_push : {X Y : Type 0} (h : List X → X → Option Y) (xs : List X) (y : X) → filter_map (λ (at : List X × X). h at.0 at.1) (with_before [] (xs ++ y ∷ [])) ≡ filter_map (λ (at : List X × X). h at.0 at.1) (with_before [] xs) ++ option_to_list (h xs y)
told_push h xs y =
    ap (filter_map (λ (at : List _ × _). h at.0 at.1)) (before_push [] xs y)
    ∙ (filter_map-append (λ (at : List _ × _). h at.0 at.1) (with_before [] xs) ((xs, y) ∷ [])
    ∙ ap (λ (o : List _). filter_map (λ (at : List _ × _). h at.0 at.1) (with_before [] xs) ++ o) (one_option (h xs y)))

sum_of_one : (b : Bool) (f : FeatureLine) → sum_by (λ (g : FeatureLine). g.count) (cond b (f ∷ []) []) ≡ cond b f.count 0
sum_of_one true f = omega arith
sum_of_one false f = refl

-- a total with one line more
total_push : (lines : List FeatureLine) (f : FeatureLine) (key : PoolKey) → total (lines ++ f ∷ []) key ≡ total lines key + cond (same_key key (line_key f)) f.count 0
total_push lines f key =
    ap (sum_by (λ (g : FeatureLine). g.count)) (filter-append (λ g. same_key key (line_key g)) lines (f ∷ []))
    ∙ (sum_by-append (λ (g : FeatureLine). g.count) (filter (λ g. same_key key (line_key g)) lines) (cond (same_key key (line_key f)) (f ∷ []) [])
    ∙ ap (λ (n : ℕ). total lines key + n) (sum_of_one (same_key key (line_key f)) f))

total_other : (lines : List FeatureLine) (f : FeatureLine) (key : PoolKey) → same_key key (line_key f) ≡ false → total (lines ++ f ∷ []) key ≡ total lines key
total_other lines f key other = total_push lines f key ∙ rw other (omega arith)

total_same : (lines : List FeatureLine) (f : FeatureLine) (key : PoolKey) → same_key key (line_key f) ≡ true → total (lines ++ f ∷ []) key ≡ total lines key + f.count
total_same lines f key same = total_push lines f key ∙ rw same refl

total_none : (lines : List FeatureLine) (key : PoolKey) → has_line lines key ≡ false → filter (λ g. same_key key (line_key g)) lines ≡ []
total_none [] key h = refl
total_none (f ∷ fs) key h = let two = or_parts (same_key key (line_key f)) (has_line fs key) h in rw two.0 (total_none fs key two.1)

-- a line that is of none of the others' pools
apart_from : (lines : List FeatureLine) (k l : PoolKey) → has_line lines k ≡ false → has_line lines l ≡ true → same_key k l ≡ false
apart_from lines k l none some = elim (same_key k l) as (λ (t : Bool). same_key k l ≡ t → t ≡ false) [ true ↦ λ e. (let same : k ≡ l = same_key_is k l e in let other : has_line lines k ≡ has_line lines l = ap (has_line lines) same in absurd cc) | false ↦ λ e. refl ] refl

has_push : (lines : List FeatureLine) (f : FeatureLine) (key : PoolKey) → has_line (lines ++ f ∷ []) key ≡ (has_line lines key || (same_key key (line_key f) || false))
has_push lines f key = list_any-append (λ g. same_key key (line_key g)) lines (f ∷ [])

-- still none
has_none : (lines : List FeatureLine) (f : FeatureLine) (key : PoolKey) → has_line lines key ≡ false → same_key key (line_key f) ≡ false → has_line (lines ++ f ∷ []) key ≡ false
has_none lines f key none other = has_push lines f key ∙ rw (none, other) refl

-- still some
has_some : (lines : List FeatureLine) (f : FeatureLine) (key : PoolKey) → has_line lines key ≡ true → has_line (lines ++ f ∷ []) key ≡ true
has_some lines f key some = has_push lines f key ∙ rw some refl

has_last : (lines : List FeatureLine) (f : FeatureLine) (key : PoolKey) → has_line lines key ≡ false → same_key key (line_key f) ≡ true → has_line (lines ++ f ∷ []) key ≡ true
has_last lines f key none same = has_push lines f key ∙ rw (none, same) refl

-- the pools that begin in some of the lines, behind others
abbrev begun : List FeatureLine → List FeatureLine → List FeatureLine → List Pool
begun all front lines = filter_map (λ (at : List FeatureLine × FeatureLine). pool_in all at.0 at.1) (with_before front lines)

same_option : (t : Bool) (n m : ℕ) (x : FeatureLine) → (t ≡ false → n ≡ m) → cond t None (Some (pool_with n x)) ≡ cond t None (Some (pool_with m x))
same_option true n m x h = refl
same_option false n m x h = ap (λ (k : ℕ). Some (pool_with k x)) (h refl)

-- behind the first line of a pool, a further line of it changes nothing
unchanged : (all : List FeatureLine) (f : FeatureLine) (front lines : List FeatureLine) → has_line front (line_key f) ≡ true → begun (all ++ f ∷ []) front lines ≡ begun all front lines
unchanged all f front [] some = refl
unchanged all f front (x ∷ xs) some =
    let head : pool_in (all ++ f ∷ []) front x ≡ pool_in all front x = same_option (has_line front (line_key x)) _ _ x (λ none. total_other all f (line_key x) (apart_from front (line_key x) (line_key f) none some)) in
    ap (λ (o : Option Pool). cons_option o (begun (all ++ f ∷ []) (front ++ x ∷ []) xs)) head
    ∙ ap (cons_option (pool_in all front x)) (unchanged all f (front ++ x ∷ []) xs (has_some front x (line_key f) some))

raise_head : (t s : Bool) (n m count : ℕ) (x : FeatureLine) (key : PoolKey) (more others : List Pool) → same_key key (line_key x) ≡ s
    → (t ≡ true → more ≡ pools_with_more key count others)
    → (t ≡ false → s ≡ true → (m ≡ n + count) × (more ≡ others))
    → (t ≡ false → s ≡ false → (m ≡ n) × (more ≡ pools_with_more key count others))
    → cons_option (cond t None (Some (pool_with m x))) more ≡ pools_with_more key count (cons_option (cond t None (Some (pool_with n x))) others)
raise_head true s n m count x key more others is p q r = p refl
raise_head false true n m count x key more others is p q r =
    let known = q refl refl in
    rw is (ap (λ (k : ℕ). pool_with k x ∷ more) known.0 ∙ ap (λ (ps : List Pool). pool_with (n + count) x ∷ ps) known.1)
raise_head false false n m count x key more others is p q r =
    let known = r refl refl in
    rw is (ap (λ (k : ℕ). pool_with k x ∷ more) known.0 ∙ ap (λ (ps : List Pool). pool_with n x ∷ ps) known.1)

-- a line more raises the pool that it is of
raises : (all : List FeatureLine) (f : FeatureLine) (front lines : List FeatureLine) → has_line front (line_key f) ≡ false → begun (all ++ f ∷ []) front lines ≡ pools_with_more (line_key f) f.count (begun all front lines)
raises all f front [] none = refl
raises all f front (x ∷ xs) none =
    raise_head (has_line front (line_key x)) (same_key (line_key f) (line_key x)) (total all (line_key x)) (total (all ++ f ∷ []) (line_key x)) f.count x (line_key f) _ _ refl
    (λ some. raises all f (front ++ x ∷ []) xs (has_none front x (line_key f) none (apart_from front (line_key f) (line_key x) none some)))
    (λ new same. (total_same all f (line_key x) (let eq : line_key f ≡ line_key x = same_key_is (line_key f) (line_key x) same in ap (λ (k : PoolKey). same_key k (line_key f)) (sym eq) ∙ same_key_self (line_key f)), unchanged all f (front ++ x ∷ []) xs (has_last front x (line_key f) none same)))
    (λ new other. (total_other all f (line_key x) (other_key (line_key f) (line_key x) other), raises all f (front ++ x ∷ []) xs (has_none front x (line_key f) none other)))

skip_head : (t : Bool) (n : ℕ) (x : FeatureLine) (key : PoolKey) (others : List Pool) → same_key key (line_key x) ≡ false → find (λ p. same_key key (pool_key p)) (cons_option (cond t None (Some (pool_with n x))) others) ≡ find (λ p. same_key key (pool_key p)) others
skip_head true n x key others other = refl
skip_head false n x key others other = rw other refl

-- no line, no pool
no_pool : (all : List FeatureLine) (key : PoolKey) (front lines : List FeatureLine) → has_line lines key ≡ false → find (λ p. same_key key (pool_key p)) (begun all front lines) ≡ None
no_pool all key front [] none = refl
no_pool all key front (x ∷ xs) none =
    let two = or_parts (same_key key (line_key x)) (has_line xs key) none in
    skip_head (has_line front (line_key x)) (total all (line_key x)) x key _ two.0 ∙ no_pool all key (front ++ x ∷ []) xs two.1

find_head : (all front xs : List FeatureLine) (x : FeatureLine) (key : PoolKey) (s : Bool) → same_key key (line_key x) ≡ s → has_line front key ≡ false → (s || has_line xs key) ≡ true
    → (has_line (front ++ x ∷ []) key ≡ false → has_line xs key ≡ true → (p : Pool) × (find (λ p. same_key key (pool_key p)) (begun all (front ++ x ∷ []) xs) ≡ Some p) × (p.count ≡ total all key))
    → (p : Pool) × (find (λ p. same_key key (pool_key p)) (begun all front (x ∷ xs)) ≡ Some p) × (p.count ≡ total all key)
find_head all front xs x key true is none some rest =
    let eq : key ≡ line_key x = same_key_is key (line_key x) is in
    let new : has_line front (line_key x) ≡ false = ap (has_line front) (sym eq) ∙ none in
    (pool_with (total all (line_key x)) x, rw (new, is) refl, ap (total all) (sym eq))
find_head all front xs x key false is none some rest =
    let later = rest (has_none front x key none is) some in
    (later.0, skip_head (has_line front (line_key x)) (total all (line_key x)) x key _ is ∙ later.1, later.2)

-- a line, a pool
found : (all : List FeatureLine) (key : PoolKey) (front lines : List FeatureLine) → has_line front key ≡ false → has_line lines key ≡ true → (p : Pool) × (find (λ p. same_key key (pool_key p)) (begun all front lines) ≡ Some p) × (p.count ≡ total all key)
found all key front [] none some = absurd cc
found all key front (x ∷ xs) none some = find_head all front xs x key (same_key key (line_key x)) refl none some (found all key (front ++ x ∷ []) xs)

raised_none : (key : PoolKey) (count : ℕ) (pools : List Pool) → find (λ p. same_key key (pool_key p)) pools ≡ None → pools_with_more key count pools ≡ pools
raised_none key count [] none = refl
raised_none key count (p ∷ ps) none = elim (same_key key (pool_key p)) as (λ (t : Bool). cond t (Some p) (find (λ p. same_key key (pool_key p)) ps) ≡ None → cond t (with_more count p ∷ ps) (p ∷ pools_with_more key count ps) ≡ p ∷ ps) [ true ↦ λ e. absurd cc | false ↦ λ e. ap (λ (qs : List Pool). p ∷ qs) (raised_none key count ps e) ] none

-- the pools of lines and of one more: its pool is raised, or begins
pub pools_push : (lines : List FeatureLine) (f : FeatureLine) → pools_of (lines ++ f ∷ []) ≡ pools_with_more (line_key f) f.count (pools_of lines) ++ option_to_list (pool_in (lines ++ f ∷ []) lines f)
pools_push lines f =
    told_push (pool_in (lines ++ f ∷ [])) lines f
    ∙ ap (λ (ps : List Pool). ps ++ option_to_list (pool_in (lines ++ f ∷ []) lines f)) (raises lines f [] lines refl)

-- where no line is of the key
pub pools_new : (lines : List FeatureLine) (f : FeatureLine) → has_line lines (line_key f) ≡ false → pools_of (lines ++ f ∷ []) ≡ pools_of lines ++ pool_with f.count f ∷ []
pools_new lines f none =
    let zero_sum : total lines (line_key f) ≡ 0 = ap (sum_by (λ (g : FeatureLine). g.count)) (total_none lines (line_key f) none) in
    let sum : total (lines ++ f ∷ []) (line_key f) ≡ f.count = total_same lines f (line_key f) (same_key_self (line_key f)) ∙ rw zero_sum (omega arith) in
    pools_push lines f ∙ rw (raised_none (line_key f) f.count (pools_of lines) (no_pool lines (line_key f) [] lines none), none, sum) refl

pub pools_more : (lines : List FeatureLine) (f : FeatureLine) → has_line lines (line_key f) ≡ true → pools_of (lines ++ f ∷ []) ≡ pools_with_more (line_key f) f.count (pools_of lines)
pools_more lines f some = pools_push lines f ∙ rw some (append-nil _)

pub none_of_key : (lines : List FeatureLine) (key : PoolKey) → has_line lines key ≡ false → find (λ p. same_key key (pool_key p)) (pools_of lines) ≡ None
none_of_key lines key none = no_pool lines key [] lines none

pub no_total : (lines : List FeatureLine) (key : PoolKey) → has_line lines key ≡ false → total lines key ≡ 0
no_total lines key none = ap (sum_by (λ (g : FeatureLine). g.count)) (total_none lines key none)

pub one_of_key : (lines : List FeatureLine) (key : PoolKey) → has_line lines key ≡ true → (p : Pool) × (find (λ p. same_key key (pool_key p)) (pools_of lines) ≡ Some p) × (p.count ≡ total lines key)
one_of_key lines key some = found lines key [] lines refl some
