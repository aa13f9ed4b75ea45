-- Where a pool is found.
use Rattle.std.proofs.Common.{◌≡◌, ℕ, ◌+◌, ◌-◌, ◌<◌, ◌∙◌, List, Bool, true, ◌&&◌, length, drop, take, get_or, Option, Some, None, IfSome, refl, sym, ap, subst, arith}
use Rattle.std.proofs.lemmas.List.{get_or_default, length-drop}
use Rattle.std.proofs.Math.Seq.{take-length}
use Rattle.std.specs.List.{find, position_from}
use Rattle.std.specs.Option.{option_map}
use Rattle.feature_lines.specs.Route.{IsThere, found_at, is_new_enough, not_served, route, serves}
use Rattle.feature_lines.specs.declared.pool.Pool.{Pool}
use Rattle.feature_lines.specs.declared.route.Found.{Found}
use Rattle.feature_lines.specs.declared.route.Found.TheVariants.{Pool as At, Unknown, Expired}
use Rattle.lic_types.specs.Groups.{same_name}
use Rattle.lic_types.specs.declared.day.Expiry.{Expiry}
use Rattle.lic_types.specs.declared.day.Expiry.TheVariants.{Never, On}
use Rattle.office_view.specs.View.{first_named, named_from}
use Rattle.office_view.proofs.Searches.{any_item, find_narrows, search_at, search_narrows, search_shifts, search_within}

pub first_there : (seen pools : List Pool) (name : List ℕ) (o : Option ℕ) → o ≡ first_named seen name → seen ≡ pools → IfSome o (λ i. i < length pools)
first_there seen pools name o h same =
    let e : o ≡ first_named pools name = h ∙ ap (λ (ps : List Pool). first_named ps name) same in
    subst (λ (r : Option ℕ). IfSome r (λ i. i < length pools)) (sym e) (search_within (λ p. same_name p.name name) 0 pools)

-- the same of the place itself, by the pools as they were read
pub first_within : (seen pools : List Pool) (name : List ℕ) (k : ℕ) (first : Option ℕ) → first ≡ first_named pools name → first ≡ Some k → seen ≡ pools → k < length seen
first_within seen pools name k first h at same = subst (λ (o : Option ℕ). IfSome o (λ i. i < length seen)) at (first_there pools seen name first h (sym same))

named_there : (pools : List Pool) (name : List ℕ) (k : ℕ) (o : Option ℕ) → o ≡ named_from pools name k → IfSome o (λ i. i < length pools)
named_there pools name k o e =
    subst (λ (r : Option ℕ). IfSome r (λ i. i < length pools)) (sym e) (search_within (λ p. same_name p.name name) k pools)

pub next_there : (seen pools : List Pool) (i : ℕ) (o : Option ℕ) → seen ≡ pools → i < length pools → ((p : Pool) → o ≡ named_from seen (get_or seen i p).name (i + 1)) → IfSome o (λ j. j < length pools)
next_there seen pools i o same within h =
    let x : Pool = any_item pools i within in
    named_there pools (get_or seen i x).name (i + 1) o (h x ∙ ap (λ (ps : List Pool). named_from ps (get_or seen i x).name (i + 1)) same)

-- an answer of which the places are counted from k on
abbrev pub behind : ℕ → Found → Found
behind k (At i) = At (k + i)
behind k Unknown = Unknown
behind k (Expired day) = Expired day

both_true : (a b : Bool) → (a && b) ≡ true → a ≡ true
both_true a b e = grind arith

new_named : (name : List ℕ) (key : ℕ) (p : Pool) → is_new_enough name key p ≡ true → same_name p.name name ≡ true
new_named name key p e = both_true _ _ e

serves_named : (name : List ℕ) (key moment : ℕ) (p : Pool) → serves name key moment p ≡ true → same_name p.name name ≡ true
serves_named name key moment p e = new_named name key p (both_true _ _ e)

not_behind : (k : ℕ) (o : Option Expiry) → not_served o ≡ behind k (not_served o)
not_behind k None = refl
not_behind k (Some Never) = refl
not_behind k (Some (On day)) = refl

found_behind : (k : ℕ) (at : Option ℕ) (o : Option Expiry) → found_at (option_map (λ i. k + i) at) o ≡ behind k (found_at at o)
found_behind k None o = not_behind k o
found_behind k (Some i) o = refl

-- the first that serves, and the first that is new enough, by the first of the name
serving_by : (pools : List Pool) (name : List ℕ) (key moment : ℕ) (first : Option ℕ) → first_named pools name ≡ first → position_from (serves name key moment) 0 pools ≡ search_at None (λ i. position_from (serves name key moment) i (drop i pools)) first
serving_by pools name key moment first e =
    search_narrows (serves name key moment) (λ p. same_name p.name name) (serves_named name key moment) 0 pools ∙ ap (search_at None (λ i. position_from (serves name key moment) i (drop i pools))) e

new_by : (pools : List Pool) (name : List ℕ) (key : ℕ) (first : Option ℕ) → first_named pools name ≡ first → find (is_new_enough name key) pools ≡ search_at None (λ i. find (is_new_enough name key) (drop i pools)) first
new_by pools name key first e = find_narrows (is_new_enough name key) (λ p. same_name p.name name) (new_named name key) pools ∙ ap (search_at None (λ i. find (is_new_enough name key) (drop i pools))) e

route_by : (pools : List Pool) (name : List ℕ) (key moment : ℕ) (at : Option ℕ) (new : Option Pool) → position_from (serves name key moment) 0 pools ≡ at → find (is_new_enough name key) pools ≡ new → route pools name key moment ≡ found_at at (option_map (λ (p : Pool). p.expiry) new)
route_by pools name key moment at new h g =
    ap (λ o. found_at o (option_map (λ (p : Pool). p.expiry) (find (is_new_enough name key) pools))) h ∙ ap (λ (o : Option Pool). found_at at (option_map (λ (p : Pool). p.expiry) o)) g

-- from the first of its name on
route_on : (pools : List Pool) (name : List ℕ) (key moment k : ℕ) → first_named pools name ≡ Some k → route pools name key moment ≡ behind k (route (drop k pools) name key moment)
route_on pools name key moment k e =
    let shifted : position_from (serves name key moment) 0 pools ≡ option_map (λ i. k + i) (position_from (serves name key moment) 0 (drop k pools))
    = serving_by pools name key moment (Some k) e ∙ ap (λ j. position_from (serves name key moment) j (drop k pools)) (omega arith) ∙ search_shifts (serves name key moment) k 0 (drop k pools) in
    route_by pools name key moment _ (find (is_new_enough name key) (drop k pools)) shifted (new_by pools name key (Some k) e)
    ∙ found_behind k (position_from (serves name key moment) 0 (drop k pools)) (option_map (λ (p : Pool). p.expiry) (find (is_new_enough name key) (drop k pools)))

-- of a name that no pool has
pub route_nowhere : (pools : List Pool) (name : List ℕ) (key moment : ℕ) → first_named pools name ≡ None → route pools name key moment ≡ Unknown
route_nowhere pools name key moment e = route_by pools name key moment None None (serving_by pools name key moment None e) (new_by pools name key None e)

-- the answer over the rest of the pools, as they were read
rest_is : (seen pools : List Pool) (name : List ℕ) (key moment k : ℕ) (found : Found) → seen ≡ pools → found ≡ route (take (length seen - k) (drop k seen)) name key moment → found ≡ route (drop k pools) name key moment
rest_is seen pools name key moment k found same h =
    h ∙ ap (λ ps. route ps name key moment) (ap (λ n. take n (drop k seen)) (sym (length-drop k seen)) ∙ take-length (drop k seen) ∙ ap (drop k) same)

-- the name of the pool at a place, as it was read
name_at : (seen pools : List Pool) (k : ℕ) (x p : Pool) → k < length pools → seen ≡ pools → x ≡ get_or seen k x → x.name ≡ (get_or pools k p).name
name_at seen pools k x p within same read = ap (λ (q : Pool). q.name) (read ∙ ap (λ (ps : List Pool). get_or ps k x) same ∙ get_or_default pools k x p within)

-- the answer over the rest of the pools for the name of the first of them
rest_at : (seen held pools : List Pool) (key moment k : ℕ) (x p : Pool) (found : Found) → k < length pools → seen ≡ pools → held ≡ pools → x ≡ get_or held k x → found ≡ route (take (length seen - k) (drop k seen)) x.name key moment → found ≡ route (drop k pools) (get_or pools k p).name key moment
rest_at seen held pools key moment k x p found within same kept read h =
    rest_is seen pools (get_or pools k p).name key moment k found same (h ∙ ap (λ n. route (take (length seen - k) (drop k seen)) n key moment) (name_at held pools k x p within kept read))

pub routed_at : (seen held pools : List Pool) (key moment k i : ℕ) (x : Pool) (found : Found) → k < length pools → ((p : Pool) → first_named pools (get_or pools k p).name ≡ Some k) → seen ≡ pools → held ≡ pools → x ≡ get_or held k x
    → found ≡ route (take (length seen - k) (drop k seen)) x.name key moment → found ≡ At i → (p : Pool) → At (k + i) ≡ route pools (get_or pools k p).name key moment
routed_at seen held pools key moment k i x found within first same kept read g is p =
    ap (behind k) (sym is ∙ rest_at seen held pools key moment k x p found within same kept read g) ∙ sym (route_on pools (get_or pools k p).name key moment k (first p))

unmoved : (k : ℕ) (found : Found) → ((i : ℕ) → found ≡ At i → ⊥) → found ≡ behind k found
unmoved k (At i) other = absurd (other i refl)
unmoved k Unknown other = refl
unmoved k (Expired day) other = refl

pub nowhere_within : (n : ℕ) (found : Found) → ((i : ℕ) → found ≡ At i → ⊥) → IsThere n found
nowhere_within n (At i) other = absurd (other i refl)
nowhere_within n Unknown other = tt
nowhere_within n (Expired day) other = tt

-- the answer where no pool serves
pub routed_nowhere : (seen held pools : List Pool) (key moment k : ℕ) (x : Pool) (found : Found) → k < length pools → ((p : Pool) → first_named pools (get_or pools k p).name ≡ Some k) → seen ≡ pools → held ≡ pools → x ≡ get_or held k x
    → found ≡ route (take (length seen - k) (drop k seen)) x.name key moment → ((i : ℕ) → found ≡ At i → ⊥) → (p : Pool) → found ≡ route pools (get_or pools k p).name key moment
routed_nowhere seen held pools key moment k x found within first same kept read g nowhere p =
    unmoved k found nowhere ∙ ap (behind k) (rest_at seen held pools key moment k x p found within same kept read g) ∙ sym (route_on pools (get_or pools k p).name key moment k (first p))
