use Rattle.std.proofs.Common.{◌≡◌, ℕ, suc, ◌+◌, ◌<◌, Bool, true, false, ◌&&◌, ◌||◌, cond, List, [], ◌∷◌, length, Option, None, Some, refl, ap, arith, ◌∙◌}
use Rattle.std.specs.List.{find, list_any, position_from}
use Rattle.std.specs.Option.{option_map}
use Rattle.lic_types.specs.declared.day.Expiry.{Expiry}
use Rattle.lic_types.specs.declared.day.Expiry.TheVariants.{Never}
use Rattle.feature_lines.specs.Route.{is_good}
use Rattle.feature_lines.specs.declared.pool.Pool.{Pool}

-- a pool that serves is new enough
pub served_any : {X : Type 0} (t g : X → Bool) (xs : List X) (i at : ℕ) → position_from (λ x. t x && g x) i xs ≡ Some at → list_any t xs ≡ true
served_any t g [] i at h = absurd cc
served_any t g (x ∷ xs) i at h = elim (t x) as (λ (b : Bool). cond (b && g x) (Some i) (position_from (λ x. t x && g x) (i + 1) xs) ≡ Some at → (b || list_any t xs) ≡ true) [ true ↦ λ e. refl | false ↦ λ e. served_any t g xs (i + 1) at e ] h

found_any : {X : Type 0} (t : X → Bool) (xs : List X) (y : X) → find t xs ≡ Some y → list_any t xs ≡ true
found_any t [] y h = absurd cc
found_any t (x ∷ xs) y h = elim (t x) as (λ (b : Bool). cond b (Some x) (find t xs) ≡ Some y → (b || list_any t xs) ≡ true) [ true ↦ λ e. refl | false ↦ λ e. found_any t xs y e ] h

none_any : {X : Type 0} (t : X → Bool) (xs : List X) → find t xs ≡ None → list_any t xs ≡ false
none_any t [] h = refl
none_any t (x ∷ xs) h = elim (t x) as (λ (b : Bool). cond b (Some x) (find t xs) ≡ None → (b || list_any t xs) ≡ false) [ true ↦ λ e. absurd cc | false ↦ λ e. none_any t xs e ] h

-- where an expiry is found
pub expiry_any : (t : Pool → Bool) (pools : List Pool) (o : Option Pool) (e : Expiry) → find t pools ≡ o → option_map (λ (p : Pool). p.expiry) o ≡ Some e → list_any t pools ≡ true
expiry_any t pools None e is h = absurd cc
expiry_any t pools (Some p) e is h = found_any t pools p is

-- where none is
pub no_expiry : (t : Pool → Bool) (pools : List Pool) (o : Option Pool) → find t pools ≡ o → option_map (λ (p : Pool). p.expiry) o ≡ None → list_any t pools ≡ false
no_expiry t pools None is h = none_any t pools is
no_expiry t pools (Some p) is h = absurd cc

good_place : (b : Bool) (i : ℕ) (o : Option ℕ) → b ≡ true → cond b (Some i) o ≡ None → ⊥
good_place true i o p h = cc
good_place false i o p h = cc

first_never : (t : Pool → Bool) (moment : ℕ) (pools : List Pool) (i : ℕ) (p : Pool) → position_from (λ q. t q && is_good moment q.expiry) i pools ≡ None → find t pools ≡ Some p → p.expiry ≡ Never → ⊥
first_never t moment [] i p h is never = cc
first_never t moment (x ∷ xs) i p h is never =
    elim (t x) as (λ (b : Bool). cond (b && is_good moment x.expiry) (Some i) (position_from (λ q. t q && is_good moment q.expiry) (i + 1) xs) ≡ None → cond b (Some x) (find t xs) ≡ Some p → ⊥) [
      | true ↦ λ e f. (let same : x ≡ p = cc in good_place _ i _ (ap (is_good moment) (ap (λ (q : Pool). q.expiry) same ∙ never)) e)
      | false ↦ λ e f. first_never t moment xs (i + 1) p e f never
    ] h is

-- a pool that never expires serves
pub never_serves : (t : Pool → Bool) (moment : ℕ) (pools : List Pool) (o : Option Pool) → find t pools ≡ o → position_from (λ q. t q && is_good moment q.expiry) 0 pools ≡ None → option_map (λ (p : Pool). p.expiry) o ≡ Some Never → ⊥
never_serves t moment pools None is none h = cc
never_serves t moment pools (Some p) is none h = let never : p.expiry ≡ Never = cc in first_never t moment pools 0 p none is never

within_or : (i n at : ℕ) (b : Bool) (rest : Option ℕ) → (rest ≡ Some at → at < i + 1 + n) → cond b (Some i) rest ≡ Some at → at < i + suc n
within_or i n at true rest h e = let same : i ≡ at = cc in omega arith
within_or i n at false rest h e = omega (arith, h e)

-- the place that is found is one in the list
pub position_within : {X : Type 0} (p : X → Bool) (i : ℕ) (xs : List X) (at : ℕ) → position_from p i xs ≡ Some at → at < i + length xs
position_within p i [] at e = absurd cc
position_within p i (x ∷ xs) at e = within_or i (length xs) at (p x) (position_from p (i + 1) xs) (position_within p (i + 1) xs at) e
