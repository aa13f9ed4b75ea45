use Rattle.std.proofs.Common.{◌≡◌, ℕ, Bool, true, false, ◌&&◌, List, Option, None, Some, refl, sym, ap, ◌∙◌}
use Rattle.std.specs.Cmp.Lexicographic.{bytes_decides}
use Rattle.std.proofs.lemmas.Bool.{eqb-true, eq-eqb}
use Rattle.lic_types.specs.Groups.{same_name}
use Rattle.feature_lines.specs.Licence.{PoolKey, same_date, same_key}

pub three : (a b c : Bool) → (a && b && c) ≡ true → (a ≡ true) × (b ≡ true) × (c ≡ true)
three true true true h = (refl, refl, refl)
three true true false h = absurd cc
three true false c h = absurd cc
three false b c h = absurd cc

all_three : (a b c : Bool) → a ≡ true → b ≡ true → c ≡ true → (a && b && c) ≡ true
all_three a b c p q r = rw (p, q, r) refl

pub same_name_is : (a b : List ℕ) → same_name a b ≡ true → a ≡ b
same_name_is a b h = (bytes_decides a b).0 h

pub same_name_self : (a : List ℕ) → same_name a a ≡ true
same_name_self a = (bytes_decides a a).1 refl

same_date_is : (a b : Option (ℕ × ℕ × ℕ)) → same_date a b ≡ true → a ≡ b
same_date_is None None h = refl
same_date_is None (Some b) h = absurd cc
same_date_is (Some a) None h = absurd cc
same_date_is (Some a) (Some b) h =
    let parts = three _ _ _ h in
    let p = eqb-true a.0 b.0 parts.0 in
    let q = eqb-true a.1 b.1 parts.1 in
    let r = eqb-true a.2 b.2 parts.2 in
    λ i. Some (p i, q i, r i)

same_date_self : (a : Option (ℕ × ℕ × ℕ)) → same_date a a ≡ true
same_date_self None = refl
same_date_self (Some a) = all_three _ _ _ (eq-eqb a.0 a.0 refl) (eq-eqb a.1 a.1 refl) (eq-eqb a.2 a.2 refl)

-- keys that the test calls the same are the same
pub same_key_is : (a b : PoolKey) → same_key a b ≡ true → a ≡ b
same_key_is a b h =
    let parts = three _ _ _ h in
    let p = same_name_is a.name b.name parts.0 in
    let q = eqb-true a.version b.version parts.1 in
    let r = same_date_is a.date b.date parts.2 in
    λ i. record { name = p i; version = q i; date = r i }

pub same_key_self : (a : PoolKey) → same_key a a ≡ true
same_key_self a = all_three _ _ _ (same_name_self a.name) (eq-eqb a.version a.version refl) (same_date_self a.date)

-- keys that aren't the same one way aren't the other way
pub other_key : (a b : PoolKey) → same_key a b ≡ false → same_key b a ≡ false
other_key a b h = elim (same_key b a) as (λ (t : Bool). same_key b a ≡ t → t ≡ false) [ true ↦ λ e. (let same : b ≡ a = same_key_is b a e in let self = same_key_self a in let other : same_key a a ≡ false = ap (λ (k : PoolKey). same_key a k) (sym same) ∙ h in absurd cc) | false ↦ λ e. refl ] refl
