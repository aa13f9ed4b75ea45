-- Functions that change at one place.
use Rattle.std.proofs.Common.{◌≡◌, ◌≢◌, ℕ, refl}
use native.Mathlib.Decide.{ℕ_discrete}

abbrev pick : {P : Type 0} → Dec P → ℕ → ℕ → ℕ
pick (yes _) a b = a
pick (no _) a b = b

pub put : (ℕ → ℕ) → ℕ → ℕ → ℕ → ℕ
put f i c j = pick (ℕ_discrete j i) c (f j)

-- all that the seat i had is the seat c's
pub moved : (ℕ → ℕ) → ℕ → ℕ → ℕ → ℕ
moved f i c j = pick (ℕ_discrete (f j) i) c (f j)

pub moved_here : (f : ℕ → ℕ) (i c j : ℕ) → f j ≡ i → moved f i c j ≡ c
unfolding moved
moved_here f i c j e = go (ℕ_discrete (f j) i)
  where
    go : (d : Dec (f j ≡ i)) → pick d c (f j) ≡ c
    go (yes _) = refl
    go (no n) = absurd (n e)

pub moved_else : (f : ℕ → ℕ) (i c j : ℕ) → f j ≢ i → moved f i c j ≡ f j
unfolding moved
moved_else f i c j other = go (ℕ_discrete (f j) i)
  where
    go : (d : Dec (f j ≡ i)) → pick d c (f j) ≡ f j
    go (yes e) = absurd (other e)
    go (no _) = refl

pub put_here : (f : ℕ → ℕ) (i c : ℕ) → put f i c i ≡ c
unfolding put
put_here f i c = go (ℕ_discrete i i)
  where
    go : (d : Dec (i ≡ i)) → pick d c (f i) ≡ c
    go (yes _) = refl
    go (no n) = absurd (n refl)

pub put_else : (f : ℕ → ℕ) (i c j : ℕ) → j ≢ i → put f i c j ≡ f j
unfolding put
put_else f i c j other = go (ℕ_discrete j i)
  where
    go : (d : Dec (j ≡ i)) → pick d c (f j) ≡ f j
    go (yes e) = absurd (other e)
    go (no _) = refl
