-- A stream has one reading.
use Rattle.std.proofs.Common.{◌≡◌, ◌≢◌, ℕ, List, [], ◌∷◌, ◌++◌, refl, sym}
use Rattle.std.proofs.lemmas.List.Elements.{All-head, All-tail}
use Rattle.line_protocol.specs.Streams.{IsFlat, stream_of, OneReading}

heads : {X : Type 0} {x y : X} {xs ys : List X} → x ∷ xs ≡ y ∷ ys → x ≡ y
heads e = cc

tails : {X : Type 0} {x y : X} {xs ys : List X} → x ∷ xs ≡ y ∷ ys → xs ≡ ys
tails e = cc

both : {X : Type 0} (a b : X) (x y : List X) → a ≡ b → x ≡ y → a ∷ x ≡ b ∷ y
both a b x y p q = cc

fronts : (x y p q : List ℕ) → IsFlat x → IsFlat y → x ++ 10 ∷ p ≡ y ++ 10 ∷ q → (x ≡ y) × (p ≡ q)
fronts [] [] p q f g e = (refl, tails e)
fronts [] (b ∷ y) p q f g e = absurd (All-head (λ n. n ≢ 10) b y g (sym (heads e)))
fronts (a ∷ x) [] p q f g e = absurd (All-head (λ n. n ≢ 10) a x f (heads e))
fronts (a ∷ x) (b ∷ y) p q f g e = let r = fronts x y p q (All-tail (λ n. n ≢ 10) a x f) (All-tail (λ n. n ≢ 10) b y g) (tails e) in (both a b x y (heads e) r.0, r.1)

no_line : (r x p : List ℕ) → IsFlat r → r ≡ x ++ 10 ∷ p → ⊥
no_line [] [] p f e = cc
no_line [] (b ∷ x) p f e = cc
no_line (a ∷ r) [] p f e = All-head (λ n. n ≢ 10) a r f (heads e)
no_line (a ∷ r) (b ∷ x) p f e = no_line r x p (All-tail (λ n. n ≢ 10) a r f) (tails e)

pub one : OneReading
one [] [] r s f g h k e = (refl, e)
one [] (y ∷ ys) r s f g h k e = absurd (no_line r y (stream_of ys s) h e)
one (x ∷ xs) [] r s f g h k e = absurd (no_line s x (stream_of xs r) k (sym e))
one (x ∷ xs) (y ∷ ys) r s f g h k e =
    let q = fronts x y (stream_of xs r) (stream_of ys s) f.0 g.0 e in
    let t = one xs ys r s f.1 g.1 h k q.1 in
    (both x y xs ys q.0 t.0, t.1)
