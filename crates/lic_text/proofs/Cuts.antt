use Rattle.std.proofs.Common.{◌≡◌, ℕ, suc, ◌+◌, ◌<◌, Bool, true, false, not, List, [], ◌∷◌, length, take, drop, refl, sym, ap, ◌∙◌, arith}
use Rattle.std.proofs.lemmas.List.{nil_from_length}
use Rattle.std.specs.List.{position_or_len, slice_split}
use Rattle.lic_text.specs.Physical.{is_blank}
use Rattle.lic_text.specs.Lines.{words_of}

one_more : (n : ℕ) → 1 + n ≡ suc n
one_more n = omega arith

-- a text cut at the first byte that passes
pub record Cut (p : ℕ → Bool) (xs : List ℕ) : Type 0 where
  pub parts : List (List ℕ)
  pub front : slice_split p xs ≡ take (position_or_len p xs) xs ∷ parts
  pub back : slice_split p (drop (position_or_len p xs) xs) ≡ [] ∷ parts

cut_step : (p : ℕ → Bool) (x : ℕ) (xs : List ℕ) (b : Bool) → p x ≡ b → Cut p xs → Cut p (x ∷ xs)
cut_step p x xs true h c = record { parts = slice_split p xs; front = rw h refl; back = rw (h, h) refl }
cut_step p x xs false h c = record { parts = c.parts; front = rw (h, one_more, c.front) refl; back = rw (h, one_more) c.back }

pub cut : (p : ℕ → Bool) (xs : List ℕ) → Cut p xs
cut p [] = record { parts = []; front = refl; back = refl }
cut p (x ∷ xs) = cut_step p x xs (p x) refl (cut p xs)

skip_step : (x : ℕ) (xs : List ℕ) (b : Bool) → is_blank x ≡ b → words_of xs ≡ words_of (drop (position_or_len (λ b. not (is_blank b)) xs) xs) → words_of (x ∷ xs) ≡ words_of (drop (position_or_len (λ b. not (is_blank b)) (x ∷ xs)) (x ∷ xs))
skip_step x xs true h e = rw (h, one_more) e
skip_step x xs false h e = rw (h, h) refl

begins_step : (x : ℕ) (xs : List ℕ) (y : ℕ) (ys : List ℕ) (b : Bool) → is_blank x ≡ b → (drop (position_or_len (λ b. not (is_blank b)) xs) xs ≡ y ∷ ys → is_blank y ≡ false) → drop (position_or_len (λ b. not (is_blank b)) (x ∷ xs)) (x ∷ xs) ≡ y ∷ ys → is_blank y ≡ false
begins_step x xs y ys true h f e = f (rw (h, one_more) at e)
begins_step x xs y ys false h f e = let same : x ∷ xs ≡ y ∷ ys = rw h at e in let head : x ≡ y = cc in sym (ap is_blank head) ∙ h

-- behind the blanks a word begins
pub begins : (xs : List ℕ) (y : ℕ) (ys : List ℕ) → drop (position_or_len (λ b. not (is_blank b)) xs) xs ≡ y ∷ ys → is_blank y ≡ false
begins [] y ys h = cc
begins (x ∷ xs) y ys h = begins_step x xs y ys (is_blank x) refl (begins xs y ys) h

-- the word that a text begins with
pub front_word : (y : ℕ) (ys : List ℕ) → is_blank y ≡ false → words_of (y ∷ ys) ≡ take (position_or_len is_blank (y ∷ ys)) (y ∷ ys) ∷ words_of (drop (position_or_len is_blank (y ∷ ys)) (y ∷ ys))
front_word y ys h = let k = cut is_blank (y ∷ ys) in rw (k.front, k.back, h, one_more) refl

-- past blanks the words are the same
pub skip : (xs : List ℕ) → words_of xs ≡ words_of (drop (position_or_len (λ b. not (is_blank b)) xs) xs)
skip [] = refl
skip (x ∷ xs) = skip_step x xs (is_blank x) refl (skip xs)

-- what `next` of the words gives
pub no_words : (xs rest : List ℕ) → rest ≡ drop (position_or_len (λ b. not (is_blank b)) xs) xs → length rest ≡ 0 → (words_of xs ≡ []) × (words_of rest ≡ [])
no_words xs rest e h =
    let none : words_of rest ≡ [] = ap words_of (nil_from_length rest h) in
    (skip xs ∙ (ap words_of (sym e) ∙ none), none)

pub next_word : (xs rest : List ℕ) → rest ≡ drop (position_or_len (λ b. not (is_blank b)) xs) xs → 0 < length rest → words_of xs ≡ take (position_or_len is_blank rest) rest ∷ words_of (drop (position_or_len is_blank rest) rest)
next_word xs [] e h = absurd (omega arith)
next_word xs (y ∷ ys) e h = skip xs ∙ (ap words_of (sym e) ∙ front_word y ys (begins xs y ys (sym e)))
