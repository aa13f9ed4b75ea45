use Rattle.std.proofs.Common.{◌≡◌, ◌==◌, ℕ, Bool, true, false, List, length, Option, None, Some, refl, sym, arith}
use Rattle.std.proofs.lemmas.List.Sums.{position_or_len_is}
use Rattle.std.specs.Option.{unwrap_or}
use Rattle.std.specs.List.{position_or_len}
use Rattle.memchr.specs.Find.{IsFirstByte, is_byte}

not_passed : (b : Bool) → ¬ (b ≡ true) → b ≡ false
not_passed true h = absurd (h refl)
not_passed false h = refl

-- the first LF, or the end where there is none
pub feed_or_end : (xs : List ℕ) (r : Option ℕ) → IsFirstByte (is_byte 10) xs r → unwrap_or r (length xs) ≡ position_or_len (λ b. b == 10) xs
feed_or_end xs None h = sym (position_or_len_is (λ b. b == 10) xs (length xs) 0 (omega arith) (λ k low. not_passed _ (h k (omega arith) low)) (λ low. absurd (omega arith)))
feed_or_end xs (Some n) h = sym (position_or_len_is (λ b. b == 10) xs n 0 (omega (arith, h.0.high)) (λ k low. not_passed _ (h.0.before k (omega arith) low)) (λ low. h.1))
