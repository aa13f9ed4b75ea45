-- What feeding gives.
use Rattle.std.proofs.Common.{Bool, true, false, cond, ◌≡◌, ◌≢◌, ℕ, ◌+◌, ◌<◌, ◌≤◌, List, [], ◌∷◌, ◌++◌, length, take, drop, refl, sym, ◌∙◌, ap, arith, append_assoc, length-append, length-take, take-append-drop}
use Rattle.std.proofs.lemmas.List.Elements.{All-append}
use Rattle.line_protocol.specs.Streams.{IsFlat, IsOverlong, Begins}
use Rattle.line_protocol.specs.declared.feeder.TheConstants.{LINE_LIMIT}

pub overlong : (w piece : List ℕ) (n : ℕ) → IsFlat w → n ≤ length piece → IsFlat (take n piece) → LINE_LIMIT < length w + n → IsOverlong (w ++ piece)
overlong w piece n fw within fp long =
    record {
      front = w ++ take n piece;
      rest = drop n piece;
      whole = sym (append_assoc w (take n piece) (drop n piece) ∙ ap (λ x. w ++ x) (take-append-drop n piece));
      flat = All-append (λ x. x ≢ 10) w (take n piece) fw fp;
      long = omega (arith, length-append w (take n piece), length-take n piece);
    }

pub begins : (w piece : List ℕ) (n : ℕ) → IsFlat w → n ≤ length piece → IsFlat (take n piece) → length w + n ≤ LINE_LIMIT → piece ≡ take n piece ++ 10 ∷ drop (n + 1) piece → Begins (w ++ piece) (w ++ take n piece) (drop (n + 1) piece)
begins w piece n fw within fp short split =
    record {
      whole = ap (λ x. w ++ x) split ∙ sym (append_assoc w (take n piece) (10 ∷ drop (n + 1) piece));
      flat = All-append (λ x. x ≢ 10) w (take n piece) fw fp;
      short = omega (arith, length-append w (take n piece), length-take n piece);
    }

-- where nothing is held, nothing waits
pub nothing_waits : (b : Bool) (bytes : List ℕ) → length bytes ≡ 0 → length (cond b [] bytes) ≡ 0
nothing_waits true bytes e = refl
nothing_waits false bytes e = e

pub not_both : (b : Bool) → b ≡ true → b ≡ false → ⊥
not_both b e f = cc
