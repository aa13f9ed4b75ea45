-- What is held after texts that were written one after another.
use Rattle.std.proofs.Common.{◌≡◌, ℕ, ◌+◌, List, [], ◌++◌, length, take, Option, None, Some, refl, sym, ap, ◌∙◌, append_assoc, append-nil, arith}
use Rattle.std.proofs.Math.Seq.{take-append-add}
use Rattle.std.proofs.lemmas.List.{take-append-le, length-append}
use Rattle.outside.specs.Told.{TakesPrefix, held_after}

pub told_twice : (held : Option (List ℕ)) (a b : List ℕ) → held_after (held_after held a) b ≡ held_after held (a ++ b)
told_twice None a b = refl
told_twice (Some held) a b = ap Some (append_assoc held a b)

pub told_none : (held : Option (List ℕ)) → held ≡ held_after held []
told_none None = refl
told_none (Some held) = ap Some (sym (append-nil held))

-- a prefix of a piece, behind what was written, is a prefix of the whole
pub front_within : (old now new : Option (List ℕ)) (done piece more whole : List ℕ) → now ≡ held_after old done → TakesPrefix now new piece → done ++ (piece ++ more) ≡ whole → TakesPrefix old new whole
front_within old now new done piece more whole w f all =
    let front : take (length done + f.0) whole ≡ done ++ take f.0 piece =
    ap (take (length done + f.0)) (sym all) ∙ (take-append-add done (piece ++ more) f.0 ∙ ap (λ (l : List ℕ). done ++ l) (take-append-le f.0 piece more f.1)) in (
      length done + f.0,
      rw (← all) (omega (arith, length-append done (piece ++ more), length-append piece more, f.1)),
      f.2 ∙ (ap (λ (h : Option (List ℕ)). held_after h (take f.0 piece)) w ∙ (told_twice old done (take f.0 piece) ∙ ap (held_after old) (sym front))),
    )
