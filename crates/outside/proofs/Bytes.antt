use Rattle.std.proofs.Common.{◌≡◌, ℕ, ◌+◌, ◌-◌, ◌≤◌, List, ◌++◌, length, take, drop, Option, None, Some, sym, ap, ◌∙◌, subst, arith, append_assoc}
use Rattle.std.proofs.lemmas.List.{drop-drop, drop-take, length-drop, length-take-le, take-append-drop, take-append-le, take_all}
use Rattle.std.specs.Io.KnownBytes.{Appends}

-- a prefix of the piece was written, and this is its rest
pub record Written (old new : Option (List ℕ)) (piece rest : List ℕ) : Type 0 where
  pub count : ℕ
  pub within : count ≤ length piece
  pub rest_is : rest ≡ drop count piece
  pub appends : Appends old new (take count piece)

appends_on : (old now new : Option (List ℕ)) (bytes more : List ℕ) → Appends old now bytes → Appends now new more → Appends old new (bytes ++ more)
appends_on None now new bytes more h k = tt
appends_on (Some held) None new bytes more h k = absurd h
appends_on (Some held) (Some mid) None bytes more h k = absurd k
appends_on (Some held) (Some mid) (Some last) bytes more h k = k ∙ (ap (λ (l : List ℕ). l ++ more) h ∙ append_assoc held bytes more)

front_of_front : (piece : List ℕ) (i n : ℕ) → i + n ≤ length piece → take i (take (i + n) piece) ≡ take i piece
front_of_front piece i n few =
    let long : i ≤ length (take (i + n) piece) = omega (arith, length-take-le (i + n) piece few) in
    sym (take-append-le i (take (i + n) piece) (drop (i + n) piece) long) ∙ ap (take i) (take-append-drop (i + n) piece)

fronts_join : (piece : List ℕ) (i n : ℕ) → i + n ≤ length piece → take i piece ++ take n (drop i piece) ≡ take (i + n) piece
fronts_join piece i n few =
    let front = sym (front_of_front piece i n few) in
    let rest = sym (drop-take i n piece) in
    ap (λ (l : List ℕ). l ++ take n (drop i piece)) front ∙ (ap (λ (l : List ℕ). take i (take (i + n) piece) ++ l) rest ∙ take-append-drop i (take (i + n) piece))

-- more of it was written
pub writes_on : (old now new : Option (List ℕ)) (piece rest : List ℕ) (n : ℕ) → Written old now piece rest → n ≤ length rest → Appends now new (take n rest)
    → Written old new piece (take (length rest - n) (drop n rest))
writes_on old now new piece rest n w few more =
    let size : length rest ≡ length piece - w.count = ap length w.rest_is ∙ length-drop w.count piece in
    let within : w.count + n ≤ length piece = omega (arith, w.within, size) in
    let left : length (drop n rest) ≤ length rest - n = omega (arith, length-drop n rest) in
    record {
      count = w.count + n;
      within = within;
      rest_is = take_all (length rest - n) (drop n rest) left ∙ (ap (drop n) w.rest_is ∙ drop-drop n w.count piece);
      appends = subst (Appends old new) (ap (λ (l : List ℕ). take w.count piece ++ take n l) w.rest_is ∙ fronts_join piece w.count n within)
          (appends_on old now new (take w.count piece) (take n rest) w.appends more);
    }
