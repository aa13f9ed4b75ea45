-- Values up to the first fault, as far as they were read.
use Rattle.std.proofs.Common.{◌≡◌, List, [], ◌∷◌, ◌++◌, Result, Ok, Err, refl, ap, append_assoc}
use Rattle.script_words.specs.Firsts.{onto}

-- these, and then those, if there are those
abbrev pub with_prefix : {X E : Type 0} → List X → Result (List X) E → Result (List X) E
with_prefix front (Err fault) = Err fault
with_prefix front (Ok xs) = Ok (front ++ xs)

-- one more in the prefix
pub prefix_more : {X E : Type 0} (front : List X) (x : X) (others : Result (List X) E) → with_prefix (front ++ x ∷ []) others ≡ with_prefix front (onto (Ok x) others)
prefix_more front x (Err fault) = refl
prefix_more front x (Ok xs) = ap Ok (append_assoc front (x ∷ []) xs)
