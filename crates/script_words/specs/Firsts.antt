use Rattle.std.specs.Prelude.{List, [], ◌∷◌, Result, Ok, Err}

-- one more before the others, or the first fault
abbrev pub onto : {X E : Type 0} → Result X E → Result (List X) E → Result (List X) E
onto (Err fault) others = Err fault
onto (Ok x) (Err fault) = Err fault
onto (Ok x) (Ok xs) = Ok (x ∷ xs)

-- all values in their order, or the first fault
abbrev pub all_or_first_fault : {X E : Type 0} → List (Result X E) → Result (List X) E
all_or_first_fault [] = Ok []
all_or_first_fault (result ∷ results) = onto result (all_or_first_fault results)
