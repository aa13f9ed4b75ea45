use Rattle.std.specs.Prelude.{◌≡◌, Option, IfSome, Result, Ok, Err}

-- What a reader of a file answers, where a definition says what the file's bytes come to. A reader's faults are those of its
-- definition and want of memory: which of them a fault tells is `told`, and want of memory tells none.

-- a fault is the one of this reading; want of memory may come at any time
abbrev pub IsFaultOf : {X E F : Type 0} → (F → Option E) → Result X E → F → Type 0
IsFaultOf told reading fault = IfSome (told fault) (λ e. reading ≡ Err e)

-- an answer is this reading, its value as it is viewed, unless there was too little memory
abbrev pub Reads : {V X E F : Type 0} → (V → X) → (F → Option E) → Result X E → Result V F → Type 0
Reads view told reading (Ok value) = reading ≡ Ok (view value)
Reads view told reading (Err fault) = IsFaultOf told reading fault
