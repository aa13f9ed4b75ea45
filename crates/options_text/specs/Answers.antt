use Rattle.std.specs.Prelude.{◌≡◌, ◌≢◌, List, ◌++◌, Option, None, Some, Result, Ok, Err}
use Rattle.options_text.specs.declared.fault.OptionsFault.{OptionsFault}
use Rattle.options_text.specs.declared.fault.OptionsFault.TheVariants.{NoMemory}

-- what follows an Ok
infixl 10 ◌>>=◌
abbrev pub ◌>>=◌ : {A B E : Type 0} → Result A E → (A → Result B E) → Result B E
Ok x >>= f = f x
Err e >>= f = Err e

-- the fault of a file that a fault tells; want of memory tells none
abbrev pub fault_told : OptionsFault → Option OptionsFault
fault_told NoMemory = None
fault_told fault = Some fault

-- what is seen of a result is this, unless there was too little memory
abbrev pub IsAnswer : {X Y : Type 0} → (X → Y) → Result X OptionsFault → Result Y OptionsFault → Type 0
IsAnswer view (Ok x) whole = Ok (view x) ≡ whole
IsAnswer view (Err fault) whole = fault ≢ NoMemory → Err fault ≡ whole

-- these, and then those, if there are those
abbrev pub with_prefix : {X : Type 0} → List X → Result (List X) OptionsFault → Result (List X) OptionsFault
with_prefix before (Ok xs) = Ok (before ++ xs)
with_prefix before (Err fault) = Err fault
