use Rattle.std.proofs.Common.{◌≡◌, Option, None, Some, IfSome, Result, Ok, Err, refl}
use Rattle.std.proofs.lemmas.Option.{IfSome_then}
use Rattle.lic_text.specs.Reads.{IsFaultOf, Reads}

-- What readers answer.

-- a fault of one reading is one of another that is at fault wherever the first is
pub fault_too : {X Y E F : Type 0} (told : F → Option E) (a : Result X E) (b : Result Y E) (fault : F) → ((e : E) → a ≡ Err e → b ≡ Err e) → IsFaultOf told a fault → IsFaultOf told b fault
fault_too told a b fault too is = IfSome_then (told fault) is too

-- where a file has a value, that is the one which is read
pub value_read : {V X E F : Type 0} (view : V → X) (told : F → Option E) (x : X) (reading : Result X E) (answer : Result V F) → reading ≡ Ok x → Reads view told reading answer → (value : V) → answer ≡ Ok value → view value ≡ x
value_read view told x reading (Ok read) is reads value ok = cc
value_read view told x reading (Err fault) is reads value ok = absurd cc

tells_none : {X E : Type 0} (x : X) (reading : Result X E) (told : Option E) → reading ≡ Ok x → IfSome told (λ e. reading ≡ Err e) → told ≡ None
tells_none x reading None is h = refl
tells_none x reading (Some e) is h = absurd cc

-- and a fault tells none of the file
pub no_fault_read : {V X E F : Type 0} (view : V → X) (told : F → Option E) (x : X) (reading : Result X E) (answer : Result V F) → reading ≡ Ok x → Reads view told reading answer → (fault : F) → answer ≡ Err fault → told fault ≡ None
no_fault_read view told x reading (Ok read) is reads fault err = absurd cc
no_fault_read view told x reading (Err own) is reads fault err = let same : own ≡ fault = cc in let none = tells_none x reading (told own) is reads in cc
