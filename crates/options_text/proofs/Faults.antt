use Rattle.std.proofs.Common.{◌≡◌, None, refl}
use Rattle.options_text.specs.Answers.{fault_told}
use Rattle.options_text.specs.declared.fault.OptionsFault.{OptionsFault}
use Rattle.options_text.specs.declared.fault.OptionsFault.TheVariants.{Line, UnknownKeyword, MissingWord, BadNumber, UnknownKind, UnknownGroup, Selector, BadName, TooMany, NoMemory}

-- a fault that tells none of a file is want of memory
pub tells_none : (fault : OptionsFault) → fault_told fault ≡ None → fault ≡ NoMemory
tells_none NoMemory none = refl
tells_none (Line f) none = absurd cc
tells_none (UnknownKeyword l) none = absurd cc
tells_none (MissingWord l) none = absurd cc
tells_none (BadNumber l) none = absurd cc
tells_none (UnknownKind l) none = absurd cc
tells_none (UnknownGroup l) none = absurd cc
tells_none (Selector l) none = absurd cc
tells_none (BadName l) none = absurd cc
tells_none (TooMany l) none = absurd cc
