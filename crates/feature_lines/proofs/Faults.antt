use Rattle.std.proofs.Common.{◌≡◌, None, refl}
use Rattle.feature_lines.specs.Licence.{fault_told}
use Rattle.feature_lines.specs.declared.fault.LicenceFault.{LicenceFault}
use Rattle.feature_lines.specs.declared.fault.LicenceFault.TheVariants.{Line, BadWord, BadCount, BadDate, BadVersion, TooManyPools, NoMemory}

-- a fault that tells none of a file is want of memory
pub tells_none : (fault : LicenceFault) → fault_told fault ≡ None → fault ≡ NoMemory
tells_none NoMemory none = refl
tells_none (Line f) none = absurd cc
tells_none (BadWord l w) none = absurd cc
tells_none (BadCount l) none = absurd cc
tells_none (BadDate l) none = absurd cc
tells_none (BadVersion l) none = absurd cc
tells_none (TooManyPools l) none = absurd cc
