use Rattle.std.specs.Prelude.{Bool, pos, ◌+ℤ◌, int_le, if◌then◌else◌, Option, None, Some, option_and_then}
use Rattle.feature_lines.specs.declared.pool.Pool.{Pool}
use Rattle.lic_types.specs.declared.day.Day.{Day}
use Rattle.lic_types.specs.declared.day.Expiry.{Expiry}
use Rattle.lic_types.specs.declared.day.Expiry.TheVariants.{Never, On}
use Rattle.lint_advice.specs.declared.advice.Advice.{Advice}
use Rattle.lint_advice.specs.declared.advice.Advice.TheVariants.{Expires}
use Rattle.lint_advice.specs.declared.advice.Horizon.{Horizon}

-- whether a day isn't behind a horizon: so many days behind its day, or earlier
abbrev pub expires_by : Horizon → Day → Bool
expires_by horizon day = int_le day.number (horizon.on.number +ℤ pos horizon.days)

-- a pool that expires on this day, where that isn't behind the horizon
abbrev pub expiring_on : Horizon → Pool → Expiry → Option Advice
expiring_on horizon pool Never = None
expiring_on horizon pool (On day) = if expires_by horizon day then Some (Expires pool.line pool.name day) else None

-- a pool that expires by the horizon, or has expired before
abbrev pub expiring : Option Horizon → Pool → Option Advice
expiring horizon pool = option_and_then (λ h. expiring_on h pool pool.expiry) horizon
