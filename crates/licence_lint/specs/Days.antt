use Rattle.std.specs.Prelude.{Option, None, Some, option_and_then}
use Rattle.lic_types.specs.declared.day.Day.{Day}
use Rattle.lic_types.specs.declared.day.Expiry.{Expiry}
use Rattle.lic_types.specs.declared.day.Expiry.TheVariants.{Never, On}

abbrev pub day_in : Expiry → Option Day
day_in Never = None
day_in (On day) = Some day

-- the last day of an expiry, where there is one
abbrev pub last_day : Option Expiry → Option Day
last_day expiry = option_and_then day_in expiry
