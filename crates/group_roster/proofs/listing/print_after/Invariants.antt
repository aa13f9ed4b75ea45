use Rattle.std.proofs.Common.{◌≡◌, drop}
use Rattle.group_roster.specs.Listings.{print_after}
use Rattle.group_roster.proofs.listing.print_after.Given as goal

abbrev pub invariant-loop-byte : goal.invariant-loop-byte
invariant-loop-byte l = print_after l.after (drop l.byte-index l.bytes) ≡ print_after l.print l.bytes
