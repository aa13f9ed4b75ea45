use Rattle.std.proofs.Common.{◌≡◌, flat_map, take}
use Rattle.log_audit.specs.Desks.{days_so_far}
use Rattle.log_audit.proofs.sums.days_of.Given as goal

-- the days of the desks so far are put
abbrev pub invariant-loop-desk : goal.invariant-loop-desk
invariant-loop-desk l = l.days.items ≡ flat_map days_so_far (take l.desk-index l.desks)
