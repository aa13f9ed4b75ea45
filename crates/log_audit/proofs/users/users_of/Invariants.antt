use Rattle.std.proofs.Common.{◌≡◌, ◌++◌, map, take}
use Rattle.log_audit.proofs.Grants.{Counted, sum_of}
use Rattle.log_audit.proofs.users.users_of.Given as goal

-- the grants of the entries so far were counted
abbrev pub invariant-loop-entry : goal.invariant-loop-entry
invariant-loop-entry l = Counted (take l.entry-index l.log) l.counts.entries

-- the users so far and those that are left are all of them
abbrev pub invariant-loop-user : goal.invariant-loop-user
invariant-loop-user l =
    (goal.iterator-loop-user).can_next l.user-iterator ×
    (goal.iterator-loop-user).is_finite l.user-iterator ×
    (l.users.items ++ map sum_of l.user-iterator ≡ map sum_of l.initial.user-iterator)
