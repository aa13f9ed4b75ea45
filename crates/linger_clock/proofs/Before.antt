-- The order of deadlines: strict and total on deadlines of distinct owners.
use Rattle.std.proofs.Common.{◌≡◌, ◌≤◌, false, IsTrue, arith}
use Rattle.std.proofs.lemmas.Bool.Decides.{nat_tests}
use Rattle.linger_clock.specs.declared.Deadline.{Deadline}
use Rattle.linger_clock.specs.Deadlines.{is_before, is_of}

-- a deadline before another is due no later
pub due_no_later : (a b : Deadline) → IsTrue (is_before a b) → a.until ≤ b.until
due_no_later a b h = grind (arith, nat_tests)

pub before_trans : (a b c : Deadline) → IsTrue (is_before a b) → IsTrue (is_before b c) → IsTrue (is_before a c)
before_trans a b c h k = grind (arith, nat_tests)

pub before_not_back : (a b : Deadline) → IsTrue (is_before a b) → is_before b a ≡ false
before_not_back a b h = grind (arith, nat_tests)

-- of two owners' deadlines one comes first
pub before_or_after : (a b : Deadline) → is_of a.owner b ≡ false → is_before a b ≡ false → IsTrue (is_before b a)
before_or_after a b h k = grind (arith, nat_tests)
