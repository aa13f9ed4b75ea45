use Rattle.std.specs.Prelude.{◌≡◌, ℕ, ◌<◌, Bool, ◌&&◌, nat_eq, List, [], ◌∷◌, count_by, if◌then◌else◌, length, map}
use Rattle.std.specs.Cmp.Lexicographic.{pointwise, slice_cmp}
use Rattle.std.specs.List.{AllByRecursion}
use Rattle.std.specs.List.Sorted.{IsStrictlySortedBy}
use Rattle.std.specs.Ordering.{nat_cmp}
use Rattle.options_machine.specs.Rules.{Rules}
use Rattle.options_machine.specs.declared.reply.Entry.{Entry}
use Rattle.log_audit.specs.Audit.{entry_of}
use Rattle.log_audit.specs.Replies.{is_grant}
use Rattle.log_audit.specs.Usage.{usage}
use Rattle.log_audit.specs.declared.day_sum.DaySum.{DaySum}
use Rattle.log_audit.specs.declared.log.Numbered.{Numbered}
use Rattle.log_audit.specs.declared.users.UserSum.{UserSum}

-- what is seen of the sums of a log: how many entries it has, what each user was granted, and its days
pub record Summed : Type 0 where
  pub entries : ℕ
  pub users : List UserSum
  pub days : List DaySum

-- whether an entry grants the user a seat
abbrev pub grants : List ℕ → Entry → Bool
grants name e = is_grant e.reply && pointwise nat_eq e.request.client.user name

abbrev pub is_grant_of : List ℕ → Numbered → Bool
is_grant_of name x = grants name (entry_of x)

-- how many grants the sums tell of a user
abbrev pub told_of : List ℕ → List UserSum → ℕ
told_of name [] = 0
told_of name (u ∷ us) = if pointwise nat_eq u.user name then u.grants else told_of name us

-- the users in the order of the bytes of their names, each with the number of its grants, and no user without one
pub record AreUsers (xs : List Numbered) (users : List UserSum) : Type 0 where
  pub sorted : IsStrictlySortedBy (slice_cmp nat_cmp) (map (λ (u : UserSum). u.user) users)
  pub some : AllByRecursion (λ (u : UserSum). 0 < u.grants) users
  pub each : (name : List ℕ) → told_of name users ≡ count_by (is_grant_of name) xs

-- the sums of these entries, of pools with these rule sets
pub record SumsUp (pools : List (List Rules)) (xs : List Numbered) (sums : Summed) : Type 0 where
  pub counted : sums.entries ≡ length xs
  pub granted : AreUsers xs sums.users
  pub used : sums.days ≡ usage pools xs
