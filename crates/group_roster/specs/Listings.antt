use Rattle.std.specs.Prelude.{ℕ, ◌+◌, ◌*◌, ◌%◌, ◌^◌, Bool, true, false, List, [], ◌∷◌}
use Rattle.std.specs.Cmp.Lexicographic.{slice_cmp}
use Rattle.std.specs.Ordering.{bool_cmp, nat_cmp, ordering_then}
use Rattle.std.specs.declared.cmp.Ordering.{Ordering}

-- the print of bytes that stand behind others, of which this is the print: a polynomial of the bytes, in 64 bits
abbrev pub print_after : ℕ → List ℕ → ℕ
print_after print [] = print
print_after print (b ∷ bs) = print_after ((print * 6364136223846793005 % 2 ^ 64 + b) % 2 ^ 64) bs

-- the print of a name by itself
abbrev pub name_print : List ℕ → ℕ
name_print name = print_after 0 name

-- the print of a group's name, that of a group of hosts apart from that of users
abbrev pub group_print : Bool → List ℕ → ℕ
group_print true name = print_after 1 name
group_print false name = print_after 0 name

-- the print of a membership
abbrev pub print_of : Bool → List ℕ → List ℕ → ℕ
print_of of_hosts group member = print_after (group_print of_hosts group) member

-- that a group line lists a member: the member's name, whether it is a host, and the group's name; and their print
pub record ListingOf : Type 0 where
  pub print : ℕ
  pub member : List ℕ
  pub of_hosts : Bool
  pub group : List ℕ

-- that a group has a member
abbrev pub member_listing : Bool → List ℕ → List ℕ → ListingOf
member_listing of_hosts group member = record { print = print_of of_hosts group member; member = member; of_hosts = of_hosts; group = group }

-- the order of listings: by their prints, and those of one print by the member's name, users before hosts, and then by the group's name
abbrev pub listing_cmp : ListingOf → ListingOf → Ordering
listing_cmp a b =
    ordering_then (nat_cmp a.print b.print)
    (ordering_then (slice_cmp nat_cmp a.member b.member) (ordering_then (bool_cmp a.of_hosts b.of_hosts) (slice_cmp nat_cmp a.group b.group)))
