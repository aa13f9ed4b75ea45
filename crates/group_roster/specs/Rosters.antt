use Rattle.std.specs.Prelude.{◌≡◌, ℕ, ◌+◌, Bool, true, false, ◌&&◌, not, List, [], ◌∷◌, ◌++◌, Option, None, Some, slice_get, unwrap_or}
use Rattle.std.specs.List.{list_any}
use Rattle.std.specs.List.Sorted.{IsSortedBy}
use Rattle.std.specs.Ordering.{is_eq, is_lt}
use Rattle.lic_types.specs.Groups.{GroupLine, same_name}
use Rattle.group_roster.specs.Listings.{ListingOf, group_print, listing_cmp, member_listing, print_after}
use Rattle.group_roster.specs.declared.roster.Membership.{Membership}

-- what the member at a place of a group line is listed as, with this print
abbrev pub listing_in : ℕ → ℕ → Option GroupLine → ListingOf
listing_in print member None = record { print = print; member = []; of_hosts = false; group = [] }
listing_in print member (Some g) = record { print = print; member = unwrap_or (slice_get g.members member) []; of_hosts = g.of_hosts; group = g.name }

-- what a membership says
abbrev pub listing_at : List GroupLine → Membership → ListingOf
listing_at groups m = listing_in m.print m.member (slice_get groups m.group)

-- the memberships of a group line at a place, whose group has this print, for its members from one on
abbrev pub memberships_of : ℕ → ℕ → ℕ → List (List ℕ) → List Membership
memberships_of group print member [] = []
memberships_of group print member (n ∷ ns) = record { print = print_after print n; group = group; member = member } ∷ memberships_of group print (member + 1) ns

-- the memberships of group lines, the first of which is at this place
abbrev pub memberships : ℕ → List GroupLine → List Membership
memberships group [] = []
memberships group (g ∷ gs) = memberships_of group (group_print g.of_hosts g.name) 0 g.members ++ memberships (group + 1) gs

-- whether a line is a GROUP line of the name, or, where of_hosts, a HOST_GROUP line of it, and lists the member
abbrev pub lists : Bool → List ℕ → List ℕ → GroupLine → Bool
lists true name member g = g.of_hosts && same_name g.name name && list_any (same_name member) g.members
lists false name member g = not g.of_hosts && same_name g.name name && list_any (same_name member) g.members

-- the memberships of all groups, in the order of what they say: one says what is sought exactly where a line lists it
pub record IsInOrder (groups : List GroupLine) (order : List Membership) : Type 0 where
  pub all : (of_hosts : Bool) (group member : List ℕ)
      → list_any (λ (m : Membership). is_eq (listing_cmp (listing_at groups m) (member_listing of_hosts group member))) order ≡ list_any (lists of_hosts group member) groups
  pub sorted : IsSortedBy (λ (a b : Membership). is_lt (listing_cmp (listing_at groups a) (listing_at groups b))) order
