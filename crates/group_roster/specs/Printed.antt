use Rattle.std.specs.Prelude.{◌≡◌, ℕ, ◌<◌, ◌%◌, ◌==◌, Bool, true, ◌&&◌, List, All, get_or, length, Option, None, is_some}
use Rattle.std.specs.List.{list_any}
use Rattle.std.specs.List.Sorted.{IsSortedBy}
use Rattle.std.specs.Ordering.{is_lt, nat_cmp}
use Rattle.group_roster.specs.Listings.{name_print}
use Rattle.group_roster.specs.declared.prints.Printed.{Printed}

-- whether one of these has the print of the name
abbrev pub has_print : List ℕ → List Printed → Bool
has_print name entries = list_any (λ (e : Printed). e.print == name_print name) entries

-- whether one of these has this print and leads to this place
abbrev pub is_entry : ℕ → ℕ → Printed → Bool
is_entry print place e = e.print == print && e.place == place

-- whether one of these has the print of the name and leads to this place
abbrev pub leads_to : List ℕ → ℕ → List Printed → Bool
leads_to name place entries = list_any (is_entry (name_print name) place) entries

-- they stand in the order of their prints
abbrev pub AreInOrder : List Printed → Type 0
AreInOrder entries = IsSortedBy (λ (a b : Printed). is_lt (nat_cmp a.print b.print)) entries

-- among some marks, those of these prints point somewhere: the mark of a print is at its remainder by their number
pub record AreMarked (marks : List (Option ℕ)) (entries : List Printed) : Type 0 where
  pub some : 0 < length marks
  pub set : All (λ (e : Printed). is_some (get_or marks (e.print % length marks) None) ≡ true) entries

-- what is kept of names: in the order of their prints, with the marks of those
pub record IsKept (marks : List (Option ℕ)) (entries : List Printed) : Type 0 where
  pub sorted : AreInOrder entries
  pub marked : AreMarked marks entries
