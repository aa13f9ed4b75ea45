-- Lines by what they name: where none names the client, the first that speaks of it is one that names a group.
use Rattle.std.proofs.Common.{◌+◌, ◌<◌, ◌&&◌, All, drop, get_or, length, ◌≡◌, ℕ, ◌==◌, Bool, true, false, ◌||◌, cond, List, [], ◌∷◌, Option, None, Some, ◌++◌, find, slice_get, refl, sym, ap, subst, ◌∙◌, append_assoc, arith, true≢false}
use Rattle.std.proofs.lemmas.Bool.Decides.{nat_tests}
use Rattle.std.proofs.lemmas.List.{drop_more}
use Rattle.std.proofs.lemmas.List.Elements.{All-head, All-tail, filter_map-append}
use Rattle.std.proofs.lemmas.List.Sorted.{list_any-IsPermutation}
use Rattle.std.specs.Cmp.Lexicographic.{bytes_decides}
use Rattle.std.specs.List.{cons_option, filter_map, list_any}
use Rattle.std.specs.List.Sorted.{IsPermutation}
use Rattle.std.specs.Option.{option_map}
use Rattle.std.proofs.lemmas.Bool.{or_right}
use Rattle.lic_types.specs.Groups.{GroupLine, same_name}
use Rattle.lic_types.specs.declared.client.Client.{Client}
use Rattle.lic_types.specs.declared.client.RuleLine.{RuleLine}
use Rattle.lic_types.specs.declared.client.Who.{Who}
use Rattle.lic_types.specs.declared.client.WhoKind.{WhoKind}
use Rattle.lic_types.specs.declared.client.WhoKind.TheVariants.{User, Host, Display, Project, Group, HostGroup}
use Rattle.group_roster.specs.Listings.{name_print}
use Rattle.options_machine.specs.Groups.{names}
use Rattle.options_machine.specs.Rules.{applies, matches_who}
use Rattle.group_roster.specs.Printed.{has_print, is_entry}
use Rattle.group_roster.specs.declared.prints.Printed.{Printed}
use Rattle.policy.specs.Passing.{AreOthers, grouped_of, is_group, names_group, print_of, printed_at, printed_of}
use Rattle.policy.specs.Places.{AreThere, lines_at}

-- the prints of what the lines name that is no group
abbrev prints_of : List RuleLine → List ℕ
prints_of lines = filter_map (λ (l : RuleLine). print_of l.who) lines

-- whether one of these is the print of the name
abbrev is_printed : List ℕ → List ℕ → Bool
is_printed prints name = list_any (λ (print : ℕ). print == name_print name) prints

-- none of these is the print of a name of the client
record NameNone (prints : List ℕ) (client : Client) : Type 0 where
  user : is_printed prints client.user ≡ false
  host : is_printed prints client.host ≡ false
  display : is_printed prints client.display ≡ false
  project : is_printed prints client.project ≡ false

either_left : (a b : Bool) → (a || b) ≡ false → a ≡ false
either_left true b h = absurd (true≢false h)
either_left false b h = refl

either_right : (a b : Bool) → (a || b) ≡ false → b ≡ false
either_right true b h = absurd (true≢false h)
either_right false b h = h

itself : (n : ℕ) → (n == n) ≡ true
itself n = grind (arith, nat_tests)

-- names of other prints are other names
other_name : (a b : List ℕ) → (name_print a == name_print b) ≡ false → same_name a b ≡ false
other_name a b h = by (same_name a b) refl
  where
    by : (s : Bool) → same_name a b ≡ s → s ≡ false
    by true e = absurd (true≢false (sym (itself (name_print b)) ∙ ap (λ (n : List ℕ). name_print n == name_print b) (sym ((bytes_decides a b).0 e)) ∙ h))
    by false e = refl

-- the prints without the first line's
rest_of : (who : Option Who) (prints : List ℕ) (name : List ℕ) → is_printed (cons_option (print_of who) prints) name ≡ false → is_printed prints name ≡ false
rest_of None prints name h = h
rest_of (Some who) prints name h = by (is_group who.kind) h
  where
    by : (g : Bool) → is_printed (cons_option (cond g None (Some (name_print who.name))) prints) name ≡ false → is_printed prints name ≡ false
    by true k = k
    by false k = either_right (name_print who.name == name_print name) (is_printed prints name) k

others_rest : (who : Option Who) (prints : List ℕ) (client : Client) → NameNone (cons_option (print_of who) prints) client → NameNone prints client
others_rest who prints client h = record {
  user = rest_of who prints client.user h.user;
  host = rest_of who prints client.host h.host;
  display = rest_of who prints client.display h.display;
  project = rest_of who prints client.project h.project;
}

-- a line that names no group and another name doesn't speak of the client
other_kind : (groups : List GroupLine) (kind : WhoKind) (name : List ℕ) (prints : List ℕ) (client : Client)
    → is_group kind ≡ false → NameNone (name_print name ∷ prints) client → names groups kind name client ≡ false
other_kind groups User name prints client g h = other_name name client.user (either_left (name_print name == name_print client.user) (is_printed prints client.user) h.user)
other_kind groups Host name prints client g h = other_name name client.host (either_left (name_print name == name_print client.host) (is_printed prints client.host) h.host)
other_kind groups Display name prints client g h = other_name name client.display (either_left (name_print name == name_print client.display) (is_printed prints client.display) h.display)
other_kind groups Project name prints client g h = other_name name client.project (either_left (name_print name == name_print client.project) (is_printed prints client.project) h.project)
other_kind groups Group name prints client g h = absurd (true≢false g)
other_kind groups HostGroup name prints client g h = absurd (true≢false g)

silent_line : (groups : List GroupLine) (who : Option Who) (prints : List ℕ) (client : Client)
    → names_group who ≡ false → NameNone (cons_option (print_of who) prints) client → matches_who groups who client ≡ false
silent_line groups None prints client g h = refl
silent_line groups (Some who) prints client g h =
    other_kind groups who.kind who.name prints client g
    (subst (λ (b : Bool). NameNone (cons_option (cond b None (Some (name_print who.name))) prints) client) g h)

-- the first of all lines that speaks of a client whom none names is the first of those that name a group
found_among : (groups : List GroupLine) (client : Client) (lines : List RuleLine) → NameNone (prints_of lines) client
    → find (applies groups client) (grouped_of lines) ≡ find (applies groups client) lines
found_among groups client [] h = refl
found_among groups client (l ∷ ls) h = by (names_group l.who) refl (found_among groups client ls (others_rest l.who (prints_of ls) client h))
  where
    by : (g : Bool) → names_group l.who ≡ g → find (applies groups client) (grouped_of ls) ≡ find (applies groups client) ls
        → find (applies groups client) (cond g (l ∷ grouped_of ls) (grouped_of ls)) ≡ cond (applies groups client l) (Some l) (find (applies groups client) ls)
    by true e k = ap (λ (o : Option RuleLine). cond (applies groups client l) (Some l) o) k
    by false e k = rw (silent_line groups l.who (prints_of ls) client e h) k

-- the lines at places have the prints that are kept for these places
same_prints : (lines : List RuleLine) (places : List ℕ) (name : List ℕ) → has_print name (printed_of lines places) ≡ is_printed (prints_of (lines_at lines places)) name
same_prints lines [] name = refl
same_prints lines (place ∷ places) name = by (slice_get lines place) (same_prints lines places name)
  where
    by_print : (n : Option ℕ) (entries : List Printed) (prints : List ℕ) → has_print name entries ≡ is_printed prints name
        → has_print name (cons_option (option_map (λ (print : ℕ). record { print = print; place = place }) n) entries) ≡ is_printed (cons_option n prints) name
    by_print None entries prints h = h
    by_print (Some n) entries prints h = ap (λ (b : Bool). (n == name_print name) || b) h

    by : (o : Option RuleLine) → has_print name (printed_of lines places) ≡ is_printed (prints_of (lines_at lines places)) name
        → has_print name (cons_option (printed_at place o) (printed_of lines places)) ≡ is_printed (prints_of (cons_option o (lines_at lines places))) name
    by None h = h
    by (Some line) h = by_print (print_of line.who) (printed_of lines places) (prints_of (lines_at lines places)) h

-- the same for the lines at places, by what is kept for these in another order
pub found_in_groups : (groups : List GroupLine) (client : Client) (lines : List RuleLine) (places : List ℕ) (printed : List Printed) → IsPermutation (printed_of lines places) printed → AreOthers printed client
    → find (applies groups client) (grouped_of (lines_at lines places)) ≡ find (applies groups client) (lines_at lines places)
found_in_groups groups client lines places printed same h =
    let none = λ (name : List ℕ) (e : has_print name printed ≡ false).
    sym (same_prints lines places name) ∙ list_any-IsPermutation (λ (x : Printed). x.print == name_print name) (printed_of lines places) printed same ∙ e in
    found_among groups client (lines_at lines places)
    (record { user = none client.user h.user; host = none client.host h.host; display = none client.display h.display; project = none client.project h.project })

-- whether a place is among these
abbrev has_place : ℕ → List ℕ → Bool
has_place place places = list_any (λ (q : ℕ). q == place) places

same_place : (q place : ℕ) → (q == place) ≡ true → q ≡ place
same_place q place h = grind (arith, nat_tests)

-- what is kept for places leads to one of them
leads_there : (lines : List RuleLine) (print place : ℕ) (places : List ℕ) → list_any (is_entry print place) (printed_of lines places) ≡ true → has_place place places ≡ true
leads_there lines print place [] h = absurd (true≢false (sym h))
leads_there lines print place (q ∷ qs) h = by (slice_get lines q) h (leads_there lines print place qs)
  where
    by_tests : (a b c d : Bool) → ((a && b) || c) ≡ true → (c ≡ true → d ≡ true) → (b || d) ≡ true
    by_tests a true c d k f = refl
    by_tests true false c d k f = f k
    by_tests false false c d k f = f k

    by_print : (n : Option ℕ) → list_any (is_entry print place) (cons_option (option_map (λ (m : ℕ). record { print = m; place = q }) n) (printed_of lines qs)) ≡ true
        → (list_any (is_entry print place) (printed_of lines qs) ≡ true → has_place place qs ≡ true) → ((q == place) || has_place place qs) ≡ true
    by_print None k f = or_right (q == place) (has_place place qs) (f k)
    by_print (Some m) k f = by_tests (m == print) (q == place) (list_any (is_entry print place) (printed_of lines qs)) (has_place place qs) k f

    by : (o : Option RuleLine) → list_any (is_entry print place) (cons_option (printed_at q o) (printed_of lines qs)) ≡ true
        → (list_any (is_entry print place) (printed_of lines qs) ≡ true → has_place place qs ≡ true) → ((q == place) || has_place place qs) ≡ true
    by None k f = or_right (q == place) (has_place place qs) (f k)
    by (Some line) k f = by_print (print_of line.who) k f

-- what holds of all places holds of one among them
holds_of : (n place : ℕ) (places : List ℕ) → All (λ (q : ℕ). q < n) places → has_place place places ≡ true → place < n
holds_of n place [] h e = absurd (true≢false (sym e))
holds_of n place (q ∷ qs) h e = by (q == place) refl e (holds_of n place qs (All-tail (λ (x : ℕ). x < n) q qs h))
  where
    by : (b : Bool) → (q == place) ≡ b → (b || has_place place qs) ≡ true → (has_place place qs ≡ true → place < n) → place < n
    by true k _ f = subst (λ (x : ℕ). x < n) (same_place q place k) (All-head (λ (x : ℕ). x < n) q qs h)
    by false _ k f = f k

-- a line at one of the places is among the lines at the places
among : (p : RuleLine → Bool) (lines : List RuleLine) (place : ℕ) (line : RuleLine) (places : List ℕ) → has_place place places ≡ true → slice_get lines place ≡ Some line → p line ≡ true → list_any p (lines_at lines places) ≡ true
among p lines place line [] h e s = absurd (true≢false (sym h))
among p lines place line (q ∷ qs) h e s = by (q == place) refl h (λ (k : has_place place qs ≡ true). among p lines place line qs k e s)
  where
    push : (o : Option RuleLine) → list_any p (lines_at lines qs) ≡ true → list_any p (cons_option o (lines_at lines qs)) ≡ true
    push None k = k
    push (Some l) k = or_right (p l) (list_any p (lines_at lines qs)) k

    by : (b : Bool) → (q == place) ≡ b → (b || has_place place qs) ≡ true → (has_place place qs ≡ true → list_any p (lines_at lines qs) ≡ true)
        → list_any p (cons_option (slice_get lines q) (lines_at lines qs)) ≡ true
    by true k _ f = rw (ap (slice_get lines) (same_place q place k) ∙ e, s) refl
    by false _ k f = push (slice_get lines q) (f k)

-- a name leads to one of the lines
pub led_within : (lines : List RuleLine) (places : List ℕ) (printed : List Printed) (print place : ℕ) → AreThere lines places → IsPermutation (printed_of lines places) printed
    → list_any (is_entry print place) printed ≡ true → place < length lines
led_within lines places printed print place there same h =
    holds_of (length lines) place places there (leads_there lines print place places (list_any-IsPermutation (is_entry print place) (printed_of lines places) printed same ∙ h))

pub led_to : (p : RuleLine → Bool) (lines : List RuleLine) (places : List ℕ) (printed : List Printed) (print place : ℕ) (line : RuleLine) → IsPermutation (printed_of lines places) printed
    → list_any (is_entry print place) printed ≡ true → slice_get lines place ≡ Some line → p line ≡ true → list_any p (lines_at lines places) ≡ true
led_to p lines places printed print place line same h e s =
    among p lines place line places (leads_there lines print place places (list_any-IsPermutation (is_entry print place) (printed_of lines places) printed same ∙ h)) e s

-- a line that names no group is passed over
pub grouped_passed : (line : RuleLine) (rest whole : List RuleLine) → names_group line.who ≡ false → whole ≡ line ∷ rest → grouped_of rest ≡ grouped_of whole
grouped_passed line rest whole silent e = rw (e, silent) refl

-- a line that names one is kept
pub grouped_more : (lines : List RuleLine) (grouped : List ℕ) (place : ℕ) (line : RuleLine) (rest whole : List RuleLine) → names_group line.who ≡ true → whole ≡ line ∷ rest
    → slice_get lines place ≡ Some line → lines_at lines (grouped ++ place ∷ []) ++ grouped_of rest ≡ lines_at lines grouped ++ grouped_of whole
grouped_more lines grouped place line rest whole speaks e here =
    rw (e, speaks, filter_map-append (slice_get lines) grouped (place ∷ []), here) (append_assoc (lines_at lines grouped) (line ∷ []) (grouped_of rest))

-- a line without a print adds none
pub printed_passed : (lines : List RuleLine) (places : List ℕ) (i : ℕ) (line : RuleLine) → i < length places → slice_get lines (get_or places i 0) ≡ Some line → print_of line.who ≡ None
    → printed_of lines (drop (i + 1) places) ≡ printed_of lines (drop i places)
printed_passed lines places i line lt here silent = rw (drop_more places i 0 lt, here, silent) refl

-- and one with a print adds it with its place
pub printed_more : (lines : List RuleLine) (places : List ℕ) (i : ℕ) (line : RuleLine) (entries : List Printed) (print : ℕ) → i < length places → slice_get lines (get_or places i 0) ≡ Some line
    → print_of line.who ≡ Some print
    → (entries ++ record { print = print; place = get_or places i 0 } ∷ []) ++ printed_of lines (drop (i + 1) places) ≡ entries ++ printed_of lines (drop i places)
printed_more lines places i line entries print lt here speaks =
    rw (drop_more places i 0 lt, here, speaks) (append_assoc entries (record { print = print; place = get_or places i 0 } ∷ []) (printed_of lines (drop (i + 1) places)))

pub print_of-group : (who : Who) → is_group who.kind ≡ true → print_of (Some who) ≡ None
print_of-group who e = rw e refl

pub print_of-other : (who : Who) → is_group who.kind ≡ false → print_of (Some who) ≡ Some (name_print who.name)
print_of-other who e = rw e refl

-- what is kept is as good as the lines, where both were read
pub kept_groups : (lines read : List RuleLine) (places grouped kept : List ℕ) → read ≡ lines → kept ≡ grouped → lines_at lines grouped ≡ grouped_of (lines_at lines places)
    → lines_at read kept ≡ grouped_of (lines_at lines places)
kept_groups lines read places grouped kept e f h = ap (λ (ls : List RuleLine). lines_at ls kept) e ∙ ap (lines_at lines) f ∙ h
