use Rattle.std.proofs.Common.{◌≡◌, ℕ, suc, ◌+◌, ◌<◌, Bool, true, false, ◌&&◌, ◌||◌, not, cond, List, [], ◌∷◌, ◌++◌, length, get_or, drop, append_assoc, drop-cons, Option, Some, slice_get, unwrap_or, Result, Ok, Err, is_ok, inl, inr, refl, sym, ap, subst, ◌∙◌, arith, zero-add, true≢false}
use denote.Param.Members.{Mut}
use denote.Ref.{Bor}
use Rattle.std.proofs.lemmas.Bool.{cases_order}
use Rattle.std.proofs.lemmas.Cmp.{nat_cmp_total, nat_list_cmp_total, nat_list_eq_equiv, on_total, then_total, tied_itself}
use Rattle.std.proofs.lemmas.Fn.{always_returns_same}
use Rattle.std.proofs.lemmas.List.Folds.{list_any-append, list_any_at, list_any_none}
use Rattle.std.proofs.lemmas.List.Sorted.{list_any-IsPermutation, ranks_by, searchable_from_sorted}
use Rattle.std.proofs.lemmas.Map.Text.{is_eq-slice_cmp}
use Rattle.std.specs.Cmp.{IsStrictWeakOrder, IsTotalOrder, bool_cmp_total}
use Rattle.std.specs.Cmp.Lexicographic.{bytes_decides, slice_cmp}
use Rattle.std.specs.Fn.{Called, ComparesAs}
use Rattle.std.specs.List.{list_any}
use Rattle.std.specs.List.Sorted.{IsBinarySearchResult, IsNonDecreasingBy, IsPartitionPoint, IsPermutation, IsSearchInRange, IsSortedBy}
use Rattle.std.specs.Ordering.{bool_cmp, is_eq, is_lt, nat_cmp, ordering_index, ordering_then}
use Rattle.std.specs.declared.cmp.Ordering.{Ordering}
use Rattle.std.specs.declared.cmp.Ordering.TheVariants.{Less, Equal, Greater}
use Rattle.lic_types.specs.Groups.{GroupLine, same_name}
use Rattle.group_roster.specs.Listings.{ListingOf, group_print, listing_cmp, member_listing, print_after, print_of}
use Rattle.group_roster.specs.Rosters.{IsInOrder, listing_at, listing_in, lists, memberships, memberships_of}
use Rattle.group_roster.specs.declared.roster.Membership.{Membership}

pub listing_total : IsTotalOrder listing_cmp
listing_total =
    then_total (on_total (λ (l : ListingOf). l.print) nat_cmp_total)
    (then_total (on_total (λ (l : ListingOf). l.member) nat_list_cmp_total) (then_total (on_total (λ (l : ListingOf). l.of_hosts) bool_cmp_total) (on_total (λ (l : ListingOf). l.group) nat_list_cmp_total)))

is_eq-then : (o p : Ordering) → is_eq (ordering_then o p) ≡ (is_eq o && is_eq p)
is_eq-then Less p = refl
is_eq-then Equal p = refl
is_eq-then Greater p = refl

and_left : (a b : Bool) → (a && b) ≡ true → a ≡ true
and_left true b h = refl
and_left false b h = h

and_right : (a b : Bool) → (a && b) ≡ true → b ≡ true
and_right true b h = h
and_right false b h = absurd (true≢false (sym h))

none_of : (b : Bool) → false ≡ (b && false)
none_of true = refl
none_of false = refl

one_more : (a b c : Bool) → ((a && b) || (b && c)) ≡ (b && (a || c))
one_more true true c = refl
one_more true false c = refl
one_more false true c = refl
one_more false false c = refl

same_kind : (a b : Bool) → is_eq (bool_cmp a b) ≡ true → a ≡ b
same_kind true true e = refl
same_kind true false e = absurd (true≢false (sym e))
same_kind false true e = absurd (true≢false (sym e))
same_kind false false e = refl

-- where the same is named the prints are the same, so they needn't be compared
needless : (a b : ℕ) (same : Bool) → (same ≡ true → a ≡ b) → (is_eq (nat_cmp a b) && same) ≡ same
needless a b true h = subst (λ (x : ℕ). (is_eq (nat_cmp a x) && true) ≡ true) (h refl) (ap (λ (o : Ordering). is_eq o && true) (tied_itself nat_cmp_total a))
needless a b false h = sym (none_of (is_eq (nat_cmp a b)))

-- the memberships that say a member of a group
module _ (groups : List GroupLine) (h : Bool) (name member : List ℕ) where
  abbrev says : Membership → Bool
  says m = is_eq (listing_cmp (listing_at groups m) (member_listing h name member))

  -- whether a line is of the group: a GROUP line of the name, or, where h, a HOST_GROUP line
  abbrev is_of : GroupLine → Bool
  is_of g = is_eq (bool_cmp g.of_hosts h) && same_name g.name name

  of_kind : (b k n l : Bool) → ((is_eq (bool_cmp k b) && n) && l) ≡ cond b ((k && n) && l) ((not k && n) && l)
  of_kind true true n l = refl
  of_kind true false n l = refl
  of_kind false true n l = refl
  of_kind false false n l = refl

  as_cases : (b : Bool) (g : GroupLine) → cond b ((g.of_hosts && same_name g.name name) && list_any (same_name member) g.members) ((not g.of_hosts && same_name g.name name) && list_any (same_name member) g.members) ≡ lists b name member g
  as_cases true g = refl
  as_cases false g = refl

  is_listed : (g : GroupLine) → (is_of g && list_any (same_name member) g.members) ≡ lists h name member g
  is_listed g = of_kind h g.of_hosts (same_name g.name name) (list_any (same_name member) g.members) ∙ as_cases h g

  same_names : (m : List ℕ) (g : GroupLine) → is_eq (ordering_then (slice_cmp nat_cmp m member) (ordering_then (bool_cmp g.of_hosts h) (slice_cmp nat_cmp g.name name))) ≡ (same_name member m && is_of g)
  same_names m g =
      is_eq-then (slice_cmp nat_cmp m member) (ordering_then (bool_cmp g.of_hosts h) (slice_cmp nat_cmp g.name name))
      ∙ ap (λ (b : Bool). b && is_eq (ordering_then (bool_cmp g.of_hosts h) (slice_cmp nat_cmp g.name name))) (is_eq-slice_cmp m member ∙ nat_list_eq_equiv.symm m member)
      ∙ ap (λ (b : Bool). same_name member m && b) (is_eq-then (bool_cmp g.of_hosts h) (slice_cmp nat_cmp g.name name))
      ∙ ap (λ (b : Bool). same_name member m && (is_eq (bool_cmp g.of_hosts h) && b)) (is_eq-slice_cmp g.name name)

  same_print : (m : List ℕ) (g : GroupLine) → (same_name member m && is_of g) ≡ true → print_after (group_print g.of_hosts g.name) m ≡ print_of h name member
  same_print m g e =
      let here : is_of g ≡ true = and_right (same_name member m) (is_of g) e in
      let of_member : member ≡ m = (bytes_decides member m).0 (and_left (same_name member m) (is_of g) e) in
      let of_hosts : g.of_hosts ≡ h = same_kind g.of_hosts h (and_left (is_eq (bool_cmp g.of_hosts h)) (same_name g.name name) here) in
      let of_name : g.name ≡ name = (bytes_decides g.name name).0 (and_right (is_eq (bool_cmp g.of_hosts h)) (same_name g.name name) here) in
      ap (print_after (group_print g.of_hosts g.name)) (sym of_member)
      ∙ ap (λ (b : Bool). print_after (group_print b g.name) member) of_hosts
      ∙ ap (λ (n : List ℕ). print_after (group_print h n) member) of_name

  -- a membership that says what is sought
  same_listing : (m : List ℕ) (g : GroupLine)
      → is_eq (listing_cmp (record { print = print_after (group_print g.of_hosts g.name) m; member = m; of_hosts = g.of_hosts; group = g.name }) (member_listing h name member)) ≡ (same_name member m && is_of g)
  same_listing m g =
      is_eq-then (nat_cmp (print_after (group_print g.of_hosts g.name) m) (print_of h name member)) (ordering_then (slice_cmp nat_cmp m member) (ordering_then (bool_cmp g.of_hosts h) (slice_cmp nat_cmp g.name name)))
      ∙ ap (λ (b : Bool). is_eq (nat_cmp (print_after (group_print g.of_hosts g.name) m) (print_of h name member)) && b) (same_names m g)
      ∙ needless (print_after (group_print g.of_hosts g.name) m) (print_of h name member) (same_name member m && is_of g) (same_print m g)

  -- the memberships of a line, from a member on
  of_line : (n : ℕ) (g : GroupLine) → slice_get groups n ≡ Some g → (k : ℕ) (ms : List (List ℕ)) → ((j : ℕ) → slice_get g.members (k + j) ≡ slice_get ms j)
      → list_any says (memberships_of n (group_print g.of_hosts g.name) k ms) ≡ (is_of g && list_any (same_name member) ms)
  of_line n g e k [] f = none_of (is_of g)
  of_line n g e k (m ∷ ms) f =
      let print : ℕ = print_after (group_print g.of_hosts g.name) m in
      let others : Bool = list_any says (memberships_of n (group_print g.of_hosts g.name) (k + 1) ms) in
      let there : slice_get g.members k ≡ Some m = subst (λ (i : ℕ). slice_get g.members i ≡ Some m) {x = k + 0} {y = k} (omega arith) (f 0) in
      let next : (j : ℕ) → slice_get g.members (k + 1 + j) ≡ slice_get ms j = λ j. subst (λ (i : ℕ). slice_get g.members i ≡ slice_get ms j) {x = k + suc j} {y = k + 1 + j} (omega arith) (f (suc j)) in
      ap (λ (o : Option GroupLine). is_eq (listing_cmp (listing_in print k o) (member_listing h name member)) || others) e
      ∙ ap (λ (o : Option (List ℕ)). is_eq (listing_cmp (record { print = print; member = unwrap_or o []; of_hosts = g.of_hosts; group = g.name }) (member_listing h name member)) || others) there
      ∙ ap (λ (b : Bool). b || others) (same_listing m g)
      ∙ ap (λ (b : Bool). (same_name member m && is_of g) || b) (of_line n g e (k + 1) ms next)
      ∙ one_more (same_name member m) (is_of g) (list_any (same_name member) ms)

  -- the memberships of lines, from one on
  of_lines : (n : ℕ) (gs : List GroupLine) → ((j : ℕ) → slice_get groups (n + j) ≡ slice_get gs j) → list_any says (memberships n gs) ≡ list_any (lists h name member) gs
  of_lines n [] f = refl
  of_lines n (g ∷ gs) f =
      let there : slice_get groups n ≡ Some g = subst (λ (i : ℕ). slice_get groups i ≡ Some g) {x = n + 0} {y = n} (omega arith) (f 0) in
      let next : (j : ℕ) → slice_get groups (n + 1 + j) ≡ slice_get gs j = λ j. subst (λ (i : ℕ). slice_get groups i ≡ slice_get gs j) {x = n + suc j} {y = n + 1 + j} (omega arith) (f (suc j)) in
      let whole : (j : ℕ) → slice_get g.members (0 + j) ≡ slice_get g.members j = λ j. ap (slice_get g.members) (zero-add j) in
      list_any-append says (memberships_of n (group_print g.of_hosts g.name) 0 g.members) (memberships (n + 1) gs)
      ∙ ap (λ (b : Bool). b || list_any says (memberships (n + 1) gs)) (of_line n g there 0 g.members whole ∙ is_listed g)
      ∙ ap (λ (b : Bool). lists h name member g || b) (of_lines (n + 1) gs next)

-- all memberships, put in order
pub in_order : (groups : List GroupLine) (all order : List Membership) → all ≡ memberships 0 groups → IsPermutation all order
    → IsSortedBy (λ (a b : Membership). is_lt (listing_cmp (listing_at groups a) (listing_at groups b))) order → IsInOrder groups order
in_order groups all order e same sorted = record {
  all = λ h name member.
      sym (list_any-IsPermutation (says groups h name member) all order same)
      ∙ ap (list_any (says groups h name member)) e
      ∙ of_lines groups h name member 0 groups (λ j. ap (slice_get groups) (zero-add j));
  sorted = sorted;
}

-- the same, where the groups were read through references
pub in_order_as : (groups before after : List GroupLine) (all order : List Membership) → before ≡ groups → after ≡ groups → all ≡ memberships 0 before → IsPermutation all order
    → IsSortedBy (λ (a b : Membership). is_lt (listing_cmp (listing_at after a) (listing_at after b))) order → IsInOrder groups order
in_order_as groups before after all order e f made same sorted =
    in_order groups all order (made ∙ ap (memberships 0) e) same
    (let P : List GroupLine → Type 0 = λ gs. IsSortedBy (λ (a b : Membership). is_lt (listing_cmp (listing_at gs a) (listing_at gs b))) order in subst P f sorted)

pub sorted_as : (groups gs : List GroupLine) (order ms : List Membership) → gs ≡ groups → ms ≡ order → IsInOrder groups order
    → IsSortedBy (λ (a b : Membership). is_lt (listing_cmp (listing_at gs a) (listing_at gs b))) ms
sorted_as groups gs order ms e f h =
    let P : List GroupLine → Type 0 = λ g. IsSortedBy (λ (a b : Membership). is_lt (listing_cmp (listing_at g a) (listing_at g b))) ms in
    let Q : List Membership → Type 0 = λ m. IsSortedBy (λ (a b : Membership). is_lt (listing_cmp (listing_at groups a) (listing_at groups b))) m in
    subst P (sym e) (subst Q (sym f) h.sorted)

pub lists_as : (groups gs seen : List GroupLine) (order ms : List Membership) (l : ListingOf) (h : Bool) (name member : List ℕ) (b : Bool) → gs ≡ groups → ms ≡ order → groups ≡ seen → l ≡ member_listing h name member
    → IsInOrder groups order → b ≡ list_any (λ (m : Membership). is_eq (listing_cmp (listing_at gs m) l)) ms → b ≡ list_any (lists h name member) seen
lists_as groups gs seen order ms l h name member b e f v s kept found =
    found
    ∙ ap (λ (g : List GroupLine). list_any (λ (m : Membership). is_eq (listing_cmp (listing_at g m) l)) ms) e
    ∙ ap (list_any (λ (m : Membership). is_eq (listing_cmp (listing_at groups m) l))) f
    ∙ ap (λ (x : ListingOf). list_any (λ (m : Membership). is_eq (listing_cmp (listing_at groups m) x)) order) s
    ∙ kept.all h name member
    ∙ ap (list_any (lists h name member)) v

-- the memberships of a line from a member on are that one and those after it
pub next_of : (group print k : ℕ) (ms : List (List ℕ)) → k < length ms
    → memberships_of group print k (drop k ms) ≡ record { print = print_after print (get_or ms k []); group = group; member = k } ∷ memberships_of group print (k + 1) (drop (k + 1) ms)
next_of group print k ms h =
    ap (memberships_of group print k) (drop-cons ms k [] h)
    ∙ ap (λ (i : ℕ). record { print = print_after print (get_or ms k []); group = group; member = k } ∷ memberships_of group print (k + 1) (drop i ms)) {x = suc k} {y = k + 1} (omega arith)

pub pushed : {X : Type 0} (old new : List X) (x : X) (start rest whole : List X) → new ≡ old ++ x ∷ [] → start ≡ x ∷ rest → old ++ start ≡ whole → new ++ rest ≡ whole
pushed old new x start rest whole e f h = ap (λ l. l ++ rest) e ∙ append_assoc old (x ∷ []) rest ∙ ap (λ l. old ++ l) (sym f) ∙ h

-- what a sort by this order makes
pub ordered_by : {F : Type 0} {g : Mut F (Bor Membership × (Bor Membership × Unit {0})) Ordering} {f : F} (groups : List GroupLine) (order : List Membership)
    → ((lt : Membership → Membership → Bool) → IsStrictWeakOrder lt → ComparesAs g lt f → IsSortedBy lt order)
    → ((a : Bor Membership × (Bor Membership × Unit {0})) (r : Ordering) (f' : F) → Called g f a r f' → (r ≡ listing_cmp (listing_at groups a.0.now) (listing_at groups a.1.0.now)) × (f' ≡ f))
    → IsSortedBy (λ (a b : Membership). is_lt (listing_cmp (listing_at groups a) (listing_at groups b))) order
ordered_by {g = g} {f = f} groups order up h =
    up (λ a b. is_lt (listing_cmp (listing_at groups a) (listing_at groups b))) (ranks_by listing_total (listing_at groups))
    (always_returns_same g (λ a r. is_lt r ≡ is_lt (listing_cmp (listing_at groups a.0.now) (listing_at groups a.1.0.now))) f (λ a r f' k. (ap is_lt (h a r f' k).0, (h a r f' k).1)))

pub not_at : {X : Type 0} (ord : X → Ordering) (xs : List X) (i : ℕ) → IsPartitionPoint (λ y. ord y ≡ Less) (λ y. ord y ≡ Greater) xs i → (k : ℕ) (d : X) → k < length xs → is_eq (ord (get_or xs k d)) ≡ false
not_at ord xs i parts k d within = elim (cases_order k i) [
  | inl e ↦ ap is_eq (parts.1 k d (omega arith) within)
  | inr apart ↦ elim apart [ inl before ↦ ap is_eq (parts.0 k d (omega arith) before) | inr after ↦ ap is_eq (parts.1 k d (omega arith) within) ]
]

-- what a search answers, where what it compares rises
pub found_so : {X : Type 0} (ord : X → Ordering) (xs : List X) (r : Result ℕ ℕ) → IsSearchInRange r (length xs) → IsBinarySearchResult ord xs r
    → IsNonDecreasingBy (λ y. ordering_index (ord y)) xs → is_ok r ≡ list_any (λ y. is_eq (ord y)) xs
found_so ord [] (Ok i) within result rises = absurd (omega arith)
found_so ord (x ∷ xs) (Ok i) within result rises = sym (list_any_at (λ y. is_eq (ord y)) (x ∷ xs) i x within (ap is_eq (result x)))
found_so ord xs (Err i) within result rises = sym (list_any_none (λ y. is_eq (ord y)) xs (not_at ord xs i (result rises)))

-- a search through what stands in order
pub found_in_order : (groups : List GroupLine) (order : List Membership) (l : ListingOf) (r : Result ℕ ℕ)
    → IsSortedBy (λ (a b : Membership). is_lt (listing_cmp (listing_at groups a) (listing_at groups b))) order
    → IsSearchInRange r (length order) → IsBinarySearchResult (λ (m : Membership). listing_cmp (listing_at groups m) l) order r
    → is_ok r ≡ list_any (λ (m : Membership). is_eq (listing_cmp (listing_at groups m) l)) order
found_in_order groups order l r sorted within result =
    found_so (λ (m : Membership). listing_cmp (listing_at groups m) l) order r within result (searchable_from_sorted listing_total (listing_at groups) order l sorted)
