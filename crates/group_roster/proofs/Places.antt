-- A search among entries that stand in the order of their prints.
use Rattle.std.proofs.Common.{◌≡◌, ℕ, ◌==◌, ◌<◌, true, false, List, length, get_or, Ok, Err, sym, ap, subst, ◌∙◌, arith}
use Rattle.std.proofs.lemmas.Bool.Decides.{nat_tests}
use Rattle.std.proofs.lemmas.Cmp.{nat_cmp_total}
use Rattle.std.proofs.lemmas.List.Folds.{list_any_at, list_any_none}
use Rattle.std.proofs.lemmas.List.Sorted.{searchable_from_sorted}
use Rattle.std.specs.List.{list_any}
use Rattle.std.specs.List.Sorted.{IsBinarySearchResult}
use Rattle.std.specs.Ordering.{is_eq, nat_cmp}
use Rattle.std.specs.declared.cmp.Ordering.TheVariants.{Equal}
use Rattle.std.proofs.lemmas.Bool.{and_from}
use Rattle.group_roster.specs.Printed.{AreInOrder, is_entry}
use Rattle.group_roster.specs.declared.prints.Printed.{Printed}
use Rattle.group_roster.proofs.Rosters.{not_at}

same_number : (a b : ℕ) → nat_cmp a b ≡ Equal → (a == b) ≡ true
same_number a b e = grind (arith, nat_tests)

other_number : (a b : ℕ) → is_eq (nat_cmp a b) ≡ false → (a == b) ≡ false
other_number a b e = grind (arith, nat_tests)

itself : (n : ℕ) → (n == n) ≡ true
itself n = grind (arith, nat_tests)

-- what was found leads to its place
pub found_entry : (xs : List Printed) (print i : ℕ) (e : Printed) → i < length xs → IsBinarySearchResult (λ (x : Printed). nat_cmp x.print print) xs (Ok i) → e ≡ get_or xs i e
    → list_any (is_entry print e.place) xs ≡ true
found_entry xs print i e within equal is =
    list_any_at (is_entry print e.place) xs i e within
    (rw (sym is) (and_from (e.print == print) (e.place == e.place) (same_number e.print print (ap (λ (x : Printed). nat_cmp x.print print) is ∙ equal e)) (itself e.place)))

-- and where none was found none has the print
pub no_entry : (xs : List Printed) (print i : ℕ) → AreInOrder xs → IsBinarySearchResult (λ (x : Printed). nat_cmp x.print print) xs (Err i) → list_any (λ (x : Printed). x.print == print) xs ≡ false
no_entry xs print i sorted result =
    let parts = result (searchable_from_sorted nat_cmp_total (λ (x : Printed). x.print) xs print sorted) in
    list_any_none (λ (x : Printed). x.print == print) xs
    (λ k d within. other_number (get_or xs k d).print print (not_at (λ (x : Printed). nat_cmp x.print print) xs i parts k d within))

-- the same, where the entries were read
pub found_entry_as : (items seen read : List Printed) (print i : ℕ) (e : Printed) → read ≡ items → items ≡ seen
    → i < length read → IsBinarySearchResult (λ (x : Printed). nat_cmp x.print print) read (Ok i) → e ≡ get_or items i e → list_any (is_entry print e.place) seen ≡ true
found_entry_as items seen read print i e r v within equal is =
    ap (list_any (is_entry print e.place)) (sym v)
    ∙ found_entry items print i e (subst (λ (es : List Printed). i < length es) r within) (subst (λ (es : List Printed). IsBinarySearchResult (λ (x : Printed). nat_cmp x.print print) es (Ok i)) r equal) is

pub no_entry_as : (items seen read : List Printed) (print i : ℕ) → read ≡ items → items ≡ seen
    → AreInOrder items → IsBinarySearchResult (λ (x : Printed). nat_cmp x.print print) read (Err i) → list_any (λ (x : Printed). x.print == print) seen ≡ false
no_entry_as items seen read print i r v sorted result =
    ap (list_any (λ (x : Printed). x.print == print)) (sym v)
    ∙ no_entry items print i sorted (subst (λ (es : List Printed). IsBinarySearchResult (λ (x : Printed). nat_cmp x.print print) es (Err i)) r result)
