-- The marks of names, which are set one after another.
use Rattle.std.proofs.Common.{◌≡◌, ℕ, ◌+◌, ◌<◌, ◌≤◌, ◌%◌, ◌==◌, true, false, List, Option, None, Some, is_some, length, replicate, set, get_or, length-set, sym, ap, subst, ◌∙◌, ⊎_elim, arith}
use Rattle.std.proofs.lemmas.Bool.{cases_eq, true≢false}
use Rattle.std.proofs.lemmas.Bool.Decides.{nat_tests}
use Rattle.std.proofs.lemmas.List.{get_or_default, get_or-set_same, get_or-set_other, length-replicate}
use Rattle.std.proofs.lemmas.List.Folds.{list_any_none}
use Rattle.std.specs.List.{list_any}
use Rattle.group_roster.specs.Listings.{name_print}
use Rattle.group_roster.specs.Printed.{AreMarked, has_print}
use Rattle.group_roster.specs.declared.prints.Printed.{Printed}

-- so many marks, in which those of the first names point somewhere
pub record AreMarkedTo (count : ℕ) (marks : List (Option ℕ)) (names : List Printed) (n : ℕ) : Type 0 where
  pub long : length marks ≡ count
  pub set : (k : ℕ) (d : Printed) → k < n → k < length names → is_some (get_or marks ((get_or names k d).print % count) None) ≡ true

pub marked_none : (count : ℕ) (marks : List (Option ℕ)) (names : List Printed) → marks ≡ replicate count None → AreMarkedTo count marks names 0
marked_none count marks names e = record { long = ap length e ∙ length-replicate count None; set = λ k d before below. absurd (omega (arith, before)) }

pub marked_more : (count : ℕ) (marks : List (Option ℕ)) (names : List Printed) (n at to : ℕ) (x : Printed) → AreMarkedTo count marks names n → at < count → n < length names → at ≡ (get_or names n x).print % count
    → AreMarkedTo count (set marks at (Some to)) names (n + 1)
marked_more count marks names n at to x m within less is = record {
  long = length-set marks at (Some to) ∙ m.long;
  set = λ k d before below. ⊎_elim
      (λ (e : (get_or names k d).print % count ≡ at).
      ap (λ (i : ℕ). is_some (get_or (set marks at (Some to)) i None)) e ∙ ap is_some (get_or-set_same marks at (Some to) None (omega (arith, within, m.long))))
      (λ other.
      let earlier : k < n = ⊎_elim (λ (e : k ≡ n). absurd (other (ap (λ (i : ℕ). (get_or names i d).print % count) e ∙ ap (λ (y : Printed). y.print % count) (get_or_default names n d x less) ∙ sym is))) (λ apart. omega (arith, before, apart)) (cases_eq k n) in
      ap is_some (get_or-set_other marks at ((get_or names k d).print % count) (Some to) None other) ∙ m.set k d earlier below)
      (cases_eq ((get_or names k d).print % count) at);
}

pub marked_all : (count : ℕ) (marks : List (Option ℕ)) (names : List Printed) (n : ℕ) → 0 < count → length names ≤ n → AreMarkedTo count marks names n → AreMarked marks names
marked_all count marks names n some most m = record {
  some = omega (arith, some, m.long);
  set = λ k d below. subst (λ (c : ℕ). is_some (get_or marks ((get_or names k d).print % c) None) ≡ true) (sym m.long) (m.set k d (omega (arith, most, below)) below);
}

other_print : (a b : ℕ) → (a ≡ b → ⊥) → (a == b) ≡ false
other_print a b e = grind (arith, nat_tests)

-- a name whose mark points nowhere is none of theirs
pub unmarked : (marks : List (Option ℕ)) (entries : List Printed) (print : ℕ) → AreMarked marks entries → get_or marks (print % length marks) None ≡ None → list_any (λ (e : Printed). e.print == print) entries ≡ false
unmarked marks entries print m off =
    list_any_none (λ (e : Printed). e.print == print) entries
    (λ k d below. other_print (get_or entries k d).print print
    (λ e. true≢false (sym (m.set k d below) ∙ ap (λ (p : ℕ). is_some (get_or marks (p % length marks) None)) e ∙ ap is_some off)))

-- the same, where the marks, their number and the print were read
pub unmarked_as : (marks : List (Option ℕ)) (entries seen : List Printed) (name : List ℕ) (print count at : ℕ) (mark : Option ℕ) → AreMarked marks entries → entries ≡ seen → print ≡ name_print name → count ≡ length marks
    → at ≡ print % count → at < count → mark ≡ get_or marks at mark → mark ≡ None → has_print name seen ≡ false
unmarked_as marks entries seen name print count at mark m v n all is within read off =
    let there : at < length marks = omega (arith, within, all) in
    let off_here : get_or marks at None ≡ None = get_or_default marks at None mark there ∙ sym read ∙ off in
    let place : at ≡ print % length marks = is ∙ ap (λ (c : ℕ). print % c) all in
    ap (λ (es : List Printed). list_any (λ (e : Printed). e.print == name_print name) es) (sym v)
    ∙ ap (λ (p : ℕ). list_any (λ (e : Printed). e.print == p) entries) (sym n)
    ∙ unmarked marks entries print m (ap (λ (i : ℕ). get_or marks i None) (sym place) ∙ off_here)
