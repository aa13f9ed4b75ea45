-- Holders and their marks, as rows and marks change.
use Rattle.std.proofs.Common.{◌≡◌, ℕ, ◌<◌, ◌≤◌, Bool, true, false, cond, List, [], ◌∷◌, Option, None, Some, length, get_or, set, filter, refl, ap, sym, ◌∙◌, arith, subst, suc, zero, eqb, ltb}
use Rattle.std.specs.List.{count_by}
use Rattle.std.proofs.lemmas.Bool.{eqb-true, eqb-false, leb-false, lt-ltb, ltb-false}
use Rattle.std.proofs.lemmas.List.{get_or-set_same, get_or-set_other}
use Rattle.options_machine.specs.declared.rows.Holder.{Holder}
use Rattle.options_machine.proofs.Counts.{count-cons}
use Rattle.seat_rows.specs.Beats.{due_marks, earlier_mark, has_come}
use Rattle.seat_rows.specs.Rows.{AreMarked, holders_in}
use Rattle.seat_rows.specs.Seats.{is_heard}

-- a mark is no later than a beat that it was noted with
earlier_low : (o : Option ℕ) (beat : ℕ) → earlier_mark o beat ≤ beat
earlier_low None beat = omega arith
earlier_low (Some mark) beat = by (ltb beat mark) refl
  where
    by : (b : Bool) → ltb beat mark ≡ b → cond (ltb beat mark) beat mark ≤ beat
    by true e = rw e (omega arith)
    by false e = rw e (omega (arith, ltb-false beat mark e))

some_is : (a b : Holder) → Some a ≡ Some b → a ≡ b
some_is a b e = let both : Some a ≡ Some b = e in cc

-- the row of a party is set, and its mark with it; those of others stay
marked_by : (rows : List (Option Holder)) (marks : List (Option ℕ)) (at : ℕ) (o : Option Holder) (new : List (Option ℕ)) → at < length rows
    → ((q : ℕ) (g : Holder) → (q ≡ at → ⊥) → get_or rows q None ≡ Some g → (m : ℕ) × (get_or new q None ≡ Some m) × (m ≤ g.beat))
    → ((g : Holder) → o ≡ Some g → (m : ℕ) × (get_or new at None ≡ Some m) × (m ≤ g.beat)) → AreMarked (set rows at o) new
marked_by rows marks at o new less others here q g found = by (eqb q at) refl
  where
    by : (b : Bool) → eqb q at ≡ b → (m : ℕ) × (get_or new q None ≡ Some m) × (m ≤ g.beat)
    by true e =
        let same : q ≡ at = eqb-true q at e in
        let read : o ≡ Some g = sym (get_or-set_same rows at o None less) ∙ subst (λ (n : ℕ). get_or (set rows at o) n None ≡ Some g) same found in
        subst (λ (n : ℕ). (m : ℕ) × (get_or new n None ≡ Some m) × (m ≤ g.beat)) (sym same) (here g read)
    by false e = others q g (eqb-false q at e) (sym (get_or-set_other rows at q o None (eqb-false q at e)) ∙ found)

other_mark : (marks : List (Option ℕ)) (at q : ℕ) (o : Option ℕ) (beat : ℕ) → (q ≡ at → ⊥) → (m : ℕ) × (get_or marks q None ≡ Some m) × (m ≤ beat) → (m : ℕ) × (get_or (set marks at o) q None ≡ Some m) × (m ≤ beat)
other_mark marks at q o beat apart (m, there, low) = (m, get_or-set_other marks at q o None apart ∙ there, low)

-- a beat is noted
pub marked_put : (rows : List (Option Holder)) (marks : List (Option ℕ)) (at : ℕ) (h : Holder) → at < length rows → length marks ≡ length rows → AreMarked rows marks → AreMarked (set rows at (Some h)) (set marks at (Some (earlier_mark (get_or marks at None) h.beat)))
marked_put rows marks at h less long k =
    marked_by rows marks at (Some h) (set marks at (Some (earlier_mark (get_or marks at None) h.beat))) less
    (λ q g apart found. other_mark marks at q (Some (earlier_mark (get_or marks at None) h.beat)) g.beat apart (k q g found))
    (λ g e. (earlier_mark (get_or marks at None) h.beat, get_or-set_same marks at (Some (earlier_mark (get_or marks at None) h.beat)) None (omega (arith, less, long)), subst (λ (x : Holder). earlier_mark (get_or marks at None) h.beat ≤ x.beat) (some_is h g e) (earlier_low (get_or marks at None) h.beat)))

-- a seat goes
pub marked_take : (rows : List (Option Holder)) (marks : List (Option ℕ)) (at : ℕ) → at < length rows → AreMarked rows marks → AreMarked (set rows at None) marks
marked_take rows marks at less k = marked_by rows marks at None marks less (λ q g apart found. k q g found) (λ g e. let never : None ≡ Some g = e in absurd (cc))

-- a seat changes, but for its beat
pub marked_same : (rows : List (Option Holder)) (marks : List (Option ℕ)) (at : ℕ) (g h : Holder) → at < length rows → get_or rows at None ≡ Some g → h.beat ≡ g.beat → AreMarked rows marks → AreMarked (set rows at (Some h)) marks
marked_same rows marks at g h less there beat k =
    marked_by rows marks at (Some h) marks less (λ q x apart found. k q x found) (λ x e. lower x (some_is h x e) (k at g there))
  where
    lower : (x : Holder) → h ≡ x → (m : ℕ) × (get_or marks at None ≡ Some m) × (m ≤ g.beat) → (m : ℕ) × (get_or marks at None ≡ Some m) × (m ≤ x.beat)
    lower x e (m, at_mark, low) = (m, at_mark, subst (λ (y : Holder). m ≤ y.beat) e (omega (arith, low, beat)))

-- the seat that was there is marked at its beat
pub marked_again : (rows : List (Option Holder)) (marks : List (Option ℕ)) (at : ℕ) (h : Holder) → at < length rows → length marks ≡ length rows → get_or rows at None ≡ Some h → AreMarked (set rows at None) marks
    → AreMarked rows (set marks at (Some (earlier_mark (get_or marks at None) h.beat)))
marked_again rows marks at h less long there k q g found = by (eqb q at) refl
  where
    by : (b : Bool) → eqb q at ≡ b → (m : ℕ) × (get_or (set marks at (Some (earlier_mark (get_or marks at None) h.beat))) q None ≡ Some m) × (m ≤ g.beat)
    by true e =
        let same : q ≡ at = eqb-true q at e in
        let own : h ≡ g = some_is h g (sym there ∙ subst (λ (n : ℕ). get_or rows n None ≡ Some g) same found) in
        (earlier_mark (get_or marks at None) h.beat, ap (λ (n : ℕ). get_or (set marks at (Some (earlier_mark (get_or marks at None) h.beat))) n None) same ∙ get_or-set_same marks at (Some (earlier_mark (get_or marks at None) h.beat)) None (omega (arith, less, long)), subst (λ (x : Holder). earlier_mark (get_or marks at None) h.beat ≤ x.beat) own (earlier_low (get_or marks at None) h.beat))
    by false e = other_mark marks at q (Some (earlier_mark (get_or marks at None) h.beat)) g.beat (eqb-false q at e) (k q g (get_or-set_other rows at q None None (eqb-false q at e) ∙ found))

-- where no mark has come, each holder was heard later

abbrev tally : Bool → ℕ
tally b = cond b 1 0

tally_none : (b : Bool) → tally b ≡ 0 → b ≡ false
tally_none true e = absurd (omega (arith, e))
tally_none false e = refl

not_come : (over : ℕ) (marks : List (Option ℕ)) (at m : ℕ) → count_by (has_come over) marks ≡ 0 → get_or marks at None ≡ Some m → over < m
not_come over [] at m none e = let never : None ≡ Some m = e in absurd (cc)
not_come over (o ∷ marks) zero m none e =
    let same : o ≡ Some m = e in
    let none_here : tally (has_come over o) ≡ 0 = omega (arith, none, count-cons (has_come over) o marks) in
    leb-false m over (subst (λ (x : Option ℕ). has_come over x ≡ false) same (tally_none (has_come over o) none_here))
not_come over (o ∷ marks) (suc at) m none e = not_come over marks at m (omega (arith, none, count-cons (has_come over) o marks)) e

later_beat : (over : ℕ) (marks : List (Option ℕ)) (at beat : ℕ) → count_by (has_come over) marks ≡ 0 → (m : ℕ) × (get_or marks at None ≡ Some m) × (m ≤ beat) → over < beat
later_beat over marks at beat none (m, there, low) = let more : over < m = not_come over marks at m none there in omega (arith, more, low)

heard_all : (over : ℕ) (rows : List (Option Holder)) → ((at : ℕ) (h : Holder) → get_or rows at None ≡ Some h → over < h.beat) → filter (is_heard over) (holders_in rows) ≡ holders_in rows
heard_all over [] late = refl
heard_all over (None ∷ rows) late = heard_all over rows (λ at. late (suc at))
heard_all over (Some h ∷ rows) late =
    let rest : filter (is_heard over) (holders_in rows) ≡ holders_in rows = heard_all over rows (λ at. late (suc at)) in
    rw (lt-ltb over h.beat (late 0 h refl)) (ap (λ (hs : List Holder). h ∷ hs) rest)

pub heard_where_none : (over : ℕ) (rows : List (Option Holder)) (marks : List (Option ℕ)) → AreMarked rows marks → due_marks over marks ≡ 0 → filter (is_heard over) (holders_in rows) ≡ holders_in rows
heard_where_none over rows marks k none = heard_all over rows (λ at h e. later_beat over marks at h.beat none (k at h e))
