-- What a user of the rows cites: of lists of seats, and of holders whom a timeout takes their seats.
use Rattle.std.proofs.Common.{◌≡◌, ℕ, ◌+◌, ◌-◌, ◌<◌, ◌≤◌, Bool, true, false, List, [], ◌∷◌, Some, filter, refl, ap, ◌∙◌, arith, ltb}
use Rattle.std.specs.List.{count_by, list_all}
use Rattle.std.proofs.lemmas.Bool.{eqb-true, ltb-true, ltb-false, lt-ltb, le-ltb}
use Rattle.options_machine.specs.declared.rows.Holder.{Holder}
use Rattle.options_machine.specs.State.{is_holder}
use Rattle.options_machine.specs.Settle.{in_time}
use Rattle.options_machine.specs.Law.{are_in_order}
use Rattle.options_machine.proofs.Counts.{and_left, and_right, count-cons}
use Rattle.seat_rows.specs.Seats.{IsSeatList, SeatList}

-- each party has one seat at most

none_step : (party : ℕ) (g : Holder) (gs : List Holder) (b : Bool) → is_holder party g ≡ b → party < g.party → count_by (is_holder party) gs ≡ 0 → count_by (is_holder party) (g ∷ gs) ≡ 0
none_step party g gs true e more rest = absurd (omega (arith, more, eqb-true g.party party e))
none_step party g gs false e more rest = let same : count_by (is_holder party) (g ∷ gs) ≡ 0 + count_by (is_holder party) gs = count-cons (is_holder party) g gs ∙ rw e refl in omega (arith, same, rest)

none_above : (party : ℕ) (hs : List Holder) → list_all (λ (g : Holder). ltb party g.party) hs ≡ true → count_by (is_holder party) hs ≡ 0
none_above party [] e = refl
none_above party (g ∷ gs) e =
    none_step party g gs (is_holder party g) refl (ltb-true party g.party (and_left (ltb party g.party) (list_all (λ (x : Holder). ltb party x.party) gs) e))
    (none_above party gs (and_right (ltb party g.party) (list_all (λ (x : Holder). ltb party x.party) gs) e))

one_step : (party : ℕ) (g : Holder) (gs : List Holder) (b : Bool) → is_holder party g ≡ b → list_all (λ (x : Holder). ltb g.party x.party) gs ≡ true → count_by (is_holder party) gs ≤ 1 → count_by (is_holder party) (g ∷ gs) ≤ 1
one_step party g gs true e above rest =
    let none : count_by (is_holder g.party) gs ≡ 0 = none_above g.party gs above in
    let same : count_by (is_holder g.party) gs ≡ count_by (is_holder party) gs = ap (λ (n : ℕ). count_by (is_holder n) gs) (eqb-true g.party party e) in
    let one : count_by (is_holder party) (g ∷ gs) ≡ 1 + count_by (is_holder party) gs = count-cons (is_holder party) g gs ∙ rw e refl in
    omega (arith, one, same, none)
one_step party g gs false e above rest = let same : count_by (is_holder party) (g ∷ gs) ≡ 0 + count_by (is_holder party) gs = count-cons (is_holder party) g gs ∙ rw e refl in omega (arith, same, rest)

one_at_most : (party : ℕ) (hs : List Holder) → are_in_order hs ≡ true → count_by (is_holder party) hs ≤ 1
one_at_most party [] e = omega arith
one_at_most party (g ∷ gs) e =
    one_step party g gs (is_holder party g) refl (and_left (list_all (λ (x : Holder). ltb g.party x.party) gs) (are_in_order gs) e)
    (one_at_most party gs (and_right (list_all (λ (x : Holder). ltb g.party x.party) gs) (are_in_order gs) e))

pub single : (s : SeatList) (party : ℕ) → IsSeatList s → count_by (is_holder party) s.holders ≤ 1
single s party k = one_at_most party s.holders k.in_order

-- who is silent for a timeout was not heard after the moment that lies so far back

late_cases : (now t beat : ℕ) (b : Bool) → ltb (now - t) beat ≡ b → 0 < t → t ≤ now → ltb (now - beat) t ≡ ltb (now - t) beat
late_cases now t beat true e some back = let less : now - t < beat = ltb-true (now - t) beat e in rw e (lt-ltb (now - beat) t (omega (arith, less, some, back)))
late_cases now t beat false e some back = let more : beat ≤ now - t = ltb-false (now - t) beat e in rw e (le-ltb (now - beat) t (omega (arith, more, some, back)))

filter_step : (p q : Holder → Bool) (h : Holder) (hs : List Holder) (b : Bool) → q h ≡ b → p h ≡ q h → filter p hs ≡ filter q hs → filter p (h ∷ hs) ≡ filter q (h ∷ hs)
filter_step p q h hs true e same rest = let also : p h ≡ true = same ∙ e in rw (also, e) (ap (λ (xs : List Holder). h ∷ xs) rest)
filter_step p q h hs false e same rest = let also : p h ≡ false = same ∙ e in rw (also, e) rest

filter_as : (p q : Holder → Bool) (hs : List Holder) → ((h : Holder) → p h ≡ q h) → filter p hs ≡ filter q hs
filter_as p q [] same = refl
filter_as p q (h ∷ hs) same = filter_step p q h hs (q h) refl (same h) (filter_as p q hs same)

kept_all : (t now : ℕ) (hs : List Holder) → now < t → filter (λ (h : Holder). ltb (now - h.beat) t) hs ≡ hs
kept_all t now [] early = refl
kept_all t now (h ∷ hs) early = rw (lt-ltb (now - h.beat) t (omega (arith, early))) (ap (λ (xs : List Holder). h ∷ xs) (kept_all t now hs early))

-- before the timeout is over for the first time, nobody is silent
pub timed_early : (t now : ℕ) (hs : List Holder) → now < t → in_time (Some t) now hs ≡ hs
timed_early t now hs early = kept_all t now hs early
