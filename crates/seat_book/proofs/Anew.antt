use Rattle.std.proofs.Common.{◌≡◌, ℕ, ◌+◌, ◌<◌, ◌≤◌, ◌^◌, Bool, true, false, ◌&&◌, List, [], ◌∷◌, ◌++◌, length, None, Some, map, take, drop, get_or, suc, add-one, drop-cons, refl, ap, sym, ◌∙◌, arith, subst, ltb, leb, eqb, append_assoc, append-nil, length-append, length-take}
use Rattle.std.specs.List.{find, list_all}
use Rattle.std.specs.Option.{option_map}
use Rattle.std.proofs.lemmas.Bool.{eqb-true, eqb-false, eq-eqb, ne_eqb, ltb-true, ltb-false, leb-true, lt-ltb, le-leb}
use Rattle.std.proofs.lemmas.List.Folds.{list_all-append}
use Rattle.std.proofs.lemmas.List.{drop-set-lt, take_more_set}
use Rattle.std.proofs.lemmas.Option.{get_or_from_slice_get, slice_get_past}
use Rattle.std.proofs.Math.ListN.{length-set}
use Rattle.std.specs.Prelude.{slice_get, slice_set}
use Rattle.lic_types.specs.declared.client.Client.{Client}
use Rattle.options_machine.specs.declared.limits.Limit.{Limit}
use Rattle.options_machine.specs.declared.reply.Charge.{Charge}
use Rattle.options_machine.specs.declared.reply.Charge.TheVariants.{Reserve}
use Rattle.options_machine.specs.declared.rows.Holder.{Holder}
use Rattle.options_machine.specs.declared.rows.Lingerer.{Lingerer}
use Rattle.options_machine.specs.Rules.{Rules, applies}
use Rattle.options_machine.specs.State.{State, is_holder, opening, same_charge}
use Rattle.options_machine.specs.Decide.{has_room, number_of_limit}
use Rattle.options_machine.specs.Law.{are_in_order}
use Rattle.options_machine.specs.Step.{holders_anew, lingering_anew, next_charge, reserve_or_open, times}
use Rattle.options_machine.proofs.Counts.{and_left, and_right, count-push}
use Rattle.options_machine.proofs.Keeps.{charges_is, charges_of}
use Rattle.seat_rows.specs.Seats.{charged_if}
use Rattle.seat_counters.specs.Counts.{AreSmall, Counts, counts_with, first_line, has_seat}
use Rattle.seat_counters.proofs.Counted.{counts_are_small, counts_more, seat_is_room}
use Rattle.seat_book.specs.Charges.{AreAnewBelow, AreAnewUpTo, counts_in}

-- the charge that comes next, by the counts

find_step : (p q : Limit → Bool) (m : Limit) (ms : List Limit) (b : Bool) → q m ≡ b → p m ≡ q m → find p ms ≡ find q ms → find p (m ∷ ms) ≡ find q (m ∷ ms)
find_step p q m ms true e same rest = let also : p m ≡ true = same ∙ e in rw (also, e) refl
find_step p q m ms false e same rest = let also : p m ≡ false = same ∙ e in rw (also, e) rest

find_as : (p q : Limit → Bool) → ((m : Limit) → p m ≡ q m) → (ms : List Limit) → find p ms ≡ find q ms
find_as p q same [] = refl
find_as p q same (m ∷ ms) = find_step p q m ms (q m) refl (same m) (find_as p q same ms)

pub next_is : (r : Rules) (hs : List Holder) (ls : List Lingerer) (client : Client) → reserve_or_open (first_line (has_seat r client) r.reserves (counts_in r hs ls).reserves) ≡ next_charge r (charges_of hs ls) client
next_is r hs ls client =
    let s : State = record opening { holders = hs; lingering = ls } in
    ap reserve_or_open (seat_is_room r s client
    ∙ ap (option_map number_of_limit)
    (find_as (has_room r s client) (λ (m : Limit). applies r.groups client m.line && ltb (times (charges_of hs ls) m.line.line) m.number)
    (λ m. ap (λ (n : ℕ). applies r.groups client m.line && ltb n m.number) (sym (charges_is s (Reserve m.line.line)))) r.reserves))

-- one more holder that is charged anew
pub holders_anew-snoc : (r : Rules) (given : List Charge) (hs : List Holder) (h : Holder)
    → holders_anew r given (hs ++ h ∷ []) ≡ holders_anew r given hs ++ (record h { charge = next_charge r (given ++ map (λ (x : Holder). x.charge) (holders_anew r given hs)) h.client }) ∷ []
holders_anew-snoc r given [] h = rw append-nil refl
holders_anew-snoc r given (x ∷ xs) h =
    let c : Charge = next_charge r given x.client in
    ap (λ (ys : List Holder). record x { charge = c } ∷ ys)
    (holders_anew-snoc r (given ++ c ∷ []) xs h
    ∙ ap (λ (cs : List Charge). holders_anew r (given ++ c ∷ []) xs ++ (record h { charge = next_charge r cs h.client }) ∷ []) (append_assoc given (c ∷ []) (map (λ (y : Holder). y.charge) (holders_anew r (given ++ c ∷ []) xs))))

-- parties in order

all_anew : (p : ℕ → Bool) (r : Rules) (given : List Charge) (hs : List Holder) → list_all (λ (h : Holder). p h.party) (holders_anew r given hs) ≡ list_all (λ (h : Holder). p h.party) hs
all_anew p r given [] = refl
all_anew p r given (h ∷ hs) = ap (λ (b : Bool). p h.party && b) (all_anew p r (given ++ next_charge r given h.client ∷ []) hs)

order_behind : (xs ys : List Holder) → are_in_order (xs ++ ys) ≡ true → are_in_order ys ≡ true
order_behind [] ys e = e
order_behind (x ∷ xs) ys e = order_behind xs ys (and_right (list_all (λ (g : Holder). ltb x.party g.party) (xs ++ ys)) (are_in_order (xs ++ ys)) e)

not_below : (x party : ℕ) → x < party → eqb x party ≡ false
not_below x party h = ne_eqb x party (λ e. omega (arith, e, h))

-- those below a party are not of it
find_past : (party : ℕ) (xs ys : List Holder) → list_all (λ (h : Holder). ltb h.party party) xs ≡ true → find (is_holder party) (xs ++ ys) ≡ find (is_holder party) ys
find_past party [] ys e = refl
find_past party (x ∷ xs) ys e =
    let here : ltb x.party party ≡ true = and_left (ltb x.party party) (list_all (λ (h : Holder). ltb h.party party) xs) e in
    rw (not_below x.party party (ltb-true x.party party here)) (find_past party xs ys (and_right (ltb x.party party) (list_all (λ (h : Holder). ltb h.party party) xs) e))

same_below : (party : ℕ) (c : Charge) (xs : List Holder) → list_all (λ (h : Holder). ltb h.party party) xs ≡ true → map (λ (h : Holder). charged_if (is_holder party h) c h) xs ≡ xs
same_below party c [] e = refl
same_below party c (x ∷ xs) e =
    let here : ltb x.party party ≡ true = and_left (ltb x.party party) (list_all (λ (h : Holder). ltb h.party party) xs) e in
    rw (not_below x.party party (ltb-true x.party party here)) (ap (λ (ys : List Holder). x ∷ ys) (same_below party c xs (and_right (ltb x.party party) (list_all (λ (h : Holder). ltb h.party party) xs) e)))

not_above : (x party : ℕ) → party < x → eqb x party ≡ false
not_above x party h = ne_eqb x party (λ e. omega (arith, e, h))

same_above : (party : ℕ) (c : Charge) (xs : List Holder) → list_all (λ (h : Holder). leb (party + 1) h.party) xs ≡ true → map (λ (h : Holder). charged_if (is_holder party h) c h) xs ≡ xs
same_above party c [] e = refl
same_above party c (x ∷ xs) e =
    let here : party + 1 ≤ x.party = leb-true (party + 1) x.party (and_left (leb (party + 1) x.party) (list_all (λ (h : Holder). leb (party + 1) h.party) xs) e) in
    rw (not_above x.party party (omega (arith, here))) (ap (λ (ys : List Holder). x ∷ ys) (same_above party c xs (and_right (leb (party + 1) x.party) (list_all (λ (h : Holder). leb (party + 1) h.party) xs) e)))

none_above : (party : ℕ) (xs : List Holder) → list_all (λ (h : Holder). leb (party + 1) h.party) xs ≡ true → find (is_holder party) xs ≡ None
none_above party [] e = refl
none_above party (x ∷ xs) e =
    let here : party + 1 ≤ x.party = leb-true (party + 1) x.party (and_left (leb (party + 1) x.party) (list_all (λ (h : Holder). leb (party + 1) h.party) xs) e) in
    rw (not_above x.party party (omega (arith, here))) (none_above party xs (and_right (leb (party + 1) x.party) (list_all (λ (h : Holder). leb (party + 1) h.party) xs) e))

below_more : (party : ℕ) (xs : List Holder) → list_all (λ (h : Holder). ltb h.party party) xs ≡ true → list_all (λ (h : Holder). ltb h.party (party + 1)) xs ≡ true
below_more party [] e = refl
below_more party (x ∷ xs) e =
    let here : x.party < party = ltb-true x.party party (and_left (ltb x.party party) (list_all (λ (h : Holder). ltb h.party party) xs) e) in
    rw (lt-ltb x.party (party + 1) (omega (arith, here)), below_more party xs (and_right (ltb x.party party) (list_all (λ (h : Holder). ltb h.party party) xs) e)) refl

above_all : (low high : ℕ) (xs : List Holder) → low ≤ high → list_all (λ (h : Holder). ltb high h.party) xs ≡ true → list_all (λ (h : Holder). leb (low + 1) h.party) xs ≡ true
above_all low high [] h e = refl
above_all low high (x ∷ xs) h e =
    let here : high < x.party = ltb-true high x.party (and_left (ltb high x.party) (list_all (λ (g : Holder). ltb high g.party) xs) e) in
    rw (le-leb (low + 1) x.party (omega (arith, here, h)), above_all low high xs h (and_right (ltb high x.party) (list_all (λ (g : Holder). ltb high g.party) xs) e)) refl

-- the party's seat is the first of those that are left, if it has one

abbrev Heads : ℕ → List Holder → Holder → Type 0
Heads party ys h = (back : List Holder) × (ys ≡ h ∷ back) × (h.party ≡ party) × (list_all (λ (x : Holder). leb (party + 1) x.party) back ≡ true)

heads_step : (party : ℕ) (y : Holder) (ys : List Holder) (h : Holder) (b : Bool) → is_holder party y ≡ b → party ≤ y.party → list_all (λ (x : Holder). ltb y.party x.party) ys ≡ true
    → find (is_holder party) (y ∷ ys) ≡ Some h → Heads party (y ∷ ys) h
heads_step party y ys h true e low above f =
    let found : Some y ≡ Some h = rw e at f in
    let same : y ≡ h = cc in
    let here : y.party ≡ party = eqb-true y.party party e in
    (ys, ap (λ (x : Holder). x ∷ ys) same, ap (λ (x : Holder). x.party) (sym same) ∙ here, above_all party y.party ys low above)
heads_step party y ys h false e low above f =
    let others : find (is_holder party) ys ≡ Some h = rw e at f in
    let none : find (is_holder party) ys ≡ None = none_above party ys (above_all party y.party ys low above) in
    let never : None ≡ Some h = sym none ∙ others in
    absurd (cc)

heads : (party : ℕ) (ys : List Holder) (h : Holder) → are_in_order ys ≡ true → list_all (λ (x : Holder). leb party x.party) ys ≡ true → find (is_holder party) ys ≡ Some h → Heads party ys h
heads party [] h order low f = let never : None ≡ Some h = f in absurd (cc)
heads party (y ∷ ys) h order low f =
    heads_step party y ys h (is_holder party y) refl (leb-true party y.party (and_left (leb party y.party) (list_all (λ (x : Holder). leb party x.party) ys) low))
    (and_left (list_all (λ (g : Holder). ltb y.party g.party) ys) (are_in_order ys) order) f

passed_step : (party : ℕ) (y : Holder) (ys : List Holder) (b : Bool) → is_holder party y ≡ b → party ≤ y.party → find (is_holder party) (y ∷ ys) ≡ None
    → (find (is_holder party) ys ≡ None → list_all (λ (x : Holder). leb (party + 1) x.party) ys ≡ true) → list_all (λ (x : Holder). leb (party + 1) x.party) (y ∷ ys) ≡ true
passed_step party y ys true e low f rest = let never : Some y ≡ None = rw e at f in absurd (cc)
passed_step party y ys false e low f rest =
    let other : y.party ≡ party → ⊥ = eqb-false y.party party e in
    rw (le-leb (party + 1) y.party (omega (arith, other, low)), rest (rw e at f)) refl

passed : (party : ℕ) (ys : List Holder) → list_all (λ (x : Holder). leb party x.party) ys ≡ true → find (is_holder party) ys ≡ None → list_all (λ (x : Holder). leb (party + 1) x.party) ys ≡ true
passed party [] low f = refl
passed party (y ∷ ys) low f =
    passed_step party y ys (is_holder party y) refl (leb-true party y.party (and_left (leb party y.party) (list_all (λ (x : Holder). leb party x.party) ys) low)) f
    (passed party ys (and_right (leb party y.party) (list_all (λ (x : Holder). leb party x.party) ys) low))

all_leb : (xs : List Holder) → list_all (λ (h : Holder). leb 0 h.party) xs ≡ true
all_leb [] = refl
all_leb (x ∷ xs) = rw (le-leb 0 x.party (omega arith), all_leb xs) refl

-- at first none has its charge anew
pub anew_none : (r : Rules) (hs : List Holder) (counts : Counts) → counts ≡ counts_in r [] [] → AreAnewBelow r 0 hs hs counts
anew_none r hs counts e = record { front = []; back = hs; whole = refl; anew = refl; below = refl; behind = all_leb hs; counted = e }

-- a party that has no seat
pub anew_past : (r : Rules) (party : ℕ) (old new : List Holder) (counts : Counts) → AreAnewBelow r party old new counts → find (is_holder party) new ≡ None → AreAnewBelow r (party + 1) old new counts
anew_past r party old new counts a none =
    let below : list_all (λ (h : Holder). ltb h.party party) (holders_anew r [] a.front) ≡ true = all_anew (λ p. ltb p party) r [] a.front ∙ a.below in
    let left : find (is_holder party) a.back ≡ None = sym (find_past party (holders_anew r [] a.front) a.back below) ∙ ap (find (is_holder party)) (sym a.anew) ∙ none in
    record { front = a.front; back = a.back; whole = a.whole; anew = a.anew; below = below_more party a.front a.below; behind = passed party a.back a.behind left; counted = a.counted }

counts_in-snoc : (r : Rules) (hs : List Holder) (h : Holder) → counts_in r (hs ++ h ∷ []) [] ≡ counts_with r h.client h.charge (counts_in r hs [])
counts_in-snoc r hs h =
    counts_more r (record opening { holders = hs }) (record opening { holders = hs ++ h ∷ [] }) h.client h.charge
    (λ c. omega (arith, count-push (λ (x : Holder). same_charge x.charge c) hs h))
    (λ line. omega (arith, count-push (λ (x : Holder). applies r.groups x.client line) hs h))

map_parts : (f : Holder → Holder) (xs ys : List Holder) → map f (xs ++ ys) ≡ map f xs ++ map f ys
map_parts f [] ys = refl
map_parts f (x ∷ xs) ys = ap (λ (zs : List Holder). f x ∷ zs) (map_parts f xs ys)

-- the party's seat is charged anew
pub anew_next : (r : Rules) (party : ℕ) (old new : List Holder) (counts : Counts) (h : Holder) (c : Charge) → AreAnewBelow r party old new counts → are_in_order new ≡ true → find (is_holder party) new ≡ Some h
    → c ≡ reserve_or_open (first_line (has_seat r h.client) r.reserves counts.reserves)
    → AreAnewBelow r (party + 1) old (map (λ (x : Holder). charged_if (is_holder party x) c x) new) (counts_with r h.client c counts)
anew_next r party old new counts h c a order found e =
    let done : List Holder = holders_anew r [] a.front in
    let f : Holder → Holder = λ (x : Holder). charged_if (is_holder party x) c x in
    let below : list_all (λ (x : Holder). ltb x.party party) done ≡ true = all_anew (λ p. ltb p party) r [] a.front ∙ a.below in
    let order_is : are_in_order (done ++ a.back) ≡ true = ap are_in_order (sym a.anew) ∙ order in
    let left : find (is_holder party) a.back ≡ Some h = sym (find_past party done a.back below) ∙ ap (find (is_holder party)) (sym a.anew) ∙ found in
    let (back, first, here, above) = heads party a.back h (order_behind done a.back order_is) a.behind left in
    let charge_is : c ≡ next_charge r (map (λ (x : Holder). x.charge) done) h.client = e ∙ ap (λ (k : Counts). reserve_or_open (first_line (has_seat r h.client) r.reserves k.reserves)) a.counted ∙ next_is r done [] h.client
    ∙ ap (λ (cs : List Charge). next_charge r cs h.client) (append-nil (map (λ (x : Holder). x.charge) done)) in
    let anew_front : holders_anew r [] (a.front ++ h ∷ []) ≡ done ++ (record h { charge = c }) ∷ [] = holders_anew-snoc r [] a.front h ∙ ap (λ (k : Charge). done ++ (record h { charge = k }) ∷ []) (sym charge_is) in
    let is : is_holder party h ≡ true = eq-eqb h.party party here in
    let head : f h ≡ record h { charge = c } = rw is refl in
    let lists : map f new ≡ (done ++ (record h { charge = c }) ∷ []) ++ back =
    ap (map f) (a.anew ∙ ap (λ (ys : List Holder). done ++ ys) first)
    ∙ map_parts f done (h ∷ back)
    ∙ ap (λ (xs : List Holder). xs ++ f h ∷ map f back) (same_below party c done below)
    ∙ ap (λ (x : Holder). done ++ x ∷ map f back) head
    ∙ ap (λ (xs : List Holder). done ++ (record h { charge = c }) ∷ xs) (same_above party c back above)
    ∙ sym (append_assoc done ((record h { charge = c }) ∷ []) back) in
    record {
      front = a.front ++ h ∷ [];
      back = back;
      whole = a.whole ∙ ap (λ (ys : List Holder). a.front ++ ys) first ∙ sym (append_assoc a.front (h ∷ []) back);
      anew = lists ∙ ap (λ (xs : List Holder). xs ++ back) (sym anew_front);
      below = list_all-append (λ (x : Holder). ltb x.party (party + 1)) a.front (h ∷ []) ∙ rw (below_more party a.front a.below, lt-ltb h.party (party + 1) (omega (arith, here))) refl;
      behind = above;
      counted = ap (counts_with r h.client c) a.counted ∙ sym (counts_in-snoc r done (record h { charge = c })) ∙ ap (λ (xs : List Holder). counts_in r xs []) (sym anew_front);
    }

pub length_anew : (r : Rules) (given : List Charge) (hs : List Holder) → length (holders_anew r given hs) ≡ length hs
length_anew r given [] = refl
length_anew r given (h ∷ hs) = omega (arith, length_anew r (given ++ next_charge r given h.client ∷ []) hs)

-- as long as there are few holders, each count may go up by one
pub anew_small : (r : Rules) (party : ℕ) (old new : List Holder) (counts : Counts) → AreAnewBelow r party old new counts → length old ≤ 256 → AreSmall counts
anew_small r party old new counts a few =
    let done : List Holder = holders_anew r [] a.front in
    let most : length done ≤ 256 = omega (arith, few, ap length a.whole, length-append a.front a.back, length_anew r [] a.front) in
    subst AreSmall (sym a.counted) (counts_are_small r (record opening { holders = done }) (omega (arith, most)))

none_inside : (n : ℕ) (xs : List Holder) → list_all (λ (h : Holder). ltb h.party n) xs ≡ true → list_all (λ (h : Holder). leb n h.party) xs ≡ true → xs ≡ []
none_inside n [] e f = refl
none_inside n (x ∷ xs) e f =
    let low : x.party < n = ltb-true x.party n (and_left (ltb x.party n) (list_all (λ (h : Holder). ltb h.party n) xs) e) in
    let high : n ≤ x.party = leb-true n x.party (and_left (leb n x.party) (list_all (λ (h : Holder). leb n h.party) xs) f) in
    absurd (omega (arith, low, high))

-- behind the last party all have their charges anew
pub anew_all : (r : Rules) (n : ℕ) (old new : List Holder) (counts : Counts) → AreAnewBelow r n old new counts → list_all (λ (h : Holder). ltb h.party n) old ≡ true
    → (new ≡ holders_anew r [] old) × (counts ≡ counts_in r (holders_anew r [] old) [])
anew_all r n old new counts a inside =
    let both : (list_all (λ (h : Holder). ltb h.party n) a.front && list_all (λ (h : Holder). ltb h.party n) a.back) ≡ true = sym (list_all-append (λ (h : Holder). ltb h.party n) a.front a.back) ∙ ap (list_all (λ (h : Holder). ltb h.party n)) (sym a.whole) ∙ inside in
    let none : a.back ≡ [] = none_inside n a.back (and_right (list_all (λ (h : Holder). ltb h.party n) a.front) (list_all (λ (h : Holder). ltb h.party n) a.back) both) a.behind in
    let all : old ≡ a.front = a.whole ∙ ap (λ (ys : List Holder). a.front ++ ys) none ∙ append-nil a.front in (
      a.anew ∙ ap (λ (ys : List Holder). holders_anew r [] a.front ++ ys) none ∙ append-nil (holders_anew r [] a.front) ∙ ap (holders_anew r []) (sym all),
      a.counted ∙ ap (λ (xs : List Holder). counts_in r (holders_anew r [] xs) []) (sym all),
    )

-- what lingers

linger_snoc : (r : Rules) (hs : List Holder) (ls : List Lingerer) (l : Lingerer) → counts_in r hs (ls ++ l ∷ []) ≡ counts_with r l.client l.charge (counts_in r hs ls)
linger_snoc r hs ls l =
    counts_more r (record opening { holders = hs; lingering = ls }) (record opening { holders = hs; lingering = ls ++ l ∷ [] }) l.client l.charge
    (λ c. omega (arith, count-push (λ (x : Lingerer). same_charge x.charge c) ls l))
    (λ line. omega (arith, count-push (λ (x : Lingerer). applies r.groups x.client line) ls l))

map_lingering : (xs : List Lingerer) (l : Lingerer) → map (λ (x : Lingerer). x.charge) (xs ++ l ∷ []) ≡ map (λ (x : Lingerer). x.charge) xs ++ l.charge ∷ []
map_lingering [] l = refl
map_lingering (x ∷ xs) l = ap (λ (cs : List Charge). x.charge ∷ cs) (map_lingering xs l)

-- the entry at a place is charged anew
pub linger_next : (r : Rules) (at : ℕ) (hs : List Holder) (old new : List Lingerer) (counts : Counts) (l : Lingerer) (c : Charge) → AreAnewUpTo r at hs old new counts → slice_get new at ≡ Some l
    → c ≡ reserve_or_open (first_line (has_seat r l.client) r.reserves counts.reserves)
    → AreAnewUpTo r (at + 1) hs old (slice_set new at (record l { charge = c })) (counts_with r l.client c counts)
linger_next r at hs old new counts l c a here e =
    let within : at < length new = below_length new at l here in
    let head : get_or new at l ≡ l = get_or_from_slice_get new at l l here in
    let one : Lingerer = record l { charge = c } in
    let given : List Charge = charges_of hs (take at new) in
    let charge_is : c ≡ next_charge r given l.client = e ∙ ap (λ (k : Counts). reserve_or_open (first_line (has_seat r l.client) r.reserves k.reserves)) a.counted ∙ next_is r hs (take at new) l.client in
    let rest : drop at new ≡ l ∷ drop (at + 1) new = drop-cons new at l within ∙ ap (λ (x : Lingerer). x ∷ drop (suc at) new) head ∙ ap (λ (n : ℕ). l ∷ drop n new) (sym (add-one at)) in
    let front : take (at + 1) (slice_set new at one) ≡ take at new ++ one ∷ [] = take_more_set new at one within in
    let behind : drop (at + 1) (slice_set new at one) ≡ drop (at + 1) new = drop-set-lt (at + 1) new at one (omega arith) in
    let given_is : charges_of hs (take at new ++ one ∷ []) ≡ given ++ c ∷ [] = ap (λ (cs : List Charge). map (λ (h : Holder). h.charge) hs ++ cs) (map_lingering (take at new) one) ∙ sym (append_assoc (map (λ (h : Holder). h.charge) hs) (map (λ (x : Lingerer). x.charge) (take at new)) (c ∷ [])) in
    record {
      length_stays = length-set new at one ∙ a.length_stays;
      anew =
          ap (λ (ls : List Lingerer). ls ++ lingering_anew r (charges_of hs ls) (drop (at + 1) (slice_set new at one))) front
          ∙ ap (λ (ls : List Lingerer). (take at new ++ one ∷ []) ++ lingering_anew r (charges_of hs (take at new ++ one ∷ [])) ls) behind
          ∙ ap (λ (cs : List Charge). (take at new ++ one ∷ []) ++ lingering_anew r cs (drop (at + 1) new)) given_is
          ∙ append_assoc (take at new) (one ∷ []) (lingering_anew r (given ++ c ∷ []) (drop (at + 1) new))
          ∙ ap (λ (k : Charge). take at new ++ (record l { charge = k }) ∷ lingering_anew r (given ++ k ∷ []) (drop (at + 1) new)) charge_is
          ∙ ap (λ (ls : List Lingerer). take at new ++ lingering_anew r given ls) (sym rest)
          ∙ a.anew;
      counted = ap (counts_with r l.client c) a.counted ∙ sym (linger_snoc r hs (take at new) one) ∙ ap (counts_in r hs) (sym front);
    }
  where
    below_length : (xs : List Lingerer) (n : ℕ) (x : Lingerer) → slice_get xs n ≡ Some x → n < length xs
    below_length xs n x f = by (ltb n (length xs)) refl
      where
        by : (b : Bool) → ltb n (length xs) ≡ b → n < length xs
        by true g = ltb-true n (length xs) g
        by false g = let never : None ≡ Some x = sym (slice_get_past xs n (ltb-false n (length xs) g)) ∙ f in absurd (cc)

-- while an entry is left, each count may go up by one
pub linger_small : (r : Rules) (at : ℕ) (hs : List Holder) (old new : List Lingerer) (counts : Counts) → AreAnewUpTo r at hs old new counts → at < length new → length hs + length old < 2 ^ 32 → AreSmall counts
linger_small r at hs old new counts a more few =
    let some : length (take at new) ≤ at = omega (arith, length-take at new) in
    subst AreSmall (sym a.counted) (counts_are_small r (record opening { holders = hs; lingering = take at new }) (omega (arith, some, more, few, a.length_stays)))
