use Rattle.std.proofs.Common.{◌≡◌, ℕ, ◌+◌, ◌≤◌, Bool, true, false, cond, List, [], ◌∷◌, ◌++◌, None, Some, filter, refl, ◌∙◌, arith, subst, not}
use Rattle.std.specs.List.{count_by, find}
use Rattle.lic_types.specs.declared.client.Client.{Client}
use Rattle.lic_types.specs.declared.client.RuleLine.{RuleLine}
use Rattle.options_machine.specs.declared.reply.Charge.{Charge}
use Rattle.options_machine.specs.declared.rows.Holder.{Holder}
use Rattle.options_machine.specs.declared.rows.Lingerer.{Lingerer}
use Rattle.options_machine.specs.Rules.{Rules, applies}
use Rattle.options_machine.specs.State.{State, is_holder, same_charge}
use Rattle.options_machine.specs.Decide.{is_left_by}
use Rattle.options_machine.specs.Settle.{with_seat, with_seat_again}
use Rattle.options_machine.specs.Apply.{told_if, with_lingerer, with_told, without_holder}
use Rattle.options_machine.proofs.Counts.{count-cons, count-map, count-push, count-with_holder, count-without_first, find_passes}
use Rattle.options_machine.proofs.Keeps.{LingersFor, charges-reseated, charges-seated}
use Rattle.options_machine.proofs.Served.{client_eq}
use Rattle.options_machine.proofs.Steps.{charges-told}
use Rattle.seat_counters.specs.Counts.{counts_of, counts_with, counts_without}
use Rattle.seat_counters.proofs.Counted.{counts_equal, counts_less, counts_more}

-- a seat more
pub counts_of-with_seat : (r : Rules) (s : State) (party : ℕ) (client : Client) (charge : Charge) (told : Bool) → counts_of r (with_seat s party client charge told) ≡ counts_with r client charge (counts_of r s)
counts_of-with_seat r s party client charge told =
    counts_more r s (with_seat s party client charge told) client charge (λ c. charges-seated s party client charge told c)
    (λ line. omega (arith, count-with_holder (λ (h : Holder). applies r.groups h.client line) (record { party = party; client = client; charge = charge; beat = s.now; told = told }) s.holders))

told_client : (r : Rules) (line : RuleLine) (b : Bool) (now : ℕ) (h : Holder) → applies r.groups (told_if b now h).client line ≡ applies r.groups h.client line
told_client r line true now h = refl
told_client r line false now h = refl

-- telling a party changes no count
pub counts_of-with_told : (r : Rules) (s : State) (party : ℕ) → counts_of r (with_told s party) ≡ counts_of r s
counts_of-with_told r s party =
    counts_equal r s (with_told s party) (λ c. charges-told s party c)
    (λ line. omega (arith, count-map (λ (h : Holder). applies r.groups h.client line) (λ (h : Holder). told_if (is_holder party h) s.now h) (λ h. told_client r line (is_holder party h) s.now h) s.holders))

-- a seat that is taken again counts as before
pub counts_of-with_seat_again : (r : Rules) (s : State) (party : ℕ) (client : Client) (charge : Charge) (told : Bool) → LingersFor s client charge → counts_of r (with_seat_again s party client charge told) ≡ counts_of r s
counts_of-with_seat_again r s party client charge told (l, e, f) =
    let same : l.client ≡ client = client_eq l.client client (find_passes (is_left_by client) s.lingering l e) in
    counts_equal r s (with_seat_again s party client charge told) (λ c. charges-reseated s party client charge told c (l, e, f))
    (λ line.
    let more : _ ≡ _ = count-with_holder (λ (x : Holder). applies r.groups x.client line) (record { party = party; client = client; charge = charge; beat = s.now; told = told }) s.holders in
    let less : _ ≡ _ = rw same at (count-without_first (λ (x : Lingerer). applies r.groups x.client line) (is_left_by client) s.lingering l e) in
    omega (arith, more, less))

-- a seat less

none_goes_step : (q p : Holder → Bool) (x : Holder) (xs : List Holder) (b : Bool) → p x ≡ b → count_by p (x ∷ xs) ≡ 0 → (count_by p xs ≡ 0 → count_by q (filter (λ z. not (p z)) xs) ≡ count_by q xs)
    → count_by q (filter (λ z. not (p z)) (x ∷ xs)) ≡ count_by q (x ∷ xs)
none_goes_step q p x xs true g e rest = let one : count_by p (x ∷ xs) ≡ 1 + count_by p xs = count-cons p x xs ∙ rw g refl in absurd (omega (arith, one, e))
none_goes_step q p x xs false g e rest =
    let zero : count_by p (x ∷ xs) ≡ 0 + count_by p xs = count-cons p x xs ∙ rw g refl in
    let more : count_by q (filter (λ z. not (p z)) xs) ≡ count_by q xs = rest (omega (arith, zero, e)) in
    rw g (omega (arith, more, count-cons q x xs, count-cons q x (filter (λ z. not (p z)) xs)))

none_goes : (q p : Holder → Bool) (xs : List Holder) → count_by p xs ≡ 0 → count_by q (filter (λ z. not (p z)) xs) ≡ count_by q xs
none_goes q p [] e = refl
none_goes q p (x ∷ xs) e = none_goes_step q p x xs (p x) refl e (none_goes q p xs)

one_goes_step : (q p : Holder → Bool) (x : Holder) (xs : List Holder) (y : Holder) (b : Bool) → p x ≡ b → find p (x ∷ xs) ≡ Some y → count_by p (x ∷ xs) ≤ 1
    → (find p xs ≡ Some y → count_by p xs ≤ 1 → count_by q (filter (λ z. not (p z)) xs) + cond (q y) 1 0 ≡ count_by q xs) → (count_by p xs ≡ 0 → count_by q (filter (λ z. not (p z)) xs) ≡ count_by q xs)
    → count_by q (filter (λ z. not (p z)) (x ∷ xs)) + cond (q y) 1 0 ≡ count_by q (x ∷ xs)
one_goes_step q p x xs y true e f one rest none =
    let found : Some x ≡ Some y = rw e at f in
    let same : x ≡ y = cc in
    let first : count_by p (x ∷ xs) ≡ 1 + count_by p xs = count-cons p x xs ∙ rw e refl in
    rw (e, ← same) (omega (arith, count-cons q x xs, none (omega (arith, first, one))))
one_goes_step q p x xs y false e f one rest none =
    let fewer : count_by p (x ∷ xs) ≡ 0 + count_by p xs = count-cons p x xs ∙ rw e refl in
    let more : count_by q (filter (λ z. not (p z)) xs) + cond (q y) 1 0 ≡ count_by q xs = rest (rw e at f) (omega (arith, fewer, one)) in
    rw e (omega (arith, more, count-cons q x xs, count-cons q x (filter (λ z. not (p z)) xs)))

-- without the one that passes there is exactly one less
pub one_goes : (q p : Holder → Bool) (xs : List Holder) (y : Holder) → find p xs ≡ Some y → count_by p xs ≤ 1 → count_by q (filter (λ z. not (p z)) xs) + cond (q y) 1 0 ≡ count_by q xs
one_goes q p [] y e one = let never : None ≡ Some y = e in absurd (cc)
one_goes q p (x ∷ xs) y e one = one_goes_step q p x xs y (p x) refl e one (one_goes q p xs y) (none_goes q p xs)

-- a holder's seat that goes
pub counts_of-without_holder : (r : Rules) (s : State) (party : ℕ) (h : Holder) → find (is_holder party) s.holders ≡ Some h → count_by (is_holder party) s.holders ≤ 1
    → counts_of r (without_holder s party) ≡ counts_without r h.client h.charge (counts_of r s)
counts_of-without_holder r s party h e one =
    counts_less r s (without_holder s party) h.client h.charge
    (λ c. omega (arith, one_goes (λ (x : Holder). same_charge x.charge c) (is_holder party) s.holders h e one))
    (λ line. omega (arith, one_goes (λ (x : Holder). applies r.groups x.client line) (is_holder party) s.holders h e one))

-- a seat that lingers and goes
pub counts_of-lapsed : (r : Rules) (s : State) (ls : List Lingerer) (l : Lingerer) → ((f : Lingerer → Bool) → count_by f ls + cond (f l) 1 0 ≡ count_by f s.lingering)
    → counts_of r (record s { lingering = ls }) ≡ counts_without r l.client l.charge (counts_of r s)
counts_of-lapsed r s ls l e =
    counts_less r s (record s { lingering = ls }) l.client l.charge
    (λ c. omega (arith, e (λ (x : Lingerer). same_charge x.charge c)))
    (λ line. omega (arith, e (λ (x : Lingerer). applies r.groups x.client line)))

-- a holder's seat that is not there any more, by what every test counts
pub counts_of-silent : (r : Rules) (s : State) (hs : List Holder) (h : Holder) → ((f : Holder → Bool) → count_by f hs + cond (f h) 1 0 ≡ count_by f s.holders)
    → counts_of r (record s { holders = hs }) ≡ counts_without r h.client h.charge (counts_of r s)
counts_of-silent r s hs h e =
    counts_less r s (record s { holders = hs }) h.client h.charge
    (λ c. omega (arith, e (λ (x : Holder). same_charge x.charge c)))
    (λ line. omega (arith, e (λ (x : Holder). applies r.groups x.client line)))

-- a seat that lingers counts as before
pub counts_of-with_lingerer : (r : Rules) (s : State) (party : ℕ) (h : Holder) (l : Lingerer) → find (is_holder party) s.holders ≡ Some h → count_by (is_holder party) s.holders ≤ 1 → l.client ≡ h.client → l.charge ≡ h.charge
    → counts_of r (with_lingerer s party l) ≡ counts_of r s
counts_of-with_lingerer r s party h l e one who same =
    counts_equal r s (with_lingerer s party l)
    (λ c.
    let has : Lingerer → Bool = λ (x : Lingerer). same_charge x.charge c in
    let more : count_by has (s.lingering ++ l ∷ []) ≡ count_by has s.lingering + cond (same_charge h.charge c) 1 0 = subst (λ (x : Charge). count_by has (s.lingering ++ l ∷ []) ≡ count_by has s.lingering + cond (same_charge x c) 1 0) same (count-push has s.lingering l) in
    omega (arith, more, one_goes (λ (x : Holder). same_charge x.charge c) (is_holder party) s.holders h e one))
    (λ line.
    let has : Lingerer → Bool = λ (x : Lingerer). applies r.groups x.client line in
    let more : count_by has (s.lingering ++ l ∷ []) ≡ count_by has s.lingering + cond (applies r.groups h.client line) 1 0 = subst (λ (x : Client). count_by has (s.lingering ++ l ∷ []) ≡ count_by has s.lingering + cond (applies r.groups x line) 1 0) who (count-push has s.lingering l) in
    omega (arith, more, one_goes (λ (x : Holder). applies r.groups x.client line) (is_holder party) s.holders h e one))
