-- What is kept and seen of rows and marks after each call.
use Rattle.std.proofs.Common.{Bor, ◌≡◌, ℕ, ◌+◌, ◌-◌, ◌<◌, ◌≤◌, Bool, true, false, cond, List, [], Option, None, Some, length, get_or, set, replicate, map, filter, refl, ap, sym, ◌∙◌, arith, subst, suc, zero, not}
use Rattle.std.specs.List.{count_by, find}
use Rattle.std.specs.Prelude.{IfNone, IfSome, is_some}
use Rattle.std.specs.Option.{option_copied, option_map}
use Rattle.std.proofs.lemmas.Bool.{eqb-true, le-ltb}
use Rattle.std.proofs.lemmas.Grind.{common_steps}
use Rattle.options_machine.specs.declared.rows.Holder.{Holder}
use Rattle.options_machine.specs.State.{is_holder}
use Rattle.options_machine.specs.Settle.{with_holder}
use Rattle.options_machine.proofs.Counts.{find_passes}
use Rattle.seat_rows.specs.Beats.{due_marks, earlier_mark}
use Rattle.seat_rows.specs.Rows.{AreKept, AreMarked, are_rows_from, holders_in, seat_list}
use Rattle.seat_rows.specs.Seats.{IsSeatList, SeatList, is_heard}
use Rattle.seat_rows.proofs.Heard.{heard_where_none, marked_put, marked_same, marked_take}
use Rattle.seat_rows.proofs.Rows.{count_in_row, filter_in_row, find_in_row, in_place_none, in_place_some, inside_rows, length_at_most, length_none, length_same, length_set, length_some, map_in_row, map_no_row, no_holders, no_rows, no_seat, order_in_rows, put_in_row, row_at, row_within, set_same, take_in_row}

below_of : (v : SeatList) (rows : List (Option Holder)) (party : ℕ) → seat_list rows ≡ v → party < v.parties → party < length rows
below_of v rows party e within = subst (λ (w : SeatList). party < w.parties) (sym e) within

-- rows with another row show other holders
seen_with : (v : SeatList) (rows : List (Option Holder)) (at : ℕ) (o : Option Holder) (hs : List Holder) → seat_list rows ≡ v → holders_in (set rows at o) ≡ hs → seat_list (set rows at o) ≡ record v { holders = hs }
seen_with v rows at o hs e f =
    ap (λ (n : ℕ). record (seat_list (set rows at o)) { parties = n }) (length_set rows at o ∙ ap (λ (w : SeatList). w.parties) e)
    ∙ ap (λ (xs : List Holder). record v { holders = xs }) f

kept_with : (rows : List (Option Holder)) (held : ℕ) (marks : List (Option ℕ)) (at : ℕ) (o : Option Holder) (number : ℕ) (new : List (Option ℕ)) → AreKept rows held marks → are_rows_from 0 (set rows at o) ≡ true → number ≡ length (holders_in (set rows at o))
    → length new ≡ length marks → AreMarked (set rows at o) new → AreKept (set rows at o) number new
kept_with rows held marks at o number new k place same long marked = record {
  in_place = place;
  few = omega (arith, k.few, length_set rows at o);
  number = same;
  long = long ∙ k.long ∙ sym (length_set rows at o);
  marked = marked;
}

length_noted : (marks : List (Option ℕ)) (at : ℕ) (o : Option ℕ) → length (set marks at o) ≡ length marks
length_noted marks at o = grind (arith, common_steps)

-- what holds of all rows
pub sound : (v : SeatList) (rows : List (Option Holder)) (held : ℕ) (marks : List (Option ℕ)) → seat_list rows ≡ v → AreKept rows held marks → IsSeatList v
sound v rows held marks e k = subst IsSeatList e (record { few = k.few; in_order = order_in_rows 0 rows k.in_place; inside = inside_rows 0 (length rows) rows k.in_place (omega arith) })

-- the row of a party

pub row_is : (v : SeatList) (rows : List (Option Holder)) (party : ℕ) (o : Option Holder) → seat_list rows ≡ v → party < v.parties → o ≡ get_or rows party o → get_or rows party None ≡ o
row_is v rows party o e within at = row_at rows party o (below_of v rows party e within) at

seat_at : (v : SeatList) (rows : List (Option Holder)) (held party : ℕ) (marks : List (Option ℕ)) → seat_list rows ≡ v → AreKept rows held marks → find (is_holder party) v.holders ≡ get_or rows party None
seat_at v rows held party marks e k = sym (ap (λ (w : SeatList). find (is_holder party) w.holders) e) ∙ find_in_row 0 party party rows (omega arith) k.in_place

pub seat_is : (v : SeatList) (rows : List (Option Holder)) (held : ℕ) (marks : List (Option ℕ)) (party : ℕ) (o : Option Holder) → seat_list rows ≡ v → AreKept rows held marks → party < v.parties → o ≡ get_or rows party o → o ≡ find (is_holder party) v.holders
seat_is v rows held marks party o e k within at = sym (seat_at v rows held party marks e k ∙ row_is v rows party o e within at)

of_row : (rows : List (Option Holder)) (held : ℕ) (marks : List (Option ℕ)) (party : ℕ) (h : Holder) → AreKept rows held marks → get_or rows party None ≡ Some h → h.party ≡ party
of_row rows held marks party h k at = eqb-true h.party party (find_passes (is_holder party) (holders_in rows) h (find_in_row 0 party party rows (omega arith) k.in_place ∙ at))

-- what is read of a row

pub some_of : (r : Option (Bor Holder)) (o : Option Holder) → option_copied r ≡ o → is_some r ≡ true → (h : Holder) × (o ≡ Some h)
some_of None o e f = let never : false ≡ true = f in absurd (cc)
some_of (Some h) o e f = (h.now, sym e)

pub none_of : (r : Option (Bor Holder)) (o : Option Holder) → option_copied r ≡ o → is_some r ≡ false → o ≡ None
none_of None o e f = sym e
none_of (Some h) o e f = let never : true ≡ false = f in absurd (cc)

-- one more

no_row : (v : SeatList) (rows : List (Option Holder)) (held : ℕ) (marks : List (Option ℕ)) (party : ℕ) → seat_list rows ≡ v → AreKept rows held marks → find (is_holder party) v.holders ≡ None → get_or rows party None ≡ None
no_row v rows held marks party e k none = sym (seat_at v rows held party marks e k) ∙ none

one_more : (v : SeatList) (rows : List (Option Holder)) (held : ℕ) (marks : List (Option ℕ)) (h : Holder) → seat_list rows ≡ v → AreKept rows held marks → h.party < v.parties → find (is_holder h.party) v.holders ≡ None → length (holders_in (set rows h.party (Some h))) ≡ length (holders_in rows) + 1
one_more v rows held marks h e k within none = length_some h.party h rows (below_of v rows h.party e within) (no_row v rows held marks h.party e k none)

pub put_within : (v : SeatList) (rows : List (Option Holder)) (held : ℕ) (marks : List (Option ℕ)) (party : ℕ) → seat_list rows ≡ v → AreKept rows held marks → party < v.parties → party < length marks
put_within v rows held marks party e k within = omega (arith, k.long, below_of v rows party e within)

pub put_few : (v : SeatList) (rows : List (Option Holder)) (held : ℕ) (marks : List (Option ℕ)) (h : Holder) → seat_list rows ≡ v → AreKept rows held marks → h.party < v.parties → find (is_holder h.party) v.holders ≡ None → held + 1 ≤ 256
put_few v rows held marks h e k within none =
    omega (arith, k.few, k.number, one_more v rows held marks h e k within none, length_at_most (set rows h.party (Some h)), length_set rows h.party (Some h))

pub put_kept : (v : SeatList) (rows : List (Option Holder)) (held : ℕ) (marks new : List (Option ℕ)) (h : Holder) → seat_list rows ≡ v → AreKept rows held marks → h.party < v.parties → find (is_holder h.party) v.holders ≡ None
    → new ≡ set marks h.party (Some (earlier_mark (get_or marks h.party None) h.beat)) → AreKept (set rows h.party (Some h)) (held + 1) new
put_kept v rows held marks new h e k within none noted =
    let more : length (holders_in (set rows h.party (Some h))) ≡ length (holders_in rows) + 1 = one_more v rows held marks h e k within none in
    subst (λ (ms : List (Option ℕ)). AreKept (set rows h.party (Some h)) (held + 1) ms) (sym noted)
    (kept_with rows held marks h.party (Some h) (held + 1) (set marks h.party (Some (earlier_mark (get_or marks h.party None) h.beat))) k (in_place_some 0 h.party h rows (omega arith) k.in_place) (omega (arith, k.number, more))
    (length_noted marks h.party (Some (earlier_mark (get_or marks h.party None) h.beat))) (marked_put rows marks h.party h (below_of v rows h.party e within) k.long k.marked))

pub put_seen : (v : SeatList) (rows : List (Option Holder)) (held : ℕ) (marks : List (Option ℕ)) (h : Holder) → seat_list rows ≡ v → AreKept rows held marks → h.party < v.parties → find (is_holder h.party) v.holders ≡ None
    → seat_list (set rows h.party (Some h)) ≡ record v { holders = with_holder h v.holders }
put_seen v rows held marks h e k within none =
    seen_with v rows h.party (Some h) (with_holder h v.holders) e
    (put_in_row 0 h.party h rows (omega arith) k.in_place (below_of v rows h.party e within) (no_row v rows held marks h.party e k none) ∙ ap (λ (w : SeatList). with_holder h w.holders) e)

-- one less

pub take_kept : (rows : List (Option Holder)) (held : ℕ) (marks new : List (Option ℕ)) (party : ℕ) (h : Holder) → AreKept rows held marks → get_or rows party None ≡ Some h → length new ≡ length marks → AreMarked (set rows party None) new → AreKept (set rows party None) (held - 1) new
take_kept rows held marks new party h k at long marked =
    kept_with rows held marks party None (held - 1) new k (in_place_none 0 party rows k.in_place) (omega (arith, k.number, length_none party h rows at)) long marked

pub some_held : (rows : List (Option Holder)) (held : ℕ) (marks : List (Option ℕ)) (party : ℕ) (h : Holder) → AreKept rows held marks → get_or rows party None ≡ Some h → 1 ≤ held
some_held rows held marks party h k at = omega (arith, k.number, length_none party h rows at)

pub given_kept : (rows : List (Option Holder)) (held : ℕ) (marks : List (Option ℕ)) (party : ℕ) (h : Holder) → AreKept rows held marks → get_or rows party None ≡ Some h → AreKept (set rows party None) (held - 1) marks
given_kept rows held marks party h k at = take_kept rows held marks marks party h k at refl (marked_take rows marks party (row_within rows party h at) k.marked)

pub take_seen : (v : SeatList) (rows : List (Option Holder)) (held : ℕ) (marks : List (Option ℕ)) (party : ℕ) → seat_list rows ≡ v → AreKept rows held marks → seat_list (set rows party None) ≡ record v { holders = filter (λ (h : Holder). not (is_holder party h)) v.holders }
take_seen v rows held marks party e k =
    seen_with v rows party None (filter (λ (h : Holder). not (is_holder party h)) v.holders) e
    (take_in_row 0 party party rows (omega arith) k.in_place ∙ ap (λ (w : SeatList). filter (λ (h : Holder). not (is_holder party h)) w.holders) e)

-- one that changes

map_kept : (f : Bool → Holder → Holder) (rows : List (Option Holder)) (held : ℕ) (marks new : List (Option ℕ)) (party : ℕ) (h : Holder) → (f true h).party ≡ h.party → AreKept rows held marks → get_or rows party None ≡ Some h
    → length new ≡ length marks → AreMarked (set rows party (Some (f true h))) new → AreKept (set rows party (Some (f true h))) held new
map_kept f rows held marks new party h own k at long marked =
    let as_many : length (holders_in (set rows party (Some (f true h)))) ≡ length (holders_in rows) = length_same party h (f true h) rows at in
    kept_with rows held marks party (Some (f true h)) held new k (in_place_some 0 party (f true h) rows (omega (arith, own, of_row rows held marks party h k at)) k.in_place)
    (omega (arith, k.number, as_many)) long marked

pub told_kept : (f : Bool → Holder → Holder) (rows : List (Option Holder)) (held : ℕ) (marks new : List (Option ℕ)) (party : ℕ) (h : Holder) → (f true h).party ≡ h.party → AreKept rows held marks → get_or rows party None ≡ Some h
    → new ≡ set marks party (Some (earlier_mark (get_or marks party None) (f true h).beat)) → AreKept (set rows party (Some (f true h))) held new
told_kept f rows held marks new party h own k at noted =
    subst (λ (ms : List (Option ℕ)). AreKept (set rows party (Some (f true h))) held ms) (sym noted)
    (map_kept f rows held marks (set marks party (Some (earlier_mark (get_or marks party None) (f true h).beat))) party h own k at
    (length_noted marks party (Some (earlier_mark (get_or marks party None) (f true h).beat))) (marked_put rows marks party (f true h) (row_within rows party h at) k.long k.marked))

pub charged_kept : (f : Bool → Holder → Holder) (rows : List (Option Holder)) (held : ℕ) (marks : List (Option ℕ)) (party : ℕ) (h : Holder) → (f true h).party ≡ h.party → (f true h).beat ≡ h.beat → AreKept rows held marks → get_or rows party None ≡ Some h
    → AreKept (set rows party (Some (f true h))) held marks
charged_kept f rows held marks party h own beat k at = map_kept f rows held marks marks party h own k at refl (marked_same rows marks party h (f true h) (row_within rows party h at) at beat k.marked)

pub map_seen : (f : Bool → Holder → Holder) → ((h : Holder) → f false h ≡ h) → (v : SeatList) (rows : List (Option Holder)) (held : ℕ) (marks : List (Option ℕ)) (party : ℕ) (h : Holder) → seat_list rows ≡ v → AreKept rows held marks → get_or rows party None ≡ Some h
    → seat_list (set rows party (Some (f true h))) ≡ record v { holders = map (λ (x : Holder). f (is_holder party x) x) v.holders }
map_seen f same v rows held marks party h e k at =
    seen_with v rows party (Some (f true h)) (map (λ (x : Holder). f (is_holder party x) x) v.holders) e
    (map_in_row f same 0 party party h rows (omega arith) k.in_place at ∙ ap (λ (w : SeatList). map (λ (x : Holder). f (is_holder party x) x) w.holders) e)

-- one that changes, if it is there

unset_kept : (rows : List (Option Holder)) (held : ℕ) (marks : List (Option ℕ)) (party : ℕ) → AreKept rows held marks → get_or rows party None ≡ None → AreKept (set rows party None) held marks
unset_kept rows held marks party k at = subst (λ (rs : List (Option Holder)). AreKept rs held marks) (sym (set_same rows party at)) k

unset_seen : (f : Bool → Holder → Holder) → ((h : Holder) → f false h ≡ h) → (v : SeatList) (rows : List (Option Holder)) (held : ℕ) (marks : List (Option ℕ)) (party : ℕ) → seat_list rows ≡ v → AreKept rows held marks → get_or rows party None ≡ None
    → seat_list (set rows party None) ≡ record v { holders = map (λ (x : Holder). f (is_holder party x) x) v.holders }
unset_seen f same v rows held marks party e k at =
    seen_with v rows party None (map (λ (x : Holder). f (is_holder party x) x) v.holders) e
    (ap holders_in (set_same rows party at)
    ∙ sym (map_no_row f same 0 party party rows (omega arith) k.in_place at) ∙ ap (λ (w : SeatList). map (λ (x : Holder). f (is_holder party x) x) w.holders) e)

pub told_if_there : (f : Bool → Holder → Holder) (beat : ℕ) → ((h : Holder) → (f true h).party ≡ h.party) → ((h : Holder) → (f true h).beat ≡ beat) → (rows : List (Option Holder)) (held : ℕ) (marks new : List (Option ℕ)) (party : ℕ) (o : Option Holder) → AreKept rows held marks → get_or rows party None ≡ o
    → is_some o ≡ true → new ≡ set marks party (Some (earlier_mark (get_or marks party None) beat)) → AreKept (set rows party (option_map (f true) o)) held new
told_if_there f beat own heard rows held marks new party None k at some noted = let never : false ≡ true = some in absurd (cc)
told_if_there f beat own heard rows held marks new party (Some h) k at some noted =
    told_kept f rows held marks new party h (own h) k at (noted ∙ sym (ap (λ (n : ℕ). set marks party (Some (earlier_mark (get_or marks party None) n))) (heard h)))

pub charged_if_there : (f : Bool → Holder → Holder) → ((h : Holder) → (f true h).party ≡ h.party) → ((h : Holder) → (f true h).beat ≡ h.beat) → (rows : List (Option Holder)) (held : ℕ) (marks : List (Option ℕ)) (party : ℕ) (o : Option Holder) → AreKept rows held marks → get_or rows party None ≡ o
    → AreKept (set rows party (option_map (f true) o)) held marks
charged_if_there f own heard rows held marks party None k at = unset_kept rows held marks party k at
charged_if_there f own heard rows held marks party (Some h) k at = charged_kept f rows held marks party h (own h) (heard h) k at

pub map_if_there : (f : Bool → Holder → Holder) → ((h : Holder) → f false h ≡ h) → (v : SeatList) (rows : List (Option Holder)) (held : ℕ) (marks : List (Option ℕ)) (party : ℕ) (o : Option Holder) → seat_list rows ≡ v → AreKept rows held marks → get_or rows party None ≡ o
    → seat_list (set rows party (option_map (f true) o)) ≡ record v { holders = map (λ (x : Holder). f (is_holder party x) x) v.holders }
map_if_there f same v rows held marks party None e k at = unset_seen f same v rows held marks party e k at
map_if_there f same v rows held marks party (Some h) e k at = map_seen f same v rows held marks party h e k at

-- one that was silent

if_some : (o : Option Holder) (h : Holder) (P : Holder → Type 0) → o ≡ Some h → P h → IfSome o P
if_some o h P e p = subst (λ (x : Option Holder). IfSome x P) (sym e) p

pub if_none : (o : Option Holder) (P : Type 0) → P → IfNone o P
if_none None P p = p
if_none (Some h) P p = tt

pub not_none : (o : Option Holder) (h : Holder) (P : Type 0) → o ≡ Some h → IfNone o P
not_none o h P e = subst (λ (x : Option Holder). IfNone x P) (sym e) tt

-- the row of the silent party, which is read, and then left empty
pub record IsSilentRow (rows : List (Option Holder)) (over party : ℕ) (o left : Option Holder) (h : Holder) : Type 0 where
  pub read : o ≡ Some h
  pub emptied : left ≡ None
  pub there : get_or rows party None ≡ Some h
  pub own : h.party ≡ party
  pub silent : h.beat ≤ over

pub silent_read : (rows read : List (Option Holder)) (held : ℕ) (marks : List (Option ℕ)) (over party : ℕ) (row o left : Option Holder) → AreKept rows held marks → read ≡ rows → (h : Holder) × (get_or read party None ≡ Some h) × (h.beat ≤ over) → row ≡ get_or rows party row → o ≡ row → left ≡ None
    → (h : Holder) × IsSilentRow rows over party o left h
silent_read rows read held marks over party row o left k same (h, found, silent) at copied emptied =
    let there : get_or rows party None ≡ Some h = subst (λ (rs : List (Option Holder)). get_or rs party None ≡ Some h) same found in
    (h, record { read = copied ∙ sym (row_at rows party row (row_within rows party h there) at) ∙ there; emptied = emptied; there = there; own = of_row rows held marks party h k there; silent = silent })

pub silent_within : (rows read : List (Option Holder)) (over party : ℕ) → read ≡ rows → (h : Holder) × (get_or read party None ≡ Some h) × (h.beat ≤ over) → party < length rows
silent_within rows read over party same (h, found, silent) = row_within rows party h (subst (λ (rs : List (Option Holder)). get_or rs party None ≡ Some h) same found)

pub silent_kept : (rows read : List (Option Holder)) (held : ℕ) (marks new : List (Option ℕ)) (over party : ℕ) (o left : Option Holder) (h : Holder) → AreKept rows held marks → read ≡ rows → IsSilentRow rows over party o left h → length new ≡ length read → AreMarked (set read party None) new → AreKept (set rows party left) (held - 1) new
silent_kept rows read held marks new over party o left h k same s long marked =
    rw s.emptied (take_kept rows held marks new party h k s.there (long ∙ ap length same ∙ sym k.long) (subst (λ (rs : List (Option Holder)). AreMarked (set rs party None) new) same marked))

pub gone_seat : (v : SeatList) (rows : List (Option Holder)) (held : ℕ) (marks : List (Option ℕ)) (over party : ℕ) (o left : Option Holder) (h : Holder) → seat_list rows ≡ v → AreKept rows held marks → IsSilentRow rows over party o left h → IfSome o (λ (g : Holder). find (is_holder g.party) v.holders ≡ Some g)
gone_seat v rows held marks over party o left h e k s =
    if_some o h (λ (g : Holder). find (is_holder g.party) v.holders ≡ Some g) s.read
    (subst (λ (n : ℕ). find (is_holder n) v.holders ≡ Some h) (sym s.own) (seat_at v rows held party marks e k ∙ s.there))

pub gone_silent : (rows : List (Option Holder)) (over party : ℕ) (o left : Option Holder) (h : Holder) → IsSilentRow rows over party o left h → IfSome o (λ (g : Holder). g.beat ≤ over)
gone_silent rows over party o left h s = if_some o h (λ (g : Holder). g.beat ≤ over) s.read s.silent

pub gone_seen : (v : SeatList) (rows : List (Option Holder)) (held : ℕ) (marks : List (Option ℕ)) (over party : ℕ) (o left : Option Holder) (h : Holder) → seat_list rows ≡ v → AreKept rows held marks → IsSilentRow rows over party o left h
    → IfSome o (λ (g : Holder). seat_list (set rows party left) ≡ record v { holders = filter (λ (x : Holder). not (is_holder g.party x)) v.holders })
gone_seen v rows held marks over party o left h e k s =
    rw s.emptied (if_some o h (λ (g : Holder). seat_list (set rows party None) ≡ record v { holders = filter (λ (x : Holder). not (is_holder g.party x)) v.holders }) s.read
    (subst (λ (n : ℕ). seat_list (set rows party None) ≡ record v { holders = filter (λ (x : Holder). not (is_holder n x)) v.holders }) (sym s.own) (take_seen v rows held marks party e k)))

pub gone_fewer : (v : SeatList) (rows : List (Option Holder)) (over party : ℕ) (o left : Option Holder) (h : Holder) → seat_list rows ≡ v → IsSilentRow rows over party o left h → IfSome o (λ _. length (holders_in (set rows party left)) + 1 ≡ length v.holders)
gone_fewer v rows over party o left h e s =
    rw s.emptied (if_some o h (λ _. length (holders_in (set rows party None)) + 1 ≡ length v.holders) s.read (length_none party h rows s.there ∙ ap (λ (w : SeatList). length w.holders) e))

pub gone_counts : (v : SeatList) (rows : List (Option Holder)) (over party : ℕ) (o left : Option Holder) (h : Holder) → seat_list rows ≡ v → IsSilentRow rows over party o left h
    → (test : Holder → Bool) → IfSome o (λ (g : Holder). count_by test (holders_in (set rows party left)) + cond (test g) 1 0 ≡ count_by test v.holders)
gone_counts v rows over party o left h e s test =
    rw s.emptied (if_some o h (λ (g : Holder). count_by test (holders_in (set rows party None)) + cond (test g) 1 0 ≡ count_by test v.holders) s.read (count_in_row test party h rows s.there ∙ ap (λ (w : SeatList). count_by test w.holders) e))

pub gone_stay : (v : SeatList) (rows : List (Option Holder)) (over party : ℕ) (o left : Option Holder) (h : Holder) → seat_list rows ≡ v → IsSilentRow rows over party o left h → filter (is_heard over) (holders_in (set rows party left)) ≡ filter (is_heard over) v.holders
gone_stay v rows over party o left h e s =
    rw s.emptied (filter_in_row (is_heard over) party h rows s.there (le-ltb over h.beat s.silent) ∙ ap (λ (w : SeatList). filter (is_heard over) w.holders) e)

pub heard_seen : (v : SeatList) (rows read : List (Option Holder)) (marks : List (Option ℕ)) (over : ℕ) → seat_list rows ≡ v → read ≡ rows → AreMarked read marks → due_marks over marks ≡ 0 → filter (is_heard over) v.holders ≡ v.holders
heard_seen v rows read marks over e same k none =
    subst (λ (w : SeatList). filter (is_heard over) w.holders ≡ w.holders) e (subst (λ (rs : List (Option Holder)). filter (is_heard over) (holders_in rs) ≡ holders_in rs) same (heard_where_none over read marks k none))

-- no seats

length_of_none : (n : ℕ) → length (replicate {A = Option Holder} n None) ≡ n
length_of_none n = grind (arith, common_steps)

pub made_seen : (rows : List (Option Holder)) (n : ℕ) → rows ≡ replicate n None → seat_list rows ≡ record { parties = n; holders = [] }
made_seen rows n e = ap seat_list e ∙ rw (length_of_none n, no_holders n) refl

pub made_kept : (rows : List (Option Holder)) (marks : List (Option ℕ)) (n : ℕ) → rows ≡ replicate n None → n ≤ 256 → marks ≡ replicate n None → AreKept rows 0 marks
made_kept rows marks n e few f =
    subst (λ (rs : List (Option Holder)). AreKept rs 0 marks) (sym e) (subst (λ (ms : List (Option ℕ)). AreKept (replicate n None) 0 ms) (sym f) (record {
      in_place = no_rows 0 n;
      few = omega (arith, length_of_none n, few);
      number = sym (ap length (no_holders n));
      long = same_length n;
      marked = λ p h found. no_one h (sym (no_seat n p) ∙ found);
    }))
  where
    same_length : (n : ℕ) → length (replicate {A = Option ℕ} n None) ≡ length (replicate {A = Option Holder} n None)
    same_length zero = refl
    same_length (suc n) = omega (arith, same_length n)

    no_one : {X : Type 0} (h : Holder) → None ≡ Some h → X
    no_one h e = let never : None ≡ Some h = e in absurd (cc)
