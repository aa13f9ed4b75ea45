-- How slots, marks and clock stay tied.
use Rattle.std.proofs.Common.{◌≡◌, ℕ, ◌+◌, ◌-◌, ◌<◌, ◌≤◌, Bool, true, false, cond, List, [], ◌∷◌, ◌++◌, Option, None, Some, length, get_or, set, take, map, filter, refl, ap, sym, ◌∙◌, arith, suc, subst, eqb}
use Rattle.std.specs.List.{find}
use Rattle.std.specs.Option.{option_map}
use Rattle.std.specs.Prelude.{IsNone, IsSome}
use Rattle.std.proofs.lemmas.Bool.{eqb-true, eqb-false, leb-true, lt-ltb}
use Rattle.std.proofs.lemmas.List.{get_or-set_same, get_or-set_other, map-append, map-set, take-map}
use Rattle.std.proofs.Math.Seq.{map-set_same}
use Rattle.linger_clock.specs.declared.Deadline.{Deadline}
use Rattle.linger_clock.specs.Deadlines.{Deadlines, IsClock, is_due, until_of, with_deadline, without}
use Rattle.linger_clock.proofs.CallerLemmas.{length-placed, length-without, until_of-placed, until_of-without}
use Rattle.options_machine.specs.declared.reply.Charge.{Charge}
use Rattle.options_machine.specs.declared.rows.Lingerer.{Lingerer}
use Rattle.options_machine.proofs.Counts.{find_passes}
use Rattle.linger_table.specs.Marks.{mark_of}
use Rattle.linger_table.specs.Slots.{AreTied, HasNoneFrom, entries_in, mark_in, until_in}
use Rattle.linger_table.specs.Table.{stays_at}
use Rattle.linger_table.proofs.Deadlines.{found_until, no_owner, not_due, owner_found}
use Rattle.linger_table.proofs.Entries.{entries-grown, entries-taken, get_or-grown, get_or-taken, length-changed, length-filled, length-without_one, slot_within, taken_out}

-- one more slot

pub grown_tied : (slots new : List (Option Lingerer)) (marks new_marks : List ℕ) (len : ℕ) (clock : Deadlines) → AreTied slots marks len clock → new ≡ slots ++ None ∷ [] → new_marks ≡ marks ++ 0 ∷ [] → AreTied new new_marks len clock
grown_tied slots new marks new_marks len clock k e f = rw (e, f) (record {
  waits = λ at. k.waits at ∙ ap until_in (sym (get_or-grown slots at));
  clock_kept = k.clock_kept;
  clocked = k.clocked ∙ ap length (sym (entries-grown slots));
  counted = k.counted ∙ ap length (sym (entries-grown slots));
  marked = ap (λ (ms : List ℕ). ms ++ 0 ∷ []) k.marked ∙ sym (map-append mark_in slots (None ∷ []));
})

-- an entry in an empty slot

filled_waits : (slots : List (Option Lingerer)) (ds : List Deadline) (l : Lingerer) (at q : ℕ) (b : Bool) → eqb at q ≡ b → at < length slots → until_of q ds ≡ until_in (get_or slots q None)
    → cond b (Some l.until) (until_of q ds) ≡ until_in (get_or (set slots at (Some l)) q None)
filled_waits slots ds l at q true e less h =
    let same : at ≡ q = eqb-true at q e in
    let here : get_or (set slots at (Some l)) q None ≡ Some l = subst (λ (n : ℕ). get_or (set slots at (Some l)) n None ≡ Some l) same (get_or-set_same slots at (Some l) None less) in
    ap until_in (sym here)
filled_waits slots ds l at q false e less h = h ∙ ap until_in (sym (get_or-set_other slots at q (Some l) None (λ same. eqb-false at q e (sym same))))

pub filled_tied : (slots : List (Option Lingerer)) (marks : List ℕ) (len : ℕ) (clock after : Deadlines) (at : ℕ) (l : Lingerer) (mark : ℕ) → AreTied slots marks len clock → get_or slots at None ≡ None → at < length slots → mark ≡ mark_of l.client
    → after ≡ record clock { pairs = with_deadline (record { owner = at; until = l.until }) clock.pairs } → IsClock after → AreTied (set slots at (Some l)) (set marks at mark) (len + 1) after
filled_tied slots marks len clock after at l mark k empty less m e kept =
    let d : Deadline = record { owner = at; until = l.until } in
    let pairs : after.pairs ≡ with_deadline d clock.pairs = ap (λ (c : Deadlines). c.pairs) e in
    let nothing : until_of at clock.pairs ≡ None = k.waits at ∙ ap until_in empty in
    let none : IsNone (until_of at clock.pairs) = subst (λ (o : Option ℕ). IsNone o) (sym nothing) refl in
    record {
      waits = λ q. ap (until_of q) pairs ∙ until_of-placed d q clock.pairs k.clock_kept.in_order none ∙ filled_waits slots clock.pairs l at q (eqb at q) refl less (k.waits q);
      clock_kept = kept;
      clocked = omega (arith, ap length pairs, length-placed d clock.pairs k.clock_kept.in_order none, k.clocked, length-filled slots at l empty less);
      counted = omega (arith, k.counted, length-filled slots at l empty less);
      marked = ap (λ (ms : List ℕ). set ms at mark) k.marked ∙ ap (set (map mark_in slots) at) m ∙ sym (map-set mark_in slots at (Some l));
    }

-- a slot without its entry

emptied_waits : (slots : List (Option Lingerer)) (ds : List Deadline) (owner q : ℕ) (b : Bool) → eqb q owner ≡ b → owner < length slots → until_of q ds ≡ until_in (get_or slots q None) → until_of q (without owner ds) ≡ until_in (get_or (set slots owner None) q None)
emptied_waits slots ds owner q true e less h =
    let same : q ≡ owner = eqb-true q owner e in
    let gone : get_or (set slots owner None) q None ≡ None = subst (λ (n : ℕ). get_or (set slots owner None) n None ≡ None) (sym same) (get_or-set_same slots owner None None less) in
    until_of-without owner q ds ∙ rw e (ap until_in (sym gone))
emptied_waits slots ds owner q false e less h =
    until_of-without owner q ds ∙ rw e (h ∙ ap until_in (sym (get_or-set_other slots owner q None None (eqb-false q owner e))))

pub emptied_tied : (slots : List (Option Lingerer)) (marks : List ℕ) (len : ℕ) (clock after : Deadlines) (at : ℕ) (l : Lingerer) → AreTied slots marks len clock → get_or slots at None ≡ Some l → after ≡ record clock { pairs = without at clock.pairs } → IsClock after → AreTied (set slots at None) (set marks at 0) (len - 1) after
emptied_tied slots marks len clock after at l k here e kept =
    let pairs : after.pairs ≡ without at clock.pairs = ap (λ (c : Deadlines). c.pairs) e in
    let moment : until_of at clock.pairs ≡ Some l.until = k.waits at ∙ ap until_in here in
    let there : IsSome (until_of at clock.pairs) = subst (λ (o : Option ℕ). IsSome o) (sym moment) refl in
    let less : length (without at clock.pairs) + 1 ≡ length clock.pairs = length-without at clock.pairs k.clock_kept.distinct there in
    let fewer : length (entries_in (set slots at None)) + 1 ≡ length (entries_in slots) = length-without_one l (entries_in slots) (entries_in (set slots at None)) (taken_out slots at l here) in
    record {
      waits = λ q. ap (until_of q) pairs ∙ emptied_waits slots clock.pairs at q (eqb q at) refl (slot_within slots at l here) (k.waits q);
      clock_kept = kept;
      clocked = omega (arith, ap length pairs, less, k.clocked, fewer);
      counted = omega (arith, k.counted, fewer);
      marked = ap (λ (ms : List ℕ). set ms at 0) k.marked ∙ sym (map-set mark_in slots at None);
    }

-- fewer slots

pub taken_tied : (slots new : List (Option Lingerer)) (marks new_marks : List ℕ) (len to : ℕ) (clock : Deadlines) → AreTied slots marks len clock → HasNoneFrom to slots → new ≡ take to slots → new_marks ≡ take to marks → AreTied new new_marks len clock
taken_tied slots new marks new_marks len to clock k h e f = rw (e, f) (record {
  waits = λ at. k.waits at ∙ ap until_in (sym (get_or-taken slots to at h));
  clock_kept = k.clock_kept;
  clocked = k.clocked ∙ ap length (sym (entries-taken slots to h));
  counted = k.counted ∙ ap length (sym (entries-taken slots to h));
  marked = ap (take to) k.marked ∙ take-map mark_in to slots;
})

-- another charge

changed_waits : (slots : List (Option Lingerer)) (at q : ℕ) (l m : Lingerer) (b : Bool) → eqb q at ≡ b → at < length slots → get_or slots at None ≡ Some l → m.until ≡ l.until → until_in (get_or slots q None) ≡ until_in (get_or (set slots at (Some m)) q None)
changed_waits slots at q l m true e less here same =
    let own : q ≡ at = eqb-true q at e in
    subst (λ (n : ℕ). until_in (get_or slots n None) ≡ until_in (get_or (set slots at (Some m)) n None)) (sym own)
    (ap until_in here ∙ ap Some (sym same) ∙ ap until_in (sym (get_or-set_same slots at (Some m) None less)))
changed_waits slots at q l m false e less here same = ap until_in (sym (get_or-set_other slots at q (Some m) None (eqb-false q at e)))

pub changed_tied : (slots : List (Option Lingerer)) (marks : List ℕ) (len : ℕ) (clock : Deadlines) (at : ℕ) (l : Lingerer) (charge : Charge) → AreTied slots marks len clock → get_or slots at None ≡ Some l → AreTied (set slots at (Some (record l { charge = charge }))) marks len clock
changed_tied slots marks len clock at l charge k here =
    let m : Lingerer = record l { charge = charge } in
    record {
      waits = λ q. k.waits q ∙ changed_waits slots at q l m (eqb q at) refl (slot_within slots at l here) here refl;
      clock_kept = k.clock_kept;
      clocked = k.clocked ∙ sym (length-changed slots at l m here);
      counted = k.counted ∙ sym (length-changed slots at l m here);
      marked = k.marked ∙ sym (map-set_same mark_in slots at (Some m) None (ap mark_in (sym here)));
    }

-- the slot whose time is up

slot_cases : (o : Option Lingerer) (u : ℕ) → Some u ≡ until_in o → (l : Lingerer) × (o ≡ Some l) × (l.until ≡ u)
slot_cases None u e = let never : Some u ≡ None = e in absurd (cc)
slot_cases (Some l) u e = let both : Some u ≡ Some l.until = e in (l, refl, cc)

pub slot_over : (slots : List (Option Lingerer)) (marks : List ℕ) (len : ℕ) (clock : Deadlines) (now at : ℕ) → AreTied slots marks len clock → option_map (λ (d : Deadline). d.owner) (find (is_due now) clock.pairs) ≡ Some at → (l : Lingerer) × (get_or slots at None ≡ Some l) × (l.until ≤ now)
slot_over slots marks len clock now at k e =
    let (d, found, owner) = owner_found (find (is_due now) clock.pairs) at e in
    let has : until_of d.owner clock.pairs ≡ Some d.until = found_until (is_due now) d clock.pairs k.clock_kept.distinct found in
    let (l, here, same) = slot_cases (get_or slots d.owner None) d.until (sym has ∙ k.waits d.owner) in
    let come : d.until ≤ now = leb-true d.until now (find_passes (is_due now) clock.pairs d found) in
    (l, subst (λ (n : ℕ). get_or slots n None ≡ Some l) owner here, omega (arith, same, come))

pub entry_over : (slots : List (Option Lingerer)) (marks : List ℕ) (len : ℕ) (clock : Deadlines) (now at : ℕ) (entry : Lingerer) → AreTied slots marks len clock → option_map (λ (d : Deadline). d.owner) (find (is_due now) clock.pairs) ≡ Some at → get_or slots at None ≡ Some entry → entry.until ≤ now
entry_over slots marks len clock now at entry k e here =
    let (l, there, over) = slot_over slots marks len clock now at k e in
    let both : Some l ≡ Some entry = sym there ∙ here in
    let same : l ≡ entry = cc in
    subst (λ (x : Lingerer). x.until ≤ now) same over

-- once no time is up, all stay

all_stay_from : (now first : ℕ) (ds : List Deadline) (slots : List (Option Lingerer)) → find (is_due now) ds ≡ None → ((at : ℕ) → until_of (first + at) ds ≡ until_in (get_or slots at None)) → filter (stays_at now) (entries_in slots) ≡ entries_in slots
all_stay_from now first ds [] none h = refl
all_stay_from now first ds (None ∷ slots) none h =
    all_stay_from now (suc first) ds slots none (λ at. subst (λ (n : ℕ). until_of n ds ≡ until_in (get_or slots at None)) (omega arith) (h (suc at)))
all_stay_from now first ds (Some l ∷ slots) none h =
    let later : now < l.until = not_due now (first + 0) l.until ds none (h 0) in
    let rest : filter (stays_at now) (entries_in slots) ≡ entries_in slots = all_stay_from now (suc first) ds slots none (λ at. subst (λ (n : ℕ). until_of n ds ≡ until_in (get_or slots at None)) (omega arith) (h (suc at))) in
    rw (lt-ltb now l.until later) (ap (λ (xs : List Lingerer). l ∷ xs) rest)

pub all_stay : (slots : List (Option Lingerer)) (marks : List ℕ) (len : ℕ) (clock : Deadlines) (now : ℕ) → AreTied slots marks len clock → option_map (λ (d : Deadline). d.owner) (find (is_due now) clock.pairs) ≡ None → filter (stays_at now) (entries_in slots) ≡ entries_in slots
all_stay slots marks len clock now k none = all_stay_from now 0 clock.pairs slots (no_owner (find (is_due now) clock.pairs) none) (λ at. subst (λ (n : ℕ). until_of n clock.pairs ≡ until_in (get_or slots at None)) (omega arith) (k.waits at))
