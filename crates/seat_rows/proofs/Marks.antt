-- The marks of beats, and the clock that has them once more.
use Rattle.std.proofs.Common.{◌≡◌, ℕ, ◌+◌, ◌<◌, ◌≤◌, Bool, true, false, cond, List, [], ◌∷◌, Option, None, Some, length, get_or, set, replicate, refl, ap, sym, ◌∙◌, arith, subst, suc, zero, eqb}
use Rattle.std.specs.List.{count_by, find}
use Rattle.std.specs.Option.{option_map}
use Rattle.std.specs.Prelude.{IsNone, IsSome, is_some}
use Rattle.std.proofs.lemmas.Bool.{eqb-true, eqb-false, le-leb, lt-leb, lt-ltb}
use Rattle.std.proofs.lemmas.Grind.{common_steps}
use Rattle.std.proofs.lemmas.List.{get_or-set_same, get_or-set_other, set-set}
use Rattle.std.proofs.lemmas.List.Sums.{count_by-le-length, sum_by-set}
use Rattle.linger_clock.specs.declared.Deadline.{Deadline}
use Rattle.linger_clock.specs.Deadlines.{Deadlines, IsClock, is_due, until_of, without}
use Rattle.options_machine.proofs.Counts.{count-cons}
use Rattle.seat_rows.specs.Beats.{AreTimed, ChangesMoment, due_marks, earlier_mark, has_come}
use Rattle.seat_rows.proofs.Moments.{ChangesMoment-remove, all_later, due_owner, length-remove}

abbrev tally : Bool → ℕ
tally b = cond b 1 0

-- how many marks pass a test once one is set
count_set : (p : Option ℕ → Bool) (marks : List (Option ℕ)) (at : ℕ) (o : Option ℕ) → at < length marks → count_by p (set marks at o) + tally (p (get_or marks at None)) ≡ count_by p marks + tally (p o)
count_set p marks at o less = sum_by-set (λ (m : Option ℕ). tally (p m)) marks at o None less

waits_set : (marks : List (Option ℕ)) (at : ℕ) (o : Option ℕ) (old new : Deadlines) → at < length marks → ((p : ℕ) → until_of p old.pairs ≡ get_or marks p None) → ChangesMoment at o old new
    → (p : ℕ) → until_of p new.pairs ≡ get_or (set marks at o) p None
waits_set marks at o old new less waits c p = c.moments p ∙ by (eqb p at) refl
  where
    by : (b : Bool) → eqb p at ≡ b → cond (eqb p at) o (until_of p old.pairs) ≡ get_or (set marks at o) p None
    by true e =
        let there : get_or (set marks at o) p None ≡ o = subst (λ (n : ℕ). get_or (set marks at o) n None ≡ o) (sym (eqb-true p at e)) (get_or-set_same marks at o None less) in
        rw e (sym there)
    by false e = rw e (waits p ∙ sym (get_or-set_other marks at p o None (eqb-false p at e)))

length_set : (marks : List (Option ℕ)) (at : ℕ) (o : Option ℕ) → length (set marks at o) ≡ length marks
length_set marks at o = grind (arith, common_steps)

timed_with : (marks : List (Option ℕ)) (clock : Deadlines) (at : ℕ) (o : Option ℕ) (new : Deadlines) → AreTimed marks clock → at < length marks → ChangesMoment at o clock new → length new.pairs ≡ count_by is_some (set marks at o) → AreTimed (set marks at o) new
timed_with marks clock at o new k less change many = record {
  waits = waits_set marks at o clock new less k.waits change;
  clock = change.clock;
  as_many = many;
  room = change.room ∙ k.room ∙ sym (length_set marks at o);
}

-- one more

pub mark_room : (marks : List (Option ℕ)) (clock : Deadlines) (at : ℕ) → AreTimed marks clock → at < length marks → get_or marks at None ≡ None → length clock.pairs < clock.room
mark_room marks clock at k less none =
    let more : count_by is_some (set marks at (Some 0)) + tally (is_some (get_or marks at None)) ≡ count_by is_some marks + 1 = count_set is_some marks at (Some 0) less in
    let not : tally (is_some (get_or marks at None)) ≡ 0 = ap (λ (o : Option ℕ). tally (is_some o)) none in
    omega (arith, k.room, k.as_many, more, not, count_by-le-length is_some (set marks at (Some 0)), length_set marks at (Some 0))

is_none_of : (o : Option ℕ) → o ≡ None → IsNone o
is_none_of None e = refl
is_none_of (Some m) e = let never : Some m ≡ None = e in absurd (cc)

pub mark_absent : (marks : List (Option ℕ)) (clock : Deadlines) (at : ℕ) → AreTimed marks clock → get_or marks at None ≡ None → IsNone (until_of at clock.pairs)
mark_absent marks clock at k none = is_none_of (until_of at clock.pairs) (k.waits at ∙ none)

-- one less

pub mark_there : (marks : List (Option ℕ)) (clock : Deadlines) (at : ℕ) → AreTimed marks clock → IsSome (get_or marks at None) → IsSome (until_of at clock.pairs)
mark_there marks clock at k some = subst (λ (o : Option ℕ). IsSome o) (sym (k.waits at)) some

pub mark_taken : (marks : List (Option ℕ)) (clock : Deadlines) (at : ℕ) (new : Deadlines) → AreTimed marks clock → at < length marks → IsSome (get_or marks at None)
    → ChangesMoment at None clock new → length new.pairs + 1 ≡ length clock.pairs → AreTimed (set marks at None) new
mark_taken marks clock at new k less some change many =
    let fewer : count_by is_some (set marks at None) + tally (is_some (get_or marks at None)) ≡ count_by is_some marks + 0 = count_set is_some marks at None less in
    let one : tally (is_some (get_or marks at None)) ≡ 1 = ap tally some in
    timed_with marks clock at None new k less change (omega (arith, many, k.as_many, fewer, one))

-- the first that has come

pub within : (marks : List (Option ℕ)) (at m : ℕ) → get_or marks at None ≡ Some m → at < length marks
within [] at m e = let never : None ≡ Some m = e in absurd (cc)
within (o ∷ marks) zero m e = omega arith
within (o ∷ marks) (suc at) m e = omega (arith, within marks at m e)

pub due_mark : (marks : List (Option ℕ)) (clock : Deadlines) (over at : ℕ) → AreTimed marks clock → option_map (λ (d : Deadline). d.owner) (find (is_due over) clock.pairs) ≡ Some at → (m : ℕ) × (get_or marks at None ≡ Some m) × (m ≤ over)
due_mark marks clock over at k e = let (u, has, come) = due_owner clock over at k.clock e in (u, sym (k.waits at) ∙ has, come)

pub due_within : (marks : List (Option ℕ)) (clock : Deadlines) (over at : ℕ) → AreTimed marks clock → option_map (λ (d : Deadline). d.owner) (find (is_due over) clock.pairs) ≡ Some at → at < length marks
due_within marks clock over at k e = let (m, there, come) = due_mark marks clock over at k e in within marks at m there

pub due_taken : (marks : List (Option ℕ)) (clock : Deadlines) (over at : ℕ) (new : Deadlines) → AreTimed marks clock → option_map (λ (d : Deadline). d.owner) (find (is_due over) clock.pairs) ≡ Some at
    → new ≡ record clock { pairs = without at clock.pairs } → IsClock new → AreTimed (set marks at None) new
due_taken marks clock over at new k e same kept =
    let (m, there, come) = due_mark marks clock over at k e in
    let some : IsSome (get_or marks at None) = subst (λ (o : Option ℕ). IsSome o) (sym there) refl in
    mark_taken marks clock at new k (within marks at m there) some (ChangesMoment-remove at clock new same kept) (length-remove at clock new k.clock (mark_there marks clock at k some) same)

pub due_fewer : (marks : List (Option ℕ)) (clock : Deadlines) (over at : ℕ) → AreTimed marks clock → option_map (λ (d : Deadline). d.owner) (find (is_due over) clock.pairs) ≡ Some at → due_marks over (set marks at None) + 1 ≡ due_marks over marks
due_fewer marks clock over at k e =
    let (m, there, come) = due_mark marks clock over at k e in
    let less : count_by (has_come over) (set marks at None) + tally (has_come over (get_or marks at None)) ≡ count_by (has_come over) marks + 0 = count_set (has_come over) marks at None (within marks at m there) in
    let one : tally (has_come over (get_or marks at None)) ≡ 1 = ap (λ (o : Option ℕ). tally (has_come over o)) there ∙ ap tally (le-leb m over come) in
    omega (arith, less, one)

-- where none has come

none_from : (over first : ℕ) (clock : Deadlines) (marks : List (Option ℕ)) → option_map (λ (d : Deadline). d.owner) (find (is_due over) clock.pairs) ≡ None → ((at : ℕ) → until_of (first + at) clock.pairs ≡ get_or marks at None) → count_by (has_come over) marks ≡ 0
none_from over first clock [] none waits = refl
none_from over first clock (None ∷ marks) none waits =
    omega (arith, count-cons (has_come over) None marks, none_from over (suc first) clock marks none (λ at. subst (λ (n : ℕ). until_of n clock.pairs ≡ get_or marks at None) (omega arith) (waits (suc at))))
none_from over first clock (Some m ∷ marks) none waits =
    let after : over < m = all_later clock over (first + 0) m none (waits 0) in
    let out : tally (has_come over (Some m)) ≡ 0 = ap tally (lt-leb m over after) in
    omega (arith, count-cons (has_come over) (Some m) marks, out, none_from over (suc first) clock marks none (λ at. subst (λ (n : ℕ). until_of n clock.pairs ≡ get_or marks at None) (omega arith) (waits (suc at))))

pub none_come : (marks : List (Option ℕ)) (clock : Deadlines) (over : ℕ) → AreTimed marks clock → option_map (λ (d : Deadline). d.owner) (find (is_due over) clock.pairs) ≡ None → due_marks over marks ≡ 0
none_come marks clock over k none = none_from over 0 clock marks none (λ at. subst (λ (n : ℕ). until_of n clock.pairs ≡ get_or marks at None) (omega arith) (k.waits at))

-- no marks

no_mark : (n at : ℕ) → get_or (replicate {A = Option ℕ} n None) at None ≡ None
no_mark zero at = refl
no_mark (suc n) zero = refl
no_mark (suc n) (suc at) = no_mark n at

no_count : (n : ℕ) → count_by is_some (replicate {A = Option ℕ} n None) ≡ 0
no_count zero = refl
no_count (suc n) = omega (arith, count-cons {X = Option ℕ} is_some None (replicate n None), no_count n)

length_of_none : (n : ℕ) → length (replicate {A = Option ℕ} n None) ≡ n
length_of_none n = grind (arith, common_steps)

pub timed_of_none : (marks : List (Option ℕ)) (clock : Deadlines) (n : ℕ) → marks ≡ replicate n None → clock ≡ record { room = n; pairs = [] } → AreTimed marks clock
timed_of_none marks clock n e f =
    subst (λ (ms : List (Option ℕ)). AreTimed ms clock) (sym e) (subst (λ (c : Deadlines). AreTimed (replicate n None) c) (sym f) (record {
      waits = λ p. sym (no_mark n p);
      clock = record { in_order = tt; distinct = tt; within = omega arith };
      as_many = sym (no_count n);
      room = sym (length_of_none n);
    }))

-- a beat that comes before the mark takes its place, and one that doesn't leaves it

pub noted_anew : (marks : List (Option ℕ)) (at mark beat : ℕ) → get_or marks at None ≡ Some mark → beat < mark → set (set marks at None) at (Some beat) ≡ set marks at (Some (earlier_mark (get_or marks at None) beat))
noted_anew marks at mark beat there less =
    let first : earlier_mark (Some mark) beat ≡ beat = ap (λ (b : Bool). cond b beat mark) (lt-ltb beat mark less) in
    set-set marks at None (Some beat) ∙ ap (λ (m : ℕ). set marks at (Some m)) (sym (ap (λ (o : Option ℕ). earlier_mark o beat) there ∙ first))

-- reading a mark

pub mark_at : (marks : List (Option ℕ)) (at : ℕ) (o : Option ℕ) → at < length marks → o ≡ get_or marks at o → get_or marks at None ≡ o
mark_at marks at o h e = grind (arith, common_steps)
