use Rattle.std.proofs.Common.{◌≡◌, ℕ, ◌+◌, ◌≤◌, ◌<◌, ◌⊎◌, inl, inr, List, [], ◌∷◌, ◌++◌, length, take, drop, Some, slice_get, Result, Err, refl, sym, ap, ◌∙◌, subst, arith, append_assoc, append-nil, take-append-drop}
use Rattle.std.proofs.lemmas.Bool.{ne_eqb}
use Rattle.std.proofs.lemmas.List.{get_or-append-add, get_or_append_left, length-append, length-take-le, take-append-le, take_all}
use Rattle.std.proofs.lemmas.Option.{get_or_from_slice_get, slice_get_read, slice_get_within}
use Rattle.std.proofs.Math.Seq.{take-append-add}
use Rattle.licence_tool.specs.Asked.{Asks, EndsAt, FailedAt, FailsAt}
use Rattle.licence_tool.specs.Files.{Bytes}
use Rattle.licence_tool.specs.Outcome.{Due, Text, position_of_set}
use Rattle.licence_tool.specs.Tool.{DueSays, RefusalSays, WritingSays}
use Rattle.licence_tool.proofs.Ends.{due_written}
use Rattle.licence_tool.specs.declared.status.Status.{Status}
use Rattle.licence_tool.specs.declared.status.Status.TheVariants.{Done, Usage, Licence, Options, MoreOptions, Script, ReadFault, WriteFault, NoMemory, FileTooLong, AuditNo}

abbrev Names : Type 0
Names = List (List ℕ)

-- no file was asked for
pub none_asked : (first : ℕ) (names a f : Names) (s : Status) → EndsAt first (length names) 0 s → FailsAt first names f f s → Asks first names a a f f s
none_asked first names a f s ends fails = record { count = 0; within = omega arith; asked = sym (append-nil a); ends = ends; fails = fails }

pub idle : (first : ℕ) (a f : Names) (s : Status) → (s ≡ Usage) ⊎ (s ≡ NoMemory) → Asks first [] a a f f s
idle first a f s (inl e) = subst (Asks first [] a a f f) (sym e) (none_asked first [] a f Usage tt refl)
idle first a f s (inr e) = subst (Asks first [] a a f f) (sym e) (none_asked first [] a f NoMemory tt refl)

slice_behind : (xs ys : Names) (i : ℕ) (x : List ℕ) → slice_get ys i ≡ Some x → slice_get (xs ++ ys) (length xs + i) ≡ Some x
slice_behind xs ys i x h =
    let within : i < length ys = slice_get_within ys i x h in
    slice_get_read (xs ++ ys) (length xs + length ys) (length xs + i) x (sym (length-append xs ys)) (omega arith) (sym (get_or-append-add xs ys i x ∙ get_or_from_slice_get ys i x x h))

slice_before : (xs ys : Names) (i : ℕ) (x : List ℕ) → slice_get xs i ≡ Some x → slice_get (xs ++ ys) i ≡ Some x
slice_before xs ys i x h =
    let within : i < length xs = slice_get_within xs i x h in
    slice_get_read (xs ++ ys) (length xs + length ys) i x (sym (length-append xs ys)) (omega arith) (sym (get_or_append_left xs ys x i within ∙ get_or_from_slice_get xs i x x h))

join_ends : (first before more count all : ℕ) (s : Status) → all ≡ before + more → EndsAt (first + before) more count s → EndsAt first all (before + count) s
join_ends first before more count all Done sum ends = omega arith
join_ends first before more count all WriteFault sum ends = omega arith
join_ends first before more count all (AuditNo line) sum ends = omega arith
join_ends first before more count all Usage sum ends = tt
join_ends first before more count all NoMemory sum ends = tt
join_ends first before more count all (Licence fault) sum ends = omega arith
join_ends first before more count all (Options fault) sum ends = omega arith
join_ends first before more count all (Script fault) sum ends = omega arith
join_ends first before more count all (MoreOptions set fault) sum ends = omega arith
join_ends first before more count all (ReadFault file) sum ends = omega arith
join_ends first before more count all (FileTooLong file) sum ends = omega arith

join_failed : (first : ℕ) (names more f0 f1 f2 : Names) (file : ℕ) → f1 ≡ f0 → FailedAt (first + length names) more f1 f2 file → FailedAt first (names ++ more) f0 f2 file
join_failed first names more f0 f1 f2 file steady h = record {
  place = length names + h.place;
  name = h.name;
  position = omega (arith, h.position);
  is = slice_behind names more h.place h.name h.is;
  failed = h.failed ∙ ap (λ (f : Names). f ++ h.name ∷ []) steady;
}

join_fails : (first : ℕ) (names more f0 f1 f2 : Names) (s : Status) → f1 ≡ f0 → FailsAt (first + length names) more f1 f2 s → FailsAt first (names ++ more) f0 f2 s
join_fails first names more f0 f1 f2 (ReadFault file) steady h = join_failed first names more f0 f1 f2 file steady h
join_fails first names more f0 f1 f2 Done steady h = h ∙ steady
join_fails first names more f0 f1 f2 WriteFault steady h = h ∙ steady
join_fails first names more f0 f1 f2 (AuditNo line) steady h = h ∙ steady
join_fails first names more f0 f1 f2 Usage steady h = h ∙ steady
join_fails first names more f0 f1 f2 NoMemory steady h = h ∙ steady
join_fails first names more f0 f1 f2 (Licence fault) steady h = h ∙ steady
join_fails first names more f0 f1 f2 (Options fault) steady h = h ∙ steady
join_fails first names more f0 f1 f2 (Script fault) steady h = h ∙ steady
join_fails first names more f0 f1 f2 (MoreOptions set fault) steady h = h ∙ steady
join_fails first names more f0 f1 f2 (FileTooLong file) steady h = h ∙ steady

-- all these files were read, and behind them others were asked for
pub join : (first : ℕ) (names more a0 a1 a2 f0 f1 f2 : Names) (s : Status) → Asks first names a0 a1 f0 f1 Done → Asks (first + length names) more a1 a2 f1 f2 s → Asks first (names ++ more) a0 a2 f0 f2 s
join first names more a0 a1 a2 f0 f1 f2 s h k =
    let whole : take h.count names ≡ names = ap (λ (n : ℕ). take n names) h.ends ∙ take_all (length names) names (omega arith) in
    let asked : a1 ≡ a0 ++ names = h.asked ∙ ap (λ (l : Names). a0 ++ l) whole in
    record {
      count = length names + k.count;
      within = omega (arith, length-append names more, k.within);
      asked = k.asked ∙ (ap (λ (l : Names). l ++ take k.count more) asked ∙ (append_assoc a0 names (take k.count more) ∙ ap (λ (l : Names). a0 ++ l) (sym (take-append-add names more k.count))));
      ends = join_ends first (length names) (length more) k.count (length (names ++ more)) s (length-append names more) k.ends;
      fails = join_fails first names more f0 f1 f2 s h.fails k.fails;
    }

stop_ends : {X : Type 0} (F : Type 0) (heard : Result X Status) (first count all more : ℕ) (s : Status) → RefusalSays F heard s → EndsAt first all count s → EndsAt first more count s
stop_ends F heard first count all more Done says ends = absurd says
stop_ends F heard first count all more WriteFault says ends = absurd says
stop_ends F heard first count all more (AuditNo line) says ends = absurd says
stop_ends F heard first count all more Usage says ends = tt
stop_ends F heard first count all more NoMemory says ends = tt
stop_ends F heard first count all more (Licence fault) says ends = ends
stop_ends F heard first count all more (Options fault) says ends = ends
stop_ends F heard first count all more (Script fault) says ends = ends
stop_ends F heard first count all more (MoreOptions set fault) says ends = ends
stop_ends F heard first count all more (ReadFault file) says ends = ends
stop_ends F heard first count all more (FileTooLong file) says ends = ends

stop_fails : (first : ℕ) (names more f0 f1 : Names) (s : Status) → FailsAt first names f0 f1 s → FailsAt first (names ++ more) f0 f1 s
stop_fails first names more f0 f1 (ReadFault file) h = record { place = h.place; name = h.name; position = h.position; is = slice_before names more h.place h.name h.is; failed = h.failed }
stop_fails first names more f0 f1 Done h = h
stop_fails first names more f0 f1 WriteFault h = h
stop_fails first names more f0 f1 (AuditNo line) h = h
stop_fails first names more f0 f1 Usage h = h
stop_fails first names more f0 f1 NoMemory h = h
stop_fails first names more f0 f1 (Licence fault) h = h
stop_fails first names more f0 f1 (Options fault) h = h
stop_fails first names more f0 f1 (Script fault) h = h
stop_fails first names more f0 f1 (MoreOptions set fault) h = h
stop_fails first names more f0 f1 (FileTooLong file) h = h

-- one of these files was refused, and the others weren't asked for
pub stop : {X : Type 0} (F : Type 0) (heard : Result X Status) (first : ℕ) (names more a0 a1 f0 f1 : Names) (s : Status) → RefusalSays F heard s → Asks first names a0 a1 f0 f1 s → Asks first (names ++ more) a0 a1 f0 f1 s
stop F heard first names more a0 a1 f0 f1 s says h = record {
  count = h.count;
  within = omega (arith, h.within, length-append names more);
  asked = h.asked ∙ ap (λ (l : Names). a0 ++ l) (sym (take-append-le h.count names more h.within));
  ends = stop_ends F heard first h.count (length names) (length (names ++ more)) s says h.ends;
  fails = stop_fails first names more f0 f1 s h.fails;
}

-- memory was wanted behind these files
pub forgotten : (first : ℕ) (names more a0 a1 f0 f1 : Names) → Asks first names a0 a1 f0 f1 Done → Asks first (names ++ more) a0 a1 f0 f1 NoMemory
forgotten first names more a0 a1 f0 f1 h =
    stop {X = ℕ} ⊥ (Err NoMemory) first names more a0 a1 f0 f1 NoMemory tt (record { count = h.count; within = h.within; asked = h.asked; ends = tt; fails = h.fails })

-- all was read, and what is due was then written as far as it went
pub wrote : (OR : Type 0) (old new : Bytes) (due : Due) (first : ℕ) (names a0 a1 f0 f1 : Names) (s : Status) → DueSays OR old new due s → Asks first names a0 a1 f0 f1 Done → Asks first names a0 a1 f0 f1 s
wrote OR old new due first names a0 a1 f0 f1 Done says h = h
wrote OR old new due first names a0 a1 f0 f1 WriteFault says h = record { count = h.count; within = h.within; asked = h.asked; ends = h.ends; fails = h.fails }
wrote OR old new due first names a0 a1 f0 f1 NoMemory says h = record { count = h.count; within = h.within; asked = h.asked; ends = tt; fails = h.fails }
wrote OR old new due first names a0 a1 f0 f1 (AuditNo line) says h = record { count = h.count; within = h.within; asked = h.asked; ends = h.ends; fails = h.fails }
wrote OR old new due first names a0 a1 f0 f1 Usage says h = absurd says
wrote OR old new due first names a0 a1 f0 f1 (Licence fault) says h = absurd says
wrote OR old new due first names a0 a1 f0 f1 (Options fault) says h = absurd says
wrote OR old new due first names a0 a1 f0 f1 (Script fault) says h = absurd says
wrote OR old new due first names a0 a1 f0 f1 (MoreOptions set fault) says h = absurd says
wrote OR old new due first names a0 a1 f0 f1 (ReadFault file) says h = absurd says
wrote OR old new due first names a0 a1 f0 f1 (FileTooLong file) says h = absurd says

pub wrote_text : (OR : Type 0) (old new : Bytes) (text : List ℕ) (first : ℕ) (names a0 a1 f0 f1 : Names) (s : Status) → WritingSays OR old new text s → Asks first names a0 a1 f0 f1 Done → Asks first names a0 a1 f0 f1 s
wrote_text OR old new text first names a0 a1 f0 f1 s says h = wrote OR old new (Text text) first names a0 a1 f0 f1 s (due_written OR old new text s says) h

-- one more of the further options files was asked for
pub further : (xs a0 a1 a2 f0 f1 f2 : Names) (i number : ℕ) (name : List ℕ) (s : Status) → Asks 4 (take i xs) a0 a1 f0 f1 Done → Asks number (name ∷ []) a1 a2 f1 f2 s
    → number ≡ 4 + i → i < length xs → take i xs ++ name ∷ [] ≡ take (i + 1) xs → Asks 4 (take (i + 1) xs) a0 a2 f0 f2 s
further xs a0 a1 a2 f0 f1 f2 i number name s h k place within more =
    let at : number ≡ 4 + length (take i xs) = omega (arith, length-take-le i xs (omega arith)) in
    subst (λ (names : Names). Asks 4 names a0 a2 f0 f2 s) more
    (join 4 (take i xs) (name ∷ []) a0 a1 a2 f0 f1 f2 s h (subst (λ (n : ℕ). Asks n (name ∷ []) a1 a2 f1 f2 s) at k))

-- one of them was refused
pub further_refused : {X : Type 0} (F : Type 0) (heard : Result X Status) (xs a0 a1 f0 f1 : Names) (count : ℕ) (s : Status) → RefusalSays F heard s → Asks 4 (take count xs) a0 a1 f0 f1 s → Asks 4 xs a0 a1 f0 f1 s
further_refused F heard xs a0 a1 f0 f1 count s says h =
    subst (λ (names : Names). Asks 4 names a0 a1 f0 f1 s) (take-append-drop count xs) (stop F heard 4 (take count xs) (drop count xs) a0 a1 f0 f1 s says h)

-- memory was wanted behind some of them
pub further_forgotten : (xs a0 a1 f0 f1 : Names) (count : ℕ) → Asks 4 (take count xs) a0 a1 f0 f1 Done → Asks 4 xs a0 a1 f0 f1 NoMemory
further_forgotten xs a0 a1 f0 f1 count h =
    subst (λ (names : Names). Asks 4 names a0 a1 f0 f1 NoMemory) (take-append-drop count xs) (forgotten 4 (take count xs) (drop count xs) a0 a1 f0 f1 h)

-- all of them were read
pub further_read : (xs a0 a1 f0 f1 : Names) (count : ℕ) → length xs ≤ count → Asks 4 (take count xs) a0 a1 f0 f1 Done → Asks 4 xs a0 a1 f0 f1 Done
further_read xs a0 a1 f0 f1 count all h = subst (λ (names : Names). Asks 4 names a0 a1 f0 f1 Done) (take_all count xs all) h

-- the position of a further options file
pub further_position : (set i : ℕ) → set ≡ 1 + i → position_of_set set ≡ 4 + i
further_position set i is = rw (ne_eqb set 0 (λ (e : set ≡ 0). absurd (omega arith))) (omega arith)
