use Rattle.std.proofs.Common.{◌≡◌, ℕ, List, [], ◌++◌, Option, Result, Ok, Err, refl, sym, ap, subst, ◌∙◌, append_assoc, append-nil, arith, vec_capacity}
use Rattle.std.specs.Prelude.{Vec, OnOk}
use Rattle.std.specs.declared.alloc.Global.{Global}
use Rattle.outside.specs.Told.{Wrote, held_after}
use Rattle.outside.specs.declared.sink.WriteFailed.{WriteFailed}
use Rattle.outside.proofs.Told.{front_within, told_none, told_twice}
use Rattle.desk_logs.specs.Gathered.{Gathers, IsGathered, IsUnderWay}

-- one text after another
both : (old now new : Option (List ℕ)) (first gathered piece more last : List ℕ) → IsGathered old now gathered (first ++ piece) → IsGathered now new last (gathered ++ more) → IsGathered old new last (first ++ (piece ++ more))
both old now new first gathered piece more last j k = record {
  done = j.done ++ k.done;
  written = k.written ∙ (ap (λ (h : Option (List ℕ)). held_after h k.done) j.written ∙ told_twice old j.done k.done);
  all = append_assoc j.done k.done last ∙ (ap (λ (l : List ℕ). j.done ++ l) k.all ∙ (sym (append_assoc j.done gathered more) ∙ (ap (λ (l : List ℕ). l ++ more) j.all ∙ append_assoc first piece more)));
}

module _ {S : Type 0} {held : S → Option (List ℕ)} {faults : S → ℕ} where
  -- nothing was put behind it
  pub stands : (old : S) (before : Vec ℕ Global) → Gathers held faults old old before before before.items (Ok tt)
  stands old before = record {
    ok = record { done = []; written = told_none (held old); all = refl };
    err = tt;
    failed = tt;
    steady = refl;
    later = omega arith;
    room = refl;
  }

  -- one text after another
  pub joined : {old now new : S} {before between after : Vec ℕ Global} (first second : List ℕ) (result : Result (Unit {0}) WriteFailed) → Gathers held faults old now before between (before.items ++ first) (Ok tt)
      → Gathers held faults now new between after (between.items ++ second) result → Gathers held faults old new before after (before.items ++ (first ++ second)) result
  joined {before = before} first second (Ok u) j k = record {
    ok = both _ _ _ before.items _ first second _ j.ok k.ok;
    err = tt;
    failed = tt;
    steady = k.steady ∙ j.steady;
    later = omega (arith, j.later, k.later);
    room = k.room ∙ j.room;
  }
  joined {before = before} {between = between} first second (Err e) j k = record {
    ok = tt;
    err = front_within _ _ _ j.ok.done (between.items ++ second) [] (before.items ++ (first ++ second)) j.ok.written k.err
        (ap (λ (l : List ℕ). j.ok.done ++ l) (append-nil (between.items ++ second))
        ∙ (sym (append_assoc j.ok.done between.items second) ∙ (ap (λ (l : List ℕ). l ++ second) j.ok.all ∙ append_assoc before.items first second)));
    failed = rw (← j.steady) k.failed;
    steady = tt;
    later = omega (arith, j.later, k.later);
    room = k.room ∙ j.room;
  }

  -- what failed at a prefix of the text failed at the text
  pub cut_short : {old new : S} {before after : Vec ℕ Global} {whole text : List ℕ} {e : WriteFailed} (more : List ℕ) (fault : WriteFailed) → Gathers held faults old new before after whole (Err e) → whole ++ more ≡ text
      → Gathers held faults old new before after text (Err fault)
  cut_short {old = old} {whole = whole} more fault k is = record {
    ok = tt;
    err = front_within _ _ _ [] whole more _ (told_none (held old)) k.err is;
    failed = k.failed;
    steady = tt;
    later = k.later;
    room = k.room;
  }

  -- the whole is written
  pub written : {old now new : S} {before between : Vec ℕ Global} {whole : List ℕ} (result : Result (Unit {0}) WriteFailed) → Gathers held faults old now before between whole (Ok tt)
      → Wrote held faults now new between.items result → Wrote held faults old new whole result
  written {old = old} {between = between} (Ok u) k w = record {
    ok = w.ok ∙ (ap (λ (h : Option (List ℕ)). held_after h between.items) k.ok.written ∙ (told_twice (held old) k.ok.done between.items ∙ ap (held_after (held old)) k.ok.all));
    err = tt;
    failed = tt;
    steady = w.steady ∙ k.steady;
    later = omega (arith, k.later, w.later);
  }
  written {between = between} {whole = whole} (Err e) k w = record {
    ok = tt;
    err = front_within _ _ _ k.ok.done between.items [] whole k.ok.written w.err (ap (λ (l : List ℕ). k.ok.done ++ l) (append-nil between.items) ∙ k.ok.all);
    failed = rw (← k.steady) w.failed;
    steady = tt;
    later = omega (arith, k.later, w.later);
  }

  -- the writing failed before that
  pub unwritten : {old new : S} {before after : Vec ℕ Global} {whole text : List ℕ} {e : WriteFailed} (more : List ℕ) (fault : WriteFailed) → Gathers held faults old new before after whole (Err e) → whole ++ more ≡ text → Wrote held faults old new text (Err fault)
  unwritten more fault k is = let g = cut_short more fault k is in record { ok = tt; err = g.err; failed = g.failed; steady = tt; later = g.later }

  -- a text begins
  pub begins : (old : S) (before : Vec ℕ Global) (whole : List ℕ) → IsUnderWay held faults old old before before whole whole
  begins old before whole = record { done = []; taken = rw append-nil (stands old before); all = refl }

  -- a piece more of it is gathered
  pub goes_on : {old now new : S} {before between after : Vec ℕ Global} {left whole : List ℕ} (piece rest : List ℕ) → IsUnderWay held faults old now before between left whole → left ≡ piece ++ rest
      → Gathers held faults now new between after (between.items ++ piece) (Ok tt) → IsUnderWay held faults old new before after rest whole
  goes_on piece rest w e k = record {
    done = w.done ++ piece;
    taken = joined w.done piece (Ok tt) w.taken k;
    all = append_assoc w.done piece rest ∙ (ap (λ (l : List ℕ). w.done ++ l) (sym e) ∙ w.all);
  }

  -- a piece of it was not
  pub breaks_off : {old now new : S} {before between after : Vec ℕ Global} {left whole : List ℕ} {e : WriteFailed} (piece rest : List ℕ) (fault : WriteFailed) → IsUnderWay held faults old now before between left whole → left ≡ piece ++ rest
      → Gathers held faults now new between after (between.items ++ piece) (Err e) → Gathers held faults old new before after (before.items ++ whole) (Err fault)
  breaks_off {before = before} {e = e} piece rest fault w is k =
      cut_short rest fault (joined w.done piece (Err e) w.taken k)
      (append_assoc before.items (w.done ++ piece) rest ∙ ap (λ (l : List ℕ). before.items ++ l) (append_assoc w.done piece rest ∙ (ap (λ (l : List ℕ). w.done ++ l) (sym is) ∙ w.all)))

  -- nothing of it is left
  pub ends : {old now : S} {before between : Vec ℕ Global} {left whole : List ℕ} → IsUnderWay held faults old now before between left whole → left ≡ [] → Gathers held faults old now before between (before.items ++ whole) (Ok tt)
  ends {old = old} {now = now} {before = before} {between = between} w none =
      subst (λ (l : List ℕ). Gathers held faults old now before between (before.items ++ l) (Ok tt)) (sym (append-nil w.done) ∙ (ap (λ (l : List ℕ). w.done ++ l) (sym none) ∙ w.all)) w.taken
