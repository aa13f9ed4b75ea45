use Rattle.std.proofs.Common.{◌≡◌, ℕ, List, [], ◌++◌, Option, Ok, Err, refl, sym, ap, ◌∙◌, append_assoc, append-nil, arith, Result}
use Rattle.outside.specs.Told.{Wrote, held_after}
use Rattle.outside.specs.declared.sink.WriteFailed.{WriteFailed}
use Rattle.outside.proofs.Told.{front_within, told_none, told_twice}
use Rattle.scripts.specs.Written.{IsLeft}

module _ {S : Type 0} {held : S → Option (List ℕ)} {faults : S → ℕ} where
  -- nothing was written yet
  pub all_left : (now : S) (whole : List ℕ) → IsLeft held faults now now whole whole
  all_left now whole = record { done = []; written = told_none (held now); all = refl; steady = refl }

  -- a piece more was written
  pub left_more : {old now new : S} {left whole : List ℕ} {u : Unit {0}} (piece more : List ℕ) → IsLeft held faults old now left whole → left ≡ piece ++ more → Wrote held faults now new piece (Ok u) → IsLeft held faults old new more whole
  left_more piece more k e w = record {
    done = k.done ++ piece;
    written = w.ok ∙ (ap (λ (h : Option (List ℕ)). held_after h piece) k.written ∙ told_twice (held _) k.done piece);
    all = append_assoc k.done piece more ∙ (ap (λ (l : List ℕ). k.done ++ l) (sym e) ∙ k.all);
    steady = w.steady ∙ k.steady;
  }

  -- the writing of the piece failed, and so does that of the whole
  pub left_over : {old now new : S} {left whole : List ℕ} {e : WriteFailed} (piece more : List ℕ) (fault : WriteFailed) → IsLeft held faults old now left whole → left ≡ piece ++ more → Wrote held faults now new piece (Err e) → Wrote held faults old new whole (Err fault)
  left_over piece more fault k e w = record {
    ok = tt;
    err = front_within (held _) (held _) (held _) k.done piece more _ k.written w.err (ap (λ (l : List ℕ). k.done ++ l) (sym e) ∙ k.all);
    failed = rw (← k.steady) w.failed;
    steady = tt;
    later = omega (arith, k.steady, w.later);
  }

  -- the same text is left
  pub left_same : {old now : S} {left other whole : List ℕ} → left ≡ other → IsLeft held faults old now left whole → IsLeft held faults old now other whole
  left_same e k = record { done = k.done; written = k.written; all = ap (λ (l : List ℕ). k.done ++ l) (sym e) ∙ k.all; steady = k.steady }

  -- the writing of all that is left ends as that of the whole
  pub wrote_rest : {old now new : S} {left whole : List ℕ} {piece : List ℕ} (result : Result (Unit {0}) WriteFailed) → IsLeft held faults old now left whole → left ≡ piece ++ [] → Wrote held faults now new piece result → Wrote held faults old new whole result
  wrote_rest {piece = piece} (Ok u) k e w =
      let done : IsLeft held faults _ _ [] _ = left_more piece [] k e w in
      record {
        ok = done.written ∙ ap (held_after (held _)) (sym (append-nil done.done) ∙ done.all);
        err = tt;
        failed = tt;
        steady = done.steady;
        later = omega (arith, done.steady);
      }
  wrote_rest {piece = piece} (Err fault) k e w = left_over piece [] fault k e w
