-- How a talk goes on.
use Rattle.std.proofs.Common.{◌≡◌, ◌∙◌, ℕ, ◌+◌, ◌-◌, ◌^◌, ◌<◌, ◌≤◌, ◌⊎◌, inl, inr, true, false, cond, ◌++◌, ◌∷◌, [], List, length, take, drop, min, nat_lt, ap, append_assoc, refl, sym, subst, arith}
use Rattle.std.proofs.lemmas.List.{drop-drop, length-drop, length-take-le, take-append-drop, take_all}
use Rattle.std.proofs.lemmas.Bool.{ltb-true}
use Rattle.std.proofs.lemmas.List.Sums.{sum_by-append}
use Rattle.session_outside.specs.Talk.{Event, Heard, Ended, Wrote}
use Rattle.trial_link.specs.Plays.{HasTold, Noted, Plays, ends, gave, gives, granted_in, hears, is_grant, is_silent, is_unasked, note_of, stops}
use Rattle.trial_link.specs.Stages.{has_more, left_of, line_of, played_after, stage_after}
use Rattle.trial_link.specs.declared.call.Call.{Call}
use Rattle.trial_link.specs.declared.call.Stage.{Stage}
use Rattle.trial_link.specs.declared.call.Stage.TheVariants.{Gives, Awaits, Over}

-- what goes on by an event goes on behind the note
pub noted_on : {A B : List Event → Type 0} (number rounds number' rounds' : ℕ) (e : Event) → number' ≡ number → rounds' ≡ rounds → ((talk : List Event) → A talk → B (talk ++ e ∷ [])) → (told : List Event) → Noted number rounds A told → Noted number' rounds' B (told ++ e ∷ [])
noted_on number rounds number' rounds' e n r on told (inl h) = inl (on told h)
noted_on number rounds number' rounds' e n r on told (inr h) =
    inr (h.0 ++ e ∷ [], ap (λ l. l ++ e ∷ []) h.1 ∙ append_assoc (note_of number rounds) h.0 (e ∷ []) ∙ rw (n, r) refl, on h.0 h.2)

-- one event more
pub granted_snoc : (talk : List Event) (e : Event) → granted_in (talk ++ e ∷ []) ≡ granted_in talk + cond (is_grant e) 1 0
granted_snoc talk e = sum_by-append (λ x. cond (is_grant x) 1 0) talk (e ∷ []) ∙ omega arith

-- an event that is no written piece counts for nothing
pub granted_same : (grants : ℕ) (talk : List Event) (e : Event) → is_grant e ≡ false → grants ≡ min (granted_in talk) (2 ^ 64 - 1) → grants ≡ min (granted_in (talk ++ e ∷ [])) (2 ^ 64 - 1)
granted_same grants talk e none h =
    let same : granted_in (talk ++ e ∷ []) ≡ granted_in talk = granted_snoc talk e ∙ ap (λ b. granted_in talk + cond b 1 0) none ∙ omega arith in
    h ∙ ap (λ n. min n (2 ^ 64 - 1)) (sym same)

pub silent_from : (s : Stage) → ((call : Call) → s ≡ Gives call → ⊥) → is_silent s ≡ true
silent_from (Gives call) h = absurd (h call refl)
silent_from (Awaits call) h = refl
silent_from Over h = refl

pub unasked_from : (s : Stage) → ((call : Call) × (s ≡ Gives call)) ⊎ (s ≡ Over) → is_unasked s ≡ true
unasked_from s (inl h) = ap is_unasked h.1
unasked_from s (inr h) = ap is_unasked h

module _ (number rounds played : ℕ) (call : Call) (given count : ℕ) (talk : List Event) (piece : List ℕ) (is : piece ≡ take count (drop given (line_of number call))) (some : 0 < count) where
  abbrev line : List ℕ
  line = line_of number call

  -- a piece of the line was read, and more is left
  pub gives_more : given + count < length line → Plays number rounds (Gives call) (drop given line) played talk → Plays number rounds (Gives call) (drop (given + count) line) played (talk ++ Heard piece ∷ [])
  gives_more below h =
      let whole : drop given line ≡ take count (drop given line) ++ drop (given + count) line
      = sym (take-append-drop count (drop given line)) ∙ ap (λ l. take count (drop given line) ++ l) (drop-drop count given line) in
      let long : length (take count (drop given line)) ≡ count = length-take-le count (drop given line) (omega (arith, length-drop given line)) in
      subst (λ p. Plays number rounds (Gives call) (drop (given + count) line) played (talk ++ Heard p ∷ [])) (sym is)
      (gives (take count (drop given line)) (drop (given + count) line) (subst (λ l. Plays number rounds (Gives call) l played talk) whole h) (omega (arith, long)) (omega (arith, length-drop (given + count) line)))

  -- the last piece was
  pub gives_last : length (drop given line) ≤ count → 0 < length (drop given line) → Plays number rounds (Gives call) (drop given line) played talk → Plays number rounds (Awaits call) [] played (talk ++ Heard piece ∷ [])
  gives_last all any h =
      subst (λ p. Plays number rounds (Awaits call) [] played (talk ++ Heard p ∷ [])) (sym (is ∙ take_all count (drop given line) all))
      (gave (drop given line) h any)

-- what is left of a line, as its slice from there on
left_slice : (given : ℕ) (line : List ℕ) → take (length line - given) (drop given line) ≡ drop given line
left_slice given line = take_all (length line - given) (drop given line) (omega (arith, length-drop given line))

module _ (number rounds played grants : ℕ) (stage : Stage) (call : Call) (given count : ℕ) (line taken : List ℕ) (talk : List Event) (at : stage ≡ Gives call) (line_is : line ≡ line_of number call) where
  abbrev rest : List ℕ
  rest = take (length line - given) (drop given line)

  rest_is : rest ≡ drop given (line_of number call)
  rest_is = left_slice given line ∙ ap (drop given) line_is

  pub more_told : taken ≡ take count rest → 0 < count → count < length rest → HasTold number rounds stage given played grants talk → HasTold number rounds stage (given + count) played grants (talk ++ Heard taken ∷ [])
  more_told is some below =
      let P : Stage → Type 0 = λ s. HasTold number rounds s given played grants talk → HasTold number rounds s (given + count) played grants (talk ++ Heard taken ∷ []) in
      subst P (sym at) (λ h. (
        gives_more number rounds played call given count talk taken (is ∙ ap (take count) rest_is) some (omega (arith, ap length rest_is, length-drop given (line_of number call), below, some)) h.0,
        granted_same grants talk (Heard taken) refl h.1,
      ))

  pub last_told : taken ≡ take count rest → 0 < count → length rest ≤ count → 0 < length rest → HasTold number rounds stage given played grants talk → HasTold number rounds (Awaits call) 0 played grants (talk ++ Heard taken ∷ [])
  last_told is some all any =
      let P : Stage → Type 0 = λ s. HasTold number rounds s given played grants talk → HasTold number rounds (Awaits call) 0 played grants (talk ++ Heard taken ∷ []) in
      subst P (sym at) (λ h. (
        gives_last number rounds played call given count talk taken (is ∙ ap (take count) rest_is) some (omega (arith, ap length rest_is, all)) (omega (arith, ap length rest_is, any)) h.0,
        granted_same grants talk (Heard taken) refl h.1,
      ))

-- the end was read
pub end_told : (number rounds played grants given : ℕ) (stage : Stage) (talk : List Event) → is_silent stage ≡ true → HasTold number rounds stage given played grants talk → HasTold number rounds Over given played grants (talk ++ Ended ∷ [])
end_told number rounds played grants given stage talk silent h = (ends h.0 silent, granted_same grants talk Ended refl h.1)

-- the reply to a line came
pub reply_told : (number rounds played grants given : ℕ) (stage : Stage) (call : Call) (reply : List ℕ) (talk : List Event) (number' rounds' played' grants' given' : ℕ) (stage' : Stage) → stage ≡ Awaits call
    → number' ≡ number → rounds' ≡ rounds → played' ≡ played_after call played → stage' ≡ stage_after call reply (nat_lt (played_after call played) rounds) → given' ≡ 0 → grants' ≡ min (granted_in (talk ++ Wrote reply ∷ [])) (2 ^ 64 - 1)
    → HasTold number rounds stage given played grants talk → HasTold number' rounds' stage' given' played' grants' (talk ++ Wrote reply ∷ [])
reply_told number rounds played grants given stage call reply talk number' rounds' played' grants' given' stage' at n r p s g count h =
    let waits : Plays number rounds (Awaits call) [] played talk = subst (λ x. Plays number rounds x (left_of number x given) played talk) at h.0 in
    let next : Plays number rounds stage' (left_of number stage' 0) (played_after call played) (talk ++ Wrote reply ∷ []) = hears reply stage' waits s in (
      subst (λ x. Plays x rounds' stage' (left_of x stage' given') played' (talk ++ Wrote reply ∷ [])) (sym n)
          (subst (λ x. Plays number x stage' (left_of number stage' given') played' (talk ++ Wrote reply ∷ [])) (sym r)
          (subst (λ x. Plays number rounds stage' (left_of number stage' x) played' (talk ++ Wrote reply ∷ [])) (sym g)
          (subst (λ x. Plays number rounds stage' (left_of number stage' 0) x (talk ++ Wrote reply ∷ [])) (sym p) next))),
      count,
    )

-- some of the line is left where it is given
pub left_long : (number : ℕ) (stage : Stage) (call : Call) (given : ℕ) (line : List ℕ) → stage ≡ Gives call → line ≡ line_of number call → has_more number stage given ≡ true → 0 < length (take (length line - given) (drop given line))
left_long number stage call given line at is more =
    let below : given < length (line_of number call) = ltb-true given (length (line_of number call)) (subst (λ s. has_more number s given ≡ true) at more) in
    omega (arith, ap length (left_slice given line), length-drop given line, ap length is, below)

-- something was written that is no reply
pub stray_told : (number rounds played grants given : ℕ) (stage : Stage) (piece : List ℕ) (talk : List Event) (grants' given' : ℕ) → is_unasked stage ≡ true → grants' ≡ min (granted_in (talk ++ Wrote piece ∷ [])) (2 ^ 64 - 1)
    → HasTold number rounds stage given played grants talk → HasTold number rounds Over given' played grants' (talk ++ Wrote piece ∷ [])
stray_told number rounds played grants given stage piece talk grants' given' unasked count h = (stops piece h.0 unasked, count)
