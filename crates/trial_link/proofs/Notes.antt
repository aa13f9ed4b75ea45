-- What a link tells behind the note of what it was made with.
use Rattle.std.proofs.Common.{◌≡◌, ℕ, inl, inr, ◌++◌, ◌∷◌, [], List, ap, refl, subst}
use Rattle.session_outside.specs.Talk.{Event, Heard, Ended, Wrote, WriteFault}
use Rattle.trial_link.specs.Plays.{HasTold, IsTalk, Noted, Plays, ends, gave, gives, hears, note_of, opens, stops}
use Rattle.trial_link.specs.Stages.{left_of}
use Rattle.trial_link.specs.declared.call.Call.TheVariants.{Hello}
use Rattle.trial_link.specs.declared.call.Stage.{Stage}
use Rattle.trial_link.specs.declared.call.Stage.TheVariants.{Gives}

-- an event more leaves the first one as it is
first_of_two : (x e : Event) (old rest : List Event) → old ++ e ∷ [] ≡ x ∷ rest → (e ≡ x → ⊥) → ((others : List Event) → old ≡ x ∷ others → ⊥) → ⊥
first_of_two x e [] rest is last ih = last cc
first_of_two x e (y ∷ ys) rest is last ih = let same : y ≡ x = cc in ih ys (ap (λ z. z ∷ ys) same)

-- no write of a client's talk fails
no_fault : {number rounds : ℕ} {stage : Stage} {left : List ℕ} {played : ℕ} {talk : List Event} → Plays number rounds stage left played talk → (part : List ℕ) (rest : List Event) → talk ≡ WriteFault part ∷ rest → ⊥
no_fault opens part rest is = cc
no_fault (gives {talk = old} piece left was some more) part rest is = first_of_two (WriteFault part) (Heard piece) old rest is (λ e. cc) (λ others e. no_fault was part others e)
no_fault (gave {talk = old} piece was some) part rest is = first_of_two (WriteFault part) (Heard piece) old rest is (λ e. cc) (λ others e. no_fault was part others e)
no_fault (hears {talk = old} reply next was to) part rest is = first_of_two (WriteFault part) (Wrote reply) old rest is (λ e. cc) (λ others e. no_fault was part others e)
no_fault (ends {talk = old} was silent) part rest is = first_of_two (WriteFault part) Ended old rest is (λ e. cc) (λ others e. no_fault was part others e)
no_fault (stops {talk = old} piece was unasked) part rest is = first_of_two (WriteFault part) (Wrote piece) old rest is (λ e. cc) (λ others e. no_fault was part others e)

-- a link that was told nothing stands for its note alone
pub starts_noted : (number rounds : ℕ) → Noted number rounds (HasTold number rounds (Gives Hello) 0 0 0) (note_of number rounds)
starts_noted number rounds = inr ([], refl, (opens, refl))

-- and what it stands for later behind that note is a talk of the client that it was made for
pub noted_talk : (number rounds number' rounds' : ℕ) (stage : Stage) (given played grants : ℕ) (talk : List Event) → Noted number' rounds' (HasTold number' rounds' stage given played grants) (note_of number rounds ++ talk) → IsTalk number rounds talk
noted_talk number rounds number' rounds' stage given played grants talk (inl h) = absurd (no_fault h.0 (number ∷ rounds ∷ []) talk refl)
noted_talk number rounds number' rounds' stage given played grants talk (inr h) =
    let same_number : number' ≡ number = let e = h.1 in cc in
    let same_rounds : rounds' ≡ rounds = let e = h.1 in cc in
    let same_talk : h.0 ≡ talk = let e = h.1 in cc in
    let plays : Plays number' rounds' stage (left_of number' stage given) played talk = subst (Plays number' rounds' stage (left_of number' stage given) played) same_talk h.2.0 in
    subst (λ n. IsTalk n rounds talk) same_number (subst (λ r. IsTalk number' r talk) same_rounds (record { stage = stage; left = left_of number' stage given; played = played; plays = plays }))
