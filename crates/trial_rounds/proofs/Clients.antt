-- Where a trial's client stood before the last event of its talk.
use Rattle.std.proofs.Common.{◌≡◌, ◌⊎◌, inl, inr, ℕ, ◌<◌, ◌∙◌, true, nat_lt, List, [], ◌∷◌, ◌++◌, length, ap, refl, sym, subst, arith, length-append}
use Rattle.std.proofs.lemmas.List.{append-nil}
use Rattle.session_outside.specs.Talk.{Event, Heard, Silence, Ended, ReadFault, Wrote, WriteFault}
use Rattle.trial_link.specs.Plays.{Plays, ends, gave, gives, hears, is_silent, is_unasked, opens, stops}
use Rattle.trial_link.specs.Stages.{left_of, line_of, played_after, stage_after}
use Rattle.trial_link.specs.declared.call.Call.{Call}
use Rattle.trial_link.specs.declared.call.Call.TheVariants.{Hello}
use Rattle.trial_link.specs.declared.call.Stage.{Stage}
use Rattle.trial_link.specs.declared.call.Stage.TheVariants.{Gives, Awaits, Over}

-- lists that end alike are alike
snoc_same : {X : Type 0} (xs ys : List X) (x y : X) → xs ++ x ∷ [] ≡ ys ++ y ∷ [] → (xs ≡ ys) × (x ≡ y)
snoc_same [] [] x y e = (refl, cc)
snoc_same [] (b ∷ bs) x y e = absurd (omega (arith, ap length e, length-append bs (y ∷ [])))
snoc_same (a ∷ as') [] x y e = absurd (omega (arith, ap length e, length-append as' (x ∷ [])))
snoc_same (a ∷ as') (b ∷ bs) x y e =
    let others : as' ++ x ∷ [] ≡ bs ++ y ∷ [] = cc in
    let both = snoc_same as' bs x y others in
    let same : a ≡ b = cc in
    (ap (λ z. z ∷ as') same ∙ ap (λ l. b ∷ l) both.0, both.1)

no_snoc : {X : Type 0} (xs : List X) (x : X) → [] ≡ xs ++ x ∷ [] → ⊥
no_snoc xs x e = omega (arith, ap length e, length-append xs (x ∷ []))

module _ (number rounds : ℕ) where
  -- a piece of its line was read: it gave the line, and goes on with what is left, or waits for the reply
  pub record Gave (piece : List ℕ) (stage : Stage) (left : List ℕ) (played : ℕ) (talk : List Event) : Type 0 where
    pub call : Call
    pub was : Plays number rounds (Gives call) (piece ++ left) played talk
    pub now : ((stage ≡ Gives call) × (0 < length left)) ⊎ ((stage ≡ Awaits call) × (left ≡ []))

  -- a reply to its line was written
  pub record WasTold (reply : List ℕ) (stage : Stage) (left : List ℕ) (played : ℕ) (talk : List Event) : Type 0 where
    pub call : Call
    pub before : ℕ
    pub was : Plays number rounds (Awaits call) [] before talk
    pub stage_is : stage ≡ stage_after call reply (nat_lt (played_after call before) rounds)
    pub left_is : left ≡ left_of number stage 0
    pub played_is : played ≡ played_after call before

  -- it stood so
  pub record Was (silent : Stage → Type 0) (talk : List Event) : Type 0 where
    pub stage : Stage
    pub left : List ℕ
    pub played : ℕ
    pub was : Plays number rounds stage left played talk
    pub is : silent stage

  -- what its last event says
  abbrev pub Came : Event → Stage → List ℕ → ℕ → List Event → Type 0
  Came (Heard piece) stage left played talk = Gave piece stage left played talk
  Came Silence stage left played talk = ⊥
  Came Ended stage left played talk = Was (λ s. is_silent s ≡ true) talk
  Came ReadFault stage left played talk = ⊥
  Came (Wrote reply) stage left played talk = WasTold reply stage left played talk ⊎ Was (λ s. is_unasked s ≡ true) talk
  Came (WriteFault part) stage left played talk = ⊥

  moved : (stage : Stage) (left : List ℕ) (played : ℕ) (e f : Event) (talk old : List Event) → old ++ f ∷ [] ≡ talk ++ e ∷ [] → Came f stage left played old → Came e stage left played talk
  moved stage left played e f talk old is c =
      let both = snoc_same old talk f e is in
      subst (λ x. Came x stage left played talk) both.1 (subst (λ t. Came f stage left played t) both.0 c)

  came_as : (e : Event) (talk : List Event) {stage : Stage} {left : List ℕ} {played : ℕ} {whole : List Event} → Plays number rounds stage left played whole → whole ≡ talk ++ e ∷ [] → Came e stage left played talk
  came_as e talk opens is = absurd (no_snoc talk e is)
  came_as e talk (gives {call} {played} {talk = old} piece rest was some more) is = moved (Gives call) rest played e (Heard piece) talk old is (record { call = call; was = was; now = inl (refl, more) })
  came_as e talk (gave {call} {played} {talk = old} piece was some) is =
      moved (Awaits call) [] played e (Heard piece) talk old is (record { call = call; was = subst (λ l. Plays number rounds (Gives call) l played old) (sym (append-nil piece)) was; now = inr (refl, refl) })
  came_as e talk (hears {call} {played} {talk = old} reply next was to) is =
      moved next (left_of number next 0) (played_after call played) e (Wrote reply) talk old is (inl (record { call = call; before = played; was = was; stage_is = to; left_is = refl; played_is = refl }))
  came_as e talk (ends {stage} {left} {played} {talk = old} was silent) is = moved Over [] played e Ended talk old is (record { stage = stage; left = left; played = played; was = was; is = silent })
  came_as e talk (stops {stage} {left} {played} {talk = old} piece was unasked) is = moved Over [] played e (Wrote piece) talk old is (inr (record { stage = stage; left = left; played = played; was = was; is = unasked }))

  pub came : (e : Event) (talk : List Event) (stage : Stage) (left : List ℕ) (played : ℕ) → Plays number rounds stage left played (talk ++ e ∷ []) → Came e stage left played talk
  came e talk stage left played h = came_as e talk h refl

  -- a client that was told nothing
  pub record IsNew (stage : Stage) (left : List ℕ) (played : ℕ) : Type 0 where
    pub stage_is : stage ≡ Gives Hello
    pub left_is : left ≡ line_of number Hello
    pub played_is : played ≡ 0

  new_as : {stage : Stage} {left : List ℕ} {played : ℕ} {whole : List Event} → Plays number rounds stage left played whole → whole ≡ [] → IsNew stage left played
  new_as opens is = record { stage_is = refl; left_is = refl; played_is = refl }
  new_as (gives {call} {played} {talk = old} piece rest was some more) is = absurd (no_snoc old (Heard piece) (sym is))
  new_as (gave {call} {played} {talk = old} piece was some) is = absurd (no_snoc old (Heard piece) (sym is))
  new_as (hears {call} {played} {talk = old} reply next was to) is = absurd (no_snoc old (Wrote reply) (sym is))
  new_as (ends {stage} {left} {played} {talk = old} was silent) is = absurd (no_snoc old Ended (sym is))
  new_as (stops {stage} {left} {played} {talk = old} piece was unasked) is = absurd (no_snoc old (Wrote piece) (sym is))

  pub is_new : (stage : Stage) (left : List ℕ) (played : ℕ) → Plays number rounds stage left played [] → IsNew stage left played
  is_new stage left played h = new_as h refl
