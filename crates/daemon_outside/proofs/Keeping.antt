-- One more of what is kept.
use Rattle.std.proofs.Common.{◌≡◌, ◌∙◌, ◌++◌, ◌∷◌, [], Bool, true, List, inl, inr, ap, cond, sym, subst}
use Rattle.daemon_outside.specs.Memory.{Each, KeepsEach}

each_snoc : {X E : Type 0} (stands : X → E → Type 0) (xs : List X) (es : List E) (x : X) (e : E) → Each stands xs es → stands x e → Each stands (xs ++ x ∷ []) (es ++ e ∷ [])
each_snoc stands [] [] x e h k = (k, tt)
each_snoc stands [] (e' ∷ es) x e h k = absurd h
each_snoc stands (x' ∷ xs) [] x e h k = absurd h
each_snoc stands (x' ∷ xs) (e' ∷ es) x e h k = (h.0, each_snoc stands xs es x e h.1 k)

-- where one more was put behind those that are kept, one more is told
pub keeps_more : {X E : Type 0} (lost : Bool) (stands : X → E → Type 0) (old new : List X) (es : List E) (x : X) (e : E) (pushed : Bool) → new ≡ cond pushed (old ++ x ∷ []) old → pushed ≡ true → KeepsEach lost stands old es → stands x e → KeepsEach lost stands new (es ++ e ∷ [])
keeps_more lost stands old new es x e pushed items was_pushed h k =
    let more = items ∙ ap (λ b. cond b (old ++ x ∷ []) old) was_pushed in
    elim h [
      | inl gone ↦ inl gone
      | inr each ↦ inr (subst (λ l. Each stands l (es ++ e ∷ [])) (sym more) (each_snoc stands old es x e each k))
    ]
