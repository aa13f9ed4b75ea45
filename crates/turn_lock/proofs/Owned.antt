-- The entries of one party, in a history one entry longer.
use Rattle.std.proofs.Common.{◌≡◌, ◌≢◌, ℕ, Bool, List, [], ◌∷◌, ◌++◌, ap, ◌∙◌, append-nil, eqb, ne_eqb, eq-eqb, cond}
use Rattle.std.proofs.lemmas.List.Elements.{filter-append}
use Rattle.turn_lock.specs.declared.kept.Entry.{Entry}
use Rattle.turn_lock.specs.Entries.{own}

module _ {Q A : Type 0} (party : Q → ℕ) where
  pub own_other : (p : ℕ) (h : List (Entry Q A)) (e : Entry Q A) → party e.request ≢ p → own party p (h ++ e ∷ []) ≡ own party p h
  own_other p h e other = filter-append (λ (x : Entry Q A). eqb (party x.request) p) h (e ∷ [])
      ∙ (ap (λ (b : Bool). own party p h ++ cond b (e ∷ []) []) (ne_eqb (party e.request) p other) ∙ append-nil (own party p h))

  pub own_mine : (p : ℕ) (h : List (Entry Q A)) (e : Entry Q A) → party e.request ≡ p → own party p (h ++ e ∷ []) ≡ own party p h ++ e ∷ []
  own_mine p h e by = filter-append (λ (x : Entry Q A). eqb (party x.request) p) h (e ∷ [])
      ∙ ap (λ (b : Bool). own party p h ++ cond b (e ∷ []) []) (eq-eqb (party e.request) p by)
