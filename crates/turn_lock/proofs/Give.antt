-- The value goes home.
use Rattle.std.proofs.Common.{◌≡◌, ℕ, false, List, [], ◌∷◌, get_or, set, sym, refl, ap, ◌∙◌, subst, inl, arith, Option, Some, length-set}
use mathlib.Core.Option.{none, some, some-injective, some-ne-none}
use mathlib.Core.Option as maybe
use Rattle.atomic_table.specs.Table.{State, Me, step, gives, Allows}
use Rattle.turn_lock.specs.declared.kept.Entry.{Entry}
use Rattle.turn_lock.specs.declared.view.Stage.TheVariants.{Counted, Home}
use Rattle.turn_lock.specs.declared.view.View.{View}
use Rattle.turn_lock.specs.Passes.{Pass}
use Rattle.turn_lock.specs.Rule.{is_out, Ruled}
use Rattle.turn_lock.specs.Steps.{seated_view, gave}
use Rattle.pass_roles.proofs.Members.{each_set}
use Rattle.turn_lock.proofs.Keeps.{restage, knows, stage_is, alone, not_home, same_words}

module _ {V L Q A : Type 0} (law_of : V → L) (party : Q → ℕ) (run : L → List (Entry Q A) → Type 0) (stands : V → List (Entry Q A) → Type 0) (law : L) (n : ℕ) where
  abbrev P : Type 0
  P = Pass L Q A

  abbrev W : Type 0
  W = View L Q A

  abbrev St : Type 0
  St = State (Option V) W

  abbrev M : Type 0
  M = Me (Option V) W

  abbrev Homes : Type 0
  Homes = List (maybe.Option (Option V))

  abbrev Rule : St → Type 0
  Rule = Ruled law_of party run stands law n

  gives_from : (slots id : ℕ) (p : P) (t : ℕ) (x : Option V) (y : V) → x ≡ Some y → stands y p.seen → law_of y ≡ p.law
      → Allows Rule slots id (seated_view p (Counted t), (0, x) ∷ []) 2 (λ z. z) (gave (step slots 2 0 0 none) (seated_view p (Counted t), (0, x) ∷ []))
  gives_from slots id p t x y here stood law_is s r _ at _ = let v : W = seated_view p (Counted t) in
      let k = stage_is law_of party run stands law n s r id v (Counted t) at refl in let known = knows law_of party run stands law n s r id p.number v at refl in let his : r.holder r.served ≡ id = ap r.holder (sym k.0) ∙ k.2 in
      let w : W = seated_view p (Home t) in (
        w,
        gives,
        tt,
        restage law_of party run stands law n s r id p.number v (Home t) p.seen r.served r.drawn r.holder (set s.words 2 (get_or s.words 2 0)) (set s.homes 0 (some x)) at refl known.seen known.mine_seen (λ z. z)
            (length-set s.words 2 _ ∙ r.wide) (same_words law_of party run stands law n s.words 2 1 ∙ r.ticket_is) (same_words law_of party run stands law n s.words 2 2 ∙ r.serving_is)
            (omega arith) (omega arith) (λ j d other e. (r.each j d e).1) (k.0, k.1, k.2)
            (inl (
              y,
              ap (λ (hs : Homes). set hs 0 (some x)) (not_home law_of party run stands law n s r id v at refl) ∙ ap (λ (z : Option V). some z ∷ []) here,
              subst (stands y) k.3 stood,
              law_is ∙ (let q : law ∷ [] ≡ p.law ∷ [] = sym known.law_is in cc),
              each_set (λ (j : ℕ) (d : W). is_out d.stage ≡ false) s.views id w refl (alone law_of party run stands law n s r id his),
            )),
        λ p' t' x' e'. let same : t ≡ t' = (let q : Counted t ≡ Counted t' = ap (λ (z : M). z.0.stage) e' in cc) in
            ap (λ (z : M). let a : W = record z.0 { stage = Home t } in let c : List (ℕ × Option V) = [] in (a, c)) e' ∙ ap (λ (z : ℕ). let a : W = seated_view p' (Home z) in let c : List (ℕ × Option V) = [] in (a, c)) same,
      )

  pub gives_back : (slots id : ℕ) (me : M) (p : P) (t : ℕ) (x : Option V) (y : V) → me ≡ (seated_view p (Counted t), (0, x) ∷ []) → x ≡ Some y → stands y p.seen → law_of y ≡ p.law
      → Allows Rule slots id me 2 (λ z. z) (gave (step slots 2 0 0 none) me)
  gives_back slots id me p t x y e here stood law_is = subst (λ (m : M). Allows Rule slots id m 2 (λ z. z) (gave (step slots 2 0 0 none) m)) (sym e) (gives_from slots id p t x y here stood law_is)
