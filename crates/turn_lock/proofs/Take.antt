-- The value is taken out.
use Rattle.std.proofs.Common.{◌≡◌, ℕ, List, [], ◌∷◌, get_or, set, sym, refl, ap, ◌∙◌, subst, inr, arith, Option, Some, length-set, append-nil}
use mathlib.Core.Option.{none, some, some-injective, some-ne-none}
use mathlib.Core.Option as maybe
use lib.ListN.{get_elem?}
use Rattle.atomic_table.specs.Table.{State, Me, step, takes, Allows}
use Rattle.turn_lock.specs.declared.kept.Entry.{Entry}
use Rattle.pass_roles.specs.declared.role.Role.TheVariants.{Party}
use Rattle.turn_lock.specs.declared.view.Stage.TheVariants.{Turn, Out}
use Rattle.turn_lock.specs.declared.view.View.{View}
use Rattle.turn_lock.specs.Entries.{IsPrefix, own}
use Rattle.turn_lock.specs.Passes.{Pass}
use Rattle.turn_lock.specs.Rule.{has_ticket, has_entry, is_out, Ruled}
use Rattle.turn_lock.specs.Steps.{seated_view, pass_with_seen, took}
use Rattle.pass_roles.proofs.Members.{set_at}
use Rattle.turn_lock.proofs.Keeps.{restage, knows, stage_is, is_in, same_words}

module _ {V L Q A : Type 0} (law_of : V → L) (party : Q → ℕ) (run : L → List (Entry Q A) → Type 0) (stands : V → List (Entry Q A) → Type 0) (law : L) (n : ℕ) where
  abbrev P : Type 0
  P = Pass L Q A

  abbrev W : Type 0
  W = View L Q A

  abbrev St : Type 0
  St = State (Option V) W

  abbrev M : Type 0
  M = Me (Option V) W

  abbrev Homes : Type 0
  Homes = List (maybe.Option (Option V))

  abbrev Rule : St → Type 0
  Rule = Ruled law_of party run stands law n

  pub takes_out : (slots id : ℕ) (me : M) (p : P) (t : ℕ) → me ≡ (seated_view p (Turn t), []) → Allows Rule slots id me 2 (λ x. x) (took law_of party run stands (step slots 2 0 0 none) me)
  takes_out slots id me p t e s r _ at _ = let is : me.0.role ≡ Party p.number = ap (λ (x : M). x.0.role) e in let turn : me.0.stage ≡ Turn t = ap (λ (x : M). x.0.stage) e in
      let k = stage_is law_of party run stands law n s r id me.0 (Turn t) at turn in let known = knows law_of party run stands law n s r id p.number me.0 at is in let his : r.holder r.served ≡ id = ap r.holder (sym k.0) ∙ k.2 in
      let i = is_in law_of party run stands law n s r id me.0 at his (ap is_out turn) in let w : W = record me.0 { stage = Out t; seen = r.history } in (
        w,
        takes 0 (Some i.0),
        ap (λ (hs : Homes). get_elem? hs 0) i.1,
        restage law_of party run stands law n s r id p.number me.0 (Out t) r.history r.served r.drawn r.holder (set s.words 2 (get_or s.words 2 0)) (set s.homes 0 none) at is ([], sym (append-nil r.history)) known.mine (λ z. refl)
            (length-set s.words 2 _ ∙ r.wide) (same_words law_of party run stands law n s.words 2 1 ∙ r.ticket_is) (same_words law_of party run stands law n s.words 2 2 ∙ r.serving_is)
            (let h : has_ticket me.0.stage ≡ 1 = ap has_ticket turn in omega arith) (let h : has_entry me.0.stage ≡ 0 = ap has_entry turn in omega arith) (λ j d other there. (r.each j d there).1) (k.0, k.1, k.2, refl)
            (inr (ap (λ (hs : Homes). set hs 0 none) i.1, (id, w, set_at s.views id me.0 w at, refl))),
        λ p' t' e'.
            let same_t : t ≡ t' = (let q : Turn t ≡ Turn t' = sym turn ∙ ap (λ (x : M). x.0.stage) e' in cc) in
            let same_p : p.number ≡ p'.number = (let q : Party p.number ≡ Party p'.number = sym is ∙ ap (λ (x : M). x.0.role) e' in cc) in
            let same_l : law ≡ p'.law = (let q : law ∷ [] ≡ p'.law ∷ [] = sym known.law_is ∙ ap (λ (x : M). x.0.law) e' in cc) in (
              i.0,
              r.history,
              ap (λ (z : M). let x : W = record z.0 { stage = Out t; seen = r.history } in let c : List (ℕ × Option V) = (0, Some i.0) ∷ z.1 in (x, c)) e'
                  ∙ ap (λ (z : ℕ). let x : W = seated_view (pass_with_seen p' r.history) (Out z) in let c : List (ℕ × Option V) = (0, Some i.0) ∷ [] in (x, c)) same_t,
              (
                i.2,
                subst (λ (z : L). run z r.history) same_l r.runs,
                i.3 ∙ same_l,
                subst (λ (z : M). IsPrefix z.0.seen r.history) e' known.seen,
                ap (λ (z : ℕ). own party z r.history) (sym same_p) ∙ (known.mine ∙ ap (λ (x : M). x.0.mine) e'),
              ),
            ),
      )
