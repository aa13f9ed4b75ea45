-- The serving word is loaded.
use Rattle.std.proofs.Common.{◌≡◌, ℕ, ◌%◌, ◌^◌, ◌≤◌, List, [], get_or, sym, refl, ap, ◌∙◌, arith, Option}
use mathlib.Core.Logic.{dite}
use mathlib.Core.Option.{none, some, some-injective, some-ne-none}
use mathlib.Core.Option as maybe
use native.Mathlib.Decide.{ℕ_discrete}
use Rattle.atomic_table.specs.Table.{State, Me, step, keeps, Allows}
use Rattle.atomic_table.proofs.Lists.{one_turn}
use Rattle.turn_lock.specs.declared.kept.Entry.{Entry}
use Rattle.pass_roles.specs.declared.role.Role.TheVariants.{Party}
use Rattle.turn_lock.specs.declared.view.Stage.TheVariants.{Waiting, Turn}
use Rattle.turn_lock.specs.declared.view.View.{View}
use Rattle.turn_lock.specs.Passes.{Pass}
use Rattle.turn_lock.specs.Rule.{has_ticket, has_entry, is_out, Ruled}
use Rattle.turn_lock.specs.Steps.{seated_view, watches_turn}
use Rattle.turn_lock.proofs.Keeps.{stage_is, few_tickets, reload}

module _ {V L Q A : Type 0} (law_of : V → L) (party : Q → ℕ) (run : L → List (Entry Q A) → Type 0) (stands : V → List (Entry Q A) → Type 0) (law : L) (n : ℕ) where
  abbrev P : Type 0
  P = Pass L Q A

  abbrev W : Type 0
  W = View L Q A

  abbrev St : Type 0
  St = State (Option V) W

  abbrev M : Type 0
  M = Me (Option V) W

  abbrev Homes : Type 0
  Homes = List (maybe.Option (Option V))

  abbrev Rule : St → Type 0
  Rule = Ruled law_of party run stands law n

  pub watches : (slots id : ℕ) (me : M) (p : P) (t : ℕ) → n ≤ 256 → me ≡ (seated_view p (Waiting t), []) → Allows Rule slots id me 2 (λ x. x) (watches_turn (step slots 2 0 0 none) me)
  watches slots id me p t small e s r _ at _ = let is : me.0.role ≡ Party p.number = ap (λ (x : M). x.0.role) e in let waits : me.0.stage ≡ Waiting t = ap (λ (x : M). x.0.stage) e in let k = stage_is law_of party run stands law n s r id me.0 (Waiting t) at waits in let few = few_tickets law_of party run stands law n s r in let drawn = r.tickets in
      let same : (p' : P) (t' : ℕ) → me ≡ (seated_view p' (Waiting t'), []) → t ≡ t' = λ p' t' e'. (let q : Waiting t ≡ Waiting t' = sym waits ∙ ap (λ (x : M). x.0.stage) e' in cc) in
      dite (ℕ_discrete (get_or s.words 2 0) (t % 2 ^ 64))
      (λ hit. let now : r.served ≡ t = one_turn r.served t (2 ^ 64) k.0 (omega arith) (sym r.serving_is ∙ hit) in (
        record me.0 { stage = Turn t },
        keeps,
        tt,
        reload law_of party run stands law n s r 2 id p.number me.0 (Turn t) at is (ap has_ticket waits) (ap has_entry waits) (ap is_out waits) refl (sym now, k.1, k.2),
        λ p' t' e'. ((λ _. ap (λ (z : M). let w : W = record z.0 { stage = Turn t } in (w, z.1)) e' ∙ ap (λ (z : ℕ). let w : W = seated_view p' (Turn z) in let c : List (ℕ × Option V) = [] in (w, c)) (same p' t' e')), (λ miss. absurd (miss (hit ∙ ap (λ (z : ℕ). z % 2 ^ 64) (same p' t' e'))))),
      ))
      (λ miss. (
        me.0,
        keeps,
        tt,
        reload law_of party run stands law n s r 2 id p.number me.0 me.0.stage at is refl refl (ap is_out waits) (ap is_out waits) (r.each id me.0 at).1,
        λ p' t' e'. ((λ hit. absurd (miss (hit ∙ ap (λ (z : ℕ). z % 2 ^ 64) (sym (same p' t' e'))))), (λ _. refl)),
      ))
