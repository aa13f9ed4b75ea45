-- A ticket is drawn where it is the next one.
use Rattle.std.proofs.Common.{◌≡◌, ℕ, ◌+◌, ◌%◌, ◌^◌, ◌==◌, Bool, false, List, [], get_or, sym, refl, ap, ◌∙◌, subst, Option}
use prog.Atomic.{either}
use Rattle.std.proofs.lemmas.Bool.{eq-eqb, ne_eqb}
use mathlib.Core.Logic.{dite}
use mathlib.Core.Option.{none}
use native.Mathlib.Decide.{ℕ_discrete}
use Rattle.atomic_table.specs.Table.{State, Me, step, stepped, keeps, Allows}
use Rattle.turn_lock.specs.declared.kept.Entry.{Entry}
use Rattle.pass_roles.specs.declared.role.Role.TheVariants.{Party}
use Rattle.turn_lock.specs.declared.view.Stage.TheVariants.{Idle}
use Rattle.turn_lock.specs.declared.view.View.{View}
use Rattle.turn_lock.specs.Passes.{Pass}
use Rattle.turn_lock.specs.Rule.{is_out, Ruled}
use Rattle.turn_lock.specs.Steps.{seated_view, claims_ticket}
use Rattle.turn_lock.proofs.Keeps.{reload}
use Rattle.turn_lock.proofs.Ticket.{draws}

module _ {V L Q A : Type 0} (law_of : V → L) (party : Q → ℕ) (run : L → List (Entry Q A) → Type 0) (stands : V → List (Entry Q A) → Type 0) (law : L) (n : ℕ) where
  abbrev P : Type 0
  P = Pass L Q A

  abbrev W : Type 0
  W = View L Q A

  abbrev St : Type 0
  St = State (Option V) W

  abbrev M : Type 0
  M = Me (Option V) W

  abbrev Rule : St → Type 0
  Rule = Ruled law_of party run stands law n

  pub claims : (slots id old new : ℕ) (me : M) (p : P) → new ≡ (old + 1) % 2 ^ 64 → me ≡ (seated_view p Idle, [])
      → Allows Rule slots id me 1 (λ x. either (x == old) new x) (claims_ticket (step slots 1 old new none) me)
  claims slots id old new me p next e s r wide at small = let is : me.0.role ≡ Party p.number = ap (λ (x : M). x.0.role) e in let idle : me.0.stage ≡ Idle = ap (λ (x : M). x.0.stage) e in
      dite (ℕ_discrete (get_or s.words 1 0) old)
      (λ hit. let d = draws law_of party run stands law n slots id me p e s r wide at small in
      let word : (get_or s.words 1 0 + 1) % 2 ^ 64 ≡ either (get_or s.words 1 0 == old) new (get_or s.words 1 0) =
      ap (λ (z : ℕ). (z + 1) % 2 ^ 64) hit ∙ (sym next ∙ ap (λ (b : Bool). either b new (get_or s.words 1 0)) (sym (eq-eqb (get_or s.words 1 0) old hit))) in (
        d.0,
        d.1,
        d.2,
        subst (λ (z : ℕ). Rule (stepped s 1 z id me.1 d.0 d.1)) word d.3,
        λ p' e'. ((λ _. d.4 p' e'), (λ miss. absurd (miss hit))),
      ))
      (λ miss. let word : get_or s.words 1 0 ≡ either (get_or s.words 1 0 == old) new (get_or s.words 1 0) =
      ap (λ (b : Bool). either b new (get_or s.words 1 0)) (sym (ne_eqb (get_or s.words 1 0) old miss)) in
      let away : is_out me.0.stage ≡ false = ap is_out idle in (
        me.0,
        keeps,
        tt,
        subst (λ (z : ℕ). Rule (stepped s 1 z id me.1 me.0 keeps)) word (reload law_of party run stands law n s r 1 id p.number me.0 me.0.stage at is refl refl away away (r.each id me.0 at).1),
        λ p' e'. ((λ hit. absurd (miss hit)), (λ _. refl)),
      ))
