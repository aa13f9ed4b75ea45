-- The next ticket is served.
use Rattle.std.proofs.Common.{◌≡◌, ℕ, ◌+◌, ◌%◌, ◌^◌, List, [], get_or, set, sym, refl, ap, ◌∙◌, arith, Option, length-set, get_or-set_other, get_or-set_same}
use mathlib.Core.Option.{none, some, some-injective, some-ne-none}
use mathlib.Core.Option as maybe
use Rattle.atomic_table.specs.Table.{State, Me, step, keeps, Allows}
use Rattle.turn_lock.specs.declared.kept.Entry.{Entry}
use Rattle.pass_roles.specs.declared.role.Role.TheVariants.{Party}
use Rattle.turn_lock.specs.declared.view.Stage.TheVariants.{Idle, Home}
use Rattle.turn_lock.specs.declared.view.View.{View}
use Rattle.turn_lock.specs.Passes.{Pass}
use Rattle.turn_lock.specs.Rule.{has_ticket, has_entry, is_out, Ruled}
use Rattle.turn_lock.specs.Steps.{seated_view, hands_on_turn}
use Rattle.turn_lock.proofs.Stays.{stays_passed}
use Rattle.turn_lock.proofs.Keeps.{restage, knows, stage_is, value_stays}

module _ {V L Q A : Type 0} (law_of : V → L) (party : Q → ℕ) (run : L → List (Entry Q A) → Type 0) (stands : V → List (Entry Q A) → Type 0) (law : L) (n : ℕ) where
  abbrev P : Type 0
  P = Pass L Q A

  abbrev W : Type 0
  W = View L Q A

  abbrev St : Type 0
  St = State (Option V) W

  abbrev M : Type 0
  M = Me (Option V) W

  abbrev Homes : Type 0
  Homes = List (maybe.Option (Option V))

  abbrev Rule : St → Type 0
  Rule = Ruled law_of party run stands law n

  pub passes_on : (slots id : ℕ) (me : M) (p : P) (t : ℕ) → me ≡ (seated_view p (Home t), []) → Allows Rule slots id me 2 (λ x. (x + 1) % 2 ^ 64) (hands_on_turn (step slots 2 1 0 none) me)
  passes_on slots id me p t e s r _ at _ = let is : me.0.role ≡ Party p.number = ap (λ (x : M). x.0.role) e in let home : me.0.stage ≡ Home t = ap (λ (x : M). x.0.stage) e in
      let known = knows law_of party run stands law n s r id p.number me.0 at is in let wide = r.wide in let k = stage_is law_of party run stands law n s r id me.0 (Home t) at home in let his : r.holder r.served ≡ id = ap r.holder (sym k.0) ∙ k.2 in (
        record me.0 { stage = Idle },
        keeps,
        tt,
        restage law_of party run stands law n s r id p.number me.0 Idle me.0.seen (r.served + 1) r.drawn r.holder (set s.words 2 ((get_or s.words 2 0 + 1) % 2 ^ 64)) s.homes at is known.seen known.mine_seen (λ z. z)
            (length-set s.words 2 _ ∙ r.wide)
            (get_or-set_other s.words 2 1 _ 0 (λ z. omega arith) ∙ r.ticket_is)
            (get_or-set_same s.words 2 ((get_or s.words 2 0 + 1) % 2 ^ 64) 0 (omega arith) ∙ (let u = r.serving_is in omega arith))
            (let h : has_ticket me.0.stage ≡ 1 = ap has_ticket home in omega arith)
            (let h : has_entry me.0.stage ≡ 1 = ap has_entry home in omega arith)
            (λ j d other there. stays_passed r.history r.history r.served r.drawn r.holder id j d.seen d.stage his other (r.each j d there).1)
            tt
            (value_stays law_of party run stands law n s r id me.0 _ at (ap is_out home) refl),
        λ p' t' e'. ap (λ (z : M). let w : W = record z.0 { stage = Idle } in (w, z.1)) e',
      )
