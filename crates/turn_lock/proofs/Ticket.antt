-- A ticket is drawn.
use Rattle.std.proofs.Common.{◌≡◌, ℕ, ◌+◌, ◌%◌, ◌^◌, List, [], get_or, set, refl, ap, ◌∙◌, arith, Option, length-set, get_or-set_other, get_or-set_same}
use mathlib.Core.Option.{none, some, some-injective, some-ne-none}
use mathlib.Core.Option as maybe
use Rattle.atomic_table.specs.Table.{State, Me, step, keeps, Allows}
use Rattle.turn_lock.specs.declared.kept.Entry.{Entry}
use Rattle.pass_roles.specs.declared.role.Role.TheVariants.{Party}
use Rattle.turn_lock.specs.declared.view.Stage.TheVariants.{Idle, Waiting}
use Rattle.turn_lock.specs.declared.view.View.{View}
use Rattle.turn_lock.specs.Passes.{Pass}
use Rattle.turn_lock.specs.Rule.{has_ticket, has_entry, is_out, Ruled}
use Rattle.turn_lock.specs.Steps.{seated_view, drew}
use Rattle.turn_lock.proofs.Owners.{put, put_here}
use Rattle.turn_lock.proofs.Stays.{stays_drawn}
use Rattle.turn_lock.proofs.Keeps.{restage, knows, value_stays}

module _ {V L Q A : Type 0} (law_of : V → L) (party : Q → ℕ) (run : L → List (Entry Q A) → Type 0) (stands : V → List (Entry Q A) → Type 0) (law : L) (n : ℕ) where
  abbrev P : Type 0
  P = Pass L Q A

  abbrev W : Type 0
  W = View L Q A

  abbrev St : Type 0
  St = State (Option V) W

  abbrev M : Type 0
  M = Me (Option V) W

  abbrev Homes : Type 0
  Homes = List (maybe.Option (Option V))

  abbrev Rule : St → Type 0
  Rule = Ruled law_of party run stands law n

  pub draws : (slots id : ℕ) (me : M) (p : P) → me ≡ (seated_view p Idle, []) → Allows Rule slots id me 1 (λ x. (x + 1) % 2 ^ 64) (drew (step slots 1 1 0 none) me)
  draws slots id me p e s r _ at _ = let is : me.0.role ≡ Party p.number = ap (λ (x : M). x.0.role) e in let staged : me.0.stage ≡ Idle = ap (λ (x : M). x.0.stage) e in let known = knows law_of party run stands law n s r id p.number me.0 at is in let wide = r.wide in (
    record me.0 { stage = Waiting r.drawn },
    keeps,
    tt,
    restage law_of party run stands law n s r id p.number me.0 (Waiting r.drawn) me.0.seen r.served (r.drawn + 1) (put r.holder r.drawn id) (set s.words 1 ((get_or s.words 1 0 + 1) % 2 ^ 64)) s.homes at is known.seen known.mine_seen (λ z. z)
        (length-set s.words 1 _ ∙ r.wide)
        (get_or-set_same s.words 1 ((get_or s.words 1 0 + 1) % 2 ^ 64) 0 (omega arith) ∙ (let t = r.ticket_is in omega arith))
        (get_or-set_other s.words 1 2 _ 0 (λ z. omega arith) ∙ r.serving_is)
        (let h : has_ticket me.0.stage ≡ 0 = ap has_ticket staged in omega arith)
        (let h : has_entry me.0.stage ≡ 0 = ap has_entry staged in omega arith)
        (λ j d other there. stays_drawn r.history r.served r.drawn r.holder id j d.seen d.stage (r.each j d there).1)
        (let t = r.tickets in omega arith, omega arith, put_here r.holder r.drawn id)
        (value_stays law_of party run stands law n s r id me.0 _ at (ap is_out staged) refl),
    λ p' e'. (r.drawn, r.ticket_is, ap (λ (z : M). let w : W = record z.0 { stage = Waiting r.drawn } in (w, z.1)) e'),
  )
