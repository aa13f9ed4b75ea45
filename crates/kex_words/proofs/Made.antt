-- What a step call says of its pass, from what its access told of the seat's view.
use Rattle.std.proofs.Common.{◌≡◌, ℕ, refl, sym, ap, ◌∙◌, subst, Option}
use mathlib.Core.Option.{none}
use Rattle.atomic_table.specs.Seated.{TableId}
use Rattle.atomic_table.specs.Table.{Step, step}
use Rattle.kex_words.specs.declared.card.Card.{Card}
use Rattle.kex_words.specs.declared.view.View.{View}
use Rattle.kex_words.specs.Passes.{Pass, Held, next_pass}
use Rattle.kex_words.specs.Steps.{Self, holding_seat, pass_of, held_of, next_view, Told, moves_no_card, gave, IsPass, IsHolder}
use Rattle.kex_words.specs.Moves.{Moved}

-- what a step tells does not depend on its numbers
abbrev pub nothing : Step (Option Card)
nothing = step 0 0 0 0 none

abbrev of_pass : (p : Pass) (u n : ℕ) → Told (holding_seat p u) n → Moved p (next_pass p n)
of_pass p u n t = record { state = t.state; ruled = t.ruled; seat = t.seat; uses = u; sits = t.sits; inside = t.inside; stood = t.stood; now = ap (next_pass p) t.found_is; bounded = t.bounded }

pub of_view : (p : Pass) (u n : ℕ) (v : View) → v ≡ holding_seat p u → (t : Told v n) → (x : Moved p (next_pass p n)) × (x.state.views ≡ t.state.views)
of_view p u n v is = subst (λ (w : View). (t : Told w n) → (x : Moved p (next_pass p n)) × (x.state.views ≡ t.state.views)) (sym is) (λ t. (of_pass p u n t, refl))

both_are : (p p' q q' : Pass) → p ≡ p' → q ≡ q' → Moved p q → Moved p' q'
both_are p p' q q' p_is q_is m = subst (λ (x : Pass × Pass). Moved x.0 x.1) (λ i. (p_is i, q_is i)) m

-- of an access that moved no card
pub made : (id id' : TableId) (m m' : Self) (n : ℕ) (p q : Pass) → pass_of id m.0 ≡ p → IsPass (pass_of id m.0) m → moves_no_card nothing m n m' → id' ≡ id → q ≡ pass_of id' m'.0 → Moved p q
made id id' m m' n p q p_is inv t id_is q_is = both_are (pass_of id m.0) p (next_pass (pass_of id m.0) n) q p_is (sym (q_is ∙ (λ i. pass_of (id_is i) (t.1 i).0)))
    (let x = of_view (pass_of id m.0) 0 n m.0 (ap (λ (z : Self). z.0) inv.sits) t.0 in x.0)

-- of one after a look that left the seat as it was
pub made_after : (id id' : TableId) (m k m' : Self) (n : ℕ) (p q : Pass) → pass_of id m.0 ≡ p → IsPass (pass_of id m.0) m → k ≡ m → moves_no_card nothing k n m' → id' ≡ id → q ≡ pass_of id' m'.0 → Moved p q
made_after id id' m k m' n p q p_is inv same t id_is q_is = made id id' m m' n p q p_is inv (subst (λ (x : Self). moves_no_card nothing x n m') same t) id_is q_is

-- of one by which the card went home, which had been laid into the seat's hand
pub made_home : (id id' : TableId) (m k m' : Self) (n : ℕ) (h : Held) (q : Pass) → held_of id m.0 ≡ h → IsHolder (held_of id m.0) m → k.0 ≡ m.0 → gave nothing k n m' → id' ≡ id → q ≡ pass_of id' m'.0 → Moved h.pass q
made_home id id' m k m' n h q h_is inv same t id_is q_is = both_are (pass_of id m.0) h.pass (next_pass (pass_of id m.0) n) q (ap (λ (x : Held). x.pass) h_is)
    (sym (q_is ∙ ((λ i. pass_of (id_is i) (t.1 i).0) ∙ ap (λ (v : View). pass_of id (next_view v n)) same)))
    (let x = of_view (pass_of id m.0) m.0.uses n k.0 (same ∙ ap (λ (z : Self). z.0) inv.sits) t.0 in x.0)
