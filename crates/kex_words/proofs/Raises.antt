-- A card that is taken was used once more than the table it came from knew.
use Rattle.std.proofs.Common.{◌≡◌, ℕ, ◌+◌, ◌%◌, ◌^◌, sym, ap, ◌∙◌, subst, Option}
use Rattle.atomic_table.specs.Seated.{TableId}
use Rattle.atomic_table.specs.Table.{Step}
use Rattle.kex_core.specs.declared.place.Place.{Place}
use Rattle.kex_core.specs.declared.place.Place.TheVariants.{Named}
use Rattle.kex_core.specs.Worlds.{due, after}
use Rattle.kex_core.specs.Shapes.{plan}
use Rattle.kex_words.specs.declared.card.Card.{Card}
use Rattle.kex_words.specs.declared.view.View.{View}
use Rattle.kex_words.specs.Passes.{Pass, next_pass}
use Rattle.pass_roles.specs.Roles.{total, number_of}
use Rattle.kex_words.specs.Rule.{took_of}
use Rattle.kex_words.specs.Moves.{Moved}
use Rattle.kex_words.specs.Steps.{Self, name_at, next_view, pass_of, took, IsPass}
use Rattle.kex_words.proofs.Made.{nothing, of_view}

abbrev Raised : Pass × TableId × View → Type 0
Raised k = (x : Moved k.0 (pass_of k.1 k.2)) × (k.2.uses ≡ (total (took_of (name_at k.2.place)) x.state.views % 2 ^ 64 + 1) % 2 ^ 64)

raised_here : (id : TableId) (st : Step (Option Card)) (m m' : Self) (n s : ℕ) (named : m.0.place ≡ Named s) (inv : IsPass (pass_of id m.0) m) (t : took st m n m') → Raised (pass_of id m.0, id, record (next_view m.0 n) { uses = (t.1.0.uses + 1) % 2 ^ 64 })
raised_here id st m m' n s named inv t =
    let x = of_view (pass_of id m.0) 0 n m.0 (ap (λ (z : Self). z.0) inv.sits) t.0 in
    let name : name_at m.0.place ≡ name_at (next_pass (pass_of id m.0) n).place = ap name_at named ∙ sym (ap (λ (q : Place). name_at (after (plan m.0.net) (number_of m.0.role) (due (plan m.0.net) (number_of m.0.role) q) n)) named) in
    (x.0, ap (λ (z : ℕ). (z + 1) % 2 ^ 64) (t.1.3 ∙ (λ i. total (took_of (name i)) (sym x.1 i) % 2 ^ 64)))

pub raised : (id id' : TableId) (m m' : Self) (n s : ℕ) (p : Pass) (w : View) → m.0.place ≡ Named s → IsPass (pass_of id m.0) m → took nothing m n m' → pass_of id m.0 ≡ p → id' ≡ id → w ≡ m'.0 → Raised (p, id', w)
raised id id' m m' n s p w named inv t p_is id_is w_is =
    let v_is : w ≡ record (next_view m.0 n) { uses = (t.1.0.uses + 1) % 2 ^ 64 } = w_is ∙ ap (λ (z : Self). z.0) t.1.2 in
    subst Raised (λ i. (p_is i, sym id_is i, sym v_is i)) (raised_here id nothing m m' n s named inv t)
