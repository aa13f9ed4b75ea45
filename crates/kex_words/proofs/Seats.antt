-- A pass at its table, where the access of the place d is due.
use Rattle.std.proofs.Common.{◌≡◌, ℕ, ◌+◌, ◌-◌, ◌*◌, ◌%◌, ◌^◌, ◌<◌, ◌≤◌, List, [], ◌∷◌, length, sym, ap, ◌∙◌, subst, arith, Option, Some}
use mathlib.Core.Option.{none}
use Rattle.atomic_table.specs.Seated.{TableId}
use Rattle.atomic_table.specs.Table.{step, rest, Allows}
use Rattle.kex_core.specs.declared.place.Place.{Place}
use Rattle.kex_core.specs.declared.place.Place.TheVariants.{Dec, Mark, Look, Spin, Naming, Named, Holding, Clearing, Inc, Unmark}
use Rattle.kex_core.specs.Worlds.{due}
use Rattle.kex_core.specs.Laws.{Placed}
use Rattle.kex_core.specs.Shapes.{Sheet, plan, IsNet}
use Rattle.kex_core.proofs.Steps.{placed_due}
use Rattle.pass_roles.specs.declared.role.Role.TheVariants.{Party}
use Rattle.kex_words.specs.declared.card.Card.{Card}
use Rattle.kex_words.specs.Passes.{TableNet, Pass, Held, IsSetUp}
use Rattle.pass_roles.specs.Roles.{number_of}
use Rattle.kex_words.specs.Rule.{IsReadOff}
use Rattle.kex_words.specs.Steps.{Self, pass_of, held_of, name_at, IsPass, IsHolder, moves_no_card, looks_at_bit, took, gave}
use Rattle.kex_words.proofs.StageWords.{decs, incs, looks, spins, marks, unmarks}
use Rattle.kex_words.proofs.BitWords.{tests, clears, sees}
use Rattle.kex_words.proofs.CardWords.{takes_card, gives_card}

-- the table has its id, the net that its rule was told, and its own net; the seat is of that table, and is its party's
pub record Sits (id : TableId) (told : Sheet) (net : Sheet) (seat_id : TableId) (m : Self) (number : ℕ) (d : Place) : Type 0 where
  pub words : id.words ≡ 2 * length net.caps + 2 * net.width
  pub wide : 1 ≤ net.width
  pub same : seat_id ≡ id
  pub told_is : m.0.net ≡ told
  pub net_is : m.0.net ≡ net
  pub role : m.0.role ≡ Party (number_of m.0.role)
  pub number_is : number ≡ number_of m.0.role
  pub is_due : due (plan m.0.net) (number_of m.0.role) m.0.place ≡ d
  pub placed : Placed (plan net) number d

-- from what is known at a step call
pub sits : (id : TableId) (told net : Sheet) (self : TableNet) (seat_id : TableId) (m : Self) (number : ℕ) (place d : Place) (pass : Pass)
    → IsSetUp id told net → record { id = id; net = net } ≡ self → pass_of seat_id m.0 ≡ pass → pass.table ≡ self
    → IsPass (pass_of seat_id m.0) m → number ≡ number_of m.0.role → place ≡ m.0.place → d ≡ due (plan net) number place
    → Sits id told net seat_id m number d
sits id told net self seat_id m number place d pass up self_is pass_is own inv number_is place_is d_is =
    let t : record { id = seat_id; net = m.0.net } ≡ record { id = id; net = net } = ap (λ (p : Pass). p.table) pass_is ∙ (own ∙ sym self_is) in
    let net_is : m.0.net ≡ net = ap (λ (x : TableNet). x.net) t in
    let due_is : due (plan m.0.net) (number_of m.0.role) m.0.place ≡ d = (λ i. due (plan (net_is i)) (sym number_is i) (sym place_is i)) ∙ sym d_is in record {
      words = up.words;
      wide = up.is_net.sized.wide;
      same = ap (λ (x : TableNet). x.id) t;
      told_is = net_is ∙ sym up.told_is;
      net_is = net_is;
      role = ap (λ (x : Self). x.0.role) inv.sits;
      number_is = number_is;
      is_due = due_is;
      placed = subst (λ (x : Sheet × ℕ × Place). Placed (plan x.0) x.1 x.2) (λ i. (net_is i, sym number_is i, due_is i))
          (placed_due (plan m.0.net) (subst (λ (x : Sheet). IsNet x) (sym net_is) up.is_net).valid (number_of m.0.role) inv.inside m.0.place inv.placed);
    }

-- the same of a seat that a look left as it was
pub still_sits : (id : TableId) (told net : Sheet) (seat_id seat_id' : TableId) (m m' : Self) (number : ℕ) (d : Place) → Sits id told net seat_id m number d → seat_id' ≡ seat_id → m' ≡ m → Sits id told net seat_id' m' number d
still_sits id told net seat_id seat_id' m m' number d s same is = subst (λ (x : TableId × Self). Sits id told net x.0 x.1 number d) (λ i. (sym same i, sym is i)) s

-- the same where a card is in hand
pub sits_holding : (id : TableId) (told net : Sheet) (self : TableNet) (seat_id : TableId) (m : Self) (number k : ℕ) (held : Held)
    → IsSetUp id told net → record { id = id; net = net } ≡ self → held_of seat_id m.0 ≡ held → held.pass.table ≡ self
    → IsHolder (held_of seat_id m.0) m → number ≡ number_of m.0.role → k ≡ name_at m.0.place
    → Sits id told net seat_id m number (Holding k)
sits_holding id told net self seat_id m number k held up self_is held_is own inv number_is k_is =
    let t : record { id = seat_id; net = m.0.net } ≡ record { id = id; net = net } = ap (λ (h : Held). h.pass.table) held_is ∙ (own ∙ sym self_is) in
    let net_is : m.0.net ≡ net = ap (λ (x : TableNet). x.net) t in
    let place_is : m.0.place ≡ Holding k = inv.place_is ∙ ap Holding (sym k_is) in record {
      words = up.words;
      wide = up.is_net.sized.wide;
      same = ap (λ (x : TableNet). x.id) t;
      told_is = net_is ∙ sym up.told_is;
      net_is = net_is;
      role = ap (λ (x : Self). x.0.role) inv.sits;
      number_is = number_is;
      is_due = ap (due (plan m.0.net) (number_of m.0.role)) place_is;
      placed = subst (λ (x : Sheet × ℕ × Place). Placed (plan x.0) x.1 x.2) (λ i. (net_is i, sym number_is i, place_is i)) inv.placed;
    }

module _ (id : TableId) (told net : Sheet) (seat_id : TableId) (m : Self) (number : ℕ) (d : Place) (s : Sits id told net seat_id m number d) where
  pub placed_at : (e : Place) → d ≡ e → Placed (plan net) number e
  placed_at e is = subst (Placed (plan net) number) is s.placed

  pub placed_for : (self : TableNet) → record { id = id; net = net } ≡ self → (e : Place) → d ≡ e → Placed (plan self.net) number e
  placed_for self self_is e is = subst (λ (x : TableNet). Placed (plan x.net) number e) self_is (placed_at e is)

  pub lowers : (seat slots w j : ℕ) → d ≡ Dec j → w ≡ 2 * j + 1
      → (seat_id ≡ id) × (w < id.words) × Allows (IsReadOff told) slots seat m w (λ n. (n + (2 ^ 64 - 1)) % 2 ^ 64) (moves_no_card (step slots w 1 0 none) m)
  lowers seat slots w j is w_is = (
    s.same,
    (let a = (placed_at (Dec j) is).0 in let b = s.words in omega arith),
    subst (λ (x : Sheet × ℕ). Allows (IsReadOff x.0) slots seat m x.1 (λ n. (n + (2 ^ 64 - 1)) % 2 ^ 64) (moves_no_card (step slots x.1 1 0 none) m)) (λ i. (s.told_is i, sym w_is i)) (decs m s.role slots seat j (s.is_due ∙ is)),
  )

  pub raises : (seat slots w j : ℕ) → d ≡ Inc j → w ≡ 2 * j + 1
      → (seat_id ≡ id) × (w < id.words) × Allows (IsReadOff told) slots seat m w (λ n. (n + 1) % 2 ^ 64) (moves_no_card (step slots w 1 0 none) m)
  raises seat slots w j is w_is = (
    s.same,
    (let a = (placed_at (Inc j) is).0 in let b = s.words in omega arith),
    subst (λ (x : Sheet × ℕ). Allows (IsReadOff x.0) slots seat m x.1 (λ n. (n + 1) % 2 ^ 64) (moves_no_card (step slots x.1 1 0 none) m)) (λ i. (s.told_is i, sym w_is i)) (incs m s.role slots seat j (s.is_due ∙ is)),
  )

  pub reads_counter : (seat slots w j : ℕ) → d ≡ Look j → w ≡ 2 * j + 1
      → (seat_id ≡ id) × (w < id.words) × Allows (IsReadOff told) slots seat m w (λ n. n) (moves_no_card (step slots w 0 0 none) m)
  reads_counter seat slots w j is w_is = (
    s.same,
    (let a = (placed_at (Look j) is).0 in let b = s.words in omega arith),
    subst (λ (x : Sheet × ℕ). Allows (IsReadOff x.0) slots seat m x.1 (λ n. n) (moves_no_card (step slots x.1 0 0 none) m)) (λ i. (s.told_is i, sym w_is i)) (looks m s.role slots seat j (s.is_due ∙ is)),
  )

  pub reads_name : (seat slots w j : ℕ) → d ≡ Spin j → w ≡ 2 * j + 2
      → (seat_id ≡ id) × (w < id.words) × Allows (IsReadOff told) slots seat m w (λ n. n) (moves_no_card (step slots w 0 0 none) m)
  reads_name seat slots w j is w_is = (
    s.same,
    (let a = (placed_at (Spin j) is).0 in let b = s.words in omega arith),
    subst (λ (x : Sheet × ℕ). Allows (IsReadOff x.0) slots seat m x.1 (λ n. n) (moves_no_card (step slots x.1 0 0 none) m)) (λ i. (s.told_is i, sym w_is i)) (spins m s.role slots seat j (s.is_due ∙ is)),
  )

  pub writes_name : (seat slots w y j : ℕ) → d ≡ Mark j → w ≡ 2 * j + 2 → y ≡ number + 1
      → (seat_id ≡ id) × (w < id.words) × Allows (IsReadOff told) slots seat m w (λ _. y) (λ _. moves_no_card (step slots w y 0 none) m y)
  writes_name seat slots w y j is w_is y_is = (
    s.same,
    (let a = (placed_at (Mark j) is).0 in let b = s.words in let c = s.wide in omega arith),
    subst (λ (x : Sheet × ℕ × ℕ). Allows (IsReadOff x.0) slots seat m x.1 (λ _. x.2) (λ _. moves_no_card (step slots x.1 x.2 0 none) m x.2)) (λ i. (s.told_is i, sym w_is i, sym (y_is ∙ ap (λ (n : ℕ). n + 1) s.number_is) i)) (marks m s.role slots seat j (s.is_due ∙ is)),
  )

  pub rewrites_name : (seat slots w y j : ℕ) → d ≡ Unmark j → w ≡ 2 * j + 2 → y ≡ number + 1
      → (seat_id ≡ id) × (w < id.words) × Allows (IsReadOff told) slots seat m w (λ _. y) (λ _. moves_no_card (step slots w y 0 none) m y)
  rewrites_name seat slots w y j is w_is y_is = (
    s.same,
    (let a = (placed_at (Unmark j) is).0 in let b = s.words in let c = s.wide in omega arith),
    subst (λ (x : Sheet × ℕ × ℕ). Allows (IsReadOff x.0) slots seat m x.1 (λ _. x.2) (λ _. moves_no_card (step slots x.1 x.2 0 none) m x.2)) (λ i. (s.told_is i, sym w_is i, sym (y_is ∙ ap (λ (n : ℕ). n + 1) s.number_is) i)) (unmarks m s.role slots seat j (s.is_due ∙ is)),
  )

  pub sets_bit : (self : TableNet) → record { id = id; net = net } ≡ self → (seat slots w b : ℕ) → d ≡ Naming b → w ≡ 2 * length self.net.caps + 1 + b
      → (seat_id ≡ id) × (w < id.words) × Allows (IsReadOff told) slots seat m w (λ _. 1) (moves_no_card (step slots w 1 0 none) m)
  sets_bit self self_is seat slots w b is w_is = (
    s.same,
    (let a = (placed_at (Naming b) is).0 in let c = s.words in let e : length net.caps ≡ length self.net.caps = ap (λ (x : TableNet). length x.net.caps) self_is in omega arith),
    subst (λ (x : Sheet × ℕ). Allows (IsReadOff x.0) slots seat m x.1 (λ _. 1) (moves_no_card (step slots x.1 1 0 none) m)) (λ i. (s.told_is i, sym (w_is ∙ (ap (λ (x : TableNet). 2 * length x.net.caps + 1 + b) (sym self_is) ∙ ap (λ (n : Sheet). 2 * length n.caps + 1 + b) (sym s.net_is))) i)) (tests m s.role slots seat b (s.is_due ∙ is)),
  )

  pub sees_bit : (self : TableNet) → record { id = id; net = net } ≡ self → (seat slots w b : ℕ) → d ≡ Naming b → w ≡ 2 * length self.net.caps + 1 + b
      → (seat_id ≡ id) × (w < id.words) × Allows (IsReadOff told) slots seat m w (λ n. n) (looks_at_bit (step slots w 0 0 none) m)
  sees_bit self self_is seat slots w b is w_is = (
    s.same,
    (let a = (placed_at (Naming b) is).0 in let c = s.words in let e : length net.caps ≡ length self.net.caps = ap (λ (x : TableNet). length x.net.caps) self_is in omega arith),
    subst (λ (x : Sheet × ℕ). Allows (IsReadOff x.0) slots seat m x.1 (λ n. n) (looks_at_bit (step slots x.1 0 0 none) m)) (λ i. (s.told_is i, sym (w_is ∙ (ap (λ (x : TableNet). 2 * length x.net.caps + 1 + b) (sym self_is) ∙ ap (λ (n : Sheet). 2 * length n.caps + 1 + b) (sym s.net_is))) i)) (sees m s.role slots seat b (s.is_due ∙ is)),
  )

  pub clears_bit : (self : TableNet) → record { id = id; net = net } ≡ self → (seat slots w b : ℕ) → d ≡ Clearing b → w ≡ 2 * length self.net.caps + 1 + b
      → (seat_id ≡ id) × (w < id.words) × Allows (IsReadOff told) slots seat m w (λ _. 0) (λ _. moves_no_card (step slots w 0 0 none) m 0)
  clears_bit self self_is seat slots w b is w_is = (
    s.same,
    (let a = (placed_at (Clearing b) is).0 in let c = s.words in let e : length net.caps ≡ length self.net.caps = ap (λ (x : TableNet). length x.net.caps) self_is in omega arith),
    subst (λ (x : Sheet × ℕ). Allows (IsReadOff x.0) slots seat m x.1 (λ _. 0) (λ _. moves_no_card (step slots x.1 0 0 none) m 0)) (λ i. (s.told_is i, sym (w_is ∙ (ap (λ (x : TableNet). 2 * length x.net.caps + 1 + b) (sym self_is) ∙ ap (λ (n : Sheet). 2 * length n.caps + 1 + b) (sym s.net_is))) i)) (clears m s.role slots seat b (s.is_due ∙ is)),
  )

  pub takes_out : (self : TableNet) → record { id = id; net = net } ≡ self → (seat slots w k : ℕ) → m.0.place ≡ Named k → d ≡ Named k → w ≡ 2 * length self.net.caps + self.net.width + k
      → (seat_id ≡ id) × (w < id.words) × Allows (IsReadOff told) slots seat m w (λ _. 1) (took (step slots w 1 0 none) m)
  takes_out self self_is seat slots w k place_is is w_is = (
    s.same,
    (let a = (placed_at (Named k) is).0 in let c = s.words in let e : length net.caps ≡ length self.net.caps = ap (λ (x : TableNet). length x.net.caps) self_is in let f : net.width ≡ self.net.width = ap (λ (x : TableNet). x.net.width) self_is in omega arith),
    subst (λ (x : Sheet × ℕ). Allows (IsReadOff x.0) slots seat m x.1 (λ _. 1) (took (step slots x.1 1 0 none) m))
        (λ i. (s.told_is i, sym (w_is ∙ (ap (λ (x : TableNet). 2 * length x.net.caps + x.net.width + k) (sym self_is) ∙ ap (λ (n : Sheet). 2 * length n.caps + n.width + k) (sym s.net_is))) i)) (takes_card m s.role slots seat k place_is),
  )

  -- the card is in hand again
  pub gives_home : (self : TableNet) → record { id = id; net = net } ≡ self → (m' : Self) (seat_id' : TableId) (c : Card) (seat slots w k : ℕ) → d ≡ Holding k → m.0.place ≡ Holding k → c.number ≡ k → c.uses ≡ m.0.uses → rest m.1 ≡ []
      → seat_id' ≡ seat_id → m' ≡ (m.0, (k, Some c) ∷ rest m.1) → w ≡ 2 * length self.net.caps + self.net.width + k
      → (seat_id' ≡ id) × (w < id.words) × Allows (IsReadOff told) slots seat m' w (λ _. 0) (gave (step slots w 0 0 none) m')
  gives_home self self_is m' seat_id' c seat slots w k is place_is c_number c_uses empty same_id m_is w_is = (
    same_id ∙ s.same,
    (let a = (placed_at (Holding k) is).0 in let c = s.words in let e : length net.caps ≡ length self.net.caps = ap (λ (x : TableNet). length x.net.caps) self_is in let f : net.width ≡ self.net.width = ap (λ (x : TableNet). x.net.width) self_is in omega arith),
    subst (λ (x : Sheet × ℕ × Self). Allows (IsReadOff x.0) slots seat x.2 x.1 (λ _. 0) (gave (step slots x.1 0 0 none) x.2))
        (λ i. (
          s.told_is i,
          sym (w_is ∙ (ap (λ (x : TableNet). 2 * length x.net.caps + x.net.width + k) (sym self_is) ∙ ap (λ (n : Sheet). 2 * length n.caps + n.width + k) (sym s.net_is))) i,
          sym (m_is ∙ ap (λ (t : List (ℕ × Option Card)). let h : List (ℕ × Option Card) = (k, Some c) ∷ t in (m.0, h)) empty) i,
        )) (gives_card m.0 s.role c slots seat k place_is c_number c_uses),
  )
