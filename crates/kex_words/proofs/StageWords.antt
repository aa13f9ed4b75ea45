-- The accesses to a stage's two words.
use Rattle.std.proofs.Common.{◌≡◌, ◌≢◌, ℕ, ◌+◌, ◌-◌, ◌*◌, ◌%◌, ◌^◌, ◌<◌, List, length, get_or, set, sym, refl, ap, ◌∙◌, arith, length-set, get_or-set_other, Option}
use mathlib.Core.Option.{none, some}
use lib.ListN.{get_elem?}
use lib.Seq.{set-get_or}
use Rattle.atomic_table.specs.Table.{State, step, keeps, Allows}
use Rattle.kex_core.specs.declared.place.Place.{Place}
use Rattle.kex_core.specs.declared.place.Place.TheVariants.{Dec, Mark, Look, Spin, Named, Holding, Inc, Unmark}
use Rattle.kex_core.specs.Nets.{Plan}
use Rattle.kex_core.specs.Worlds.{put, due, value_found, after, x_after, q_after, bit_after, card_after, machine_after_access}
use Rattle.kex_core.specs.Laws.{Placed}
use Rattle.kex_core.specs.Shapes.{plan}
use Rattle.kex_core.proofs.Exports.{due_placed, dec_above, inc_below, x_top}
use Rattle.kex_words.specs.declared.card.Card.{Card}
use Rattle.pass_roles.specs.declared.role.Role.TheVariants.{Party}
use Rattle.kex_words.specs.declared.view.View.{View}
use Rattle.kex_words.specs.Passes.{got_after}
use Rattle.pass_roles.specs.Roles.{number_of}
use Rattle.kex_words.specs.Rule.{IsReadOff}
use Rattle.kex_words.specs.Steps.{Self, next_view, moves_no_card}
use Rattle.kex_words.proofs.Places.{word_put, word_else, held_from}
use Rattle.kex_words.proofs.Keeps.{mine, there, told, reads_plain}

abbrev St : Type 0
St = State (Option Card) View

same_words : (ws : List ℕ) (i j : ℕ) → get_or (set ws i (get_or ws i 0)) j 0 ≡ get_or ws j 0
same_words ws i j = ap (λ (l : List ℕ). get_or l j 0) (set-get_or ws i 0)

-- whoever is not at Named comes to no card
pub free : (net : Plan) (p : ℕ) (d : Place) (n : ℕ) → ((k : ℕ) → d ≢ Named k) → (k : ℕ) → after net p d n ≢ Holding k
free net p d n other k e = other k (held_from net p d n k e)

module _ (me : Self) (is : me.0.role ≡ Party (number_of me.0.role)) where
  abbrev v : View
  v = me.0

  abbrev p : ℕ
  p = number_of me.0.role

  abbrev net : Plan
  net = plan me.0.net

  -- a stage whose access is due is one of the net's
  pub low : (s : St) (id : ℕ) (r : IsReadOff v.net s) → get_elem? s.views id ≡ some v → (d : Place) → due net p v.place ≡ d → Placed net p d
  low s id r at d is_due = due_placed net r.is_net.valid r.world r.kept p (mine s id v r at is d is_due) d (there s id v r at is d is_due)

  pub dec_read : (s : St) (id j : ℕ) (r : IsReadOff v.net s) (at : get_elem? s.views id ≡ some v) (is_due : due net p v.place ≡ Dec j)
      → (r' : IsReadOff v.net record { words = set s.words (2 * j + 1) ((get_or s.words (2 * j + 1) 0 + (2 ^ 64 - 1)) % 2 ^ 64); homes = s.homes; views = set s.views id (next_view v (get_or s.words (2 * j + 1) 0)) }) × (r'.world ≡ machine_after_access net r.world p (Dec j))
  dec_read s id j r at is_due =
      let inside : j < length v.net.caps = (low s id r at (Dec j) is_due).0 in let wide = r.wide in
      let n : ℕ = get_or s.words (2 * j + 1) 0 in let n_is : n ≡ r.world.x j = r.x_is j inside in
      let above = dec_above net r.is_net.valid r.world r.kept p (mine s id v r at is (Dec j) is_due) (Dec j) (there s id v r at is (Dec j) is_due) j refl in
      let top = x_top net r.world r.kept j inside in let cap = r.is_net.caps j in
      let y : ℕ = (n + (2 ^ 64 - 1)) % 2 ^ 64 in let y_is : y ≡ r.world.x j - 1 = omega arith in
      reads_plain s id v r at is (Dec j) is_due n n_is (set s.words (2 * j + 1) y) refl refl (free net p (Dec j) n (λ k e. cc)) (length-set s.words (2 * j + 1) y)
      (λ k l. word_put s.words r.world.x (λ i. 2 * i + 1) (length v.net.caps) r.x_is j y inside (omega arith) (λ i o e. o (omega arith)) k l ∙ ap (λ (x : ℕ). put r.world.x j x k) y_is)
      (λ k l. word_else s.words r.world.q (λ i. 2 * i + 2) (length v.net.caps) r.q_is (2 * j + 1) y (λ i _ e. omega arith) k l)
      (λ k l. get_or-set_other s.words (2 * j + 1) (2 * length v.net.caps + 1 + k) y 0 (λ e. omega arith) ∙ r.bit_is k l)
      (λ k l. get_or-set_other s.words (2 * j + 1) (2 * length v.net.caps + v.net.width + k) y 0 (λ e. omega arith) ∙ r.card_is k l)

  pub decs : (slots id j : ℕ) → due net p v.place ≡ Dec j → Allows (IsReadOff v.net) slots id me (2 * j + 1) (λ n. (n + (2 ^ 64 - 1)) % 2 ^ 64) (moves_no_card (step slots (2 * j + 1) 1 0 none) me)
  decs slots id j is_due s r _ at _ = let n : ℕ = get_or s.words (2 * j + 1) 0 in
      (next_view v n, keeps, tt, (dec_read s id j r at is_due).0, (told s id v r at is (Dec j) is_due n (r.x_is j (low s id r at (Dec j) is_due).0), refl))

  pub inc_read : (s : St) (id j : ℕ) (r : IsReadOff v.net s) (at : get_elem? s.views id ≡ some v) (is_due : due net p v.place ≡ Inc j)
      → (r' : IsReadOff v.net record { words = set s.words (2 * j + 1) ((get_or s.words (2 * j + 1) 0 + 1) % 2 ^ 64); homes = s.homes; views = set s.views id (next_view v (get_or s.words (2 * j + 1) 0)) }) × (r'.world ≡ machine_after_access net r.world p (Inc j))
  inc_read s id j r at is_due =
      let inside : j < length v.net.caps = (low s id r at (Inc j) is_due).0 in let wide = r.wide in
      let n : ℕ = get_or s.words (2 * j + 1) 0 in let n_is : n ≡ r.world.x j = r.x_is j inside in
      let top = inc_below net r.is_net.valid r.world r.kept p (mine s id v r at is (Inc j) is_due) (Inc j) (there s id v r at is (Inc j) is_due) j refl in let cap = r.is_net.caps j in
      let y : ℕ = (n + 1) % 2 ^ 64 in let y_is : y ≡ r.world.x j + 1 = omega arith in
      reads_plain s id v r at is (Inc j) is_due n n_is (set s.words (2 * j + 1) y) refl refl (free net p (Inc j) n (λ k e. cc)) (length-set s.words (2 * j + 1) y)
      (λ k l. word_put s.words r.world.x (λ i. 2 * i + 1) (length v.net.caps) r.x_is j y inside (omega arith) (λ i o e. o (omega arith)) k l ∙ ap (λ (x : ℕ). put r.world.x j x k) y_is)
      (λ k l. word_else s.words r.world.q (λ i. 2 * i + 2) (length v.net.caps) r.q_is (2 * j + 1) y (λ i _ e. omega arith) k l)
      (λ k l. get_or-set_other s.words (2 * j + 1) (2 * length v.net.caps + 1 + k) y 0 (λ e. omega arith) ∙ r.bit_is k l)
      (λ k l. get_or-set_other s.words (2 * j + 1) (2 * length v.net.caps + v.net.width + k) y 0 (λ e. omega arith) ∙ r.card_is k l)

  pub incs : (slots id j : ℕ) → due net p v.place ≡ Inc j → Allows (IsReadOff v.net) slots id me (2 * j + 1) (λ n. (n + 1) % 2 ^ 64) (moves_no_card (step slots (2 * j + 1) 1 0 none) me)
  incs slots id j is_due s r _ at _ = let n : ℕ = get_or s.words (2 * j + 1) 0 in
      (next_view v n, keeps, tt, (inc_read s id j r at is_due).0, (told s id v r at is (Inc j) is_due n (r.x_is j (low s id r at (Inc j) is_due).0), refl))

  -- a word is read, and all stay as they are
  pub load_read : (d : Place) (is_due : due net p v.place ≡ d) (s : St) (id i : ℕ) (r : IsReadOff v.net s) (at : get_elem? s.views id ≡ some v) → get_or s.words i 0 ≡ value_found r.world p d
      → got_after d v.got ≡ v.got → card_after d r.world.card ≡ r.world.card → x_after d r.world.x ≡ r.world.x → q_after p d r.world.q ≡ r.world.q → bit_after d r.world.bit ≡ r.world.bit → ((k : ℕ) → d ≢ Named k)
      → (r' : IsReadOff v.net record { words = set s.words i (get_or s.words i 0); homes = s.homes; views = set s.views id (next_view v (get_or s.words i 0)) }) × (r'.world ≡ machine_after_access net r.world p d)
  load_read d is_due s id i r at n_is same_got same_card same_x same_q same_bit other = let n : ℕ = get_or s.words i 0 in
      reads_plain s id v r at is d is_due n n_is (set s.words i n) same_got same_card (free net p d n other) (length-set s.words i n)
      (λ k l. same_words s.words i (2 * k + 1) ∙ (r.x_is k l ∙ ap (λ (f : ℕ → ℕ). f k) (sym same_x)))
      (λ k l. same_words s.words i (2 * k + 2) ∙ (r.q_is k l ∙ ap (λ (f : ℕ → ℕ). f k) (sym same_q)))
      (λ k l. same_words s.words i (2 * length v.net.caps + 1 + k) ∙ (r.bit_is k l ∙ ap (λ (f : ℕ → ℕ). f k) (sym same_bit)))
      (λ k l. same_words s.words i (2 * length v.net.caps + v.net.width + k) ∙ r.card_is k l)

  pub look_read : (s : St) (id j : ℕ) (r : IsReadOff v.net s) (at : get_elem? s.views id ≡ some v) (is_due : due net p v.place ≡ Look j)
      → (r' : IsReadOff v.net record { words = set s.words (2 * j + 1) (get_or s.words (2 * j + 1) 0); homes = s.homes; views = set s.views id (next_view v (get_or s.words (2 * j + 1) 0)) }) × (r'.world ≡ machine_after_access net r.world p (Look j))
  look_read s id j r at is_due = load_read (Look j) is_due s id (2 * j + 1) r at (r.x_is j (low s id r at (Look j) is_due).0) refl refl refl refl refl (λ k e. cc)

  pub spin_read : (s : St) (id j : ℕ) (r : IsReadOff v.net s) (at : get_elem? s.views id ≡ some v) (is_due : due net p v.place ≡ Spin j)
      → (r' : IsReadOff v.net record { words = set s.words (2 * j + 2) (get_or s.words (2 * j + 2) 0); homes = s.homes; views = set s.views id (next_view v (get_or s.words (2 * j + 2) 0)) }) × (r'.world ≡ machine_after_access net r.world p (Spin j))
  spin_read s id j r at is_due = load_read (Spin j) is_due s id (2 * j + 2) r at (r.q_is j (low s id r at (Spin j) is_due).0) refl refl refl refl refl (λ k e. cc)

  pub looks : (slots id j : ℕ) → due net p v.place ≡ Look j → Allows (IsReadOff v.net) slots id me (2 * j + 1) (λ n. n) (moves_no_card (step slots (2 * j + 1) 0 0 none) me)
  looks slots id j is_due s r _ at _ = let n : ℕ = get_or s.words (2 * j + 1) 0 in (next_view v n, keeps, tt, (look_read s id j r at is_due).0, (told s id v r at is (Look j) is_due n (r.x_is j (low s id r at (Look j) is_due).0), refl))

  pub spins : (slots id j : ℕ) → due net p v.place ≡ Spin j → Allows (IsReadOff v.net) slots id me (2 * j + 2) (λ n. n) (moves_no_card (step slots (2 * j + 2) 0 0 none) me)
  spins slots id j is_due s r _ at _ = let n : ℕ = get_or s.words (2 * j + 2) 0 in (next_view v n, keeps, tt, (spin_read s id j r at is_due).0, (told s id v r at is (Spin j) is_due n (r.q_is j (low s id r at (Spin j) is_due).0), refl))

  -- the party's number is written into a spin word
  name_read : (d : Place) (is_due : due net p v.place ≡ d) (s : St) (id j : ℕ) (r : IsReadOff v.net s) (at : get_elem? s.views id ≡ some v) → j < length v.net.caps → p + 1 ≡ value_found r.world p d
      → got_after d v.got ≡ v.got → card_after d r.world.card ≡ r.world.card → x_after d r.world.x ≡ r.world.x → q_after p d r.world.q ≡ put r.world.q j (p + 1) → bit_after d r.world.bit ≡ r.world.bit → ((k : ℕ) → d ≢ Named k)
      → (r' : IsReadOff v.net record { words = set s.words (2 * j + 2) (p + 1); homes = s.homes; views = set s.views id (next_view v (p + 1)) }) × (r'.world ≡ machine_after_access net r.world p d)
  name_read d is_due s id j r at inside n_is same_got same_card same_x new_q same_bit other = let i : ℕ = 2 * j + 2 in let n : ℕ = p + 1 in let wide = r.wide in
      reads_plain s id v r at is d is_due n n_is (set s.words i n) same_got same_card (free net p d n other) (length-set s.words i n)
      (λ k l. word_else s.words r.world.x (λ i. 2 * i + 1) (length v.net.caps) r.x_is (2 * j + 2) n (λ i _ e. omega arith) k l ∙ ap (λ (f : ℕ → ℕ). f k) (sym same_x))
      (λ k l. word_put s.words r.world.q (λ i. 2 * i + 2) (length v.net.caps) r.q_is j n inside (let g = r.is_net.sized.wide in omega arith) (λ i o e. o (omega arith)) k l ∙ ap (λ (f : ℕ → ℕ). f k) (sym new_q))
      (λ k l. get_or-set_other s.words i (2 * length v.net.caps + 1 + k) n 0 (λ e. omega arith) ∙ (r.bit_is k l ∙ ap (λ (f : ℕ → ℕ). f k) (sym same_bit)))
      (λ k l. get_or-set_other s.words i (2 * length v.net.caps + v.net.width + k) n 0 (λ e. omega arith) ∙ r.card_is k l)

  pub mark_read : (s : St) (id j : ℕ) (r : IsReadOff v.net s) (at : get_elem? s.views id ≡ some v) (is_due : due net p v.place ≡ Mark j)
      → (r' : IsReadOff v.net record { words = set s.words (2 * j + 2) (p + 1); homes = s.homes; views = set s.views id (next_view v (p + 1)) }) × (r'.world ≡ machine_after_access net r.world p (Mark j))
  mark_read s id j r at is_due = name_read (Mark j) is_due s id j r at (low s id r at (Mark j) is_due).0 refl refl refl refl refl refl (λ k e. cc)

  pub unmark_read : (s : St) (id j : ℕ) (r : IsReadOff v.net s) (at : get_elem? s.views id ≡ some v) (is_due : due net p v.place ≡ Unmark j)
      → (r' : IsReadOff v.net record { words = set s.words (2 * j + 2) (p + 1); homes = s.homes; views = set s.views id (next_view v (p + 1)) }) × (r'.world ≡ machine_after_access net r.world p (Unmark j))
  unmark_read s id j r at is_due = name_read (Unmark j) is_due s id j r at (low s id r at (Unmark j) is_due).0 refl refl refl refl refl refl (λ k e. cc)

  pub marks : (slots id j : ℕ) → due net p v.place ≡ Mark j → Allows (IsReadOff v.net) slots id me (2 * j + 2) (λ _. p + 1) (λ _. moves_no_card (step slots (2 * j + 2) (p + 1) 0 none) me (p + 1))
  marks slots id j is_due s r _ at _ = (next_view v (p + 1), keeps, tt, (mark_read s id j r at is_due).0, (told s id v r at is (Mark j) is_due (p + 1) refl, refl))

  pub unmarks : (slots id j : ℕ) → due net p v.place ≡ Unmark j → Allows (IsReadOff v.net) slots id me (2 * j + 2) (λ _. p + 1) (λ _. moves_no_card (step slots (2 * j + 2) (p + 1) 0 none) me (p + 1))
  unmarks slots id j is_due s r _ at _ = (next_view v (p + 1), keeps, tt, (unmark_read s id j r at is_due).0, (told s id v r at is (Unmark j) is_due (p + 1) refl, refl))
