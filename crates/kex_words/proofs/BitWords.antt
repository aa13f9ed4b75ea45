-- The accesses to a bit.
use Rattle.std.proofs.Common.{◌≡◌, ◌≢◌, ℕ, ◌+◌, ◌-◌, ◌*◌, ◌<◌, List, length, get_or, set, sym, refl, ap, subst, ◌∙◌, arith, length-set, get_or-set_other, Option}
use Rattle.std.proofs.lemmas.List.{set-get_or}
use mathlib.Core.Logic.{dite}
use native.Mathlib.Decide.{ℕ_discrete}
use Rattle.atomic_table.proofs.Lists.{set_again}
use mathlib.Core.Option.{none, some}
use lib.ListN.{get_elem?}
use Rattle.atomic_table.specs.Table.{State, step, keeps, Allows}
use Rattle.kex_core.specs.declared.place.Place.{Place}
use Rattle.kex_core.specs.declared.place.Place.TheVariants.{Naming, Named, Clearing}
use Rattle.kex_core.specs.Nets.{Plan}
use Rattle.kex_core.specs.Worlds.{put, due, value_found, x_after, q_after, bit_after, card_after, machine_after_access}
use Rattle.kex_core.specs.Shapes.{plan}
use Rattle.kex_words.specs.declared.card.Card.{Card}
use Rattle.pass_roles.specs.declared.role.Role.TheVariants.{Party}
use Rattle.kex_words.specs.declared.view.View.{View}
use Rattle.kex_words.specs.Passes.{got_after}
use Rattle.pass_roles.specs.Roles.{number_of}
use Rattle.kex_words.specs.Rule.{IsReadOff}
use Rattle.kex_words.specs.Steps.{Self, next_view, moves_no_card, looks_at_bit}
use Rattle.kex_words.proofs.Places.{word_put}
use Rattle.kex_words.proofs.Keeps.{told, reads_plain}
use Rattle.kex_words.proofs.StageWords.{low, free}

abbrev St : Type 0
St = State (Option Card) View

module _ (me : Self) (is : me.0.role ≡ Party (number_of me.0.role)) where
  abbrev v : View
  v = me.0

  abbrev p : ℕ
  p = number_of me.0.role

  abbrev net : Plan
  net = plan me.0.net

  abbrev word_of : ℕ → ℕ
  word_of i = 2 * length v.net.caps + 1 + i

  -- a bit is written
  bit_read : (d : Place) (is_due : due net p v.place ≡ d) (s : St) (id i n y : ℕ) (r : IsReadOff v.net s) (at : get_elem? s.views id ≡ some v) → i + 1 < v.net.width → n ≡ value_found r.world p d
      → got_after d v.got ≡ v.got → card_after d r.world.card ≡ r.world.card → x_after d r.world.x ≡ r.world.x → q_after p d r.world.q ≡ r.world.q → bit_after d r.world.bit ≡ put r.world.bit i y → ((k : ℕ) → d ≢ Named k)
      → (r' : IsReadOff v.net record { words = set s.words (word_of i) y; homes = s.homes; views = set s.views id (next_view v n) }) × (r'.world ≡ machine_after_access net r.world p d)
  bit_read d is_due s id i n y r at inside n_is same_got same_card same_x same_q new_bit other = let w : ℕ = word_of i in let wide = r.wide in
      reads_plain s id v r at is d is_due n n_is (set s.words w y) same_got same_card (free net p d n other) (length-set s.words w y)
      (λ k l. get_or-set_other s.words w (2 * k + 1) y 0 (λ e. omega arith) ∙ (r.x_is k l ∙ ap (λ (f : ℕ → ℕ). f k) (sym same_x)))
      (λ k l. get_or-set_other s.words w (2 * k + 2) y 0 (λ e. omega arith) ∙ (r.q_is k l ∙ ap (λ (f : ℕ → ℕ). f k) (sym same_q)))
      (λ k l. word_put s.words r.world.bit word_of (v.net.width - 1) (λ b h. r.bit_is b (omega arith)) i y (omega arith) (omega arith) (λ b o e. o (omega arith)) k (omega arith) ∙ ap (λ (f : ℕ → ℕ). f k) (sym new_bit))
      (λ k l. get_or-set_other s.words w (2 * length v.net.caps + v.net.width + k) y 0 (λ e. omega arith) ∙ r.card_is k l)

  pub test_read : (s : St) (id i : ℕ) (r : IsReadOff v.net s) (at : get_elem? s.views id ≡ some v) (is_due : due net p v.place ≡ Naming i)
      → (r' : IsReadOff v.net record { words = set s.words (word_of i) 1; homes = s.homes; views = set s.views id (next_view v (get_or s.words (word_of i) 0)) }) × (r'.world ≡ machine_after_access net r.world p (Naming i))
  test_read s id i r at is_due = let l = (low me is s id r at (Naming i) is_due).0 in
      bit_read (Naming i) is_due s id i (get_or s.words (word_of i) 0) 1 r at l (r.bit_is i l) refl refl refl refl refl (λ k e. cc)

  pub clear_read : (s : St) (id i : ℕ) (r : IsReadOff v.net s) (at : get_elem? s.views id ≡ some v) (is_due : due net p v.place ≡ Clearing i)
      → (r' : IsReadOff v.net record { words = set s.words (word_of i) 0; homes = s.homes; views = set s.views id (next_view v 0) }) × (r'.world ≡ machine_after_access net r.world p (Clearing i))
  clear_read s id i r at is_due = bit_read (Clearing i) is_due s id i 0 0 r at (low me is s id r at (Clearing i) is_due).0 refl refl refl refl refl refl (λ k e. cc)

  pub tests : (slots id i : ℕ) → due net p v.place ≡ Naming i → Allows (IsReadOff v.net) slots id me (word_of i) (λ _. 1) (moves_no_card (step slots (word_of i) 1 0 none) me)
  tests slots id i is_due s r _ at _ = let n : ℕ = get_or s.words (word_of i) 0 in
      (next_view v n, keeps, tt, (test_read s id i r at is_due).0, (told s id v r at is (Naming i) is_due n (r.bit_is i (low me is s id r at (Naming i) is_due).0), refl))

  pub clears : (slots id i : ℕ) → due net p v.place ≡ Clearing i → Allows (IsReadOff v.net) slots id me (word_of i) (λ _. 0) (λ _. moves_no_card (step slots (word_of i) 0 0 none) me 0)
  clears slots id i is_due s r _ at _ = (next_view v 0, keeps, tt, (clear_read s id i r at is_due).0, (told s id v r at is (Clearing i) is_due 0 refl, refl))

  -- a word was read, and nothing is known of it
  as_it_was : (s : St) (id w : ℕ) → IsReadOff v.net s → get_elem? s.views id ≡ some v
      → IsReadOff v.net record { words = set s.words w (get_or s.words w 0); homes = s.homes; views = set s.views id v }
  as_it_was s id w r at = subst (λ (z : List ℕ × List View). IsReadOff v.net record { words = z.0; homes = s.homes; views = z.1 })
      (λ i. (sym (set-get_or s.words w 0) i, sym (set_again s.views id v at) i)) r

  pub sees : (slots id i : ℕ) → due net p v.place ≡ Naming i → Allows (IsReadOff v.net) slots id me (word_of i) (λ n. n) (looks_at_bit (step slots (word_of i) 0 0 none) me)
  sees slots id i is_due s r _ at _ = let n : ℕ = get_or s.words (word_of i) 0 in dite (ℕ_discrete n 1)
      (λ one. (
        next_view v n,
        keeps,
        tt,
        subst (λ (k : ℕ). IsReadOff v.net record { words = set s.words (word_of i) k; homes = s.homes; views = set s.views id (next_view v n) }) (sym one) (test_read s id i r at is_due).0,
        (λ _. (told s id v r at is (Naming i) is_due n (r.bit_is i (low me is s id r at (Naming i) is_due).0), refl), λ other. absurd (other one)),
      ))
      (λ other. (v, keeps, tt, as_it_was s id (word_of i) r at, (λ one. absurd (other one), λ _. refl)))
