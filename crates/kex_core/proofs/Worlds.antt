-- The program's world makes the moves of the machine.
use Rattle.std.proofs.Common.{◌≡◌, ◌⊎◌, ℕ, ◌+◌, ◌<◌, ◌≤◌, ◌^◌, List, length, set, get_or, slice_index, sym, ap, ◌∙◌, subst, ⊎_elim, arith, length-set}
use Rattle.std.proofs.lemmas.List.{get_or_past}
use Rattle.std.proofs.lemmas.Grind.{common_steps}
use Rattle.std.proofs.lemmas.Bool.{cases_lt}
use Rattle.kex_core.specs.declared.place.Place.{Place}
use Rattle.kex_core.specs.declared.place.Place.TheVariants.{Out, Dec, Mark, Look, Spin, Naming, Named, Holding, Clearing, Inc, Unmark}
use Rattle.kex_core.specs.Nets.{Plan}
use Rattle.kex_core.specs.Worlds.{Machine, put, due, value_found, after, x_after, q_after, bit_after, card_after, machine_after_access, move}
use Rattle.kex_core.specs.Laws.{Placed, Kept}
use Rattle.kex_core.specs.Shapes.{Sheet, plan, IsNet, State, machine, IsWorld, HasWord}
use Rattle.kex_core.proofs.Steps.{placed_due}
use Rattle.kex_core.proofs.Runs.{kept_move}
use Rattle.kex_core.proofs.Exports.{move_is, dec_above}
use Rattle.kex_core.proofs.Lists.{put_list}

pub machine_eq : (m n : Machine) → m.x ≡ n.x → m.q ≡ n.q → m.bit ≡ n.bit → m.card ≡ n.card → m.place ≡ n.place → m ≡ n
machine_eq m n a b c d e = λ i. record { x = a i; q = b i; bit = c i; card = d i; place = e i }

has_word : (net : Plan) (p b c : ℕ) (d : Place) → b + 1 ≡ net.width → c ≡ net.width → Placed net p d → HasWord net.stages b c d
has_word net p b c Out e f h = tt
has_word net p b c (Dec j) e f h = h.0
has_word net p b c (Mark j) e f h = h.0
has_word net p b c (Look j) e f h = h.0
has_word net p b c (Spin j) e f h = h.0
has_word net p b c (Naming i) e f h = let l = h.0 in omega arith
has_word net p b c (Named i) e f h = let l = h.0 in omega arith
has_word net p b c (Holding i) e f h = let l = h.0 in omega arith
has_word net p b c (Clearing i) e f h = let l = h.0 in omega arith
has_word net p b c (Inc j) e f h = h.0
has_word net p b c (Unmark j) e f h = h.0

module _ (s : State) (world : IsWorld s) (p : ℕ) (mine : p < s.net.parties) (d : Place) (is : d ≡ due (plan s.net) p ((machine s).place p)) where
  pub step_placed : Placed (plan s.net) p d
  step_placed = subst (Placed (plan s.net) p) (sym is) (placed_due (plan s.net) world.net.valid p mine ((machine s).place p) (world.kept.placed p mine))

  pub step_word : HasWord (length s.counters) (length s.bits) (length s.cards) d
  step_word = subst (λ (n : ℕ). HasWord n (length s.bits) (length s.cards) d) (sym world.counters) (has_word (plan s.net) p (length s.bits) (length s.cards) d world.bits world.cards step_placed)

  pub step_above : (j : ℕ) → d ≡ Dec j → 0 < slice_index s.counters j
  step_above j e = dec_above (plan s.net) world.net.valid (machine s) world.kept p mine d (sym is) j e

  -- the lists after the access
  pub record Written (t : State) (a : Place) : Type 0 where
    pub net : t.net ≡ s.net
    pub x : (machine t).x ≡ x_after d (machine s).x
    pub q : (machine t).q ≡ q_after p d (machine s).q
    pub bit : (machine t).bit ≡ bit_after d (machine s).bit
    pub card : (machine t).card ≡ card_after d (machine s).card
    pub places : t.places ≡ set s.places p a
    pub after : a ≡ after (plan s.net) p d (value_found (machine s) p d)
    pub counters : length t.counters ≡ length s.counters
    pub spin_words : length t.spin_words ≡ length s.spin_words
    pub bits : length t.bits ≡ length s.bits
    pub cards : length t.cards ≡ length s.cards

  module _ (t : State) (a : Place) (written : Written t a) where
    pub step_moved : machine t ≡ move (plan s.net) (machine s) p
    step_moved = machine_eq (machine t) (machine_after_access (plan s.net) (machine s) p d) written.x written.q written.bit written.card
        (let read : List Place → ℕ → Place = λ l j. get_or l j Out in ap read written.places ∙ (put_list s.places p a Out (let l = world.places in omega arith) ∙ ap (put (machine s).place p) written.after))
        ∙ sym (move_is (plan s.net) world.net.valid (machine s) world.kept p mine d (sym is))

    pub step_world : IsWorld t
    step_world = record {
      net = subst IsNet (sym written.net) world.net;
      kept = subst (λ (n : Sheet). Kept (plan n) (machine t)) (sym written.net) (subst (Kept (plan s.net)) (sym step_moved) (kept_move (plan s.net) world.net.valid (machine s) world.kept p mine));
      places = let e : length t.places ≡ length s.places = ap length written.places ∙ length-set s.places p a in let f : t.net.parties ≡ s.net.parties = ap (λ (n : Sheet). n.parties) written.net in let l = world.places in omega arith;
      counters = written.counters ∙ (world.counters ∙ ap (λ (n : Sheet). length n.caps) (sym written.net));
      spin_words = written.spin_words ∙ (world.spin_words ∙ ap (λ (n : Sheet). length n.caps) (sym written.net));
      bits = let e = written.bits in let f : t.net.width ≡ s.net.width = ap (λ (n : Sheet). n.width) written.net in let l = world.bits in omega arith;
      cards = written.cards ∙ (world.cards ∙ ap (λ (n : Sheet). n.width) (sym written.net));
    }

pub step_room : (s : State) → IsWorld s → (j : ℕ) → slice_index s.counters j + 1 < 2 ^ 64
step_room s world j = ⊎_elim
    (λ (l : j < length s.net.caps). let a = world.kept.counters j l in let b = world.net.caps j in omega arith)
    (λ (l : length s.net.caps ≤ j). let a = world.counters in let b : slice_index s.counters j ≡ 0 = get_or_past s.counters j 0 (omega arith) in omega arith) (cases_lt j (length s.net.caps))

pub same_place : (l : List Place) (i : ℕ) (x : Place) → i < length l → x ≡ get_or l i x → x ≡ get_or l i Out
same_place l i x h e = e ∙ any l i x Out h
  where
    any : (l : List Place) (i : ℕ) (x y : Place) → i < length l → get_or l i x ≡ get_or l i y
    any l i x y h = grind (arith, common_steps)
