-- From what is known where a gate is made.
use Rattle.std.proofs.Common.{◌≡◌, ◌≢◌, ℕ, ◌+◌, ◌*◌, ◌<◌, ◌≤◌, min, List, [], length, take, drop, get_or, slice_get, sym, ap, ◌∙◌, subst, arith, Option, Some}
use Rattle.atomic_table.specs.Seated.{TableId}
use Rattle.atomic_table.specs.Table.{opening}
use Rattle.kex_core.specs.Shapes.{Sheet}
use Rattle.kex_net.specs.Gates.{IsGated}
use Rattle.kex_words.specs.Passes.{TableNet, Pass}
use Rattle.kex_gate.specs.Passes.{sessions, resting, room_word, IsSetUp}
use Rattle.kex_gate.specs.Rule.{IsGate}
use Rattle.kex_gate.specs.Steps.{maker, AreInRow}
use Rattle.kex_gate.proofs.Start.{starts, got_take, got_drop}

module _ (seats : TableNet) (net : Sheet) (n k m : ℕ) (two : 2 ≤ n) (one : 1 ≤ k) (thin : 2 * min k n < n) (small : n + min k n ≤ 256) (gated : IsGated n k net) (m_is : m ≡ min k n) (net_is : seats.net ≡ net) where
  is_k : k ≡ m
  is_k = omega arith

  pub widths : (seats.net.parties ≡ n + m) × (seats.net.width ≡ m)
  widths = let a = gated.parties in let b = gated.width in let c : seats.net.parties ≡ net.parties = ap (λ (x : Sheet). x.parties) net_is in let d : seats.net.width ≡ net.width = ap (λ (x : Sheet). x.width) net_is in (omega arith, omega arith)

  pub set_up : (id : TableId) (told : TableNet) (ws : List ℕ) (slots : List (Option Pass)) → told ≡ seats → id.words ≡ length ws → id.slots ≡ length slots → length ws ≡ m + 1 → length slots ≡ m → IsSetUp id told seats n m
  set_up id told ws slots is words_is slots_is wide count = let w = widths in record {
    words = omega arith;
    slots = omega arith;
    told_is = is;
    parties = w.0;
    width = w.1;
    two = two;
    one = omega arith;
    thin = omega arith;
    small = omega arith;
    gated = subst (λ (x : ℕ × Sheet). IsGated n x.0 x.1) (λ i. (is_k i, sym net_is i)) gated;
  }

  module _ (own : List Pass) (each : (i : ℕ) → i < length own → slice_get own i ≡ Some (resting seats i [])) (count : length own ≡ seats.net.parties) where
    pub in_row : (l : List Pass) → l ≡ take n own → length l ≡ n → AreInRow seats 0 l × (length l ≡ sessions seats.net)
    in_row l is long = let w = widths in (
      λ i lt. ap (λ (z : List Pass). slice_get z i) is ∙ (got_take own n i (omega arith) ∙ (each i (omega arith) ∙ ap (λ (j : ℕ). Some (resting seats j [])) (omega arith))),
      omega arith,
    )

    pub opens : (told : TableNet) (gate : List Pass) (slots : List (Option Pass)) (ws : List ℕ) → told ≡ seats → gate ≡ drop n own → length gate + n ≡ length own → length slots ≡ length gate
        → ((j : ℕ) → j < length gate → (p : Pass) → slice_get gate j ≡ Some p → slice_get slots j ≡ Some (Some p))
        → length ws ≡ m + 1 → get_or ws room_word 0 ≡ 256 + m → ((j : ℕ) → j ≢ room_word → get_or ws j 0 ≡ 0) → IsGate told (opening ws slots (maker told 0))
    opens told gate slots ws is gate_is rest_is slots_is same wide room others = let w = widths in
        starts seats told n m ws slots is (omega arith) (omega arith) w.0 w.1 wide room others (omega arith)
        (λ i l. same i (omega arith) (resting seats (n + i) []) (ap (λ (z : List Pass). slice_get z i) gate_is ∙ (got_drop own n i ∙ each (n + i) (omega arith))))
