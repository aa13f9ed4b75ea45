-- The words of a new table, and that its rule holds of them.
use Rattle.std.proofs.Common.{◌≡◌, ◌≢◌, ℕ, zero, suc, ◌+◌, ◌*◌, ◌<◌, ◌≤◌, ltb, List, [], ◌∷◌, length, get_or, set, slice_get, sym, refl, ap, ◌∙◌, subst, inl, arith, length-set, get_or-set_other, get_or-set_same, EachIndex, Option, Some, ⊎_elim}
use Rattle.std.proofs.lemmas.Bool.{lt-ltb}
use mathlib.Core.Option.{some, some-ne-none}
use lib.ListN.{get_elem?}
use Rattle.atomic_table.specs.Table.{opening}
use Rattle.atomic_table.proofs.Lists.{at_map}
use Rattle.kex_core.specs.Worlds as worlds
use Rattle.kex_core.specs.Shapes.{Sheet, plan, IsNet}
use Rattle.kex_core.proofs.Sums.{same_or, yes_is}
use Rattle.kex_core.proofs.Runs.{kept_opening}
use Rattle.kex_words.specs.declared.card.Card.{Card}
use Rattle.kex_words.specs.declared.view.View.{View}
use Rattle.kex_words.specs.Passes.{OpensWords, unused_card}
use Rattle.kex_words.specs.Rule.{Fits, IsReadOff}
use Rattle.kex_words.specs.Steps.{maker}
use Rattle.pass_roles.proofs.Members.{each_snoc}

-- the counters of the stages below j are written
abbrev pub Opened : Sheet → ℕ → List ℕ → Type 0
Opened net j ws = (length ws ≡ 2 * length net.caps + 2 * net.width)
    × ((i : ℕ) → i < j → get_or ws (2 * i + 1) 0 ≡ get_or net.caps i 0 + 1)
    × ((k : ℕ) → ((i : ℕ) → i < j → k ≢ 2 * i + 1) → get_or ws k 0 ≡ 0)

pub opened_more : (net : Sheet) (ws : List ℕ) (j w y : ℕ) → j < length net.caps → w ≡ 2 * j + 1 → y ≡ get_or net.caps j 0 + 1 → Opened net j ws → Opened net (j + 1) (set ws w y)
opened_more net ws j w y inside w_is y_is o = let wide = o.0 in (
  length-set ws w y ∙ o.0,
  (λ i l. ⊎_elim
      (λ (e : i ≡ j). ap (λ (k : ℕ). get_or (set ws w y) k 0) (ap (λ (x : ℕ). 2 * x + 1) e ∙ sym w_is) ∙ (get_or-set_same ws w y 0 (omega arith) ∙ (y_is ∙ ap (λ (x : ℕ). get_or net.caps x 0 + 1) (sym e))))
      (λ (d : i ≢ j). get_or-set_other ws w (2 * i + 1) y 0 (λ e. d (omega arith)) ∙ o.1 i (omega arith)) (same_or i j)),
  (λ k none_of. get_or-set_other ws w k y 0 (λ e. none_of j (omega arith) (e ∙ w_is)) ∙ o.2 k (λ i l. none_of i (omega arith))),
)

pub opens : (net : Sheet) (ws : List ℕ) (j : ℕ) → length net.caps ≤ j → Opened net j ws → j ≤ length net.caps → OpensWords net ws
opens net ws j far o near = record { wide = o.0; counters = λ i l. o.1 i (omega arith); others = λ k h. o.2 k (λ i l. h i (omega arith)) }

got_at : {X : Type 0} (l : List X) (i : ℕ) (x : X) → slice_get l i ≡ Some x → get_elem? l i ≡ some x
got_at [] i x e = absurd (cc)
got_at (y ∷ ys) zero x e = ap some (cc)
got_at (y ∷ ys) (suc i) x e = got_at ys i x e

pub starts : (net told : Sheet) (ws : List ℕ) (slots : List (Option Card)) → told ≡ net → IsNet net → OpensWords net ws → length slots ≡ net.width → EachIndex slots (λ s. slice_get slots s ≡ Some (Some (unused_card s)))
    → IsReadOff told (opening ws slots (maker told 0))
starts net told ws slots is is_net opened count cards = subst (λ (x : Sheet). IsReadOff x (opening ws slots (maker x 0))) (sym is) record {
  world = worlds.opening (plan net);
  made = 0;
  maker_seat = 0;
  owner = λ _. 0;
  is_net = is_net;
  kept = kept_opening (plan net);
  wide = opened.wide;
  x_is = λ j l. opened.counters j l ∙ sym (yes_is (ltb j (length net.caps)) (get_or net.caps j 0 + 1) 0 (lt-ltb j (length net.caps) l));
  q_is = λ j l. opened.others (2 * j + 2) (λ i m e. omega arith);
  bit_is = λ i l. opened.others (2 * length net.caps + 1 + i) (λ j m e. omega arith);
  card_is = λ k l. opened.others (2 * length net.caps + net.width + k) (λ j m e. omega arith);
  cards = λ k l. inl (refl, (unused_card k, at_map some slots k (Some (unused_card k)) (got_at slots k (Some (unused_card k)) (cards k (omega arith))), refl, refl));
  few = omega arith;
  weights = omega arith;
  maker = (maker net 0, refl, refl);
  undealt = λ q _. refl;
  dealt = λ q l. absurd (omega arith);
  each = each_snoc (λ (j : ℕ) (d : View). Fits net (worlds.opening (plan net)) 0 0 (λ _. 0) (maker net 0 ∷ []) j d d.role) [] (maker net 0)
      record { net_is = refl; made_is = refl; seat_is = refl; got = refl } (λ j d e. absurd (some-ne-none d (sym e)));
}
