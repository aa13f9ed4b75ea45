-- The words of a family, and the places that an access leads to.
use Rattle.std.proofs.Common.{◌≡◌, ◌≢◌, ℕ, ◌+◌, ◌<◌, ◌≤◌, cond, eqb, List, length, get_or, set, sym, ap, ◌∙◌, ⊎_elim, arith, get_or-set_other, get_or-set_same}
use Rattle.kex_core.specs.declared.place.Place.{Place}
use Rattle.kex_core.specs.declared.place.Place.TheVariants.{Out, Dec, Mark, Look, Spin, Naming, Named, Holding, Clearing, Inc, Unmark}
use Rattle.kex_core.specs.Nets.{Plan, before}
use Rattle.kex_core.specs.Worlds.{put, due, place_past, back, after}
use Rattle.kex_core.specs.Costs.{kept_at}
use Rattle.kex_core.proofs.Sums.{same_or, chosen, put_at, put_else}

-- the words of a family stand at `at`, and are read as a function
module _ (ws : List ℕ) (f : ℕ → ℕ) (at : ℕ → ℕ) (n : ℕ) (reads : (j : ℕ) → j < n → get_or ws (at j) 0 ≡ f j) where
  -- one of them is written
  pub word_put : (i y : ℕ) → i < n → at i < length ws → ((j : ℕ) → j ≢ i → at j ≢ at i) → (j : ℕ) → j < n → get_or (set ws (at i) y) (at j) 0 ≡ put f i y j
  word_put i y inside wide apart j l = ⊎_elim
      (λ (e : j ≡ i). ap (λ (k : ℕ). get_or (set ws (at i) y) (at k) 0) e ∙ (get_or-set_same ws (at i) y 0 wide ∙ sym (put_at f i y j e)))
      (λ (d : j ≢ i). get_or-set_other ws (at i) (at j) y 0 (apart j d) ∙ (reads j l ∙ sym (put_else f i y j d))) (same_or j i)

  -- another word is written
  pub word_else : (k y : ℕ) → ((j : ℕ) → j < n → at j ≢ k) → (j : ℕ) → j < n → get_or (set ws k y) (at j) 0 ≡ f j
  word_else k y apart j l = get_or-set_other ws k (at j) y 0 (apart j l) ∙ reads j l

module _ (net : Plan) (p : ℕ) where
  passed_free : (j s : ℕ) → place_past net j ≢ Holding s
  passed_free j s = chosen (λ (q : Place). q ≢ Holding s) (eqb (net.next j) net.stages) (cond (eqb net.width 1) (Named 0) (Naming 0)) (Dec (net.next j))
      (λ _. chosen (λ (q : Place). q ≢ Holding s) (eqb net.width 1) (Named 0) (Naming 0) (λ _ z. cc) (λ _ z. cc)) (λ _ z. cc)

  back_free : (j s : ℕ) → back net p j ≢ Holding s
  back_free j s = chosen (λ (q : Place). q ≢ Holding s) (eqb (net.start p) j) Out (Inc (before net p j)) (λ _ z. cc) (λ _ z. cc)

  -- only a card that is taken is held
  pub held_from : (d : Place) (n s : ℕ) → after net p d n ≡ Holding s → d ≡ Named s
  held_from Out n s e = absurd (cc)
  held_from (Dec j) n s e = absurd (chosen (λ (q : Place). q ≢ Holding s) (eqb n 1) (Mark j) (place_past net j) (λ _ z. cc) (λ _. passed_free j s) e)
  held_from (Mark j) n s e = absurd (cc)
  held_from (Look j) n s e = absurd (chosen (λ (q : Place). q ≢ Holding s) (eqb n 0) (Spin j) (place_past net j) (λ _ z. cc) (λ _. passed_free j s) e)
  held_from (Spin j) n s e = absurd (chosen (λ (q : Place). q ≢ Holding s) (eqb n (p + 1)) (Spin j) (place_past net j) (λ _ z. cc) (λ _. passed_free j s) e)
  held_from (Naming i) n s e = absurd (chosen (λ (q : Place). q ≢ Holding s) (eqb n 0) (Named i) (cond (eqb (i + 2) net.width) (Named (i + 1)) (Naming (i + 1))) (λ _ z. cc)
      (λ _. chosen (λ (q : Place). q ≢ Holding s) (eqb (i + 2) net.width) (Named (i + 1)) (Naming (i + 1)) (λ _ z. cc) (λ _ z. cc)) e)
  held_from (Named t) n s e = same t s e
    where
      same : (t s : ℕ) → Holding t ≡ Holding s → Named t ≡ Named s
      same t s e = cc
  held_from (Holding t) n s e = absurd (chosen (λ (q : Place). q ≢ Holding s) (eqb (t + 1) net.width) (back net p net.stages) (Clearing t) (λ _. back_free net.stages s) (λ _ z. cc) e)
  held_from (Clearing t) n s e = absurd (back_free net.stages s e)
  held_from (Inc j) n s e = absurd (cc)
  held_from (Unmark j) n s e = absurd (back_free j s e)

pub kept_at_le : (d : Place) (n : ℕ) → kept_at d n ≤ n
kept_at_le Out n = omega arith
kept_at_le (Dec j) n = omega arith
kept_at_le (Mark j) n = omega arith
kept_at_le (Look j) n = omega arith
kept_at_le (Spin j) n = omega arith
kept_at_le (Naming i) n = omega arith
kept_at_le (Named s) n = omega arith
kept_at_le (Holding s) n = omega arith
kept_at_le (Clearing s) n = omega arith
kept_at_le (Inc j) n = omega arith
kept_at_le (Unmark j) n = omega arith

pub never_out : (net : Plan) (p : ℕ) (d : Place) → due net p d ≢ Out
never_out net p Out z = chosen (λ (q : Place). q ≢ Out) (eqb (net.start p) net.stages) (Naming 0) (Dec (net.start p)) (λ _ y. cc) (λ _ y. cc) z
never_out net p (Dec j) z = cc
never_out net p (Mark j) z = cc
never_out net p (Look j) z = cc
never_out net p (Spin j) z = cc
never_out net p (Naming i) z = cc
never_out net p (Named s) z = cc
never_out net p (Holding s) z = cc
never_out net p (Clearing s) z = cc
never_out net p (Inc j) z = cc
never_out net p (Unmark j) z = cc
