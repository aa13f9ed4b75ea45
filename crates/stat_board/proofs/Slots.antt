-- The steps of passes keep the rule of the table of readers.
use Rattle.std.proofs.Common.{◌≡◌, ◌≢◌, ℕ, eqb, zero, suc, ◌<◌, List, [], ◌∷◌, map, length, replicate, get_or, set, refl, sym, ap, subst, ◌∙◌, ⊎_elim, arith, Option, None, Some, length-set, get_or-set_other, get_or-set_same}
use mathlib.Core.Logic.{dite}
use mathlib.Core.Option.{none, some, some-injective, some-ne-none}
use mathlib.Core.Option as maybe
use native.Mathlib.Decide.{ℕ_discrete}
use lib.ListN.{get_elem?, length-replicate}
use lib.Seq.{set-get_or}
use prog.Atomic.{either}
use Rattle.atomic_table.specs.Table.{State, Me, step, keeps, takes, gives, Allows, Splits, opening}
use Rattle.atomic_table.proofs.Lists.{at_set, set_here, set_else, at_snoc, some_there, exchanged}
use Rattle.stat_board.specs.Fronts.{Front, IsSameBoard}
use Rattle.stat_board.specs.Sharing.{IsServing, IsShared, takes_slot, gives_slot}
use Rattle.stat_board.proofs.Told.{told_same}

module _ {R : Type 0} (knows : R → Option Front) where
  abbrev Homes : Type 0
  Homes = List (maybe.Option (Option R))

  abbrev St : Type 0
  St = State (Option R) Front

  pub serving_same : (f h : Front) (slot : Option R) → IsServing knows f slot → IsSameBoard h f → IsServing knows h slot
  serving_same f h None is same = tt
  serving_same f h (Some r) is same = told_same f h (knows r) is same

  pub serving_key : (f g : Front) (slot : Option R) → g ≡ f → IsServing knows g slot → IsServing knows f slot
  serving_key f g slot e is = subst (λ (z : Front). IsServing knows z slot) e is

  all_vacant : (n i : ℕ) (x : Option R) → get_elem? (map some (replicate n None)) i ≡ some (some x) → None ≡ x
  all_vacant zero i x e = absurd (some-ne-none (some x) (sym e))
  all_vacant (suc n) zero x e = some-injective None x (some-injective (some None) (some x) e)
  all_vacant (suc n) (suc i) x e = all_vacant n i x e

  vacant_length : (n : ℕ) → length {A = maybe.Option (Option R)} (map some (replicate n None)) ≡ n
  vacant_length zero = refl
  vacant_length (suc n) = ap suc (vacant_length n)

  -- a table with no reader yet
  pub opens : (words : List ℕ) (n : ℕ) (f : Front) → length words ≡ n → IsShared knows f (opening words (replicate n None) f)
  opens words n f wide = record {
    wide = wide ∙ sym (vacant_length n);
    free = λ i inside _. some_there (replicate n None) i (subst (λ (z : ℕ). i < z) (vacant_length n ∙ sym (length-replicate n None)) inside);
    serving = λ i x at. subst (IsServing knows f) (all_vacant n i x at) tt;
    seats = λ j g at. ⊎_elim (λ e. absurd (some-ne-none g (sym e))) (λ e. sym e) (at_snoc [] f g j at);
  }

  same_key : (f g : Front) (views : List Front) (id : ℕ) → ((j : ℕ) (h : Front) → get_elem? views j ≡ some h → h ≡ f) → g ≡ f → (j : ℕ) (h : Front) → get_elem? (set views id g) j ≡ some h → h ≡ f
  same_key f g views id each same j h at = ⊎_elim (λ (t : (j ≡ id) × (g ≡ h)). sym t.1 ∙ same) (λ (t : (j ≢ id) × (get_elem? views j ≡ some h)). each j h t.1) (at_set views id j g h at)

  -- a slot goes out
  goes_out : (f : Front) (s : St) (i id : ℕ) (v : Front) → IsShared knows f s → get_elem? s.views id ≡ some v → i < length s.words
      → IsShared knows f record { words = set s.words i 1; homes = set s.homes i none; views = set s.views id v }
  goes_out f s i id v r at inside = record {
    wide = length-set s.words i 1 ∙ (r.wide ∙ sym (length-set s.homes i none));
    free = λ j within zero_is. dite (ℕ_discrete j i)
        (λ here. let one : get_or (set s.words i 1) j 0 ≡ 1 = ap (λ (z : ℕ). get_or (set s.words i 1) z 0) here ∙ get_or-set_same s.words i 1 0 inside in absurd (omega (arith, one, zero_is)))
        (λ other. let k = r.free j (subst (λ (z : ℕ). j < z) (length-set s.homes i none) within) (sym (get_or-set_other s.words i j 1 0 other) ∙ zero_is) in (k.0, set_else s.homes i j none other ∙ k.1));
    serving = λ j x there. ⊎_elim (λ (t : (j ≡ i) × (none ≡ some x)). absurd (some-ne-none x (sym t.1))) (λ (t : (j ≢ i) × (get_elem? s.homes j ≡ some (some x))). r.serving j x t.1) (at_set s.homes i j none (some x) there);
    seats = same_key f v s.views id r.seats (r.seats id v at);
  }

  -- nothing changes
  stays_out : (f : Front) (s : St) (i id : ℕ) (v : Front) → IsShared knows f s → get_elem? s.views id ≡ some v
      → IsShared knows f record { words = set s.words i (get_or s.words i 0); homes = s.homes; views = set s.views id v }
  stays_out f s i id v r at = subst (λ (ws : List ℕ). IsShared knows f record { words = ws; homes = s.homes; views = set s.views id v }) (sym (set-get_or s.words i 0)) record {
    wide = r.wide;
    free = r.free;
    serving = r.serving;
    seats = same_key f v s.views id r.seats (r.seats id v at);
  }

  pub takes_out : (f : Front) (slots id : ℕ) (me : Me (Option R) Front) (i : ℕ) → i < slots
      → Allows (IsShared knows f) slots id me i (λ n. either (eqb n 0) 1 n) (takes_slot knows (step slots i 0 1 none) me)
  takes_out f slots id me i inside s r deep at small =
      let wide : i < length s.words = subst (λ (z : ℕ). i < z) (sym (r.wide ∙ deep)) inside in
      let home : i < length s.homes = subst (λ (z : ℕ). i < z) (sym deep) inside in
      dite (ℕ_discrete (get_or s.words i 0) 0)
      (λ free. let x = r.free i home free in (
        me.0,
        takes i x.0,
        x.1,
        exchanged (get_or s.words i 0) 0 1 (λ (m : ℕ). IsShared knows f record { words = set s.words i m; homes = set s.homes i none; views = set s.views id me.0 })
            (λ _. goes_out f s i id me.0 r at wide) (λ taken. absurd (taken free)),
        ((λ _. (x.0, refl, serving_key me.0 f x.0 (sym (r.seats id me.0 at)) (r.serving i x.0 x.1))), λ taken. absurd (taken free)),
      ))
      (λ taken. (
        me.0,
        keeps,
        tt,
        exchanged (get_or s.words i 0) 0 1 (λ (m : ℕ). IsShared knows f record { words = set s.words i m; homes = s.homes; views = set s.views id me.0 })
            (λ free. absurd (taken free)) (λ _. stays_out f s i id me.0 r at),
        ((λ free. absurd (taken free)), λ _. refl),
      ))

  -- a slot goes home
  goes_home : (f : Front) (s : St) (i id : ℕ) (v : Front) (x : Option R) → IsShared knows f s → get_elem? s.views id ≡ some v → i < length s.homes → IsServing knows f x
      → IsShared knows f record { words = set s.words i 0; homes = set s.homes i (some x); views = set s.views id v }
  goes_home f s i id v x r at inside is = record {
    wide = length-set s.words i 0 ∙ (r.wide ∙ sym (length-set s.homes i (some x)));
    free = λ j within zero_is. dite (ℕ_discrete j i)
        (λ here. (x, ap (get_elem? (set s.homes i (some x))) here ∙ set_here s.homes i (some x) inside))
        (λ other. let k = r.free j (subst (λ (z : ℕ). j < z) (length-set s.homes i (some x)) within) (sym (get_or-set_other s.words i j 0 0 other) ∙ zero_is) in (k.0, set_else s.homes i j (some x) other ∙ k.1));
    serving = λ j y there. ⊎_elim (λ (t : (j ≡ i) × (some x ≡ some y)). subst (IsServing knows f) (some-injective x y t.1) is) (λ (t : (j ≢ i) × (get_elem? s.homes j ≡ some (some y))). r.serving j y t.1) (at_set s.homes i j (some x) (some y) there);
    seats = same_key f v s.views id r.seats (r.seats id v at);
  }

  gives_from : (f : Front) (slots id i : ℕ) (v : Front) (x : Option R) (c : List (ℕ × Option R)) → i < slots → IsServing knows v x
      → Allows (IsShared knows f) slots id (v, (i, x) ∷ c) i (λ _. 0) (λ _. gives_slot (step slots i 0 0 none) (v, (i, x) ∷ c) 0)
  gives_from f slots id i v x c inside is s r deep at small =
      let home : i < length s.homes = subst (λ (z : ℕ). i < z) (sym deep) inside in
      (v, gives, tt, goes_home f s i id v x r at home (serving_key f v x (r.seats id v at) is), refl)

  pub gives_home : (f : Front) (slots id i : ℕ) (me : Me (Option R) Front) (v : Front) (x : Option R) (c : List (ℕ × Option R)) → me ≡ (v, (i, x) ∷ c) → i < slots → IsServing knows v x
      → Allows (IsShared knows f) slots id me i (λ _. 0) (λ _. gives_slot (step slots i 0 0 none) me 0)
  gives_home f slots id i me v x c e inside is =
      subst (λ (m : Me (Option R) Front). Allows (IsShared knows f) slots id m i (λ _. 0) (λ _. gives_slot (step slots i 0 0 none) m 0)) (sym e) (gives_from f slots id i v x c inside is)

  -- a seat for one pass more
  pub deals : (f : Front) (id : ℕ) (v : Front) → Splits (IsShared knows f) id v v v
  deals f id v s r at = record {
    wide = r.wide;
    free = r.free;
    serving = r.serving;
    seats = λ j g there. ⊎_elim (same_key f v s.views id r.seats (r.seats id v at) j g) (λ (same : v ≡ g). sym same ∙ r.seats id v at) (at_snoc (set s.views id v) v g j there);
  }
