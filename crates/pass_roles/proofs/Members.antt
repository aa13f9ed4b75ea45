-- Sums over lists, and lists in which one member changes.
use Rattle.std.proofs.Common.{◌≡◌, ◌≢◌, ◌⊎◌, ℕ, zero, suc, ◌+◌, ◌<◌, ◌≤◌, List, [], ◌∷◌, ◌++◌, length, get_or, set, map, sym, refl, ap, ◌∙◌, subst, ⊎_elim, inl, inr, arith, slice_get, Some, Option, option_to_list, All, append_assoc, EachIndex, length-append}
use mathlib.Core.Option.{some, some-injective, some-ne-none}
use mathlib.Core.Logic.{dite}
use native.Mathlib.Decide.{dec_le}
use lib.ListN.{get_elem?}
use Rattle.atomic_table.proofs.Lists.{at_set, at_last, at_longer}
use Rattle.pass_roles.specs.Roles.{total}

module _ {X : Type 0} where
  pub total_set : (f : X → ℕ) (l : List X) (i : ℕ) (v w : X) → get_elem? l i ≡ some v → total f (set l i w) + f v ≡ total f l + f w
  total_set f [] i v w e = absurd (some-ne-none v (sym e))
  total_set f (x ∷ xs) zero v w e = let q : f x ≡ f v = ap f (some-injective x v e) in omega arith
  total_set f (x ∷ xs) (suc i) v w e = let q = total_set f xs i v w e in omega arith

  pub total_le : (f g : X → ℕ) (l : List X) → ((j : ℕ) (v : X) → get_elem? l j ≡ some v → f v ≤ g v) → total f l ≤ total g l
  total_le f g [] h = omega arith
  total_le f g (x ∷ xs) h = let a : f x ≤ g x = h 0 x refl in let b = total_le f g xs (λ j v e. h (suc j) v e) in omega arith

  pub total_none : (f : X → ℕ) (l : List X) → ((j : ℕ) (v : X) → get_elem? l j ≡ some v → f v ≡ 0) → total f l ≡ 0
  total_none f [] h = refl
  total_none f (x ∷ xs) h = let a = h 0 x refl in let b = total_none f xs (λ j v e. h (suc j) v e) in omega arith

  -- where all but one are worth nothing
  pub total_alone : (f : X → ℕ) (l : List X) (i : ℕ) (v : X) → get_elem? l i ≡ some v → ((j : ℕ) (d : X) → j ≢ i → get_elem? l j ≡ some d → f d ≡ 0) → total f l ≡ f v
  total_alone f [] i v e h = absurd (some-ne-none v (sym e))
  total_alone f (x ∷ xs) zero v e h = let q : f x ≡ f v = ap f (some-injective x v e) in let b = total_none f xs (λ j d g. h (suc j) d (λ z. omega arith) g) in omega arith
  total_alone f (x ∷ xs) (suc i) v e h = let a : f x ≡ 0 = h 0 x (λ z. omega arith) refl in let b = total_alone f xs i v e (λ j d n g. h (suc j) d (λ z. n (omega arith)) g) in omega arith

  -- one member's share of a sum
  pub total_has : (f : X → ℕ) (l : List X) (i : ℕ) (v : X) → get_elem? l i ≡ some v → f v ≤ total f l
  total_has f [] i v e = absurd (some-ne-none v (sym e))
  total_has f (x ∷ xs) zero v e = let q : f x ≡ f v = ap f (some-injective x v e) in omega arith
  total_has f (x ∷ xs) (suc i) v e = let q = total_has f xs i v e in omega arith

  -- two members' shares
  pub total_two : (f : X → ℕ) (l : List X) (i j : ℕ) (v w : X) → i ≢ j → get_elem? l i ≡ some v → get_elem? l j ≡ some w → f v + f w ≤ total f l
  total_two f [] i j v w n e d = absurd (some-ne-none v (sym e))
  total_two f (x ∷ xs) zero zero v w n e d = absurd (n refl)
  total_two f (x ∷ xs) zero (suc j) v w n e d = let q : f x ≡ f v = ap f (some-injective x v e) in let r = total_has f xs j w d in omega arith
  total_two f (x ∷ xs) (suc i) zero v w n e d = let q : f x ≡ f w = ap f (some-injective x w d) in let r = total_has f xs i v e in omega arith
  total_two f (x ∷ xs) (suc i) (suc j) v w n e d = let q = total_two f xs i j v w (λ m. n (ap suc m)) e d in omega arith

  pub total_snoc : (f : X → ℕ) (l : List X) (w : X) → total f (l ++ w ∷ []) ≡ total f l + f w
  total_snoc f [] w = omega arith
  total_snoc f (x ∷ xs) w = let q = total_snoc f xs w in omega arith

  -- what holds of each member holds after a change of one
  pub each_set : (K : ℕ → X → Type 0) (l : List X) (i : ℕ) (w : X) → K i w → ((j : ℕ) (d : X) → j ≢ i → get_elem? l j ≡ some d → K j d)
      → (j : ℕ) (d : X) → get_elem? (set l i w) j ≡ some d → K j d
  each_set K l i w mine others j d e = ⊎_elim (λ (t : (j ≡ i) × (w ≡ d)). subst (λ (x : ℕ × X). K x.0 x.1) (λ k. (sym t.0 k, t.1 k)) mine)
      (λ (t : (j ≢ i) × (get_elem? l j ≡ some d)). others j d t.0 t.1) (at_set l i j w d e)

  pub set_at : (l : List X) (i : ℕ) (v w : X) → get_elem? l i ≡ some v → get_elem? (set l i w) i ≡ some w
  set_at [] i v w e = absurd (some-ne-none v (sym e))
  set_at (x ∷ xs) zero v w e = refl
  set_at (x ∷ xs) (suc i) v w e = set_at xs i v w e

  pub at_inside : (l : List X) (i : ℕ) (v : X) → get_elem? l i ≡ some v → i < length l
  at_inside [] i v e = absurd (some-ne-none v (sym e))
  at_inside (x ∷ xs) zero v e = omega arith
  at_inside (x ∷ xs) (suc i) v e = let q = at_inside xs i v e in omega arith

  -- the member behind the others
  pub each_snoc : (K : ℕ → X → Type 0) (l : List X) (w : X) → K (length l) w → ((j : ℕ) (d : X) → get_elem? l j ≡ some d → K j d) → (j : ℕ) (d : X) → get_elem? (l ++ w ∷ []) j ≡ some d → K j d
  each_snoc K [] w mine others zero d e = subst (K 0) (some-injective w d e) mine
  each_snoc K [] w mine others (suc j) d e = absurd (some-ne-none d (sym e))
  each_snoc K (x ∷ xs) w mine others zero d e = others 0 d e
  each_snoc K (x ∷ xs) w mine others (suc j) d e = each_snoc (λ (k : ℕ) (y : X). K (suc k) y) xs w mine (λ k y h. others (suc k) y h) j d e

  -- where a member of two lists in a row stands
  pub at_append : (l m : List X) (i : ℕ) (v : X) → get_elem? (l ++ m) i ≡ some v → ((k : ℕ) × (get_elem? l k ≡ some v)) ⊎ ((k : ℕ) × (get_elem? m k ≡ some v))
  at_append [] m i v e = inr (i, e)
  at_append (x ∷ xs) m zero v e = inl (0, e)
  at_append (x ∷ xs) m (suc i) v e = ⊎_elim (λ (t : (k : ℕ) × (get_elem? xs k ≡ some v)). inl (suc t.0, t.1)) inr (at_append xs m i v e)

  pub at_behind : (l m : List X) (i : ℕ) (v : X) → get_elem? m i ≡ some v → (k : ℕ) × (get_elem? (l ++ m) k ≡ some v)
  at_behind [] m i v e = (i, e)
  at_behind (x ∷ xs) m i v e = let r = at_behind xs m i v e in (suc r.0, r.1)

  -- the same, as a slice is read
  pub got_snoc : (l : List X) (a b : X) (k : ℕ) → slice_get (l ++ a ∷ []) k ≡ Some b → (slice_get l k ≡ Some b) ⊎ ((k ≡ length l) × (a ≡ b))
  got_snoc [] a b zero e = inr (refl, (cc))
  got_snoc [] a b (suc k) e = absurd (cc)
  got_snoc (x ∷ xs) a b zero e = inl e
  got_snoc (x ∷ xs) a b (suc k) e = ⊎_elim inl (λ (t : (k ≡ length xs) × (a ≡ b)). inr (ap suc t.0, t.1)) (got_snoc xs a b k e)

  pub at_one : (x v : X) (i : ℕ) → get_elem? (x ∷ []) i ≡ some v → x ≡ v
  at_one x v zero e = some-injective x v e
  at_one x v (suc i) e = absurd (some-ne-none v (sym e))

  pub at_unmap : {Y : Type 0} (f : X → Y) (l : List X) (i : ℕ) (y : Y) → get_elem? (map f l) i ≡ some y → (x : X) × (get_elem? l i ≡ some x) × (f x ≡ y)
  at_unmap f [] i y e = absurd (some-ne-none y (sym e))
  at_unmap f (x ∷ xs) zero y e = (x, refl, some-injective (f x) y e)
  at_unmap f (x ∷ xs) (suc i) y e = at_unmap f xs i y e

  pub index_of : (l : List X) (i : ℕ) (a d : X) → get_elem? l i ≡ some a → get_or l i d ≡ a
  index_of [] i a d e = absurd (some-ne-none a (sym e))
  index_of (x ∷ xs) zero a d e = some-injective x a e
  index_of (x ∷ xs) (suc i) a d e = index_of xs i a d e

  at_index : (l : List X) (i : ℕ) (d : X) → i < length l → get_elem? l i ≡ some (get_or l i d)
  at_index [] i d lt = absurd (omega arith)
  at_index (x ∷ xs) zero d lt = refl
  at_index (x ∷ xs) (suc i) d lt = at_index xs i d (omega arith)

  -- what holds of all members, read at one place, and the other way round
  pub at_all : (K : X → Type 0) (l : List X) (i : ℕ) (v : X) → All K l → get_elem? l i ≡ some v → K v
  at_all K l i v all e = subst K (index_of l i v v e) (all i v (at_inside l i v e))

  pub all_at : (K : X → Type 0) (l : List X) → ((i : ℕ) (v : X) → get_elem? l i ≡ some v → K v) → All K l
  all_at K l each i d lt = each i (get_or l i d) (at_index l i d lt)

  all_front : (K : X → Type 0) (l : List X) (x : X) → All K (l ++ x ∷ []) → All K l × K x
  all_front K l x h = (all_at K l (λ i v e. at_all K (l ++ x ∷ []) i v h (at_longer l (x ∷ []) i v e)), at_all K (l ++ x ∷ []) (length l) x h (at_last l x (length l) refl))

  pub all_cut : (K : X → Type 0) (l m : List X) (x : X) → l ≡ m ++ x ∷ [] → All K l → All K m × K x
  all_cut K l m x e h = all_front K m x (subst (All K) e h)

  pub all_gone : (l ys zs : List X) → length l ≡ 0 → zs ≡ l ++ ys → zs ≡ ys
  all_gone [] ys zs n e = e
  all_gone (x ∷ xs) ys zs n e = absurd (omega arith)

  pub front_of : (l m : List X) (o : Option X) (x : X) → l ≡ m ++ option_to_list o → o ≡ Some x → l ≡ m ++ x ∷ []
  front_of l m o x e is = e ∙ ap (λ (z : Option X). m ++ option_to_list z) is

  pub moved_on : (zs a b done : List X) (w : X) → zs ≡ a ++ done → a ≡ b ++ w ∷ [] → zs ≡ b ++ (w ∷ done)
  moved_on zs a b done w is e = is ∙ (ap (λ l. l ++ done) e ∙ append_assoc b (w ∷ []) done)

  pub moved_over : (zs a b done : List X) (w first : X) → zs ≡ a ++ (done ++ first ∷ []) → a ≡ b ++ w ∷ [] → zs ≡ b ++ ((w ∷ done) ++ first ∷ [])
  moved_over zs a b done w first is e = is ∙ (ap (λ l. l ++ (done ++ first ∷ [])) e ∙ append_assoc b (w ∷ []) (done ++ first ∷ []))

  pub got_front : (l m : List X) (i : ℕ) → i < length l → slice_get (l ++ m) i ≡ slice_get l i
  got_front [] m i lt = absurd (omega arith)
  got_front (x ∷ xs) m zero lt = refl
  got_front (x ∷ xs) m (suc i) lt = got_front xs m i (omega arith)

  pub got_last : (l : List X) (x : X) → slice_get (l ++ x ∷ []) (length l) ≡ Some x
  got_last [] x = refl
  got_last (y ∷ ys) x = got_last ys x

  -- each member is f of its place, and so is one more
  pub each_more : (f : ℕ → X) (l : List X) (x : X) → EachIndex l (λ i. slice_get l i ≡ Some (f i)) → x ≡ f (length l) → EachIndex (l ++ x ∷ []) (λ i. slice_get (l ++ x ∷ []) i ≡ Some (f i))
  each_more f l x each last i lt = dite (dec_le (i + 1) (length l)) (λ near. got_front l (x ∷ []) i (omega arith) ∙ each i (omega arith))
      (λ far. let here : i ≡ length l = (let n = length-append l (x ∷ []) in omega arith) in ap (slice_get (l ++ x ∷ [])) here ∙ (got_last l x ∙ ap Some (last ∙ ap f (sym here))))
