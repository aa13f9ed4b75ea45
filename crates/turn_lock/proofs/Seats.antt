-- A pass and its seat.
use Rattle.std.proofs.Common.{◌≡◌, ℕ, ◌+◌, ◌<◌, length, arith, List, [], ◌∷◌, map, sym, ap, ◌∙◌, Option, Some}
use Rattle.std.proofs.Math.Nat.{lt_irrefl}
use Rattle.atomic_table.specs.Table.{Me, rest}
use Rattle.pass_roles.specs.declared.role.Role.TheVariants.{Party}
use Rattle.turn_lock.specs.declared.view.Stage.TheVariants.{Idle}
use Rattle.turn_lock.specs.declared.view.View.{View}
use Rattle.turn_lock.specs.Passes.{LockId, Pass}
use Rattle.turn_lock.specs.Steps.{seated_view, joined_of, both, knows, pass_at, RestsAs, IsAtRest, the_first, maker, dealt_view, newcomer}

module _ {S : Type 0} where
  pub held : (c : List (ℕ × S)) (k : ℕ) (x : S) (t : List (ℕ × S)) → c ≡ (k, x) ∷ t → c ≡ (k, x) ∷ rest c
  held c k x t e = e ∙ ap (λ (z : List (ℕ × S)). (k, x) ∷ z) (sym (ap rest e))

pub first_is : {X : Type 0} (xs : List X) (some : 0 < length xs) (x : X) → xs ≡ x ∷ [] → the_first xs some ≡ x
first_is [] some x e = absurd (lt_irrefl 0 some)
first_is (y ∷ ys) some x e = cc

pub same_some : {V : Type 0} (o : Option V) (x y : V) → o ≡ Some x → o ≡ Some y → x ≡ y
same_some o x y p q = cc

module _ {L Q A : Type 0} where
  -- the view of the last pass, with the others joined into it
  abbrev pub gathered : Pass L Q A → List (Pass L Q A) → View L Q A
  gathered first done = record (seated_view first Idle) { joined = map (λ p. joined_of (seated_view p Idle)) done }

  -- the pass that an idle badge makes
  pub is_pass : (lock : LockId) (number : ℕ) (views : List (View L Q A)) (some : 0 < length (knows views).law) (p : Pass L Q A) → RestsAs p views → lock ≡ p.lock → number ≡ p.number → pass_at lock number views some ≡ p
  is_pass lock number views some p e a b = λ i. record { lock = a i; number = b i; law = first_is (knows views).law some p.law (ap (λ (z : List (View L Q A)). (knows z).law) e) i; seen = (knows (e i)).seen; mine = (knows (e i)).mine }

  pub rests : (lock : LockId) (number : ℕ) (views : List (View L Q A)) (some : 0 < length (knows views).law) (p : Pass L Q A) → RestsAs p views → number ≡ p.number → RestsAs (pass_at lock number views some) views
  rests lock number views some p e b = let c = first_is (knows views).law some p.law (ap (λ (z : List (View L Q A)). (knows z).law) e) in
      e ∙ (λ i. let w : View L Q A = record { law = sym c i ∷ []; role = Party (sym b i); stage = Idle; seen = (knows (sym e i)).seen; mine = (knows (sym e i)).mine; joined = [] } in w ∷ [])

  pub lawful_at : (views : List (View L Q A)) (p : Pass L Q A) → RestsAs p views → 0 < length (knows views).law
  lawful_at views p e = let n : length (knows views).law ≡ 1 = ap (λ (z : List (View L Q A)). length (knows z).law) e in omega arith

module _ {S L Q A : Type 0} where
  -- what the seat has in its hand changed, and its view did not
  pub stepped_on : (m m' : Me S (View L Q A)) (v : View L Q A) (c d : List (ℕ × S)) → m ≡ (v, c) → m'.0 ≡ m.0 → m'.1 ≡ d → m' ≡ (v, d)
  stepped_on m m' v c d e view hand = let w : m'.0 ≡ v = view ∙ ap (λ (z : Me S (View L Q A)). z.0) e in λ i. (w i, hand i)

  -- the seat that an idle badge became
  pub sits_as : (views old : List (View L Q A)) (m : Me S (View L Q A)) (p q : Pass L Q A) → RestsAs p old → p ≡ q → views ≡ old → views ≡ m.0 ∷ [] → m.1 ≡ [] → IsAtRest q m
  sits_as views old m p q e same is v none = let w : m.0 ≡ seated_view q Idle = ap knows (sym v ∙ (is ∙ (e ∙ ap (λ (z : Pass L Q A). seated_view z Idle ∷ []) same))) in λ i. (w i, none i)

  -- the badge that an idle seat became
  pub badge_of : (views : List (View L Q A)) (m : Me S (View L Q A)) (p : Pass L Q A) → IsAtRest p m → views ≡ m.0 ∷ [] → RestsAs p views
  badge_of views m p e v = v ∙ ap (λ (z : Me S (View L Q A)). z.0 ∷ []) e

  pub dealt_on : (m m' : Me S (View L Q A)) (l : L) (i : ℕ) → m ≡ (maker l i, []) → m' ≡ (dealt_view m.0, m.1) → m' ≡ (maker l (i + 1), [])
  dealt_on m m' l i e f = f ∙ ap (λ (z : Me S (View L Q A)). let w : View L Q A = dealt_view z.0 in (w, z.1)) e

  pub came_new : (m m' : Me S (View L Q A)) (l : L) (lock : LockId) (i : ℕ) → m ≡ (maker l i, []) → m' ≡ (newcomer m.0, []) → IsAtRest record { lock = lock; number = i; law = l; seen = []; mine = [] } m'
  came_new m m' l lock i e f = f ∙ ap (λ (z : Me S (View L Q A)). let w : View L Q A = newcomer z.0 in let c : List (ℕ × S) = [] in (w, c)) e

  pub joined_on : (m m' w : Me S (View L Q A)) (first p : Pass L Q A) (done : List (Pass L Q A)) → m ≡ (gathered first done, []) → IsAtRest p w → m' ≡ (both m.0 w.0, m.1) → m' ≡ (gathered first (p ∷ done), [])
  joined_on m m' w first p done e rest f = f ∙ (λ i. let x : View L Q A = both (e i).0 (rest i).0 in (x, (e i).1))
