-- The rule holds of a new table.
use Rattle.std.proofs.Common.{◌≡◌, ℕ, false, List, [], ◌∷◌, sym, refl, subst, inl, arith, Option, Some}
use mathlib.Core.Option.{none, some, some-injective, some-ne-none}
use mathlib.Core.Option as maybe
use Rattle.atomic_table.specs.Table.{State, Me, opening}
use Rattle.turn_lock.specs.declared.kept.Entry.{Entry}
use Rattle.turn_lock.specs.declared.view.View.{View}
use Rattle.turn_lock.specs.Passes.{Pass}
use Rattle.turn_lock.specs.Rule.{is_out, Stays, Fits, Ruled}
use Rattle.turn_lock.specs.Steps.{maker}
use Rattle.pass_roles.proofs.Members.{each_snoc}

module _ {V L Q A : Type 0} (law_of : V → L) (party : Q → ℕ) (run : L → List (Entry Q A) → Type 0) (stands : V → List (Entry Q A) → Type 0) (law : L) (n : ℕ) where
  abbrev P : Type 0
  P = Pass L Q A

  abbrev W : Type 0
  W = View L Q A

  abbrev St : Type 0
  St = State (Option V) W

  abbrev M : Type 0
  M = Me (Option V) W

  abbrev Homes : Type 0
  Homes = List (maybe.Option (Option V))

  abbrev Rule : St → Type 0
  Rule = Ruled law_of party run stands law n

  pub starts : (x : V) → stands x [] → run law [] → law_of x ≡ law → Rule (opening (0 ∷ 0 ∷ 0 ∷ []) (Some x ∷ []) (maker law 0))
  starts x stood ran is = record {
    history = [];
    served = 0;
    drawn = 0;
    made = 0;
    maker_seat = 0;
    holder = λ k. 0;
    owner = λ k. 0;
    wide = refl;
    ticket_is = refl;
    serving_is = refl;
    tickets = refl;
    entries = refl;
    few = omega arith;
    weights = omega arith;
    maker = (maker law 0, refl, refl);
    runs = ran;
    longest = inl refl;
    others = λ q far. refl;
    kept = λ q far. absurd (omega arith);
    each = each_snoc (λ (j : ℕ) (d : W). Fits party [] law 0 0 (λ k. 0) j d d.role × Stays [] 0 0 (λ k. 0) j d.seen d.stage) [] (maker law 0)
        (record { law_is = refl; made_is = refl; seat_is = refl; idle = refl }, tt) (λ j d e. absurd (some-ne-none d (sym e)));
    value = inl (x, refl, stood, is, each_snoc (λ (j : ℕ) (d : W). is_out d.stage ≡ false) [] (maker law 0) refl (λ j d e. absurd (some-ne-none d (sym e))));
  }

  pub starts_from : (slots : List (Option V)) (x : V) → slots ≡ Some x ∷ [] → stands x [] → run (law_of x) [] → law ≡ law_of x → Rule (opening (0 ∷ 0 ∷ 0 ∷ []) slots (maker law 0))
  starts_from slots x e stood ran is = subst (λ (z : List (Option V)). Rule (opening (0 ∷ 0 ∷ 0 ∷ []) z (maker law 0))) (sym e) (starts x stood (subst (λ (l : L). run l []) (sym is) ran) (sym is))
