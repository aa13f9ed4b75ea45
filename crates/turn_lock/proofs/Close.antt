-- What the rule says once one seat has all numbers.
use Rattle.std.proofs.Common.{◌≡◌, ◌≢◌, ℕ, ◌+◌, ◌-◌, ◌%◌, ◌^◌, ◌<◌, ◌≤◌, All, true, false, List, [], ◌∷◌, ◌++◌, length, map, get_or, sym, refl, ap, ◌∙◌, subst, ⊎_elim, arith, Option, Some, sum_by, length-append}
use mathlib.Core.Logic.{dite}
use mathlib.Core.Option.{none, some, some-injective, some-ne-none}
use mathlib.Core.Option as maybe
use native.Mathlib.Decide.{ℕ_discrete, dec_le}
use lib.ListN.{get_elem?, length-map}
use Rattle.atomic_table.specs.Table.{State, Me, Final, Seen}
use Rattle.atomic_table.proofs.Lists.{at_map, at_last, at_longer}
use Rattle.turn_lock.specs.declared.kept.Entry.{Entry}
use Rattle.pass_roles.specs.declared.role.Role.{Role}
use Rattle.pass_roles.specs.declared.role.Role.TheVariants.{Maker, Party, Spent}
use Rattle.turn_lock.specs.declared.view.Stage.TheVariants.{Idle}
use Rattle.turn_lock.specs.declared.view.Joined.{Joined}
use Rattle.turn_lock.specs.declared.view.View.{View}
use Rattle.turn_lock.specs.Entries.{IsPrefix, own}
use Rattle.turn_lock.specs.Passes.{Pass, Closes}
use Rattle.pass_roles.specs.Roles.{weigh, number_of}
use Rattle.turn_lock.specs.Rule.{has_entry, entries_in, is_out, weight, Standing, Fits, HasNumber, IsIn, IsOut, Ruled}
use Rattle.turn_lock.specs.Steps.{joined_of, seated_view, IsGathered}
use Rattle.pass_roles.proofs.Members.{total_none, total_two, at_append, at_unmap, at_one, index_of, all_at, at_all, at_inside}
use Rattle.turn_lock.proofs.Apart.{with_number, number_append, number_map, found, someone, it_or_not}
use Rattle.turn_lock.proofs.Parts.{sums_same, parts_whole}
use Rattle.turn_lock.proofs.Keeps.{knows}

module _ {V L Q A : Type 0} (law_of : V → L) (party : Q → ℕ) (run : L → List (Entry Q A) → Type 0) (stands : V → List (Entry Q A) → Type 0) (law : L) (n : ℕ) where
  abbrev P : Type 0
  P = Pass L Q A

  abbrev W : Type 0
  W = View L Q A

  abbrev St : Type 0
  St = State (Option V) W

  abbrev M : Type 0
  M = Me (Option V) W

  abbrev Homes : Type 0
  Homes = List (maybe.Option (Option V))

  abbrev Rule : St → Type 0
  Rule = Ruled law_of party run stands law n

  abbrev number : P → ℕ
  number p = p.number

  abbrev number_in : Joined Q A → ℕ
  number_in j = j.number

  party_weighs : (v : W) (q : ℕ) → v.role ≡ Party q → 1 ≤ weight n v
  party_weighs v q is = let a : weight n v ≡ 1 + length v.joined = ap (weigh n (length v.joined)) is in omega arith

  out_weighs : (history : List (Entry Q A)) (made maker_seat : ℕ) (owner : ℕ → ℕ) (j : ℕ) (v : W) (role : Role) → Fits party history law made maker_seat owner j v role → is_out v.stage ≡ true → 1 ≤ weigh n (length v.joined) role
  out_weighs history made maker_seat owner j v (Maker m) f out = absurd (let t : true ≡ false = sym out ∙ ap is_out f.idle in cc)
  out_weighs history made maker_seat owner j v (Party p) f out = omega arith
  out_weighs history made maker_seat owner j v Spent f out = absurd (let t : true ≡ false = sym out ∙ ap is_out f.idle in cc)

  -- where one party's seat is left, which has no ticket, no seat has an entry whose ticket is served
  idle_entry : (history : List (Entry Q A)) (made maker_seat : ℕ) (owner : ℕ → ℕ) (j : ℕ) (d v : W) (role : Role) → v.stage ≡ Idle → Fits party history law made maker_seat owner j d role
      → (1 ≤ weigh n (length d.joined) role → d ≡ v) → has_entry d.stage ≡ 0
  idle_entry history made maker_seat owner j d v (Maker m) still f same = ap has_entry f.idle
  idle_entry history made maker_seat owner j d v (Party p) still f same = ap (λ (z : W). has_entry z.stage) (same (omega arith)) ∙ ap has_entry still
  idle_entry history made maker_seat owner j d v Spent still f same = ap has_entry f.idle

  abbrev kept_of : P → Joined Q A
  kept_of p = joined_of (seated_view p Idle)

  ends : (id count : ℕ) (slot : Option V) (first : P) (done : List P) (ws : List ℕ) (xs : List (Option V)) → 1 + length done ≡ n
      → Final (Seen Rule id (record (seated_view first Idle) { joined = map kept_of done })) ws xs → get_elem? ws 2 ≡ some count → get_elem? xs 0 ≡ some slot
      → (x : V) × (slot ≡ Some x) × (law_of x ≡ law) × Closes party run stands law (done ++ first ∷ []) x count
  ends id count slot first done ws xs whole final word at_slot =
      let s = final.0 in let r : Rule s = final.1.0 in let v : W = record (seated_view first Idle) { joined = map kept_of done } in
      let at : get_elem? s.views id ≡ some v = final.1.1 in
      let known : Standing party r.history law r.made r.maker_seat r.owner id first.number v = knows law_of party run stands law n s r id first.number v at refl in
      let heavy : weight n v ≡ n = (let l = length-map done kept_of in omega arith) in
      let alone : (j : ℕ) (d : W) → get_elem? s.views j ≡ some d → 1 ≤ weight n d → j ≡ id = λ j d e some_weight.
      dite (ℕ_discrete j id) (λ z. z) (λ other. absurd (let t = total_two (weight n) s.views j id d v other e at in let u = r.weights in omega arith)) in
      let i : IsIn law_of stands law r.history s.homes s.views = ⊎_elim (λ z. z) (λ (o : IsOut s.homes s.views).
      absurd (let same : o.1.0 ≡ id = alone o.1.0 o.1.1 o.1.2 (out_weighs r.history r.made r.maker_seat r.owner o.1.0 o.1.1 o.1.1.role (r.each o.1.0 o.1.1 o.1.2).0 o.1.3) in
      let it : o.1.1 ≡ v = some-injective o.1.1 v (sym o.1.2 ∙ (ap (get_elem? s.views) same ∙ at)) in
      let t : true ≡ false = sym o.1.3 ∙ ap (λ (z : W). is_out z.stage) it in cc)) r.value in
      let whole_made : n ≤ r.made = dite (dec_le n r.made) (λ z. z) (λ short. absurd (
      let m = r.maker in
      let heavy_maker : weight n m.0 ≡ n - r.made = ap (weigh n (length m.0.joined)) m.2 in
      let same : r.maker_seat ≡ id = alone r.maker_seat m.0 m.1 (omega arith) in
      let it : m.0 ≡ v = some-injective m.0 v (sym m.1 ∙ (ap (get_elem? s.views) same ∙ at)) in
      let clash : Maker r.made ≡ Party first.number = sym m.2 ∙ ap (λ (z : W). z.role) it in cc
      )) in
      let all : List P = done ++ first ∷ [] in
      -- the pass of a number that was dealt
      let has : (q : ℕ) → q < r.made → (a : ℕ) × (p : P) × (get_elem? all a ≡ some p) × (p.number ≡ q) = λ q near. (let k = r.kept q near in
      let same : r.owner q ≡ id = alone (r.owner q) k.0 k.1 (party_weighs k.0 k.2.0 k.2.1) in
      let it : k.0 ≡ v = some-injective k.0 v (sym k.1 ∙ (ap (get_elem? s.views) same ∙ at)) in
      let h : HasNumber q v = subst (HasNumber q) it k.2 in
      ⊎_elim (λ (e : h.0 ≡ q). (length done, first, at_last done first (length done) refl, ap number_of h.1 ∙ e))
      (λ (t : (a : ℕ) × (j : Joined Q A) × (get_elem? (map kept_of done) a ≡ some j) × (j.number ≡ q)). let u = at_unmap kept_of done t.0 t.1 t.2 in
      (t.0, u.0, at_longer done (first ∷ []) t.0 u.0 u.1, ap (λ (z : Joined Q A). z.number) u.2 ∙ t.3)) h.2) in
      -- what holds of the first and of each that was joined into it
      let every : (K : P → Type 0) → K first → ((a : ℕ) (p : P) → get_elem? done a ≡ some p → K p) → All K all = λ K mine theirs. all_at K all (λ k p e.
      ⊎_elim (λ (t : (j : ℕ) × (get_elem? done j ≡ some p)). theirs t.0 p t.1) (λ (t : (j : ℕ) × (get_elem? (first ∷ []) j ≡ some p)). subst K (at_one first p t.0 t.1) mine) (at_append done (first ∷ []) k p e)) in
      let joined = λ (a : ℕ) (p : P) (e : get_elem? done a ≡ some p). known.joined a (kept_of p) (at_map kept_of done a p e) in
      let mines : All (λ (p : P). own party p.number r.history ≡ p.mine) all = every (λ (p : P). own party p.number r.history ≡ p.mine) known.mine (λ a p e. (joined a p e).2) in
      let once : (q : ℕ) → with_number number q all ≤ 1 = λ q. (let c = number_append number q done (first ∷ []) in let d = number_map number_in kept_of q done in let o = known.once q in
      it_or_not number q first.number
      (λ same one. let none : with_number number q done ≤ 0 = dite (dec_le 1 (with_number number q done)) (λ l. let f = found number q done l in absurd ((joined f.0 f.1 f.2).3 (sym f.3 ∙ same))) (λ l. omega (arith, l)) in omega (arith, c, one, none))
      (λ _ none. omega (arith, c, d, o, none))) in
      let others : (q : ℕ) → All (λ (p : P). p.number ≢ q) all → own party q r.history ≡ [] =
      λ q nobody. dite (dec_le r.made q) (λ far. r.others q far) (λ near. let h = has q (omega (arith, near)) in absurd (at_all (λ (p : P). p.number ≢ q) all h.0 h.1 nobody h.2 h.3)) in
      let wide : length all ≡ n = (let l = length-append done (first ∷ []) in omega arith) in
      -- no seat has a turn
      let all_served : length r.history ≡ r.served = (let z = total_none entries_in s.views (λ j d there. idle_entry r.history r.made r.maker_seat r.owner j d v d.role refl (r.each j d there).0 (λ l. some-injective d v (sym there ∙ (ap (get_elem? s.views) (alone j d there l) ∙ at)))) in let d = r.entries in omega arith) in
      let slot_is : slot ≡ Some i.0 = some-injective slot (Some i.0) (sym at_slot ∙ final.4 0 (Some i.0) (ap (λ hs. get_elem? hs 0) i.1)) in (
        i.0,
        slot_is,
        i.3,
        record {
          history = r.history;
          stood = i.2;
          runs = r.runs;
          count_is = sym (index_of ws 2 count 0 word) ∙ (ap (λ (z : List ℕ). get_or z 2 0) (sym final.2) ∙ (r.serving_is ∙ ap (λ (z : ℕ). z % 2 ^ 64) (sym all_served)));
          seen = every (λ (p : P). IsPrefix p.seen r.history) known.seen (λ a p e. (joined a p e).4);
          mine = mines;
          low = every (λ (p : P). p.number < length all) (let h = known.inside in let f = r.few in omega (arith, h, f, wide)) (λ a p e. let h = (joined a p e).0 in let f = r.few in omega (arith, h, f, wide));
          apart = once;
          each = λ q l. let h = has q (omega (arith, l, wide, whole_made)) in (
            h.1,
            (h.0, at_inside all h.0 h.1 h.2, index_of all h.0 h.1 h.1 h.2),
            h.3,
            ap (λ (z : ℕ). own party z r.history) (sym h.3) ∙ at_all (λ (p : P). own party p.number r.history ≡ p.mine) all h.0 h.1 mines h.2,
          );
          others = others;
          sums = λ f. sums_same (λ (p : P). sum_by f p.mine) (λ (p : P). sum_by f (own party p.number r.history)) all (λ k d lt. ap (sum_by f) (sym (mines k d lt)))
              ∙ parts_whole number (λ (e : Entry Q A). party e.request) f all r.history once (λ q none. others q (someone number q all none));
        },
      )

  pub closes : (id count : ℕ) (slot : Option V) (passes : List P) (m : M) (ws : List ℕ) (xs : List (Option V)) → length passes ≡ n → IsGathered passes m
      → Final (Seen Rule id m.0) ws xs → get_elem? ws 2 ≡ some count → get_elem? xs 0 ≡ some slot → (x : V) × (slot ≡ Some x) × (law_of x ≡ law) × Closes party run stands law passes x count
  closes id count slot passes m ws xs whole got final word at_slot =
      let first : P = got.0 in let done : List P = got.1 in
      let e : m.0 ≡ record (seated_view first Idle) { joined = map kept_of done } = ap (λ (z : M). z.0) got.3 in
      let t = ends id count slot first done ws xs (let l = length-append done (first ∷ []) in let k : length passes ≡ length (done ++ first ∷ []) = ap length got.2 in omega arith)
      (subst (λ (z : W). Final (Seen Rule id z) ws xs) e final) word at_slot in
      (t.0, t.1, t.2, subst (λ (z : List P). Closes party run stands law z t.0 count) (sym got.2) t.3)
