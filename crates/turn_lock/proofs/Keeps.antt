-- What each kind of step keeps of the rule.
use Rattle.std.proofs.Common.{◌≡◌, ◌≢◌, ◌⊎◌, ℕ, ◌+◌, ◌%◌, ◌^◌, ◌<◌, ◌≤◌, Bool, true, false, List, [], ◌∷◌, length, get_or, set, sym, refl, ap, ◌∙◌, subst, ⊎_elim, inl, inr, arith, Option, length-set}
use mathlib.Core.Logic.{dite}
use mathlib.Core.Option.{none, some, some-injective, some-ne-none}
use mathlib.Core.Option as maybe
use native.Mathlib.Decide.{ℕ_discrete}
use lib.ListN.{get_elem?}
use lib.Seq.{set-get_or}
use Rattle.atomic_table.specs.Table.{State, Me}
use Rattle.atomic_table.proofs.Lists.{set_else}
use Rattle.turn_lock.specs.declared.kept.Entry.{Entry}
use Rattle.pass_roles.specs.declared.role.Role.{Role}
use Rattle.pass_roles.specs.declared.role.Role.TheVariants.{Maker, Party, Spent}
use Rattle.turn_lock.specs.declared.view.Stage.{Stage}
use Rattle.turn_lock.specs.declared.view.Stage.TheVariants.{Idle, Waiting, Turn, Out, Counted, Home}
use Rattle.turn_lock.specs.declared.view.View.{View}
use Rattle.turn_lock.specs.Entries.{IsPrefix, own}
use Rattle.turn_lock.specs.Passes.{Pass}
use Rattle.pass_roles.specs.Roles.{total, weigh}
use Rattle.turn_lock.specs.Rule.{has_ticket, is_out, weight, tickets_in, has_entry, entries_in, Stays, Standing, Fits, HasNumber, HasSeen, IsLongest, IsIn, IsOut, Ruled}
use Rattle.pass_roles.proofs.Members.{total_set, total_le, each_set, set_at}
use Rattle.turn_lock.proofs.Stays.{out_has}

module _ {V L Q A : Type 0} (law_of : V → L) (party : Q → ℕ) (run : L → List (Entry Q A) → Type 0) (stands : V → List (Entry Q A) → Type 0) (law : L) (n : ℕ) where
  abbrev P : Type 0
  P = Pass L Q A

  abbrev W : Type 0
  W = View L Q A

  abbrev St : Type 0
  St = State (Option V) W

  abbrev M : Type 0
  M = Me (Option V) W

  abbrev Homes : Type 0
  Homes = List (maybe.Option (Option V))

  abbrev Rule : St → Type 0
  Rule = Ruled law_of party run stands law n

  pub kept_set : (made : ℕ) (owner : ℕ → ℕ) (views : List W) (id : ℕ) (v w : W) → get_elem? views id ≡ some v → ((q : ℕ) → HasNumber q v → HasNumber q w)
      → ((q : ℕ) → q < made → (d : W) × (get_elem? views (owner q) ≡ some d) × HasNumber q d)
      → (q : ℕ) → q < made → (d : W) × (get_elem? (set views id w) (owner q) ≡ some d) × HasNumber q d
  kept_set made owner views id v w at same kept q l = let k = kept q l in dite (ℕ_discrete (owner q) id)
      (λ e. let is : k.0 ≡ v = some-injective k.0 v (sym k.1 ∙ (ap (get_elem? views) e ∙ at)) in (w, ap (get_elem? (set views id w)) e ∙ set_at views id v w at, same q (subst (HasNumber q) is k.2)))
      (λ other. (k.0, set_else views id (owner q) w other ∙ k.1, k.2))

  pub longest_set : (h : List (Entry Q A)) (views : List W) (id : ℕ) (v w : W) → get_elem? views id ≡ some v → (HasSeen h v → HasSeen h w) → IsLongest h views → IsLongest h (set views id w)
  longest_set h views id v w at same l = ⊎_elim inl (λ (t : (j : ℕ) × (d : W) × (get_elem? views j ≡ some d) × HasSeen h d). inr (go t (ℕ_discrete t.0 id))) l
    where
      go : (t : (j : ℕ) × (d : W) × (get_elem? views j ≡ some d) × HasSeen h d) → Dec (t.0 ≡ id) → (j : ℕ) × (d : W) × (get_elem? (set views id w) j ≡ some d) × HasSeen h d
      go t (yes e) = let is : t.1 ≡ v = some-injective t.1 v (sym t.2 ∙ (ap (get_elem? views) e ∙ at)) in (id, w, set_at views id v w at, same (subst (HasSeen h) is t.3))
      go t (no n) = (t.0, t.1, set_else views id t.0 w n ∙ t.2, t.3)

  -- a party's seat changes, and the maker's is where it was
  pub maker_set : (made maker_seat p : ℕ) (views : List W) (id : ℕ) (v w : W) → get_elem? views id ≡ some v → v.role ≡ Party p
      → (m : W) × (get_elem? views maker_seat ≡ some m) × (m.role ≡ Maker made) → (m : W) × (get_elem? (set views id w) maker_seat ≡ some m) × (m.role ≡ Maker made)
  maker_set made maker_seat p views id v w at is (m, at_m, is_m) = (
    m,
    set_else views id maker_seat w (λ e. let same : m ≡ v = some-injective m v (sym at_m ∙ (ap (get_elem? views) e ∙ at)) in
        let clash : Maker made ≡ Party p = sym is_m ∙ (ap (λ (z : W). z.role) same ∙ is) in cc) ∙ at_m,
    is_m,
  )

  -- a step of a party that leaves the history as it is
  pub restage : (s : St) (r : Rule s) (id p : ℕ) (v : W) (st : Stage) (sn : List (Entry Q A)) (served' drawn' : ℕ) (holder' : ℕ → ℕ) (words' : List ℕ) (homes' : Homes)
      → get_elem? s.views id ≡ some v → v.role ≡ Party p → IsPrefix sn r.history → own party p sn ≡ v.mine → (v.seen ≡ r.history → sn ≡ r.history)
      → length words' ≡ 3 → get_or words' 1 0 ≡ drawn' % 2 ^ 64 → get_or words' 2 0 ≡ served' % 2 ^ 64
      → drawn' + has_ticket v.stage + r.served ≡ served' + has_ticket st + r.drawn → served' + has_entry st ≡ r.served + has_entry v.stage
      → ((j : ℕ) (d : W) → j ≢ id → get_elem? s.views j ≡ some d → Stays r.history served' drawn' holder' j d.seen d.stage)
      → Stays r.history served' drawn' holder' id sn st
      → IsIn law_of stands law r.history homes' (set s.views id (record v { stage = st; seen = sn })) ⊎ IsOut homes' (set s.views id (record v { stage = st; seen = sn }))
      → Rule record { words = words'; homes = homes'; views = set s.views id (record v { stage = st; seen = sn }) }
  restage s r id p v st sn served' drawn' holder' words' homes' at is pre mine whole wide ticket serving even entry others here value =
      let w : W = record v { stage = st; seen = sn } in
      let known : Standing party r.history law r.made r.maker_seat r.owner id p v = subst (λ (x : Role). Fits party r.history law r.made r.maker_seat r.owner id v x) is (r.each id v at).0 in
      record {
        history = r.history;
        served = served';
        drawn = drawn';
        made = r.made;
        maker_seat = r.maker_seat;
        holder = holder';
        owner = r.owner;
        wide = wide;
        ticket_is = ticket;
        serving_is = serving;
        tickets = let t = total_set tickets_in s.views id v w at in let d = r.tickets in omega arith;
        entries = let t = total_set entries_in s.views id v w at in let d = r.entries in omega arith;
        few = r.few;
        weights = let t = total_set (weight n) s.views id v w at in let d = r.weights in omega arith;
        maker = maker_set r.made r.maker_seat p s.views id v w at is r.maker;
        runs = r.runs;
        longest = longest_set r.history s.views id v w at (⊎_elim (λ (e : v.seen ≡ r.history). inl (whole e)) inr) r.longest;
        others = r.others;
        kept = kept_set r.made r.owner s.views id v w at (λ q h. h) r.kept;
        each = each_set (λ (j : ℕ) (d : W). Fits party r.history law r.made r.maker_seat r.owner j d d.role × Stays r.history served' drawn' holder' j d.seen d.stage) s.views id w (
          subst (λ (x : Role). Fits party r.history law r.made r.maker_seat r.owner id w x) (sym is) record {
            law_is = known.law_is;
            inside = known.inside;
            owned = known.owned;
            seen = pre;
            mine_seen = mine;
            mine = known.mine;
            joined = known.joined;
            once = known.once;
          },
          here,
        )
            (λ j d other e. ((r.each j d e).0, others j d other e));
        value = value;
      }

  pub knows : (s : St) (r : Rule s) (id p : ℕ) (v : W) → get_elem? s.views id ≡ some v → v.role ≡ Party p → Standing party r.history law r.made r.maker_seat r.owner id p v
  knows s r id p v at is = subst (λ (x : Role). Fits party r.history law r.made r.maker_seat r.owner id v x) is (r.each id v at).0

  pub stage_is : (s : St) (r : Rule s) (id : ℕ) (v : W) (st : Stage) → get_elem? s.views id ≡ some v → v.stage ≡ st → Stays r.history r.served r.drawn r.holder id v.seen st
  stage_is s r id v st at is = subst (λ (x : Stage). Stays r.history r.served r.drawn r.holder id v.seen x) is (r.each id v at).1

  -- a seat that has not the value out changes, and the value is where it was
  pub value_set : (history : List (Entry Q A)) (homes : Homes) (views : List W) (id : ℕ) (v w : W) → get_elem? views id ≡ some v → is_out v.stage ≡ false → is_out w.stage ≡ false
      → IsIn law_of stands law history homes views ⊎ IsOut homes views → IsIn law_of stands law history homes (set views id w) ⊎ IsOut homes (set views id w)
  value_set history homes views id v w at away away' value = ⊎_elim
      (λ (i : IsIn law_of stands law history homes views). inl (i.0, i.1, i.2, i.3, each_set (λ (j : ℕ) (d : W). is_out d.stage ≡ false) views id w away' (λ j d other e. i.4 j d e)))
      (λ (o : IsOut homes views). inr (o.0, (o.1.0, o.1.1, set_else views id o.1.0 w (λ e. clash o e) ∙ o.1.2, o.1.3))) value
    where
      clash : (o : IsOut homes views) → o.1.0 ≡ id → ⊥
      clash o e = let same : v ≡ o.1.1 = some-injective v o.1.1 (sym at ∙ (ap (get_elem? views) (sym e) ∙ o.1.2)) in
          let t : true ≡ false = sym o.1.3 ∙ (ap (λ (x : W). is_out x.stage) (sym same) ∙ away) in cc

  pub value_stays : (s : St) (r : Rule s) (id : ℕ) (v w : W) → get_elem? s.views id ≡ some v → is_out v.stage ≡ false → is_out w.stage ≡ false
      → IsIn law_of stands law r.history s.homes (set s.views id w) ⊎ IsOut s.homes (set s.views id w)
  value_stays s r id v w at away away' = value_set r.history s.homes s.views id v w at away away' r.value

  -- who has the turn knows that nobody else has the value out
  pub alone : (s : St) (r : Rule s) (id : ℕ) → r.holder r.served ≡ id → (j : ℕ) (d : W) → j ≢ id → get_elem? s.views j ≡ some d → is_out d.stage ≡ false
  alone s r id his j d other e = go (is_out d.stage) refl
    where
      go : (b : Bool) → is_out d.stage ≡ b → is_out d.stage ≡ false
      go true o = absurd (other (sym (out_has r.history r.served r.drawn r.holder j d.seen d.stage o (r.each j d e).1) ∙ his))
      go false o = o

  pub is_in : (s : St) (r : Rule s) (id : ℕ) (v : W) → get_elem? s.views id ≡ some v → r.holder r.served ≡ id → is_out v.stage ≡ false → IsIn law_of stands law r.history s.homes s.views
  is_in s r id v at his away = ⊎_elim (λ i. i) (λ (o : IsOut s.homes s.views). absurd (clash o (ℕ_discrete o.1.0 id))) r.value
    where
      clash : (o : IsOut s.homes s.views) → Dec (o.1.0 ≡ id) → ⊥
      clash o (yes e) = let same : v ≡ o.1.1 = some-injective v o.1.1 (sym at ∙ (ap (get_elem? s.views) (sym e) ∙ o.1.2)) in
          let t : true ≡ false = sym o.1.3 ∙ (ap (λ (x : W). is_out x.stage) (sym same) ∙ away) in cc
      clash o (no other) = let t : true ≡ false = sym o.1.3 ∙ alone s r id his o.1.0 o.1.1 other o.1.2 in cc

  pub not_home : (s : St) (r : Rule s) (id : ℕ) (v : W) → get_elem? s.views id ≡ some v → is_out v.stage ≡ true → s.homes ≡ none ∷ []
  not_home s r id v at out = ⊎_elim (λ (i : IsIn law_of stands law r.history s.homes s.views). absurd (let t : true ≡ false = sym out ∙ i.4 id v at in cc)) (λ (o : IsOut s.homes s.views). o.0) r.value

  pub same_words : (ws : List ℕ) (i j : ℕ) → get_or (set ws i (get_or ws i 0)) j 0 ≡ get_or ws j 0
  same_words ws i j = ap (λ (l : List ℕ). get_or l j 0) (set-get_or ws i 0)

  one_ticket : (st : Stage) → has_ticket st ≤ 1
  one_ticket Idle = omega arith
  one_ticket (Waiting t) = omega arith
  one_ticket (Turn t) = omega arith
  one_ticket (Out t) = omega arith
  one_ticket (Counted t) = omega arith
  one_ticket (Home t) = omega arith

  ticket_weighs : (history : List (Entry Q A)) (made maker_seat : ℕ) (owner : ℕ → ℕ) (j : ℕ) (v : W) (role : Role) → Fits party history law made maker_seat owner j v role → has_ticket v.stage ≤ weigh n (length v.joined) role
  ticket_weighs history made maker_seat owner j v (Maker m) f = let z : has_ticket v.stage ≡ 0 = ap has_ticket f.idle in omega arith
  ticket_weighs history made maker_seat owner j v (Party p) f = let z = one_ticket v.stage in omega arith
  ticket_weighs history made maker_seat owner j v Spent f = let z : has_ticket v.stage ≡ 0 = ap has_ticket f.idle in omega arith

  pub few_tickets : (s : St) (r : Rule s) → total tickets_in s.views ≤ n
  few_tickets s r = let a = total_le tickets_in (weight n) s.views (λ j v e. ticket_weighs r.history r.made r.maker_seat r.owner j v v.role (r.each j v e).0) in let b = r.weights in omega arith

  -- a load by a party that leaves the history and the value where they are
  pub reload : (s : St) (r : Rule s) (i id p : ℕ) (v : W) (st : Stage) → get_elem? s.views id ≡ some v → v.role ≡ Party p → has_ticket v.stage ≡ has_ticket st → has_entry v.stage ≡ has_entry st → is_out v.stage ≡ false → is_out st ≡ false
      → Stays r.history r.served r.drawn r.holder id v.seen st → Rule record { words = set s.words i (get_or s.words i 0); homes = s.homes; views = set s.views id (record v { stage = st }) }
  reload s r i id p v st at is same same_e away away' here = let known = knows s r id p v at is in
      restage s r id p v st v.seen r.served r.drawn r.holder (set s.words i (get_or s.words i 0)) s.homes at is known.seen known.mine_seen (λ e. e)
      (length-set s.words i _ ∙ r.wide) (same_words s.words i 1 ∙ r.ticket_is) (same_words s.words i 2 ∙ r.serving_is)
      (omega arith) (omega arith) (λ j d other e. (r.each j d e).1) here (value_stays s r id v _ at away away')
