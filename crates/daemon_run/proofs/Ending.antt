-- What follows once all workers have ended.
use Rattle.std.proofs.Common.{◌≡◌, ◌∙◌, ℕ, suc, zero, ◌<◌, ◌++◌, ◌∷◌, [], List, Bool, true, false, ◌||◌, ◌&&◌, ◌⊎◌, inl, inr, All, length, map, get_or, ap, refl, sym, subst, arith, nat_lt, nat_le, vec_items, vec_len}
use Rattle.std.proofs.lemmas.List.{get_or-map, get_or_default, length-map}
use Rattle.std.proofs.lemmas.Bool.{le-leb, lt-leb}
use Rattle.std.proofs.lemmas.Bool.Decides.{leb_tells}
use Rattle.std.specs.List.{list_any}
use Rattle.std.specs.Prelude.{Vec}
use Rattle.daemon_outside.specs.Doors.{most_fails}
use Rattle.daemon_outside.specs.Sites.{IsNew, Kept, was_heard}
use Rattle.desk_book.specs.declared.end.DeskLog.{DeskLog}
use Rattle.door_worker.specs.Ends.{HasCause}
use Rattle.door_worker.specs.Visits.{AreSessions, Served, Visit, acts_in, rang, talks_in}
use Rattle.door_worker.specs.declared.end.DoorEnd.{DoorEnd}
use Rattle.door_worker.specs.declared.end.DoorEnd.TheVariants.{Rung, Broken}
use Rattle.feature_desk.specs.Closings.{HasLog, Tells}
use Rattle.feature_desk.specs.Sitters.{DeskView, Sitter, account_of, newcomer}
use Rattle.feature_desk.specs.declared.closing.DeskTally.{DeskTally}
use Rattle.licence_office.specs.Offices.{AreDealt, accounts_at}
use Rattle.licence_office.specs.declared.closing.OfficeEnd.{OfficeEnd}
use Rattle.office_view.specs.View.{View}
use Rattle.options_machine.specs.declared.reply.Entry.{Entry}
use Rattle.session.specs.Acts.{moments_of}
use Rattle.session.specs.Pass.{Gains}
use Rattle.session.specs.Session.{setup_of}
use Rattle.session_outside.specs.Talk.{Counted, Event, Follows, HasRisen}
use Rattle.daemon_run.specs.Gives.{AreKept, any_broken, any_heard, any_rang, is_broken, kept_as, passes_of}
use Rattle.daemon_run.specs.Join.{Ran}
use Rattle.daemon_run.specs.Work.{AllWorked}
use Rattle.daemon_run.specs.declared.worker.Worker.{Worker}
use Rattle.daemon_run.proofs.Joining.{IsNewcomer, choose, joins}
use Rattle.stat_board.specs.Fronts.{the_first}

-- what an office tells at its close
abbrev pub Closed : {Z : Type 0} → List DeskView → List (Vec Sitter Z) → OfficeEnd → Type 0
Closed {Z} desks passes end = (histories : List (List Entry)) × (length histories ≡ length desks)
    × ((j : ℕ) (d : DeskView) (t : DeskTally) (l : DeskLog) → j < length desks → Tells (get_or desks j d) (accounts_at j passes) (get_or end.tallies.items j t) (get_or histories j []) × HasLog (get_or end.logs.items j l) (get_or histories j []))
    × (vec_len end.tallies ≡ length desks) × (vec_len end.logs ≡ length desks)

any_false : {X : Type 0} (p : X → Bool) (xs : List X) → ((i : ℕ) (d : X) → i < length xs → p (get_or xs i d) ≡ false) → list_any p xs ≡ false
any_false p [] h = refl
any_false p (x ∷ xs) h = subst (λ b. (b || list_any p xs) ≡ false) (sym (h 0 x (omega arith))) (any_false p xs (λ i d l. h (suc i) d (omega arith)))

or_none_left : (a b : Bool) → (a || b) ≡ false → a ≡ false
or_none_left true b h = h
or_none_left false b h = refl

or_none_right : (a b : Bool) → (a || b) ≡ false → b ≡ false
or_none_right true b h = absurd (cc)
or_none_right false b h = h

any_none : {X : Type 0} (p : X → Bool) (xs : List X) → list_any p xs ≡ false → (i : ℕ) (d : X) → i < length xs → p (get_or xs i d) ≡ false
any_none p [] h = λ i d l. absurd (omega arith)
any_none p (x ∷ xs) h = elim [ zero ↦ λ d l. or_none_left (p x) (list_any p xs) h | suc i ↦ λ d l. any_none p xs (or_none_right (p x) (list_any p xs) h) i d (omega arith) ]

any_same : {X : Type 0} (p q : X → Bool) (xs : List X) → ((i : ℕ) (d : X) → i < length xs → p (get_or xs i d) ≡ q (get_or xs i d)) → list_any p xs ≡ list_any q xs
any_same p q [] h = refl
any_same p q (x ∷ xs) h = ap (λ b. b || list_any p xs) (h 0 x (omega arith)) ∙ ap (λ b. q x || b) (any_same p q xs (λ i d l. h (suc i) d (omega arith)))

any_first : {X : Type 0} (p : X → Bool) (xs : List X) → 0 < length xs → ((d : X) → p (get_or xs 0 d) ≡ true) → list_any p xs ≡ true
any_first p [] l h = absurd (omega arith)
any_first p (x ∷ xs) l h = subst (λ b. (b || list_any p xs) ≡ true) (sym (h x)) refl

cause_tells : (e : DoorEnd) (t0 t1 q0 q1 f0 f1 n : ℕ) → HasCause e t0 t1 q0 q1 f0 f1 n → is_broken e ≡ nat_le most_fails n
cause_tells Rung t0 t1 q0 q1 f0 f1 n h = sym (lt-leb most_fails n h.2)
cause_tells Broken t0 t1 q0 q1 f0 f1 n h = sym (le-leb most_fails n h.1)

above : (x y : ℕ) → x ≡ 0 → HasRisen x y → nat_lt 0 y ≡ true
above x y e h = le-leb 1 y (elim (leb_tells 1 y) [ inl p ↦ p.1 | inr p ↦ let r = h (omega arith) in omega arith ])

heard_true : (a b c : Bool) → a ≡ true → (b ≡ true) ⊎ (c ≡ true) → (a && (b || c)) ≡ true
heard_true true b c e (inl x) = subst (λ t. (t || c) ≡ true) (sym x) refl
heard_true true true c e (inr x) = refl
heard_true true false c e (inr x) = x
heard_true false b c e x = absurd (cc)

heard_by : (e : DoorEnd) (t0 t1 q0 q1 f0 f1 n : ℕ) → t0 ≡ 0 → q0 ≡ 0 → f0 ≡ 0 → is_broken e ≡ false → HasCause e t0 t1 q0 q1 f0 f1 n → was_heard t1 q1 f1 ≡ true
heard_by Rung t0 t1 q0 q1 f0 f1 n zt zq zf e h = heard_true (nat_lt 0 t1) (nat_lt 0 q1) (nat_lt 0 f1) (above t0 t1 zt h.0) (elim h.1 [ inl x ↦ inl (above q0 q1 zq x) | inr x ↦ inr (above f0 f1 zf x) ])
heard_by Broken t0 t1 q0 q1 f0 f1 n zt zq zf e h = absurd (cc)

module _ {Z D K B G : Type 0} (office : View DeskView) (talks : D → List (List Event) → Type 0) (gave : K → List ℕ → Type 0) (faults quiets fails lent : D → ℕ) (tolls rings : B → ℕ) where
  -- what was told of a worker's post
  record HasTold (old new : Worker (Vec Sitter Z) D K B G) (visits : List Visit) : Type 0 where
    pub number_is : new.post.number ≡ old.post.number
    pub talks_are : talks new.post.door (talks_in visits)
    pub moments_are : gave new.post.clock (moments_of (acts_in visits))

  are_kept : (olds news : List (Worker (Vec Sitter Z) D K B G)) (visits : List (List Visit)) → length news ≡ length olds → length visits ≡ length olds
      → ((i : ℕ) (d e : Worker (Vec Sitter Z) D K B G) → i < length olds → HasTold (get_or olds i d) (get_or news i e) (get_or visits i [])) → AreKept talks gave news (kept_as olds visits)
  are_kept [] [] visits l m h = tt
  are_kept [] (n ∷ news) visits l m h = absurd (omega arith)
  are_kept (o ∷ olds) [] visits l m h = absurd (omega arith)
  are_kept (o ∷ olds) (n ∷ news) [] l m h = absurd (omega arith)
  are_kept (o ∷ olds) (n ∷ news) (v ∷ visits) l m h =
      let t = h 0 o n (omega arith) in (
        record { number_is = sym t.number_is; talks_are = t.talks_are; moments_are = t.moments_are },
        are_kept olds news visits (omega arith) (omega arith) (λ i d e k. h (suc i) d e (omega arith)),
      )

  module _ (olds news : List (Worker (Vec Sitter Z) D K B G)) (long : length news ≡ length olds) (worked : AllWorked vec_items account_of office talks gave faults quiets fails lent tolls rings olds news)
      (unused : All (λ (w : Worker (Vec Sitter Z) D K B G). IsNew talks gave faults quiets fails lent tolls rings w.post.door w.post.clock w.post.bell) olds) where
    -- a door was broken exactly where its worker says so
    pub broken_tells : list_any (λ (w : Worker (Vec Sitter Z) D K B G). is_broken w.end) news ≡ any_broken fails news
    broken_tells = any_same (λ (w : Worker (Vec Sitter Z) D K B G). is_broken w.end) (λ (w : Worker (Vec Sitter Z) D K B G). nat_le most_fails (fails w.post.door)) news
        (λ i d l. let c = (worked i d (subst (λ n. i < n) long l)).cause in cause_tells (get_or news i d).end _ _ _ _ _ _ _ c)

    -- where no door was broken, the bell was heard
    pub heard_where_rung : 0 < length olds → list_any (λ (w : Worker (Vec Sitter Z) D K B G). is_broken w.end) news ≡ false → any_heard tolls quiets faults news ≡ true
    heard_where_rung some none = any_first (λ (w : Worker (Vec Sitter Z) D K B G). was_heard (tolls w.post.bell) (quiets w.post.door) (faults w.post.door)) news (subst (λ n. 0 < n) (sym long) some)
        (λ d.
        let u = unused 0 d some in
        heard_by (get_or news 0 d).end _ _ _ _ _ _ _ u.no_tolls u.no_quiets u.no_faults (any_none (λ (w : Worker (Vec Sitter Z) D K B G). is_broken w.end) news none 0 d (subst (λ n. 0 < n) (sym long) some)) (worked 0 d some).cause)

    module _ (some : 0 < length olds) where
      one : Worker (Vec Sitter Z) D K B G
      one = the_first olds some

      -- the sessions of each worker
      abbrev Did : ℕ → List Visit → Type 0
      Did i visits = AreSessions (setup_of account_of office (get_or olds i one).pass.items) visits
          × Served account_of talks gave tolls rings visits (get_or olds i one).pass.items (get_or news i one).pass.items (get_or olds i one).post.door (get_or news i one).post.door (get_or olds i one).post.clock (get_or news i one).post.clock (get_or olds i one).post.bell (get_or news i one).post.bell

      chosen : (visits : List (List Visit)) × (length visits ≡ length olds) × ((i : ℕ) (d : List Visit) → i < length olds → Did i (get_or visits i d))
      chosen = choose Did (length olds) (λ i l. let w = worked i one l in (w.visits, (w.sessions, w.served)))

      told : (i : ℕ) (d e : Worker (Vec Sitter Z) D K B G) → i < length olds → HasTold (get_or olds i d) (get_or news i e) (get_or chosen.0 i [])
      told i d e l =
          let s = chosen.2 i [] l in
          let u = unused i one l in
          subst (λ x. HasTold x (get_or news i e) (get_or chosen.0 i [])) (get_or_default olds i one d l)
          (subst (λ x. HasTold (get_or olds i one) x (get_or chosen.0 i [])) (get_or_default news i one e (subst (λ n. i < n) (sym long) l))
          (record { number_is = (worked i one l).number; talks_are = s.1.told [] u.no_talks; moments_are = s.1.moments [] u.no_moments }))

      still : list_any rang chosen.0 ≡ false → any_rang rings news ≡ false
      still none = any_false (λ (w : Worker (Vec Sitter Z) D K B G). nat_lt 0 (rings w.post.bell)) news
          (λ i d l.
          let m : i < length olds = subst (λ n. i < n) long l in
          let s = chosen.2 i [] m in
          let r = s.1.rung.stands (any_none rang chosen.0 none i [] (subst (λ n. i < n) (sym chosen.1) m)) in
          subst (λ (x : Worker (Vec Sitter Z) D K B G). nat_lt 0 (rings x.post.bell) ≡ false) (get_or_default news i one d l)
          (subst (λ k. nat_lt 0 k ≡ false) (sym (r ∙ (unused i one m).no_rings)) refl))

      -- the passes of the workers, before and after
      passes_at : (ws : List (Worker (Vec Sitter Z) D K B G)) (p : ℕ) (v : Vec Sitter Z) → p < length ws → get_or (passes_of ws) p v ≡ (get_or ws p one).pass
      passes_at ws p v l = get_or-map (λ (w : Worker (Vec Sitter Z) D K B G). w.pass) ws p one v l

      newcomers : AreDealt office.desks (passes_of olds) → (j : ℕ) (d : DeskView) → j < length office.desks → (p : ℕ) (v : Vec Sitter Z) → p < length chosen.0 → IsNewcomer (get_or office.desks j d) j p (get_or (passes_of olds) p v).items
      newcomers dealt j d below p v l =
          let m : p < length (passes_of olds) = subst (λ n. p < n) (chosen.1 ∙ sym (length-map olds (λ (w : Worker (Vec Sitter Z) D K B G). w.pass))) l in
          let e = dealt p v m in
          record {
            there = subst (λ (cs : List Sitter). j < length cs) (sym e) (subst (λ n. j < n) (sym (length-map office.desks (λ (x : DeskView). newcomer x p))) below);
            is = λ s. ap (λ (cs : List Sitter). get_or cs j s) e ∙ get_or-map (λ (x : DeskView). newcomer x p) office.desks j d s below;
          }

      gained : (p : ℕ) (v : Vec Sitter Z) → p < length chosen.0 → Gains account_of (acts_in (get_or chosen.0 p [])) (get_or (passes_of olds) p v).items (get_or (passes_of news) p v).items
      gained p v l =
          let m : p < length olds = subst (λ n. p < n) chosen.1 l in
          subst (λ (x : Vec Sitter Z). Gains account_of (acts_in (get_or chosen.0 p [])) x.items (get_or (passes_of news) p v).items) (sym (passes_at olds p v m))
          (subst (λ (x : Vec Sitter Z). Gains account_of (acts_in (get_or chosen.0 p [])) (get_or olds p one).pass.items x.items) (sym (passes_at news p v (subst (λ n. p < n) (sym long) m)))
          (chosen.2 p [] m).1.gains)

      pub ran : (T : Type 0) (keeps : T → List Kept → Type 0) (site0 site1 : T) (rings0 rings1 : ℕ) (end : OfficeEnd)
          → AreDealt office.desks (passes_of olds)
          → ((ks new : List Kept) → keeps site0 ks → AreKept talks gave news new → keeps site1 (ks ++ new))
          → Counted (any_rang rings news) rings0 rings1
          → Closed office.desks (passes_of news) end
          → Ran office (passes_of olds) (λ visits. Follows keeps site0 site1 (kept_as olds visits)) rings0 rings1 end
      ran T keeps site0 site1 rings0 rings1 end dealt kept rung closed = record {
        sessions = chosen.0;
        histories = closed.0;
        parties_are = chosen.1 ∙ sym (length-map olds (λ (w : Worker (Vec Sitter Z) D K B G). w.pass));
        served = λ p v l.
            let m : p < length olds = subst (λ n. p < n) chosen.1 l in
            subst (λ (x : Vec Sitter Z). AreSessions (setup_of account_of office x.items) (get_or chosen.0 p [])) (sym (passes_at olds p v m)) (chosen.2 p [] m).0;
        told = λ ks k. kept ks (kept_as olds chosen.0) k (are_kept olds news chosen.0 long chosen.1 told);
        desks_are = closed.1;
        joined = λ j d below.
            let t = the_first end.tallies.items (omega (arith, end.tallies.ok.0, closed.3, below)) in
            let l = the_first end.logs.items (omega (arith, end.logs.ok.0, closed.4, below)) in
            joins (get_or office.desks j d) j (passes_of olds) (passes_of news) chosen.0
            (length-map olds (λ (w : Worker (Vec Sitter Z) D K B G). w.pass) ∙ sym chosen.1)
            (length-map news (λ (w : Worker (Vec Sitter Z) D K B G). w.pass) ∙ long ∙ sym chosen.1)
            (newcomers dealt j d below) gained (get_or end.tallies.items j t) (get_or closed.0 j []) (closed.2 j d t l below).0;
        tallies_are = closed.3;
        tallied = λ j t below.
            let d = the_first office.desks (omega arith) in
            let l = the_first end.logs.items (omega (arith, end.logs.ok.0, closed.4, below)) in
            let e = (closed.2 j d t l below).0 in
            record { calls_is = e.calls_is; grants_is = e.grants_is; uses_are = e.uses_are };
        logs_are = closed.4;
        logged = λ j l below.
            let d = the_first office.desks (omega arith) in
            let t = the_first end.tallies.items (omega (arith, end.tallies.ok.0, closed.3, below)) in
            (closed.2 j d t l below).1;
        rung = λ none. rung.stands (still none);
      }

-- what holds of each worker's pass holds of each of the passes
pub the_pass : {P D K B G : Type 0} (Q : P → Type 0) (ws : List (Worker P D K B G)) → All (λ (w : Worker P D K B G). Q w.pass) ws → All Q (passes_of ws)
the_pass {P} {D} {K} {B} {G} Q ws h k d l =
    let m : k < length ws = subst (λ n. k < n) (length-map ws (λ (x : Worker P D K B G). x.pass)) l in
    let w = the_first ws (omega arith) in
    subst Q (sym (get_or-map (λ (x : Worker P D K B G). x.pass) ws k w d m)) (h k w m)

-- each worker has what was dealt to its party
pub dealt_each : {Z D K B G : Type 0} (desks : List DeskView) (ws : List (Worker (Vec Sitter Z) D K B G)) → AreDealt desks (passes_of ws) → (k : ℕ) (d : Worker (Vec Sitter Z) D K B G) → k < length ws → (get_or ws k d).pass.items ≡ map (λ (x : DeskView). newcomer x k) desks
dealt_each {Z} {D} {K} {B} {G} desks ws dealt k d l =
    let v = (get_or ws k d).pass in
    ap (λ (x : Vec Sitter Z). x.items) (sym (get_or-map (λ (w : Worker (Vec Sitter Z) D K B G). w.pass) ws k d v l))
    ∙ dealt k v (subst (λ n. k < n) (sym (length-map ws (λ (w : Worker (Vec Sitter Z) D K B G). w.pass))) l)

-- a run of these passes, which the site keeps otherwise
pub run_of : {Z : Type 0} (office : View DeskView) (xs ys : List (Vec Sitter Z)) (kept more : List (List Visit) → Type 0) (r0 r1 s0 : ℕ) (end : OfficeEnd)
    → xs ≡ ys → ((visits : List (List Visit)) → length visits ≡ length xs → kept visits → more visits) → r0 ≡ s0 → Ran office xs kept r0 r1 end → Ran office ys more s0 r1 end
run_of {Z} office xs ys kept more r0 r1 s0 end e h z r = subst (λ (ps : List (Vec Sitter Z)). Ran office ps more s0 r1 end) e (record {
  sessions = r.sessions;
  histories = r.histories;
  parties_are = r.parties_are;
  served = r.served;
  told = h r.sessions r.parties_are r.told;
  desks_are = r.desks_are;
  joined = r.joined;
  tallies_are = r.tallies_are;
  tallied = r.tallied;
  logs_are = r.logs_are;
  logged = r.logged;
  rung = λ none. r.rung none ∙ z;
})
