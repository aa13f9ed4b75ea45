-- The loop that closes the desks, the last one first.
use Rattle.std.proofs.Common.{◌≡◌, ℕ, zero, suc, ◌+◌, ◌<◌, List, [], ◌∷◌, ◌++◌, map, reverse, length, get_or, All, refl, sym, ap, ◌∙◌, subst, arith, append_assoc, append-nil, length-append, Vec, vec_len}
use Rattle.std.proofs.lemmas.List.{ext_get_or, get_or-map, get_or_append_left, get_or_push, length-map, reverse-append}
use Rattle.counter.specs.Account.{Account}
use Rattle.desk_book.specs.declared.end.DeskLog.{DeskLog}
use Rattle.feature_desk.specs.Closings.{AreClosable, HasLog, Rests, Tells}
use Rattle.feature_desk.specs.declared.closing.DeskTally.{DeskTally}
use Rattle.feature_desk.specs.Sitters.{DeskView, IsOf, Sitter, account_of, newcomer}
use Rattle.options_machine.specs.declared.reply.Entry.{Entry}
use Rattle.licence_office.specs.Dealing.{IsTaken}
use Rattle.licence_office.specs.Offices.{AreAt, accounts_at, nobody}

-- what closed desks told, the first of which is number `from` of all
pub record AreTold (from : ℕ) (accounts : ℕ → List Account) (desks : List DeskView) (tallies : List DeskTally) (logs : List DeskLog) (histories : List (List Entry)) : Type 0 where
  pub tally_count : length tallies ≡ length desks
  pub log_count : length logs ≡ length desks
  pub history_count : length histories ≡ length desks
  pub each : (j k : ℕ) (d : DeskView) (t : DeskTally) (l : DeskLog) → j < length desks → k ≡ from + j
      → Tells (get_or desks j d) (accounts k) (get_or tallies j t) (get_or histories j []) × HasLog (get_or logs j l) (get_or histories j [])

module _ (n m : ℕ) (accounts : ℕ → List Account) (desks : List DeskView) (tallies : List DeskTally) (logs : List DeskLog) (histories : List (List Entry)) (d : DeskView) (t : DeskTally) (l : DeskLog) (h : List Entry) where
  each_more : m ≡ n + 1 → AreTold m accounts desks tallies logs histories → Tells d (accounts n) t h → HasLog l h → (j k : ℕ) (x : DeskView) (y : DeskTally) (z : DeskLog) → j < length (d ∷ desks) → k ≡ n + j
      → Tells (get_or (d ∷ desks) j x) (accounts k) (get_or (t ∷ tallies) j y) (get_or (h ∷ histories) j []) × HasLog (get_or (l ∷ logs) j z) (get_or (h ∷ histories) j [])
  each_more next told tells log zero k x y z lt at = (subst (λ (i : ℕ). Tells d (accounts i) t h) (omega (arith, at)) tells, log)
  each_more next told tells log (suc j) k x y z lt at = told.each j k x y z (omega (arith, lt)) (omega (arith, at, next))

  told_more : m ≡ n + 1 → AreTold m accounts desks tallies logs histories → Tells d (accounts n) t h → HasLog l h → AreTold n accounts (d ∷ desks) (t ∷ tallies) (l ∷ logs) (h ∷ histories)
  told_more next told tells log = record {
    tally_count = ap suc told.tally_count;
    log_count = ap suc told.log_count;
    history_count = ap suc told.history_count;
    each = each_more next told tells log;
  }

-- a party's passes without the last, and the last
module _ (desks : List DeskView) (d : DeskView) (passes : List Sitter) (s : Sitter) (at : AreAt (desks ++ d ∷ []) (passes ++ s ∷ [])) where
  at_long : length passes ≡ length desks
  at_long = let a = length-append desks (d ∷ []) in let b = length-append passes (s ∷ []) in let l = at.long in omega (arith, a, b, l)

  at_front : AreAt desks passes
  at_front = record {
    long = at_long;
    each = λ j x y lt.
        subst (λ (z : DeskView). IsOf (get_or passes j x) z × Rests (get_or passes j x)) (get_or_append_left desks (d ∷ []) y j lt)
        (subst (λ (z : Sitter). IsOf z (get_or (desks ++ d ∷ []) j y) × Rests z) (get_or_append_left passes (s ∷ []) x j (let l = at_long in omega (arith, lt, l)))
        (at.each j x y (let a = length-append desks (d ∷ []) in omega (arith, a, lt))));
  }

  at_last : IsOf s d × Rests s
  at_last =
      subst (λ (z : DeskView). IsOf s z × Rests s) (get_or_push desks d d (length desks) refl)
      (subst (λ (z : Sitter). IsOf z (get_or (desks ++ d ∷ []) (length desks) d) × Rests z) (get_or_push passes s s (length desks) at_long)
      (at.each (length desks) s d (let a = length-append desks (d ∷ []) in omega (arith, a))))

-- what is known while desks are closed: those that are left, whose passes the parties still have, and what the others told
pub record Closes {Z : Type 0} (all : List DeskView) (passes : List (Vec Sitter Z)) (left : List DeskView) (now : List (Vec Sitter Z)) (tallies : List DeskTally) (logs : List DeskLog) : Type 0 where
  pub done : List DeskView
  pub histories : List (List Entry)
  pub whole : all ≡ left ++ done
  pub same : length now ≡ length passes
  pub ready : All (λ (p : Vec Sitter Z). AreAt left p.items) now
  pub accounts : (j : ℕ) → j < length left → accounts_at j now ≡ accounts_at j passes
  pub told : AreTold (length left) (λ k. accounts_at k passes) done (reverse tallies) (reverse logs) histories

module _ {Z : Type 0} where
  pub closes_none : (all : List DeskView) (passes : List (Vec Sitter Z)) (tallies : List DeskTally) (logs : List DeskLog) → tallies ≡ [] → logs ≡ [] → All (λ (p : Vec Sitter Z). AreAt all p.items) passes → Closes all passes all passes tallies logs
  closes_none all passes [] [] none blank ready = record {
    done = [];
    histories = [];
    whole = sym (append-nil all);
    same = refl;
    ready = ready;
    accounts = λ j lt. refl;
    told = record { tally_count = refl; log_count = refl; history_count = refl; each = λ j k d t l lt at. absurd (omega (arith, lt)) };
  }
  closes_none all passes (t ∷ ts) logs none blank ready = absurd (cc)
  closes_none all passes [] (l ∷ ls) none blank ready = absurd (cc)

  pub each_has_one : (left : List DeskView) (now : List (Vec Sitter Z)) → 0 < length left → All (λ (p : Vec Sitter Z). AreAt left p.items) now → All (λ (p : Vec Sitter Z). 0 < vec_len p) now
  each_has_one left now some ready k v lt =
      let p : Vec Sitter Z = get_or now k v in let long : length p.items ≡ length left = (ready k v lt).long in let ok = p.ok.0 in omega (arith, some, long, ok)

  module _ (left : List DeskView) (d : DeskView) (old new : List (Vec Sitter Z)) (room : List Sitter) (v : Vec Sitter Z) (ready : All (λ (p : Vec Sitter Z). AreAt (left ++ d ∷ []) p.items) old) (taken : IsTaken old new room) where
    at : (k : ℕ) (w : Vec Sitter Z) (s : Sitter) → k < length old → AreAt (left ++ d ∷ []) ((get_or new k w).items ++ get_or room k s ∷ [])
    at k w s lt = subst (AreAt (left ++ d ∷ [])) (taken.taken k w s lt) (ready k w lt)

    closable : AreClosable d room
    closable =
        let c = taken.count in record {
          own = λ k s lt. (at_last left d (get_or new k v).items (get_or room k s) (at k v s (omega (arith, lt, c)))).0;
          rest = λ k s lt. (at_last left d (get_or new k v).items (get_or room k s) (at k v s (omega (arith, lt, c)))).1;
        }

    still_ready : All (λ (p : Vec Sitter Z). AreAt left p.items) new
    still_ready k w lt = let e = taken.same in at_front left d (get_or new k w).items (get_or room k (newcomer d 0)) (at k w (newcomer d 0) (omega (arith, lt, e)))

    abbrev account : ℕ → Vec Sitter Z → Account
    account j p = get_or (map account_of p.items) j nobody

    same_account : (j k : ℕ) → j < length left → k < length old → account j (get_or new k v) ≡ account j (get_or old k v)
    same_account j k lt within =
        let s : Sitter = newcomer d 0 in
        let xs : List Sitter = (get_or new k v).items in
        let x : Sitter = get_or room k s in
        let long : length xs ≡ length left = at_long left d xs x (at k v s within) in
        let more = length-append xs (x ∷ []) in
        get_or-map account_of xs j s nobody (omega (arith, lt, long))
        ∙ (ap account_of (sym (get_or_append_left xs (x ∷ []) s j (omega (arith, lt, long))))
        ∙ (sym (get_or-map account_of (xs ++ x ∷ []) j s nobody (omega (arith, lt, long, more)))
        ∙ ap (λ (l : List Sitter). get_or (map account_of l) j nobody) (sym (taken.taken k v s within))))

    same_accounts : (j : ℕ) → j < length left → accounts_at j new ≡ accounts_at j old
    same_accounts j lt =
        let e = taken.same in
        let a = length-map new (account j) in
        let b = length-map old (account j) in
        ext_get_or nobody (map (account j) new) (map (account j) old) (omega (arith, a, b, e))
        (λ k within. get_or-map (account j) new k v nobody (omega (arith, within, a))
        ∙ (same_account j k lt (omega (arith, within, a, e)) ∙ sym (get_or-map (account j) old k v nobody (omega (arith, within, a, e)))))

    last_account : (k : ℕ) (s : Sitter) → k < length old → account (length left) (get_or old k v) ≡ account_of (get_or room k s)
    last_account k s within =
        let xs : List Sitter = (get_or new k v).items in
        let x : Sitter = get_or room k s in
        let long : length xs ≡ length left = at_long left d xs x (at k v s within) in
        let more = length-append xs (x ∷ []) in
        ap (λ (l : List Sitter). get_or (map account_of l) (length left) nobody) (taken.taken k v s within)
        ∙ (get_or-map account_of (xs ++ x ∷ []) (length left) s nobody (omega (arith, long, more))
        ∙ ap account_of (get_or_push xs x s (length left) long))

    last_accounts : accounts_at (length left) old ≡ map account_of room
    last_accounts =
        let s : Sitter = newcomer d 0 in
        let c = taken.count in
        let a = length-map old (account (length left)) in
        let b = length-map room account_of in
        ext_get_or nobody (map (account (length left)) old) (map account_of room) (omega (arith, a, b, c))
        (λ k within. get_or-map (account (length left)) old k v nobody (omega (arith, within, a))
        ∙ (last_account k s (omega (arith, within, a)) ∙ sym (get_or-map account_of room k s nobody (omega (arith, within, a, c)))))

  pub closable_last : (left rest : List DeskView) (d : DeskView) (old new : List (Vec Sitter Z)) (room : List Sitter) (v : Vec Sitter Z) → left ≡ rest ++ d ∷ [] → All (λ (p : Vec Sitter Z). AreAt left p.items) old → IsTaken old new room → AreClosable d room
  closable_last left rest d old new room v is ready taken = closable rest d old new room v (subst (λ (z : List DeskView). All (λ (p : Vec Sitter Z). AreAt z p.items) old) is ready) taken

  module _ (all left rest : List DeskView) (d : DeskView) (passes old new : List (Vec Sitter Z)) (room : List Sitter) (v : Vec Sitter Z) (tallies : List DeskTally) (logs : List DeskLog) (t : DeskTally) (l : DeskLog) (h : List Entry) where
    pub closes_more : left ≡ rest ++ d ∷ [] → Closes all passes left old tallies logs → IsTaken old new room → Tells d (map account_of room) t h → HasLog l h → Closes all passes rest new (tallies ++ t ∷ []) (logs ++ l ∷ [])
    closes_more is c taken tells log =
        let ready : All (λ (p : Vec Sitter Z). AreAt (rest ++ d ∷ []) p.items) old = subst (λ (z : List DeskView). All (λ (p : Vec Sitter Z). AreAt z p.items) old) is c.ready in
        let long : length left ≡ length rest + 1 = (let a = length-append rest (d ∷ []) in let b = ap length is in omega (arith, a, b)) in
        let last : map account_of room ≡ accounts_at (length rest) passes = sym (last_accounts rest d old new room v ready taken) ∙ c.accounts (length rest) (omega (arith, long)) in
        let tell : Tells d (accounts_at (length rest) passes) t h = subst (λ (z : List Account). Tells d z t h) last tells in
        let told : AreTold (length rest) (λ k. accounts_at k passes) (d ∷ c.done) (t ∷ reverse tallies) (l ∷ reverse logs) (h ∷ c.histories)
        = told_more (length rest) (length left) (λ k. accounts_at k passes) c.done (reverse tallies) (reverse logs) c.histories d t l h long c.told tell log in
        record {
          done = d ∷ c.done;
          histories = h ∷ c.histories;
          whole = c.whole ∙ (ap (λ (z : List DeskView). z ++ c.done) is ∙ append_assoc rest (d ∷ []) c.done);
          same = taken.same ∙ c.same;
          ready = still_ready rest d old new room v ready taken;
          accounts = λ j lt. same_accounts rest d old new room v ready taken j lt ∙ c.accounts j (omega (arith, lt, long));
          told = subst (λ (z : List DeskTally). AreTold (length rest) (λ k. accounts_at k passes) (d ∷ c.done) z (reverse (logs ++ l ∷ [])) (h ∷ c.histories)) (sym (reverse-append tallies (t ∷ [])))
              (subst (λ (z : List DeskLog). AreTold (length rest) (λ k. accounts_at k passes) (d ∷ c.done) (t ∷ reverse tallies) z (h ∷ c.histories)) (sym (reverse-append logs (l ∷ []))) told);
        }

  -- what is told of all desks, where so many tallies and logs are told
  abbrev pub TellsAll : List DeskView → List (Vec Sitter Z) → List DeskTally → List DeskLog → ℕ → ℕ → Type 0
  TellsAll all passes tallies logs n m = (histories : List (List Entry)) × (length histories ≡ length all)
      × ((j : ℕ) (d : DeskView) (t : DeskTally) (l : DeskLog) → j < length all → Tells (get_or all j d) (accounts_at j passes) (get_or tallies j t) (get_or histories j []) × HasLog (get_or logs j l) (get_or histories j []))
      × (n ≡ length all) × (m ≡ length all)

  pub closes_all : (all : List DeskView) (passes : List (Vec Sitter Z)) (left : List DeskView) (now : List (Vec Sitter Z)) (tallies told : List DeskTally) (logs kept : List DeskLog) (n m : ℕ) → length left ≡ 0
      → Closes all passes left now tallies logs → told ≡ reverse tallies → kept ≡ reverse logs → n ≡ length told → m ≡ length kept → TellsAll all passes told kept n m
  closes_all all passes [] now tallies told logs kept n m none c is was ns ms =
      let w : c.done ≡ all = sym c.whole in
      let all_told : AreTold 0 (λ k. accounts_at k passes) all told kept c.histories
      = subst (λ (z : List DeskView). AreTold 0 (λ k. accounts_at k passes) z told kept c.histories) w
      (subst (λ (z : List DeskTally). AreTold 0 (λ k. accounts_at k passes) c.done z kept c.histories) (sym is)
      (subst (λ (z : List DeskLog). AreTold 0 (λ k. accounts_at k passes) c.done (reverse tallies) z c.histories) (sym was) c.told)) in
      (c.histories, all_told.history_count, (λ j d t l lt. all_told.each j j d t l lt (omega arith)), ns ∙ all_told.tally_count, ms ∙ all_told.log_count)
  closes_all all passes (x ∷ xs) now tallies told logs kept n m none c is was ns ms = absurd (omega (arith, none))

  -- the same, of the same desks and passes by other names
  pub same_told : (desks all : List DeskView) (lent passes : List (Vec Sitter Z)) (tallies : List DeskTally) (logs : List DeskLog) (n m : ℕ) → desks ≡ all → lent ≡ passes → TellsAll desks lent tallies logs n m → TellsAll all passes tallies logs n m
  same_told desks all lent passes tallies logs n m is are told =
      subst (λ (z : List DeskView). TellsAll z passes tallies logs n m) is (subst (λ (z : List (Vec Sitter Z)). TellsAll desks z tallies logs n m) are told)
