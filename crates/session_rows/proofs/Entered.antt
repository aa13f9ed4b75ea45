-- One entry: what it adds to an account, and what it leaves of a sitting.
use Rattle.std.proofs.Common.{◌≡◌, ℕ, ◌+◌, ◌%◌, ◌^◌, Bool, true, false, cond, List, [], ◌∷◌, ◌++◌, length, refl, ap, sym, ◌∙◌, subst, arith, eqb, Option, None, Some, replicate, zero, suc, add-zero, add-one, append-nil, ◌||◌, nat_lt}
use Rattle.std.specs.Option.{is_none}
use Rattle.std.proofs.lemmas.Bool.{eq-eqb}
use Rattle.std.proofs.lemmas.Bool.Decides.{nat_tests}
use Rattle.std.proofs.lemmas.List.{append_cancel_right, length-map, map-append}
use Rattle.std.proofs.Math.Bool.{or-true, or-false}
use Rattle.lic_types.specs.declared.client.Client.{Client}
use Rattle.options_machine.specs.declared.reply.Entry.{Entry}
use Rattle.options_machine.specs.declared.reply.Kind.{Kind}
use Rattle.options_machine.specs.declared.reply.Kind.TheVariants.{Quit}
use Rattle.options_machine.specs.declared.reply.Reply.{Reply}
use Rattle.options_machine.specs.declared.reply.Request.{Request}
use Rattle.options_machine.specs.Own.{holds, is_entry_of, is_of_holding, is_of_queueing, is_some_of, own, queues, standing, standing_then}
use Rattle.options_machine.specs.Run.{IsRun, after}
use Rattle.options_machine.specs.Settle.{later_moment}
use Rattle.options_machine.specs.Step.{set_asked}
use Rattle.options_machine.proofs.Quits.{quit_leaves, standing-snoc}
use Rattle.options_machine.proofs.Standings.{own_tells}
use Rattle.turn_lock.specs.Entries as turns
use Rattle.turn_lock.specs.Entries.{entry}
use Rattle.counter.specs.declared.counter.Asked.{Asked}
use Rattle.counter.specs.Account.{AreSeats, Asking, Asks, Enters, brings_seat, grants, last_from, seat_of}
use Rattle.turn_lock.specs.Passes.{Pass}
use Rattle.session_rows.specs.declared.book.BookLaw.{BookLaw}
use Rattle.session_rows.specs.Books.{Call, Runs, entry_of, entries_of, used_at}
use Rattle.session_rows.specs.Turns.{account_of}
use Rattle.session_rows.proofs.Stepping.{entries-snoc, grants-snoc}

abbrev pub party_of : Request → ℕ
party_of q = q.party

own_step : (p : ℕ) (c : Call) (cs : List Call) (b : Bool) → eqb c.request.party p ≡ b → own (entries_of cs) p ≡ entries_of (turns.own party_of p cs) → own (entries_of (c ∷ cs)) p ≡ entries_of (turns.own party_of p (c ∷ cs))
own_step p c cs true e f = rw e (ap (λ (z : List Entry). entry_of c ∷ z) f)
own_step p c cs false e f = rw e f

-- a party's own entries are those of its own calls
pub own_entries : (p : ℕ) (h : List Call) → own (entries_of h) p ≡ entries_of (turns.own party_of p h)
own_entries p [] = refl
own_entries p (c ∷ cs) = own_step p c cs (eqb c.request.party p) refl (own_entries p cs)

own-snoc_step : (p : ℕ) (x e : Entry) (xs : List Entry) (b : Bool) → is_entry_of p x ≡ b → own (xs ++ e ∷ []) p ≡ own xs p ++ own (e ∷ []) p → own ((x ∷ xs) ++ e ∷ []) p ≡ own (x ∷ xs) p ++ own (e ∷ []) p
own-snoc_step p x e xs true b f = rw b (ap (λ (z : List Entry). x ∷ z) f)
own-snoc_step p x e xs false b f = rw b f

own-snoc : (p : ℕ) (xs : List Entry) (e : Entry) → own (xs ++ e ∷ []) p ≡ own xs p ++ own (e ∷ []) p
own-snoc p [] e = refl
own-snoc p (x ∷ xs) e = own-snoc_step p x e xs (is_entry_of p x) refl (own-snoc p xs e)

own_one : (p : ℕ) (e : Entry) → e.request.party ≡ p → own (e ∷ []) p ≡ e ∷ []
own_one p e is = rw (eq-eqb e.request.party p is) refl

stood_then : (f : Reply → Bool) (o : Option Reply) (e : Entry) (p : ℕ) (b c : Bool) → is_entry_of p e ≡ b → b ≡ true → is_none (set_asked e.request.kind) ≡ c → is_some_of f (standing_then p o e) ≡ cond c (f e.reply) (is_some_of f o)
stood_then f o e p true true b t c = rw (b, c) refl
stood_then f o e p true false b t c = rw (b, c) refl
stood_then f o e p false c b t is = absurd (let never : false ≡ true = t in cc)

-- what stands after one more entry of the party
stands_then : (f : Reply → Bool) (h : List Entry) (e : Entry) (p : ℕ) → e.request.party ≡ p → is_some_of f (standing (h ++ e ∷ []) p) ≡ cond (is_none (set_asked e.request.kind)) (f e.reply) (is_some_of f (standing h p))
stands_then f h e p is =
    ap (is_some_of f) (standing-snoc p None h e) ∙ stood_then f (standing h p) e p (is_entry_of p e) (is_none (set_asked e.request.kind)) refl (eq-eqb e.request.party p is) refl

zero_last : (n : ℕ) → 0 ∷ replicate {A = ℕ} n 0 ≡ replicate {A = ℕ} n 0 ++ 0 ∷ []
zero_last zero = refl
zero_last (suc n) = ap (λ (ns : List ℕ). 0 ∷ ns) (zero_last n)

more_one : (n : ℕ) → replicate {A = ℕ} (n + 1) 0 ≡ replicate n 0 ++ 0 ∷ []
more_one n = ap (λ (m : ℕ). replicate {A = ℕ} m 0) (add-one n) ∙ zero_last n

more_seats : (n : ℕ) (b : Bool) → replicate {A = ℕ} (n + cond b 1 0) 0 ≡ replicate n 0 ++ cond b (0 ∷ []) []
more_seats n true = more_one n
more_seats n false = ap (λ (m : ℕ). replicate {A = ℕ} m 0) (add-zero n) ∙ sym (append-nil (replicate {A = ℕ} n 0))

some_left : (n : ℕ) → nat_lt 0 (n + 1) ≡ true
some_left n = grind (arith, nat_tests)

pub granted_more : (n : ℕ) (b : Bool) → (nat_lt 0 n || b) ≡ nat_lt 0 (n + cond b 1 0)
granted_more n true = or-true (nat_lt 0 n) ∙ sym (some_left n)
granted_more n false = or-false (nat_lt 0 n) ∙ ap (nat_lt 0) (sym (add-zero n))

same_last : (n : ℕ) → last_from (Some 0) (replicate {A = ℕ} n 0) ≡ Some 0
same_last zero = refl
same_last (suc n) = same_last n

last_zero : (n : ℕ) → nat_lt 0 n ≡ true → last_from None (replicate {A = ℕ} n 0) ≡ Some 0
last_zero zero h = absurd cc
last_zero (suc n) h = same_last n

-- the seat of one that holds and was granted
pub seat_is : (p : Pass BookLaw Request Reply) (held granted : Bool) → held ≡ holds (entries_of p.mine) p.number → granted ≡ nat_lt 0 (grants (entries_of p.mine)) → held ≡ true → granted ≡ true → Some 0 ≡ seat_of (account_of p)
seat_is p held granted h k e f =
    sym (ap (λ (b : Bool). cond b (last_from None (replicate {A = ℕ} (grants (entries_of p.mine)) 0)) None) (sym h ∙ e) ∙ last_zero (grants (entries_of p.mine)) (sym k ∙ f))

are_seats : (b : Bool) → AreSeats b (cond b (0 ∷ []) [])
are_seats true = (0, refl)
are_seats false = refl

-- a call of the lock, by the pass t, which is u afterwards
module _ (t u : Pass BookLaw Request Reply) (client : Client) (kind : Kind) (moment used : ℕ) (answer : Reply) (place : ℕ)
    (number_is : u.number ≡ t.number) (law_is : u.law ≡ t.law) (between : List Call) (party : ℕ) (party_is : party ≡ t.number) where
  abbrev request : Request
  request = record { party = party; client = client; kind = kind }

  abbrev call : Call
  call = entry request used answer

  abbrev e : Entry
  e = entry_of call

  is_own : party ≡ u.number
  is_own = party_is ∙ sym number_is

  abbrev before : List Entry
  before = entries_of (t.seen ++ between)

  module _ (seen_is : u.seen ≡ (t.seen ++ between) ++ call ∷ []) (ran : Runs u.law u.seen) (mine_is : u.mine ≡ t.mine ++ call ∷ []) (own_is : turns.own party_of u.number u.seen ≡ u.mine) where
    seen_as : entries_of u.seen ≡ before ++ e ∷ []
    seen_as = ap entries_of seen_is ∙ entries-snoc (t.seen ++ between) call

    mine_as : entries_of u.mine ≡ entries_of t.mine ++ e ∷ []
    mine_as = ap entries_of mine_is ∙ entries-snoc t.mine call

    run : IsRun u.law.sets (before ++ e ∷ [])
    run = subst (IsRun u.law.sets) seen_as ran.run

    only : entries_of u.mine ≡ own (entries_of u.seen) u.number
    only = ap entries_of (sym own_is) ∙ sym (own_entries u.number u.seen)

    -- the party's own entries before this one
    own_before : own before u.number ≡ entries_of t.mine
    own_before = append_cancel_right (own before u.number) (entries_of t.mine) (e ∷ [])
        (ap (λ (z : List Entry). own before u.number ++ z) (sym (own_one u.number e is_own)) ∙ (sym (own-snoc u.number before e) ∙ (ap (λ (h : List Entry). own h u.number) (sym seen_as) ∙ (sym only ∙ mine_as))))

    pub grants_now : grants (entries_of u.mine) ≡ grants (entries_of t.mine) + cond (brings_seat answer) 1 0
    grants_now = ap grants mine_as ∙ grants-snoc (entries_of t.mine) e

    abbrev answers : Bool
    answers = is_none (set_asked kind)

    stands : (f : Reply → Bool) → is_some_of f (standing (entries_of u.mine) u.number) ≡ cond answers (f answer) (is_some_of f (standing (entries_of t.mine) u.number))
    stands f = ap (λ (h : List Entry). is_some_of f (standing h u.number)) mine_as ∙ stands_then f (entries_of t.mine) e u.number is_own

    -- what the counter kept of what the party was told
    module _ (h q : Bool) (held_was : h ≡ holds (entries_of t.mine) t.number) (queued_was : q ≡ queues (entries_of t.mine) t.number) (held queued : Bool) (held_is : held ≡ cond answers (is_of_holding answer) h) (queued_is : queued ≡ cond answers (is_of_queueing answer) q) where
      pub held_now : held ≡ holds (entries_of u.mine) u.number
      held_now = held_is ∙ (ap (λ (b : Bool). cond answers (is_of_holding answer) b) (held_was ∙ ap (λ (n : ℕ). holds (entries_of t.mine) n) (sym number_is)) ∙ sym (stands is_of_holding))

      pub queued_now : queued ≡ queues (entries_of u.mine) u.number
      queued_now = queued_is ∙ (ap (λ (b : Bool). cond answers (is_of_queueing answer) b) (queued_was ∙ ap (λ (n : ℕ). queues (entries_of t.mine) n) (sym number_is)) ∙ sym (stands is_of_queueing))

      quit : kind ≡ Quit → (holds (entries_of u.mine) u.number ≡ false) × (queues (entries_of u.mine) u.number ≡ false)
      quit k =
          let l = quit_leaves u.law.sets _ before e ran.sets run k in
          let same : standing (before ++ e ∷ []) party ≡ standing (entries_of u.mine) u.number =
          ap (λ (n : ℕ). standing (before ++ e ∷ []) n) is_own ∙ (own_tells (before ++ e ∷ []) u.number ∙ ap (λ (h : List Entry). standing h u.number) (ap (λ (h : List Entry). own h u.number) (sym seen_as) ∙ sym only)) in
          (ap (is_some_of is_of_holding) (sym same) ∙ l.0, ap (is_some_of is_of_queueing) (sym same) ∙ l.1)

      abbrev asked : Asked
      asked = record { reply = answer; place = place; moment = used; held = held }

      enters : used ≡ used_at u.law (t.seen ++ between) moment → place ≡ length (t.seen ++ between) % 2 ^ 64
          → Enters (account_of t) (account_of u) kind client moment asked before e
      enters used_is place_is = record {
        sets = ap (λ (l : BookLaw). l.sets) law_is;
        party = number_is;
        since = (entries_of between, map-append entry_of t.seen between);
        seen = seen_as;
        run = ran.run;
        mine = mine_as;
        only = only;
        asker = party_is;
        client = refl;
        kind = refl;
        moment = used_is ∙ ap (λ (l : BookLaw). later_moment (after l.sets before).now moment) law_is;
        reply = refl;
        told = refl;
        place = place_is ∙ ap (λ (n : ℕ). n % 2 ^ 64) (sym (length-map (t.seen ++ between) entry_of));
        held = held_now;
        quit = quit;
      }

      pub asks : used ≡ used_at u.law (t.seen ++ between) moment → place ≡ length (t.seen ++ between) % 2 ^ 64 → (a : Asking) × Asks (account_of t) (account_of u) kind client moment asked a
      asks used_is place_is = (
        record { handed = moment; before = before; entry = e; seats = cond (brings_seat answer) (0 ∷ []) [] },
        record {
          handed = refl;
          enters = enters used_is place_is;
          got = ap (λ (n : ℕ). replicate {A = ℕ} n 0) (ap grants mine_as ∙ grants-snoc (entries_of t.mine) e) ∙ more_seats (grants (entries_of t.mine)) (brings_seat answer);
          seats = are_seats (brings_seat answer);
          board_seen = ([], refl);
          board = λ small. (omega arith, omega arith);
        },
      )
