-- One entry: what it adds to an account, and what it leaves of a party's passes.
use Rattle.std.proofs.Common.{◌≡◌, ℕ, ◌+◌, Bool, true, false, cond, List, [], ◌∷◌, ◌++◌, refl, ap, sym, ◌∙◌, subst, arith, Option, None, Some}
use Rattle.std.specs.Option.{is_none}
use Rattle.std.proofs.lemmas.Bool.{eq-eqb}
use Rattle.std.proofs.lemmas.List.{append_cancel_right}
use Rattle.std.proofs.lemmas.List.Elements.{filter-append}
use Rattle.lic_types.specs.declared.client.Client.{Client}
use Rattle.desk_seats.specs.Passes.{SeatPass}
use Rattle.options_machine.specs.declared.reply.Entry.{Entry}
use Rattle.options_machine.specs.declared.reply.Kind.{Kind}
use Rattle.options_machine.specs.declared.reply.Kind.TheVariants.{Quit}
use Rattle.options_machine.specs.declared.reply.Reply.{Reply}
use Rattle.options_machine.specs.declared.reply.Reply.TheVariants as reply
use Rattle.options_machine.specs.Own.{holds, is_entry_of, is_of_holding, is_of_queueing, is_some_of, own, queues, standing, standing_then}
use Rattle.options_machine.specs.Rules.{Rules}
use Rattle.options_machine.specs.Run.{IsRun, after}
use Rattle.options_machine.specs.Settle.{later_moment}
use Rattle.options_machine.specs.State.{opening}
use Rattle.options_machine.specs.Step.{set_asked}
use Rattle.options_machine.proofs.Counts.{count-cons}
use Rattle.options_machine.proofs.Quits.{quit_leaves, standing-snoc}
use Rattle.options_machine.proofs.Replies.{sets_reread}
use Rattle.options_machine.proofs.Runs.{run_last}
use Rattle.options_machine.proofs.Seats.{seats_stay}
use Rattle.options_machine.proofs.Standings.{own_tells}
use Rattle.counter.specs.declared.counter.Asked.{Asked}
use Rattle.counter.specs.Account.{Enters, brings_seat, grants}
use Rattle.desk_book.specs.declared.book.DeskLaw.{DeskLaw}
use Rattle.desk_book.specs.Askers.{Asker, Makes}
use Rattle.feature_desk.specs.declared.passes.Chair.{Chair}
use Rattle.feature_desk.specs.Sitters.{Sitter, account_of}
use Rattle.feature_desk.specs.Sittings.{Agree, Waits, is_hold, pass_in}
use Rattle.feature_desk.specs.Standing.{is_of_rereading}

grants_longer : (h : List Entry) (e : Entry) → grants (h ++ e ∷ []) ≡ grants h + cond (brings_seat e.reply) 1 0
grants_longer [] e = let one : grants (e ∷ []) ≡ cond (brings_seat e.reply) 1 0 + 0 = count-cons (λ (x : Entry). brings_seat x.reply) e [] in omega (arith, one)
grants_longer (x ∷ xs) e =
    let one = count-cons (λ (y : Entry). brings_seat y.reply) x (xs ++ e ∷ []) in
    let two = count-cons (λ (y : Entry). brings_seat y.reply) x xs in
    omega (arith, one, two, grants_longer xs e)

own_one : (p : ℕ) (e : Entry) → e.request.party ≡ p → own (e ∷ []) p ≡ e ∷ []
own_one p e is = rw (eq-eqb e.request.party p is) refl

stood_then : (f : Reply → Bool) (o : Option Reply) (e : Entry) (p : ℕ) (b c : Bool) → is_entry_of p e ≡ b → b ≡ true → is_none (set_asked e.request.kind) ≡ c → is_some_of f (standing_then p o e) ≡ cond c (f e.reply) (is_some_of f o)
stood_then f o e p true true b t c = rw (b, c) refl
stood_then f o e p true false b t c = rw (b, c) refl
stood_then f o e p false c b t is = absurd (let never : false ≡ true = t in cc)

-- what stands after one more entry of the party
stands_then : (f : Reply → Bool) (h : List Entry) (e : Entry) (p : ℕ) → e.request.party ≡ p → is_some_of f (standing (h ++ e ∷ []) p) ≡ cond (is_none (set_asked e.request.kind)) (f e.reply) (is_some_of f (standing h p))
stands_then f h e p is =
    ap (is_some_of f) (standing-snoc p None h e) ∙ stood_then f (standing h p) e p (is_entry_of p e) (is_none (set_asked e.request.kind)) refl (eq-eqb e.request.party p is) refl

brings_holding : (r : Reply) → brings_seat r ≡ true → is_of_holding r ≡ true
brings_holding (reply.Granted charge) e = refl
brings_holding (reply.Retaken charge) e = refl
brings_holding (reply.Denied line) e = absurd (let never : false ≡ true = e in cc)
brings_holding (reply.NoSeat taken free) e = absurd (let never : false ≡ true = e in cc)
brings_holding reply.AlreadyHeld e = refl
brings_holding reply.Returned e = absurd (let never : false ≡ true = e in cc)
brings_holding (reply.Lingering until) e = absurd (let never : false ≡ true = e in cc)
brings_holding reply.NotHeld e = absurd (let never : false ≡ true = e in cc)
brings_holding reply.Beaten e = refl
brings_holding reply.Held e = refl
brings_holding (reply.Counts held lingering taken free own queued) e = absurd (let never : false ≡ true = e in cc)
brings_holding (reply.Queued position) e = absurd (let never : false ≡ true = e in cc)
brings_holding reply.Unqueued e = absurd (let never : false ≡ true = e in cc)
brings_holding (reply.Reread set) e = absurd (let never : false ≡ true = e in cc)

some_of : (o : Option ℕ) → is_none o ≡ false → (n : ℕ) × (o ≡ Some n)
some_of None e = absurd (let never : true ≡ false = e in cc)
some_of (Some n) e = (n, refl)

-- a reply that a rule set holds says which
is_rereading : (r : Reply) → is_of_rereading r ≡ true → (n : ℕ) × (r ≡ reply.Reread n)
is_rereading (reply.Reread n) e = (n, refl)
is_rereading (reply.Granted charge) e = absurd (let never : false ≡ true = e in cc)
is_rereading (reply.Retaken charge) e = absurd (let never : false ≡ true = e in cc)
is_rereading (reply.Denied line) e = absurd (let never : false ≡ true = e in cc)
is_rereading (reply.NoSeat taken free) e = absurd (let never : false ≡ true = e in cc)
is_rereading reply.AlreadyHeld e = absurd (let never : false ≡ true = e in cc)
is_rereading reply.Returned e = absurd (let never : false ≡ true = e in cc)
is_rereading (reply.Lingering until) e = absurd (let never : false ≡ true = e in cc)
is_rereading reply.NotHeld e = absurd (let never : false ≡ true = e in cc)
is_rereading reply.Beaten e = absurd (let never : false ≡ true = e in cc)
is_rereading reply.Held e = absurd (let never : false ≡ true = e in cc)
is_rereading (reply.Counts held lingering taken free own queued) e = absurd (let never : false ≡ true = e in cc)
is_rereading (reply.Queued position) e = absurd (let never : false ≡ true = e in cc)
is_rereading reply.Unqueued e = absurd (let never : false ≡ true = e in cc)

module _ (sets : List Rules) (before : List Entry) (e : Entry) (run : IsRun sets (before ++ e ∷ [])) where
  reread_replies : (n : ℕ) → set_asked e.request.kind ≡ Some n → e.reply ≡ reply.Reread n
  reread_replies n asks =
      let follows = run_last sets opening before e run in
      follows.reply ∙ (sets_reread sets (after sets before) e.request e.moment n).1 asks

  rereads_only : is_of_rereading e.reply ≡ true → (n : ℕ) × (set_asked e.request.kind ≡ Some n)
  rereads_only is =
      let follows = run_last sets opening before e run in
      let r = is_rereading e.reply is in
      (r.0, (sets_reread sets (after sets before) e.request e.moment r.0).0 (sym follows.reply ∙ r.1))

-- a call of the party t, which is u afterwards
module _ (t u : Asker) (client : Client) (kind : Kind) (moment used : ℕ) (answer : Reply) (place : ℕ) (number_is : u.number ≡ t.number) (law_is : u.law ≡ t.law) (party : ℕ) (party_is : party ≡ t.number) (before : List Entry) where
  abbrev e : Entry
  e = record { request = record { party = party; client = client; kind = kind }; moment = used; reply = answer }

  is_own : party ≡ u.number
  is_own = party_is ∙ sym number_is

  abbrev answers : Bool
  answers = is_none (set_asked kind)

  module _ (makes : Makes t u moment place before e) where
    run : IsRun u.law.sets (before ++ e ∷ [])
    run = subst (IsRun u.law.sets) makes.seen makes.run

    -- the party's own entries before this one
    own_before : own before u.number ≡ t.mine
    own_before = append_cancel_right (own before u.number) t.mine (e ∷ [])
        (ap (λ (z : List Entry). own before u.number ++ z) (sym (own_one u.number e is_own)) ∙ (sym (filter-append (is_entry_of u.number) before (e ∷ [])) ∙ (ap (λ (h : List Entry). own h u.number) (sym makes.seen) ∙ (sym makes.only ∙ makes.mine))))

    stands : (f : Reply → Bool) → is_some_of f (standing u.mine u.number) ≡ cond answers (f answer) (is_some_of f (standing t.mine u.number))
    stands f = ap (λ (h : List Entry). is_some_of f (standing h u.number)) makes.mine ∙ stands_then f t.mine e u.number is_own

    -- whether it holds, by the seat that it had
    module _ (c : Chair) (q : Bool) (agree : Agree t c q) (held queued : Bool) (held_is : held ≡ cond answers (is_of_holding answer) (is_hold c)) (queued_is : queued ≡ cond answers (is_of_queueing answer) q) where
      had : is_hold c ≡ is_some_of is_of_holding (standing t.mine u.number)
      had = agree.held ∙ ap (λ (n : ℕ). holds t.mine n) (sym number_is)

      held_now : held ≡ holds u.mine u.number
      held_now = held_is ∙ (ap (λ (b : Bool). cond answers (is_of_holding answer) b) had ∙ sym (stands is_of_holding))

      queued_now : queued ≡ queues u.mine u.number
      queued_now = queued_is ∙ (ap (λ (b : Bool). cond answers (is_of_queueing answer) b) (agree.queued_is ∙ ap (λ (n : ℕ). queues t.mine n) (sym number_is)) ∙ sym (stands is_of_queueing))

      -- to a question that no rule set answers
      reread_is : answers ≡ false → (n : ℕ) × (answer ≡ reply.Reread n)
      reread_is no_answer = let s = some_of (set_asked kind) no_answer in (s.0, reread_replies u.law.sets before e run s.0 s.1)

      brought : (b : Bool) → answers ≡ b → brings_seat answer ≡ true → held ≡ true
      brought true is brings = held_is ∙ (ap (λ (b : Bool). cond b (is_of_holding answer) (is_hold c)) is ∙ brings_holding answer brings)
      brought false is brings = absurd (let never : false ≡ true = sym (ap brings_seat (reread_is is).1) ∙ brings in cc)

      held_before : is_of_holding answer ≡ true → brings_seat answer ≡ false → is_hold c ≡ true
      held_before h b = had ∙ (ap (λ (z : List Entry). is_some_of is_of_holding (standing z u.number)) (sym own_before) ∙ (ap (is_some_of is_of_holding) (sym (own_tells before u.number))
          ∙ (ap (λ (n : ℕ). holds before n) (sym is_own) ∙ seats_stay u.law.sets _ before e makes.sets run h b)))

      stays : (b : Bool) → answers ≡ b → brings_seat answer ≡ false → held ≡ true → is_hold c ≡ true
      stays true is brings h = held_before (sym (held_is ∙ ap (λ (b : Bool). cond b (is_of_holding answer) (is_hold c)) is) ∙ h) brings
      stays false is brings h = sym (held_is ∙ ap (λ (b : Bool). cond b (is_of_holding answer) (is_hold c)) is) ∙ h

      reread : (b : Bool) → answers ≡ b → is_of_rereading answer ≡ true → is_hold c ≡ held
      reread true is r = let s = rereads_only u.law.sets before e run r in absurd (let never : true ≡ false = sym is ∙ ap is_none s.1 in cc)
      reread false is r = sym (held_is ∙ ap (λ (b : Bool). cond b (is_of_holding answer) (is_hold c)) is)

      abbrev asked : Asked
      asked = record { reply = answer; place = place; moment = used; held = held }

      pub waits : Waits u c queued asked
      waits = record {
        belong = record { number = agree.belong.number ∙ sym number_is; low = agree.belong.low };
        sits = agree.sits;
        held = held_now;
        queued_is = queued_now;
        count = let n = ap grants makes.mine ∙ grants_longer t.mine e in let m = agree.count in omega (arith, n, m);
        brought = brought answers refl;
        way = λ on. absurd (let never : false ≡ true = sym agree.rests ∙ on in cc);
        stays = stays answers refl;
        reread = reread answers refl;
      }

      quit : kind ≡ Quit → (holds u.mine u.number ≡ false) × (queues u.mine u.number ≡ false)
      quit k =
          let l = quit_leaves u.law.sets _ before e makes.sets run k in
          let same : standing (before ++ e ∷ []) party ≡ standing u.mine u.number =
          ap (λ (n : ℕ). standing (before ++ e ∷ []) n) is_own ∙ (own_tells (before ++ e ∷ []) u.number ∙ ap (λ (h : List Entry). standing h u.number) (ap (λ (h : List Entry). own h u.number) (sym makes.seen) ∙ sym makes.only)) in
          (ap (is_some_of is_of_holding) (sym same) ∙ l.0, ap (is_some_of is_of_queueing) (sym same) ∙ l.1)

      pub enters : (p : SeatPass) → Enters (account_of (record { ticket = t; seat = p })) (account_of (record { ticket = u; seat = p })) kind client moment asked before e
      enters p = record {
        sets = ap (λ (l : DeskLaw). l.sets) law_is;
        party = number_is;
        since = makes.since;
        seen = makes.seen;
        run = makes.run;
        mine = makes.mine;
        only = makes.only;
        asker = party_is;
        client = refl;
        kind = refl;
        moment = makes.moment_is ∙ ap (λ (l : DeskLaw). later_moment (after l.sets before).now moment) law_is;
        reply = refl;
        told = refl;
        place = makes.place_is;
        held = held_now;
        quit = quit;
      }

      pub enters_as : (s : Sitter) → record { ticket = t; seat = pass_in c } ≡ s
          → (b : List Entry) × (x : Entry) × Enters (account_of s) (account_of (record { ticket = u; seat = pass_in c })) kind client moment asked b x
      enters_as s same = (before, e, subst (λ (z : Sitter). Enters (account_of z) (account_of (record { ticket = u; seat = pass_in c })) kind client moment asked before e) same (enters (pass_in c)))
