-- The seat after an asking.
use Rattle.std.proofs.Common.{◌≡◌, ℕ, ◌∙◌, ◌++◌, ◌∷◌, [], List, Bool, true, false, cond, ap, sym, refl, subst, Option, Some, None, ◌&&◌}
use Rattle.std.proofs.lemmas.Bool.{eq-eqb}
use Rattle.std.specs.Option.{is_none}
use Rattle.counter.specs.Account.{Account, AreSeats, Asking, Asks, brings_seat, last_from, seat_of}
use Rattle.counter.specs.declared.counter.Asked.{Asked}
use Rattle.lic_types.specs.declared.client.Client.{Client}
use Rattle.options_machine.specs.Own.{holds, is_of_holding, is_some_of, standing_from, stands_for}
use Rattle.options_machine.specs.Rules.{Rules}
use Rattle.options_machine.specs.Run.{IsRun, RunsFrom, after_from, after_entry}
use Rattle.options_machine.specs.Settle.{settle}
use Rattle.options_machine.specs.State.{State, in_force, opening}
use Rattle.options_machine.specs.Step.{step_of_task, set_asked, set_of, step, task}
use Rattle.options_machine.specs.declared.reply.Entry.{Entry}
use Rattle.options_machine.specs.declared.reply.Kind.{Kind}
use Rattle.options_machine.specs.declared.reply.Reply.{Reply}
use Rattle.options_machine.specs.declared.reply.Reply.TheVariants as reply
use Rattle.options_machine.specs.declared.reply.Task.{Task}
use Rattle.options_machine.specs.declared.reply.Task.TheVariants.{Answer, Reread}
use Rattle.session.specs.Table.{seat_in}
use Rattle.session.specs.Told.{seat_with}
use Rattle.session.proofs.Standing.{standing_append}

-- the reply of an entry of a run is the step's
run_at : (sets : List Rules) (s : State) (before : List Entry) (e : Entry) (rest : List Entry) → RunsFrom sets s (before ++ e ∷ rest) → e.reply ≡ (step sets (after_from sets s before) e.request e.moment).0
run_at sets s [] e rest h = h.0.reply
run_at sets s (x ∷ before) e rest h = run_at sets (after_entry sets s x) before e rest h.1

-- a reply that brings a seat is of holding
holds_seat : (r : Reply) → brings_seat r ≡ true → is_of_holding r ≡ true
holds_seat (reply.Granted charge) e = refl
holds_seat (reply.Retaken charge) e = refl
holds_seat (reply.Denied line) e = absurd cc
holds_seat (reply.NoSeat taken free) e = absurd cc
holds_seat reply.AlreadyHeld e = absurd cc
holds_seat reply.Returned e = absurd cc
holds_seat (reply.Lingering until) e = absurd cc
holds_seat reply.NotHeld e = absurd cc
holds_seat reply.Beaten e = absurd cc
holds_seat reply.Held e = absurd cc
holds_seat (reply.Counts held lingering taken free own queued) e = absurd cc
holds_seat (reply.Queued position) e = absurd cc
holds_seat reply.Unqueued e = absurd cc
holds_seat (reply.Reread set) e = absurd cc

-- it is no answer to a Reread
asks_none : (sets : List Rules) (s : State) (party : ℕ) (client : Client) (asked : Task) (r : Reply) → r ≡ (step_of_task sets s party client asked).0 → brings_seat r ≡ true → set_of asked ≡ None
asks_none sets s party client (Answer asked) r h b = refl
asks_none sets s party client (Reread n) r h b = let no : brings_seat r ≡ false = ap brings_seat h in absurd cc

last_last : (o : Option ℕ) (ns : List ℕ) (n : ℕ) → last_from o (ns ++ n ∷ []) ≡ Some n
last_last o [] n = refl
last_last o (x ∷ ns) n = last_last (Some x) ns n

-- the party holds after a reply that brings a seat
holds_after : {old new : Account} {what : Kind} {who : Client} {at : ℕ} {answer : Asked} {a : Asking} → Asks old new what who at answer a → brings_seat a.entry.reply ≡ true → holds new.mine new.party ≡ true
holds_after {old} {new} {what} {who} {at} {answer} {a} h b =
    let e = a.entry in
    let none : set_asked e.request.kind ≡ None = asks_none new.sets (settle (in_force new.sets (after_from new.sets opening a.before)) (after_from new.sets opening a.before) e.moment) e.request.party e.request.client (task e.request.kind) e.reply (run_at new.sets opening a.before e [] (subst (λ (es : List Entry). IsRun new.sets es) h.enters.seen h.enters.run)) b in
    let mine : stands_for new.party e ≡ true = ap (λ t. t && is_none (set_asked e.request.kind)) (eq-eqb e.request.party new.party (h.enters.asker ∙ sym h.enters.party)) ∙ ap (λ (x : Option ℕ). is_none x) none in
    ap (λ (es : List Entry). holds es new.party) h.enters.mine
    ∙ ap (is_some_of is_of_holding) (standing_append new.party None old.mine (e ∷ []))
    ∙ ap (λ t. is_some_of is_of_holding (cond t (Some e.reply) (standing_from new.party None old.mine))) mine
    ∙ holds_seat e.reply b

seat_comes_by : {old new : Account} {what : Kind} {who : Client} {at : ℕ} {answer : Asked} {a : Asking} → Asks old new what who at answer a → (b : Bool) → brings_seat a.entry.reply ≡ b → AreSeats b a.seats → cond b (seat_of new) None ≡ seat_in a.seats
seat_comes_by {old} {new} {what} {who} {at} {answer} {a} h true b s =
    let last : last_from None new.got ≡ Some s.0 = ap (last_from None) (h.got ∙ ap (λ ns. old.got ++ ns) s.1) ∙ last_last None old.got s.0 in
    ap (λ t. cond t (last_from None new.got) None) (holds_after h b) ∙ last ∙ sym (ap seat_in s.1)
seat_comes_by h false b s = sym (ap seat_in s)

pub seat_comes : {old new : Account} {what : Kind} {who : Client} {at : ℕ} {answer : Asked} {a : Asking} → Asks old new what who at answer a → seat_with new answer.reply ≡ seat_in a.seats
seat_comes {old} {new} {what} {who} {at} {answer} {a} h = ap (seat_with new) h.enters.reply ∙ seat_comes_by h (brings_seat a.entry.reply) refl h.seats
