-- An entry, and then a seat that agrees with it, are one call of a counter.
use Rattle.std.proofs.Common.{◌≡◌, ℕ, ◌≤◌, length, Bool, true, false, List, [], ◌∷◌, ◌++◌, refl, ap, sym, ◌∙◌, subst, append-nil}
use Rattle.lic_types.specs.declared.client.Client.{Client}
use Rattle.desk_seats.specs.Passes.{SeatPass}
use Rattle.options_machine.specs.declared.reply.Entry.{Entry}
use Rattle.options_machine.specs.declared.reply.Kind.{Kind}
use Rattle.options_machine.specs.declared.reply.Reply.{Reply}
use Rattle.counter.specs.declared.counter.Asked as told
use Rattle.counter.specs.Account.{Account, AreSeats, Asking, Asks, Enters, Extends, brings_seat}
use Rattle.desk_book.specs.Askers.{Asker}
use Rattle.feature_desk.specs.Sitters.{NotedView, Sitter, account_of}
use Rattle.feature_desk.specs.Seatings.{MatchedAs, Matches}

-- the seat that was brought
seats_brought : (b held : Bool) (old new : SeatPass) → Matches b held old new → (seats : List ℕ) × (new.got ≡ old.got ++ seats) × AreSeats b seats
seats_brought true held old new (s, place, got) = (s ∷ [], got, (s, refl))
seats_brought false true old new (there, same) = ([], ap (λ (p : SeatPass). p.got) same ∙ sym (append-nil old.got), refl)
seats_brought false false old new (out, got) = ([], got ∙ sym (append-nil old.got), refl)

-- an entry adds nothing to the seats
reseated : (o : Account) (t : Asker) (p q : SeatPass) (kind : Kind) (who : Client) (at : ℕ) (a : told.Asked) (before : List Entry) (e : Entry)
    → Enters o (account_of (record { ticket = t; seat = p })) kind who at a before e → Enters o (account_of (record { ticket = t; seat = q })) kind who at a before e
reseated o t p q kind who at a before e r = record {
  sets = r.sets;
  party = r.party;
  since = r.since;
  seen = r.seen;
  run = r.run;
  mine = r.mine;
  only = r.only;
  asker = r.asker;
  client = r.client;
  kind = r.kind;
  moment = r.moment;
  reply = r.reply;
  told = r.told;
  place = r.place;
  held = r.held;
  quit = r.quit;
}

pub asks_so : (old : Sitter) (n : NotedView) (new : Sitter) (kind : Kind) (who : Client) (at : ℕ) (asked : told.Asked) → asked ≡ n.asked → ((before : List Entry) × (e : Entry) × Enters (account_of old) (account_of n.sitter) kind who at n.asked before e)
    → n.sitter.seat ≡ old.seat → Extends old.ticket.known.list n.sitter.ticket.known.list → (old.ticket.board ≤ n.sitter.ticket.board) × (n.sitter.ticket.board ≤ length n.sitter.ticket.seen) → MatchedAs n new
    → (a : Asking) × Asks (account_of old) (account_of new) kind who at asked a
asks_so old n new kind who at asked same (before, e, enters) seat known board m =
    let s = seats_brought (brings_seat n.asked.reply) n.asked.held n.sitter.seat new.seat m.seat in (
      record { handed = at; before = before; entry = e; seats = s.0 },
      record {
        handed = refl;
        enters = subst (λ (a : told.Asked). Enters (account_of old) (account_of new) kind who at a before e) (sym same)
            (subst (λ (t : Asker). Enters (account_of old) (account_of (record { ticket = t; seat = new.seat })) kind who at n.asked before e) (sym m.ticket)
            (reseated (account_of old) n.sitter.ticket n.sitter.seat new.seat kind who at n.asked before e enters));
        got = s.1 ∙ ap (λ (p : SeatPass). p.got ++ s.0) seat;
        seats = subst (λ (r : Reply). AreSeats (brings_seat r) s.0) enters.reply s.2;
        board_seen = subst (λ (t : Asker). Extends old.ticket.known.list t.known.list) (sym m.ticket) known;
        board = λ short. subst (λ (t : Asker). (old.ticket.board ≤ t.board) × (t.board ≤ length t.seen)) (sym m.ticket) board;
      },
    )
