-- What a counter stands for, and what one call adds to it.
use Rattle.std.specs.Prelude.{◌≡◌, ℕ, ◌%◌, ◌^◌, Bool, true, false, List, [], ◌∷◌, ◌++◌, ◌<◌, ◌≤◌, length, take, count_by, Option, Some, None, if◌then◌else◌}
use Rattle.lic_types.specs.declared.client.Client.{Client}
use Rattle.options_machine.specs.declared.reply.Entry.{Entry}
use Rattle.options_machine.specs.declared.reply.Kind.{Kind}
use Rattle.options_machine.specs.declared.reply.Kind.TheVariants.{Quit}
use Rattle.options_machine.specs.Own.{holds, own, queues}
pub use Rattle.options_machine.specs.Own.{brings_seat}
use Rattle.options_machine.specs.Rules.{Rules}
use Rattle.options_machine.specs.Run.{IsRun, after}
use Rattle.options_machine.specs.Settle.{later_moment}
use Rattle.counter.specs.declared.counter.Asked.{Asked}
use Rattle.counter.specs.declared.glance.Glance.{Glance}
use Rattle.counter.specs.Glances.{glance_of}

-- a counter: the rule sets of its desk, its party, the party's own entries, the history as it was seen last, the numbers of the seats that it got, how many entries of the history it knows to be published, and the entries that its glances have shown
pub record Account : Type 0 where
  pub sets : List Rules
  pub party : ℕ
  pub mine : List Entry
  pub seen : List Entry
  pub got : List ℕ
  pub board : ℕ
  pub board_seen : List Entry

-- what one call adds: the moment that was handed in, the history before it, its entry, and the number of the seat that it brought, if it brought one
pub record Asking : Type 0 where
  pub handed : ℕ
  pub before : List Entry
  pub entry : Entry
  pub seats : List ℕ

-- how many entries brought a seat
abbrev pub grants : List Entry → ℕ
grants h = count_by (λ (e : Entry). brings_seat e.reply) h

-- one number exactly where the reply brings a seat
abbrev pub AreSeats : Bool → List ℕ → Type 0
AreSeats true seats = (n : ℕ) × (seats ≡ n ∷ [])
AreSeats false seats = seats ≡ []

abbrev pub Extends : List Entry → List Entry → Type 0
Extends old new = (more : List Entry) × (new ≡ old ++ more)

-- the last of a list
abbrev pub last_from : Option ℕ → List ℕ → Option ℕ
last_from o [] = o
last_from o (n ∷ ns) = last_from (Some n) ns

-- the seat that a counter has: the last that it got, exactly while its standing reply is of holding
abbrev pub seat_of : Account → Option ℕ
seat_of a = if holds a.mine a.party then last_from None a.got else None

-- one call makes one entry, which is the party's own and the last of the history as it is seen now
pub record Enters (old new : Account) (what : Kind) (who : Client) (at : ℕ) (answer : Asked) (before : List Entry) (e : Entry) : Type 0 where
  -- no call changes these
  pub sets : new.sets ≡ old.sets
  pub party : new.party ≡ old.party
  -- the history begins with what was seen before, and is a run
  pub since : Extends old.seen before
  pub seen : new.seen ≡ before ++ e ∷ []
  pub run : IsRun new.sets new.seen
  -- the entry is one more of the party's own
  pub mine : new.mine ≡ old.mine ++ e ∷ []
  pub only : new.mine ≡ own new.seen new.party
  -- who asked for what
  pub asker : e.request.party ≡ old.party
  pub client : e.request.client ≡ who
  pub kind : e.request.kind ≡ what
  -- the moment is that to which settling brings the state before it
  pub moment : e.moment ≡ later_moment (after old.sets before).now at
  -- what is told of it
  pub reply : answer.reply ≡ e.reply
  pub told : answer.moment ≡ e.moment
  pub place : answer.place ≡ length before % 2 ^ 64
  pub held : answer.held ≡ holds new.mine new.party
  -- a client that goes has nothing any more
  pub quit : what ≡ Quit → (holds new.mine new.party ≡ false) × (queues new.mine new.party ≡ false)

-- the entry of a call, and the seat that it brought
pub record Asks (old new : Account) (what : Kind) (who : Client) (at : ℕ) (answer : Asked) (a : Asking) : Type 0 where
  pub handed : a.handed ≡ at
  pub enters : Enters old new what who at answer a.before a.entry
  pub got : new.got ≡ old.got ++ a.seats
  pub seats : AreSeats (brings_seat a.entry.reply) a.seats
  -- what is known to be published only grows, and is no more than the history
  pub board_seen : Extends old.board_seen new.board_seen
  pub board : length new.seen < 2 ^ 64 → (old.board ≤ new.board) × (new.board ≤ length new.seen)

-- a glance shows the desk after a list that begins with all that was shown before, and with all that is known to be published
pub record Glances (old new : Account) (answer : Glance) : Type 0 where
  pub sets : new.sets ≡ old.sets
  pub party : new.party ≡ old.party
  pub mine : new.mine ≡ old.mine
  pub seen : new.seen ≡ old.seen
  pub got : new.got ≡ old.got
  pub board : new.board ≡ old.board
  pub since : Extends old.board_seen new.board_seen
  pub fresh : Extends (take old.board old.seen) new.board_seen
  pub shows : answer ≡ glance_of new.sets new.board_seen
