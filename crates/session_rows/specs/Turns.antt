-- A pass of the lock as a counter.
use Rattle.std.specs.Prelude.{◌≡◌, ◌<◌, nat_lt, [], replicate}
use Rattle.counter.specs.Account.{Account, grants}
use Rattle.options_machine.specs.Own.{holds, queues}
use Rattle.options_machine.specs.State.{set_at}
use Rattle.options_machine.specs.declared.reply.Reply.{Reply}
use Rattle.options_machine.specs.declared.reply.Request.{Request}
use Rattle.turn_lock.specs.Passes.{Lock, Pass}
use Rattle.session_rows.specs.Books.{entries_of}
use Rattle.session_rows.specs.declared.book.BookLaw.{BookLaw}
use Rattle.session_rows.specs.declared.turns.TurnCounter.TheInside.{Inside}

-- what a pass stands for: its seat is 0 while it is holding, and nothing of it is published
abbrev pub account_of : Pass BookLaw Request Reply → Account
account_of p = record {
  sets = p.law.sets;
  party = p.number;
  mine = entries_of p.mine;
  seen = entries_of p.seen;
  got = replicate (grants (entries_of p.mine)) 0;
  board = 0;
  board_seen = [];
}

-- it is a pass of this lock
pub record IsOf (p : Pass BookLaw Request Reply) (k : Lock BookLaw) : Type 0 where
  pub lock : p.lock ≡ k.id

-- what is kept beside a pass
pub record IsKept (c : Inside) : Type 0 where
  pub party : c.pass.number < c.pass.law.parties
  pub held : c.held ≡ holds (entries_of c.pass.mine) c.pass.number
  pub queued : c.queued ≡ queues (entries_of c.pass.mine) c.pass.number
  pub granted : c.granted ≡ nat_lt 0 (grants (entries_of c.pass.mine))
  pub free : c.free ≡ (set_at c.pass.law.sets 0).free
