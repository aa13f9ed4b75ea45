use Rattle.std.proofs.Common.{◌≡◌, ◌++◌, length, min, refl, sym, ap, subst, arith, ◌∙◌}
use Rattle.options_machine.specs.Run.{AsksForSet}
use Rattle.turn_lock.specs.Entries.{entry}
use Rattle.desk_book.specs.Askers.{Asker, IsInformed, Makes, asker_of}
use Rattle.desk_book.specs.Standing.{Call, entries_of}
use Rattle.desk_book.proofs.Askers.{board_counts, board_grows, informed_now, makes, same_board}
use Rattle.desk_book.proofs.pass.BookPass.ask.Goals as goal

pub ask-answer-requires-clause-fits : goal.ask-answer-requires-clause-fits
ask-answer-requires-clause-fits g c = record {
  party =
      let whole = c.self.invariant.whole in let inside = c.number-inside.ensures.inside in let is = c.number-inside.ensures.is in
      let who : c.args.request.now.party ≡ c.self.inside.ticket.number = c.requires.party ∙ sym (ap (λ (a : Asker). a.number) c.self.view_is) in
      omega (arith, whole, inside, is, who);
  set = subst (λ (a : Asker). AsksForSet a.law.sets c.args.request.now) (sym c.self.view_is) c.requires.set;
}

pub hear-requires : goal.hear-requires
hear-requires g c =
    let a = c.ask-answer.ensures in let t = c.self.inside.ticket in
    same_board t c.ask-answer.new.pass c.self.inside.board c.self.inside.view c.self.inside.view c.self.invariant
    (entry c.args.request.now c.ask-answer.result.used c.ask-answer.result.answer) a.seen.0 a.same.0 a.same.1 a.same.2 a.seen.1 a.runs a.mine a.own

pub invariant_of-self : goal.invariant_of-self
invariant_of-self g c =
    let a = c.ask-answer.ensures in let t = c.self.inside.ticket in
    subst (λ n. IsInformed c.ask-answer.new.pass n c.hear.new.self) (sym c.front-self-inside.ensures)
    (informed_now t c.ask-answer.new.pass c.self.inside.board c.self.inside.view c.hear.new.self c.self.invariant
    (entry c.args.request.now c.ask-answer.result.used c.ask-answer.result.answer) a.seen.0 a.same.0 a.same.1 a.same.2 a.seen.1 a.runs a.mine a.own c.hear.ensures.later c.hear.ensures.heard)

pub returns-clause-makes : goal.returns-clause-makes
returns-clause-makes g c =
    let a = c.ask-answer.ensures in let t = c.self.inside.ticket in let r = c.ask-answer.result in
    let call : Call = entry c.args.request.now r.used r.answer in
    let front : c.front-self-inside.result ≡ length r.answer.note.list = c.front-self-inside.ensures in
    let made = makes t c.ask-answer.new.pass c.self.inside.board c.self.inside.view c.hear.new.self c.self.invariant call a.seen.0 a.same.0 a.same.1 a.same.2 a.seen.1 a.runs a.mine a.own
    r.used c.args.moment r.place refl (a.moment (t.seen ++ a.seen.0) a.seen.1) (a.place (t.seen ++ a.seen.0) a.seen.1) in (
      entries_of (t.seen ++ a.seen.0),
      subst (λ (o : Asker). Makes o (asker_of c.ask-answer.new.pass c.front-self-inside.result c.hear.new.self) c.args.moment r.place (entries_of (t.seen ++ a.seen.0)) (record { request = c.args.request.now; moment = r.used; reply = r.answer.reply }))
          c.self.view_is
          (subst (λ n. Makes (asker_of t c.self.inside.board c.self.inside.view) (asker_of c.ask-answer.new.pass n c.hear.new.self) c.args.moment r.place (entries_of (t.seen ++ a.seen.0)) (record { request = c.args.request.now; moment = r.used; reply = r.answer.reply })) (sym front) made),
    )

pub returns-clause-board : goal.returns-clause-board
returns-clause-board g c =
    let a = c.ask-answer.ensures in let t = c.self.inside.ticket in let r = c.ask-answer.result in
    let call : Call = entry c.args.request.now r.used r.answer in
    let front : c.front-self-inside.result ≡ length r.answer.note.list = c.front-self-inside.ensures in
    let grows = board_grows t c.ask-answer.new.pass c.self.inside.board c.self.inside.view c.hear.new.self c.self.invariant call a.seen.0 a.same.0 a.same.1 a.same.2 a.seen.1 a.runs a.mine a.own in
    let old : c.self.inside.board ≡ c.args.self.now.board = ap (λ (o : Asker). o.board) c.self.view_is in
    let low = grows.0 in let high = grows.1 in
    (omega (arith, front, old, low), omega (arith, front, high))

pub returns-clause-published : goal.returns-clause-published
returns-clause-published g c =
    let a = c.ask-answer.ensures in let t = c.self.inside.ticket in let r = c.ask-answer.result in
    let call : Call = entry c.args.request.now r.used r.answer in
    let front : c.front-self-inside.result ≡ length r.answer.note.list = c.front-self-inside.ensures in
    let counts = board_counts t c.ask-answer.new.pass c.self.inside.board c.self.inside.view c.hear.new.self c.self.invariant call a.seen.0 a.same.0 a.same.1 a.same.2 a.seen.1 a.runs a.mine a.own in
    (counts.0, front ∙ counts.1, subst (λ (o : Asker). o.board ≡ min (length o.seen) counts.0) c.self.view_is counts.2)
