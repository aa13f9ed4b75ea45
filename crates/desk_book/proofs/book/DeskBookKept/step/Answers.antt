-- h: what the book stood for before; run: that it was a run
use Rattle.std.proofs.Common.{[], ◌∷◌, ◌++◌, subst, sym}
use Rattle.options_machine.specs.declared.reply.Entry.{Entry}
use Rattle.stat_board.specs.Shows.{HasNumbers}
use Rattle.desk_book.proofs.Logs.{Cuts, Logged}
use Rattle.desk_book.proofs.Notes.{Posts}
use Rattle.desk_book.proofs.Steps.{board_next, numbers_next, runs_more, stands_more, state_next, used_moment}
use Rattle.desk_book.proofs.book.DeskBookKept.step.Goals as goal

pub publish-requires : goal.publish-requires
publish-requires g c =
    let b = c.args.self.now in
    let s = c.step-reply.ensures in
    let e : Entry = record { request = c.args.request.now; moment = c.step-reply.result.1; reply = c.step-reply.result.0 } in
    record {
      numbers = λ live. subst (λ (x : Entry). HasNumbers b.board.front.sets (b.board.front.list ++ x ∷ []) c.glance.result) (sym c.of-entry.ensures)
          (numbers_next b.book.sets b.board.front.sets c.step-reply.new.self.sets b.board.front.list e c.step-reply.new.self.state c.glance.result b.sets s.same.0
          (state_next b.book.sets b.book.state e c.args.moment c.step-reply.new.self.state b.small s.step s.moment b.board.front.list (b.shown live)) c.glance.ensures);
    }

pub invariant_of-self : goal.invariant_of-self
invariant_of-self g c =
    let b = c.args.self.now in
    let s = c.step-reply.ensures in
    let e : Entry = record { request = c.args.request.now; moment = c.step-reply.result.1; reply = c.step-reply.result.0 } in
    let posts : Posts b.board e c.publish.new.self = subst (λ (x : Entry). Posts b.board x c.publish.new.self) c.of-entry.ensures c.publish.ensures in
    let board = board_next b.board c.publish.new.self e b.book.sets c.step-reply.new.self.sets c.step-reply.new.self.state posts b.sets s.same.0
    (λ live. state_next b.book.sets b.book.state e c.args.moment c.step-reply.new.self.state b.small s.step s.moment b.board.front.list (b.shown live)) in
    record { small = rw (sym s.moment) s.within; sets = board.0; shown = board.1 }

pub returns-clause-stands : goal.returns-clause-stands
returns-clause-stands g c h stood run =
    let b = c.args.self.now in
    let s = c.step-reply.ensures in
    let l = c.log_entry-self.ensures in
    let e : Entry = record { request = c.args.request.now; moment = c.step-reply.result.1; reply = c.step-reply.result.0 } in
    let posts : Posts b.board e c.publish.new.self = subst (λ (x : Entry). Posts b.board x c.publish.new.self) c.of-entry.ensures c.publish.ensures in
    let logged : Logged b.log.pushed b.cut c.log_entry-self.new.log.pushed e = subst (λ (x : Entry). Logged b.log.pushed b.cut c.log_entry-self.new.log.pushed x) c.of-entry.ensures l.logged in
    let cut : Cuts b.log.pushed b.cut c.log_entry-self.result e = subst (λ (x : Entry). Cuts b.log.pushed b.cut c.log_entry-self.result x) c.of-entry.ensures l.cut in
    stands_more c.args.self.now _ (record { request = c.args.request.now; used = c.step-reply.result.1; answer = record { reply = c.step-reply.result.0; note = c.note.result } }) c.args.moment h
    (record { stepped = s.step; used_is = s.moment; same = s.same.0; counted = s.grants; logged = logged; cut_is = cut; posts = posts; note = c.note.ensures }) stood

pub returns-clause-runs : goal.returns-clause-runs
returns-clause-runs g c h stood run =
    let b = c.args.self.now in
    let s = c.step-reply.ensures in
    let e : Entry = record { request = c.args.request.now; moment = c.step-reply.result.1; reply = c.step-reply.result.0 } in
    let posts : Posts b.board e c.publish.new.self = subst (λ (x : Entry). Posts b.board x c.publish.new.self) c.of-entry.ensures c.publish.ensures in
    runs_more c.args.self.now c.publish.new.self c.step-reply.new.self.state
    (record { request = c.args.request.now; used = c.step-reply.result.1; answer = record { reply = c.step-reply.result.0; note = c.note.result } }) c.args.moment h
    c.requires.set s.step s.moment posts c.note.ensures stood run

pub returns-clause-moment : goal.returns-clause-moment
returns-clause-moment g c h stood run =
    let s = c.step-reply.ensures in
    let b = c.args.self.now in
    used_moment b.book.sets b.book.state (record { request = c.args.request.now; moment = c.step-reply.result.1; reply = c.step-reply.result.0 }) c.args.moment c.step-reply.new.self.state b.small s.step s.moment h stood.state
