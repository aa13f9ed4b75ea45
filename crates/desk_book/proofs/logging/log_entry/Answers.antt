use Rattle.std.proofs.Common.{◌∙◌, false, sym, subst}
use Rattle.options_machine.specs.declared.reply.Entry.{Entry}
use Rattle.desk_book.proofs.Logs.{Pushes, cut_more, logged_cut, logged_more, still_cut}
use Rattle.desk_book.proofs.logging.log_entry.Goals as goal

pub returns-then-cut-clause-logged : goal.returns-then-cut-clause-logged
returns-then-cut-clause-logged g c = λ h is cut. logged_cut h c.args.log.now.pushed c.args.entry.now is (sym c.if-cut.true ∙ cut)

pub returns-then-cut-clause-cut : goal.returns-then-cut-clause-cut
returns-then-cut-clause-cut g c = λ h is cut. c.if-cut.true ∙ still_cut h c.args.entry.now (sym c.if-cut.true ∙ cut)

pub returns-else-cut-clause-logged : goal.returns-else-cut-clause-logged
returns-else-cut-clause-logged g c = λ h is cut.
    logged_more h c.args.log.now.pushed c.push.new.self.pushed c.args.entry.now c.push.result is
    (subst (λ (e : Entry). Pushes c.push.result c.args.log.now.pushed c.push.new.self.pushed e) c.entry.ensures c.push.ensures.pushed)

pub returns-else-cut-clause-cut : goal.returns-else-cut-clause-cut
returns-else-cut-clause-cut g c = λ h is cut.
    cut_more h c.args.log.now.pushed c.push.new.self.pushed c.args.entry.now false c.push.result is (sym c.if-cut.false ∙ cut)
    (subst (λ (e : Entry). Pushes c.push.result c.args.log.now.pushed c.push.new.self.pushed e) c.entry.ensures c.push.ensures.pushed)
