use Rattle.std.proofs.Common.{map}
use Rattle.log_audit.specs.Audited.{sets_of}
use Rattle.outside.specs.Told.{HasRisen}
use Rattle.licence_tool.proofs.Verdicts.{no_unwritten}
use Rattle.licence_tool.proofs.perform.write_audit.Goals as goal

pub returns-in-Err-write_no : goal.returns-in-Err-write_no
returns-in-Err-write_no g c =
    no_unwritten (HasRisen (g.O.Sink.faults c.args.out.now) (g.O.Sink.faults c.write_no.new.out)) (g.O.Sink.held c.args.out.now) (g.O.Sink.held c.write_no.new.out)
    c.args.report c.args.licence.now.pools (map (sets_of c.args.sets.now) c.args.licence.now.pools) c.args.log.now c.in-Ok-No.line c.in-Ok-No.place c.in-Ok-No.moment c.in-Ok-No.reply
    (rw c.in-Ok-No.field-0-is at c.in-Ok-No.ensures) c.in-Err-write_no.ensures.failed c.in-Err-write_no.ensures.err
