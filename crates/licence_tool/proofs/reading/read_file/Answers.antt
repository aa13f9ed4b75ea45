use Rattle.std.proofs.Common.{ap, Err, arith}
use Rattle.licence_tool.proofs.Hearing.{heard_long, heard_whole, heard_without_memory}
use Rattle.licence_tool.proofs.reading.read_file.Goals as goal

pub returns-in-Ok-clause-says : goal.returns-in-Ok-clause-says
returns-in-Ok-clause-says g c =
    heard_whole (λ v. v.items) c.args.position _ _ c.in-Ok.bytes c.in-Ok.ensures.read (omega (arith, c.in-Ok.bytes.ok.0, c.in-Ok.ensures.short))

pub returns-in-Err-TooLong-clause-says : goal.returns-in-Err-TooLong-clause-says
returns-in-Err-TooLong-clause-says g c = heard_long (λ v. v.items) c.args.position _ _ (c.in-Err-TooLong.ensures.too_long (ap Err c.in-Err-TooLong.field-0-is))

pub returns-in-Err-NoMemory-clause-says : goal.returns-in-Err-NoMemory-clause-says
returns-in-Err-NoMemory-clause-says g c = heard_without_memory (λ v. v.items) c.args.position _ _
