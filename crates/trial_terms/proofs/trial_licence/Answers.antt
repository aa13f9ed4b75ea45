use Rattle.std.proofs.Common.{◌∙◌, ap, length, arith}
use Rattle.lic_text.proofs.Readings.{no_fault_read, value_read}
use Rattle.feature_lines.proofs.Faults.{tells_none}
use Rattle.feature_lines.specs.Licence.{Contents, fault_told}
use Rattle.trial_terms.proofs.Reading.{short, text_says}
use Rattle.trial_terms.proofs.trial_licence.Goals as goal
use Rattle.trial_terms.proofs.trial_licence.Goals.{in-NoMemory, in_default}

pub read_licence-requires : goal.read_licence-requires
read_licence-requires c =
    let long = short c.args.seats (omega (arith, c.requires.1)) c.requires.1 in
    omega (arith, ap length (c.as_bytes.ensures.value ∙ c.in_ok-text.ensures), long)

pub returns-in-Ok : goal.returns-in-Ok
returns-in-Ok c =
    let said = text_says c.args.seats c.as_bytes.result.now c.requires.0 c.requires.1 (c.as_bytes.ensures.value ∙ c.in_ok-text.ensures) in
    ap (λ (x : Contents). x.pools) (value_read (λ licence. licence) fault_told _ _ c.read_licence.result said c.read_licence.ensures c.in-Ok.licence c.in-Ok.is)

pub prove-unreachable-requires : goal.prove-unreachable-requires
prove-unreachable-requires c =
    let said = text_says c.args.seats c.as_bytes.result.now c.requires.0 c.requires.1 (c.as_bytes.ensures.value ∙ c.in_ok-text.ensures) in
    let memory = tells_none c.in-Err.fault (no_fault_read (λ licence. licence) fault_told _ _ c.read_licence.result said c.read_licence.ensures c.in-Err.fault c.in-Err.is) in
    elim c.match-matches.branch [ in-NoMemory w ↦ absurd (cc) | in_default w ↦ absurd (w.in_default.not-NoMemory memory) ]
