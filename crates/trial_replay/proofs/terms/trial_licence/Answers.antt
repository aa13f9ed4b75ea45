use Rattle.std.proofs.Common.{ap}
use Rattle.lic_text.proofs.Readings.{no_fault_read, value_read}
use Rattle.feature_lines.proofs.Faults.{tells_none}
use Rattle.feature_lines.specs.Licence.{Contents, fault_told}
use Rattle.trial_replay.proofs.Readings.{licence_says}
use Rattle.trial_replay.proofs.terms.trial_licence.Goals as goal
use Rattle.trial_replay.proofs.terms.trial_licence.Goals.{in-NoMemory, in_default}

pub returns-in-Ok : goal.returns-in-Ok
returns-in-Ok c = ap (λ (x : Contents). x.pools) (value_read (λ licence. licence) fault_told _ _ c.read_licence.result licence_says c.read_licence.ensures c.in-Ok.licence c.in-Ok.is)

pub prove-unreachable-requires : goal.prove-unreachable-requires
prove-unreachable-requires c =
    let memory = tells_none c.in-Err.fault (no_fault_read (λ licence. licence) fault_told _ _ c.read_licence.result licence_says c.read_licence.ensures c.in-Err.fault c.in-Err.is) in
    elim c.match-matches.branch [ in-NoMemory w ↦ absurd (cc) | in_default w ↦ absurd (w.in_default.not-NoMemory memory) ]
