use Rattle.lic_text.proofs.Readings.{no_fault_read, value_read}
use Rattle.options_text.proofs.Faults.{tells_none}
use Rattle.options_text.specs.Answers.{fault_told}
use Rattle.trial_replay.proofs.Readings.{options_say}
use Rattle.trial_replay.proofs.terms.trial_options.Goals as goal
use Rattle.trial_replay.proofs.terms.trial_options.Goals.{in-NoMemory, in_default}

pub returns-in-Ok : goal.returns-in-Ok
returns-in-Ok c = value_read (λ options. options) fault_told _ _ c.read_options.result options_say c.read_options.ensures c.in-Ok.options c.in-Ok.is

pub prove-unreachable-requires : goal.prove-unreachable-requires
prove-unreachable-requires c =
    let memory = tells_none c.in-Err.fault (no_fault_read (λ options. options) fault_told _ _ c.read_options.result options_say c.read_options.ensures c.in-Err.fault c.in-Err.is) in
    elim c.match-matches.branch [ in-NoMemory w ↦ absurd (cc) | in_default w ↦ absurd (w.in_default.not-NoMemory memory) ]
