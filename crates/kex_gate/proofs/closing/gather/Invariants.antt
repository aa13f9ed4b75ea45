use Rattle.std.proofs.Common.{◌≡◌, ℕ, List, ◌++◌, vec_len, All}
use Rattle.kex_words.specs.Passes.{times}
use Rattle.pass_roles.specs.Roles.{total}
use Rattle.kex_gate.specs.Passes.{Guest, session_numbers, slow_of}
use Rattle.kex_gate.specs.Steps.{IsGathered}
use Rattle.kex_gate.proofs.closing.gather.Given as goal

abbrev pub invariant-loop-pass : goal.invariant-loop-pass
invariant-loop-pass l = (l.seat.table_id ≡ l.table.shared.table_id) × All (λ (p : Guest). (p.gate.id ≡ l.table.shared.table_id) × (p.gate.seats ≡ l.seats)) l.passes.items × (l.gathering.table ≡ l.seats)
    × ((done : List Guest) × (l.fn.passes.items ≡ l.passes.items ++ done) × IsGathered l.seats done l.seat.me × (l.gathering.numbers ≡ session_numbers done) × ((s : ℕ) → times s l.gathering.got ≡ total (slow_of s) done))

abbrev pub decreases-loop-pass : goal.decreases-loop-pass
decreases-loop-pass l = vec_len l.passes
