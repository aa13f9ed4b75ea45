use Rattle.std.proofs.Common.{◌≡◌, ℕ, ◌<◌, ◌≤◌, length, get_or, vec_len, vec_capacity}
use Rattle.feature_desk.specs.Sitters.{Sitter}
use Rattle.licence_office.proofs.dealing.hand_out.Given as goal
use Rattle.licence_office.specs.Dealing.{IsHanded}

abbrev pub invariant-loop-pass : goal.invariant-loop-pass
invariant-loop-pass l = IsHanded l.initial.passes.items l.initial.parties l.parties (vec_len l.passes)
    × ((k : ℕ) (s : Sitter) → k < vec_len l.passes → get_or l.passes.items k s ≡ get_or l.initial.passes.items k s)
    × (vec_len l.passes ≤ length l.initial.parties)
    × (vec_capacity l.passes ≡ vec_capacity l.initial.passes)

abbrev pub decreases-loop-pass : goal.decreases-loop-pass
decreases-loop-pass l = vec_len l.passes
