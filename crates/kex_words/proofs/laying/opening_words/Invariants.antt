use Rattle.std.proofs.Common.{◌≡◌, ◌≢◌, ℕ, ◌+◌, ◌*◌, ◌<◌, length, slice_index}
use Rattle.kex_words.proofs.laying.opening_words.Given as goal

abbrev pub invariant-loop-j : goal.invariant-loop-j
invariant-loop-j l = (length l.words.items ≡ 2 * length l.net.caps + 2 * l.net.width)
    × ((i : ℕ) → i < l.j → slice_index l.words.items (2 * i + 1) ≡ slice_index l.net.caps i + 1)
    × ((k : ℕ) → ((i : ℕ) → i < l.j → k ≢ 2 * i + 1) → slice_index l.words.items k ≡ 0)
