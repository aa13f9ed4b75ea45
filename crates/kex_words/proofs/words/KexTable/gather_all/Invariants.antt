use Rattle.std.proofs.Common.{◌≡◌, ℕ, List, ◌++◌, length, vec_len, All, sum_by}
use Rattle.kex_words.specs.Passes.{Pass, times, times_taken}
use Rattle.kex_words.specs.Steps.{numbers_of}
use Rattle.kex_words.proofs.words.KexTable.gather_all.Given as goal

abbrev pub invariant-loop-pass : goal.invariant-loop-pass
invariant-loop-pass l = (l.gathering.table ≡ l.self) × All (λ p. p.table ≡ l.self) l.passes.items
    × ((done : List Pass) × (l.fn.passes.items ≡ l.passes.items ++ done) × (l.gathering.numbers ≡ numbers_of done) × ((s : ℕ) → times s l.gathering.got ≡ times_taken s done) × (length l.gathering.got ≡ sum_by (λ p. length p.got) done))

abbrev pub decreases-loop-pass : goal.decreases-loop-pass
decreases-loop-pass l = vec_len l.passes
