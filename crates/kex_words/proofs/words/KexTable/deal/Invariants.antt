use Rattle.std.proofs.Common.{◌≡◌, [], vec_len, vec_capacity, slice_get, Some, EachIndex}
use Rattle.kex_words.specs.Passes.{unused_pass}
use Rattle.kex_words.specs.Steps.{maker}
use Rattle.kex_words.proofs.words.KexTable.deal.Given as goal

abbrev pub invariant-loop-number : goal.invariant-loop-number
invariant-loop-number l = (l.seat.table_id ≡ l.self.id) × (l.seat.me ≡ (maker l.self.net l.number, []))
    × (vec_len l.passes ≡ l.number) × (vec_capacity l.passes ≡ vec_capacity l.initial.passes)
    × EachIndex l.passes.items (λ i. slice_get l.passes.items i ≡ Some (unused_pass l.self i))
