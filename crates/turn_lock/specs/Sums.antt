-- What a `Sum` stands for, and its runs.
use Rattle.std.specs.Prelude.{◌≡◌, ℕ, ◌%◌, ◌^◌, List, take, sum_by, slice_get, Some}
use Rattle.turn_lock.specs.declared.kept.Entry.{Entry}
use Rattle.turn_lock.specs.declared.sum.Addend.{Addend}

-- the sum of all amounts, as a word has it
abbrev pub total_of : List (Entry Addend ℕ) → ℕ
total_of h = sum_by (λ e. e.request.amount) h % 2 ^ 64

-- each answer is the sum of the amounts before it
abbrev pub IsRun : List (Entry Addend ℕ) → Type 0
IsRun h = (k : ℕ) (e : Entry Addend ℕ) → slice_get h k ≡ Some e → e.answer ≡ total_of (take k h)
