-- Beats that were.
use Rattle.std.specs.Prelude.{ℕ, nat_lt, List, count_by}
use Rattle.options_machine.specs.declared.rows.Holder.{Holder}

-- how many of these holders were heard after this moment
abbrev pub heard_after : ℕ → List Holder → ℕ
heard_after now holders = count_by (λ (h : Holder). nat_lt now h.beat) holders
