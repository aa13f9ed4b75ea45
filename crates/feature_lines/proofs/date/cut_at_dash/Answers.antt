use Rattle.std.proofs.Common.{arith, ℕ, ◌+◌, ◌-◌, ◌≤◌, length, drop, length-drop, rules}
use Rattle.std.proofs.lemmas.List.{take_all}
use Rattle.feature_lines.proofs.date.cut_at_dash.Goals as goal

pub returns : goal.returns
returns c =
    let w = c.args.word.now in
    let at = c.in_ok-at.at in
    let whole : length (drop (at + 1) w) ≤ length w - (at + 1) = omega (arith, length-drop {A = ℕ}) in
    rw (take_all (length w - (at + 1)) (drop (at + 1) w) whole) (search rules)
