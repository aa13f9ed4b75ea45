use Rattle.std.proofs.Common.{◌≡◌, ◌<◌, ◌^◌, drop}
use Rattle.std.specs.Str.{all_ascii_digits}
use Rattle.lic_text.specs.Number.{value_after}
use Rattle.lic_text.proofs.digits.long_number.Given as goal

-- what the digits so far are worth, what is left decides
abbrev pub invariant-loop-b : goal.invariant-loop-b
invariant-loop-b l = record {
  all : all_ascii_digits l.word ≡ all_ascii_digits (drop l.b-index l.word);
  value : value_after 0 l.word ≡ value_after l.value (drop l.b-index l.word);
  small : l.value < 2 ^ 64;
}
