use Rattle.std.specs.Prelude.{ℕ, Bool, nat_eq, ◌==◌, List, find, Option, string_bytes}
use Rattle.std.specs.List.{list_any}
use Rattle.std.specs.Option.{option_map}
use Rattle.std.specs.Cmp.Lexicographic.{pointwise}
use Rattle.outside.specs.declared.memory.MemFile.{MemFile}

-- what the first file of that name holds
abbrev pub file_named : List MemFile → List ℕ → Option (List ℕ)
file_named files name = option_map (λ (f : MemFile). f.bytes.items) (find (λ (f : MemFile). pointwise nat_eq (string_bytes f.name) name) files)

-- whether the call of this number is listed
abbrev pub is_listed : List ℕ → ℕ → Bool
is_listed numbers call = list_any (λ n. n == call) numbers
