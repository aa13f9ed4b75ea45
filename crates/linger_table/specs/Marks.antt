-- A client's mark: the hash FNV-1a of 64 bits (Fowler, Noll and Vo) of its four names, each with a zero byte after it.
use Rattle.std.specs.Prelude.{ℕ, ◌*◌, ◌%◌, ◌^◌, List, fold}
use Rattle.std.specs.Int.Bits.{bit_xor}
use Rattle.lic_types.specs.declared.client.Client.{Client}

-- a mark, and one more byte
abbrev pub mark_with_byte : ℕ → ℕ → ℕ
mark_with_byte mark byte = bit_xor mark byte * 1099511628211 % 2 ^ 64

-- a mark, and the bytes of a name and a zero byte
abbrev pub mark_with_name : ℕ → List ℕ → ℕ
mark_with_name mark name = mark_with_byte (fold mark_with_byte mark name) 0

-- the mark of a client
unfoldable pub mark_of : Client → ℕ
mark_of client = mark_with_name (mark_with_name (mark_with_name (mark_with_name 14695981039346656037 client.user) client.host) client.display) client.project
