-- The numbers that a reply to GLANCE tells.
use Rattle.std.specs.Prelude.{◌≡◌, ℕ, ◌^◌, ◌<◌, nat_lt, if◌then◌else◌, List, [], ◌∷◌, Option, None, Some, option_and_then}
use Rattle.counter.specs.declared.glance.Glance.{Glance}
use Rattle.lic_text.specs.Number.{number_of}
use Rattle.line_protocol.specs.Replies.{glance_text}

-- numbers that a desk can have
pub record IsGlance (g : Glance) : Type 0 where
  pub front : g.front < 2 ^ 64
  pub held : g.held < 2 ^ 32
  pub lingering : g.lingering < 2 ^ 32
  pub taken : g.taken < 2 ^ 32
  pub free : g.free < 2 ^ 32
  pub queued : g.queued < 2 ^ 32

-- a line that tells no numbers
abbrev pub IsNoGlance : List ℕ → Type 0
IsNoGlance line = (g : Glance) → IsGlance g → glance_text g ≡ line → ⊥

-- a number, and the words behind it
pub record Numbered : Type 0 where
  pub value : ℕ
  pub rest : List (List ℕ)

abbrev pub with_rest : List (List ℕ) → ℕ → Option Numbered
with_rest rest n = Some (record { value = n; rest = rest })

-- the number that is the second of the words
abbrev pub number_behind : List (List ℕ) → Option Numbered
number_behind [] = None
number_behind (name ∷ []) = None
number_behind (name ∷ word ∷ rest) = option_and_then (with_rest rest) (number_of word)

abbrev pub if_count : Numbered → Option Numbered
if_count n = if nat_lt n.value (2 ^ 32) then Some n else None

-- the same of a number below 2^32
abbrev pub count_behind : List (List ℕ) → Option Numbered
count_behind words = option_and_then if_count (number_behind words)

-- the numbers that stand behind their names
abbrev pub glance_behind : List (List ℕ) → Option Glance
glance_behind words =
    option_and_then (λ (front : Numbered).
    option_and_then (λ (held : Numbered).
    option_and_then (λ (lingering : Numbered).
    option_and_then (λ (taken : Numbered).
    option_and_then (λ (free : Numbered).
    option_and_then (λ (queued : Numbered).
    Some (record { front = front.value; held = held.value; lingering = lingering.value; taken = taken.value; free = free.value; queued = queued.value }))
    (count_behind free.rest)) (count_behind taken.rest)) (count_behind lingering.rest)) (count_behind held.rest)) (count_behind front.rest)) (number_behind words)

-- the numbers that a line's words tell
abbrev pub glance_in : List (List ℕ) → Option Glance
glance_in [] = None
glance_in (word ∷ words) = glance_behind words
