-- The lines of a stream of bytes.
use Rattle.std.specs.Prelude.{◌≡◌, ◌≢◌, ℕ, ◌≤◌, ◌<◌, Bool, true, if◌then◌else◌, List, [], ◌∷◌, ◌++◌, length, All}
use Rattle.std.specs.List.{AllByRecursion}
use Rattle.line_protocol.specs.declared.feeder.TheConstants.{LINE_LIMIT}

-- bytes without LF
abbrev pub IsFlat : List ℕ → Type 0
IsFlat bytes = All (λ b. b ≢ 10) bytes

-- the bytes begin with this line: it has at most 1,024 bytes, and an LF ends it
pub record Begins (bytes line rest : List ℕ) : Type 0 where
  pub whole : bytes ≡ line ++ 10 ∷ rest
  pub flat : IsFlat line
  pub short : length line ≤ LINE_LIMIT

-- no line is whole yet, and none is too long
pub record IsOpen (bytes : List ℕ) : Type 0 where
  pub flat : IsFlat bytes
  pub short : length bytes ≤ LINE_LIMIT

-- more than 1,024 bytes without LF stand at the beginning
pub record IsOverlong (bytes : List ℕ) : Type 0 where
  pub front : List ℕ
  pub rest : List ℕ
  pub whole : bytes ≡ front ++ rest
  pub flat : IsFlat front
  pub long : LINE_LIMIT < length front

-- lines, each with its LF, and a rest
abbrev pub stream_of : List (List ℕ) → List ℕ → List ℕ
stream_of [] rest = rest
stream_of (line ∷ lines) rest = line ++ 10 ∷ stream_of lines rest

-- two readings of one stream are one
abbrev pub OneReading : Type 0
OneReading = (xs ys : List (List ℕ)) (r s : List ℕ) → AllByRecursion IsFlat xs → AllByRecursion IsFlat ys → IsFlat r → IsFlat s → stream_of xs r ≡ stream_of ys s → (xs ≡ ys) × (r ≡ s)

-- what a feeder holds: the bytes since the last LF, or the line that was given last; or that a line was too long
pub record Held : Type 0 where
  pub bytes : List ℕ
  pub given : Bool
  pub over : Bool

-- the bytes since the last LF
abbrev pub waiting : Held → List ℕ
waiting h = if h.given then [] else h.bytes

-- bytes that a feeder may hold
pub record IsHeld (len : ℕ) (bytes : List ℕ) (over : Bool) : Type 0 where
  pub short : len ≤ LINE_LIMIT
  pub flat : IsFlat bytes
  pub nothing : over ≡ true → len ≡ 0
