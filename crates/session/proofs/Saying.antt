-- A line that is written, or isn't.
use Rattle.std.proofs.Common.{◌≡◌, ◌∙◌, ◌∷◌, [], List, sym, inl, inr, Option, Some, None}
use Rattle.line_protocol.specs.Replies.{line_of}
use Rattle.line_protocol.specs.declared.told.Told.{Told}
use Rattle.session_outside.specs.Talk.{Wrote}
use Rattle.session.specs.Acts.{Act, Tell}
use Rattle.session.specs.Table.{Writes, WritesAnd}
use Rattle.session.specs.declared.end.SessionEnd.{SessionEnd}

-- where the session goes on, the line was written
pub said_on : (t : Told) {out : Option SessionEnd} (new : List Act) → Writes t None new out → out ≡ None → new ≡ Tell (Wrote (line_of t)) ∷ []
said_on t new (inl w) e = w.0
said_on t new (inr w) e = absurd (cc)

-- where it ends, the write failed
pub said_end : (t : Told) {out : Option SessionEnd} (new : List Act) (end : SessionEnd) {more : List Act} {next : Option SessionEnd} → Writes t None new out → out ≡ Some end → WritesAnd t more next new (Some end)
said_end t new end (inl w) e = absurd (cc)
said_end t new end (inr w) e = inr (w.0, w.1, w.2, w.3, sym e ∙ w.4)
