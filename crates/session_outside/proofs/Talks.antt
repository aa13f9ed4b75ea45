-- A talk that is kept.
use Rattle.std.proofs.Common.{◌≡◌, ℕ, ◌+◌, ◌≤◌, ◌∙◌, ◌++◌, ◌∷◌, [], List, length, take, drop, ap, sym, arith, length-drop}
use Rattle.std.proofs.lemmas.List.{take-append-le, drop-append-le, take_all}
use Rattle.session_outside.specs.Memory.{size, event, talk, sizes}
use Rattle.session_outside.specs.declared.talk.Mark.{Mark}

pub sizes_snoc : (ms : List Mark) (m : Mark) → sizes (ms ++ m ∷ []) ≡ sizes ms + size m
sizes_snoc [] m = omega arith
sizes_snoc (x ∷ ms) m = omega (arith, sizes_snoc ms m)

alone : (m : Mark) (bs piece : List ℕ) → length bs ≡ 0 → size m ≡ length piece → take (size m) (bs ++ piece) ≡ piece
alone m [] piece e h = take_all (size m) piece (omega arith)
alone m (b ∷ bs) piece e h = absurd (omega arith)

pub talk_snoc : (ms : List Mark) (m : Mark) (bs piece : List ℕ) → sizes ms ≡ length bs → size m ≡ length piece → talk (ms ++ m ∷ []) (bs ++ piece) ≡ talk ms bs ++ event m piece ∷ []
talk_snoc [] m bs piece e h = ap (λ p. event m p ∷ []) (alone m bs piece (sym e) h)
talk_snoc (x ∷ ms) m bs piece e h =
    let le : size x ≤ length bs = omega arith in
    ap (λ p. event x p ∷ talk (ms ++ m ∷ []) (drop (size x) (bs ++ piece))) (take-append-le (size x) bs piece le)
    ∙ ap (λ p. event x (take (size x) bs) ∷ talk (ms ++ m ∷ []) p) (drop-append-le (size x) bs piece le)
    ∙ ap (λ l. event x (take (size x) bs) ∷ l) (talk_snoc ms m (drop (size x) bs) piece (omega (arith, length-drop (size x) bs)) h)
