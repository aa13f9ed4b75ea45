use Rattle.std.proofs.Common.{◌∙◌, ◌+◌, ◌++◌, ◌∷◌, [], ap, sym, cond, length, length-append, inl, inr}
use Rattle.session_outside.specs.Memory.{talk, event, size, sizes}
use Rattle.session_outside.proofs.Talks.{talk_snoc, sizes_snoc}
use Rattle.session_outside.proofs.talk.Talk.keep.Goals as goal

pub invariant_of-self-else-is_err-2 : goal.invariant_of-self-else-is_err-2
invariant_of-self-else-is_err-2 c =
    let bs = c.extend_from_slice.ensures.items ∙ ap (λ b. cond b (c.args.self.now.bytes.items ++ c.args.piece.now) c.args.self.now.bytes.items) c.if-is_err.ensures.negation in
    let ms = c.push.ensures.items ∙ ap (λ b. cond b (c.args.self.now.marks.items ++ c.args.mark ∷ []) c.args.self.now.marks.items) c.if-is_err-2.ensures.negation in
    record { sized = ap sizes ms ∙ sizes_snoc c.args.self.now.marks.items c.args.mark ∙ ap (λ n. n + size c.args.mark) c.args.self.now.sized ∙ ap (λ n. length c.args.self.now.bytes.items + n) c.requires ∙ sym (length-append c.args.self.now.bytes.items c.args.piece.now) ∙ ap length (sym bs) }

pub returns-else-is_err-2 : goal.returns-else-is_err-2
returns-else-is_err-2 c = λ told h.
    let bs = c.extend_from_slice.ensures.items ∙ ap (λ b. cond b (c.args.self.now.bytes.items ++ c.args.piece.now) c.args.self.now.bytes.items) c.if-is_err.ensures.negation in
    let ms = c.push.ensures.items ∙ ap (λ b. cond b (c.args.self.now.marks.items ++ c.args.mark ∷ []) c.args.self.now.marks.items) c.if-is_err-2.ensures.negation in
    elim h [
      | inl lost ↦ inl lost
      | inr e ↦ inr (ap (λ l. l ++ event c.args.mark c.args.piece.now ∷ []) e ∙ sym (talk_snoc c.args.self.now.marks.items c.args.mark c.args.self.now.bytes.items c.args.piece.now c.args.self.now.sized c.requires) ∙ sym (ap (λ b. talk c.push.new.self.items b) bs ∙ ap (λ m. talk m (c.args.self.now.bytes.items ++ c.args.piece.now)) ms))
    ]
