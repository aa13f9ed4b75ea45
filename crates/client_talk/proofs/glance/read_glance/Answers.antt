use Rattle.std.proofs.Common.{◌≡◌, ◌∙◌, ℕ, List, Some, arith, ap, sym}
use Rattle.counter.specs.declared.glance.Glance.{Glance}
use Rattle.lic_text.specs.Lines.{words_of}
use Rattle.line_protocol.specs.Replies.{glance_text}
use Rattle.client_talk.specs.Numbers.{IsGlance, glance_in}
use Rattle.client_talk.proofs.Numbered.{glance_read}
use Rattle.client_talk.proofs.Showings.{bytes_same, ended, same_bytes, unended}
use Rattle.client_talk.proofs.glance.read_glance.Goals as goal
use Rattle.client_talk.proofs.glance.read_glance.Goals.{else-end-gt0-via-then-end-gt0+else-eq, else-end-gt0-via-else-end-gt0}

read : (reply : List ℕ) (g : Glance) → IsGlance g → glance_text g ≡ reply → glance_in (words_of reply) ≡ Some g
read reply g numbers is = ap (λ (t : List ℕ). glance_in (words_of t)) (sym is) ∙ glance_read g numbers

same : (a b : Glance) → Some a ≡ Some b → a ≡ b
same a b h = cc

pub returns-in_err-glance-clause-all : goal.returns-in_err-glance-clause-all
returns-in_err-glance-clause-all c = λ g numbers is. let bad = c.in_err-glance.ensures ∙ read c.args.reply.now g numbers is in absurd cc

pub returns-then-eq-clause-read : goal.returns-then-eq-clause-read
returns-then-eq-clause-read c =
    unended (glance_text c.in_ok-glance.glance) c.write_reply-end.new.room c.args.reply.now c.write_reply-end.result c.if-end-gt0.true (omega (arith, c.write_reply-end.ensures.offset, c.write_reply-end.array_long))
    c.write_reply-end.ensures.written (same_bytes _ _ (sym c.if-eq.ensures))

pub returns-then-eq-clause-all : goal.returns-then-eq-clause-all
returns-then-eq-clause-all c = λ g numbers is. c.in_ok-glance.ensures ∙ read c.args.reply.now g numbers is

pub returns-else-end-gt0-clause-all : goal.returns-else-end-gt0-clause-all
returns-else-end-gt0-clause-all c = λ g numbers is.
    let one : c.in_ok-glance.glance ≡ g = same c.in_ok-glance.glance g (c.in_ok-glance.ensures ∙ read c.args.reply.now g numbers is) in
    let end = ended (glance_text c.in_ok-glance.glance) c.write_reply-end.new.room c.args.reply.now c.write_reply-end.result (omega (arith, c.write_reply-end.ensures.offset, c.write_reply-end.array_long))
    c.write_reply-end.ensures.written (ap glance_text one ∙ is) in
    elim c.else-end-gt0.branch [
      | else-end-gt0-via-then-end-gt0+else-eq w ↦ let eq = bytes_same _ _ end.1 in let bad = sym w.if-eq.ensures in absurd cc
      | else-end-gt0-via-else-end-gt0 w ↦ absurd (omega (arith, end.0, w.if-end-gt0.false))
    ]
