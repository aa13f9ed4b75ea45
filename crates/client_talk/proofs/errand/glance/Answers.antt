use Rattle.std.proofs.Common.{◌≡◌, ◌∙◌, ℕ, List, Option, None, Some, Ok, sym}
use Rattle.std.proofs.lemmas.Result.{err_from_is_err_and}
use Rattle.std.specs.Option.{IfSome, ok_or}
use Rattle.counter.specs.declared.glance.Glance.{Glance}
use Rattle.line_protocol.specs.Replies.{glance_text}
use Rattle.line_protocol.specs.Streams.{Held}
use Rattle.session_outside.specs.Talk.{Event}
use Rattle.client_talk.specs.Errands.{IsGlanced}
use Rattle.client_talk.specs.Exchange.{Asks}
use Rattle.client_talk.specs.Numbers.{IsGlance}
use Rattle.client_talk.specs.Talks.{glance_line}
use Rattle.client_talk.specs.declared.cause.Cause.TheVariants.{NoNumbers}
use Rattle.client_talk.specs.declared.want.Want.TheVariants.{Numbers}
use Rattle.client_talk.proofs.Talkings.{halts_answered}
use Rattle.client_talk.proofs.errand.glance.Goals as goal

-- a reply came, with these numbers or none
glanced : {X : Type 0} (tells : X → List Event → Type 0) (a b : X) (feature : List ℕ) (reply : Held) (line : List ℕ) (o : Option Glance) → Asks tells a b (glance_line feature) Numbers (Ok reply) → line ≡ reply.bytes
    → IfSome o (λ g. glance_text g ≡ line) → ((g : Glance) → IsGlance g → glance_text g ≡ line → o ≡ Some g) → IsGlanced tells a b feature (ok_or o (NoNumbers reply))
glanced tells a b feature reply line (Some g) asked is read all = (reply, sym (read ∙ is), asked)
glanced tells a b feature reply line None asked is read all =
    halts_answered tells a b (glance_line feature) Numbers reply (NoNumbers reply) asked (λ events h. (h, λ told numbers same. let none = all told numbers (same ∙ sym is) in absurd cc))

pub returns-in_err-reply : goal.returns-in_err-reply
returns-in_err-reply g c =
    let p = err_from_is_err_and c.from_residual.result c.from_residual.ensures.1 in
    rw (p.1, p.2) (c.in_err-reply.ensures (glance_line c.args.feature.now) Numbers c.glance.ensures)

pub returns : goal.returns
returns g c =
    rw c.ok_or.ensures.value
    (glanced g.L.Link.tells c.args.link.now c.ask_made.new.link c.args.feature.now c.in_ok-reply.reply c.line.result.now c.read_glance.result (c.in_ok-reply.ensures (glance_line c.args.feature.now) Numbers c.glance.ensures)
    c.line.ensures c.read_glance.ensures.read c.read_glance.ensures.all)
