use Rattle.std.proofs.Common.{take, drop, refl, subst, inl, inr, sym, ◌∙◌, true≢false, ◌++◌, arith, length-take-le}
use Rattle.line_protocol.specs.Streams.{Begins, waiting}
use Rattle.session_outside.specs.Talk.{Heard}
use Rattle.client_talk.proofs.Heardings.{part_piece, whole_piece}
use Rattle.client_talk.proofs.hearing.hear_some.Goals as goal

pub returns-then-used-count : goal.returns-then-used-count
returns-then-used-count g c =
    let piece = take c.in-Bytes.count c.read.new.buffer in
    let e = whole_piece c.in-Line.used c.in-Bytes.count c.read.new.buffer c.if-used-count.true (omega (arith, c.in-Bytes.ensures.within)) in
    (Heard piece, c.in-Bytes.ensures.told, (refl, subst (λ r. Begins (waiting c.args.feeder.now ++ piece) c.feed.new.self.bytes r) e c.in-Line.ensures.begins))

pub returns-else-used-count : goal.returns-else-used-count
returns-else-used-count g c =
    let piece = take c.in-Bytes.count c.read.new.buffer in (
      Heard piece,
      c.in-Bytes.ensures.told,
      (
        refl,
        inr (
          c.feed.new.self.bytes,
          drop c.in-Line.used piece,
          c.in-Line.ensures.begins,
          part_piece c.in-Line.used c.in-Bytes.count c.read.new.buffer c.in-Line.ensures.within c.if-used-count.false (omega (arith, c.in-Bytes.ensures.within)),
        ),
      ),
    )

pub returns-in-More : goal.returns-in-More
returns-in-More g c =
    let piece = take c.in-Bytes.count c.read.new.buffer in
    (Heard piece, c.in-Bytes.ensures.told, (refl, refl, omega (arith, c.in-Bytes.ensures.within, length-take-le c.in-Bytes.count c.read.new.buffer (omega (arith, c.in-Bytes.ensures.within))), c.in-More.ensures.all, c.in-More.ensures.fits, c.in-More.ensures.still))

pub returns-in-TooLong : goal.returns-in-TooLong
returns-in-TooLong g c =
    let piece = take c.in-Bytes.count c.read.new.buffer in
    (Heard piece, c.in-Bytes.ensures.told, (refl, elim c.in-TooLong.ensures.why [ inl h ↦ absurd (true≢false (sym h ∙ c.requires)) | inr o ↦ inl o ]))
