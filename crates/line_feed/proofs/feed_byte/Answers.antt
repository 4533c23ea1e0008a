-- `line_feed::feed_byte` meets its contract: a line's end, or a byte more of the line.
use Rattle.line_feed.specs.ServedLaws.{feeds-end, feeds_other}
use Rattle.line_feed.proofs.feed_byte.Goals as goal

pub returns-then-byte-eq-LINE_END-clause-feeds : goal.returns-then-byte-eq-LINE_END-clause-feeds
returns-then-byte-eq-LINE_END-clause-feeds o c =
    let ends = c.if-byte-eq-LINE_END.true in
    λ part h. feeds-end c.args.byte ends h (c.answer_held.ensures.serves part h)

pub returns-clause-feeds : goal.returns-clause-feeds
returns-clause-feeds o c =
    let other = c.if-byte-eq-LINE_END.false in
    λ part h. feeds_other c.args.byte other (c.hold.ensures part h)
