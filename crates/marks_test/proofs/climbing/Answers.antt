-- What is left to look at climbs from the least key that it may have.
use Rattle.std.proofs.Common.{arith, sym, ◌∙◌}
use Rattle.marks.specs.Keys.{key_of}
use Rattle.marks_test.proofs.Loops.{too_low, no_key_lem, climbs_more, climbs_done}
use Rattle.marks_test.proofs.climbing.Goals as goal
use Rattle.marks_test.proofs.climbing.Goals.{then-key-least-via-then-key-least, then-key-least-via-else-key-least+then-key-ge-NO_KEY}

pub returns-then-key-least : goal.returns-then-key-least
returns-then-key-least c =
    let e = key_of c.args.keys.now in
    let xs = c.args.part.now in
    let l = c.loop-q in
    let k = c.key_of-key in
    elim c.then-key-least.branch [
      | then-key-least-via-then-key-least w ↦ sym (too_low e l.least l.q-index k.result xs (omega arith) k.ensures w.if-key-least.true) ∙ l.invariant
      | then-key-least-via-else-key-least+then-key-ge-NO_KEY w ↦ sym (no_key_lem e l.least l.q-index k.result xs (omega arith) k.ensures w.if-key-least.false w.if-key-ge-NO_KEY.true) ∙ l.invariant
    ]

pub loop-q-preserved : goal.loop-q-preserved
loop-q-preserved c =
    let l = c.loop-q in
    let k = c.key_of-key in
    climbs_more (key_of c.args.keys.now) l.least l.q-index k.result c.args.part.now (omega arith) k.ensures c.if-key-least.false c.if-key-ge-NO_KEY.false ∙ l.invariant

pub returns : goal.returns
returns c =
    let l = c.loop-q in
    sym (climbs_done (key_of c.args.keys.now) l.least l.q-index c.args.part.now (omega arith) (omega arith)) ∙ l.invariant
