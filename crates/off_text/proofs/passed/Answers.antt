-- `passed` meets its contract: a comment ends at its first byte 10, or with the text.
use native.Mathlib.Omega.{arith}
use lib.ListN.{length}
use Rattle.std.proofs.lemmas.Slice.{between_to_end}
use Rattle.off_text.specs.WalkLaws.{passed_comment, passed_byte}
use Rattle.off_text.proofs.passed.Goals as goal

pub returns-then-text-eq35 : goal.returns-then-text-eq35
returns-then-text-eq35 c =
    rw (between_to_end c.args.text.now c.part_end.result (length c.args.text.now) (omega arith)) (passed_comment c.args.text.now c.requires _ c.if-text-eq35.true (omega (arith, c.part_end.ensures.place)))

pub returns : goal.returns
returns c = rw (between_to_end c.args.text.now 1 (length c.args.text.now) (omega arith)) (passed_byte c.args.text.now c.requires c.if-text-eq35.false)
