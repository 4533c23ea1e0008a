-- `shown` meets its contract: in range the division is exact (Exact), and the test is of the range.
use Rattle.std.proofs.Common.{◌∙◌, sym, nat_abs}
use Rattle.std.proofs.lemmas.Bool.{leb-true, leb-false}
use lib.Ieee.{of_bits}
use mir.ValLaws.{to_z-of_z}
use mir.Syntax.{w32}
use Rattle.scans.proofs.Exact.{shown_as, out_of_range, in_reach}
use Rattle.scans.proofs.shown.Goals as goal

pub returns-then-not-contains : goal.returns-then-not-contains
returns-then-not-contains c =
    let z = c.args.steps in
    let h = rw (c.new.ensures.start, c.new.ensures.end, c.new.ensures.exhausted, to_z-of_z w32 z c.ranges.steps) at c.if-not-contains.ensures.value in
    out_of_range z (leb-false (nat_abs z) 131072 (sym (in_reach z) ∙ sym h))

pub returns : goal.returns
unfolding of_bits
returns c =
    let z = c.args.steps in
    let h = rw (c.new.ensures.start, c.new.ensures.end, c.new.ensures.exhausted, to_z-of_z w32 z c.ranges.steps) at c.if-not-contains.ensures.value in
    rw (to_z-of_z w32 z c.ranges.steps) (shown_as z (leb-true (nat_abs z) 131072 (sym (in_reach z) ∙ sym h)))
