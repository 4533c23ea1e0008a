-- `verdict::lengths_fit`: the second length is looked at only where the first fits.
use mathlib.Core.Logic.{inl}
use Rattle.verdict.specs.Judged.{tells_both, tells_no}
use Rattle.verdict.proofs.lengths_fit.Goals as goal

pub returns-then-length_fits : goal.returns-then-length_fits
returns-then-length_fits c = tells_both (c.length_fits.ensures.yes c.if-length_fits.true) c.length_fits-then-length_fits.ensures

pub returns-else-length_fits : goal.returns-else-length_fits
returns-else-length_fits c = tells_no c.if-length_fits.false (inl (c.length_fits.ensures.no c.if-length_fits.false))
