-- `body` meets its contract: so many numbers are more words than there are bytes (LayoutLaws).
use mathlib.Core.Path.{refl}
use Rattle.off_read.specs.LayoutLaws.{body_few}
use Rattle.off_read.proofs.body.Goals as goal

pub returns-then-words-corners-clause-told : goal.returns-then-words-corners-clause-told
returns-then-words-corners-clause-told c = record { bad = λ _. body_few c.args.corners c.args.faces c.args.words.now.rest.now c.if-words-corners.true; good = λ f. absurd (f refl) }
