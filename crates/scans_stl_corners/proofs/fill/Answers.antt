-- `fill` meets its contract: of what is held the count decides both refusals, and its numbers are the first of the array (HoldingLaws).
use Rattle.std.specs.Prelude.{◌*◌, ◌≡◌, refl, ◌++◌, length, take, drop}
use Rattle.std.proofs.Common.{sym, ap, ◌∙◌, inr, arith}
use Rattle.scans_stl.specs.Stl.{numbers_of}
use Rattle.scans_stl_corners.specs.HoldingLaws.{within, numbers_held}
use Rattle.scans_stl_corners.proofs.fill.Goals as goal

pub returns : goal.returns
returns c = λ l h.
    let a = c.args in
    let w = within h (omega arith) in
    let t : take (3 * a.count) a.kept.now ≡ numbers_of l = sym (numbers_held a.kept.now a.count (omega arith)) ∙ ap numbers_of w.1 in
    let k : 3 * a.count ≡ 3 * length l = omega arith in
    record {
      number = inr ((λ u. omega (arith, h.counted)), inr ((λ u. omega arith), refl));
      filled = λ e. record { room = rw c.copy_from_slice.ensures.after (λ i. t i ++ drop (k i) a.room.now); counted = k };
      stays = λ f. absurd (f refl);
    }
