-- `rows::taken_mask`: a place more has its byte, whether it is taken or not.
use Rattle.std.proofs.Common.{◌≡◌, ℕ, ◌<◌, ◌≤◌, ◌+◌, get_or, set, arith, refl, subst, sym, below_more, get_or-set_other, get_or-set_same, length-set, ◌∙◌}
use Rattle.std.proofs.lemmas.List.{get_or-replicate, length-replicate}
use Rattle.limits.specs.Limits
use Rattle.rows.specs.Masks.{MaskOf}
use Rattle.rows.proofs.MaskLaws.{mask_made}
use Rattle.rows.proofs.taken_mask.Goals as goal
use Rattle.rows.proofs.taken_mask.Goals.{then-is_taken, else-is_taken}

pub loop-place-init : goal.loop-place-init
loop-place-init c = record {
  long = length-replicate Limits.places Limits.no_row;
  made = λ i h. absurd (omega arith);
  rest = λ i _ h. get_or-replicate Limits.places i Limits.no_row 0 h;
}

pub loop-place-preserved : goal.loop-place-preserved
loop-place-preserved c =
    let l = c.loop-place in
    let d = c.is_taken.ensures in
    elim c.if-is_taken.branch [
      | then-is_taken w ↦
          rw w.mask-is (record {
            long = length-set l.mask l.place 0 ∙ l.invariant.long;
            made = mask_made l.mask l.place 0 (omega arith) l.invariant.made (record { taken = λ _. refl; empty = λ f. absurd (f (d.yes w.if-is_taken.true)) });
            rest = λ i g h. rw (get_or-set_other l.mask l.place i 0 0 (λ e. omega arith)) (l.invariant.rest i (omega arith) h);
          })
      | else-is_taken w ↦
          rw w.mask-is (record {
            long = l.invariant.long;
            made = below_more _ _ l.invariant.made (record { taken = λ t. absurd (d.no w.if-is_taken.false t); empty = λ _. l.invariant.rest l.place (omega arith) (omega arith) });
            rest = λ i g h. l.invariant.rest i (omega arith) h;
          })
    ]

pub returns : goal.returns
returns c =
    let l = c.loop-place in
    record { size = l.invariant.long; passed = λ i h. absurd (omega arith); each = λ i _ h. l.invariant.made i (omega arith) }
