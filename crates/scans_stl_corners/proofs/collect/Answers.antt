-- `collect` meets its contract: a triangle more is read, and kept unless a float is refused (ReadingLaws).
use Rattle.std.specs.Prelude.{ℕ, ◌+◌, ◌*◌, ◌<◌, ◌≡◌, refl, List, ℤ, length, Result, Ok, Err}
use Rattle.std.proofs.Common.{sym, ap, ap₂, ◌∙◌, arith}
use Rattle.limits.specs.Refusals.{number_of, answer_number}
use Rattle.limits.specs.declared.Refusal.{Refusal}
use Rattle.limits.proofs.RefusalLaws.{number_some}
use Rattle.scans.specs.Lower.{both_number, both_given}
use Rattle.scans.specs.Scanned.{both_of, lower_of}
use Rattle.scans_stl.specs.Stl.{first_at, triangle_bytes, triangle_count}
use Rattle.scans_stl.specs.Steps.{taken_of, TriangleAs}
use Rattle.scans_stl.specs.declared.Triangle.{Triangle}
use Rattle.scans_stl_corners.specs.Holding.{corners_held, Keeps, ReadUpTo, collected_of}
use Rattle.scans_stl_corners.specs.ReadingLaws.{reading_none, reading_within, reading_more, reading_all}
use Rattle.scans_stl_corners.proofs.collect.Goals as goal
use Rattle.scans_stl_corners.proofs.collect.Goals.{in-Ok, in-Err}

collected_number : (r : Result ℕ Refusal) → answer_number r ≡ (collected_of r).number
collected_number (Ok n) = refl
collected_number (Err r) = refl

taken_number : (r : Result Triangle Refusal) → answer_number r ≡ (taken_of r).number
taken_number (Ok t) = refl
taken_number (Err r) = refl

-- one triangle more, where neither it nor what was collected is refused, and where one of them is
module _ {file : List ℕ} {at : ℕ} {a : List ℤ} (c : Result ℕ Refusal) (t : Result Triangle Refusal) (h : ReadUpTo file at a (collected_of c).number (collected_of c).count)
    (whole : length file ≡ first_at + triangle_bytes * triangle_count file) (l : at < length file) (k : TriangleAs file at (taken_of t)) where
  more_taken : {b : List ℤ} {n m : ℕ} {s : Triangle} → Ok (n, s) ≡ both_of c t → Keeps a n (corners_held s.corners 3) b m → ReadUpTo file (at + triangle_bytes) b 0 m
  more_taken e g = let f = both_given (sym e) in reading_more (rw f.0 at h) whole l (rw f.1 at k) refl (λ _. g)

  more_refused : (r : Refusal) → Err r ≡ both_of c t → ReadUpTo file (at + triangle_bytes) a (number_of r) 0
  more_refused r e =
      reading_more h whole l k (ap answer_number e ∙ both_number c t ∙ ap₂ lower_of (collected_number c) (taken_number t)) (λ z. absurd (omega (arith, number_some r)))

pub loop-at-init : goal.loop-at-init
loop-at-init c = reading_none _ _

pub triangle_at-requires : goal.triangle_at-requires
triangle_at-requires c = reading_within c.loop-at.invariant c.requires c.loop-at-test.true

pub loop-at-preserved : goal.loop-at-preserved
loop-at-preserved c = elim c.match-both.branch [
  | in-Ok w ↦
      rw (w.collected-is, w.kept-is)
      (more_taken _ _ c.loop-at.invariant c.requires c.loop-at-test.true c.triangle_at.ensures w.in-Ok.ensures w.keep_triangle.ensures)
  | in-Err w ↦
      rw (w.collected-is, w.kept-is)
      (more_refused _ _ c.loop-at.invariant c.requires c.loop-at-test.true c.triangle_at.ensures w.in-Err.refusal w.in-Err.ensures)
]

pub returns : goal.returns
returns c = reading_all c.loop-at.invariant c.requires c.loop-at-test.false

pub returns-after-both : goal.returns-after-both
returns-after-both c = elim c.match-both.branch [
  | in-Ok w ↦
      rw (w.collected-is, w.kept-is)
      (reading_all (more_taken _ _ c.loop-at.invariant c.requires c.loop-at-test.true c.triangle_at.ensures w.in-Ok.ensures w.keep_triangle.ensures) c.requires (omega arith))
  | in-Err w ↦
      rw (w.collected-is, w.kept-is)
      (reading_all (more_refused _ _ c.loop-at.invariant c.requires c.loop-at-test.true c.triangle_at.ensures w.in-Err.refusal w.in-Err.ensures) c.requires (omega arith))
]
