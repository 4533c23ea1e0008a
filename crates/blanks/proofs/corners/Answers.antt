-- `corners` meets its contract: the sizes that a kind's table stands for are the corners of document 01, by computing both.
use Rattle.std.specs.Prelude.{◌≡◌, List, ℤ}
use Rattle.std.proofs.Common.{subst, sym}
use Rattle.scans.specs.declared.Point.{Point}
use Rattle.blanks.specs.declared.Blank.{Blank}
use Rattle.blanks.specs.Blanks.{sizes, needed, blank_corners, Written, WrittenAs}
use Rattle.blanks.proofs.corners.Goals as goal

-- an answer for what the match found the blank to be is one for the blank
as_blank : {b : Blank} {p : Point} {before after : List ℤ} {r : Written} (k : Blank) → b ≡ k → p ≡ sizes b
    → WrittenAs p (needed k) (blank_corners k) before after r → WrittenAs (sizes b) (needed b) (blank_corners b) before after r
as_blank {b} {p} {before} {after} {r} k e s h =
    subst (λ (q : Point). WrittenAs q (needed b) (blank_corners b) before after r) s (subst (λ (b : Blank). WrittenAs p (needed b) (blank_corners b) before after r) (sym e) h)

pub returns-in-Box : goal.returns-in-Box
returns-in-Box c = as_blank _ c.in-Box.is c.sizes-sizes.ensures c.fill.ensures

pub returns-in-Wedge : goal.returns-in-Wedge
returns-in-Wedge c = as_blank _ c.in-Wedge.is c.sizes-sizes.ensures c.fill-in-Wedge.ensures

pub returns-in-Corner : goal.returns-in-Corner
returns-in-Corner c = as_blank _ c.in-Corner.is c.sizes-sizes.ensures c.fill-in-Corner.ensures
