-- A file read triangle by triangle: how it begins, one triangle more, and that all triangles are all corners of the file.
-- The definitions stand in Holding.
use Rattle.std.specs.Prelude.{ℕ, suc, ◌+◌, ◌*◌, ◌≤◌, ◌<◌, ◌≡◌, refl, List, [], ◌++◌, map, ℤ, length}
use Rattle.std.proofs.Common.{sym, ap, ◌∙◌, subst, arith}
use Rattle.std.proofs.lemmas.List.{map-append}
use Rattle.limits.specs.Limits
use Rattle.scans.specs.Scanned.{lower_of}
use Rattle.scans.specs.Lower.{lower_none}
use Rattle.scans.specs.declared.Point.{Point}
use Rattle.scans_stl.specs.Stl.{first_at, triangle_bytes, triangle_count, triangle_at, corners_from, Corner, in_steps}
use Rattle.scans_stl.specs.StlLaws.{LowestOf, none_of, both_of_lem, corners_more}
use Rattle.scans_stl.specs.Steps.{Handed, TriangleAs}
use Rattle.scans_stl_corners.specs.Kept.{keep_all, first_appearances}
use Rattle.scans_stl_corners.specs.KeptLaws.{keep_append}
use Rattle.scans_stl_corners.specs.Holding.{corners_held, Holding, Keeps, ReadUpTo, CollectedAs}
use Rattle.scans_stl_corners.specs.HoldingLaws.{holds_none}

pub reading_none : (file : List ℕ) (a : List ℤ) → ReadUpTo file first_at a Limits.done 0
reading_none file a = record { nth = 0; below = omega arith; place = refl; lowest = none_of; holding = λ _. holds_none a }

module _ {file : List ℕ} {at : ℕ} {a : List ℤ} {number count : ℕ} (h : ReadUpTo file at a number count) (whole : length file ≡ first_at + triangle_bytes * triangle_count file) where
  -- the corners of the triangles up to the next position
  more : corners_from file first_at (suc h.nth) ≡ corners_from file first_at h.nth ++ triangle_at file at
  more = corners_more file first_at h.nth ∙ ap (λ (k : ℕ). corners_from file first_at h.nth ++ triangle_at file k) (sym h.place)

  keeps_more : (kept : List Corner) → kept ≡ first_appearances (map in_steps (corners_from file first_at h.nth))
      → keep_all kept (map in_steps (triangle_at file at)) ≡ first_appearances (map in_steps (corners_from file first_at (suc h.nth)))
  keeps_more kept e =
      ap (λ (l : List Corner). keep_all l (map in_steps (triangle_at file at))) e
      ∙ sym (keep_append [] (map in_steps (corners_from file first_at h.nth)) (map in_steps (triangle_at file at)))
      ∙ ap first_appearances (sym (map-append in_steps (corners_from file first_at h.nth) (triangle_at file at)) ∙ ap (map in_steps) (sym more))

  pub reading_within : at < length file → at + triangle_bytes ≤ length file
  reading_within l = omega (arith, h.place)

  pub reading_more : {b : List ℤ} {n m : ℕ} {r : Handed} → at < length file → TriangleAs file at r → n ≡ lower_of number r.number → (n ≡ Limits.done → Keeps a count (corners_held r.corners 3) b m)
      → ReadUpTo file (at + triangle_bytes) b n m
  reading_more {b} {n} {m} {r} l t e k = record {
    nth = suc h.nth;
    below = omega (arith, h.place);
    place = omega (arith, h.place);
    lowest = subst (λ (c : List Point). LowestOf c n) (sym more) (subst (LowestOf (corners_from file first_at h.nth ++ triangle_at file at)) (sym e)
        (both_of_lem (corners_from file first_at h.nth) (triangle_at file at) h.lowest t.number));
    holding = λ z.
        let u = lower_none number r.number (sym e ∙ z) in
        let c : corners_held r.corners 3 ≡ map in_steps (triangle_at file at) = ap (λ (r : Handed). corners_held r.corners 3) (t.handed u.1) in
        subst (Holding b m) (keeps_more _ refl) (subst (λ (c : List Corner). Keeps a count c b m) c (k z) _ (h.holding u.0));
  }

  pub reading_all : length file ≤ at → CollectedAs file a (record { number = number; count = count })
  reading_all l =
      let e : h.nth ≡ triangle_count file = omega (arith, h.place, h.below) in
      record {
        lowest = subst (λ (n : ℕ). LowestOf (corners_from file first_at n) number) e h.lowest;
        holding = λ z. subst (λ (n : ℕ). Holding a count (first_appearances (map in_steps (corners_from file first_at n)))) e (h.holding z);
      }
