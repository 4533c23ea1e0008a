-- "With g = 0 all of 01 as amended stands": with no gap boxes are apart where document 01 has it so, both ways.
-- A mark's value plus 0 is the value.
use Rattle.std.proofs.Common.{sym, subst, inl, inr}
use Rattle.std.specs.Prelude.{◌↔◌, ℕ, ℤ, pos, ◌+ℤ◌, ◌<ℤ◌}
use Rattle.std.proofs.Math.IntN.{+ℤ_idr}
use Rattle.pieces.specs.Pieces.{Store}
use Rattle.pieces.specs.Boxes.{Apart}
use Rattle.pieces.specs.NoGap.{PlainApart}

plain : {u v : ℤ} → (u +ℤ pos 0) <ℤ v → u <ℤ v
plain {u} {v} = subst (λ z. z <ℤ v) (+ℤ_idr u)

ungapped : {u v : ℤ} → u <ℤ v → (u +ℤ pos 0) <ℤ v
ungapped {u} {v} = subst (λ z. z <ℤ v) (sym (+ℤ_idr u))

module _ (d : Store) (p q : ℕ) where
  to_plain : Apart 0 d p q → PlainApart d p q
  to_plain (axis, h, inl a) = (axis, h, inl (plain a))
  to_plain (axis, h, inr a) = (axis, h, inr (plain a))

  of_plain : PlainApart d p q → Apart 0 d p q
  of_plain (axis, h, inl a) = (axis, h, inl (ungapped a))
  of_plain (axis, h, inr a) = (axis, h, inr (ungapped a))

  pub apart_plain : (Apart 0 d p q ↔ PlainApart d p q)
  apart_plain = (to_plain, of_plain)
