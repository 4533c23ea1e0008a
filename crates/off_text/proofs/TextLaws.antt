-- A text without the byte 44 has no comma outside comments.
-- For whoever writes such a text and wants to know what reading makes of it.
use Rattle.std.specs.Prelude.{ℕ, Bool, true, false, cond, List, [], ◌∷◌, eqb}
use Rattle.std.proofs.Common.{inl, inr}
use Rattle.text_cut.specs.Cuts.{Uncut}
use Rattle.off_text.specs.Off.{outside, inside, HasComma, CommaOutside}

-- ---- commas
no_comma : (s : List ℕ) → Uncut 44 s → (CommaOutside s → ⊥) × (HasComma (inside s) → ⊥)
unfolding outside
no_comma [] u = (λ h. h, λ h. h)
no_comma (b ∷ s) u = (out (eqb b 35) (no_comma s u.1), ins (eqb b 10) (no_comma s u.1))
  where
    here : (CommaOutside s → ⊥) → HasComma (b ∷ outside s) → ⊥
    here f (inl e) = u.0 e
    here f (inr h) = f h

    out : (t : Bool) → (CommaOutside s → ⊥) × (HasComma (inside s) → ⊥) → HasComma (cond t (inside s) (b ∷ outside s)) → ⊥
    out true f = f.1
    out false f = here f.0

    ins : (t : Bool) → (CommaOutside s → ⊥) × (HasComma (inside s) → ⊥) → HasComma (cond t (b ∷ outside s) (inside s)) → ⊥
    ins true f = here f.0
    ins false f = f.1

pub comma_free : (s : List ℕ) → Uncut 44 s → CommaOutside s → ⊥
comma_free s u = (no_comma s u).0
