-- Laws of taken places: the tests decide, and two lists of places that hold the same at a place agree there.
-- A place is taken or not, whatever its cell holds.
use Rattle.std.specs.Prelude.{◌≡◌, refl, List, Bool, true, false, not, ℕ, ◌<◌, eqb, ℤ, nat_abs}
use Rattle.std.specs.Int.{w32}
use Rattle.std.proofs.Common.{SFits, of_z, eqb-true}
use Rattle.std.proofs.lemmas.Bool.{eqb-false}
use Rattle.limits.specs.Limits
use Rattle.limits.specs.Decides.{Decides}
use Rattle.limits.specs.DecidesLaws.{holds, fails}
use Rattle.pieces.specs.IndexLaws.{some_decided}
use Rattle.pieces.specs.Pieces.{held_in, Taken, taken_in}

pub taken_decided : (places : List ℤ) (p : ℕ) → p < Limits.places → Decides (taken_in places p) (Taken places p)
taken_decided places p h = go (eqb (nat_abs (held_in places p)) 0) refl
  where
    go : (b : Bool) → eqb (nat_abs (held_in places p)) 0 ≡ b → Decides (not b) (Taken places p)
    go true t = fails refl (λ k. k.holds (eqb-true (nat_abs (held_in places p)) 0 t))
    go false t = holds refl (record { place = h; holds = eqb-false (nat_abs (held_in places p)) 0 t })

pub by_taken : {C : Type 0} (places : List ℤ) (p : ℕ) → p < Limits.places → (Taken places p → C) → ((Taken places p → ⊥) → C) → C
by_taken {C} places p h f g = go (taken_in places p) (taken_decided places p h)
  where
    go : (b : Bool) → Decides b (Taken places p) → C
    go true d = f (d.yes refl)
    go false d = g (d.no refl)

-- the test that is made compares bits
pub taken_bits : (places : List ℤ) (p : ℕ) → p < Limits.places → SFits w32 (held_in places p) → Decides (not (eqb (of_z w32 (held_in places p)) 0)) (Taken places p)
taken_bits places p h f =
    let d = some_decided (held_in places p) f in
    record { yes = λ t. record { place = h; holds = d.yes t }; no = λ t k. d.no t k.holds }
