-- A load, from its tests to its record: what the tests have asked, and that a shape which was not loaded may be.
-- A callee sees a signed number through its bits; each law is told that what was handed on is what was handed in.
use Rattle.std.specs.Prelude.{◌≡◌, refl, List, [], ◌∷◌, ◌++◌, ℕ, suc, ◌+◌, ◌*◌, ◌/◌, ◌<◌, ◌≤◌, ℤ, pos, nat_abs, length, get_or, set, take, drop, Ok, Err}
use Rattle.std.proofs.Common.{sym, ap, ◌∙◌, subst, inl, inr, arith, to_z}
use Rattle.std.proofs.lemmas.List.Edits.{sets, sets-eq}
use Rattle.std.proofs.Math.Seq.{paste, paste-suc, take-length}
use Rattle.std.specs.Int.{w32}
use Rattle.std.proofs.Math.Facts.{to_z_pos}
use Rattle.limits.specs.Limits
use Rattle.limits.specs.Lowest.{Rule, Lowest, ◌when◌}
use Rattle.limits.specs.Refusals.{number_of}
use Rattle.limits.specs.declared.Refusal.{Refusal}
use Rattle.space.specs.Lists.{LengthFits, InReach}
use Rattle.pieces.specs.Pieces.{Store, Sized, Loaded, store_of, loaded_in}
use Rattle.desk_state.specs.Desk.{Desk, desk_of, InOrder, loaded_at}
use Rattle.pieces_test.specs.OrderTest.{loaded_alone}
use Rattle.limits.specs.Numbered.{Numbered}
use Rattle.desk_refusals.specs.Asked.{Asked}
use Rattle.desk.specs.Commands.{new_shape_refusals, load_refusals, Loads}
use Rattle.desk.specs.CommandLaws.{refuses, accepts}
use Rattle.desk_load.specs.LoadLaws.{load_order}

-- ---- numbers stored one after the other
pub copied : (d s : List ℤ) (at j : ℕ) {l : List ℤ} {v : ℤ} → v ≡ get_or s j (pos 0) → at + j < length d → j < length s → l ≡ paste d at s j → set l (at + j) v ≡ paste d at s (j + 1)
copied d s at j {l} {v} ev h k e =
    let one : suc j ≡ j + 1 = omega arith in
    let step : set l (at + j) v ≡ paste d at s (suc j) = rw (ev, e) (paste-suc d at s j (pos 0) h k) in
    step ∙ ap (paste d at s) one

pub copied_all : (d s : List ℤ) (at j : ℕ) {l : List ℤ} → l ≡ paste d at s j → j ≡ length s → at + length s ≤ length d → l ≡ sets d at s
copied_all d s at j e ej h = e ∙ ap (paste d at s) ej ∙ ap (λ (r : List ℤ). take at d ++ r ++ drop (at + length s) d) (take-length s) ∙ sym (sets-eq s d at h)

-- a shape's count, and behind it its numbers
pub shape_stored : (l : List ℤ) (s : ℕ) (numbers : List ℤ) → length numbers ≤ Limits.shape_numbers
    → sets (set l (s * Limits.shape_cells) (to_z w32 (length numbers / 3))) (s * Limits.shape_cells + 1) numbers ≡ loaded_in l s numbers
shape_stored l s numbers h =
    let one : s * Limits.shape_cells + 1 ≡ suc (s * Limits.shape_cells) = omega arith in
    let count : to_z w32 (length numbers / 3) ≡ pos (length numbers / 3) = to_z_pos w32 (omega arith) in
    rw (one, count)

-- ---- what the corners alone are asked: 3 and 4 of a load's refusals
abbrev pub corner_refusals : List ℤ → List Rule
corner_refusals numbers =
    Limits.list_length when (LengthFits (length numbers) → ⊥)
    ∷ Limits.corner_range when (InReach Limits.shape_reach numbers → ⊥)
    ∷ []

abbrev pub CornersAsked : List ℤ → ℕ → Type 0
CornersAsked numbers n = Asked (corner_refusals numbers) (LengthFits (length numbers) × InReach Limits.shape_reach numbers) n

-- ---- what a load may go on with
pub record MayLoad (shapes : List ℤ) (shape : ℤ) (numbers : List ℤ) : Type 0 where
  pub numbered : Numbered Limits.shapes shape
  pub fits : LengthFits (length numbers)
  pub near : InReach Limits.shape_reach numbers
  pub free : Loaded (store_of shapes []) (nat_abs shape) → ⊥

abbrev pub LoadAsked : List ℤ → ℤ → List ℤ → ℕ → Type 0
LoadAsked shapes shape numbers n = Asked (new_shape_refusals (store_of shapes []) shape numbers) (MayLoad shapes shape numbers) n

new_whole : (d : Store) (shape : ℤ) (numbers : List ℤ) {n : ℕ} → Lowest (new_shape_refusals (store_of d.shapes []) shape numbers) n → Lowest (new_shape_refusals d shape numbers) n
new_whole d shape numbers (inl h) = inl h
new_whole d shape numbers (inr (f, inl h)) = inr (f, inl h)
new_whole d shape numbers (inr (f, inr (g, inl h))) = inr (f, inr (g, inl h))
new_whole d shape numbers (inr (f, inr (g, inr (h, inl (l, e))))) = inr (f, inr (g, inr (h, inl (loaded_alone refl refl l, e))))
new_whole d shape numbers (inr (f, inr (g, inr (h, inr (k, e))))) = inr (f, inr (g, inr (h, inr (λ l. k (loaded_alone refl refl l), e))))

module _ (d : Desk) (shape : ℤ) (numbers : List ℤ) {b : ℤ} (eb : b ≡ shape) (o : InOrder d) where
  load_asked : {n : ℕ} → LoadAsked d.store.shapes b numbers n → LoadAsked d.store.shapes shape numbers n
  load_asked {n} k = subst (λ (z : ℤ). LoadAsked d.store.shapes z numbers n) eb k

  load_lowest : {n : ℕ} → LoadAsked d.store.shapes b numbers n → Lowest (load_refusals d shape numbers) n
  load_lowest k = inr (λ f. f o, new_whole d.store shape numbers (load_asked k).refusal)

  pub load_refused : {r : Refusal} → LoadAsked d.store.shapes b numbers (number_of r) → Loads d shape numbers d (Err r)
  load_refused k = refuses (load_lowest k)

  module _ {s : ℕ} (k : LoadAsked d.store.shapes b numbers 0) (is : s ≡ nat_abs b) where
    load_given : MayLoad d.store.shapes shape numbers
    load_given = (load_asked k).given refl

    s-is : s ≡ nat_abs shape
    s-is = is ∙ ap nat_abs eb

    -- there is room for the shape where it is stored
    pub room_there : (s < Limits.shapes) × (length numbers ≤ Limits.shape_numbers)
    room_there = (subst (λ (j : ℕ). j < Limits.shapes) (sym s-is) load_given.numbered.below, let f = load_given.fits in omega (arith, f.is, f.most))

    pub loaded : Sized d.store → {shapes : List ℤ} → shapes ≡ loaded_in d.store.shapes s numbers
        → Loads d shape numbers (desk_of shapes d.store.places d.rows d.book d.marks) (Ok 0)
    loaded size {shapes} es =
        let whole : desk_of shapes d.store.places d.rows d.book d.marks ≡ loaded_at d (nat_abs shape) numbers = rw (es, s-is) in
        let g = load_given in
        accepts (load_lowest k)
        (whole, subst InOrder (sym whole) (load_order o size g.numbered.below (λ l. g.free (loaded_alone refl refl l)) g.fits g.near), refl)
