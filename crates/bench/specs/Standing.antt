-- What putting a piece makes a place hold; and stores that hold two pieces, so that the table speaks of desks that there are.
-- Two shapes are loaded on a desk that was started afresh, and each is put at a place.
use Rattle.std.specs.Prelude.{◌≡◌, refl, List, [], ℕ, ◌+◌, ◌-◌, ◌*◌, ◌<◌, length, get_or, ℤ, pos, nat_abs, ◌+ℤ◌}
use Rattle.std.proofs.Common.{sym, ap, ◌∙◌, arith}
use Rattle.limits.specs.Limits
use Rattle.space.specs.Lists.{LengthFits, InReach}
use Rattle.pieces.specs.Pieces.{Store, Sized, Loaded, count_in}
use Rattle.pieces.specs.Store.{SameAt}
use Rattle.desk_state.specs.Desk.{Desk, put_at, loaded_at}
use Rattle.desk_put.specs.PutLaws.{put_same, put_shape_lem, put_turn, put_x, put_y, put_z}
use Rattle.desk_load.specs.LoadLaws.{load_order}
use Rattle.desk.specs.Commands.{fresh_desk}
use Rattle.runs.specs.Log.{free, Plan, with_at}
use Rattle.runs.specs.Reached.{ShapeIs}
use Rattle.runs.specs.Standing.{Standing, fresh_standing, load_standing, put_sized}
use Rattle.bench.specs.Table.{Holds, upright}

-- ---- what a place holds
pub holds_same : {d e : Store} {p : ℕ} {shape : List ℤ} {x y z : ℕ} → SameAt d e p → Holds d p shape x y z → Holds e p shape x y z
holds_same {d} {e} {p} s h = record {
  taken = record { place = h.taken.place; holds = λ k. h.taken.holds (ap nat_abs s.shape ∙ k) };
  count = ap (λ n. 3 * n) (sym s.count) ∙ h.count;
  corners = λ k l. let n = h.count in sym (s.numbers k (omega arith)) ∙ h.corners k l;
  turn = ap nat_abs (sym s.turn) ∙ h.turn;
  offset_x = sym (s.offset 0 (omega arith)) ∙ h.offset_x;
  offset_y = sym (s.offset 1 (omega arith)) ∙ h.offset_y;
  offset_z = sym (s.offset 2 (omega arith)) ∙ h.offset_z;
}

-- a place's shape is written as its number plus one, which is `cell`
pub put_holds : {d : Store} {p : ℕ} (s : ℤ) {cell : ℤ} {shape : List ℤ} {x y z : ℕ} → Sized d → p < Limits.places → s +ℤ pos 1 ≡ cell → (nat_abs cell ≡ 0 → ⊥) → ShapeIs d (nat_abs cell - 1) shape
    → Holds (put_at d p (upright s x y z)) p shape x y z
put_holds {d} {p} s {x} {y} {z} size l is f c =
    let q = upright s x y z in
    let e = put_shape_lem d p q size l ∙ is in
    record {
      taken = record { place = l; holds = λ k. f (ap nat_abs (sym e) ∙ k) };
      count = ap (λ (v : ℤ). 3 * nat_abs (count_in d.shapes (nat_abs v - 1))) e ∙ c.count;
      corners = λ k h. ap (λ (v : ℤ). get_or d.shapes ((nat_abs v - 1) * Limits.shape_cells + 1 + k) (pos 0)) e ∙ c.each k h;
      turn = ap nat_abs (put_turn d p q size l);
      offset_x = put_x d p q size l;
      offset_y = put_y d p q size l;
      offset_z = put_z d p q size l;
    }

-- ---- shapes that may be loaded, and a shape more
pub record Loadable (numbers : List ℤ) : Type 0 where
  pub fits : LengthFits (length numbers)
  pub near : InReach Limits.shape_reach numbers

load_more : {d : Desk} {plan : Plan} (s : ℕ) (numbers : List ℤ) → Standing d plan → s < Limits.shapes → plan.shape s ≡ [] → Loadable numbers
    → Standing (loaded_at d s numbers) (record { shape = with_at plan.shape s numbers; place = plan.place; gap = plan.gap })
load_more {d} s numbers old h none w =
    let new : Loaded d.store s → ⊥ = λ l. l.some (let c = (old.holds.shapes s h).count in let e = ap length none in omega arith) in
    let is = w.fits.is in
    let most = w.fits.most in
    load_standing s numbers old h new (omega arith) (omega arith) (load_order old.order old.size h new w.fits w.near)

-- ---- two shapes are loaded, and put at places 0 and 1
module _ (first second : List ℤ) (f : Loadable first) (g : Loadable second) where
  abbrev loaded : Desk
  loaded = loaded_at (loaded_at fresh_desk 0 first) 1 second

  loaded_stands : Standing loaded (record { shape = with_at (with_at (λ _. []) 0 first) 1 second; place = λ _. free; gap = 0 })
  loaded_stands = load_more 1 second (load_more 0 first fresh_standing (omega arith) refl f) (omega arith) refl g

  -- the first at 0
  pub two_stand : (x y z : ℕ) → (d : Store) × Sized d × Holds d 0 first 0 0 0 × Holds d 1 second x y z
  two_stand x y z =
      let start = loaded.store in
      let one = put_at start 0 (upright (pos 0) 0 0 0) in
      let size : Sized one = put_sized 0 (upright (pos 0) 0 0 0) loaded_stands.size in
      let of_first : Holds one 0 first 0 0 0 = put_holds (pos 0) loaded_stands.size (omega arith) refl (λ e. omega arith) (loaded_stands.holds.shapes 0 (omega arith)) in
      let of_second = loaded_stands.holds.shapes 1 (omega arith) in (
        put_at one 1 (upright (pos 1) x y z),
        put_sized 1 (upright (pos 1) x y z) size,
        holds_same (put_same one 1 (upright (pos 1) x y z) 0 (λ e. omega arith)) of_first,
        put_holds (pos 1) size (omega arith) refl (λ e. omega arith) (record { count = of_second.count; each = of_second.each }),
      )
