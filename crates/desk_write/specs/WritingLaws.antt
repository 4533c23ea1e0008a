-- Laws of writing a shape: its refusals rise, any two results are equal, how a result is drawn from what was put, and that a loaded shape of a desk in order
-- has a corner list. The definitions stand in Writing.
use Rattle.std.specs.Prelude.{ℕ, ◌≤◌, ◌<◌, ◌+◌, ◌-◌, ◌*◌, ◌≡◌, refl, List, [], ◌++◌, ℤ, pos, nat_abs, length, get_or, take, drop, Result, Ok, Err}
use Rattle.std.proofs.Common.{sym, ap, ◌∙◌, subst, inl, inr, ⊎_elim, arith, length-drop, ext_get_or, get_or-take, get_or-drop, length-take-le, to_z, of_z}
use Rattle.std.specs.Int.{w32}
use Rattle.std.proofs.Math.Decide.{ℕ_discrete}
use Rattle.ints.specs.Bounds.{Within}
use Rattle.ints.specs.Order.{lt-or-ge}
use Rattle.limits.specs.Limits
use Rattle.limits.specs.Numbered.{Numbered}
use Rattle.limits.specs.Lowest.{Rule, Lowest, Rising}
use Rattle.limits.specs.declared.Refusal.{Refusal}
use Rattle.limits.proofs.RefusalLaws.{number_once, number_some}
use Rattle.limits.proofs.LowestLaws.{positive, lowest_first, lowest_then, lowest_once}
use Rattle.space.specs.Lists.{LengthFits, InReach}
use Rattle.pieces.specs.Pieces.{Store, store_of, corners_of, shape_value, Loaded, ShapesInOrder}
use Rattle.pieces.specs.Store.{list_length_lem, list_at}
use Rattle.pieces.specs.IndexLaws.{cell_numbered}
use Rattle.desk_state.specs.Desk.{Desk, InOrder}
use Rattle.desk_refusals.specs.Parts.{shape_refusals}
use Rattle.desk_refusals.specs.Asked.{ShapeAsked, shape_whole}
use Rattle.text_put.specs.Print.{Put}
use Rattle.desk_write.specs.Writing.{Written, written_of, numbers_of_shape, shape_text, room_refusals, write_refusals, WrittenAs, Writes}

-- "the lowest number that applies is given" (document 01): the refusals of writing rise
pub writes_rise : (d : Desk) (shape : ℤ) (room : List ℕ) → Rising (write_refusals d shape room)
writes_rise d shape room = tt

-- ---- determinacy
pub written_once : {l : List Rule} {text room a b : List ℕ} {q r : Written} → WrittenAs l text room a q → WrittenAs l text room b r → (a ≡ b) × (q ≡ r)
written_once {l} {text} {room} {a} {b} {q} {r} x y = go (ℕ_discrete q.number Limits.done)
  where
    n : q.number ≡ r.number
    n = lowest_once l x.refusal y.refusal

    go : Dec (q.number ≡ Limits.done) → (a ≡ b) × (q ≡ r)
    go (yes z) =
        let c : q.count ≡ r.count = x.count z ∙ sym (y.count (sym n ∙ z)) in
        (x.written z ∙ sym (y.written (sym n ∙ z)), λ i. record { number = n i; count = c i })
    go (no f) =
        let g : r.number ≡ Limits.done → ⊥ = λ e. f (n ∙ e) in
        let c : q.count ≡ r.count = x.zeros f ∙ sym (y.zeros g) in
        (x.kept f ∙ sym (y.kept g), λ i. record { number = n i; count = c i })

-- an answer is the only one with its number and its count
written_is : (q r : Result ℕ Refusal) → written_of q ≡ written_of r → q ≡ r
written_is (Ok m) (Ok n) e = ap Ok (ap (λ (w : Written). w.count) e)
written_is (Ok m) (Err r) e = absurd (omega (arith, number_some r, ap (λ (w : Written). w.number) e))
written_is (Err q) (Ok n) e = absurd (omega (arith, number_some q, ap (λ (w : Written). w.number) e))
written_is (Err q) (Err r) e = ap Err (number_once q r (ap (λ (w : Written). w.number) e))

pub write_once : {l : List Rule} {text room a b : List ℕ} {q r : Result ℕ Refusal} → WrittenAs l text room a (written_of q) → WrittenAs l text room b (written_of r) → (a ≡ b) × (q ≡ r)
write_once {q = q} {r} x y = let e = written_once x y in (e.0, written_is q r e.1)

-- ---- what was put is what is written, or the room is too short
module _ {text room after : List ℕ} {q : ℕ} (some : 1 ≤ length text) (p : Put room 0 text after q) where
  short : length room < length text → q ≡ 0
  short h = (p.refused (omega arith)).1

  fits : length text ≤ length room → q ≡ length text
  fits h = omega (arith, (p.there (omega arith)).1)

  pub put_short : q ≡ 0 → WrittenAs (room_refusals text room) text room after (record { number = Limits.short_room; count = 0 })
  put_short e =
      let h : length room < length text = ⊎_elim (λ (h : length room < length text). h) (λ (h : length text ≤ length room). absurd (omega (arith, fits h))) (lt-or-ge (length room) (length text)) in
      record {
        refusal = inl (h, refl);
        written = λ z. absurd (omega arith);
        count = λ z. absurd (omega arith);
        kept = λ z. (p.refused (omega arith)).0;
        zeros = λ z. refl;
      }

  pub put_whole : (q ≡ 0 → ⊥) → WrittenAs (room_refusals text room) text room after (record { number = Limits.done; count = q })
  put_whole f =
      let h : length text ≤ length room = ⊎_elim (λ (h : length room < length text). absurd (f (short h))) (λ (h : length text ≤ length room). h) (lt-or-ge (length room) (length text)) in
      let e : 0 + length text ≡ length text = omega arith in
      record {
        refusal = inr ((λ k. omega arith), refl);
        written = λ z. (p.there (omega arith)).0 ∙ ap (λ (n : ℕ). text ++ drop n room) e;
        count = λ z. fits h;
        kept = λ g. absurd (g refl);
        zeros = λ g. absurd (g refl);
      }

-- ---- the command's own list
pub disorder_refused : {d : Desk} {shape : ℤ} {room : List ℕ} → (InOrder d → ⊥) → Writes d shape room room (record { number = Limits.disorder; count = 0 })
disorder_refused f = record { refusal = inl (f, refl); written = λ z. absurd (omega arith); count = λ z. absurd (omega arith); kept = λ z. refl; zeros = λ z. refl }

module _ (d : Desk) (shape : ℤ) (room : List ℕ) {b : ℤ} (eb : b ≡ shape) (o : InOrder d) (n : ℕ) (k : ShapeAsked d.store.shapes b n) where
  shape_asked : ShapeAsked d.store.shapes shape n
  shape_asked = subst (λ (z : ℤ). ShapeAsked d.store.shapes z n) eb k

  abbrev of_shape : List Rule
  of_shape = shape_refusals (store_of d.store.shapes []) shape

  abbrev of_room : List Rule
  of_room = room_refusals (shape_text d.store shape) room

  pub shape_refused : (n ≡ Limits.done → ⊥) → Writes d shape room room (record { number = n; count = 0 })
  shape_refused f = record {
    refusal = inr (λ g. g o, shape_whole d.store shape of_room (lowest_first of_shape of_room shape_asked.refusal (positive f)));
    written = λ z. absurd (f z);
    count = λ z. absurd (f z);
    kept = λ z. refl;
    zeros = λ z. refl;
  }

  pub shape_given : n ≡ Limits.done → Numbered Limits.shapes shape × Loaded (store_of d.store.shapes []) (nat_abs shape)
  shape_given e = shape_asked.given e

  pub shape_written : n ≡ Limits.done → {after : List ℕ} {r : Written}
      → WrittenAs (room_refusals (shape_text d.store shape) room) (shape_text d.store shape) room after r → Writes d shape room after r
  shape_written e {after} {r} w = record {
    refusal = inr (
      λ g. g o,
      shape_whole d.store shape of_room
          (lowest_then of_shape of_room r.number (omega arith, (omega arith, tt)) (subst (λ (m : ℕ). Lowest of_shape m) e shape_asked.refusal) w.refusal),
    );
    written = w.written;
    count = w.count;
    kept = w.kept;
    zeros = w.zeros;
  }

-- ---- the numbers of a loaded shape
-- they stand one after the other behind its count
pub numbers_are : (d : Store) (s : ℕ) → s * Limits.shape_cells + 1 + 3 * corners_of d s ≤ length d.shapes
    → take (3 * corners_of d s) (drop (s * Limits.shape_cells + 1) d.shapes) ≡ numbers_of_shape d s
numbers_are d s h =
    let n = 3 * corners_of d s in
    let at = s * Limits.shape_cells + 1 in
    let l : length (take n (drop at d.shapes)) ≡ n = length-take-le n (drop at d.shapes) (omega (arith, length-drop at d.shapes)) in
    ext_get_or (pos 0) (take n (drop at d.shapes)) (numbers_of_shape d s) (l ∙ sym (list_length_lem n (shape_value d s)))
    (λ i k. let m : i < n = omega (arith, l) in get_or-take n (drop at d.shapes) i (pos 0) m ∙ get_or-drop at d.shapes i (pos 0) ∙ sym (list_at n (shape_value d s) (pos 0) i m))

module _ {d : Store} {s : ℕ} (o : ShapesInOrder d) (l : Loaded d s) where
  pub few_corners : corners_of d s ≤ Limits.corners
  few_corners = omega (arith, (o.few s l.shape).below)

  pub numbers_fit : LengthFits (length (numbers_of_shape d s))
  numbers_fit = record { count = corners_of d s; least = omega (arith, l.some); most = few_corners; is = list_length_lem (3 * corners_of d s) (shape_value d s) }

  pub numbers_near : InReach Limits.shape_reach (numbers_of_shape d s)
  numbers_near = record {
    all = λ k h. let m : k < 3 * corners_of d s = omega (arith, list_length_lem (3 * corners_of d s) (shape_value d s)) in
        subst (Within Limits.shape_reach) (sym (list_at (3 * corners_of d s) (shape_value d s) (pos 0) k m)) (o.near s k l.shape m);
  }

-- the part of the shapes that is lent on holds the shape's numbers, as many as its count is read as
module _ {shapes : List ℤ} {s : ℕ} (o : ShapesInOrder (store_of shapes [])) (l : Loaded (store_of shapes []) s) where
  abbrev read : ℕ
  read = nat_abs (to_z w32 (of_z w32 (get_or shapes (s * Limits.shape_cells) (pos 0))))

  abbrev first : ℕ
  first = s * Limits.shape_cells + 1

  pub part_is : length shapes ≡ Limits.shapes_length → take (first + 3 * read - first) (drop first shapes) ≡ numbers_of_shape (store_of shapes []) s
  part_is h =
      let d = store_of shapes [] in
      let e : read ≡ corners_of d s = ap nat_abs (cell_numbered (omega arith) (o.few s l.shape)) in
      let n : first + 3 * read - first ≡ 3 * corners_of d s = omega (arith, e) in
      ap (λ (k : ℕ). take k (drop first shapes)) n ∙ numbers_are d s (omega (arith, h, few_corners o l, l.shape))
