-- Laws of the order test of shapes and places: they are in order shape by shape and place by place.
-- Each takes what the code's tests say, in their order, to the definitions of Pieces.
use Rattle.std.specs.Prelude.{◌≡◌, List, [], Bool, not, ℕ, ◌+◌, ◌-◌, ◌*◌, ◌≤◌, ◌<◌, eqb, ℤ, pos, nat_abs, length, get_or, take, drop}
use Rattle.std.proofs.Common.{sym, ap, ◌∙◌, subst, arith, SFits, of_z, length-drop, get_or-take, get_or-drop, length-take-le}
use Rattle.std.proofs.Math.Nat.{add-sub_cancel_left}
use Rattle.std.specs.Int.{w32}
use Rattle.ints.specs.Bounds.{Within}
use Rattle.limits.specs.Limits
use Rattle.limits.specs.Numbered.{Numbered}
use Rattle.limits.specs.Decides.{Decides}
use Rattle.limits.specs.DecidesLaws.{decides_once}
use Rattle.space.specs.Lists.{InReach}
use Rattle.pieces.specs.IndexLaws.{some_decided}
use Rattle.pieces_box.specs.declared.boxes.ShapeBox.{ShapeBox}
use Rattle.pieces_box.specs.ShapeBox.{box_of, box_in, Boxed, NearBox}
use Rattle.pieces_box.specs.NearLaws.{near_box, box_near_lem}
use Rattle.pieces.specs.Pieces.{Store, store_of, count_in, corners_of, shape_value, held_in, turn_in, shape_at, Taken, Loaded, ShapesInOrder, PlaceInOrder, PlacesInOrder, PiecesInOrder}

-- ---- a part of a list of numbers

-- count numbers from start on are within the reach of shapes and offsets
pub record NearFrom (numbers : List ℤ) (start count : ℕ) : Type 0 where
  pub all : (k : ℕ) → k < count → Within Limits.shape_reach (get_or numbers (start + k) (pos 0))

module _ (numbers : List ℤ) (start count : ℕ) (fits : start + count ≤ length numbers) where
  part_length : length (take count (drop start numbers)) ≡ count
  part_length = length-take-le count (drop start numbers) (rw length-drop (omega arith))

  part_at : (k : ℕ) → k < count → get_or (take count (drop start numbers)) k (pos 0) ≡ get_or numbers (start + k) (pos 0)
  part_at k h = rw (get_or-take, get_or-drop)

  near_whole : {r : Bool} → Decides r (InReach Limits.shape_reach (take count (drop start numbers))) → Decides r (NearFrom numbers start count)
  near_whole d = record {
    yes = λ t. record { all = λ k h. subst (Within Limits.shape_reach) (part_at k h) ((d.yes t).all k (let e = part_length in omega arith)) };
    no = λ f n. d.no f (record { all = λ k h. let l : k < count = (let e = part_length in omega arith) in subst (Within Limits.shape_reach) (sym (part_at k l)) (n.all k l) });
  }

  -- the part as code cuts it out, from its start to its end
  pub near_part : {r : Bool} → Decides r (InReach Limits.shape_reach (take (start + count - start) (drop start numbers))) → Decides r (NearFrom numbers start count)
  near_part d = near_whole (rw add-sub_cancel_left at d)

-- ---- shapes

-- what is asked of one shape
pub record ShapeInOrder (d : Store) (s : ℕ) : Type 0 where
  pub few : Numbered (Limits.corners + 1) (count_in d.shapes s)
  pub near : (k : ℕ) → k < 3 * corners_of d s → Within Limits.shape_reach (shape_value d s k)

pub every_shape : {d : Store} → ((s : ℕ) → s < Limits.shapes → ShapeInOrder d s) → ShapesInOrder d
every_shape all = record { few = λ s h. (all s h).few; near = λ s k h. (all s h).near k }

pub one_shape : {d : Store} → ShapesInOrder d → (s : ℕ) → s < Limits.shapes → ShapeInOrder d s
one_shape o s h = record { few = o.few s h; near = λ k. o.near s k h }

-- a shape without corners is in order
pub shape_none : (d : Store) (s : ℕ) → Numbered (Limits.corners + 1) (count_in d.shapes s) → corners_of d s ≡ 0 → ShapeInOrder d s
shape_none d s few e = record { few = few; near = λ k h. absurd (omega arith) }

-- a shape that has few enough corners is in order where its box is near
pub shape_decided : {r : Bool} {boxes : List ShapeBox} (d : Store) (s : ℕ) → s < Limits.shapes → Boxed d.shapes boxes → Numbered (Limits.corners + 1) (count_in d.shapes s)
    → (corners_of d s ≡ 0 → ⊥) → Decides r (NearBox (box_in boxes s)) → Decides r (ShapeInOrder d s)
shape_decided {r} {boxes} d s h b few some n = record {
  yes = λ t. record { few = few; near = box_near_lem d.shapes s (corners_of d s) (subst NearBox is (n.yes t)) };
  no = λ f o. n.no f (subst NearBox (sym is) (near_box d.shapes s (corners_of d s) (omega (arith, some)) o.near));
}
  where
    is : box_in boxes s ≡ box_of d.shapes s
    is = b.is s h few some

-- the shapes do not ask what the places hold
pub shapes_alone : {shapes p q : List ℤ} → ShapesInOrder (store_of shapes p) → ShapesInOrder (store_of shapes q)
shapes_alone h = record { few = h.few; near = h.near }

-- ---- places

-- what is asked of one place, taken or not
pub record PlaceKept (d : Store) (p : ℕ) : Type 0 where
  pub kept : Taken d.places p → PlaceInOrder d p

-- what is asked of its turn and its offset
pub record PlacedInOrder (places : List ℤ) (p : ℕ) : Type 0 where
  pub turn : Numbered Limits.turns (turn_in places p)
  pub offset : (axis : ℕ) → axis < 3 → Within Limits.shape_reach (get_or places (Limits.place_cells * p + 2 + axis) (pos 0))

pub every_place : {d : Store} → ((p : ℕ) → p < Limits.places → PlaceKept d p) → PlacesInOrder d
every_place all = record { all = λ p t. (all p t.place).kept t }

pub one_place : {d : Store} → PlacesInOrder d → (p : ℕ) → PlaceKept d p
one_place o p = record { kept = o.all p }

pub kept_decided : {r : Bool} {d : Store} {p : ℕ} → Taken d.places p → Decides r (PlaceInOrder d p) → Decides r (PlaceKept d p)
kept_decided t i = record { yes = λ e. record { kept = λ _. i.yes e }; no = λ f k. i.no f (k.kept t) }

-- the test of a shape's number
pub loaded_decided : (shapes : List ℤ) (s : ℕ) → s < Limits.shapes → SFits w32 (count_in shapes s) → Decides (not (eqb (of_z w32 (count_in shapes s)) 0)) (Loaded (store_of shapes []) s)
loaded_decided shapes s h f =
    let d = some_decided (count_in shapes s) f in
    record { yes = λ t. record { shape = h; some = d.yes t }; no = λ t l. d.no t l.some }

-- whether a shape is loaded asks its count alone
pub loaded_alone : {d e : Store} {s t : ℕ} → count_in d.shapes s ≡ count_in e.shapes s → s ≡ t → Loaded d s → Loaded e t
loaded_alone {e} {s} c k h = subst (Loaded e) k (record { shape = h.shape; some = λ z. h.some (ap nat_abs c ∙ z) })

-- a place whose shape is loaded is in order where its turn and its offset are
pub place_decided : {r : Bool} (d : Store) (p : ℕ) → Numbered (Limits.shapes + 1) (held_in d.places p) → Loaded d (shape_at d p)
    → Decides r (PlacedInOrder d.places p) → Decides r (PlaceInOrder d p)
place_decided d p s l n = record {
  yes = λ e. record { shape = s; loaded = l; turn = (n.yes e).turn; offset = (n.yes e).offset };
  no = λ f o. n.no f (record { turn = o.turn; offset = o.offset });
}

pub placed_decided : {r : Bool} (places : List ℤ) (p : ℕ) → Numbered Limits.turns (turn_in places p) → Decides r (NearFrom places (Limits.place_cells * p + 2) 3) → Decides r (PlacedInOrder places p)
placed_decided places p t n = record {
  yes = λ e. record { turn = t; offset = (n.yes e).all };
  no = λ f o. n.no f (record { all = o.offset });
}

-- ---- both

pub pieces_decided : {r : Bool} {shapes places : List ℤ} → ShapesInOrder (store_of shapes []) → Decides r (PlacesInOrder (store_of shapes places)) → Decides r (PiecesInOrder (store_of shapes places))
pieces_decided s d = record {
  yes = λ t. record { shapes = shapes_alone s; places = d.yes t };
  no = λ f o. d.no f o.places;
}

-- two answers to the question are equal
pub order_once : {a b : Bool} {d : Store} → Decides a (PiecesInOrder d) → Decides b (PiecesInOrder d) → a ≡ b
order_once = decides_once
