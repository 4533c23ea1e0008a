-- A placing and a removal, from their tests to their records: what each part of the tests has asked, and how the parts make the command's own list.
-- A callee sees a signed number through its bits; each law is told that what was handed on is what was handed in.
use Rattle.std.specs.Prelude.{◌≡◌, refl, List, [], ◌++◌, ℕ, ◌<◌, ℤ, nat_abs, Ok, Err}
use Rattle.std.proofs.Common.{sym, ap, ◌∙◌, subst, inr, arith}
use Rattle.limits.specs.Limits
use Rattle.limits.specs.Lowest.{Rule, Lowest}
use Rattle.limits.specs.Refusals.{number_of}
use Rattle.limits.specs.declared.Refusal.{Refusal}
use Rattle.limits.proofs.LowestLaws.{lowest_first, lowest_then}
use Rattle.limits.proofs.RefusalLaws.{number_some}
use Rattle.pieces.specs.declared.placement.Placement.{Placement}
use Rattle.pieces.specs.Pieces.{Loaded, store_of}
use Rattle.pieces_test.specs.OrderTest.{loaded_alone}
use Rattle.desk_state.specs.Desk.{Desk, InOrder, OffsetFits}
use Rattle.desk_put.specs.Handled.{MayPut, PutDown, Emptied}
use Rattle.desk_put.specs.HandledLaws.{emptied_at_lem}
use Rattle.limits.specs.Numbered.{Numbered}
use Rattle.desk_refusals.specs.Parts.{shape_refusals, empty_refusals, taken_refusals, placement_refusals}
use Rattle.desk_refusals.specs.Asked.{Asked, asked_refused, shape_whole, ShapeAsked, EmptyAsked, TakenAsked, PlacementAsked}
use Rattle.desk.specs.Commands.{place_refusals, Places, Removed}
use Rattle.desk.specs.CommandLaws.{refuses, accepts}

-- ---- what a placing may go on with
pub record MayPlace (shapes : List ℤ) (place : ℤ) (q : Placement) : Type 0 where
  pub numbered : Numbered Limits.places place
  pub shaped : Numbered Limits.shapes q.shape
  pub loaded : Loaded (store_of shapes []) (nat_abs q.shape)
  pub turned : Numbered Limits.turns q.turn
  pub offset : OffsetFits q.x q.y q.z

abbrev pub PlaceAsked : List ℤ → List ℤ → ℤ → Placement → ℕ → Type 0
PlaceAsked shapes places place q n =
    Asked (shape_refusals (store_of shapes []) q.shape ++ (empty_refusals places place ++ placement_refusals q.turn q.x q.y q.z)) (MayPlace shapes place q) n

-- ---- a placing's numbers
module _ (shapes places : List ℤ) (place : ℤ) (q : Placement) {b : ℤ} (eb : b ≡ q.shape) where
  abbrev of_shape : List Rule
  of_shape = shape_refusals (store_of shapes []) q.shape

  abbrev of_place : List Rule
  of_place = empty_refusals places place

  abbrev of_rest : List Rule
  of_rest = placement_refusals q.turn q.x q.y q.z

  pub place_by_shape : (r : Refusal) → ShapeAsked shapes b (number_of r) → PlaceAsked shapes places place q (number_of r)
  place_by_shape r h =
      asked_refused (lowest_first of_shape (of_place ++ of_rest) (subst (λ (i : ℤ). ShapeAsked shapes i (number_of r)) eb h).refusal (number_some r)) (number_some r)

  module _ {a : ℤ} (ea : a ≡ place) (s : ShapeAsked shapes b 0) where
    shape_none : ShapeAsked shapes q.shape 0
    shape_none = subst (λ (i : ℤ). ShapeAsked shapes i 0) eb s

    after_shape : (n : ℕ) → Lowest (of_place ++ of_rest) n → Lowest (of_shape ++ (of_place ++ of_rest)) n
    after_shape n h = lowest_then of_shape (of_place ++ of_rest) n (omega arith, (omega arith, tt)) shape_none.refusal h

    pub place_by_place : (r : Refusal) → EmptyAsked places a (number_of r) → PlaceAsked shapes places place q (number_of r)
    place_by_place r h =
        asked_refused
        (after_shape (number_of r) (lowest_first of_place of_rest (subst (λ (i : ℤ). EmptyAsked places i (number_of r)) ea h).refusal (number_some r)))
        (number_some r)

    module _ (p : EmptyAsked places a 0) where
      place_none : EmptyAsked places place 0
      place_none = subst (λ (i : ℤ). EmptyAsked places i 0) ea p

      pub place_by_rest : (n : ℕ) → PlacementAsked q.turn q.x q.y q.z n → PlaceAsked shapes places place q n
      place_by_rest n r = record {
        refusal = after_shape n (lowest_then of_place of_rest n (omega arith, (omega arith, tt)) place_none.refusal r.refusal);
        given = λ e. record { numbered = place_none.given refl; shaped = (shape_none.given refl).0; loaded = (shape_none.given refl).1; turned = (r.given e).0; offset = (r.given e).1 };
      }

-- ---- a placing
module _ (d : Desk) (place : ℤ) (q : Placement) {a : ℤ} (ea : a ≡ place) (o : InOrder d) where
  place_asked : {n : ℕ} → PlaceAsked d.store.shapes d.store.places a q n → PlaceAsked d.store.shapes d.store.places place q n
  place_asked {n} k = subst (λ (i : ℤ). PlaceAsked d.store.shapes d.store.places i q n) ea k

  place_lowest : {n : ℕ} → PlaceAsked d.store.shapes d.store.places a q n → Lowest (place_refusals d place q) n
  place_lowest k = inr (λ f. f o, shape_whole d.store q.shape (empty_refusals d.store.places place ++ placement_refusals q.turn q.x q.y q.z) (place_asked k).refusal)

  pub place_refused : {r : Refusal} → PlaceAsked d.store.shapes d.store.places a q (number_of r) → Places d place q d (Err r)
  place_refused k = refuses (place_lowest k)

  module _ {i : ℕ} (k : PlaceAsked d.store.shapes d.store.places a q 0) (is : i ≡ nat_abs a) where
    place_given : MayPlace d.store.shapes place q
    place_given = (place_asked k).given refl

    i-is : i ≡ nat_abs place
    i-is = is ∙ ap nat_abs ea

    pub may_place : MayPut d i q
    may_place = record {
      order = o;
      place = subst (λ (j : ℕ). j < Limits.places) (sym i-is) place_given.numbered.below;
      shape = place_given.shaped;
      loaded = loaded_alone refl refl place_given.loaded;
      turn = place_given.turned;
      offset = place_given.offset;
    }

    pub placed : {after : Desk} → PutDown d i q after → Places d place q after (Ok 0)
    placed {after} p = accepts (place_lowest k) (subst (λ (j : ℕ). PutDown d j q after) i-is p, refl)

-- ---- a removal
module _ (d : Desk) (place : ℤ) {a : ℤ} (ea : a ≡ place) (o : InOrder d) where
  remove_asked : {n : ℕ} → TakenAsked d.store.places a n → TakenAsked d.store.places place n
  remove_asked {n} k = subst (λ (i : ℤ). TakenAsked d.store.places i n) ea k

  pub remove_refused : {r : Refusal} → TakenAsked d.store.places a (number_of r) → Removed d place d (Err r)
  remove_refused k = refuses (inr (λ f. f o, (remove_asked k).refusal))

  module _ {i : ℕ} (k : TakenAsked d.store.places a 0) (is : i ≡ nat_abs a) where
    from_is : i ≡ nat_abs place
    from_is = is ∙ ap nat_abs ea

    pub may_remove : InOrder d × (i < Limits.places)
    may_remove = (o, subst (λ (j : ℕ). j < Limits.places) (sym from_is) ((remove_asked k).given refl).0.below)

    pub removed : {after : Desk} → Emptied d i after → Removed d place after (Ok 0)
    removed {after} p = accepts (inr (λ f. f o, (remove_asked k).refusal)) (emptied_at_lem from_is p, refl)
