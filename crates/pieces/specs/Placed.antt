-- A piece's numbers from the arrays that it is read from: what the functions between the arrays and the store promise.
-- With the pose of the store, they are the placed corners of Pieces.
use Rattle.std.specs.Prelude.{◌≡◌, List, [], ◌∷◌, ◌++◌, Bool, true, false, cond, ℕ, zero, suc, ◌+◌, ◌-◌, ◌*◌, ◌/◌, ◌%◌, ◌≤◌, ◌<◌, length, get_or, take, drop, set, replicate, ℤ, pos, nat_abs}
use Rattle.std.proofs.Common.{sym, ap, ap₂, ◌∙◌, arith, add-one, take-suc-set, drop-set-lt, drop-drop}
use Rattle.std.specs.Int.Signed.{lt_z}
use Rattle.ints.specs.Bounds.{Within}
use Rattle.limits.specs.Limits
use Rattle.limits.specs.Numbered.{Numbered}
use Rattle.turns.specs.Turns.{placed_at}
use Rattle.turns.specs.Range.{placed_within}
use Rattle.pieces.specs.declared.placed.Pose.{Pose}
use Rattle.pieces.specs.Pieces

-- coordinate `axis` of corner i
abbrev pub corner_number : List ℤ → Pose → ℕ → ℤ
corner_number shapes pose k = get_or shapes (pose.start + k) (pos 0)

abbrev pub offset_number : List ℤ → ℕ → ℕ → ℤ
offset_number places place axis = get_or places (Limits.place_cells * place + 2 + axis) (pos 0)

unfoldable pub number_at : List ℤ → List ℤ → Pose → ℕ → ℕ → ℕ → ℤ
number_at shapes places pose place i axis =
    placed_at pose.turn axis (corner_number shapes pose (3 * i)) (corner_number shapes pose (3 * i + 1)) (corner_number shapes pose (3 * i + 2)) (offset_number places place axis)

-- what is asked: a shape within the array, near, a turn, a near offset
pub record PoseFits (shapes places : List ℤ) (pose : Pose) (place : ℕ) : Type 0 where
  pub place< : place < Limits.places
  pub some : 1 ≤ pose.count
  pub few : pose.count ≤ Limits.corners
  pub inside : pose.start + Limits.shape_numbers ≤ Limits.shapes_length
  pub turn : pose.turn < Limits.turns
  pub near : (k : ℕ) → k < 3 * pose.count → Within Limits.shape_reach (corner_number shapes pose k)
  pub offset : (axis : ℕ) → axis < 3 → Within Limits.shape_reach (offset_number places place axis)

-- the piece's numbers in front of an array, and 0 after them
pub record NumbersOf (shapes places : List ℤ) (pose : Pose) (place : ℕ) (r : List ℤ) : Type 0 where
  pub is : take (3 * pose.count) r ≡ Pieces.list_to (3 * pose.count) (λ k. number_at shapes places pose place (k / 3) (k % 3))
  pub rest : drop (3 * pose.count) r ≡ replicate (Limits.shape_numbers - 3 * pose.count) (pos 0)

-- the pose of a place, and what reading it asks
abbrev pub pose_of : List ℤ → List ℤ → ℕ → Pose
pose_of shapes places place = record {
  start = (nat_abs (Pieces.held_in places place) - 1) * Limits.shape_cells + 1;
  count = nat_abs (Pieces.count_in shapes (nat_abs (Pieces.held_in places place) - 1));
  turn = nat_abs (Pieces.turn_in places place);
}

pub record PoseAsked (shapes places : List ℤ) (place : ℕ) : Type 0 where
  pub place< : place < Limits.places
  pub some : nat_abs (Pieces.held_in places place) ≡ 0 → ⊥
  pub shape : Numbered (Limits.shapes + 1) (Pieces.held_in places place)
  pub turn : Numbered Limits.turns (Pieces.turn_in places place)
  pub count : Numbered (Limits.corners + 1) (Pieces.count_in shapes (nat_abs (Pieces.held_in places place) - 1))

-- ---- one more of a list, of a least, of a greatest
pub list_more : {A : Type 0} (n : ℕ) (f : ℕ → A) → Pieces.list_to (n + 1) f ≡ Pieces.list_to n f ++ (f n ∷ [])
unfolding Pieces.list_to
list_more n f = ap (λ k. Pieces.list_to k f) (add-one n)

pub stored_more : (numbers : List ℤ) (n : ℕ) (f : ℕ → ℤ) (v : ℤ) → n < length numbers → take n numbers ≡ Pieces.list_to n f → v ≡ f n → take (n + 1) (set numbers n v) ≡ Pieces.list_to (n + 1) f
stored_more numbers n f v h e ev =
    ap (λ k. take k (set numbers n v)) (add-one n) ∙ take-suc-set numbers n v h ∙ ap₂ (λ l w. l ++ (w ∷ [])) e ev ∙ sym (list_more n f)

pub zeros_more : (numbers : List ℤ) (n m : ℕ) (v : ℤ) → n < m → drop n numbers ≡ replicate (m - n) (pos 0) → drop (n + 1) (set numbers n v) ≡ replicate (m - (n + 1)) (pos 0)
zeros_more numbers n m v h e =
    let s : m - n ≡ suc (m - (n + 1)) = omega arith in
    drop-set-lt (n + 1) numbers n v (omega arith) ∙ sym (drop-drop 1 n numbers) ∙ ap (drop 1) (e ∙ ap (λ (k : ℕ). replicate k (pos 0)) s)

pub least_more : (n : ℕ) (f : ℕ → ℤ) → 1 ≤ n → Pieces.least_to (n + 1) f ≡ Pieces.lesser (f n) (Pieces.least_to n f)
unfolding Pieces.least_to
least_more zero f h = absurd (omega arith)
least_more (suc n) f h = ap (λ k. Pieces.least_to k f) (add-one (suc n))

pub greatest_more : (n : ℕ) (f : ℕ → ℤ) → 1 ≤ n → Pieces.greatest_to (n + 1) f ≡ Pieces.greater (f n) (Pieces.greatest_to n f)
unfolding Pieces.greatest_to
greatest_more zero f h = absurd (omega arith)
greatest_more (suc n) f h = ap (λ k. Pieces.greatest_to k f) (add-one (suc n))

-- ---- a least and a greatest is one of them, so it is as near as they are
pub pick : {m : ℕ} (b : Bool) {u v : ℤ} → Within m u → Within m v → Within m (cond b u v)
pick true a c = a
pick false a c = c

pub least_within : {m : ℕ} (n : ℕ) (f : ℕ → ℤ) → 1 ≤ n → ((i : ℕ) → i < n → Within m (f i)) → Within m (Pieces.least_to n f)
unfolding Pieces.least_to
least_within zero f h w = absurd (omega arith)
least_within (suc zero) f h w = w 0 (omega arith)
least_within (suc (suc n)) f h w = pick (lt_z (f (suc n)) (Pieces.least_to (suc n) f)) (w (suc n) (omega arith)) (least_within (suc n) f (omega arith) (λ i k. w i (omega arith)))

pub greatest_within : {m : ℕ} (n : ℕ) (f : ℕ → ℤ) → 1 ≤ n → ((i : ℕ) → i < n → Within m (f i)) → Within m (Pieces.greatest_to n f)
unfolding Pieces.greatest_to
greatest_within zero f h w = absurd (omega arith)
greatest_within (suc zero) f h w = w 0 (omega arith)
greatest_within (suc (suc n)) f h w = pick (lt_z (Pieces.greatest_to (suc n) f) (f (suc n))) (w (suc n) (omega arith)) (greatest_within (suc n) f (omega arith) (λ i k. w i (omega arith)))

pub placed_eq : (turn axis : ℕ) {x x' y y' z z' o o' : ℤ} → x ≡ x' → y ≡ y' → z ≡ z' → o ≡ o' → placed_at turn axis x y z o ≡ placed_at turn axis x' y' z' o'
placed_eq turn axis ex ey ez eo = λ i. placed_at turn axis (ex i) (ey i) (ez i) (eo i)

-- every number of a piece is near
pub number_within : {shapes places : List ℤ} {pose : Pose} {place : ℕ} → PoseFits shapes places pose place → (i axis : ℕ) → i < pose.count → axis < 3
    → Within Limits.placed_reach (number_at shapes places pose place i axis)
unfolding number_at
number_within {pose} h i axis hi ha = placed_within pose.turn axis (h.near (3 * i) (omega arith)) (h.near (3 * i + 1) (omega arith)) (h.near (3 * i + 2) (omega arith)) (h.offset axis ha)

pub pose_eq : {s s' n n' t t' : ℕ} → s ≡ s' → n ≡ n' → t ≡ t' → ◌≡◌ {A = Pose} (record { start = s; count = n; turn = t }) (record { start = s'; count = n'; turn = t' })
pose_eq es en et = λ i. record { start = es i; count = en i; turn = et i }
