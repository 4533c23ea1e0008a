-- A move's count depends on which places are taken and on the ends of their pieces, and on nothing else.
-- So the count of a desk is that of any axes that agree with the desk's: a plan's, or a table's.
use Rattle.std.specs.Prelude.{◌≡◌, refl, Bool, ◌&&◌, eqb, ℤ}
use Rattle.std.proofs.Math.Path.{sym, ap, ap₂}
use Rattle.std.proofs.Common.{◌∙◌, arith}
use Rattle.std.proofs.Math.Bool.{true, false, cond, not}
use Rattle.std.specs.Bool.{xor}
use Prim.Native.Nat.{ℕ, ◌+◌, ◌<◌}
use Rattle.std.proofs.Math.Dec.{ltb}
use Rattle.std.specs.Int.Signed.{lt_z}
use Rattle.limits.specs.Limits
use Rattle.marks.specs.Marks.{Axis, Axes, axis_of, mark_place, side_of, low_mark, high_mark, mark_value, earlier, crossed, is_other, changed, changed_marks, Agree}
use Rattle.ints.specs.Counts.{one_if, sum_same, and-false}

value_same : {a b : Axis} → Agree a b → (m : ℕ) → m < Limits.axis_marks → a.taken (mark_place m) ≡ true → mark_value a m ≡ mark_value b m
value_same {a} {b} g m l t = ap₂ (λ (u v : ℤ). cond (eqb (side_of m) 0) u v) (g.low (mark_place m) (omega arith) t) (g.high (mark_place m) (omega arith) t)

earlier_same : {a b : Axis} → Agree a b → (m n : ℕ) → m < Limits.axis_marks → n < Limits.axis_marks → a.taken (mark_place m) ≡ true → a.taken (mark_place n) ≡ true → earlier a m n ≡ earlier b m n
unfolding earlier
earlier_same {a} {b} g m n hm hn tm tn =
    ap₂ (λ (u v : ℤ). cond (lt_z u v) true (cond (lt_z v u) false (cond (ltb (side_of m) (side_of n)) true (cond (ltb (side_of n) (side_of m)) false (ltb (mark_place m) (mark_place n))))))
    (value_same g m hm tm) (value_same g n hn tn)

module _ {old new old' new' : Axis} (place : ℕ) (hp : place < Limits.places) (o : Agree old old') (n : Agree new new')
    (stay : (p : ℕ) → p < Limits.places → old.taken p ≡ new.taken p) (here : old.taken place ≡ true) where
  crossed_same : (own other : ℕ) → own < Limits.axis_marks → mark_place own ≡ place → other < Limits.axis_marks → old.taken (mark_place other) ≡ true
      → crossed old new own other ≡ crossed old' new' own other
  crossed_same own other h e k t =
      let s : old.taken (mark_place own) ≡ true = ap old.taken e ∙ here in
      ap₂ (λ (u v : Bool). one_if (xor u v))
      (earlier_same o own other h k s t)
      (earlier_same n own other h k (sym (stay (mark_place own) (omega arith)) ∙ s) (sym (stay (mark_place other) (omega arith)) ∙ t))

  changed_same : changed old new place ≡ changed old' new' place
  unfolding changed
  changed_same = sum_same Limits.axis_marks _ _ (λ other k. each other k (old.taken (mark_place other)) refl)
    where
      each : (other : ℕ) → other < Limits.axis_marks → (b : Bool) → old.taken (mark_place other) ≡ b
          → cond (is_other old place other) (crossed old new (low_mark place) other + crossed old new (high_mark place) other) 0
          ≡ cond (is_other old' place other) (crossed old' new' (low_mark place) other + crossed old' new' (high_mark place) other) 0
      each other k true t =
          ap₂ (λ (c : Bool) (v : ℕ). cond ((ltb other Limits.axis_marks && c) && not (eqb (mark_place other) place)) v 0)
          (o.taken (mark_place other) (omega arith))
          (ap₂ ◌+◌ (crossed_same (low_mark place) other (omega arith) (omega arith) k t) (crossed_same (high_mark place) other (omega arith) (omega arith) k t))
      each other k false t =
          none old (crossed old new (low_mark place) other + crossed old new (high_mark place) other) t
          ∙ sym (none old' (crossed old' new' (low_mark place) other + crossed old' new' (high_mark place) other) (sym (o.taken (mark_place other) (omega arith)) ∙ t))
        where
          none : (a : Axis) (v : ℕ) → a.taken (mark_place other) ≡ false → cond (is_other a place other) v 0 ≡ 0
          none a v f = ap (λ (c : Bool). cond (c && not (eqb (mark_place other) place)) v 0) (ap (λ (c : Bool). ltb other Limits.axis_marks && c) f ∙ and-false (ltb other Limits.axis_marks))

-- over the three axes
pub count_same : {old new old' new' : Axes} (place : ℕ) → place < Limits.places → ((axis : ℕ) → axis < 3 → Agree (axis_of old axis) (axis_of old' axis))
    → ((axis : ℕ) → axis < 3 → Agree (axis_of new axis) (axis_of new' axis))
    → ((p : ℕ) → p < Limits.places → old.taken p ≡ new.taken p) → old.taken place ≡ true → changed_marks old new place ≡ changed_marks old' new' place
count_same {old} {new} {old'} {new'} place h o n stay here = ap₂ ◌+◌ (ap₂ ◌+◌ (on 0 (omega arith)) (on 1 (omega arith))) (on 2 (omega arith))
  where
    on : (axis : ℕ) → axis < 3 → changed (axis_of old axis) (axis_of new axis) place ≡ changed (axis_of old' axis) (axis_of new' axis) place
    on axis l = changed_same place h (o axis l) (n axis l) stay here
