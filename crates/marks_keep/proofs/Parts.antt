-- Three parts of one buffer, lent on one after the other: the buffer afterwards is the three results, one after the other.
-- Holds for whatever is done to each part, if it keeps the length.
use mathlib.Core.Path.{◌≡◌, ap, sym, ◌∙◌, subst}
use mathlib.Core.List.{List, ◌++◌, append_assoc, append-nil}
use Prim.Native.Nat.{ℕ, ◌*◌}
use native.Mathlib.Omega.{arith}
use lib.ListN.{length, take, drop, length-append, length-drop, drop_of_length-le}
use lib.Seq.{take_at, drop_at, drop-drop, take_all, length-take-le}
use Rattle.limits.specs.Limits
use Rattle.marks.specs.declared.MarkKeys.{MarkKeys}
use Rattle.marks.specs.Marks.{axis_of, part_x, part_y, part_z}
use Rattle.marks.specs.Promises.{Reordered, ReorderedMarks}

module _ (m a b c : List ℕ) (hm : length m ≡ Limits.marks) (la : length a ≡ Limits.axis_marks) (lb : length b ≡ Limits.axis_marks) (lc : length c ≡ Limits.axis_marks) where
  abbrev one : List ℕ
  one = a ++ drop Limits.axis_marks m

  abbrev two : List ℕ
  two = take Limits.axis_marks one ++ (b ++ drop Limits.axis_marks (drop Limits.axis_marks one))

  abbrev three : List ℕ
  three = take (2 * Limits.axis_marks) two ++ (c ++ drop Limits.axis_marks (drop (2 * Limits.axis_marks) two))

  one_rest : drop Limits.axis_marks one ≡ drop Limits.axis_marks m
  one_rest = drop_at a (drop Limits.axis_marks m) Limits.axis_marks la

  second_was : take Limits.axis_marks (drop Limits.axis_marks one) ≡ take Limits.axis_marks (drop Limits.axis_marks m)
  second_was = ap (take Limits.axis_marks) one_rest

  two_is : two ≡ (a ++ b) ++ drop (2 * Limits.axis_marks) m
  two_is =
      ap (λ (l : List ℕ). l ++ (b ++ drop Limits.axis_marks (drop Limits.axis_marks one))) (take_at a (drop Limits.axis_marks m) Limits.axis_marks la)
      ∙ ap (λ (l : List ℕ). a ++ (b ++ drop Limits.axis_marks l)) one_rest
      ∙ ap (λ (l : List ℕ). a ++ (b ++ l)) (drop-drop Limits.axis_marks Limits.axis_marks m)
      ∙ sym (append_assoc a b (drop (2 * Limits.axis_marks) m))

  lab : length (a ++ b) ≡ 2 * Limits.axis_marks
  lab = omega (arith, length-append a b)

  two_rest : drop (2 * Limits.axis_marks) two ≡ drop (2 * Limits.axis_marks) m
  two_rest = ap (drop (2 * Limits.axis_marks)) two_is ∙ drop_at (a ++ b) (drop (2 * Limits.axis_marks) m) (2 * Limits.axis_marks) lab

  third_was : take Limits.axis_marks (drop (2 * Limits.axis_marks) two) ≡ take Limits.axis_marks (drop (2 * Limits.axis_marks) m)
  third_was = ap (take Limits.axis_marks) two_rest

  three_is : three ≡ a ++ (b ++ c)
  three_is =
      ap (λ (l : List ℕ). l ++ (c ++ drop Limits.axis_marks (drop (2 * Limits.axis_marks) two)))
      (ap (take (2 * Limits.axis_marks)) two_is ∙ take_at (a ++ b) (drop (2 * Limits.axis_marks) m) (2 * Limits.axis_marks) lab)
      ∙ ap (λ (l : List ℕ). (a ++ b) ++ (c ++ drop Limits.axis_marks l)) two_rest
      ∙ ap (λ (l : List ℕ). (a ++ b) ++ (c ++ l)) (drop_of_length-le (drop (2 * Limits.axis_marks) m) {i = Limits.axis_marks} (omega (arith, length-drop (2 * Limits.axis_marks) m)))
      ∙ ap (λ (l : List ℕ). (a ++ b) ++ l) (append-nil c)
      ∙ append_assoc a b c

  first_now : take Limits.axis_marks three ≡ a
  first_now = ap (take Limits.axis_marks) three_is ∙ take_at a (b ++ c) Limits.axis_marks la

  three_rest : drop Limits.axis_marks three ≡ b ++ c
  three_rest = ap (drop Limits.axis_marks) three_is ∙ drop_at a (b ++ c) Limits.axis_marks la

  second_now : take Limits.axis_marks (drop Limits.axis_marks three) ≡ b
  second_now = ap (take Limits.axis_marks) three_rest ∙ take_at b c Limits.axis_marks lb

  third_now : take Limits.axis_marks (drop (2 * Limits.axis_marks) three) ≡ c
  third_now =
      ap (take Limits.axis_marks) (sym (drop-drop Limits.axis_marks Limits.axis_marks three) ∙ ap (drop Limits.axis_marks) three_rest ∙ drop_at b c Limits.axis_marks lb) ∙ take_all Limits.axis_marks c
      (omega arith)

-- whatever each part has to do with what it was, so has the buffer's
module _ (R S T : List ℕ → List ℕ → Type 0) (m a b c : List ℕ) (hm : length m ≡ Limits.marks) where
  pub three_lent : R (take Limits.axis_marks m) a → length a ≡ length (take Limits.axis_marks m)
      → S (take Limits.axis_marks (drop Limits.axis_marks (a ++ drop Limits.axis_marks m))) b → length b ≡ length (take Limits.axis_marks (drop Limits.axis_marks (a ++ drop Limits.axis_marks m)))
      → (let one' = a ++ drop Limits.axis_marks m in let two' = take Limits.axis_marks one' ++ (b ++ drop Limits.axis_marks (drop Limits.axis_marks one')) in
      T (take Limits.axis_marks (drop (2 * Limits.axis_marks) two')) c → length c ≡ length (take Limits.axis_marks (drop (2 * Limits.axis_marks) two'))
      → let m' = take (2 * Limits.axis_marks) two' ++ (c ++ drop Limits.axis_marks (drop (2 * Limits.axis_marks) two')) in
      (length m' ≡ Limits.marks) × R (part_x m) (part_x m') × S (part_y m) (part_y m') × T (part_z m) (part_z m'))
  three_lent ra ka sb kb tc kc =
      let la : length a ≡ Limits.axis_marks = ka ∙ length-take-le Limits.axis_marks m (omega arith) in
      let lb : length b ≡ Limits.axis_marks = kb ∙ ap (λ (l : List ℕ). length (take Limits.axis_marks l)) (drop_at a (drop Limits.axis_marks m) Limits.axis_marks la) ∙ length-take-le Limits.axis_marks
      (drop Limits.axis_marks m) (omega (arith, length-drop Limits.axis_marks m)) in
      let lc : length c ≡ Limits.axis_marks = kc ∙ ap length (third_was m a b b hm la lb lb) ∙ length-take-le Limits.axis_marks (drop (2 * Limits.axis_marks) m)
      (omega (arith, length-drop (2 * Limits.axis_marks) m)) in (
        ap length (three_is m a b c hm la lb lc) ∙ omega (arith, length-append a (b ++ c), length-append b c),
        subst (R (part_x m)) (sym (first_now m a b c hm la lb lc)) ra,
        subst (S (part_y m)) (sym (second_now m a b c hm la lb lc)) (subst (λ (l : List ℕ). S l b) (second_was m a b c hm la lb lc) sb),
        subst (T (part_z m)) (sym (third_now m a b c hm la lb lc)) (subst (λ (l : List ℕ). T l c) (third_was m a b c hm la lb lc) tc),
      )

-- each part reordered: the buffer is
pub all_reordered : {place : ℕ} {kx ky kz : MarkKeys} {x y z x' y' z' m m' : List ℕ} → (length m' ≡ Limits.marks) × Reordered place kx x x' (part_x m) (part_x m')
    × Reordered place ky y y' (part_y m) (part_y m') × Reordered place kz z z' (part_z m) (part_z m') → ReorderedMarks place kx ky kz x y z x' y' z' m m'
all_reordered e = record {
  put_x = e.1.put;
  put_y = e.2.put;
  put_z = e.3.put;
  stays = λ old new ko kn p. record {
    long = e.0;
    on_x_lem = e.1.stays (axis_of old 0) (axis_of new 0) ko.on_x_lem kn.on_x_lem p.on_x_lem;
    on_y_lem = e.2.stays (axis_of old 1) (axis_of new 1) ko.on_y_lem kn.on_y_lem p.on_y_lem;
    on_z_lem = e.3.stays (axis_of old 2) (axis_of new 2) ko.on_z_lem kn.on_z_lem p.on_z_lem;
  };
}
