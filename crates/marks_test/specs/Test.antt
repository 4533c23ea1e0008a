-- Laws of the order test of one part: for the keys of an axis it passes exactly where the part is in place.
-- And what each way through the test tells.
use Rattle.std.specs.Prelude.{◌≡◌, Bool, false, ◌&&◌, eqb, leb, length, take, drop}
use Rattle.std.proofs.Math.Path.{refl, ap, sym, subst}
use Rattle.std.proofs.Common.{◌∙◌, take-append-drop, length-take-le}
use Rattle.std.proofs.Math.Logic.{inl, inr}
use mathlib.Core.List.{List, [], ◌∷◌, ◌++◌}
use Rattle.std.proofs.Math.Bool.{true}
use Rattle.std.proofs.lemmas.Bool.{false≢true}
use Prim.Native.Nat.{ℕ, zero, suc, ◌+◌, ◌≤◌, ◌<◌}
use native.Mathlib.Omega.{arith}
use borrow.Author.Tests.{eq-eqb, ne_eqb, eqb-true, le-leb, leb-true, lt-ltb, ltb-true}
use Rattle.std.proofs.Math.Dec.{ltb}
use Rattle.limits.specs.Limits
use Rattle.marks.specs.Marks.{Axis, InPlace, part_x, part_y, part_z, axis_of}
use Rattle.ints.specs.Counts.{one_if, sum_to, count_of, hit, hit_self, and-true, one_if≤, one_if_true, count-append, sum_one, sum_same, sum_count, sum_squeeze}
use Rattle.ints.specs.Order.{lt-or-ge}
use Rattle.marks.specs.Keys.{no_key, key_at, Keyed, key_of}
use Rattle.marks.specs.Rising.{rises, up_head, up_make, up_none}
use Rattle.marks.specs.Sorted.{Fine, own_key, Sorted, keyed, keyed_low, top_key, counted}
use Rattle.marks.proofs.Order.{fine, keys_are}
use Rattle.marks.proofs.Cells.{in_place, sorted}
use Rattle.marks_test.specs.Tested.{climbs, blank, marks_in, part_passes, marks_pass, Tested, TestedMarks}

pub marks_most : (e : ℕ → ℕ) → marks_in e ≤ Limits.axis_marks
unfolding marks_in
marks_most e = sum_one Limits.axis_marks (λ q. one_if (keyed e q)) (λ q _. one_if≤ (keyed e q))

blank_none : (v : ℕ) (xs : List ℕ) → blank xs ≡ true → (v ≡ Limits.no_mark → ⊥) → count_of v xs ≡ 0
unfolding blank count_of
blank_none v [] b n = refl
blank_none v (x ∷ xs) b n =
    let p = and-true (eqb x Limits.no_mark) (blank xs) b in
    elim (hit x v) [
      | inl y ↦ absurd (n (sym y.0 ∙ eqb-true x Limits.no_mark p.0))
      | inr m ↦ omega (arith, m.1, blank_none v xs p.1 n)
    ]

blank_all : (xs : List ℕ) → blank xs ≡ true → count_of Limits.no_mark xs ≡ length xs
unfolding blank count_of
blank_all [] b = refl
blank_all (x ∷ xs) b =
    let p = and-true (eqb x Limits.no_mark) (blank xs) b in
    omega (arith, ap one_if p.0, blank_all xs p.1)

blank_up : (e : ℕ → ℕ) (k : ℕ) (xs : List ℕ) → k ≤ e Limits.no_mark → blank xs ≡ true → rises e k xs ≡ true
unfolding blank
blank_up e k [] l b = up_none e k
blank_up e k (x ∷ xs) l b =
    let p = and-true (eqb x Limits.no_mark) (blank xs) b in
    let q = ap e (eqb-true x Limits.no_mark p.0) in
    up_make e k x xs (omega arith) (blank_up e (e x) xs (omega arith) p.1)

module _ (e : ℕ → ℕ) (f : Fine e) where
  head : (k x : ℕ) (xs : List ℕ) → climbs e k (x ∷ xs) ≡ true → (k ≤ e x) × (e x < no_key) × (climbs e (suc (e x)) xs ≡ true)
  unfolding climbs
  head k x xs c =
      let p = and-true (leb k (e x) && ltb (e x) no_key) (climbs e (suc (e x)) xs) c in
      let q = and-true (leb k (e x)) (ltb (e x) no_key) p.0 in
      (leb-true k (e x) q.0, ltb-true (e x) no_key q.1, p.1)

  make : (k x : ℕ) (xs : List ℕ) → k ≤ e x → e x < no_key → climbs e (suc (e x)) xs ≡ true → climbs e k (x ∷ xs) ≡ true
  unfolding climbs
  make k x xs l m c = ap (λ (b : Bool). (b && ltb (e x) no_key) && climbs e (suc (e x)) xs) (le-leb k (e x) l) ∙ ap (λ (b : Bool). b && climbs e (suc (e x)) xs) (lt-ltb (e x) no_key m) ∙ c

  climbs_has : (k v : ℕ) (xs : List ℕ) → climbs e k xs ≡ true → 1 ≤ count_of v xs → (k ≤ e v) × (e v < no_key)
  unfolding count_of
  climbs_has k v [] c h = absurd (omega arith)
  climbs_has k v (x ∷ xs) c h =
      let p = head k x xs c in
      elim (hit x v) [
        | inl y ↦ subst (λ (z : ℕ). (k ≤ e z) × (e z < no_key)) y.0 (p.0, p.1)
        | inr n ↦ let q = climbs_has (suc (e x)) v xs p.2 (omega arith) in (omega (arith, p.0, q.0), q.1)
      ]

  climbs_once : (k v : ℕ) (xs : List ℕ) → climbs e k xs ≡ true → count_of v xs ≤ 1
  unfolding count_of
  climbs_once k v [] c = omega arith
  climbs_once k v (x ∷ xs) c =
      let p = head k x xs c in
      elim (hit x v) [
        | inl y ↦
            elim (lt-or-ge 0 (count_of v xs)) [
              | inl h ↦ absurd (omega (arith, (climbs_has (suc (e x)) v xs p.2 h).0, ap e y.0))
              | inr h ↦ omega (arith, y.1)
            ]
        | inr n ↦ omega (arith, n.1, climbs_once (suc (e x)) v xs p.2)
      ]

  climbs_up : (k : ℕ) (xs ys : List ℕ) → k ≤ no_key → climbs e k xs ≡ true → blank ys ≡ true → rises e k (xs ++ ys) ≡ true
  climbs_up k [] ys l c b = blank_up e k ys (omega (arith, top_key e f)) b
  climbs_up k (x ∷ xs) ys l c b =
      let p = head k x xs c in
      up_make e k x (xs ++ ys) p.0 (lower (xs ++ ys) (climbs_up (suc (e x)) xs ys (omega (arith, p.1)) p.2 b))
    where
      lower : (zs : List ℕ) → rises e (suc (e x)) zs ≡ true → rises e (e x) zs ≡ true
      lower [] r = up_none e (e x)
      lower (z ∷ zs) r = let p = up_head e (suc (e x)) z zs r in up_make e (e x) z zs (omega (arith, p.0)) p.1

  -- where the test passes the part is sorted
  pub passes : (xs : List ℕ) → length xs ≡ Limits.axis_marks → climbs e 0 (take (marks_in e) xs) ≡ true → blank (drop (marks_in e) xs) ≡ true → Sorted e (keyed e) xs
  passes xs l c b = record { long = l; once = counts; rising = subst (λ (z : List ℕ). rises e 0 z ≡ true) (take-append-drop (marks_in e) xs) (climbs_up 0 ys zs (omega arith) c b) }
    where
      ys : List ℕ
      ys = take (marks_in e) xs

      zs : List ℕ
      zs = drop (marks_in e) xs

      few : (q : ℕ) → count_of q ys ≤ one_if (keyed e q)
      few q =
          elim (lt-or-ge 0 (count_of q ys)) [
            | inl h ↦ omega (arith, climbs_once 0 q ys c, ap one_if (lt-ltb (e q) no_key (climbs_has 0 q ys c h).1))
            | inr h ↦ omega arith
          ]

      end : count_of Limits.no_mark ys ≡ 0
      end =
          elim (lt-or-ge 0 (count_of Limits.no_mark ys)) [
            | inl h ↦ absurd (omega (arith, (climbs_has 0 Limits.no_mark ys c h).1, top_key e f))
            | inr h ↦ omega arith
          ]

      far : (q : ℕ) → Limits.axis_marks ≤ q → (q ≡ Limits.no_mark → ⊥) → count_of q ys ≡ 0
      far q m n =
          elim (lt-or-ge 0 (count_of q ys)) [
            | inl h ↦ absurd (omega (arith, (climbs_has 0 q ys c h).1, f.far q m))
            | inr h ↦ omega arith
          ]

      sums : sum_to Limits.axis_marks (λ q. count_of q ys) ≡ marks_in e
      sums = omega (arith, sum_count Limits.axis_marks Limits.no_mark ys (omega arith) far, end, length-take-le (marks_in e) xs (omega (arith, marks_most e)))

      here : (q : ℕ) → q < Limits.axis_marks → count_of q ys ≡ one_if (keyed e q)
      here q m = sum_squeeze Limits.axis_marks (λ q. count_of q ys) (λ q. one_if (keyed e q)) (λ q _. few q) (sums ∙ unfold marks_in in refl) q m

      counts : (q : ℕ) → (q ≡ Limits.no_mark → ⊥) → count_of q xs ≡ one_if (keyed e q)
      counts q n =
          let whole = sym (ap (count_of q) (take-append-drop (marks_in e) xs)) ∙ count-append q ys zs in
          elim (lt-or-ge q Limits.axis_marks) [
            | inl m ↦ omega (arith, whole, here q m, blank_none q zs b n)
            | inr m ↦ omega (arith, whole, few q, far q m n, blank_none q zs b n, counted_far q m)
          ]
        where
          counted_far : (q : ℕ) → Limits.axis_marks ≤ q → one_if (keyed e q) ≡ 0
          counted_far q m = elim (lt-or-ge 0 (one_if (keyed e q))) [ inl h ↦ absurd (omega (arith, ltb-true (e q) no_key (one_if_true (keyed e q) h), f.far q m)) | inr h ↦ omega arith ]

  -- a sorted part climbs as far as it has marks, and is blank after them
  blank_from : (k : ℕ) (xs : List ℕ) → no_key ≤ k → ((v : ℕ) → (v ≡ Limits.no_mark → ⊥) → 1 ≤ count_of v xs → e v < no_key) → rises e k xs ≡ true → blank xs ≡ true
  unfolding blank count_of
  blank_from k [] l h r = refl
  blank_from k (x ∷ xs) l h r =
      let p = up_head e k x xs r in
      elim (hit x Limits.no_mark) [
        | inl y ↦ ap (λ (b : Bool). b && blank xs) (eq-eqb x Limits.no_mark y.0) ∙ blank_from (e x) xs (omega (arith, p.0)) (λ v n m. h v n (omega arith)) p.1
        | inr n ↦ absurd (omega (arith, p.0, h x n.0 (omega (arith, hit_self x))))
      ]

  higher : (k : ℕ) (xs : List ℕ) → ((v : ℕ) → 1 ≤ count_of v xs → e v ≡ k → ⊥) → rises e k xs ≡ true → rises e (suc k) xs ≡ true
  unfolding count_of
  higher k [] h r = up_none e (suc k)
  higher k (x ∷ xs) h r = let p = up_head e k x xs r in up_make e (suc k) x xs (above k (e x) p.0 (h x (omega (arith, hit_self x)))) p.1
    where
      above : (k m : ℕ) → k ≤ m → (m ≡ k → ⊥) → suc k ≤ m
      above k m l n = omega arith

  settles : (k : ℕ) (xs : List ℕ) → rises e k xs ≡ true → ((v : ℕ) → (v ≡ Limits.no_mark → ⊥) → count_of v xs ≤ one_if (keyed e v))
      → (n : ℕ) × (climbs e k (take n xs) ≡ true) × (blank (drop n xs) ≡ true) × (length xs ≡ count_of Limits.no_mark xs + n)
  unfolding count_of
  settles k [] r h = (zero, unfold climbs in refl, unfold blank in refl, refl)
  settles k (x ∷ xs) r h =
      let p = up_head e k x xs r in
      elim (hit x Limits.no_mark) [
        | inl y ↦
            let b : blank (x ∷ xs) ≡ true = blank_from (e x) (x ∷ xs) (omega (arith, ap e y.0, top_key e f)) (λ v n m. ltb-true (e v) no_key (one_if_true (keyed e v) (omega (arith, h v n))))
            (up_make e (e x) x xs (omega arith) p.1) in
            (zero, unfold climbs in refl, b, omega (arith, blank_all (x ∷ xs) b))
        | inr n ↦
            let xx = hit_self x in
            let mine : e x < no_key = ltb-true (e x) no_key (one_if_true (keyed e x) (omega (arith, h x n.0))) in
            let s = settles (suc (e x)) xs (higher (e x) xs (λ v m q. omega (arith, h x n.0, one_if≤ (keyed e x), ap (λ (z : ℕ). count_of z xs) (own_key e f x v mine (sym q)))) p.1)
            (λ v m. omega (arith, h v m)) in
            (suc s.0, make k x (take s.0 xs) p.0 mine s.1, s.2, omega (arith, s.3, n.1))
      ]

  pub passed : (xs : List ℕ) → Sorted e (keyed e) xs → (climbs e 0 (take (marks_in e) xs) ≡ true) × (blank (drop (marks_in e) xs) ≡ true)
  unfolding marks_in
  passed xs s =
      let t = settles 0 xs s.rising (λ v n. omega (arith, s.once v n)) in
      let c = counted e (keyed e) xs s (keyed_low e f) in
      let sums = sum_same Limits.axis_marks (λ q. count_of q xs) (λ q. one_if (keyed e q)) (λ q l. s.once q (λ k. omega arith)) in
      let n : t.0 ≡ sum_to Limits.axis_marks (λ q. one_if (keyed e q)) = omega (arith, t.3, c, sums, s.long) in
      (subst (λ (n : ℕ). climbs e 0 (take n xs) ≡ true) n t.1, subst (λ (n : ℕ). blank (drop n xs) ≡ true) n t.2)

-- for the keys of an axis: the test passes exactly where the part is in place
module _ (a : Axis) (keys : List ℕ) (k : Keyed a keys) (xs : List ℕ) where
  pub test_right : length xs ≡ Limits.axis_marks → climbs (key_of keys) 0 (take (marks_in (key_of keys)) xs) ≡ true → blank (drop (marks_in (key_of keys)) xs) ≡ true → InPlace a xs
  test_right l c b =
      in_place a k.ranged xs (passes (key_at a) (fine a k.ranged) xs l
      (subst (λ (e : ℕ → ℕ). climbs e 0 (take (marks_in e) xs) ≡ true) (keys_are a keys k) c)
      (subst (λ (e : ℕ → ℕ). blank (drop (marks_in e) xs) ≡ true) (keys_are a keys k) b))

  pub test_whole : InPlace a xs → (climbs (key_of keys) 0 (take (marks_in (key_of keys)) xs) ≡ true) × (blank (drop (marks_in (key_of keys)) xs) ≡ true)
  test_whole p =
      subst (λ (e : ℕ → ℕ). (climbs e 0 (take (marks_in e) xs) ≡ true) × (blank (drop (marks_in e) xs) ≡ true)) (sym (keys_are a keys k))
      (passed (key_at a) (fine a k.ranged) xs (sorted a k.ranged xs p))

-- the three ways through the test of a part
module _ (keys part : List ℕ) where
  abbrev climb : Bool
  climb = climbs (key_of keys) 0 (take (marks_in (key_of keys)) part)

  abbrev rest : Bool
  rest = blank (drop (marks_in (key_of keys)) part)

  pub not_long : (length part ≡ Limits.axis_marks → ⊥) → Tested keys part false
  unfolding part_passes
  not_long n = record {
    is = ap (λ (b : Bool). b && (climb && rest)) (sym (ne_eqb (length part) Limits.axis_marks n));
    right = λ a k e. absurd (false≢true e);
    whole = λ a k p. absurd (n p.long);
  }

  pub not_climbing : length part ≡ Limits.axis_marks → climbs (key_of keys) 0 (take (marks_in (key_of keys)) part) ≡ false → Tested keys part false
  unfolding part_passes
  not_climbing l c = record {
    is = sym (ap (λ (b : Bool). b && (climb && rest)) (eq-eqb (length part) Limits.axis_marks l) ∙ ap (λ (b : Bool). b && rest) c);
    right = λ a k e. absurd (false≢true e);
    whole = λ a k p. absurd (false≢true (sym c ∙ (test_whole a keys k part p).0));
  }

  pub then_blank : {b : Bool} → length part ≡ Limits.axis_marks → climbs (key_of keys) 0 (take (marks_in (key_of keys)) part) ≡ true → b ≡ blank (drop (marks_in (key_of keys)) part) → Tested keys part b
  unfolding part_passes
  then_blank l c e = record {
    is = e ∙ sym (ap (λ (b : Bool). b && (climb && rest)) (eq-eqb (length part) Limits.axis_marks l) ∙ ap (λ (b : Bool). b && rest) c);
    right = λ a k y. test_right a keys k part l c (sym e ∙ y);
    whole = λ a k p. e ∙ (test_whole a keys k part p).1;
  }

-- and of the buffer: its length, and then each axis by its own part
module _ (x y z marks : List ℕ) where
  pub marks_not_long : (length marks ≡ Limits.marks → ⊥) → TestedMarks x y z marks false
  marks_not_long n = record {
    is = ap (λ (b : Bool). b && (part_passes x (part_x marks) && (part_passes y (part_y marks) && part_passes z (part_z marks)))) (sym (ne_eqb (length marks) Limits.marks n));
    right = λ a k e. absurd (false≢true e);
    whole = λ a k p. absurd (n p.long);
  }

  module _ (l : length marks ≡ Limits.marks) {bx : Bool} (tx : Tested x (part_x marks) bx) where
    past_length : {b : Bool} → b ≡ (bx && (part_passes y (part_y marks) && part_passes z (part_z marks))) → b ≡ marks_pass x y z marks
    past_length e =
        e ∙ ap (λ (b : Bool). b && (part_passes y (part_y marks) && part_passes z (part_z marks))) tx.is
        ∙ sym (ap (λ (b : Bool). b && (part_passes x (part_x marks) && (part_passes y (part_y marks) && part_passes z (part_z marks)))) (eq-eqb (length marks) Limits.marks l))

    pub x_fails : bx ≡ false → TestedMarks x y z marks false
    x_fails f = record {
      is = past_length (ap (λ (b : Bool). b && (part_passes y (part_y marks) && part_passes z (part_z marks))) (sym f));
      right = λ a k e. absurd (false≢true e);
      whole = λ a k p. absurd (false≢true (sym f ∙ tx.whole (axis_of a 0) k.on_x_lem p.on_x_lem));
    }

    module _ (sx : bx ≡ true) {by : Bool} (ty : Tested y (part_y marks) by) where
      past_x : {b : Bool} → b ≡ (by && part_passes z (part_z marks)) → b ≡ marks_pass x y z marks
      past_x e =
          past_length (e ∙ ap (λ (b : Bool). b && part_passes z (part_z marks)) ty.is
          ∙ ap (λ (b : Bool). b && (part_passes y (part_y marks) && part_passes z (part_z marks))) (sym sx))

      pub y_fails : by ≡ false → TestedMarks x y z marks false
      y_fails f = record {
        is = past_x (ap (λ (b : Bool). b && part_passes z (part_z marks)) (sym f));
        right = λ a k e. absurd (false≢true e);
        whole = λ a k p. absurd (false≢true (sym f ∙ ty.whole (axis_of a 1) k.on_y_lem p.on_y_lem));
      }

      pub z_decides : by ≡ true → {b : Bool} → Tested z (part_z marks) b → TestedMarks x y z marks b
      z_decides sy tz = record {
        is = past_x (tz.is ∙ ap (λ (b : Bool). b && part_passes z (part_z marks)) (sym sy));
        right = λ a k e. record {
          long = l;
          on_x_lem = tx.right (axis_of a 0) k.on_x_lem sx;
          on_y_lem = ty.right (axis_of a 1) k.on_y_lem sy;
          on_z_lem = tz.right (axis_of a 2) k.on_z_lem e;
        };
        whole = λ a k p. tz.whole (axis_of a 2) k.on_z_lem p.on_z_lem;
      }
