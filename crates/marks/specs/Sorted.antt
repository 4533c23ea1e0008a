-- A part as counts and rising keys: the form in which a part is kept in place; such a part is there for all keys, and it is the only one.
-- The keys are any function that is fine: no mark has more than no_key, what is no mark has no_key, and a key names its mark.
use Rattle.std.specs.Prelude.{◌≡◌, List, [], Bool, true, false, eqb, length}
use Rattle.std.proofs.Math.Path.{refl, ap, sym, subst}
use Rattle.std.proofs.Common.{◌∙◌}
use Rattle.std.proofs.Math.Logic.{inl, inr}
use Rattle.std.proofs.Math.Bool.{cond}
use Prim.Native.Nat.{ℕ, zero, suc, ◌+◌, ◌≤◌, ◌<◌}
use native.Mathlib.Omega.{arith}
use borrow.Author.Tests.{ne_eqb, lt-ltb, le-ltb, ltb-true}
use Rattle.std.proofs.Math.Dec.{ltb}
use Rattle.limits.specs.Limits
use Rattle.ints.specs.Counts.{one_if, sum_to, count_of, hit, hit_self, one_if≤, one_if_true, sum_same, sum_count, sum_miss}
use Rattle.ints.specs.Order.{lt-or-ge}
use Rattle.marks.specs.Keys.{no_key, mark_in}
use Rattle.marks.specs.Rising.{rises, into, same, up_none, into_up, into_count, into_long}

pub record Fine (e : ℕ → ℕ) : Type 0 where
  pub most : (q : ℕ) → e q ≤ no_key
  pub far : (q : ℕ) → Limits.axis_marks ≤ q → e q ≡ no_key
  pub own : (q : ℕ) → e q < no_key → mark_in (e q) ≡ q

pub own_key : (e : ℕ → ℕ) → Fine e → (a b : ℕ) → e a < no_key → e a ≡ e b → a ≡ b
own_key e f a b l k = sym (f.own a l) ∙ ap mark_in k ∙ f.own b (omega arith)

-- q has a key of its own
abbrev pub keyed : (ℕ → ℕ) → ℕ → Bool
keyed e q = ltb (e q) no_key

-- each number that is `mine` stands there once, no other but no_mark stands there, and the keys rise
pub record Sorted (e : ℕ → ℕ) (mine : ℕ → Bool) (xs : List ℕ) : Type 0 where
  pub long : length xs ≡ Limits.axis_marks
  pub once : (q : ℕ) → (q ≡ Limits.no_mark → ⊥) → count_of q xs ≡ one_if (mine q)
  pub rising : rises e 0 xs ≡ true

pub keyed_low : (e : ℕ → ℕ) → Fine e → (q : ℕ) → keyed e q ≡ true → q < Limits.axis_marks
keyed_low e f q h = elim (lt-or-ge q Limits.axis_marks) [ inl l ↦ l | inr l ↦ absurd (omega (arith, ltb-true (e q) no_key h, f.far q l)) ]

pub top_key : (e : ℕ → ℕ) → Fine e → e Limits.no_mark ≡ no_key
top_key e f = f.far Limits.no_mark (omega arith)

low≢ : (q : ℕ) → q < Limits.axis_marks → q ≡ Limits.no_mark → ⊥
low≢ q h p = omega arith

module _ (e : ℕ → ℕ) (mine : ℕ → Bool) (xs : List ℕ) (s : Sorted e mine xs) where
  -- what stands there and is not no_mark is mine
  pub member : (q : ℕ) → (q ≡ Limits.no_mark → ⊥) → 1 ≤ count_of q xs → mine q ≡ true
  member q n h = one_if_true (mine q) (omega (arith, s.once q n))

  module _ (low : (q : ℕ) → mine q ≡ true → q < Limits.axis_marks) where
    beyond : (q : ℕ) → Limits.axis_marks ≤ q → (q ≡ Limits.no_mark → ⊥) → count_of q xs ≡ 0
    beyond q l n =
        elim (lt-or-ge 0 (count_of q xs)) [
          | inl h ↦ absurd (omega (arith, low q (member q n h)))
          | inr h ↦ omega arith
        ]

    -- the part is full
    pub counted : Limits.axis_marks ≡ count_of Limits.no_mark xs + sum_to Limits.axis_marks (λ q. count_of q xs)
    counted = sym s.long ∙ sum_count Limits.axis_marks Limits.no_mark xs (omega arith) beyond

    -- a number that is not mine leaves room for one
    pub room : (c : ℕ) → c < Limits.axis_marks → mine c ≡ false → 1 ≤ count_of Limits.no_mark xs
    room c l h = omega (arith, counted, sum_miss Limits.axis_marks c (λ q. count_of q xs) l (s.once c (low≢ c l) ∙ ap one_if h) (λ q b. omega (arith, s.once q (low≢ q b), one_if≤ (mine q))))

-- such a part is the only one
pub only : (e : ℕ → ℕ) (xs ys : List ℕ) → Fine e → Sorted e (keyed e) xs → Sorted e (keyed e) ys → xs ≡ ys
only e xs ys f s t = same e xs ys 0 0 s.rising t.rising counts one
  where
    sums : sum_to Limits.axis_marks (λ q. count_of q xs) ≡ sum_to Limits.axis_marks (λ q. count_of q ys)
    sums = sum_same Limits.axis_marks (λ q. count_of q xs) (λ q. count_of q ys) (λ q l. s.once q (low≢ q l) ∙ sym (t.once q (low≢ q l)))

    counts : (v : ℕ) → count_of v xs ≡ count_of v ys
    counts v =
        elim (hit v Limits.no_mark) [
          | inl y ↦ rw y.0 (omega (arith, counted e (keyed e) xs s (keyed_low e f), counted e (keyed e) ys t (keyed_low e f), sums))
          | inr n ↦ s.once v n.0 ∙ sym (t.once v n.0)
        ]

    small : (v : ℕ) → (v ≡ Limits.no_mark → ⊥) → 1 ≤ count_of v xs → e v < no_key
    small v n h = ltb-true (e v) no_key (member e (keyed e) xs s v n h)

    one : (a b : ℕ) → 1 ≤ count_of a xs → 1 ≤ count_of b xs → e a ≡ e b → a ≡ b
    one a b ha hb k =
        elim (hit a Limits.no_mark) [
          | inr y ↦ own_key e f a b (small a y.0 ha) k
          | inl y ↦
              elim (hit b Limits.no_mark) [
                | inl z ↦ y.0 ∙ sym z.0
                | inr z ↦ sym (own_key e f b a (small b z.0 hb) (sym k))
              ]
        ]

-- a mark where it has a key, and no_mark where it has none
abbrev pub standing : Bool → ℕ → ℕ
standing b c = cond b c Limits.no_mark

pub own_standing : (c : ℕ) → c < Limits.axis_marks → (b : Bool) → one_if (eqb (standing b c) c) ≡ one_if b
own_standing c l true = hit_self c
own_standing c l false = ap one_if (ne_eqb Limits.no_mark c (λ p. omega arith))

pub other_standing : (c : ℕ) (b : Bool) (q : ℕ) → (q ≡ c → ⊥) → (q ≡ Limits.no_mark → ⊥) → one_if (eqb (standing b c) q) ≡ 0
other_standing c true q n m = ap one_if (ne_eqb c q (λ p. n (sym p)))
other_standing c false q n m = ap one_if (ne_eqb Limits.no_mark q (λ p. m (sym p)))

-- the marks below n, put in one after the other
unfoldable pub in_order : (ℕ → ℕ) → ℕ → List ℕ
in_order e zero = []
in_order e (suc n) = into e (standing (keyed e n) n) (in_order e n)

-- there is always a part that is sorted
module _ (e : ℕ → ℕ) (f : Fine e) where
  order_long : (n : ℕ) → length (in_order e n) ≡ n
  unfolding in_order
  order_long zero = refl
  order_long (suc n) = into_long e (standing (keyed e n) n) (in_order e n) ∙ ap suc (order_long n)

  order_up : (n : ℕ) → rises e 0 (in_order e n) ≡ true
  unfolding in_order
  order_up zero = up_none e 0
  order_up (suc n) = into_up e 0 (standing (keyed e n) n) (in_order e n) (order_up n) (omega arith)

  order_count : (n q : ℕ) → n ≤ Limits.axis_marks → (q ≡ Limits.no_mark → ⊥) → count_of q (in_order e n) ≡ cond (ltb q n) (one_if (keyed e q)) 0
  unfolding in_order count_of
  order_count zero q l m = sym (ap (λ (b : Bool). cond b (one_if (keyed e q)) 0) (le-ltb q 0 (omega arith)))
  order_count (suc n) q l m =
      into_count e q (standing (keyed e n) n) (in_order e n)
      ∙ elim (hit q n) [
        | inl y ↦
            omega (
              arith,
              subst (λ (z : ℕ). one_if (eqb (standing (keyed e n) n) z) ≡ one_if (keyed e n)) (sym y.0) (own_standing n (omega arith) (keyed e n)),
              order_count n q (omega arith) m,
              ap (λ (b : Bool). cond b (one_if (keyed e q)) 0) (le-ltb q n (omega arith)),
              ap (λ (b : Bool). cond b (one_if (keyed e q)) 0) (lt-ltb q (suc n) (omega arith)),
              ap (λ (z : ℕ). one_if (keyed e z)) y.0,
            )
        | inr y ↦
            omega (
              arith,
              other_standing n (keyed e n) q y.0 m,
              order_count n q (omega arith) m,
              ap (λ (b : Bool). cond b (one_if (keyed e q)) 0) (same_side q n y.0),
            )
      ]
    where
      same_side : (q n : ℕ) → (q ≡ n → ⊥) → ltb q n ≡ ltb q (suc n)
      same_side q n d = elim (lt-or-ge q n) [ inl b ↦ lt-ltb q n b ∙ sym (lt-ltb q (suc n) (omega arith)) | inr b ↦ le-ltb q n b ∙ sym (le-ltb q (suc n) (over q n b d)) ]
        where
          over : (q n : ℕ) → n ≤ q → (q ≡ n → ⊥) → suc n ≤ q
          over q n l d = omega arith

  pub sorted_is : Sorted e (keyed e) (in_order e Limits.axis_marks)
  sorted_is = record { long = order_long Limits.axis_marks; once = λ q n. order_count Limits.axis_marks q (omega arith) n ∙ whole q; rising = order_up Limits.axis_marks }
    where
      whole : (q : ℕ) → cond (ltb q Limits.axis_marks) (one_if (keyed e q)) 0 ≡ one_if (keyed e q)
      whole q =
          elim (lt-or-ge q Limits.axis_marks) [
            | inl l ↦ ap (λ (b : Bool). cond b (one_if (keyed e q)) 0) (lt-ltb q Limits.axis_marks l)
            | inr l ↦ ap (λ (b : Bool). cond b (one_if (keyed e q)) 0) (le-ltb q Limits.axis_marks l) ∙ sym (ap one_if (le-ltb (e q) no_key (omega (arith, f.far q l))))
          ]
