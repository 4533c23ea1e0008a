-- A right row is one number, and is a verdict; a row is decided by the boxes first.
-- With no box apart it is the verdict of the two pieces, the lower place named first and widened by the gap.
use Rattle.std.specs.Prelude.{◌≡◌, refl, ◌⊎◌, ℕ, ◌+◌, ◌*◌, ◌<◌, List, ℤ, pos, ◌+ℤ◌, ◌<ℤ◌, length, take}
use Rattle.std.proofs.Common.{sym, ap, ◌∙◌, subst, inl, inr, arith}
use Rattle.space.specs.Verdicts.{VerdictIs}
use Rattle.space.proofs.ExclusionLaws.{verdict_once}
use Rattle.space.specs.Lists.{Placed}
use Rattle.rows.specs.Rows.{Verdict, RowPut, Handled}
use Rattle.rows.proofs.Handling.{handled_skip, handled_put}
use Rattle.verdict.specs.Answers.{Answer, Carries}
use Rattle.pieces.specs.Pieces.{Store, piece_at, count_at, Taken}
use Rattle.pieces.specs.Store.{piece_placed, list_length_lem, SameAt, same_piece, same_low, same_high}
use Rattle.pieces.specs.Boxes.{Apart, PlacedPiece, Numbers}
use Rattle.rows_right.specs.Right.{RowRight}

pub right_once : (g : ℕ) (d : Store) (i j : ℕ) {u v : ℕ} → RowRight g d i j u → RowRight g d i j v → u ≡ v
right_once g d i j (inl a) (inl b) = a.0 ∙ sym b.0
right_once g d i j (inl a) (inr b) = absurd (b.0 a.1)
right_once g d i j (inr a) (inl b) = absurd (a.0 b.1)
right_once g d i j (inr a) (inr b) = verdict_once a.1 b.1

pub right_verdict : (g : ℕ) (d : Store) (i j v : ℕ) → RowRight g d i j v → Verdict v
right_verdict g d i j v (inl a) = let e = a.0 in omega arith
right_verdict g d i j v (inr (f, inl a)) = let e = a.0 in omega arith
right_verdict g d i j v (inr (f, inr (inl a))) = let e = a.0 in omega arith
right_verdict g d i j v (inr (f, inr (inr a))) = let e = a.0 in omega arith

-- a row that is right for two pieces is right wherever they are the same
pub apart_on_lem : (g : ℕ) {a b c d p q r s : ℤ} → a ≡ p → b ≡ q → c ≡ r → d ≡ s → ((a +ℤ pos g) <ℤ b) ⊎ ((c +ℤ pos g) <ℤ d) → ((p +ℤ pos g) <ℤ q) ⊎ ((r +ℤ pos g) <ℤ s)
apart_on_lem g ea eb ec ed h = rw (sym ea, sym eb, sym ec, sym ed) h

module _ (g : ℕ) {d e : Store} {i j : ℕ} (s : SameAt d e i) (u : SameAt d e j) where
  apart_same : Apart g d i j → Apart g e i j
  apart_same (axis, h, a) = (axis, h, apart_on_lem g (same_high s axis h) (same_low u axis h) (same_high u axis h) (same_low s axis h) a)

  apart_back : Apart g e i j → Apart g d i j
  apart_back (axis, h, a) = (axis, h, apart_on_lem g (sym (same_high s axis h)) (sym (same_low u axis h)) (sym (same_high u axis h)) (sym (same_low s axis h)) a)

  pub right_same : {v : ℕ} → RowRight g d i j v → RowRight g e i j v
  right_same (inl a) = inl (a.0, apart_same a.1)
  right_same {v} (inr a) =
      inr (λ k. a.0 (apart_back k), subst (λ (P : List ℤ). VerdictIs g P (piece_at e j) v) (same_piece s) (subst (λ (Q : List ℤ). VerdictIs g (piece_at d i) Q v) (same_piece u) a.1))

-- ---- the rows of a handled piece, one other place after the other
pub record OneMore (g : ℕ) (d : Store) (p n : ℕ) (before after : List ℕ) : Type 0 where
  pub step : (first : List ℕ) → Handled (RowRight g d) d.places p n first before → Handled (RowRight g d) d.places p (n + 1) first after

pub one_skipped : (g : ℕ) (d : Store) {p n : ℕ} {rows : List ℕ} → (Taken d.places n → ⊥) ⊎ (n ≡ p) → OneMore g d p n rows rows
one_skipped g d f = record { step = λ first h. handled_skip f h }

pub one_below : (g : ℕ) (d : Store) {p n v : ℕ} {before after : List ℕ} → n < p → Taken d.places n → Taken d.places p → RowRight g d n p v → RowPut n p v before after
    → OneMore g d p n before after
one_below g d l t u r k = record { step = λ first h. handled_put (record { rising = l; first = t; second = u }) (inr (refl, refl)) r k h }

pub one_above : (g : ℕ) (d : Store) {p n v : ℕ} {before after : List ℕ} → p < n → Taken d.places n → Taken d.places p → RowRight g d p n v → RowPut p n v before after
    → OneMore g d p n before after
one_above g d l t u r k = record { step = λ first h. handled_put (record { rising = l; first = u; second = t }) (inl (refl, refl)) r k h }

-- ---- the row by the verdict of the two pieces
pub row_apart : (g : ℕ) (d : Store) (i j : ℕ) → Apart g d i j → RowRight g d i j 0
row_apart g d i j a = inl (refl, a)

pub row_verdict : (g : ℕ) (d : Store) (i j : ℕ) {v : ℕ} → (Apart g d i j → ⊥) → VerdictIs g (piece_at d i) (piece_at d j) v → RowRight g d i j v
row_verdict g d i j f h = inr (f, h)

-- an answer about two lists is one about the pieces that they are
pub carries_at : {g : ℕ} {A B P Q : List ℤ} {r : Answer} → A ≡ P → B ≡ Q → Carries g A B r → Carries g P Q r
carries_at {g} {A} {B} {P} {Q} {r} ea eb h = subst (λ (X : List ℤ). Carries g X Q r) ea (subst (λ (X : List ℤ). Carries g A X r) eb h)

-- a part of an array that begins it
pub front : {d : Store} {p n : ℕ} {a : List ℤ} → Numbers d p a → n ≡ count_at d p → take (3 * n) a ≡ piece_at d p
front {a} k e = ap (λ m. take (3 * m) a) e ∙ k.is

pub front_placed : {d : Store} {p n : ℕ} {a : List ℤ} → PlacedPiece d p → Numbers d p a → n ≡ count_at d p → Placed (take (3 * n) a)
front_placed {d} {p} q k e = subst Placed (sym (front k e)) (piece_placed q.order p q.taken)

pub front_length : {d : Store} {p n : ℕ} {a : List ℤ} → Numbers d p a → n ≡ count_at d p → 3 * n ≡ length (take (3 * n) a)
front_length {d} {p} {n} k e = ap (λ m. 3 * m) e ∙ sym (ap length (front k e) ∙ list_length_lem (3 * count_at d p) _)
