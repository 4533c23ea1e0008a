-- Laws for the commands of a desk: rows stay in order when a place is emptied and its rows are cleared, and when the rows of a handled place
-- are put one after the other. A desk started afresh has its rows in order.
use Rattle.std.specs.Prelude.{ℕ, ◌+◌, ◌<◌, ◌≡◌, refl, List, ◌⊎◌, ℤ, length, replicate}
use Rattle.std.proofs.Common.{sym, ◌∙◌, subst, inl, inr, ⊎_elim, arith}
use Rattle.std.proofs.lemmas.List.{length-replicate, get_or-replicate}
use Rattle.limits.specs.Limits
use Rattle.pieces.specs.Pieces.{Taken, OthersStay}
use Rattle.pieces.specs.Taking.{by_taken}
use Rattle.rows.specs.Rows.{PairOf, row_at, Verdict, RowsInOrder, Cleared, RowPut, Names, Joins, Handled}
use Rattle.rows.specs.Cells.{cell_below}
use Rattle.ints.specs.Cases.{by-same, by_less}
use Rattle.rows.specs.Changes.{rows_once}

-- two places are a pair or not
pub by_pair : {C : Type 0} (places : List ℤ) (low high : ℕ) → low < Limits.places → high < Limits.places → (PairOf places low high → C) → ((PairOf places low high → ⊥) → C) → C
by_pair places low high h k f g =
    by_less low high
    (λ lt.
    by_taken places low h
    (λ a.
    by_taken places high k
    (λ b. f (record { rising = lt; first = a; second = b }))
    (λ b. g (λ p. b p.second)))
    (λ a. g (λ p. a p.first)))
    (λ le. g (λ p. let r = p.rising in omega arith))

-- ---- the places change at p only
module _ {p : ℕ} {before after : List ℤ} (s : OthersStay p before after) where
  stays : {q : ℕ} → (q ≡ p → ⊥) → Taken before q → Taken after q
  stays {q} ne t = record { place = t.place; holds = λ e. t.holds (sym (s.same q t.place ne) ∙ e) }

  stayed : {q : ℕ} → (q ≡ p → ⊥) → Taken after q → Taken before q
  stayed {q} ne t = record { place = t.place; holds = λ e. t.holds (s.same q t.place ne ∙ e) }

  pub pair_stays : {low high : ℕ} → (low ≡ p → ⊥) → (high ≡ p → ⊥) → PairOf before low high → PairOf after low high
  pair_stays a b o = record { rising = o.rising; first = stays a o.first; second = stays b o.second }

  pub pair_stayed : {low high : ℕ} → (low ≡ p → ⊥) → (high ≡ p → ⊥) → PairOf after low high → PairOf before low high
  pair_stayed a b o = record { rising = o.rising; first = stayed a o.first; second = stayed b o.second }

  -- where p is taken now, a pair that was one is one still
  pub pair_remains : Taken after p → {low high : ℕ} → PairOf before low high → PairOf after low high
  pair_remains t o = record { rising = o.rising; first = place_remains o.first; second = place_remains o.second }
    where
      place_remains : {q : ℕ} → Taken before q → Taken after q
      place_remains {q} k = by-same q p (λ e. subst (Taken after) (sym e) t) (λ ne. stays ne k)

-- a removal: the place is empty, its rows are gone
pub rows_after_clearing : {p : ℕ} {before after : List ℤ} {rows cleared : List ℕ} → OthersStay p before after → (Taken after p → ⊥)
    → Cleared p rows cleared → RowsInOrder before rows → RowsInOrder after cleared
rows_after_clearing {p} {before} {after} {rows} {cleared} s empty c o = record {
  size = c.size ∙ o.size;
  pairs = λ low high t.
      let a : low ≡ p → ⊥ = λ e. empty (subst (Taken after) e t.first) in
      let b : high ≡ p → ⊥ = λ e. empty (subst (Taken after) e t.second) in
      subst Verdict (sym (c.kept low high t.first.place t.second.place a b)) (o.pairs low high (pair_stayed s a b t));
  others = λ low high h k t.
      by-same low p
      (λ e. c.gone low high h k (inl e))
      (λ a.
      by-same high p
      (λ e. c.gone low high h k (inr e))
      (λ b. c.kept low high h k a b ∙ o.others low high h k (λ u. t (pair_stays s a b u))));
}

-- ---- a handled place: its rows are put one after the other, for the other places below n so far
names_none : {p low high : ℕ} → Names p 0 low high → ⊥
names_none (inl c) = omega (arith, c.1)
names_none (inr c) = omega (arith, c.1)

names_more : {p n low high : ℕ} → Names p n low high → Names p (n + 1) low high
names_more (inl c) = inl (c.0, omega (arith, c.1))
names_more (inr c) = inr (c.0, omega (arith, c.1))

-- a row named with n + 1 is named with n, or joins p and n
names_last : {p n low high : ℕ} → Names p (n + 1) low high → Names p n low high ⊎ Joins p n low high
names_last {p} {n} {low} {high} (inl c) = let lt = c.1 in by-same high n (λ e. inr (inl (c.0, e))) (λ ne. inl (inl (c.0, omega arith)))
names_last {p} {n} {low} {high} (inr c) = let lt = c.1 in by-same low n (λ e. inr (inr (e, c.0))) (λ ne. inl (inr (c.0, omega arith)))

joins_named : {p n low high : ℕ} → Joins p n low high → Names p (n + 1) low high
joins_named (inl c) = let e = c.1 in inl (c.0, omega arith)
joins_named (inr c) = let e = c.0 in inr (c.1, omega arith)

-- p and n rise in one order only
joins_once : {p n low high a b : ℕ} → low < high → a < b → Joins p n low high → Joins p n a b → (a ≡ low) × (b ≡ high)
joins_once h k (inl (c, d)) (inl (e, f)) = (e ∙ sym c, f ∙ sym d)
joins_once h k (inr (c, d)) (inr (e, f)) = (e ∙ sym c, f ∙ sym d)
joins_once h k (inl (c, d)) (inr (e, f)) = absurd (omega arith)
joins_once h k (inr (c, d)) (inl (e, f)) = absurd (omega arith)

-- the row of low and high names p or not
by_name : {C : Type 0} (p low high : ℕ) → ((low ≡ p) ⊎ (high ≡ p) → C) → ((low ≡ p → ⊥) → (high ≡ p → ⊥) → C) → C
by_name p low high f g = by-same low p (λ e. f (inl e)) (λ a. by-same high p (λ e. f (inr e)) (λ b. g a b))

-- with all places, to name p is enough
named : {p low high : ℕ} → low < Limits.places → high < Limits.places → (low ≡ p) ⊎ (high ≡ p) → Names p Limits.places low high
named h k (inl e) = inl (e, k)
named h k (inr e) = inr (e, h)

module _ {Right : ℕ → ℕ → ℕ → Type 0} {places : List ℤ} {p : ℕ} where
  pub handled_none : (rows : List ℕ) → Handled Right places p 0 rows rows
  handled_none rows = record { size = refl; right = λ low high o c. absurd (names_none c); kept = λ low high h k f. refl }

  -- a place that makes no pair with p is passed
  pub handled_skip : {n : ℕ} {before rows : List ℕ} → (Taken places n → ⊥) ⊎ (n ≡ p) → Handled Right places p n before rows → Handled Right places p (n + 1) before rows
  handled_skip {n} none d = record {
    size = d.size;
    right = λ low high o c. ⊎_elim (λ g. d.right low high o g) (λ j. absurd (no_pair_lem none o j)) (names_last c);
    kept = λ low high h k f. d.kept low high h k (λ o c. f o (names_more c));
  }
    where
      no_pair_lem : (Taken places n → ⊥) ⊎ (n ≡ p) → {low high : ℕ} → PairOf places low high → Joins p n low high → ⊥
      no_pair_lem (inl f) o (inl (c, e)) = f (subst (Taken places) e o.second)
      no_pair_lem (inl f) o (inr (c, e)) = f (subst (Taken places) c o.first)
      no_pair_lem (inr s) o (inl (c, e)) = let r = o.rising in omega arith
      no_pair_lem (inr s) o (inr (c, e)) = let r = o.rising in omega arith

  -- the row of p and n is put
  pub handled_put : {n low high v : ℕ} {before rows after : List ℕ} → PairOf places low high → Joins p n low high → Right low high v → RowPut low high v rows after
      → Handled Right places p n before rows → Handled Right places p (n + 1) before after
  handled_put {n} {low} {high} {v} {before} {rows} {after} o j good put d = record {
    size = put.size ∙ d.size;
    right = λ a b q c.
        by-same a low
        (λ e. by-same b high (λ f. here e f) (λ f. other a b q c (λ s. f s.1)))
        (λ e. other a b q c (λ s. e s.0));
    kept = λ a b h k f.
        put.kept a b h k (λ s. f (subst (λ (i : ℕ). PairOf places i b) (sym s.0) (subst (λ (i : ℕ). PairOf places low i) (sym s.1) o)) (joins_named (at s)))
        ∙ d.kept a b h k (λ q c. f q (names_more c));
  }
    where
      at : {a b : ℕ} → (a ≡ low) × (b ≡ high) → Joins p n a b
      at (e, f) = ⊎_elim (λ (c : (low ≡ p) × (high ≡ n)). inl (e ∙ c.0, f ∙ c.1)) (λ (c : (low ≡ n) × (high ≡ p)). inr (e ∙ c.0, f ∙ c.1)) j

      here : {a b : ℕ} → a ≡ low → b ≡ high → Right a b (row_at after a b)
      here e f = rw (e, f, put.here) good

      other : (a b : ℕ) → PairOf places a b → Names p (n + 1) a b → ((a ≡ low) × (b ≡ high) → ⊥) → Right a b (row_at after a b)
      other a b q c ne =
          subst (Right a b) (sym (put.kept a b q.first.place q.second.place ne))
          (⊎_elim (λ g. d.right a b q g) (λ k. absurd (ne (joins_once o.rising q.rising j k))) (names_last c))

  -- when all places are passed: the rows that name p are right, and the others are as they were
  pub handled_right : {before after : List ℕ} → Handled Right places p Limits.places before after → (low high : ℕ) → PairOf places low high → (low ≡ p) ⊎ (high ≡ p)
      → Right low high (row_at after low high)
  handled_right d low high o w = d.right low high o (named o.first.place o.second.place w)

  pub handled_other : {before after : List ℕ} → Handled Right places p Limits.places before after → (low high : ℕ) → low < Limits.places → high < Limits.places
      → (low ≡ p → ⊥) → (high ≡ p → ⊥) → row_at after low high ≡ row_at before low high
  handled_other d low high h k a b = d.kept low high h k (λ o c. ⊎_elim (λ (e : (low ≡ p) × (high < Limits.places)). a e.0) (λ (e : (high ≡ p) × (low < Limits.places)). b e.0) c)

  -- a row of p that is no pair's is as it was
  handled_no_pair : {before after : List ℕ} → Handled Right places p Limits.places before after → (low high : ℕ) → low < Limits.places → high < Limits.places
      → (PairOf places low high → ⊥) → row_at after low high ≡ row_at before low high
  handled_no_pair d low high h k f = d.kept low high h k (λ o c. f o)

  -- a place or a move: where every right row is a verdict, the rows are in order again
  pub rows_after_handling : {old : List ℤ} {before after : List ℕ} → ((low high v : ℕ) → Right low high v → Verdict v) → OthersStay p old places → Taken places p
      → Handled Right places p Limits.places before after → RowsInOrder old before → RowsInOrder places after
  rows_after_handling {old} {before} {after} verdict s t d o = record {
    size = d.size ∙ o.size;
    pairs = λ low high q.
        by_name p low high
        (λ w. verdict low high (row_at after low high) (handled_right d low high q w))
        (λ a b. subst Verdict (sym (handled_other d low high q.first.place q.second.place a b)) (o.pairs low high (pair_stayed s a b q)));
    others = λ low high h k f. handled_no_pair d low high h k f ∙ o.others low high h k (λ q. f (pair_remains s t q));
  }

  -- where one verdict is right for a pair, the rows are determined
  pub handled_once : {before a b : List ℕ} → ((low high v w : ℕ) → Right low high v → Right low high w → v ≡ w) → length before ≡ Limits.rows
      → Handled Right places p Limits.places before a → Handled Right places p Limits.places before b → a ≡ b
  handled_once {before} {a} {b} once n d e =
      rows_once (d.size ∙ n) (e.size ∙ n)
      (λ low high h k.
      by_pair places low high h k
      (λ o.
      by_name p low high
      (λ w. once low high (row_at a low high) (row_at b low high) (handled_right d low high o w) (handled_right e low high o w))
      (λ x y. handled_other d low high h k x y ∙ sym (handled_other e low high h k x y)))
      (λ f. handled_no_pair d low high h k f ∙ sym (handled_no_pair e low high h k f)))

-- ---- started afresh: no place is taken, no row holds a verdict, every tally is 0
pub rows_started : {places : List ℤ} → ((p : ℕ) → Taken places p → ⊥) → RowsInOrder places (replicate Limits.rows Limits.no_row)
rows_started none = record {
  size = length-replicate {A = ℕ} Limits.rows Limits.no_row;
  pairs = λ low high o. absurd (none low o.first);
  others = λ low high h k f. get_or-replicate Limits.rows _ Limits.no_row Limits.no_row (cell_below h k);
}
