-- Laws of the number of a word among names: the names are passed one by one, and the word finds the table's value of its number.
-- A number past a table's end says that the word is no name of the table, and is one among the names behind it.
use Rattle.std.specs.Prelude.{ℕ, zero, suc, ◌+◌, ◌≤◌, ◌<◌, ◌≡◌, refl, List, [], ◌∷◌, ◌++◌, length}
use Rattle.std.proofs.Common.{sym, ap, subst, inl, inr, arith}
use Rattle.line.specs.Behind.{Finds, NotIn}
use Rattle.line.specs.Named.{NameOf, names_of, value_of}

-- the number among all names is known once it is among those that are left, after k that the word is not
abbrev pub Leaves : List ℕ → List (List ℕ) → ℕ → List (List ℕ) → Type 0
Leaves w all k rest = (j : ℕ) → NameOf w rest j → NameOf w all (k + j)

module _ (w : List ℕ) (all : List (List ℕ)) where
  pub name_first : Leaves w all 0 all
  name_first j h = let z : j ≡ 0 + j = omega arith in subst (NameOf w all) z h

  left_none : (rest : List (List ℕ)) (k : ℕ) → Leaves w all k rest → NameOf w rest 0 → NameOf w all k
  left_none rest k h n = let z : k + 0 ≡ k = omega arith in subst (NameOf w all) z (h 0 n)

  module _ {rest names : List (List ℕ)} {name : List ℕ} (k : ℕ) (h : Leaves w all k rest) (e : rest ≡ name ∷ names) where
    -- the word is the next name
    pub name_here : w ≡ name → NameOf w all k
    name_here p = left_none rest k h (subst (λ (ns : List (List ℕ)). NameOf w ns 0) (sym e) (inl (p, refl)))

    -- it is not: that name is passed
    pub name_next : (w ≡ name → ⊥) → Leaves w all (k + 1) names
    name_next n j m =
        let z : k + suc j ≡ k + 1 + j = omega arith in
        subst (NameOf w all) z (h (suc j) (subst (λ (ns : List (List ℕ)). NameOf w ns (suc j)) (sym e) (inr (n, (j, refl, m)))))

  -- no name is left
  pub name_none : {rest : List (List ℕ)} (k : ℕ) → Leaves w all k rest → rest ≡ [] → NameOf w all k
  name_none {rest} k h e = left_none rest k h (subst (λ (ns : List (List ℕ)). NameOf w ns 0) (sym e) refl)

-- the word finds the value of its number
pub finds_named : {A : Type 0} (w : List ℕ) (table : List (List ℕ × A)) (Else : A → Type 0) {none : A} → Else none → (k : ℕ) → NameOf w (names_of table) k → Finds w table Else (value_of table none k)
finds_named w [] Else h k n = h
finds_named w (x ∷ t) Else {none} h k (inl n) = inl (n.0, ap (value_of (x ∷ t) none) n.1)
finds_named w (x ∷ t) Else {none} h k (inr n) = inr (n.0, subst (λ (i : ℕ). Finds w t Else (value_of (x ∷ t) none i)) (sym n.1.1) (finds_named w t Else h n.1.0 n.1.2))

-- past a table's end there is no value
pub value_past : {A : Type 0} (table : List (List ℕ × A)) (none : A) (k : ℕ) → length table ≤ k → value_of table none k ≡ none
value_past [] none k h = refl
value_past (x ∷ t) none zero h = absurd (omega arith)
value_past (x ∷ t) none (suc k) h = value_past t none k (omega arith)

-- ---- a table's names with more behind them
-- a number below the table's length is of a name of the table
pub named_in : {A : Type 0} (w : List ℕ) (table : List (List ℕ × A)) (more : List (List ℕ)) (Else : A → Type 0) (none : A) (k : ℕ) → NameOf w (names_of table ++ more) k → k < length table
    → Finds w table Else (value_of table none k)
named_in w [] more Else none k n h = absurd (omega arith)
named_in w (x ∷ t) more Else none k (inl n) h = inl (n.0, ap (value_of (x ∷ t) none) n.1)
named_in w (x ∷ t) more Else none k (inr n) h =
    inr (n.0, subst (λ (i : ℕ). Finds w t Else (value_of (x ∷ t) none i)) (sym n.1.1) (named_in w t more Else none n.1.0 n.1.2 (omega (arith, n.1.1, h))))

-- any other says that the word is none of them, and is the number among what is behind them
pub named_past : {A : Type 0} (w : List ℕ) (table : List (List ℕ × A)) (more : List (List ℕ)) (k m : ℕ) → k ≡ length table + m → NameOf w (names_of table ++ more) k → NotIn w table × NameOf w more m
named_past w [] more k m e n = let z : k ≡ m = omega (arith, e) in (tt, subst (NameOf w more) z n)
named_past w (x ∷ t) more k m e (inl n) = absurd (omega (arith, e, n.1))
named_past w (x ∷ t) more k m e (inr n) =
    let z : n.1.0 ≡ length t + m = omega (arith, e, n.1.1) in
    let r = named_past w t more n.1.0 m z n.1.2 in
    ((n.0, r.0), r.1)

-- the first name has the number 0, and no other number
pub name_zero : (w name : List ℕ) (names : List (List ℕ)) → NameOf w (name ∷ names) 0 → w ≡ name
name_zero w name names (inl n) = n.0
name_zero w name names (inr n) = absurd (omega (arith, n.1.1))

pub name_not : (w name : List ℕ) (names : List (List ℕ)) (k : ℕ) → 0 < k → NameOf w (name ∷ names) k → w ≡ name → ⊥
name_not w name names k h (inl n) = absurd (omega (arith, n.1, h))
name_not w name names k h (inr n) = n.0

-- ---- a number that a match has tried against 0, 1, 2 and so on to n, and is none of them
abbrev pub NoneBelow : ℕ → ℕ → Type 0
NoneBelow k zero = Unit {0}
NoneBelow k (suc n) = NoneBelow k n × (k ≡ n → ⊥)

pub none_below : (k n : ℕ) → NoneBelow k n → n ≤ k
none_below k zero h = omega arith
none_below k (suc n) h = let l = none_below k n h.0 in omega (arith, h.1)
