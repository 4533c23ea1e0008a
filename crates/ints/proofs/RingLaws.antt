-- A ring solver for ℤ by reflection: `Expr` is a polynomial with variables by number, `eval ρ e` its value, `norm e` its normal form, a sorted list of monomials with coefficients that are not 0.
-- `ring-0`: two expressions whose difference has the empty normal form have one value. Soundness asks nothing of the order of monomials: only that what `cmp` takes for equal is equal.
use Rattle.std.specs.Prelude.{◌≡◌, refl, List, T, ℤ, pos, negsuc, neg_ℤ, ◌+ℤ◌, ◌*ℤ◌}
use Rattle.std.proofs.Common.{sym, ap, ap₂, ◌∙◌, eqb→eq}
use Prim.Native.Nat.{ℕ, zero, suc, compare, Ordering}
use Rattle.std.proofs.Math.Dec.{compare_is_eq}
use Rattle.std.proofs.Math.IntN.{+ℤ_idl, +ℤ_idr, +ℤ_assoc, +ℤ_invl, zero-*ℤ, *ℤ-zero, neg_ℤ-+ℤ}
use Rattle.ints.specs.Laws.{+ℤ-left-comm, +ℤ-swap, *ℤ-assoc, *ℤ-left-comm, *ℤ-swap, *ℤ-distribl, *ℤ-distribr, negℤ-*ℤ, *ℤ-idl, *ℤ-idr}
use Rattle.ints.specs.Ring.{Expr, var, lit, neg, ◌⊕◌, ◌⊖◌, ◌⊗◌, at, eval, Mono, unit, ◌·◌, Poly, nil, term, cmp, ins_m, mul_m, term_nZ, ins_p, add_p, mul_tP, mul_p, neg_p, norm}

-- ---- soundness
module _ (ρ : List ℤ) where
  abbrev eval_m : Mono → ℤ
  eval_m unit = pos 1
  eval_m (i · m) = at ρ i *ℤ eval_m m

  abbrev eval_p : Poly → ℤ
  eval_p nil = pos zero
  eval_p (term c m p) = c *ℤ eval_m m +ℤ eval_p p

  ins_m_sound : (i : ℕ) (k : Mono → Mono) (a : ℤ) → ((x : Mono) → eval_m (k x) ≡ a *ℤ eval_m x) → (n : Mono) → eval_m (ins_m i k n) ≡ at ρ i *ℤ a *ℤ eval_m n
  ins_m_sound i k a h unit = ap (λ z. at ρ i *ℤ z) (h unit) ∙ sym (*ℤ-assoc (at ρ i) a (pos 1))
  ins_m_sound i k a h (j · n) = go (ins_m_sound i k a h n) (compare i j)
    where
      here : eval_m (i · k (j · n)) ≡ at ρ i *ℤ a *ℤ eval_m (j · n)
      here = ap (λ z. at ρ i *ℤ z) (h (j · n)) ∙ sym (*ℤ-assoc (at ρ i) a (eval_m (j · n)))

      go : eval_m (ins_m i k n) ≡ at ρ i *ℤ a *ℤ eval_m n → (o : Ordering)
          → eval_m (elim o [ Ordering.lt ↦ i · k (j · n) | Ordering.eq ↦ i · k (j · n) | Ordering.gt ↦ j · ins_m i k n ]) ≡ at ρ i *ℤ a *ℤ eval_m (j · n)
      go ih Ordering.lt = here
      go ih Ordering.eq = here
      go ih Ordering.gt = ap (λ z. at ρ j *ℤ z) ih ∙ *ℤ-left-comm (at ρ j) (at ρ i *ℤ a) (eval_m n)

  mul_m_sound : (m n : Mono) → eval_m (mul_m m n) ≡ eval_m m *ℤ eval_m n
  mul_m_sound unit n = sym (*ℤ-idl (eval_m n))
  mul_m_sound (i · m) n = ins_m_sound i (λ x. mul_m m x) (eval_m m) (mul_m_sound m) n

  -- what `cmp` takes for equal is equal
  cmp_eq : (m n : Mono) → T (compare_is_eq (cmp m n)) → m ≡ n
  cmp_eq unit unit t = refl
  cmp_eq unit (j · n) t = absurd t
  cmp_eq (i · m) unit t = absurd t
  cmp_eq (i · m) (j · n) t = go (cmp_eq m n) (compare i j) (eqb→eq i j) t
    where
      go : (T (compare_is_eq (cmp m n)) → m ≡ n) → (o : Ordering) → (T (compare_is_eq o) → i ≡ j) → T (compare_is_eq (elim o [ Ordering.lt ↦ Ordering.lt | Ordering.eq ↦ cmp m n | Ordering.gt ↦ Ordering.gt ])) → i · m ≡ j · n
      go ih Ordering.lt e t = absurd t
      go ih Ordering.eq e t = ap₂ ◌·◌ (e tt) (ih t)
      go ih Ordering.gt e t = absurd t

  term_nZ_sound : (c : ℤ) (m : Mono) (p : Poly) → eval_p (term_nZ c m p) ≡ c *ℤ eval_m m +ℤ eval_p p
  term_nZ_sound (pos zero) m p = sym (ap (λ z. z +ℤ eval_p p) (zero-*ℤ (eval_m m)) ∙ +ℤ_idl (eval_p p))
  term_nZ_sound (pos (suc a)) m p = refl
  term_nZ_sound (negsuc a) m p = refl

  ins_p_sound : (c : ℤ) (m : Mono) (k : Poly → Poly) (a : ℤ) → ((x : Poly) → eval_p (k x) ≡ a +ℤ eval_p x) → (q : Poly) → eval_p (ins_p c m k q) ≡ c *ℤ eval_m m +ℤ a +ℤ eval_p q
  ins_p_sound c m k a h nil = ap (λ z. c *ℤ eval_m m +ℤ z) (h nil) ∙ sym (+ℤ_assoc (c *ℤ eval_m m) a (pos zero))
  ins_p_sound c m k a h (term d n q) = go (ins_p_sound c m k a h q) (cmp m n) (cmp_eq m n)
    where
      both : m ≡ n → (c +ℤ d) *ℤ eval_m m +ℤ (a +ℤ eval_p q) ≡ c *ℤ eval_m m +ℤ a +ℤ (d *ℤ eval_m n +ℤ eval_p q)
      both e = ap (λ z. z +ℤ (a +ℤ eval_p q)) (*ℤ-distribr c d (eval_m m) ∙ ap (λ z. c *ℤ eval_m m +ℤ d *ℤ eval_m z) e) ∙ +ℤ-swap (c *ℤ eval_m m) (d *ℤ eval_m n) a (eval_p q)

      go : eval_p (ins_p c m k q) ≡ c *ℤ eval_m m +ℤ a +ℤ eval_p q → (o : Ordering) → (T (compare_is_eq o) → m ≡ n)
          → eval_p (elim o [ Ordering.lt ↦ term c m (k (term d n q)) | Ordering.eq ↦ term_nZ (c +ℤ d) m (k q) | Ordering.gt ↦ term d n (ins_p c m k q) ]) ≡ c *ℤ eval_m m +ℤ a +ℤ (d *ℤ eval_m n +ℤ eval_p q)
      go ih Ordering.lt e = ap (λ z. c *ℤ eval_m m +ℤ z) (h (term d n q)) ∙ sym (+ℤ_assoc (c *ℤ eval_m m) a (d *ℤ eval_m n +ℤ eval_p q))
      go ih Ordering.eq e = term_nZ_sound (c +ℤ d) m (k q) ∙ ap (λ z. (c +ℤ d) *ℤ eval_m m +ℤ z) (h q) ∙ both (e tt)
      go ih Ordering.gt e = ap (λ z. d *ℤ eval_m n +ℤ z) ih ∙ +ℤ-left-comm (d *ℤ eval_m n) (c *ℤ eval_m m +ℤ a) (eval_p q)

  add_p_sound : (p q : Poly) → eval_p (add_p p q) ≡ eval_p p +ℤ eval_p q
  add_p_sound nil q = sym (+ℤ_idl (eval_p q))
  add_p_sound (term c m p) q = ins_p_sound c m (λ x. add_p p x) (eval_p p) (add_p_sound p) q

  mul_tP_sound : (c : ℤ) (m : Mono) (q : Poly) → eval_p (mul_tP c m q) ≡ c *ℤ eval_m m *ℤ eval_p q
  mul_tP_sound c m nil = sym (*ℤ-zero (c *ℤ eval_m m))
  mul_tP_sound c m (term d n q) =
      ap₂ ◌+ℤ◌ (ap (λ z. c *ℤ d *ℤ z) (mul_m_sound m n) ∙ *ℤ-swap c d (eval_m m) (eval_m n)) (mul_tP_sound c m q)
      ∙ sym (*ℤ-distribl (c *ℤ eval_m m) (d *ℤ eval_m n) (eval_p q))

  mul_p_sound : (p q : Poly) → eval_p (mul_p p q) ≡ eval_p p *ℤ eval_p q
  mul_p_sound nil q = sym (zero-*ℤ (eval_p q))
  mul_p_sound (term c m p) q =
      add_p_sound (mul_tP c m q) (mul_p p q) ∙ ap₂ ◌+ℤ◌ (mul_tP_sound c m q) (mul_p_sound p q)
      ∙ sym (*ℤ-distribr (c *ℤ eval_m m) (eval_p p) (eval_p q))

  neg_p_sound : (p : Poly) → eval_p (neg_p p) ≡ neg_ℤ (eval_p p)
  neg_p_sound nil = refl
  neg_p_sound (term c m p) = ap₂ ◌+ℤ◌ (negℤ-*ℤ c (eval_m m)) (neg_p_sound p) ∙ sym (neg_ℤ-+ℤ (c *ℤ eval_m m) (eval_p p))

  norm_sound : (e : Expr) → eval_p (norm e) ≡ eval ρ e
  norm_sound (var i) = +ℤ_idr _ ∙ *ℤ-idl _ ∙ *ℤ-idr (at ρ i)
  norm_sound (lit z) = term_nZ_sound z unit nil ∙ +ℤ_idr _ ∙ *ℤ-idr z
  norm_sound (neg a) = neg_p_sound (norm a) ∙ ap neg_ℤ (norm_sound a)
  norm_sound (a ⊕ b) = add_p_sound (norm a) (norm b) ∙ ap₂ ◌+ℤ◌ (norm_sound a) (norm_sound b)
  norm_sound (a ⊖ b) = add_p_sound (norm a) (neg_p (norm b)) ∙ ap₂ ◌+ℤ◌ (norm_sound a) (neg_p_sound (norm b) ∙ ap neg_ℤ (norm_sound b))
  norm_sound (a ⊗ b) = mul_p_sound (norm a) (norm b) ∙ ap₂ ◌*ℤ◌ (norm_sound a) (norm_sound b)

  -- by the difference, so that a hole shows what is left of it
  pub ring-0 : (a b : Expr) → norm (a ⊖ b) ≡ nil → eval ρ a ≡ eval ρ b
  ring-0 a b e =
      sym (+ℤ_idr (eval ρ a)) ∙ ap (λ z. eval ρ a +ℤ z) (sym (+ℤ_invl (eval ρ b))) ∙ sym (+ℤ_assoc (eval ρ a) (neg_ℤ (eval ρ b)) (eval ρ b))
      ∙ ap (λ z. z +ℤ eval ρ b) (sym (norm_sound (a ⊖ b)) ∙ ap eval_p e) ∙ +ℤ_idl (eval ρ b)
