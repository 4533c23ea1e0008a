-- From a float's size to the answer that it may get.
-- Each law is the answer of one way out of `scan_pattern` and of its two parts.
use Prim.Native.Nat.{ℕ}
use mathlib.Core.Path.{◌≡◌, refl, sym, subst}
use mathlib.Core.Bool.{Bool, true, false}
use mathlib.Core.Logic.{inl, inr}
use native.Mathlib.Omega.{arith}
use lib.IntN.{pos}
use lib.Ieee.{Float, of_fields, of_bits, binary32}
use Rattle.limits.specs.Limits
use Rattle.scans.specs.Scanned.{Scan}
use Rattle.scans.specs.Floats.{with_sign, NotFinite, NotWhole}
use Rattle.scans.specs.Scanned.{ScannedAs, TakenAs}
use Rattle.scans.specs.Signs.{nat_abs_signed}
use Rattle.scans.specs.TakenWhen.{beyond, not_beyond}
use Rattle.scans.proofs.Fields.{minus, exponent, digits, of_bits_lem}
use Rattle.scans.proofs.Sized.{Sized, finite, in_steps_lem}

abbrev pub refused : ℕ → Scan
refused n = record { number = n; steps = pos 0 }

pub not_finite_lem : {x : Float} → NotFinite x → ScannedAs x (refused Limits.not_finite)
not_finite_lem h = record { number = inl (h, refl); steps = λ e. absurd (omega arith); zero = λ _. refl }

pub not_whole_lem : {x : Float} → NotWhole x → ScannedAs x (refused Limits.not_whole)
not_whole_lem h = record { number = inr (h.0, inl (h, refl)); steps = λ e. absurd (omega arith); zero = λ _. refl }

-- n steps, in range or not
pub whole : {x : Float} {s : Bool} {n : ℕ} {r : Scan} → Sized x s n 1 → TakenAs s n r → ScannedAs x r
whole {x} {s} {n} v (inl t) = subst (ScannedAs x) (sym t.1) (record {
  number = inr (finite v, inr ((λ w. w.1 (with_sign s n) (in_steps_lem v)), inl (beyond x (with_sign s n) (in_steps_lem v) (rw (nat_abs_signed s n) t.0), refl)));
  steps = λ e. absurd (omega arith);
  zero = λ _. refl;
})
whole {x} {s} {n} v (inr t) = subst (ScannedAs x) (sym t.1) (record {
  number = inr (finite v, inr ((λ w. w.1 (with_sign s n) (in_steps_lem v)), inr (not_beyond x (with_sign s n) (in_steps_lem v) (rw (nat_abs_signed s n) t.0), refl)));
  steps = λ _. in_steps_lem v;
  zero = λ f. absurd (f refl);
})

-- a zero of either sign
pub no_steps : {x : Float} {s : Bool} → Sized x s 0 1 → ScannedAs x (record { number = Limits.done; steps = pos 0 })
no_steps {s} v = whole v (inr (omega arith, none s))
  where
    none : (s : Bool) → ◌≡◌ {A = Scan} (record { number = Limits.done; steps = pos 0 }) (record { number = Limits.done; steps = with_sign s 0 })
    none true = refl
    none false = refl

-- an answer for the fields is one for the pattern
pub as_pattern : (n : ℕ) {r : Scan} → ScannedAs (of_fields binary32 (minus n) (exponent n) (digits n)) r → ScannedAs (of_bits binary32 n) r
as_pattern n {r} h = subst (λ (x : Float). ScannedAs x r) (sym (of_bits_lem n)) h
