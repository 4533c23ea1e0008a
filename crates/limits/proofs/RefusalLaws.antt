-- No two refusals have one number (`number_once`), and none has the number of what is done (`number_some`).
-- So two answers with one number are one answer, where their values are equal too (`result_once`).
-- And the order that the refusals derive is that of their numbers, so that `min` of two is the lower (`min_is`).
use Rattle.std.specs.Prelude.{◌≡◌, refl, ◌<◌, suc, List, [], ◌∷◌, cond, ltb, Result, Ok, Err}
use Rattle.std.specs.Ordering.{is_lt, ord_min}
use Rattle.std.specs.Cmp.Derive.{points}
use Rattle.std.proofs.Common.{sym, ap, ap₂, ◌∙◌, inl, inr, arith, rules, Less, Greater, Equal}
use Rattle.std.proofs.lemmas.Bool.Decides.{nat_tests}
use lib.Dec.{leb-suc-suc}
use denote.Struct.Field.{Field}
use denote.Enum.Bare.{tag_one}
use denote.Enum.Compared.{by}
use denote.Enum.Declared.{Choice, rowss, intoss, tag_of}
use denote.Enum.Enum.{tag}
use Rattle.limits.specs.Refusals.{number_of, answer_number}
use Rattle.limits.specs.declared.Refusal.{Refusal}
use Rattle.limits.specs.declared.Refusal.TheVariants.{Disorder}
use Rattle.limits.specs.contracts.Refusal.{the_type, enum}
use Rattle.limits.specs.contracts.RefusalOrd.TheImpl as impl

-- the refusals stand in the order of their numbers, from 1 on
in_order : (r : Refusal) → suc (tag_of the_type r) ≡ number_of r
in_order Disorder = refl
in_order r = refl

pub number_once : (q r : Refusal) → number_of q ≡ number_of r → q ≡ r
number_once q r e = tag_one the_type (search rules) q r (omega (arith, in_order q, in_order r, e))

pub number_some : (r : Refusal) → 0 < number_of r
number_some r = omega (arith, in_order r)

-- two answers with one number: the same refusal, or two values, which have to be equal
pub result_once : {A : Type 0} (q r : Result A Refusal) → answer_number q ≡ answer_number r → ((x y : A) → q ≡ Ok x → r ≡ Ok y → x ≡ y) → q ≡ r
result_once (Ok x) (Ok y) e f = ap Ok (f x y refl refl)
result_once (Err q) (Err r) e f = ap Err (number_once q r e)
result_once (Ok x) (Err r) e f = absurd (omega (arith, number_some r))
result_once (Err q) (Ok y) e f = absurd (omega (arith, number_some q))

-- ---- the order
-- the order of an enum whose variants have no fields is that of their places
by_place : (Fss : List (List Field)) (c d : Choice Fss) → is_lt (by Less Greater Fss (points Equal Fss) c d) ≡ ltb (tag (rowss Fss) (intoss Fss c)) (tag (rowss Fss) (intoss Fss d))
by_place [] c d = absurd c
by_place (Fs ∷ Fss) (inl x) (inl y) = refl
by_place (Fs ∷ Fss) (inl x) (inr y) = grind (arith, nat_tests)
by_place (Fs ∷ Fss) (inr x) (inl y) = grind (arith, nat_tests)
by_place (Fs ∷ Fss) (inr x) (inr y) = by_place Fss x y ∙ sym (leb-suc-suc _ _)

-- less by place is less by number
less : (q r : Refusal) → is_lt (impl.cmp-value.it q r) ≡ ltb (number_of q) (number_of r)
less q r =
    by_place enum.parts (enum.as_values q) (enum.as_values r) ∙ sym (leb-suc-suc _ _) ∙ ap₂ ltb (in_order q) (in_order r)

pub min_is : (q r : Refusal) → ord_min impl.cmp-value.it q r ≡ cond (ltb (number_of r) (number_of q)) r q
min_is q r = ap (λ b. cond b r q) (less r q)
