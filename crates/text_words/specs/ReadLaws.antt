-- Laws of a run of numbers: `Done` is what stands at each word, with each way to go on from there.
-- Two answers that are allowed for one text and room are equal (`listed_once`).
use Rattle.std.specs.Prelude.{ℕ, suc, ◌≤◌, ◌<◌, ◌+◌, ◌-◌, ◌≡◌, refl, List, [], ◌∷◌, ◌++◌, ◌⊎◌, ℤ, length, get_or, drop, set, Option, Some, None}
use Rattle.std.proofs.Common.{sym, ap, ap₂, ◌∙◌, subst, inl, inr, add-one, arith, length-append, length-drop, drop-cons}
use Rattle.std.proofs.lemmas.List.{set_at}
use Rattle.std.proofs.Math.Seq.{append_snoc}
use Rattle.text_number.specs.Numbers.{Reads}
use Rattle.text_number.specs.NumberLaws.{spells_once}
use Rattle.text_words.specs.Words.{words_of, AreNumbers, filled, Stuck, Listed}

-- the words before `left` are n numbers, and they stand in the room
pub record Done (text left : List ℕ) (room now : List ℤ) (n : ℕ) : Type 0 where
  pub words : List (List ℕ)
  pub values : List ℤ
  pub cut : words_of text ≡ words ++ words_of left
  pub numbers : AreNumbers words values
  pub count : n ≡ length values
  pub fits : n ≤ length room
  pub is : now ≡ filled values room

pub done_none : (text : List ℕ) (room : List ℤ) → Done text text room room 0
done_none text room = record { words = []; values = []; cut = refl; numbers = tt; count = refl; fits = omega arith; is = refl }

numbers_snoc : (ws : List (List ℕ)) (vs : List ℤ) (w : List ℕ) (v : ℤ) → AreNumbers ws vs → Reads w (Some v) → AreNumbers (ws ++ (w ∷ [])) (vs ++ (v ∷ []))
numbers_snoc [] [] w v h r = (r, tt)
numbers_snoc [] (x ∷ vs) w v h r = absurd h
numbers_snoc (u ∷ ws) [] w v h r = absurd h
numbers_snoc (u ∷ ws) (x ∷ vs) w v h r = (h.0, numbers_snoc ws vs w v h.1 r)

filled_more : (vs room : List ℤ) (v : ℤ) → length vs < length room → set (filled vs room) (length vs) v ≡ filled (vs ++ (v ∷ [])) room
filled_more vs room v h =
    let n : length (vs ++ (v ∷ [])) ≡ suc (length vs) = length-append vs (v ∷ []) ∙ add-one (length vs) in
    ap (λ (l : List ℤ). set (vs ++ l) (length vs) v) (drop-cons room (length vs) v h)
    ∙ set_at vs (get_or room (length vs) v) (drop (suc (length vs)) room) v (length vs) refl
    ∙ sym (append_snoc vs v (drop (suc (length vs)) room))
    ∙ ap (λ (k : ℕ). vs ++ (v ∷ []) ++ drop k room) (sym n)

module _ {text left : List ℕ} {room now : List ℤ} {n : ℕ} (d : Done text left room now n) where
  pub done_length : length now ≡ length room
  done_length = ap length d.is ∙ omega (arith, length-append d.values (drop (length d.values) room), length-drop (length d.values) room, d.count, d.fits)

  stuck_at : (next : List ℕ) (rest : List (List ℕ)) → words_of left ≡ next ∷ rest → Reads next None ⊎ (n ≡ length room) → Stuck text room now
  stuck_at next rest e s = record {
    words = d.words;
    values = d.values;
    next = next;
    rest = rest;
    cut = d.cut ∙ ap (λ (l : List (List ℕ)). d.words ++ l) e;
    numbers = d.numbers;
    fits = omega (arith, d.count, d.fits);
    left = d.is;
    stuck = full s;
  }
    where
      full : Reads next None ⊎ (n ≡ length room) → Reads next None ⊎ (length d.values ≡ length room)
      full (inl b) = inl b
      full (inr e) = inr (sym d.count ∙ e)

  pub done_bad : (next : List ℕ) (rest : List (List ℕ)) → words_of left ≡ next ∷ rest → Reads next None → Stuck text room now
  done_bad next rest e b = stuck_at next rest e (inl b)

  pub done_full : (next : List ℕ) (rest : List (List ℕ)) → words_of left ≡ next ∷ rest → length room ≤ n → Stuck text room now
  done_full next rest e h = stuck_at next rest e (inr (omega (arith, d.fits)))

  more-is : (v : ℤ) → n < length room → set now n v ≡ filled (d.values ++ (v ∷ [])) room
  more-is v h =
      ap (λ (l : List ℤ). set l n v) d.is
      ∙ ap (λ (k : ℕ). set (filled d.values room) k v) d.count
      ∙ filled_more d.values room v (omega (arith, d.count))

  more_count : (v : ℤ) → n + 1 ≡ length (d.values ++ (v ∷ []))
  more_count v = omega (arith, d.count, length-append d.values (v ∷ []))

  pub done_more : (next after : List ℕ) (v : ℤ) → words_of left ≡ next ∷ words_of after → Reads next (Some v) → n < length room → Done text after room (set now n v) (n + 1)
  done_more next after v e r h = record {
    words = d.words ++ (next ∷ []);
    values = d.values ++ (v ∷ []);
    cut = d.cut ∙ ap (λ (l : List (List ℕ)). d.words ++ l) e ∙ sym (append_snoc d.words next (words_of after));
    numbers = numbers_snoc d.words d.values next v d.numbers r;
    count = more_count v;
    fits = omega arith;
    is = more-is v h;
  }

  pub done_last : (next : List ℕ) (v : ℤ) → words_of left ≡ next ∷ [] → Reads next (Some v) → n < length room → Listed text room (set now n v) (Some (n + 1))
  done_last next v e r h = (
    d.values ++ (v ∷ []),
    subst (λ (l : List (List ℕ)). AreNumbers l (d.values ++ (v ∷ []))) (sym (d.cut ∙ ap (λ (l : List (List ℕ)). d.words ++ l) e)) (numbers_snoc d.words d.values next v d.numbers r),
    more_count v,
    omega arith,
    more-is v h,
  )

-- ---- one answer: where a run of numbers stops, another does not go on
abbrev StopsAt : List ℕ → ℕ → ℕ → Type 0
StopsAt next k room = Reads next None ⊎ (k ≡ room)

goes_on : (next : List ℕ) (room : ℕ) (v : ℤ) → StopsAt next 0 room → Reads next (Some v) → 0 < room → ⊥
goes_on next room v (inl b) r h = b v r.0 r.1
goes_on next room v (inr e) r h = omega arith

stopped : (n m : List ℕ) (r s us : List (List ℕ)) (xs : List ℤ) (room : ℕ) → AreNumbers us xs → length xs ≤ room → n ∷ r ≡ us ++ m ∷ s → StopsAt n 0 room → [] ≡ xs
stopped n m r s [] [] room h f e t = refl
stopped n m r s [] (x ∷ xs) room h f e t = absurd h
stopped n m r s (u ∷ us) [] room h f e t = absurd h
stopped n m r s (u ∷ us) (x ∷ xs) room h f e t =
    let k : n ≡ u = cc in
    absurd (goes_on n room x t (subst (λ (w : List ℕ). Reads w (Some x)) (sym k) h.0) (omega arith))

pred_stops : (next : List ℕ) (k room : ℕ) → StopsAt next (suc k) room → StopsAt next k (room - 1)
pred_stops next k room (inl b) = inl b
pred_stops next k room (inr e) = inr (omega arith)

module _ (n m : List ℕ) (r s : List (List ℕ)) where
  same_run : (room : ℕ) (ws us : List (List ℕ)) (vs xs : List ℤ) → AreNumbers ws vs → AreNumbers us xs → length vs ≤ room → length xs ≤ room
      → ws ++ n ∷ r ≡ us ++ m ∷ s → StopsAt n (length vs) room → StopsAt m (length xs) room → vs ≡ xs
  same_run room [] us [] xs h g f k e t q = stopped n m r s us xs room g k e t
  same_run room [] us (v ∷ vs) xs h g f k e t q = absurd h
  same_run room (w ∷ ws) us [] xs h g f k e t q = absurd h
  same_run room (w ∷ ws) [] (v ∷ vs) [] h g f k e t q = sym (stopped m n s r (w ∷ ws) (v ∷ vs) room h f (sym e) q)
  same_run room (w ∷ ws) [] (v ∷ vs) (x ∷ xs) h g f k e t q = absurd g
  same_run room (w ∷ ws) (u ∷ us) (v ∷ vs) [] h g f k e t q = absurd g
  same_run room (w ∷ ws) (u ∷ us) (v ∷ vs) (x ∷ xs) h g f k e t q =
      let i : u ≡ w = cc in
      let j : ws ++ n ∷ r ≡ us ++ m ∷ s = cc in
      let a = spells_once h.0.0 (subst (λ (l : List ℕ). Reads l (Some x)) i g.0).0 in
      ap₂ (λ (y : ℤ) (ys : List ℤ). y ∷ ys) a (same_run (room - 1) ws us vs xs h.1 g.1 (omega arith) (omega arith) j (pred_stops n (length vs) room t) (pred_stops m (length xs) room q))

pub numbers_once : (ws : List (List ℕ)) (vs xs : List ℤ) → AreNumbers ws vs → AreNumbers ws xs → vs ≡ xs
numbers_once [] [] [] h g = refl
numbers_once [] [] (x ∷ xs) h g = absurd g
numbers_once [] (v ∷ vs) xs h g = absurd h
numbers_once (w ∷ ws) [] xs h g = absurd h
numbers_once (w ∷ ws) (v ∷ vs) [] h g = absurd g
numbers_once (w ∷ ws) (v ∷ vs) (x ∷ xs) h g = ap₂ (λ (y : ℤ) (ys : List ℤ). y ∷ ys) (spells_once h.0.0 g.0.0) (numbers_once ws vs xs h.1 g.1)

-- no run stops before all of them are read
module _ (m : List ℕ) (s : List (List ℕ)) where
  all_read : (room : ℕ) (ws us : List (List ℕ)) (vs xs : List ℤ) → AreNumbers ws vs → AreNumbers us xs → length vs ≤ room → ws ≡ us ++ m ∷ s → StopsAt m (length xs) room → ⊥
  all_read room [] [] vs xs h g f e q = let z : ◌≡◌ {A = ℕ} 0 1 = cc in omega arith
  all_read room [] (u ∷ us) vs xs h g f e q = let z : ◌≡◌ {A = ℕ} 0 1 = cc in omega arith
  all_read room (w ∷ ws) us [] xs h g f e q = absurd h
  all_read room (w ∷ ws) [] (v ∷ vs) [] h g f e q = let i : w ≡ m = cc in goes_on m room v q (subst (λ (l : List ℕ). Reads l (Some v)) i h.0) (omega arith)
  all_read room (w ∷ ws) [] (v ∷ vs) (x ∷ xs) h g f e q = g
  all_read room (w ∷ ws) (u ∷ us) (v ∷ vs) [] h g f e q = g
  all_read room (w ∷ ws) (u ∷ us) (v ∷ vs) (x ∷ xs) h g f e q =
      let j : ws ≡ us ++ m ∷ s = cc in
      all_read (room - 1) ws us vs xs h.1 g.1 (omega arith) j (pred_stops m (length xs) room q)

pub never_stuck : {text : List ℕ} {room exit : List ℤ} → Stuck text room exit → (values : List ℤ) → AreNumbers (words_of text) values → length values ≤ length room → ⊥
never_stuck {text} {room} s values h f = all_read s.next s.rest (length room) (words_of text) s.words values s.values h s.numbers f s.cut s.stuck

pub listed_once : (text : List ℕ) (room x y : List ℤ) (q r : Option ℕ) → Listed text room x q → Listed text room y r → (q ≡ r) × (x ≡ y)
listed_once text room x y (Some m) (Some n) a b =
    let e = numbers_once (words_of text) a.0 b.0 a.1 b.1 in
    (ap Some (a.2 ∙ ap length e ∙ sym b.2), a.4 ∙ ap (λ (vs : List ℤ). filled vs room) e ∙ sym b.4)
listed_once text room x y (Some m) None a b = absurd (never_stuck b a.0 a.1 (omega (arith, a.2, a.3)))
listed_once text room x y None (Some n) a b = absurd (never_stuck a b.0 b.1 (omega (arith, b.2, b.3)))
listed_once text room x y None None a b =
    let e = same_run a.next b.next a.rest b.rest (length room) a.words b.words a.values b.values a.numbers b.numbers a.fits b.fits (sym a.cut ∙ b.cut)
    a.stuck b.stuck in
    (refl, a.left ∙ ap (λ (vs : List ℤ). filled vs room) e ∙ sym b.left)
