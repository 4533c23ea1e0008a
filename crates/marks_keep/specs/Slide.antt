-- A mark slides to where its key belongs: what finding its cell, carrying it down and up, and the whole slide promise.
-- While it is carried its cell is a gap; the cells without the gap stay the same list.
use Rattle.std.specs.Prelude.{◌≡◌, List, [], ◌∷◌, ℕ, zero, suc, ◌≤◌, ◌<◌, length, get_or, set}
use Rattle.marks.specs.Keys.{key_of}
use Rattle.marks.specs.Sorted.{Fine, Sorted, keyed}

-- the list without its cell i
unfoldable pub without : ℕ → List ℕ → List ℕ
without i [] = []
without zero (x ∷ xs) = xs
without (suc i) (x ∷ xs) = x ∷ without i xs

-- the first cell that holds this, or the last
pub record Found (v : ℕ) (part : List ℕ) (cell : ℕ) : Type 0 where
  pub inside : cell < length part
  pub before : (q : ℕ) → q < cell → get_or part q 0 ≡ v → ⊥
  pub there : suc cell < length part → get_or part cell 0 ≡ v

-- the gap has gone down to where nothing of a larger key stands right below it
pub record CarriedDown (e : ℕ → ℕ) (key from : ℕ) (before after : List ℕ) (cell : ℕ) : Type 0 where
  pub inside : cell < length after
  pub rest : without cell after ≡ without from before
  pub below : (q : ℕ) → suc q ≡ cell → e (get_or after q 0) ≤ key

-- the gap has gone up to where nothing of a smaller key stands right above it; what stands right below it is as it was, or was passed
pub record CarriedUp (e : ℕ → ℕ) (key from : ℕ) (before after : List ℕ) (cell : ℕ) : Type 0 where
  pub inside : cell < length after
  pub rest : without cell after ≡ without from before
  pub below : ((q : ℕ) → suc q ≡ from → e (get_or before q 0) ≤ key) → (q : ℕ) → suc q ≡ cell → e (get_or after q 0) ≤ key
  pub above : suc cell < length after → key ≤ e (get_or after (suc cell) 0)

-- one mark's key is new: the part is sorted by the new keys if it was by the old ones
pub record Slid (mark key : ℕ) (keys keys' before after : List ℕ) : Type 0 where
  pub put : keys' ≡ set keys mark key
  pub stays : Fine (key_of keys) → Fine (key_of keys') → Sorted (key_of keys) (keyed (key_of keys)) before → Sorted (key_of keys') (keyed (key_of keys')) after
