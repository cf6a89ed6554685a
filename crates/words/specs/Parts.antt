-- The parts of a word, one after the other.
--
--   first_size word    how many bytes the first part has
--   later_parts word   the parts after the first
--
-- Assumes nothing.
use Rattle.std.specs.Prelude.{◌≡◌, refl, Bool, true, false, cond, List, [], ◌∷◌, ltb, eqb, length, get_or, take, drop}
use Prim.Native.Nat.{ℕ, suc, ◌+◌, ◌-◌, ◌≤◌, ◌<◌}
use Rattle.std.proofs.Common.{add-one, drop_of_length-le, drop-cons}
use native.Mathlib.Omega.{arith}
use Rattle.std.proofs.Math.Dec.{leb-suc-suc}
use Rattle.std.proofs.Math.ListN.{length-drop}
use Rattle.std.proofs.Math.Seq.{drop-drop}
use borrow.Author.Tests.{lt-ltb, le-ltb, eq-eqb, ne_eqb}
use Rattle.words.specs.Notation.{colon, ahead, parts}

unfoldable pub first_size : List ℕ → ℕ
first_size [] = 0
first_size (byte ∷ bytes) = cond (eqb byte colon) 0 (suc (first_size bytes))

unfoldable pub later_parts : List ℕ → List (List ℕ)
later_parts word = cond (ltb (first_size word) (length word)) (parts (drop (suc (first_size word)) word)) []

-- ---- the first part

pub size-le : (word : List ℕ) → first_size word ≤ length word
unfolding first_size
size-le [] = omega arith
size-le (byte ∷ bytes) = go (eqb byte colon) refl (size-le bytes)
  where
    go : (b : Bool) → eqb byte colon ≡ b → first_size bytes ≤ length bytes → first_size (byte ∷ bytes) ≤ length (byte ∷ bytes)
    go true e ih = rw e (omega arith)
    go false e ih = rw e (omega arith)

pub parts-split : (word : List ℕ) → parts word ≡ take (first_size word) word ∷ later_parts word
unfolding parts first_size later_parts ahead
parts-split [] = refl
parts-split (byte ∷ bytes) = go (eqb byte colon) refl (parts-split bytes)
  where
    go : (b : Bool) → eqb byte colon ≡ b → parts bytes ≡ take (first_size bytes) bytes ∷ later_parts bytes
        → parts (byte ∷ bytes) ≡ take (first_size (byte ∷ bytes)) (byte ∷ bytes) ∷ later_parts (byte ∷ bytes)
    go true e ih = rw (e, lt-ltb 0 (suc (length bytes)) (omega arith))
    go false e ih = rw (e, ih, leb-suc-suc)

pub parts-some : (word : List ℕ) → 0 < length (parts word)
parts-some word = rw (parts-split word) (omega arith)

-- ---- the scan for a colon

module _ (word : List ℕ) (i : ℕ) where
  pub colon-found : i < length word → get_or word i 0 ≡ colon → first_size (drop i word) ≡ 0
  unfolding first_size
  colon-found h e = rw (drop-cons word i 0 h, eq-eqb (get_or word i 0) colon e)

  pub colon_passed : i < length word → (get_or word i 0 ≡ colon → ⊥) → first_size (drop i word) ≡ suc (first_size (drop (i + 1) word))
  unfolding first_size
  colon_passed h e = rw (drop-cons word i 0 h, ne_eqb (get_or word i 0) colon e, add-one)

  pub colon-none : length word ≤ i → first_size (drop i word) ≡ 0
  unfolding first_size
  colon-none h = rw (drop_of_length-le word {i = i} h)

-- ---- the parts from a place on

module _ (word : List ℕ) (start end : ℕ) (h : start ≤ length word) (e : end ≡ start + first_size (drop start word)) where
  pub end-within : end ≤ length word
  end-within = omega (arith, size-le (drop start word), length-drop start word)

  pub part-first : parts (drop start word) ≡ take (end - start) (drop start word) ∷ later_parts (drop start word)
  part-first = let s : end - start ≡ first_size (drop start word) = omega arith in rw s (parts-split (drop start word))

  pub part-last : end ≡ length word → later_parts (drop start word) ≡ []
  unfolding later_parts
  part-last l = rw (le-ltb (first_size (drop start word)) (length (drop start word)) (omega (arith, length-drop start word)))

  pub part-later : (end ≡ length word → ⊥) → later_parts (drop start word) ≡ parts (drop (end + 1) word)
  unfolding later_parts
  part-later l =
      let s : start + suc (first_size (drop start word)) ≡ end + 1 = omega arith in
      rw (lt-ltb (first_size (drop start word)) (length (drop start word)) (omega (arith, end-within, length-drop start word)), drop-drop, s)
