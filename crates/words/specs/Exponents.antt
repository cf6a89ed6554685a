-- Exponents read one by one: each below the one before, the first below 64.
--
--   summed bound sum split   what the parts left mean, after a sum that was read and an exponent that they have to stay below
--
-- Assumes nothing.
use Rattle.std.specs.Prelude.{◌≡◌, refl, Bool, true, false, cond, ◌&&◌, List, [], ◌∷◌, map, ℕ, suc, ◌+◌, ◌-◌, ◌^◌, ◌≤◌, ◌<◌, ltb, take, drop, Option, None, Some}
use Rattle.std.proofs.Math.Path.{sym}
use Rattle.std.proofs.Common.{ap, ◌∙◌, add-zero, zero-add, add_assoc, pow-suc, arith, pow_mono, pow_pos, lt-ltb, ltb-true}
use Rattle.std.proofs.Math.Bool.{and-false}
use Rattle.std.proofs.Math.ListN.{length}
use Rattle.words.specs.Notation.{digits_only, value, spells, number_in, parts, exponent, every_exponent, falling, powers, exponents_of, number_of, polynomial_of}
use Rattle.words.specs.Spelling.{spells_has, number_spelled, has_spells, unclear_unspelled}
use Rattle.words.specs.Parts.{first_size, later_parts, parts-some, part-first, part-last, part-later}

unfoldable pub summed : (bound sum : ℕ) → List (List ℕ) → Option ℕ
summed bound sum [] = Some sum
summed bound sum (part ∷ rest) = cond (spells 10 bound part) (summed (value 10 part) (sum + 2 ^ value 10 part) rest) None

-- ---- what it sums

summed-falling : (bound sum : ℕ) (split : List (List ℕ)) → bound ≤ 64
    → summed bound sum split ≡ cond (every_exponent split && falling (bound ∷ map (value 10) split)) (Some (sum + powers (map (value 10) split))) None
unfolding summed every_exponent falling powers exponent spells
summed-falling bound sum [] h = ap Some (sym (add-zero sum))
summed-falling bound sum (part ∷ rest) h = go (ltb 0 (length part)) (digits_only 10 part) (ltb (value 10 part) bound) refl refl refl (summed-falling (value 10 part) (sum + 2 ^ value 10 part) rest)
  where
    go : (a b c : Bool) → ltb 0 (length part) ≡ a → digits_only 10 part ≡ b → ltb (value 10 part) bound ≡ c
        → (value 10 part ≤ 64 → summed (value 10 part) (sum + 2 ^ value 10 part) rest
        ≡ cond (every_exponent rest && falling (value 10 part ∷ map (value 10) rest)) (Some (sum + 2 ^ value 10 part + powers (map (value 10) rest))) None)
        → summed bound sum (part ∷ rest)
        ≡ cond (every_exponent (part ∷ rest) && falling (bound ∷ map (value 10) (part ∷ rest))) (Some (sum + powers (map (value 10) (part ∷ rest)))) None
    go true true true ea eb ec ih =
        let l : value 10 part < bound = ltb-true (value 10 part) bound ec in
        rw (ea, eb, ec, lt-ltb (value 10 part) 64 (omega arith), ← add_assoc) (ih (omega arith))
    go true true false ea eb ec ih = rw (ea, eb, ec, and-false)
    go true false c ea eb ec ih = rw (ea, eb)
    go false b c ea eb ec ih = rw ea

pub summed-exponents : (split : List (List ℕ)) → summed 64 0 split ≡ exponents_of split
unfolding exponents_of every_exponent falling powers exponent spells
summed-exponents [] = summed-falling 64 0 [] (omega arith)
summed-exponents (part ∷ rest) = summed-falling 64 0 (part ∷ rest) (omega arith) ∙ go (ltb 0 (length part)) (digits_only 10 part) (ltb (value 10 part) 64) refl refl refl
  where
    go : (a b c : Bool) → ltb 0 (length part) ≡ a → digits_only 10 part ≡ b → ltb (value 10 part) 64 ≡ c
        → cond (every_exponent (part ∷ rest) && falling (64 ∷ map (value 10) (part ∷ rest))) (Some (0 + powers (map (value 10) (part ∷ rest)))) None ≡ exponents_of (part ∷ rest)
    go true true true ea eb ec = rw (ea, eb, ec, zero-add)
    go true true false ea eb ec = rw (ea, eb, ec)
    go true false c ea eb ec = rw (ea, eb)
    go false b c ea eb ec = rw ea

-- ---- one part more

pub summed_stop : (bound sum : ℕ) (part : List ℕ) (rest : List (List ℕ)) → number_in 10 bound part ≡ None → summed bound sum (part ∷ rest) ≡ None
unfolding summed
summed_stop bound sum part rest n = rw (unclear_unspelled 10 bound part n)

pub summed-more : (bound sum v : ℕ) (part : List ℕ) (rest : List (List ℕ)) → number_in 10 bound part ≡ Some v
    → summed bound sum (part ∷ rest) ≡ summed v (sum + 2 ^ v) rest
unfolding summed
summed-more bound sum v part rest n =
    let s = number_spelled 10 bound part v n in
    rw (has_spells 10 bound part s.0, s.1)

-- the sum of falling powers keeps room for the power of the exponent that they stay below
pub sum_room : (bound sum v : ℕ) → v < bound → sum + 2 ^ bound ≤ 2 ^ 64 → sum + 2 ^ v + 2 ^ v ≤ 2 ^ 64
sum_room bound sum v l h = let m : 2 ^ suc v ≤ 2 ^ bound = pow_mono l in omega (arith, m, pow-suc 2 v)

pub summed-below : (bound sum v : ℕ) (split : List (List ℕ)) → sum + 2 ^ bound ≤ 2 ^ 64 → summed bound sum split ≡ Some v → v < 2 ^ 64
unfolding summed
summed-below bound sum v [] h n = let q : v ≡ sum = cc in omega (arith, pow_pos bound)
summed-below bound sum v (part ∷ rest) h n = go (spells 10 bound part) refl (summed-below (value 10 part) (sum + 2 ^ value 10 part) v rest)
  where
    go : (b : Bool) → spells 10 bound part ≡ b
        → (sum + 2 ^ value 10 part + 2 ^ value 10 part ≤ 2 ^ 64 → summed (value 10 part) (sum + 2 ^ value 10 part) rest ≡ Some v → v < 2 ^ 64)
        → v < 2 ^ 64
    go true e ih =
        let m : summed (value 10 part) (sum + 2 ^ value 10 part) rest ≡ Some v = rw e at n in
        ih (sum_room bound sum (value 10 part) (spells_has 10 bound part e).below h) m
    go false e ih =
        let m : None ≡ Some v = rw e at n in
        let z : ◌≡◌ {A = ℕ} 0 1 = cc in
        absurd (omega arith)

-- ---- the turns of the loop

module _ (word : List ℕ) (start end : ℕ) (h : start ≤ length word) (e : end ≡ start + first_size (drop start word))
    (bound sum : ℕ) (inv : summed bound sum (parts (drop start word)) ≡ exponents_of (parts word)) where
  pub exponents_stop : number_in 10 bound (take (end - start) (drop start word)) ≡ None → None ≡ exponents_of (parts word)
  exponents_stop n =
      sym (rw (part-first word start end h e) (summed_stop bound sum (take (end - start) (drop start word)) (later_parts (drop start word)) n)) ∙ inv

  module _ (v : ℕ) (n : number_in 10 bound (take (end - start) (drop start word)) ≡ Some v) where
    pub exponents-last : end ≡ length word → Some (sum + 2 ^ v) ≡ exponents_of (parts word)
    unfolding summed
    exponents-last l =
        sym (rw (part-first word start end h e, summed-more bound sum v (take (end - start) (drop start word)) (later_parts (drop start word)) n, part-last word start end h e l)) ∙ inv

    pub exponents-later : (end ≡ length word → ⊥) → summed v (sum + 2 ^ v) (parts (drop (end + 1) word)) ≡ exponents_of (parts word)
    exponents-later l =
        sym (rw (part-first word start end h e, summed-more bound sum v (take (end - start) (drop start word)) (later_parts (drop start word)) n, part-later word start end h e l)) ∙ inv

-- ---- numbers and exponents

module _ (word : List ℕ) (end : ℕ) (e : end ≡ 0 + first_size (drop 0 word)) where
  pub polynomial-number : end ≡ length word → number_of word ≡ polynomial_of word
  unfolding polynomial_of
  polynomial-number l = rw (part-first word 0 end (omega arith) e, part-last word 0 end (omega arith) e l)

  pub polynomial-exponents : (end ≡ length word → ⊥) → exponents_of (parts word) ≡ polynomial_of word
  unfolding polynomial_of
  polynomial-exponents l =
      let h : 1 < length (parts word) =
      rw (part-first word 0 end (omega arith) e, part-later word 0 end (omega arith) e l) (omega (arith, parts-some (drop (end + 1) word))) in
      rw (lt-ltb 1 (length (parts word)) h)
