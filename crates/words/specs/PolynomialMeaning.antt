-- What `polynomial_of` means, both ways: the words that mean the polynomial v are those that mean the number v, and those whose parts are
-- the falling exponents of v.
--
--   Exponents split v   two or more decimal numbers below 64, each smaller than the one before; v is the sum of their powers of two
--
-- Assumes nothing.
use Rattle.std.specs.Prelude.{◌≡◌, refl, ◌⊎◌, ◌↔◌, Bool, true, false, ◌&&◌, List, [], ◌∷◌, ◌++◌, map, ℕ, zero, suc, ◌^◌, ◌≤◌, ◌<◌, ltb, length, get_or, take, drop, None, Some}
use Rattle.std.proofs.Common.{sym, ap, ◌∙◌, inl, inr, ⊎_elim, suc-le-suc, le_of_suc-le-suc, not-suc-le-zero, arith, take-append-drop, lt-ltb, ltb-true, ne_eqb}
use Rattle.words.specs.Notation.{worth, value, spells, number_of, colon, parts, exponent, every_exponent, falling, powers, exponents_of, polynomial_of}
use Rattle.words.specs.Spelling.{both_true, spells_has, has_spells}
use Rattle.words.specs.Parts.{first_size}
use Rattle.words.specs.Exponents.{summed-exponents, summed-below, polynomial-number}
use Rattle.words.specs.NumberMeaning.{Numeral, digits-each, each-digits, number-means}

pub record Exponents (split : List (List ℕ)) (v : ℕ) : Type 0 where
  pub several : 2 ≤ length split
  pub each : (i : ℕ) → i < length split → Numeral 10 64 (get_or split i []) (value 10 (get_or split i []))
  pub falls : (i : ℕ) → suc i < length (map (value 10) split) → get_or (map (value 10) split) (suc i) 0 < get_or (map (value 10) split) i 0
  pub sums : powers (map (value 10) split) ≡ v

-- ---- each part

spells_numeral : (part : List ℕ) → (spells 10 64 part ≡ true) ↔ Numeral 10 64 part (value 10 part)
spells_numeral part = (
  λ e.
      let s = spells_has 10 64 part e in
      record { some = s.some; digits = digits-each 10 part s.digits; means = refl; below = s.below },
  λ m. has_spells 10 64 part record { some = m.some; digits = each-digits 10 part m.digits; below = m.below },
)

every_each : (split : List (List ℕ)) → every_exponent split ≡ true → (i : ℕ) → i < length split → Numeral 10 64 (get_or split i []) (value 10 (get_or split i []))
unfolding every_exponent exponent
every_each [] e i h = absurd (not-suc-le-zero h)
every_each (part ∷ rest) e zero h = (spells_numeral part).0 (both_true (spells 10 64 part) (every_exponent rest) e).0
every_each (part ∷ rest) e (suc i) h = every_each rest (both_true (spells 10 64 part) (every_exponent rest) e).1 i (le_of_suc-le-suc h)

each_every : (split : List (List ℕ)) → ((i : ℕ) → i < length split → Numeral 10 64 (get_or split i []) (value 10 (get_or split i []))) → every_exponent split ≡ true
unfolding every_exponent exponent
each_every [] g = refl
each_every (part ∷ rest) g = rw ((spells_numeral part).1 (g 0 (omega arith))) (each_every rest λ i h. g (suc i) (suc-le-suc h))

-- ---- falling

falling-falls : (es : List ℕ) → falling es ≡ true → (i : ℕ) → suc i < length es → get_or es (suc i) 0 < get_or es i 0
unfolding falling
falling-falls [] t i h = absurd (not-suc-le-zero h)
falling-falls (e ∷ []) t i h = absurd (not-suc-le-zero (le_of_suc-le-suc h))
falling-falls (e ∷ (f ∷ es)) t zero h = ltb-true f e (both_true (ltb f e) (falling (f ∷ es)) t).0
falling-falls (e ∷ (f ∷ es)) t (suc i) h = falling-falls (f ∷ es) (both_true (ltb f e) (falling (f ∷ es)) t).1 i (le_of_suc-le-suc h)

falls-falling : (es : List ℕ) → ((i : ℕ) → suc i < length es → get_or es (suc i) 0 < get_or es i 0) → falling es ≡ true
unfolding falling
falls-falling [] g = refl
falls-falling (e ∷ []) g = refl
falls-falling (e ∷ (f ∷ es)) g = rw (lt-ltb f e (g 0 (omega arith))) (falls-falling (f ∷ es) λ i h. g (suc i) (suc-le-suc h))

-- ---- a number has no colon

digits_plain : (base : ℕ) (word : List ℕ) → base ≤ 16 → ((i : ℕ) → i < length word → worth (get_or word i 0) < base) → first_size word ≡ length word
unfolding first_size worth
digits_plain base [] h g = refl
digits_plain base (byte ∷ bytes) h g =
    rw (ne_eqb byte colon (colon_no_digit (g 0 (omega arith)))) (ap suc (digits_plain base bytes h λ i l. g (suc i) (suc-le-suc l)))
  where
    colon_no_digit : worth byte < base → byte ≡ colon → ⊥
    colon_no_digit l e = let k : worth colon < base = rw e at l in omega arith

marked_plain : (word rest : List ℕ) → word ≡ 48 ∷ (120 ∷ rest) → first_size rest ≡ length rest → first_size word ≡ length word
unfolding first_size
marked_plain word rest e f = rw (e, f)

number_plain : (word : List ℕ) (v : ℕ) → number_of word ≡ Some v → first_size word ≡ length word
number_plain word v n =
    ⊎_elim
    (λ (m : Numeral 10 (2 ^ 64) word v). digits_plain 10 word (omega arith) m.digits)
    (λ (m : (take 2 word ≡ 48 ∷ 120 ∷ []) × Numeral 16 (2 ^ 64) (drop 2 word) v).
    marked_plain word (drop 2 word) (sym (take-append-drop 2 word) ∙ ap (λ (l : List ℕ). l ++ drop 2 word) m.0) (digits_plain 16 (drop 2 word) (omega arith) m.1.digits))
    ((number-means word v).0 n)

-- ---- a polynomial

exponents_hold : (split : List (List ℕ)) (v : ℕ) → exponents_of split ≡ Some v
    → ((every_exponent split && falling (map (value 10) split)) ≡ true) × (powers (map (value 10) split) ≡ v)
unfolding exponents_of
exponents_hold split v n = go (every_exponent split && falling (map (value 10) split)) refl
  where
    go : (b : Bool) → (every_exponent split && falling (map (value 10) split)) ≡ b
        → ((every_exponent split && falling (map (value 10) split)) ≡ true) × (powers (map (value 10) split) ≡ v)
    go true e = let m : Some (powers (map (value 10) split)) ≡ Some v = rw e at n in (e, cc)
    go false e =
        let m : None ≡ Some v = rw e at n in
        let z : ◌≡◌ {A = ℕ} 0 1 = cc in
        absurd (omega arith)

exponents-several : (split : List (List ℕ)) (v : ℕ) → 2 ≤ length split → exponents_of split ≡ Some v → Exponents split v
exponents-several split v l n =
    let h = exponents_hold split v n in
    let t = both_true (every_exponent split) (falling (map (value 10) split)) h.0 in
    record { several = l; each = every_each split t.0; falls = falling-falls (map (value 10) split) t.1; sums = h.1 }

exponents-number : (split : List (List ℕ)) (v : ℕ) → Exponents split v → exponents_of split ≡ Some v
unfolding exponents_of
exponents-number split v m = rw (each_every split m.each, falls-falling (map (value 10) split) m.falls, m.sums)

pub polynomial-means : (word : List ℕ) (v : ℕ) → (polynomial_of word ≡ Some v) ↔ ((number_of word ≡ Some v) ⊎ Exponents (parts word) v)
unfolding polynomial_of
polynomial-means word v = (go (ltb 1 (length (parts word))) refl, back)
  where
    go : (b : Bool) → ltb 1 (length (parts word)) ≡ b → polynomial_of word ≡ Some v → (number_of word ≡ Some v) ⊎ Exponents (parts word) v
    go true e n =
        let m : exponents_of (parts word) ≡ Some v = rw e at n in
        inr (exponents-several (parts word) v (ltb-true 1 (length (parts word)) e) m)
    go false e n = let m : number_of word ≡ Some v = rw e at n in inl m

    back : (number_of word ≡ Some v) ⊎ Exponents (parts word) v → polynomial_of word ≡ Some v
    back (inl n) = sym (polynomial-number word (length word) (omega (arith, number_plain word v n)) refl) ∙ n
    back (inr m) = rw (lt-ltb 1 (length (parts word)) m.several) (exponents-number (parts word) v m)

-- and the sum has 64 bits
pub polynomial-below : (word : List ℕ) (v : ℕ) → polynomial_of word ≡ Some v → v < 2 ^ 64
polynomial-below word v n =
    ⊎_elim
    (λ (m : number_of word ≡ Some v).
    ⊎_elim
    (λ (d : Numeral 10 (2 ^ 64) word v). d.below)
    (λ (d : (take 2 word ≡ 48 ∷ 120 ∷ []) × Numeral 16 (2 ^ 64) (drop 2 word) v). d.1.below)
    ((number-means word v).0 m))
    (λ (m : Exponents (parts word) v).
    summed-below 64 0 v (parts word) (omega arith) (summed-exponents (parts word) ∙ exponents-number (parts word) v m))
    ((polynomial-means word v).0 n)
