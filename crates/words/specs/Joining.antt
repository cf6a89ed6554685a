-- What `parts` means: it is the one way to cut a word into parts that hold no colon.
--
--   Plain part      no byte of it is a colon
--   followed split  each part with a colon before it
--   joined split    the parts with one colon between
--
-- Assumes nothing.
use Rattle.std.specs.Prelude.{◌≡◌, refl, Bool, true, false, List, [], ◌∷◌, ◌++◌, ℕ, zero, suc, ◌<◌, eqb, length, get_or}
use Rattle.std.proofs.Common.{ap, ◌∙◌, append-nil, suc-le-suc, le_of_suc-le-suc, not-suc-le-zero, arith, ne_eqb, eqb-true}
use Rattle.std.proofs.lemmas.Bool.{eqb-false}
use Rattle.words.specs.Notation.{colon, ahead, parts}
use Rattle.words.specs.Parts.{parts-some}

abbrev pub Plain : List ℕ → Type 0
Plain part = (i : ℕ) → i < length part → get_or part i 0 ≡ colon → ⊥

-- each with a colon before it
unfoldable pub followed : List (List ℕ) → List ℕ
followed [] = []
followed (part ∷ rest) = colon ∷ (part ++ followed rest)

unfoldable pub joined : List (List ℕ) → List ℕ
joined [] = []
joined (part ∷ rest) = part ++ followed rest

-- ---- the parts make up the word

ahead-joined : (byte : ℕ) (split : List (List ℕ)) → joined (ahead byte split) ≡ byte ∷ joined split
unfolding joined followed ahead
ahead-joined byte [] = refl
ahead-joined byte (part ∷ rest) = refl

followed-joined : (split : List (List ℕ)) → 0 < length split → followed split ≡ colon ∷ joined split
unfolding joined followed
followed-joined [] h = absurd (not-suc-le-zero h)
followed-joined (part ∷ rest) h = refl

pub parts-joined : (word : List ℕ) → joined (parts word) ≡ word
unfolding parts joined followed
parts-joined [] = refl
parts-joined (byte ∷ bytes) = go (eqb byte colon) refl (parts-joined bytes)
  where
    go : (b : Bool) → eqb byte colon ≡ b → joined (parts bytes) ≡ bytes → joined (parts (byte ∷ bytes)) ≡ byte ∷ bytes
    go true e ih = rw (e, followed-joined (parts bytes) (parts-some bytes), ih, eqb-true byte colon e)
    go false e ih = rw (e, ahead-joined, ih)

-- ---- no part holds a colon

ahead_plain : (byte : ℕ) (split : List (List ℕ)) → (byte ≡ colon → ⊥) → ((j : ℕ) → j < length split → Plain (get_or split j []))
    → (j : ℕ) → j < length (ahead byte split) → Plain (get_or (ahead byte split) j [])
unfolding ahead
ahead_plain byte [] n g zero h zero l = n
ahead_plain byte [] n g zero h (suc i) l = absurd (not-suc-le-zero (le_of_suc-le-suc l))
ahead_plain byte [] n g (suc j) h i l = absurd (not-suc-le-zero (le_of_suc-le-suc h))
ahead_plain byte (part ∷ rest) n g zero h zero l = n
ahead_plain byte (part ∷ rest) n g zero h (suc i) l = g 0 (omega arith) i (le_of_suc-le-suc l)
ahead_plain byte (part ∷ rest) n g (suc j) h i l = g (suc j) h i l

apart_plain : (split : List (List ℕ)) → ((j : ℕ) → j < length split → Plain (get_or split j []))
    → (j : ℕ) → j < length ([] ∷ split) → Plain (get_or ([] ∷ split) j [])
apart_plain split g zero h i l = absurd (not-suc-le-zero l)
apart_plain split g (suc j) h i l = g j (le_of_suc-le-suc h) i l

pub parts_plain : (word : List ℕ) (j : ℕ) → j < length (parts word) → Plain (get_or (parts word) j [])
unfolding parts
parts_plain [] = apart_plain [] λ j h. absurd (not-suc-le-zero h)
parts_plain (byte ∷ bytes) = go (eqb byte colon) refl (parts_plain bytes)
  where
    go : (b : Bool) → eqb byte colon ≡ b → ((j : ℕ) → j < length (parts bytes) → Plain (get_or (parts bytes) j []))
        → (j : ℕ) → j < length (parts (byte ∷ bytes)) → Plain (get_or (parts (byte ∷ bytes)) j [])
    go true e ih = rw e (apart_plain (parts bytes) ih)
    go false e ih = rw e (ahead_plain byte (parts bytes) (eqb-false byte colon e) ih)

-- ---- and there is no other such cut

pub plain_first : (part : List ℕ) → Plain part → (rest : List ℕ) → parts (part ++ (colon ∷ rest)) ≡ part ∷ parts rest
unfolding parts ahead
plain_first [] g rest = refl
plain_first (byte ∷ bytes) g rest =
    rw (ne_eqb byte colon (g 0 (omega arith)), plain_first bytes (λ i h. g (suc i) (suc-le-suc h)) rest)

pub plain_only : (part : List ℕ) → Plain part → parts part ≡ part ∷ []
unfolding parts ahead
plain_only [] g = refl
plain_only (byte ∷ bytes) g = rw (ne_eqb byte colon (g 0 (omega arith)), plain_only bytes (λ i h. g (suc i) (suc-le-suc h)))

pub joined-parts : (part : List ℕ) (rest : List (List ℕ)) → Plain part → ((j : ℕ) → j < length rest → Plain (get_or rest j []))
    → parts (joined (part ∷ rest)) ≡ part ∷ rest
unfolding joined followed
joined-parts part [] p g = rw (append-nil part) (plain_only part p)
joined-parts part (next ∷ rest) p g =
    plain_first part p (joined (next ∷ rest)) ∙ ap (λ (l : List (List ℕ)). part ∷ l) (joined-parts next rest (g 0 (omega arith)) λ j h. g (suc j) (suc-le-suc h))
