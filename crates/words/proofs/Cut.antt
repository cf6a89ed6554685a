-- Words as std cuts them: the mark 0x that is stripped, the colon that a word holds, and the parts of a split at each colon.
--
--   left s   the parts that a split still has to give
--
-- Assumes nothing.
use Rattle.std.specs.Prelude.{◌≡◌, ℕ, suc, ◌<◌, Bool, true, false, cond, List, [], ◌∷◌, ◌++◌, eqb, ltb, length, take, get_or, Some}
use Rattle.std.specs.Fn.{ComputesKey, CalledAt}
use Rattle.std.proofs.lemmas.Fn.{always_returns_same}
use Rattle.std.proofs.lemmas.Bool.{eqb-false}
use Rattle.std.proofs.Math.ListN.{get_or-append}
use Rattle.std.proofs.Math.Seq.{get_or-append_seam}
use denote.Param.Members.{Mut}
use denote.Ref.{Bor}
use Rattle.std.specs.Bool.{MatchBool}
use Rattle.std.specs.List.{list_any, IsFirstMatchOrLen}
use Rattle.std.specs.Slice.Iter.{split_rest, split_done, split_callee, split_steps}
use Rattle.std.specs.declared.slice.Split.{Split}
use Rattle.std.specs.Cmp.Lexicographic.{pointwise}
use Rattle.std.proofs.Common.{refl, eqb-true, length-append, lt-ltb, arith}
use Rattle.std.proofs.Math.Dec.{leb-suc-suc}
use Rattle.words.specs.Notation.{colon, marked, parts}
use Rattle.words.specs.Parts.{first_size}
use Rattle.words.specs.Joining.{Plain, plain_first, plain_only}

-- ---- the mark

pub marked-stripped : (word : List ℕ) → pointwise eqb (take 2 word) (48 ∷ (120 ∷ [])) ≡ marked word
unfolding marked
marked-stripped [] = refl
marked-stripped (a ∷ []) = refl
marked-stripped (a ∷ (b ∷ bytes)) = grind arith

-- ---- a colon

pub colon_held : (word : List ℕ) → list_any (λ byte. eqb byte colon) word ≡ ltb (first_size word) (length word)
unfolding first_size
colon_held [] = refl
colon_held (byte ∷ bytes) = go (eqb byte colon) refl (colon_held bytes)
  where
    go : (b : Bool) → eqb byte colon ≡ b → list_any (λ c. eqb c colon) bytes ≡ ltb (first_size bytes) (length bytes)
        → list_any (λ c. eqb c colon) (byte ∷ bytes) ≡ ltb (first_size (byte ∷ bytes)) (length (byte ∷ bytes))
    go true e ih = rw (e, lt-ltb 0 (suc (length bytes)) (omega arith))
    go false e ih = rw (e, ih, leb-suc-suc)

-- ---- the parts

abbrev pub left : {F : Type 0} → Split ℕ F → List (List ℕ)
left s = cond (split_done s) [] (parts (split_rest s))

pub none-left : {F : Type 0} (s : Split ℕ F) → split_done s ≡ true → left s ≡ []
none-left s h = rw h

module _ {F : Type 0} (g : Mut F (Bor ℕ × Unit {0}) Bool) where
  -- the part that comes is the first of those, where the closure tells a colon
  pub next-left : ((f : F) (x : ℕ) (b : Bool) (q : F) → CalledAt g f x b q → (q ≡ f) × (b ≡ eqb x colon))
      → (s t : Split ℕ F) (x : Bor (List ℕ)) → split_steps g s (Some x) t → left s ≡ x.now ∷ left t
  next-left tells s t x k = rw k.0 (cut (split_done t) k.1 (k.2 (λ byte. eqb byte colon) computes).1)
    where
      computes : ComputesKey g (λ byte. eqb byte colon) (split_callee s)
      computes = always_returns_same g (λ a r. r ≡ eqb a.0.now colon) (split_callee s)
          (λ a r q called. let m = tells (split_callee s) a.0.now r q (record { shown = a.0; shows = refl; called = called }) in (m.1, m.0))

      cut : (done : Bool) → MatchBool done (split_rest s ≡ x.now) ((y : ℕ) × (split_rest s ≡ x.now ++ (y ∷ split_rest t)))
          → IsFirstMatchOrLen (λ byte. eqb byte colon) (split_rest s) (length x.now) → parts (split_rest s) ≡ x.now ∷ cond done [] (parts (split_rest t))
      cut true e first =
          let plain : Plain x.now = λ i l.
          let n : eqb (get_or x.now i 0) colon ≡ false = rw e at (first.0 i 0 (omega arith) l) in
          eqb-false (get_or x.now i 0) colon n in
          rw e (plain_only x.now plain)
      cut false e first =
          let plain : Plain x.now = λ i l.
          let n : eqb (get_or x.now i 0) colon ≡ false =
          rw (e.1, get_or-append x.now (e.0 ∷ split_rest t) 0 i l) at (first.0 i 0 (omega arith) l) in
          eqb-false (get_or x.now i 0) colon n in
          let long : length x.now < length (split_rest s) = rw (e.1, length-append x.now (e.0 ∷ split_rest t)) (omega arith) in
          let m : eqb e.0 colon ≡ true = rw (e.1, get_or-append_seam x.now e.0 (split_rest t) 0) at (first.1 long 0) in
          let y : e.0 ≡ colon = eqb-true e.0 colon m in
          rw (e.1, y) (plain_first x.now plain (split_rest t))
