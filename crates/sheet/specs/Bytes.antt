-- Bytes in a buffer, and little-endian numbers: writing bytes one after another; the bytes of a number one by one; a number is what
-- its bytes hold.
--
--   pasted buffer at bytes   the buffer with the bytes written at a place, and the rest as it came
--
-- Assumes nothing.
use Rattle.std.specs.Prelude.{◌≡◌, refl, get_or, set}
use Rattle.std.proofs.Common.{sym, ◌∙◌, add-zero, add_assoc, pow-suc, div-one, mul_comm, add-one, arith, take-append-drop, drop-cons, take_at, length-take-le}
use Rattle.std.proofs.Math.Path.{ap}
use mathlib.Core.List.{List, [], ◌∷◌, ◌++◌, append_assoc, append-nil}
use Prim.Native.Nat.{ℕ, zero, suc, ◌+◌, ◌*◌, ◌/◌, ◌%◌, ◌^◌, ◌≤◌, ◌<◌}
use Rattle.std.proofs.Math.Nat.{div-div-eq-div-mul}
use Rattle.std.proofs.Math.Arith.{lt-one}
use Rattle.std.proofs.Math.ListN.{length, take, drop, length-append, length-drop}
use Rattle.std.proofs.Math.Seq.{set_at, drop-drop, append_snoc, drop-append-add}
use Rattle.sheet.specs.Record.{bytes_of, number_in}

-- ---- writing

unfoldable pub pasted : (buffer : List ℕ) (at : ℕ) (bytes : List ℕ) → List ℕ
pasted buffer at bytes = take at buffer ++ bytes ++ drop (at + length bytes) buffer

pub pasted-none : (buffer : List ℕ) (at : ℕ) → buffer ≡ pasted buffer at []
unfolding pasted
pasted-none buffer at = sym (rw (append-nil (take at buffer), add-zero at) (take-append-drop at buffer))

module _ (buffer : List ℕ) (at : ℕ) (bytes : List ℕ) where
  front_length : at + length bytes ≤ length buffer → length (take at buffer ++ bytes) ≡ at + length bytes
  front_length fits = length-append (take at buffer) bytes ∙ ap (λ (k : ℕ). k + length bytes) (length-take-le at buffer (omega arith))

  pub pasted_length : at + length bytes ≤ length buffer → length (pasted buffer at bytes) ≡ length buffer
  unfolding pasted
  pasted_length fits =
      length-append (take at buffer ++ bytes) (drop (at + length bytes) buffer)
      ∙ rw (front_length fits, length-drop (at + length bytes) buffer) (omega arith)

  -- one byte more
  pub pasted-set : (b : ℕ) → at + length bytes < length buffer → set (pasted buffer at bytes) (at + length bytes) b ≡ pasted buffer at (bytes ++ (b ∷ []))
  unfolding pasted
  pasted-set b fits =
      let n : ℕ = at + length bytes in
      let e : at + length (bytes ++ (b ∷ [])) ≡ suc n = rw (length-append bytes (b ∷ [])) (omega arith) in
      rw (drop-cons buffer n 0 fits, set_at (take at buffer ++ bytes) (get_or buffer n 0) (drop (suc n) buffer) b n (front_length (omega arith)), e)
      (sym (append_snoc (take at buffer ++ bytes) b (drop (suc n) buffer)) ∙ ap (λ (l : List ℕ). l ++ drop (suc n) buffer) (append_assoc (take at buffer) bytes (b ∷ [])))

  -- more bytes after them
  pub pasted-next : (more : List ℕ) → at + length bytes ≤ length buffer → pasted (pasted buffer at bytes) (at + length bytes) more ≡ pasted buffer at (bytes ++ more)
  unfolding pasted
  pasted-next more fits =
      let n : ℕ = at + length bytes in
      let p : List ℕ = take at buffer ++ bytes in
      let size : length p ≡ n = front_length fits in
      let q : List ℕ = drop n buffer in
      let e : at + length (bytes ++ more) ≡ n + length more = rw (length-append bytes more) (sym (add_assoc at (length bytes) (length more))) in
      let back : drop (n + length more) (p ++ q) ≡ drop (n + length more) buffer =
      ap (λ (k : ℕ). drop (k + length more) (p ++ q)) (sym size) ∙ drop-append-add p q (length more) ∙ drop-drop (length more) n buffer in
      rw (take_at p q n size, back, e)
      (ap (λ (l : List ℕ). l ++ drop (n + length more) buffer) (append_assoc (take at buffer) bytes more))

-- ---- the bytes of a number

pub bytes_of-length : (k v : ℕ) → length (bytes_of k v) ≡ k
unfolding bytes_of
bytes_of-length zero v = refl
bytes_of-length (suc k) v = ap suc (bytes_of-length k (v / 256))

byte_shift : (v k : ℕ) → v / 256 / 256 ^ k ≡ v / 256 ^ suc k
byte_shift v k = div-div-eq-div-mul v 256 (256 ^ k) ∙ ap (λ (x : ℕ). v / x) (mul_comm 256 (256 ^ k) ∙ sym (pow-suc 256 k))

-- one byte more, from the number without its lowest k bytes
bytes_of_suc : (k v : ℕ) → bytes_of (suc k) v ≡ bytes_of k v ++ (v / 256 ^ k % 256 ∷ [])
unfolding bytes_of
bytes_of_suc zero v = rw div-one
bytes_of_suc (suc k) v = ap (λ (l : List ℕ). v % 256 ∷ l) (bytes_of_suc k (v / 256) ∙ rw byte_shift)

pub bytes_of-next : (k v : ℕ) → bytes_of (k + 1) v ≡ bytes_of k v ++ (v / 256 ^ k % 256 ∷ [])
bytes_of-next k v = rw add-one (bytes_of_suc k v)

pub byte_next : (v k : ℕ) → v / 256 ^ k / 256 ≡ v / 256 ^ (k + 1)
byte_next v k = div-div-eq-div-mul v (256 ^ k) 256 ∙ rw (add-one, pow-suc)

-- the number that its own bytes hold
pub number_in-bytes_of : (k v : ℕ) → v < 256 ^ k → number_in (bytes_of k v) ≡ v
unfolding bytes_of number_in
number_in-bytes_of zero v h = sym (lt-one h)
number_in-bytes_of (suc k) v h =
    let s : v < 256 ^ k * 256 = rw pow-suc at h in
    let q : v / 256 < 256 ^ k = omega arith in
    rw (number_in-bytes_of k (v / 256) q) (omega arith)

-- the lowest byte apart
pub number_in-cons : (sheet : List ℕ) (at m : ℕ) → at < length sheet
    → number_in (take (m + 1) (drop at sheet)) ≡ number_in (take m (drop (at + 1) sheet)) * 256 + get_or sheet at 0
unfolding number_in
number_in-cons sheet at m h = rw (add-one m, add-one at, drop-cons sheet at 0 h) (omega arith)
