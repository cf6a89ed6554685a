-- Text put into a lent buffer: bytes at a place, and more bytes after them.
--
--   Put start at bytes text next   text is start with the bytes at a place, and next is the place after them
--   Puts old bytes new             the same of a lent text and its place, before and after
--   Same old new                   the text is still the one that was lent, and as long
--
-- Assumes nothing.
use Rattle.std.specs.Prelude.{◌≡◌, List, [], ◌∷◌, ◌++◌, ℕ, ◌+◌, ◌≤◌, ◌<◌, length, drop, set}
use Rattle.std.proofs.Common.{sym, ap, ◌∙◌, add-zero, add_assoc, zero-add, arith, length-append, length-take-le}
use Rattle.io.specs.Counts.{IsPrefixLen}
use Rattle.listing.specs.declared.putting.Lent.{Lent}
use Rattle.sheet.specs.Bytes.{pasted, pasted-none, pasted_length, pasted-next, pasted-set}

pub record Put (start : List ℕ) (at : ℕ) (bytes text : List ℕ) (next : ℕ) : Type 0 where
  pub holds : text ≡ pasted start at bytes
  pub ends : next ≡ at + length bytes
  pub room : next ≤ length start

abbrev pub Puts : (old : Lent) (bytes : List ℕ) (new : Lent) → Type 0
Puts old bytes new = Put old.text.now old.at bytes new.text.now new.at

abbrev pub Same : (old new : Lent) → Type 0
Same old new = (new.text.ghost_name ≡ old.text.ghost_name) × (length new.text.now ≡ length old.text.now)

pub put-length : {start : List ℕ} {at : ℕ} {bytes text : List ℕ} {next : ℕ} → Put start at bytes text next → length text ≡ length start
put-length {start} {at} {bytes} p = ap length p.holds ∙ pasted_length start at bytes (omega (arith, p.ends, p.room))

pub put-none : (start : List ℕ) (at : ℕ) → at ≤ length start → Put start at [] start at
put-none start at h = record { holds = pasted-none start at; ends = sym (add-zero at); room = h }

-- more bytes after them
pub put_then : {start : List ℕ} {at : ℕ} {xs ys b c : List ℕ} {m n : ℕ} → Put start at xs b m → Put b m ys c n → Put start at (xs ++ ys) c n
put_then {start} {at} {xs} {ys} p q = record {
  holds = q.holds ∙ rw (p.holds, p.ends) (pasted-next start at xs ys (omega (arith, p.ends, p.room)));
  ends = q.ends ∙ rw (p.ends, length-append xs ys) (add_assoc at (length xs) (length ys));
  room = omega (arith, q.room, put-length p);
}

-- bytes put at the front
pub put_front : {start bytes text : List ℕ} {next : ℕ} → Put start 0 bytes text next → (next ≡ length bytes) × (text ≡ bytes ++ drop (length bytes) start)
unfolding pasted
put_front {start} {bytes} p = (p.ends ∙ zero-add (length bytes), p.holds ∙ rw zero-add)

-- one byte after them
pub put_mark : {start : List ℕ} {at : ℕ} {xs b : List ℕ} {m : ℕ} → Put start at xs b m → (mark : ℕ) → m < length start → Put start at (xs ++ (mark ∷ [])) (set b m mark) (m + 1)
put_mark {start} {at} {xs} p mark h = record {
  holds = rw (p.holds, p.ends) (pasted-set start at xs mark (omega (arith, p.ends)));
  ends = rw (p.ends, length-append xs (mark ∷ [])) (omega arith);
  room = omega arith;
}

-- what is put counts the text's front, which a caller takes
pub put-counted : {start : List ℕ} {at : ℕ} {bytes text : List ℕ} {next : ℕ} → Put start at bytes text next → Put start at bytes text next × IsPrefixLen next text
put-counted {start} {at} {bytes} {text} {next} p =
    let h : next ≤ length text = omega (arith, p.room, put-length p) in
    (p, (h, sym (length-take-le next text h)))
