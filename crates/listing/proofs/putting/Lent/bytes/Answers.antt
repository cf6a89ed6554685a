-- `listing::putting::Lent::bytes` meets its contract: what is copied stands at its place, and the rest as it came. Assumes nothing.
use Rattle.std.proofs.Common.{◌≡◌, List, ℕ, ◌+◌, length, take, drop, ◌++◌, refl, sym, ap, append_assoc, ◌∙◌, arith, rules, drop-drop}
use borrow.Rule.Slice.PartMut.{put_mid}
use Rattle.sheet.specs.Bytes.{pasted}
use Rattle.listing.proofs.putting.Lent.bytes.Goals as goal

copied : (text bytes part : List ℕ) (at k : ℕ) → part ≡ bytes → k ≡ length bytes → put_mid at k text part ≡ pasted text at bytes
unfolding pasted
copied text bytes part at k e size = rw (e, size) (ap (λ (l : List ℕ). take at text ++ (bytes ++ l)) (drop-drop (length bytes) at text) ∙ sym (append_assoc (take at text) bytes (drop (at + length bytes) text)))

pub returns-clause-put : goal.returns-clause-put
returns-clause-put c =
    record {
      holds = copied c.args.self.now.text.now c.args.bytes.now c.copy_from_slice.new.self c.args.self.now.at _ (search rules) (omega arith);
      ends = refl;
      room = omega (arith, c.requires);
    }
