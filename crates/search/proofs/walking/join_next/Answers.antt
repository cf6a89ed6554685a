-- `search::walking::join_next` meets its contract: the leader is decided as far as joining it needs.
-- Assumes nothing.
use native.Mathlib.Omega.{arith}
use lib.Pow.{pow_mono}
use Rattle.search.proofs.walking.join_next.Goals as goal

pub join_decided-requires : goal.join_decided-requires
join_decided-requires c =
    let s = c.args.tables.now.modulus.of_field in
    record {
      of_element = record { of_field = s; below = c.requires.element };
      leads = c.requires.leads;
      decides = rw c.bound_of.ensures at c.decide-decided.ensures;
      counts = omega (arith, c.requires.element, c.requires.counts, pow_mono s.most);
    }
