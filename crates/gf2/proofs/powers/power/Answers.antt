-- `gf2::powers::power` meets its contract: one bit, moved up by less than a word, is not cut off. Assumes nothing.
use Rattle.std.proofs.Common.{one-mul, mod-eq_of_lt}
use Rattle.std.proofs.Math.Pow.{pow-lt}
use Rattle.gf2.proofs.powers.power.Goals as goal

pub returns : goal.returns
returns c = rw one-mul (mod-eq_of_lt (pow-lt c.requires))
