-- `elements::windows::four_windows` meets its contract, which is what it computes. Assumes nothing.
use Rattle.std.proofs.Common.{refl}
use Rattle.gf2.specs.Poly.{◌⊕◌}
use Rattle.elements.specs.Windows.{window_at, four_windows}
use Rattle.elements.proofs.windows.four_windows.Goals as goal

pub returns : goal.returns
unfolding four_windows window_at ◌⊕◌
returns c = refl
