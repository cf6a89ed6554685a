-- `search::walking::is_normal` meets its contract: the basis tells.
-- Assumes nothing.
use Rattle.std.proofs.Common.{◌∙◌}
use Rattle.elements.specs.Built.{built_normal}
use Rattle.search.proofs.walking.is_normal.Goals as goal

pub build_basis-requires : goal.build_basis-requires
build_basis-requires c =
    let s = c.args.m.of_field in
    (s.most, record { is_degree = s.is_degree; below = c.requires })

pub returns : goal.returns
returns c =
    let s = c.args.m in
    c.is_ok.ensures.value ∙ built_normal s.f s.n c.args.a c.build_basis.result c.build_basis.ensures
