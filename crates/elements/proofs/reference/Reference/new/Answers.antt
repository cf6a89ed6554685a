-- `elements::reference::Reference::new` meets its contract: the basis of a normal element has its inverse rows.
-- Assumes nothing.
use Rattle.std.proofs.Common.{sym, ap, ◌∙◌}
use Rattle.rows.specs.ByteSums.{bytes, byte_sums}
use Rattle.elements.specs.Built.{built_normal, built_inverse}
use Rattle.elements.proofs.reference.Reference.new.Goals as goal

pub build_basis-requires : goal.build_basis-requires
build_basis-requires c =
    let s = c.requires.0 in
    (s.of_field.most, record { is_degree = s.of_field.is_degree; below = s.below })

pub unwrap-basis-requires : goal.unwrap-basis-requires
unwrap-basis-requires c =
    built_normal c.args.f c.args.n c.args.b c.build_basis.result c.build_basis.ensures ∙ c.requires.1

pub invariant_of-result : goal.invariant_of-result
invariant_of-result c =
    record {
      of_normal = record {
        of_field = c.requires.0.of_field;
        element = c.args.b;
        below = c.requires.0.below;
        is_normal = c.requires.1;
        held = c.byte_sums.ensures ∙ ap (byte_sums bytes) (built_inverse c.args.f c.args.n c.args.b (sym c.unwrap-basis.ensures ∙ c.build_basis.ensures));
      };
    }
