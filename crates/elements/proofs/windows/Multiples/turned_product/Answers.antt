-- `elements::windows::Multiples::turned_product` meets its contract: modulo t ^ n + 1 the two halves of the product are added.
-- Assumes nothing.
use Rattle.elements.specs.Windows.{wide-turned}
use Rattle.elements.proofs.windows.Multiples.turned_product.Goals as goal

pub returns : goal.returns
returns c =
    let m = c.args.self.now in
    λ e pos h.
    wide-turned m.n pos m.a c.args.v c.wide_product-wide.result.low c.wide_product-wide.result.high
    (rw e at c.wide_product-wide.ensures h)
