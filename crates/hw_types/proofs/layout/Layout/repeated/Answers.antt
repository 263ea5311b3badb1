use Rattle.std.proofs.Common.{◌∙◌, sym, arith}
use Rattle.hw_types.proofs.Shapes.{array_of-empty, element_cells-next, offset-lt_array, IsLaidOut-elements}
use Rattle.hw_types.proofs.layout.Layout.repeated.Goals as goal

pub returns-then-size-eq0 : goal.returns-then-size-eq0
returns-then-size-eq0 c =
    c.in_ok-copy.ensures ∙ array_of-empty c.args.self.now c.args.times c.size.ensures.laid_out (sym c.size.ensures.size ∙ c.if-size-eq0.true)

pub append_shifted-requires : goal.append_shifted-requires
append_shifted-requires c =
    rw (c.scalars.ensures.cells, c.size-in-loop-index.ensures.size)
    (λ k d h. offset-lt_array c.args.self.now c.loop-index.index c.args.times k d c.scalars.ensures.laid_out c.loop-index-test.true c.requires h)

pub loop-index-preserved : goal.loop-index-preserved
loop-index-preserved c =
    element_cells-next c.args.self.now c.loop-index.index _ _ _ _ c.loop-index.invariant c.size-in-loop-index.ensures.size c.scalars.ensures.cells c.in_ok-append_shifted.ensures

pub new-requires : goal.new-requires
new-requires c =
    IsLaidOut-elements c.args.self.now c.args.times c.loop-index.index _ _ _ c.align.ensures.laid_out c.loop-index.invariant (omega arith)
    c.size-2.ensures.size c.align.ensures.align
