use Rattle.std.proofs.Common.{ap, ◌∙◌, subst, arith}
use Rattle.oram_geometry.specs.declared.Sizes.{Sizes}
use Rattle.oram_geometry.specs.Sizes.{blocks_in}
use Rattle.oram_geometry.specs.Measures.{IsMeasured}
use Rattle.oram_geometry.proofs.DeviceSizes.{trees_of-few, blocks_in-range, blocks_in-zero}
use Rattle.oram_geometry.proofs.Device.blocks_in.Goals as goal

pub bounds-self-inside-tree : goal.bounds-self-inside-tree
bounds-self-inside-tree c =
    let i = c.self.inside in
    let m : IsMeasured c.args.self.now i.trees i.blocks i.depths = subst (λ (d : Sizes). IsMeasured d i.trees i.blocks i.depths) c.self.view_is c.self.invariant in
    omega (arith, trees_of-few c.args.self.now m.ranges, c.requires)

pub returns-clause-count : goal.returns-clause-count
returns-clause-count c =
    let i = c.self.inside in
    let m : IsMeasured c.args.self.now i.trees i.blocks i.depths = subst (λ (d : Sizes). IsMeasured d i.trees i.blocks i.depths) c.self.view_is c.self.invariant in
    m.each_blocks c.args.tree (omega (arith, trees_of-few c.args.self.now m.ranges, c.requires))

pub returns-clause-first : goal.returns-clause-first
returns-clause-first c = λ zero. returns-clause-count c ∙ ap (blocks_in c.args.self.now) zero ∙ blocks_in-zero c.args.self.now

pub returns-clause-range : goal.returns-clause-range
returns-clause-range c =
    let i = c.self.inside in
    let m : IsMeasured c.args.self.now i.trees i.blocks i.depths = subst (λ (d : Sizes). IsMeasured d i.trees i.blocks i.depths) c.self.view_is c.self.invariant in
    let e = m.each_blocks c.args.tree (omega (arith, trees_of-few c.args.self.now m.ranges, c.requires)) in
    rw e (blocks_in-range c.args.self.now m.ranges c.args.tree)
