use Rattle.std.proofs.Common.{subst, arith}
use Rattle.oram_geometry.specs.declared.Sizes.{Sizes}
use Rattle.oram_geometry.specs.Sizes.{blocks_in}
use Rattle.oram_geometry.specs.Measures.{IsMeasured}
use Rattle.oram_geometry.proofs.DeviceSizes.{trees_of-few, blocks_in-room, level_for-least, level_for-range}
use Rattle.oram_geometry.proofs.Device.depth.Goals as goal

pub bounds-self-inside-tree : goal.bounds-self-inside-tree
bounds-self-inside-tree c =
    let i = c.self.inside in
    let m : IsMeasured c.args.self.now i.trees i.blocks i.depths = subst (λ (d : Sizes). IsMeasured d i.trees i.blocks i.depths) c.self.view_is c.self.invariant in
    omega (arith, trees_of-few c.args.self.now m.ranges, c.requires)

pub returns : goal.returns
returns c =
    let i = c.self.inside in
    let d = c.args.self.now in
    let m : IsMeasured d i.trees i.blocks i.depths = subst (λ (d : Sizes). IsMeasured d i.trees i.blocks i.depths) c.self.view_is c.self.invariant in
    let e = m.each_depth c.args.tree (omega (arith, trees_of-few d m.ranges, c.requires)) in
    let room = blocks_in-room d m.ranges c.args.tree in
    let range = level_for-range d.leaf_load (blocks_in d c.args.tree) room in
    record {
      count = e;
      least = rw e (level_for-least d.leaf_load (blocks_in d c.args.tree) room);
      enough = rw e range.1;
      range = rw e range.0;
    }
