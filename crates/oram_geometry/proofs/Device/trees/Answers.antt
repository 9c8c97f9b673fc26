use Rattle.std.proofs.Common.{subst}
use Rattle.oram_geometry.specs.declared.Sizes.{Sizes}
use Rattle.oram_geometry.specs.Measures.{IsMeasured}
use Rattle.oram_geometry.proofs.DeviceSizes.{trees_of-few, trees_of-least}
use Rattle.oram_geometry.proofs.Device.trees.Goals as goal

pub returns : goal.returns
returns c =
    let i = c.self.inside in
    let d = c.args.self.now in
    let m : IsMeasured d i.trees i.blocks i.depths = subst (λ (d : Sizes). IsMeasured d i.trees i.blocks i.depths) c.self.view_is c.self.invariant in
    record {
      count = m.count;
      least = rw m.count (trees_of-least d m.ranges);
      few = rw m.count (trees_of-few d m.ranges);
      ranges = m.ranges;
    }
