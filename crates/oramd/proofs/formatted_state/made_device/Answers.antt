use Rattle.std.proofs.Common.{◌≡◌, Option, None, Some, Ok, ap}
use Rattle.oram_geometry.specs.declared.ShapeFault.{ShapeFault}
use Rattle.oram_geometry.specs.declared.Sizes.{Sizes}
use Rattle.oram_geometry.specs.Sizes.{device_of, device_unless, range_fault}
use Rattle.oramd.proofs.formatted_state.made_device.Goals as goal

-- a device has the leaf load that it was asked for
load_of : (d x : Sizes) → Ok x ≡ device_of d → x.leaf_load ≡ d.leaf_load
load_of d x made = by_fault (range_fault d) made
  where
    by_fault : (fault : Option ShapeFault) → Ok x ≡ device_unless d fault → x.leaf_load ≡ d.leaf_load
    by_fault None e = let same : x ≡ d = cc in ap (λ (s : Sizes). s.leaf_load) same
    by_fault (Some why) e = absurd cc

pub returns-clause-load : goal.returns-clause-load
returns-clause-load c = load_of (record { blocks = c.args.blocks; block_bytes = c.args.block_bytes; slots = c.args.slots; top = c.args.top; lifetime = c.args.lifetime; leaf_load = 1 }) _ c.in_ok-new.ensures
