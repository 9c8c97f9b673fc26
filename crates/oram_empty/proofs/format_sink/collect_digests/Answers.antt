use Rattle.std.proofs.Common.{◌+◌, ◌*◌, ◌<◌, ◌≤◌, ap, arith, length}
use Rattle.oram_geometry.specs.Sizes.{trees_of, depth_of}
use Rattle.oram_empty.specs.KeptDigests.{upper_count}
use Rattle.oram_empty.proofs.Counts.{upper_end}
use Rattle.oram_empty.proofs.format_sink.collect_digests.Goals as goal

pub slice_bounds-copy_from_slice-end : goal.slice_bounds-copy_from_slice-end
slice_bounds-copy_from_slice-end c =
    let d = c.args.device.now in
    let tree : c.args.tree < trees_of d = omega (arith, c.trees.ensures.count) in
    let node : c.args.node < upper_count (depth_of d c.args.tree) = omega (arith, c.upper_count.ensures.value, ap upper_count c.depth.ensures.count) in
    let within : (c.upper_below.result + c.args.node) * 64 + 64 ≤ length c.args.digests.now = omega (arith, upper_end d c.args.tree (trees_of d) tree, c.requires.whole) in
    within
