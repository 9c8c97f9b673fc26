use Rattle.std.proofs.Common.{◌≡◌, ◌+◌, ◌*◌, ◌<◌, ◌≤◌, ap, sym, subst, arith, ◌∙◌, length, ℕ}
use Rattle.oram_geometry.specs.Sizes.{trees_of, depth_of}
use Rattle.oram_geometry.specs.declared.Sizes.{Sizes}
use Rattle.oram_empty.specs.KeptDigests.{Digests, children_in, upper_count, piece}
use Rattle.oram_empty.proofs.Counts.{upper_end}
use Rattle.oram_empty.proofs.Pieces.{piece-slice}
use Rattle.oram_empty.proofs.digests.EmptyDigests.children.Goals as goal

pub slice_bounds-result-end : goal.slice_bounds-result-end
slice_bounds-result-end c =
    let d = c.self.inside.device.now in
    let device_is : d ≡ c.args.self.now.device = ap (λ (s : Digests). s.device) c.self.view_is in
    let tree : c.args.tree < trees_of d = subst (λ (s : Sizes). c.args.tree < trees_of s) (sym device_is) c.requires.tree in
    let node : c.args.node < upper_count (depth_of d c.args.tree) = subst (λ (s : Sizes). c.args.node < upper_count (depth_of s c.args.tree)) (sym device_is) c.requires.node in
    let within : (c.upper_below.result + c.args.node) * 64 + 64 ≤ length c.self.inside.bytes.now = omega (arith, upper_end d c.args.tree (trees_of d) tree, c.self.invariant) in
    within

pub returns-clause-digests : goal.returns-clause-digests
returns-clause-digests c =
    let d = c.self.inside.device.now in
    let bytes = c.self.inside.bytes.now in
    piece-slice 64 (c.upper_below.result + c.args.node) ((c.upper_below.result + c.args.node) * 64) 64 bytes (omega arith) (omega arith)
    ∙ ap (λ (k : ℕ). piece 64 bytes (k + c.args.node)) c.upper_below.ensures.value
    ∙ ap (λ (s : Digests). children_in s.device s.bytes c.args.tree c.args.node) c.self.view_is
