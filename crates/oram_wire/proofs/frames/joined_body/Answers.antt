use Rattle.std.proofs.Common.{◌≡◌, ◌++◌, drop, rules}
use Rattle.oram_wire.proofs.Streams.{behind_head, number_across}
use Rattle.oram_wire.proofs.frames.joined_body.Goals as goal

pub returns : goal.returns
returns c =
    let held = c.args.held.now in
    let part = c.args.part.now in
    let made : c.extend_from_slice-2.new.self.items ≡ drop 4 (held ++ part) =
    rw (c.in_ok-extend_from_slice-2.ensures.items, c.in_ok-extend_from_slice.ensures.items, c.in_ok-body.ensures.items) (behind_head held part c.min-head.result c.min-head.ensures c.requires) in
    number_across held part c.extend_from_slice-2.new.self.items (λ i. let h = c.type_inv.held i in search rules) (λ i. let h = c.type_inv.part i in search rules) c.requires made
