use Rattle.std.proofs.Common.{◌≡◌, ◌-◌, ℕ, ap, slice_index, sym, ◌∙◌, arith}
use Rattle.oram_geometry.specs.Sizes.{address_in, trees_of}
use Rattle.oram_wire.specs.ListOfBodies.{bodies_in}
use Rattle.oram_semantics.specs.Content.{block_of}
use Rattle.oram_semantics.specs.NextFetches.{table_after}
use Rattle.oram_core.proofs.NextFetches.{between, fetches_more, fetches_none}
use Rattle.oram_core.proofs.next_fetches.first_bodies.Goals as goal

pub loop-at-init : goal.loop-at-init
loop-at-init c = record { made = ap bodies_in c.new-bodies.ensures.items ∙ sym (fetches_none c.args.device.now c.args.table.now c.args.queue.now.items c.args.from) }

pub loop-at-preserved : goal.loop-at-preserved
loop-at-preserved c =
    let d = c.args.device.now in
    let y = c.index-submission.result.now in
    let last : c.trees-tree.result - 1 ≡ trees_of d - 1 = ap (λ (k : ℕ). k - 1) c.trees-tree.ensures.count in
    let block_is : c.address_in-block.result ≡ block_of d (trees_of d - 1) y =
    c.address_in-block.ensures.value ∙ ap (λ (a : ℕ). address_in d (c.trees-tree.result - 1) a) c.address.ensures ∙ ap (λ (i : ℕ). block_of d i y) last in
    let map_entry_is = c.entry_after-entry.ensures.value ∙ ap (λ (b : ℕ). slice_index (table_after d c.args.table.now (between c.args.from c.loop-at.at c.args.queue.now.items)) b) block_is in
    record {
      made = ap bodies_in c.in_ok-push.ensures.items
          ∙ fetches_more d c.args.table.now c.args.queue.now.items c.args.from c.loop-at.at c.entry_after-entry.result y c.loop-at.bodies.items c.in_ok-first_body.field-0 (omega arith) (omega arith) c.index-submission.ensures c.loop-at.invariant.made map_entry_is c.in_ok-first_body.ensures;
    }
