use Rattle.std.proofs.Common.{◌≡◌, ◌-◌, ◌+◌, ◌^◌, ◌<◌, ◌≤◌, ℕ, ap, sym, ◌∙◌, slice_index, subst, arith}
use Rattle.std.proofs.lemmas.List.Elements.{All-get_or}
use Rattle.oram_geometry.specs.Sizes.{address_in, depth_of, trees_of}
use Rattle.oram_semantics.specs.Content.{block_of, new_leaf}
use Rattle.oram_semantics.specs.NextFetches.{table_after}
use Rattle.oram_core.proofs.NextFetches.{between, entry_kept, entry_behind, table_none}
use Rattle.oram_core.proofs.Small.{leaf_fits}
use Rattle.oram_core.proofs.next_fetches.entry_after.Goals as goal
use Rattle.oram_core.proofs.next_fetches.entry_after.Goals.{then-address_in-block, else-address_in-block}

pub loop-at-init : goal.loop-at-init
loop-at-init c =
    let d = c.args.device.now in
    record {
      value = sym (table_none d c.args.table.now c.args.queue.now.items c.args.from c.args.block);
      range = All-get_or (λ (e : ℕ). e ≤ 2 ^ depth_of d (trees_of d - 1)) c.args.table.now c.args.block 0 c.requires.block c.requires.map_entries;
    }

pub overflow_add-entry : goal.overflow_add-entry
overflow_add-entry c = omega (arith, leaf_fits c.args.device.now (c.trees-tree.result - 1) c.new_leaf-entry.result c.new_leaf-entry.ensures.range)

pub loop-at-preserved : goal.loop-at-preserved
loop-at-preserved c =
    let d = c.args.device.now in
    let y = c.index-earlier.result.now in
    let last : c.trees-tree.result - 1 ≡ trees_of d - 1 = ap (λ (k : ℕ). k - 1) c.trees-tree.ensures.count in
    let block_is : c.address_in.result ≡ block_of d (trees_of d - 1) y =
    c.address_in.ensures.value ∙ ap (λ (a : ℕ). address_in d (c.trees-tree.result - 1) a) c.address.ensures ∙ ap (λ (i : ℕ). block_of d i y) last in
    elim c.if-address_in-block.branch [
      | then-address_in-block w ↦
          let small : w.new_leaf-entry.result < 2 ^ depth_of d (trees_of d - 1) = subst (λ (i : ℕ). w.new_leaf-entry.result < 2 ^ depth_of d i) last w.new_leaf-entry.ensures.range in
          let is = w.entry-is in
          record {
            value = w.entry-is ∙ ap (λ (k : ℕ). k + 1) (w.new_leaf-entry.ensures.value ∙ ap (λ (i : ℕ). new_leaf d i y) last)
                ∙ sym (entry_behind d c.args.table.now c.args.queue.now.items c.args.from c.loop-at.at c.args.block y (omega arith) (omega arith) c.index-earlier.ensures c.requires.block (sym block_is ∙ w.if-address_in-block.true));
            range = rw w.entry-is (omega (arith, small));
          }
      | else-address_in-block w ↦
          record {
            value = w.entry-is ∙ c.loop-at.invariant.value
                ∙ sym (entry_kept d c.args.table.now c.args.queue.now.items c.args.from c.loop-at.at c.args.block y (omega arith) (omega arith) c.index-earlier.ensures (λ same. w.if-address_in-block.false (block_is ∙ same)));
            range = rw w.entry-is c.loop-at.invariant.range;
          }
    ]

pub returns-clause-value : goal.returns-clause-value
returns-clause-value c =
    let end : c.loop-at.at ≡ c.args.to = omega arith in
    c.loop-at.invariant.value ∙ ap (λ (k : ℕ). slice_index (table_after c.args.device.now c.args.table.now (between c.args.from k c.args.queue.now.items)) c.args.block) end
