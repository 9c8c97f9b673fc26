use Rattle.std.proofs.Common.{◌≡◌, ◌+◌, ◌<◌, ◌≤◌, ◌^◌, ℕ, All, Bor, length, map, vec_capacity, count_by, sym, ap, ◌∙◌, subst, arith, rules}
use Rattle.std.proofs.lemmas.List.{with_items_is}
use Rattle.std.proofs.lemmas.List.Elements.{All-weaker, All-map}
use Rattle.oram_geometry.specs.Sizes.{depth_of as depth}
use Rattle.oram_bucket.specs.declared.block.Block.{Block}
use Rattle.oram_stash.specs.Plan.{is_level}
use Rattle.oram_stash.proofs.Outcome.{in_lists_from_plan}
use Rattle.oram_stash.proofs.Lent.{placed}
use Rattle.oram_stash.proofs.placement.place.Goals as goal

pub chosen_levels-requires-clause-leaves_in : goal.chosen_levels-requires-clause-leaves_in
chosen_levels-requires-clause-leaves_in c =
    let P : ℕ → Type 0 = λ own. own < 2 ^ depth c.args.device.now c.args.tree in
    subst (All P) (sym (c.deref-2.ensures.value ∙ c.in_ok-leaves.ensures ∙ ap (map (λ (b : Bor Block). b.now.leaf)) c.deref.ensures.value))
    (All-map P (λ (b : Bor Block). b.now.leaf) c.args.blocks.items c.requires.leaves_in)

pub move_out-requires-clause-in_lists : goal.move_out-requires-clause-in_lists
move_out-requires-clause-in_lists c =
    let plan = c.in_ok-levels.ensures {u = tt} in
    let count = c.in_ok-lists.ensures {u = tt} in
    let depth_is = c.depth.ensures.count in
    let long : length c.deref_mut.result.now ≡ depth c.args.device.now c.args.tree + 1 = omega (arith, c.deref_mut.ensures.len, count.count, c.from.ensures) in
    rw c.deref-3.ensures.value (in_lists_from_plan c.in_ok-levels.levels.items _ _ plan.in_tree long)

pub move_out-requires-clause-room : goal.move_out-requires-clause-room
move_out-requires-clause-room c l =
    let plan = c.in_ok-levels.ensures {u = tt} in
    let lists = c.in_ok-lists.ensures {u = tt} in
    rw (c.deref_mut.ensures.value, c.deref-3.ensures.value) (All-weaker (λ list. c.slots.result ≤ vec_capacity list) (λ list. count_by (is_level l) c.in_ok-levels.levels.items ≤ vec_capacity list) (λ list room. let w = plan.within l in let s = c.slots.ensures.value in omega arith) c.in_ok-lists.lists.items lists.room)

pub returns : goal.returns
returns c =
    let plan = c.in_ok-levels.ensures {u = tt} in
    let count = c.in_ok-lists.ensures {u = tt} in
    let depth_is = c.depth.ensures.count in
    let same : length c.move_out.new.lists ≡ c.in_ok-lists.lists.len = search rules in
    let long : length c.move_out.new.lists ≡ depth c.args.device.now c.args.tree + 1 = omega (arith, same, count.count, c.from.ensures, c.in_ok-lists.lists.ok.0) in
    rw (with_items_is c.in_ok-lists.lists c.move_out.new.lists same)
    (placed (λ (b : Bor Block). b.now) _ _ _ c.args.blocks.items c.deref-2.result.now c.in_ok-levels.levels.items c.deref-3.result.now c.move_out.new.lists c.move_out.new.rest.items
    (c.deref-2.ensures.value ∙ c.in_ok-leaves.ensures ∙ ap (map (λ (b : Bor Block). b.now.leaf)) c.deref.ensures.value) c.deref-3.ensures.value c.requires.rising plan c.move_out.ensures.to_list c.move_out.ensures.to_rest long c.move_out.ensures.each_once)
