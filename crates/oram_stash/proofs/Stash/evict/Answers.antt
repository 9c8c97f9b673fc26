use Rattle.std.proofs.Common.{◌≡◌, ◌+◌, ◌<◌, ◌≤◌, ◌^◌, ℕ, All, length, map, sym, Vec, Global, vec_capacity, count_by, ap, ◌∙◌, subst, arith, rules}
use Rattle.std.proofs.lemmas.List.{with_items_is, length-map}
use Rattle.std.proofs.lemmas.List.Elements.{All-weaker, All-map}
use Rattle.std.proofs.lemmas.List.Sorted.{All-permutation}
use Rattle.oram_geometry.specs.Sizes.{depth_of as depth}
use Rattle.oram_bucket.specs.declared.block.Block.{Block}
use Rattle.oram_bucket.specs.Cell.{IsRising}
use Rattle.oram_stash.specs.Plan.{is_level}
use Rattle.oram_stash.proofs.Outcome.{carried_out, in_lists_from_plan}
use Rattle.oram_stash.proofs.Fewest.{fewest}
use Rattle.oram_stash.proofs.Stash.evict.Goals as goal

pub chosen_levels-requires-clause-leaves_in : goal.chosen_levels-requires-clause-leaves_in
chosen_levels-requires-clause-leaves_in c =
    let P : ℕ → Type 0 = λ own. own < 2 ^ depth c.args.device.now c.args.tree in
    subst (All P) (sym (c.deref.ensures.value ∙ c.in_ok-leaves.ensures)) (All-map P (λ (b : Block). b.leaf) c.args.self.now c.requires.leaves_in)

pub move_out-requires-clause-in_lists : goal.move_out-requires-clause-in_lists
move_out-requires-clause-in_lists c =
    let plan = c.in_ok-levels.ensures {u = tt} in
    let count = c.in_ok-lists.ensures {u = tt} in
    let depth_is = c.depth.ensures.count in
    let long : length c.deref_mut.result.now ≡ depth c.args.device.now c.args.tree + 1 = omega (arith, c.deref_mut.ensures.len, count.count, c.from.ensures) in
    rw c.deref-2.ensures.value (in_lists_from_plan c.in_ok-levels.levels.items _ _ plan.in_tree long)

pub move_out-requires-clause-room : goal.move_out-requires-clause-room
move_out-requires-clause-room c l =
    let plan = c.in_ok-levels.ensures {u = tt} in
    let lists = c.in_ok-lists.ensures {u = tt} in
    rw (c.deref_mut.ensures.value, c.deref-2.ensures.value) (All-weaker (λ (list : Vec Block Global). c.slots.result ≤ vec_capacity list) (λ (list : Vec Block Global). count_by (is_level l) c.in_ok-levels.levels.items ≤ vec_capacity list) (λ list room. let w = plan.within l in let s = c.slots.ensures.value in omega arith) c.in_ok-lists.lists.items lists.room)

pub returns-clause-ok : goal.returns-clause-ok
returns-clause-ok c =
    let plan = c.in_ok-levels.ensures {u = tt} in
    let count = c.in_ok-lists.ensures {u = tt} in
    let depth_is = c.depth.ensures.count in
    let same : length c.move_out.new.lists ≡ c.in_ok-lists.lists.len = search rules in
    let long : length (map (λ (list : Vec Block Global). list.items) c.move_out.new.lists) ≡ depth c.args.device.now c.args.tree + 1 = rw length-map (omega (arith, count.count, c.from.ensures)) in
    rw (with_items_is c.in_ok-lists.lists c.move_out.new.lists same)
    (carried_out _ _ _ c.args.self.now _ _ _ _ _ _ (c.deref.ensures.value ∙ c.in_ok-leaves.ensures) (ap (λ (v : Vec Block Global). v.items) c.replace-blocks.ensures.value ∙ c.self.view_is) c.deref-2.ensures.value (subst IsRising c.self.view_is c.self.invariant) plan c.move_out.ensures.to_list c.move_out.ensures.to_rest long c.move_out.ensures.each_once)

pub invariant_of-self : goal.invariant_of-self
invariant_of-self c = let e = returns-clause-ok c in e.rising

pub returns-clause-fewest : goal.returns-clause-fewest
returns-clause-fewest c = fewest _ _ _ _ _ _ (returns-clause-ok c)

pub returns-clause-leaves_in : goal.returns-clause-leaves_in
returns-clause-leaves_in c = let e = returns-clause-ok c in All-permutation (λ (block : Block). block.leaf < 2 ^ depth c.args.device.now c.args.tree) c.args.self.now _ e.placement.each_once c.requires.leaves_in
