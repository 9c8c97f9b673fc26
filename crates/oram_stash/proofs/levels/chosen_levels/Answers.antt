use Rattle.std.proofs.Common.{◌≡◌, ℕ, ◌+◌, ◌-◌, ◌<◌, ◌≤◌, length, get_or, Vec, Global, sym, ap, ◌∙◌, arith, rules}
use Rattle.std.proofs.lemmas.List.{with_items_is}
use Rattle.oram_geometry.specs.Sizes.{depth_of as depth}
use Rattle.oram_stash.specs.Plan.{Reaches}
use Rattle.oram_stash.proofs.Pops.{one_round}
use Rattle.oram_stash.proofs.levels.chosen_levels.Goals as goal
use Rattle.oram_stash.proofs.levels.chosen_levels.Goals.{then-loop-level-test+in_ok-admit+else-level-gt0, else-loop-level-test}

-- the indices that wait are indices of blocks
pub fill_level-requires-clause-in_range : goal.fill_level-requires-clause-in_range
fill_level-requires-clause-in_range c =
    let deep = depth c.args.device.now c.args.tree in
    let shared = c.in_ok-shared.ensures {u = tt} in
    let groups = c.in_ok-groups.ensures {u = tt} in
    let admitted = c.in_ok-admit.ensures {u = tt} in
    let depth_is = c.depth-depth.ensures.count in
    let level = c.loop-level.level in
    let in_tree : level ≤ deep = omega (arith, c.loop-level.auto.level) in
    let reaches = λ (j l : ℕ) (lt : j < length c.args.leaves.now) (le : l ≤ deep). (shared.each j lt).reaches l le in
    let long : length c.in_ok-shared.shared.items ≡ length c.args.leaves.now = sym c.in_ok-shared.shared.ok.0 ∙ shared.count in
    let read_is = c.deref-in-loop-level.ensures.value ∙ ap (λ (g : Vec ℕ Global). g.items) c.index.ensures ∙ ap (λ n. (get_or c.in_ok-groups.groups.items n c.index.result.now).items) c.from-in-loop-level.ensures in
    let places = groups.places level (omega (arith, c.from.ensures)) c.index.result.now in
    let round = one_round (Reaches deep c.args.leaf c.args.leaves.now) c.in_ok-shared.shared.items c.deref.result.now (length c.args.leaves.now) deep c.args.device.now.slots level c.loop-level.levels.items c.loop-level.waiting.keys _ c.deref-in-loop-level.result.now c.admit.new.waiting.keys c.loop-level.invariant.plan in_tree reaches long c.deref.ensures.value c.loop-level.invariant.waits places read_is admitted.added admitted.ordered in
    rw c.deref_mut.ensures.value round.in_range

pub loop-level-preserved : goal.loop-level-preserved
loop-level-preserved c =
    let deep = depth c.args.device.now c.args.tree in
    let shared = c.in_ok-shared.ensures {u = tt} in
    let groups = c.in_ok-groups.ensures {u = tt} in
    let admitted = c.in_ok-admit.ensures {u = tt} in
    let depth_is = c.depth-depth.ensures.count in
    let level = c.loop-level.level in
    let in_tree : level ≤ deep = omega (arith, c.loop-level.auto.level) in
    let reaches = λ (j l : ℕ) (lt : j < length c.args.leaves.now) (le : l ≤ deep). (shared.each j lt).reaches l le in
    let long : length c.in_ok-shared.shared.items ≡ length c.args.leaves.now = sym c.in_ok-shared.shared.ok.0 ∙ shared.count in
    let read_is = c.deref-in-loop-level.ensures.value ∙ ap (λ (g : Vec ℕ Global). g.items) c.index.ensures ∙ ap (λ n. (get_or c.in_ok-groups.groups.items n c.index.result.now).items) c.from-in-loop-level.ensures in
    let places = groups.places level (omega (arith, c.from.ensures)) c.index.result.now in
    let round = one_round (Reaches deep c.args.leaf c.args.leaves.now) c.in_ok-shared.shared.items c.deref.result.now (length c.args.leaves.now) deep c.args.device.now.slots level c.loop-level.levels.items c.loop-level.waiting.keys _ c.deref-in-loop-level.result.now c.admit.new.waiting.keys c.loop-level.invariant.plan in_tree reaches long c.deref.ensures.value c.loop-level.invariant.waits places read_is admitted.added admitted.ordered in
    let up : level - 1 + 1 ≡ level = omega arith in
    let slots_is = c.slots.ensures.value in
    let same : length c.fill_level.new.levels ≡ c.loop-level.levels.len = search rules in
    let filled = c.fill_level.ensures in
    record {
      plan = rw (up, with_items_is c.loop-level.levels c.fill_level.new.levels same, filled.given, slots_is, c.deref_mut.ensures.value) round.plan;
      waits = rw (up, with_items_is c.loop-level.levels c.fill_level.new.levels same, filled.given, filled.rest, slots_is, c.deref_mut.ensures.value) round.waits;
      ordered = filled.still_ordered;
    }

pub returns : goal.returns
returns c = elim c.loop-level-test.branch [
  | else-loop-level-test w ↦ absurd (omega (arith, w.loop-level-test.false))
  | then-loop-level-test+in_ok-admit+else-level-gt0 w ↦
      let deep = depth c.args.device.now c.args.tree in
      let shared = c.in_ok-shared.ensures {u = tt} in
      let groups = c.in_ok-groups.ensures {u = tt} in
      let admitted = w.in_ok-admit.ensures {u = tt} in
      let depth_is = c.depth-depth.ensures.count in
      let level = c.loop-level.level in
      let in_tree : level ≤ deep = omega (arith, c.loop-level.auto.level) in
      let reaches = λ (j l : ℕ) (lt : j < length c.args.leaves.now) (le : l ≤ deep). (shared.each j lt).reaches l le in
      let long : length c.in_ok-shared.shared.items ≡ length c.args.leaves.now = sym c.in_ok-shared.shared.ok.0 ∙ shared.count in
      let read_is = w.deref-in-loop-level.ensures.value ∙ ap (λ (g : Vec ℕ Global). g.items) w.index.ensures ∙ ap (λ n. (get_or c.in_ok-groups.groups.items n w.index.result.now).items) w.from-in-loop-level.ensures in
      let places = groups.places level (omega (arith, c.from.ensures)) w.index.result.now in
      let round = one_round (Reaches deep c.args.leaf c.args.leaves.now) c.in_ok-shared.shared.items c.deref.result.now (length c.args.leaves.now) deep c.args.device.now.slots level c.loop-level.levels.items c.loop-level.waiting.keys _ w.deref-in-loop-level.result.now w.admit.new.waiting.keys c.loop-level.invariant.plan in_tree reaches long c.deref.ensures.value c.loop-level.invariant.waits places read_is admitted.added admitted.ordered in
      let root : level ≡ 0 = omega (arith, w.if-level-gt0.false) in
      let slots_is = w.slots.ensures.value in
      let same : length w.fill_level.new.levels ≡ c.loop-level.levels.len = search rules in
      let filled = w.fill_level.ensures in
      let plan = rw root at round.plan in
      rw (w.levels-is, with_items_is c.loop-level.levels w.fill_level.new.levels same, filled.given, slots_is, w.deref_mut.ensures.value, root) plan
]
