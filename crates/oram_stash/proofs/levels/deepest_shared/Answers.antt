use Rattle.std.proofs.Common.{◌≡◌, ◌⊎◌, ℕ, ◌<◌, ◌≤◌, length, Any, sym, ap, subst, inl, inr, arith}
use Rattle.std.proofs.lemmas.Bool.{cases_lt}
use Rattle.std.proofs.lemmas.List.{take_all}
use Rattle.std.proofs.lemmas.List.Elements.{All-more, All-weaker}
use Rattle.oram_bucket.specs.declared.block.Block.{Block}
use Rattle.oram_geometry.specs.Sizes.{depth_of as depth}
use Rattle.oram_geometry.specs.Path.{MeetsAt}
use Rattle.oram_stash.proofs.levels.deepest_shared.Goals as goal

pub loop-block-preserved : goal.loop-block-preserved
loop-block-preserved c =
    let deep = depth c.args.device.now c.args.tree in
    let P = λ (n : ℕ) (b : Block). (k : ℕ) → n < k → k ≤ deep → MeetsAt deep c.args.leaf b.leaf k → ⊥ in
    let inv = c.loop-block.invariant in
    let i = c.loop-block.block-index in
    let block = c.block-item.result in
    let is_max = c.max-deepest.ensures in
    let shared = c.shared_level.result in
    let leaf_is : c.block.inside.leaf ≡ c.block-item.result.leaf = ap (λ (b : Block). b.leaf) c.block.view_is in
    let meets = rw leaf_is at c.shared_level.ensures.meets in
    let kept : c.loop-block.deepest ≤ c.max-deepest.result = omega arith in
    let above : shared ≤ c.max-deepest.result = omega arith in
    record {
      in_tree = omega (arith, inv.in_tree, c.shared_level.ensures.greatest.within);
      at_least = omega (arith, inv.at_least);
      reached = elim (cases_lt c.loop-block.deepest shared) [
        | inl deeper ↦ let e : shared ≡ c.max-deepest.result = omega arith in
            inr (i, block, c.loop-block-test.true, sym c.block-item.is, subst (MeetsAt deep c.args.leaf block.leaf) e ((meets shared c.shared_level.ensures.greatest.within).1 (omega arith)))
        | inr not_deeper ↦ let e : c.loop-block.deepest ≡ c.max-deepest.result = omega arith in
            subst (λ (n : ℕ). (n ≡ c.args.level) ⊎ Any (λ (b : Block). MeetsAt deep c.args.leaf b.leaf n) c.args.blocks.now) e inv.reached
      ];
      apart = All-more (P c.max-deepest.result) c.args.blocks.now i block c.loop-block-test.true
          (All-weaker (P c.loop-block.deepest) (P c.max-deepest.result) (λ b apart k lt within. apart k (omega arith) within) _ inv.apart)
          (subst (P c.max-deepest.result) c.block-item.is (λ k lt within here. let h = (meets k within).0 here in omega arith));
    }

pub returns-clause-apart : goal.returns-clause-apart
returns-clause-apart c = let end : length c.args.blocks.now ≤ c.loop-block.block-index = c.loop-block-test.false in rw take_all at c.loop-block.invariant.apart
