use Rattle.std.proofs.Common.{◌∙◌, ◌≤◌, ◌^◌, ◌+◌, ◌-◌, ℕ, List, sym, arith}
use Rattle.std.specs.BTreeMap.{values}
use Rattle.std.proofs.Math.Nat.{pow-le-pow_right}
use Rattle.std.proofs.lemmas.List.{length-map}
use Rattle.std.proofs.lemmas.List.Sums.{count_by-le-length, length-filter}
use Rattle.oram_host.specs.Trees.{is_there}
use Rattle.oram_host.proofs.ImageTexts.{few_keys, length-filter_values}
use Rattle.oram_host.proofs.trees.Tree.count.Goals as goal

pub overflow_cast-result : goal.overflow_cast-result
overflow_cast-result c =
    let tree = c.args.self.now in
    let two : 1 ≤ 2 = omega arith in
    let deep : tree.depth + 1 ≤ 25 = omega (arith, c.requires.shape.deep) in
    let most : 2 ^ (tree.depth + 1) ≤ 2 ^ 25 = pow-le-pow_right two deep in
    omega (arith, c.count_there.ensures, count_by-le-length is_there (values tree.records), length-map tree.records.entries (λ (e : ℕ × List ℕ). e.1), few_keys tree.records (2 ^ (tree.depth + 1) - 1) c.requires.ordered c.requires.nodes)

pub returns : goal.returns
returns c = c.count_there.ensures ∙ sym (length-filter is_there (values c.args.self.now.records)) ∙ length-filter_values c.args.self.now.records.entries
