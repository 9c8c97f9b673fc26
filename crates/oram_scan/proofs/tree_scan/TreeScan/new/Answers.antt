use Rattle.std.proofs.Common.{List, Option, Some, [], ◌∷◌, ◌++◌, ℕ, ap, ◌∙◌}
use Rattle.oram_scan.proofs.Scans.{begun_is_scan}
use Rattle.oram_scan.proofs.tree_scan.TreeScan.new.Goals as goal

pub invariant_of-result : goal.invariant_of-result
invariant_of-result c =
    begun_is_scan c.args.depth c.args.record_len c.args.root.now c.push_back.new.self.items c.requires.depth c.requires.len
    (c.in-Ok.ensures.items ∙ ap (λ (before : List (Option (List ℕ))). before ++ Some c.args.root.now ∷ []) c.new-expected.ensures.items)
