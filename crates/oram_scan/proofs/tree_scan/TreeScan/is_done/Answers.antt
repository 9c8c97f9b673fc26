use Rattle.std.proofs.Common.{◌≡◌, ◌-◌, ◌*◌, ◌%◌, ◌^◌, ◌≤◌, arith, ap, sym, ◌∙◌}
use Rattle.std.proofs.Math.Nat.{pow-le-pow_right, mod-eq_of_lt}
use borrow.Author.Tests.{le-leb, leb-true}
use Rattle.oram_scan.specs.Scan.{node_count}
use Rattle.oram_scan.proofs.Scans.{twice}
use Rattle.oram_scan.proofs.tree_scan.TreeScan.is_done.Goals as goal

pub returns : goal.returns
returns c =
    let depth = c.self.inside.depth in
    let node = c.self.inside.node in
    let most : 2 ^ depth ≤ 2 ^ 24 = pow-le-pow_right (omega arith) c.self.invariant.depth_in in
    let count : 2 * 2 ^ depth % 18446744073709551616 - 1 ≡ node_count depth = ap (λ n. n - 1) (mod-eq_of_lt (omega arith)) ∙ omega (arith, twice depth) in
    rw (sym c.self.view_is, count) (leb-true (node_count depth) node, le-leb (node_count depth) node)
