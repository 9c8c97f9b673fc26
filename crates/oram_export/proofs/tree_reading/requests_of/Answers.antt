use Rattle.std.proofs.Common.{ℕ, ap, ◌∙◌}
use Rattle.oram_scan.specs.Scan.{node_count}
use Rattle.oram_export.specs.declared.batches.Requests.{Requests}
use Rattle.oram_export.proofs.Asked.{nodes_are, rows_are}
use Rattle.oram_export.proofs.tree_reading.requests_of.Goals as goal

pub returns : goal.returns
returns c =
    let tree = c.args.tree.now in
    ap {B = Requests} (λ (n : ℕ). record { tree = tree.tree; nodes = n; most = c.most_rows.result }) (nodes_are tree.depth c.requires.depth)
    ∙ ap {B = Requests} (λ (n : ℕ). record { tree = tree.tree; nodes = node_count tree.depth; most = n }) (rows_are c.most_rows.result tree.record_len c.most_rows.ensures.fit c.most_rows.ensures.most)
