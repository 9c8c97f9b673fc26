use Rattle.std.proofs.Common.{◌+◌, List, [], ◌∷◌, arith, ap, sym, ◌∙◌, subst, length, length-append}
use Rattle.oram_core.specs.Core.{scheme_of}
use Rattle.oram_rounds.proofs.Tries.{on_err}
use Rattle.oram_export.specs.Export.{to_read}
use Rattle.oram_export.specs.Reading.{AreRead, HasAsked, IsRead}
use Rattle.oram_export.specs.declared.findings.LevelFindings.{LevelFindings}
use Rattle.oram_export.specs.declared.tree_reading.TreeToRead.{TreeToRead}
use Rattle.oram_export.proofs.Exporting.{asked_all, asked_nothing, asked_some, one_tree_more}
use Rattle.oram_export.proofs.check.check_disk.Goals as goal

pub loop-tree-preserved : goal.loop-tree-preserved
loop-tree-preserved g c =
    let batches = g.B.BatchLink.batches in
    let trees = to_read (scheme_of g.S.Sealer.cipher c.args.core.now) c.args.core.now.state in
    let found = c.loop-tree.found.items in
    let levels = c.in_ok-findings.findings in
    let read = c.in_ok-findings.ensures.ok in
    let one : IsRead batches (trees c.loop-tree.tree) c.loop-tree.link read.0 levels c.read_tree.new.link =
    subst (λ (t : TreeToRead). IsRead batches t c.loop-tree.link read.0 levels c.read_tree.new.link) c.tree_to_read-to_read.ensures.read read.1 in
    let more = c.in_ok-push.ensures in
    record {
      count = ap length more ∙ length-append found (levels ∷ []) ∙ ap (λ n. n + 1) c.loop-tree.invariant.count;
      read = subst (λ (fs : List (List LevelFindings)). AreRead batches trees 0 c.args.link.now fs c.read_tree.new.link) (sym more)
          (one_tree_more batches trees 0 c.loop-tree.tree c.args.link.now c.loop-tree.link c.read_tree.new.link found levels read.0 (omega (arith, c.loop-tree.invariant.count)) c.loop-tree.invariant.read one);
    }

pub returns-in_err-parts-clause-asked : goal.returns-in_err-parts-clause-asked
returns-in_err-parts-clause-asked g c =
    on_err c.from_residual.result (asked_nothing g.B.BatchLink.batches g.B.PipelinedLink.asks (to_read (scheme_of g.S.Sealer.cipher c.args.core.now) c.args.core.now.state) c.args.link.now)

pub returns-in_err-findings-clause-asked : goal.returns-in_err-findings-clause-asked
returns-in_err-findings-clause-asked g c =
    let batches = g.B.BatchLink.batches in
    let trees = to_read (scheme_of g.S.Sealer.cipher c.args.core.now) c.args.core.now.state in
    let asked = subst (λ (t : TreeToRead). HasAsked batches g.B.PipelinedLink.asks t c.loop-tree.link c.read_tree.new.link) c.tree_to_read-to_read.ensures.read c.in_err-findings.ensures.err in
    on_err c.from_residual-in_err-findings.result
    (asked_some batches g.B.PipelinedLink.asks trees c.loop-tree.tree c.args.link.now c.loop-tree.link c.read_tree.new.link c.loop-tree.found.items c.loop-tree.invariant.count c.loop-tree.invariant.read asked)

pub returns-in_err-push-clause-asked : goal.returns-in_err-push-clause-asked
returns-in_err-push-clause-asked g c =
    let batches = g.B.BatchLink.batches in
    let trees = to_read (scheme_of g.S.Sealer.cipher c.args.core.now) c.args.core.now.state in
    let read = c.in_ok-findings.ensures.ok in
    let asked = subst (λ (t : TreeToRead). HasAsked batches g.B.PipelinedLink.asks t c.loop-tree.link c.read_tree.new.link) c.tree_to_read-to_read.ensures.read
    (asked_all batches g.B.PipelinedLink.asks c.tree_to_read-to_read.result c.loop-tree.link c.read_tree.new.link read.0 c.in_ok-findings.findings read.1) in
    on_err c.from_residual-in_err-push.result
    (asked_some batches g.B.PipelinedLink.asks trees c.loop-tree.tree c.args.link.now c.loop-tree.link c.read_tree.new.link c.loop-tree.found.items c.loop-tree.invariant.count c.loop-tree.invariant.read asked)
