use Rattle.std.proofs.Common.{◌≡◌, ◌+◌, ◌++◌, ◌∷◌, List, ℕ, length, [], ap, sym, subst, ◌∙◌, length-append, append_assoc, arith}
use Rattle.oram_host.proofs.Paths.{step_is}
use Rattle.oram_host.specs.Path.{record_at}
use Rattle.oram_layout.specs.Limits.{levels_from}
use Rattle.oram_layout.specs.Trees.{sizes_of}
use Rattle.oram_layout.proofs.Changes.{length-record_at}
use Rattle.oram_store.specs.Batches.{HoldsCells}
use Rattle.oram_redo.proofs.Outcomes.{if_ok_none}
use Rattle.oram_store.proofs.BatchBytes.{cells_more}
use Rattle.oram_store.proofs.batches.cells_of.Goals as goal

pub returns-in_err-push-clause-len : goal.returns-in_err-push-clause-len
returns-in_err-push-clause-len c = if_ok_none c.from_residual-in_err-push.result _ c.from_residual-in_err-push.ensures.0

pub loop-level-preserved : goal.loop-level-preserved
loop-level-preserved c =
    let len : ℕ = c.args.tree.now.shape.record_len in
    let level : ℕ = c.loop-level.level in
    let record_there : List ℕ = record_at len c.args.records.now level in
    let long = length-record_at len c.args.records.now level (levels_from (sizes_of c.args.tree.now.shape) c.args.first) c.requires.whole (omega arith) in
    let is : c.extend_from_slice.new.self.items ≡ c.loop-level.cells.items ++ 1 ∷ record_there =
    c.in_ok-extend_from_slice.ensures.items ∙ ap (λ (xs : List ℕ). xs ++ record_there) c.in_ok-push.ensures.items ∙ append_assoc c.loop-level.cells.items (1 ∷ []) record_there in
    record {
      whole = omega (arith, ap length is, length-append c.loop-level.cells.items (1 ∷ record_there), long, step_is level (len + 1), c.loop-level.invariant.whole);
      held = subst (λ (xs : List ℕ). HoldsCells xs len c.args.records.now (level + 1)) (sym is) (cells_more len level c.loop-level.cells.items c.args.records.now c.loop-level.invariant.whole long c.loop-level.invariant.held);
    }
