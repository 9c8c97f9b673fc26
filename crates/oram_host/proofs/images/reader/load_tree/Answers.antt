use Rattle.std.proofs.Common.{◌∷◌, [], ◌<◌, ◌≤◌, ℕ, rules}
use Rattle.std.proofs.lemmas.Result.{err_from_is_err_and}
use Rattle.oram_host.specs.declared.images.ImageFault.TheVariants.{Content}
use Rattle.oram_host.specs.ImageReader.{next_byte, next_kept, next_tree}
use Rattle.oram_host.proofs.FieldReads.{fails_after, fails_first, fails_here}
use Rattle.oram_host.proofs.ReadImages.{other_tree, tree_first, tree_kept}
use Rattle.oram_host.proofs.Transfers.{taken_twice}
use Rattle.oram_host.proofs.images.reader.load_tree.Goals as goal

pub returns-in_err-number-clause-fault : goal.returns-in_err-number-clause-fault
returns-in_err-number-clause-fault g c =
    let p = err_from_is_err_and c.from_residual.result c.from_residual.ensures.1 in
    let why = c.in_err-number.field-0.0 in
    let least = c.args.least in
    rw (p.1, p.2) (fails_first why _ next_byte (next_tree least) (λ text e. tree_first least text why e) c.in_err-number.ensures.fault)

pub returns-then-from-least-clause-fault : goal.returns-then-from-least-clause-fault
returns-then-from-least-clause-fault g c =
    let number : ℕ = c.in_ok-number.number in
    let below : number < c.args.least = search rules in
    fails_here Content _ _ (number ∷ []) (next_tree c.args.least) c.in_ok-number.ensures.ok (λ rest. other_tree c.args.least number rest below)

pub returns-in_err-tree-clause-fault : goal.returns-in_err-tree-clause-fault
returns-in_err-tree-clause-fault g c =
    let p = err_from_is_err_and c.from_residual-in_err-tree.result c.from_residual-in_err-tree.ensures.1 in
    let why = c.in_err-tree.field-0.0 in
    let number : ℕ = c.in_ok-number.number in
    let rises : c.args.least ≤ number = search rules in
    rw (p.1, p.2) (fails_after why _ _ (number ∷ []) next_kept (next_tree c.args.least) c.in_ok-number.ensures.ok (λ rest e. tree_kept c.args.least number rest why rises e) c.in_err-tree.ensures.fault)

pub returns-in_err-tree-clause-consumed : goal.returns-in_err-tree-clause-consumed
returns-in_err-tree-clause-consumed g c = taken_twice _ _ _ c.read_byte.ensures.consumed c.load_kept.ensures.consumed

pub returns-clause-consumed : goal.returns-clause-consumed
returns-clause-consumed g c = taken_twice _ _ _ c.read_byte.ensures.consumed c.load_kept.ensures.consumed
