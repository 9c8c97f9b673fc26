use Rattle.std.proofs.Common.{◌<◌, ◌≤◌, ◌↔◌, true, ltb, leb, refl, sym, subst, arith}
use Rattle.std.specs.Prelude.{IsTrue}
use borrow.Author.Tests.{le-leb, leb-true, lt-ltb, ltb-true}
use Rattle.oram_semantics.specs.declared.events.Reason.{Reason}
use Rattle.oram_core.specs.Core.{IsReasonOf}
use Rattle.oram_core.proofs.parts.validity.is_reason.Goals as goal

pub returns-in-Malformed : goal.returns-in-Malformed
returns-in-Malformed c = subst (λ (r : Reason). IsTrue true ↔ IsReasonOf c.args.device.now r) (sym c.in-Malformed.is) (λ is. tt, λ is. refl)

pub returns-then-code-gt0 : goal.returns-then-code-gt0
returns-then-code-gt0 c =
    let code = c.in-HostRefused.code in
    subst (λ (r : Reason). IsTrue (ltb code 8) ↔ IsReasonOf c.args.device.now r) (sym c.in-HostRefused.is)
    (λ is. (c.if-code-gt0.true, ltb-true code 8 is), λ fits. lt-ltb code 8 fits.1)

pub returns-else-code-gt0 : goal.returns-else-code-gt0
returns-else-code-gt0 c =
    let code = c.in-HostRefused.code in
    subst (λ (r : Reason). IsTrue (ltb 0 code) ↔ IsReasonOf c.args.device.now r) (sym c.in-HostRefused.is)
    (λ is. absurd (let some : 0 < code = ltb-true 0 code is in omega arith), λ fits. lt-ltb 0 code fits.0)

pub returns-then-tree-trees : goal.returns-then-tree-trees
returns-then-tree-trees c =
    let tree = c.in-Tampered.tree in
    let level = c.in-Tampered.level in
    let deep = c.depth.ensures.count in
    subst (λ (r : Reason). IsTrue (leb level c.depth.result) ↔ IsReasonOf c.args.device.now r) (sym c.in-Tampered.is) (
      λ is. (subst (λ n. tree < n) c.trees.ensures.count c.if-tree-trees.true, subst (λ n. level ≤ n) deep (leb-true level c.depth.result is)),
      λ fits. le-leb level c.depth.result (subst (λ n. level ≤ n) (sym deep) fits.1),
    )

pub returns-else-tree-trees : goal.returns-else-tree-trees
returns-else-tree-trees c =
    let tree = c.in-Tampered.tree in
    subst (λ (r : Reason). IsTrue (ltb tree c.trees.result) ↔ IsReasonOf c.args.device.now r) (sym c.in-Tampered.is)
    (λ is. absurd (let within : tree < c.trees.result = ltb-true tree c.trees.result is in omega arith), λ fits. lt-ltb tree c.trees.result (subst (λ n. tree < n) (sym c.trees.ensures.count) fits.0))

pub depth-requires : goal.depth-requires
depth-requires c = subst (λ n. c.in-Tampered.tree < n) c.trees.ensures.count c.if-tree-trees.true
