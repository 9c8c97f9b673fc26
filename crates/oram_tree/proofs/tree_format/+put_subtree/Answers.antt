use Rattle.std.proofs.Common.{rules, ◌+◌, ◌-◌, ◌^◌, ◌<◌, ◌≤◌, ℕ, [], refl, sym, ap, ◌∙◌, arith}
use Rattle.std.proofs.lemmas.Result.{on_ok_weaker, IfOk-weaker, IfErr-weaker}
use Rattle.sha2.specs.Sha256.{sha256}
use Rattle.oram_bucket.specs.Bucket.{spelling}
use Rattle.oram_tree.specs.Content.{node_count}
use Rattle.oram_tree.proofs.Puts.{left_nodes, right_nodes, node_count-twice, puts-leaf, puts-inner, root_record-leaf, root_record-inner, if_err, broken_after, broken_with, PutsAll-append, starts-leaf, starts-left, starts-right, starts-top}
use Rattle.oram_tree.proofs.tree_format.+put_subtree.Goals as goal

pub returns-then-height-eq0-clause-put : goal.returns-then-height-eq0-clause-put
returns-then-height-eq0-clause-put g t c =
    on_ok_weaker c.put_node.result (λ done. puts-leaf g.K.Sink.putting c.args.sink.now c.put_node.new.sink (λ n. (g.S.Sealer.cipher c.args.sealer.now).sealing n (spelling c.args.device.now [])) c.args.tree c.args.height c.args.nonce c.args.node (omega arith) done) c.put_node.ensures.put

pub returns-then-height-eq0-clause-digest : goal.returns-then-height-eq0-clause-digest
returns-then-height-eq0-clause-digest g t c =
    let r = root_record-leaf (λ n. (g.S.Sealer.cipher c.args.sealer.now).sealing n (spelling c.args.device.now [])) c.args.height c.args.nonce (omega arith) in
    IfOk-weaker c.put_node.result _ _ (λ d same. same ∙ ap sha256 (sym r)) c.put_node.ensures.digest

pub put_subtree-requires : goal.put_subtree-requires
put_subtree-requires g t c =
    let some : 0 < c.args.height = omega arith in
    let falls : c.args.height - 1 < t = omega arith in
    let nodes = left_nodes c.args.node c.args.height (2 ^ 25) some c.requires.nodes in
    let nonces : c.args.nonce + node_count (c.args.height - 1) ≤ 2 ^ 64 = omega (arith, node_count-twice c.args.height some) in
    search rules

pub put_subtree-requires-2 : goal.put_subtree-requires-2
put_subtree-requires-2 g t c =
    let some : 0 < c.args.height = omega arith in
    let falls : c.args.height - 1 < t = omega arith in
    let nodes = right_nodes c.args.node c.args.height (2 ^ 25) some c.requires.nodes in
    let nonces : c.args.nonce + c.nodes_below-below.result + node_count (c.args.height - 1) ≤ 2 ^ 64 = omega (arith, node_count-twice c.args.height some, c.nodes_below-below.ensures) in
    search rules

pub returns-clause-put : goal.returns-clause-put
returns-clause-put g t c =
    let seal = λ (n : ℕ). (g.S.Sealer.cipher c.args.sealer.now).sealing n (spelling c.args.device.now []) in
    let some : 0 < c.args.height = omega arith in
    let r = root_record-inner seal c.args.height c.args.nonce c.nodes_below-below.result _ _ some c.nodes_below-below.ensures c.in_ok-left.ensures.digest c.in_ok-right.ensures.digest in
    on_ok_weaker c.put_node-2.result (λ done. puts-inner g.K.Sink.putting c.args.sink.now c.put_subtree.new.sink c.put_subtree-2.new.sink c.put_node-2.new.sink seal c.args.tree c.args.height c.args.nonce c.args.node c.nodes_below-below.result _
    some c.nodes_below-below.ensures c.in_ok-left.ensures.put c.in_ok-right.ensures.put done (sym r)) c.put_node-2.ensures.put

pub returns-clause-digest : goal.returns-clause-digest
returns-clause-digest g t c =
    let seal = λ (n : ℕ). (g.S.Sealer.cipher c.args.sealer.now).sealing n (spelling c.args.device.now []) in
    let some : 0 < c.args.height = omega arith in
    let r = root_record-inner seal c.args.height c.args.nonce c.nodes_below-below.result _ _ some c.nodes_below-below.ensures c.in_ok-left.ensures.digest c.in_ok-right.ensures.digest in
    IfOk-weaker c.put_node-2.result _ _ (λ d same. same ∙ ap sha256 (sym r)) c.put_node-2.ensures.digest

pub returns-then-height-eq0-clause-broken_off : goal.returns-then-height-eq0-clause-broken_off
returns-then-height-eq0-clause-broken_off g t c =
    let seal = λ (n : ℕ). (g.S.Sealer.cipher c.args.sealer.now).sealing n (spelling c.args.device.now []) in
    IfErr-weaker c.put_node.result _ _
    (λ fault b. broken_after g.K.Sink.putting g.K.Sink.refusing _ _ c.args.sink.now c.args.sink.now c.put_node.new.sink fault []
    (λ xs s. starts-leaf seal c.args.tree c.args.height c.args.nonce c.args.node xs (omega arith) s) refl b) c.put_node.ensures.broken_off

pub returns-in_err-left-clause-broken_off : goal.returns-in_err-left-clause-broken_off
returns-in_err-left-clause-broken_off g t c =
    let seal = λ (n : ℕ). (g.S.Sealer.cipher c.args.sealer.now).sealing n (spelling c.args.device.now []) in
    let some : 0 < c.args.height = omega arith in
    if_err c.from_residual.result _ _ c.from_residual.ensures.1
    (λ fault same. broken_after g.K.Sink.putting g.K.Sink.refusing _ _ c.args.sink.now c.args.sink.now c.put_subtree.new.sink fault []
    (λ xs s. starts-left seal c.args.tree c.args.height c.args.nonce c.args.node c.nodes_below-below.result xs some c.nodes_below-below.ensures s) refl
    (broken_with g.K.Sink.putting g.K.Sink.refusing _ c.args.sink.now c.put_subtree.new.sink fault c.in_err-left.field-0.0 same c.in_err-left.ensures.broken_off))

pub returns-in_err-right-clause-broken_off : goal.returns-in_err-right-clause-broken_off
returns-in_err-right-clause-broken_off g t c =
    let seal = λ (n : ℕ). (g.S.Sealer.cipher c.args.sealer.now).sealing n (spelling c.args.device.now []) in
    let some : 0 < c.args.height = omega arith in
    if_err c.from_residual-in_err-right.result _ _ c.from_residual-in_err-right.ensures.1
    (λ fault same. broken_after g.K.Sink.putting g.K.Sink.refusing _ _ c.args.sink.now c.put_subtree.new.sink c.put_subtree-2.new.sink fault _
    (λ xs s. starts-right seal c.args.tree c.args.height c.args.nonce c.args.node c.nodes_below-below.result xs some c.nodes_below-below.ensures s) c.in_ok-left.ensures.put
    (broken_with g.K.Sink.putting g.K.Sink.refusing _ c.put_subtree.new.sink c.put_subtree-2.new.sink fault c.in_err-right.field-0.0 same c.in_err-right.ensures.broken_off))

pub returns-clause-broken_off : goal.returns-clause-broken_off
returns-clause-broken_off g t c =
    let seal = λ (n : ℕ). (g.S.Sealer.cipher c.args.sealer.now).sealing n (spelling c.args.device.now []) in
    let some : 0 < c.args.height = omega arith in
    let r = root_record-inner seal c.args.height c.args.nonce c.nodes_below-below.result _ _ some c.nodes_below-below.ensures c.in_ok-left.ensures.digest c.in_ok-right.ensures.digest in
    IfErr-weaker c.put_node-2.result _ _
    (λ fault b. broken_after g.K.Sink.putting g.K.Sink.refusing _ _ c.args.sink.now c.put_subtree-2.new.sink c.put_node-2.new.sink fault _
    (λ xs s. starts-top seal c.args.tree c.args.height c.args.nonce c.args.node c.nodes_below-below.result _ xs some c.nodes_below-below.ensures (sym r) s)
    (PutsAll-append g.K.Sink.putting c.args.sink.now c.put_subtree.new.sink c.put_subtree-2.new.sink _ _ c.in_ok-left.ensures.put c.in_ok-right.ensures.put) b) c.put_node-2.ensures.broken_off
