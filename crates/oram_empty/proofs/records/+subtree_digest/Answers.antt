use Rattle.std.proofs.Common.{◌+◌, ◌*◌, ◌<◌, ◌++◌, ℕ, List, ap, ◌∙◌, arith}
use Rattle.std.proofs.lemmas.Result.{IfOk-weaker}
use Rattle.sha2.specs.Sha256.{sha256}
use Rattle.oram_empty.proofs.Subtrees.{leaf_record, inner_record}
use Rattle.oram_empty.proofs.records.+subtree_digest.Goals as goal

pub returns-then-height-eq0 : goal.returns-then-height-eq0
returns-then-height-eq0 g t c =
    let seal = λ (n : ℕ). (g.S.Sealer.cipher c.args.sealer.now).sealing n c.args.plain.now in
    IfOk-weaker c.record_digest.result _ _ (λ digest same. same ∙ ap sha256 (leaf_record seal c.args.height c.args.nonce c.if-height-eq0.true)) c.record_digest.ensures

pub returns : goal.returns
returns g t c =
    let seal = λ (n : ℕ). (g.S.Sealer.cipher c.args.sealer.now).sealing n c.args.plain.now in
    let some : 0 < c.args.height = omega arith in
    let b = c.node_count-below.result in
    IfOk-weaker c.record_digest-2.result _ _ (λ digest same. same
    ∙ ap (λ (ds : List ℕ). sha256 (seal (c.args.nonce + 2 * b) ++ ds)) c.both.ensures
    ∙ ap sha256 (inner_record seal c.args.height c.args.nonce b c.in_ok-left.left c.in_ok-right.right some c.node_count-below.ensures.value c.in_ok-left.ensures c.in_ok-right.ensures)) c.record_digest-2.ensures
