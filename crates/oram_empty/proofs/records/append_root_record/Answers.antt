use Rattle.std.proofs.Common.{◌+◌, ◌*◌, ◌<◌, ◌++◌, ℕ, List, ap, ◌∙◌, arith}
use Rattle.std.proofs.lemmas.Result.{on_ok_weaker}
use Rattle.oram_empty.proofs.Subtrees.{leaf_record, inner_record}
use Rattle.oram_empty.proofs.records.append_root_record.Goals as goal

pub returns-then-height-eq0-clause-ok : goal.returns-then-height-eq0-clause-ok
returns-then-height-eq0-clause-ok g c =
    let seal = λ (n : ℕ). (g.S.Sealer.cipher c.args.sealer.now).sealing n c.args.plain.now in
    on_ok_weaker c.append_record.result (λ same. same ∙ ap (λ (r : List ℕ). c.args.out.now.items ++ r) (leaf_record seal c.args.height c.args.nonce c.if-height-eq0.true)) c.append_record.ensures.ok

pub returns-clause-ok : goal.returns-clause-ok
returns-clause-ok g c =
    let seal = λ (n : ℕ). (g.S.Sealer.cipher c.args.sealer.now).sealing n c.args.plain.now in
    let some : 0 < c.args.height = omega arith in
    let b = c.node_count-below.result in
    on_ok_weaker c.append_record-2.result (λ same. same
    ∙ ap (λ (ds : List ℕ). c.args.out.now.items ++ (seal (c.args.nonce + 2 * b) ++ ds)) c.both-digests.ensures
    ∙ ap (λ (r : List ℕ). c.args.out.now.items ++ r) (inner_record seal c.args.height c.args.nonce b c.in_ok-left.left c.in_ok-right.right some c.node_count-below.ensures.value c.in_ok-left.ensures c.in_ok-right.ensures)) c.append_record-2.ensures.ok
