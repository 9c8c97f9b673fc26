use Rattle.std.proofs.Common.{ap, sym, ◌∙◌, arith}
use Rattle.sha2.specs.Sha256.{sha256}
use Rattle.oram_hash.proofs.Paths.{expected-root, expected-below, genuine_test}
use Rattle.oram_hash.proofs.view.PathView.is_genuine.Goals as goal

pub returns-then-level-eq0 : goal.returns-then-level-eq0
returns-then-level-eq0 c =
    genuine_test _ _ _ _ _ c.eq.ensures (c.node_digest-digest.ensures ∙ ap sha256 c.record.ensures.exact)
    (sym (expected-root c.args.self.now c.args.root.now c.args.level (omega arith)))

pub returns-else-level-eq0 : goal.returns-else-level-eq0
returns-else-level-eq0 c =
    genuine_test _ _ _ _ _ c.eq-else-level-eq0.ensures (c.as_slice.ensures ∙ c.node_digest-digest.ensures ∙ ap sha256 c.record.ensures.exact)
    (c.digest_above.ensures ∙ sym (expected-below c.args.self.now c.args.root.now c.args.level (omega arith)))
