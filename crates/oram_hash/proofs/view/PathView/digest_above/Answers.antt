use Rattle.std.proofs.Common.{◌≡◌, ◌-◌, ◌+◌, ℕ, ap, sym, ◌∙◌, arith}
use Rattle.oram_hash.specs.Record.{is_left_child}
use Rattle.oram_hash.specs.Path.{node_at}
use Rattle.oram_hash.proofs.Paths.{digest_for-left, digest_for-right}
use Rattle.oram_hash.proofs.view.PathView.digest_above.Goals as goal

pub returns-then-goes_left : goal.returns-then-goes_left
returns-then-goes_left c =
    let down : c.args.level - 1 + 1 ≡ c.args.level = omega arith in
    let side = ap (λ (l : ℕ). is_left_child (node_at c.args.self.now l)) down in
    c.left.ensures.exact ∙ sym (digest_for-left _ _ (cc))

pub returns-else-goes_left : goal.returns-else-goes_left
returns-else-goes_left c =
    let down : c.args.level - 1 + 1 ≡ c.args.level = omega arith in
    let side = ap (λ (l : ℕ). is_left_child (node_at c.args.self.now l)) down in
    c.right.ensures.exact ∙ sym (digest_for-right _ _ (cc))
