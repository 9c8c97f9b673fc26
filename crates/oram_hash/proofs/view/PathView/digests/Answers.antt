use Rattle.std.proofs.Common.{◌≡◌, ◌≤◌, ◌<◌, ◌++◌, ◌∙◌, ap, sym, arith, ℕ, length, List}
use Rattle.oram_hash.specs.Record.{left_digest, right_digest}
use Rattle.oram_hash.specs.Path.{Path}
use Rattle.oram_hash.proofs.Joins.{digests_at-leaf, digests_at-above, both_digests}
use Rattle.oram_hash.proofs.view.PathView.digests.Goals as goal

pub returns-then-level-self : goal.returns-then-level-self
returns-then-level-self c = sym (digests_at-leaf c.args.self.now c.args.level (c.if-level-self.true ∙ ap (λ (p : Path). p.depth) c.self.view_is))

pub returns : goal.returns
returns c =
    let depth : c.self.inside.depth ≡ c.args.self.now.depth = ap (λ (p : Path). p.depth) c.self.view_is in
    let above : c.args.level < c.args.self.now.depth = omega arith in
    let long : 64 ≤ length c.record-record.result.now = omega (arith, c.record-record.ensures.holds_digests) in
    both_digests c.record-record.result.now long ∙ ap (λ (r : List ℕ). left_digest r ++ right_digest r) c.record-record.ensures.exact
    ∙ sym (digests_at-above c.args.self.now c.args.level above)
