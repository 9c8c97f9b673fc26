use Rattle.std.proofs.Common.{◌≡◌, ◌≤◌, ◌-◌, ◌∙◌, ap, sym, subst, arith, ℕ, List, length}
use borrow.Rule.Slice.PartMut.{put_mid}
use Rattle.oram_hash.specs.Path.{Path, HasLength}
use Rattle.oram_hash.proofs.Links.{link_left, link_right}
use Rattle.oram_hash.proofs.view.PathView.link.Goals.{then-goes_left, else-goes_left}
use Rattle.oram_hash.proofs.view.PathView.link.Goals as goal

pub returns-clause-linked : goal.returns-clause-linked
returns-clause-linked c = λ part joined.
    let whole : HasLength c.args.self.now = let P : Path → Type 0 = HasLength in subst P c.self.view_is c.self.invariant.4 in
    let width : c.self.inside.record_len ≡ c.args.self.now.record_len = ap (λ (p : Path). p.record_len) c.self.view_is in
    let room : 64 ≤ c.args.self.now.record_len = omega (arith, c.self.invariant.2) in
    elim c.if-goes_left.branch [
      | then-goes_left w ↦
          w.bytes-is ∙ ap (λ (bs : List ℕ). put_mid (c.self.inside.record_len - 32 - 32) (c.self.inside.record_len - 32 - (c.self.inside.record_len - 32 - 32)) c.args.bytes.now bs) w.copy_from_slice.ensures.after
          ∙ link_left c.args.self.now c.args.level part c.args.below.now c.args.bytes.now _ _ whole room c.requires.level (sym c.goes_left.ensures ∙ w.if-goes_left.true) c.requires.len (omega arith) (omega arith) joined
      | else-goes_left w ↦
          w.bytes-is ∙ ap (λ (bs : List ℕ). put_mid (c.self.inside.record_len - 32) (length c.args.bytes.now - (c.self.inside.record_len - 32)) c.args.bytes.now bs) w.copy_from_slice-else-goes_left.ensures.after
          ∙ link_right c.args.self.now c.args.level part c.args.below.now c.args.bytes.now _ _ whole room c.requires.level (sym c.goes_left.ensures ∙ w.if-goes_left.false) c.requires.len (omega arith) (omega arith) joined
    ]
