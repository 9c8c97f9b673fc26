use Rattle.std.proofs.Common.{◌≡◌, ◌-◌, ◌+◌, ◌/◌, ◌%◌, ◌^◌, ℕ, ap, sym, ◌∙◌, arith, nat_eq}
use Rattle.oram_hash.specs.Record.{is_left_child}
use Rattle.oram_hash.specs.Path.{Path, node_at}
use Rattle.oram_hash.proofs.Paths.{is_left_child-node_on}
use Rattle.oram_hash.proofs.view.PathView.goes_left.Goals as goal

pub returns : goal.returns
returns c =
    let below : c.self.inside.depth - c.args.level - 1 ≡ c.self.inside.depth - (c.args.level + 1) = omega arith in
    ap (λ (k : ℕ). nat_eq (c.self.inside.leaf / 2 ^ k % 2) 0) below
    ∙ sym (is_left_child-node_on c.self.inside.depth c.self.inside.leaf (c.args.level + 1) (omega arith))
    ∙ ap (λ (p : Path). is_left_child (node_at p (c.args.level + 1))) c.self.view_is
