use Rattle.std.proofs.Common.{◌++◌, ℕ, List, ap, ◌∙◌, arith}
use Rattle.oram_empty.proofs.Pieces.{put_last}
use Rattle.oram_empty.proofs.records.both.Goals as goal

pub returns : goal.returns
returns c = put_last 32 32 c.copy_from_slice.new.self _ c.copy_from_slice-2.new.self (omega arith) (omega arith)
    ∙ ap (λ (x : List ℕ). x ++ c.copy_from_slice-2.new.self) c.copy_from_slice.ensures.after ∙ ap (λ (y : List ℕ). c.args.left.now ++ y) c.copy_from_slice-2.ensures.after
