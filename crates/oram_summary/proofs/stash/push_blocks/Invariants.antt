use Rattle.std.proofs.Common.{◌≡◌, ◌++◌, take}
use Rattle.std.specs.List.{flat_map}
use Rattle.oram_summary.specs.Text.{block_text}
use Rattle.oram_summary.proofs.stash.push_blocks.Given as goal

abbrev pub invariant-loop-block : goal.invariant-loop-block
invariant-loop-block l = l.text.items ≡ l.fn.text.items ++ flat_map block_text (take l.block-index l.stash)
