use Rattle.std.proofs.Common.{◌≡◌, ◌^◌, length}
use Rattle.oramsim.specs.Lines.{numbers_below}
use Rattle.oramsim.proofs.Numbers.{with_front}
use Rattle.oramsim.proofs.line.words_in.Given as goal

abbrev pub invariant-loop-field : goal.invariant-loop-field
invariant-loop-field l = with_front l.words.items (numbers_below (2 ^ 64) l.left) ≡ numbers_below (2 ^ 64) l.fn.fields

abbrev pub decreases-loop-field : goal.decreases-loop-field
decreases-loop-field l = length l.left
