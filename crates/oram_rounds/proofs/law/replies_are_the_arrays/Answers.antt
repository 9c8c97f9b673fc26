use Rattle.oram_rounds.proofs.Replies.{replies_are_the_arrays}
use Rattle.oram_rounds.proofs.law.replies_are_the_arrays.Goals as goal

pub returns : goal.returns
returns c c' = replies_are_the_arrays _ _
