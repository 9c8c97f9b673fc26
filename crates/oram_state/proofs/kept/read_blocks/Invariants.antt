use Rattle.std.proofs.Common.{◌≡◌, ◌-◌}
use Rattle.oram_state.specs.Parser.{many, next_block}
use Rattle.oram_state.proofs.Loops.{with_front}
use Rattle.oram_state.proofs.kept.read_blocks.Given as goal

abbrev pub invariant-loop : goal.invariant-loop
invariant-loop l = with_front l.stash.items (many (next_block l.device) (l.count - l.counter) l.rest) ≡ many (next_block l.device) l.count l.bytes
