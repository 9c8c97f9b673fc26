use Rattle.std.proofs.Common.{◌≡◌, ◌-◌}
use Rattle.oram_state.specs.Parser.{many, next_pending}
use Rattle.oram_state.proofs.Loops.{with_front}
use Rattle.oram_state.proofs.work.read_pendings.Given as goal

abbrev pub invariant-loop : goal.invariant-loop
invariant-loop l = with_front l.waiting.items (many (next_pending l.device) (l.count - l.counter) l.rest) ≡ many (next_pending l.device) l.count l.bytes
