use Rattle.std.proofs.Common.{◌≡◌, ◌-◌}
use Rattle.std.specs.Int.{w64}
use Rattle.oram_state.specs.Parser.{many, next_number}
use Rattle.oram_state.proofs.Loops.{with_front}
use Rattle.oram_state.proofs.fields.read_longs.Given as goal

abbrev pub invariant-loop : goal.invariant-loop
invariant-loop l = with_front l.numbers.items (many (next_number w64) (l.count - l.counter) l.rest) ≡ many (next_number w64) l.count l.bytes
