use Rattle.std.proofs.Common.{◌≡◌, ◌+◌, ◌*◌}
use Rattle.oram_session.specs.Tapes.{chacha_words}
use Rattle.oram_session.proofs.Words.{generator_at}
use Rattle.oram_session.proofs.tapes.chacha.ChaChaTapeTape.draw.Given as goal

abbrev pub invariant-loop : goal.invariant-loop
invariant-loop l = record {
  drawn : l.drawn.items ≡ chacha_words l.self.key l.self.trees l.ticket l.counter;
  place : l.generator ≡ generator_at l.self.key (4 * l.self.trees * l.ticket + 2 * l.counter);
}
