use Rattle.std.proofs.Common.{◌≡◌}
use Rattle.oram_session.specs.Tapes.{words_from}
use Rattle.oram_session.proofs.tapes.list.ListTapeTape.draw.Given as goal

abbrev pub invariant-loop-j : goal.invariant-loop-j
invariant-loop-j l = l.drawn.items ≡ words_from l.self.words.items l.start l.j
