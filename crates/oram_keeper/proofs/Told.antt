-- What the keeper of a core is told.
use Rattle.std.proofs.Common.{refl, sym, ◌∙◌}
use Rattle.std.proofs.lemmas.Bool.{false≢true}
use Rattle.oram_core.proofs.NotedTables.{none_changed}
use Rattle.oram_keeper.specs.Laws.{ChangesAreTold}

pub are_told : (S F : Type 0) → ChangesAreTold S F
are_told S F = record {
  first = λ k c any exact. absurd (false≢true (sym exact ∙ any));
  next = λ k c d same notes. notes _ (none_changed c _ _ refl same);
}
