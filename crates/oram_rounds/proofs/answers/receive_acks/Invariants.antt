use Rattle.std.proofs.Common.{◌≡◌, ◌++◌, List, ℕ, length}
use Rattle.std.specs.Prelude.{MatchBool}
use Rattle.oram_rounds.specs.Batches.{texts}
use Rattle.oram_rounds.specs.Rounds.{AreDone}
use Rattle.oram_rounds.proofs.answers.receive_acks.Given as goal

abbrev pub invariant-loop-store : goal.invariant-loop-store
invariant-loop-store g l =
    (b : _) (before given : List (List ℕ)) → length given ≡ length before → g.B.BatchLink.streams b (before ++ texts l.stores) given l.initial.inner
    → (acks : List (List ℕ)) × g.B.BatchLink.streams b (before ++ texts l.stores) (given ++ acks) l.inner × (length acks ≡ l.store-index) × MatchBool l.done (AreDone acks) (¬ AreDone acks)
