-- The messages of a run are entries of the commands that it has accepted. So what is sent after the last submission of a run is
-- fixed by the commands that it had accepted by then, and the words of the tape.
use Rattle.std.specs.Prelude.{◌≡◌, ℕ, ◌<◌, false, List, [], ◌∷◌, ◌++◌, ⊤}
use Rattle.oram_geometry.specs.Sizes.{IsDevice}
use Rattle.oram_semantics.specs.Formatting.{IsFormatted}
use Rattle.oram_semantics.specs.InTurn.{IsOfAccepted}
use Rattle.oram_semantics.specs.Progress.{Setting, Step, entries, entry_at}
use Rattle.oram_semantics.specs.Run.{shows_pair, step_of}
use Rattle.oram_semantics.specs.State.{State}
use Rattle.oram_tree.specs.State.{State as Tree}
use Rattle.oram_link_laws.specs.Repair.{IsAmong}
use Rattle.oram_rounds.specs.Process.{next_bodies}
use Rattle.oram_process_laws.specs.Lives.{Happening, IsRightRun, SubmitsNone, sends_of}

-- the past after a run, the newest step first
abbrev pub past_after : List Step → List Happening → List Step
past_after past [] = past
past_after past (h ∷ run) = past_after (step_of h.event h.shown ∷ past) run

-- no answer in the run shows two records with the same digest
abbrev pub ShowsNoPair : Setting → List Step → List Happening → Type 0
ShowsNoPair v past [] = ⊤
ShowsNoPair v past (h ∷ run) = (shows_pair v past h.event ≡ false) × ShowsNoPair v (step_of h.event h.shown ∷ past) run

-- In a right run whose answers show no two records with the same digest: if no command is submitted since some moment, all
-- that the run sends, before it and since, are messages of the commands that were accepted by then. And however the
-- run goes on, the paths of these commands stay the same.
abbrev pub KeptCommandsFixMessages : Type 0
KeptCommandsFixMessages = (v : Setting) (trees : List Tree) (early since : List Happening) (core : State) → IsRightRun v trees (early ++ since) core → ShowsNoPair v [] (early ++ since)
    → (SubmitsNone since → (body : List ℕ) → IsAmong body (sends_of (early ++ since)) → IsOfAccepted v (past_after [] early) body)
    × ((number : ℕ) → number < entries v (past_after [] early)
    → entry_at v (past_after [] (early ++ since)) number ≡ entry_at v (past_after [] early) number)

-- The same holds of the FETCHes that go ahead, which the run will send next: they are messages of the commands that the run has
-- accepted.
abbrev pub NextFetchesAreOfCommands : Type 0
NextFetchesAreOfCommands = (v : Setting) (trees : List Tree) (run : List Happening) (core : State) → IsDevice v.scheme.device → IsFormatted v trees → IsRightRun v trees run core
    → ShowsNoPair v [] run → (body : List ℕ) → IsAmong body (next_bodies v.scheme.device core) → IsOfAccepted v (past_after [] run) body
