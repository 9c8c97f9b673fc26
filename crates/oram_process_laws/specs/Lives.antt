-- Each process begins with what is read back after the one before. One run of the core goes through all of them, and each
-- message belongs to it.
use Rattle.std.specs.Prelude.{◌≡◌, ◌⊎◌, ℕ, zero, suc, Bool, true, false, List, [], ◌∷◌, ◌++◌, map, Some}
use Rattle.std.specs.List.{AllByRecursion, FoldsTo, flat_map}
use Rattle.oram_geometry.specs.Sizes.{IsDevice}
use Rattle.oram_semantics.specs.Formatting.{IsFormatted}
use Rattle.oram_semantics.specs.Law.{new_state}
use Rattle.oram_semantics.specs.Progress.{Setting}
use Rattle.oram_semantics.specs.Run.{AllRight, Shown}
use Rattle.oram_semantics.specs.Scheme.{Scheme}
use Rattle.oram_semantics.specs.State.{State}
use Rattle.oram_semantics.specs.declared.events.Event.{Event}
use Rattle.oram_semantics.specs.declared.events.Event.TheVariants.{Answer, Lost, Reopen, Retry, Submit}
use Rattle.oram_tree.specs.State.{State as Tree}
use Rattle.oram_core.specs.Steps.{Steps}
use Rattle.oram_session.specs.Exchanges.{event_of}
use Rattle.oram_session.specs.CoreWork.{outstanding}
use Rattle.oram_link_laws.specs.Repair.{IsAmong}
use Rattle.oram_link_laws.specs.Runs.{Exchange, bodies_of}
use Rattle.oram_rounds.specs.Batches.{BatchOutcome}
use Rattle.oram_rounds.specs.Files.{IsFile}
use Rattle.oram_rounds.specs.Law.{AreBatches}
use Rattle.oram_rounds.specs.PathMessages.{IsPathFetch}
use Rattle.oram_rounds.specs.Process.{Act, Does, EndsIn, Process, begun, exchanges_of, next_bodies}
use Rattle.oram_rounds.specs.Process.Act.{Calls, GoesAhead, Hears, Keeps, Misses}
use Rattle.oram_rounds.specs.Rounds.{waiting}
use Rattle.oram_rounds.specs.ProcessSteps.{DoesSteps, ProcessStep, exchanges_in}
use Rattle.oram_rounds.specs.ProcessSteps.ProcessStep.{Acts, Takes}

-- an event of the core, and what it showed
pub record Happening : Type 0 where
  pub event : Event
  pub shown : Shown

-- the core goes from one state to another in this run
abbrev pub IsRun : Scheme → State → List Happening → State → Type 0
IsRun v s run t = FoldsTo {P = State} (λ a h b. Steps v a h.event h.shown b) s run t

-- whether an event submits a command, and a run in which none does
abbrev pub is_submission : Event → Bool
is_submission (Submit session c words) = true
is_submission (Answer bytes) = false
is_submission Lost = false
is_submission Reopen = false
is_submission Retry = false

abbrev pub SubmitsNone : List Happening → Type 0
SubmitsNone run = AllByRecursion (λ h. is_submission h.event ≡ false) run

-- the messages that a run sends
abbrev pub sends_of : List Happening → List (List ℕ)
sends_of run = flat_map (λ h. h.shown.sends) run

-- what the core of a process hears and shows in a step
abbrev pub happens_at : ProcessStep → List Happening
happens_at (Takes a) = (record { event = Submit a.session a.command a.words; shown = a.shown }) ∷ []
happens_at (Acts (Hears event x)) = (record { event = event; shown = x }) ∷ []
happens_at (Acts (Calls o exchanges x)) = (record { event = event_of o; shown = x }) ∷ []
happens_at (Acts (Misses o exchanges)) = []
happens_at (Acts (GoesAhead exchanges)) = []
happens_at (Acts (Keeps done)) = []

-- the run of the core in some steps
abbrev pub run_of : List ProcessStep → List Happening
run_of steps = flat_map happens_at steps

-- the messages that leave the process in a step
abbrev pub leaves_at : ProcessStep → List (List ℕ)
leaves_at step = bodies_of (exchanges_in step)

-- the messages that leave it in some steps
abbrev pub left_by : List ProcessStep → List (List ℕ)
left_by steps = flat_map leaves_at steps

-- Whether what is kept has all commands: none was submitted since it was kept. A keeping after which the keeper failed
-- doesn't count.
abbrev pub is_all_kept_after : Bool → ProcessStep → Bool
is_all_kept_after now (Takes a) = false
is_all_kept_after now (Acts (Hears event x)) = now
is_all_kept_after now (Acts (Calls o exchanges x)) = now
is_all_kept_after now (Acts (Misses o exchanges)) = now
is_all_kept_after now (Acts (GoesAhead exchanges)) = now
is_all_kept_after now (Acts (Keeps true)) = true
is_all_kept_after now (Acts (Keeps false)) = now

abbrev pub is_all_kept : Bool → List ProcessStep → Bool
is_all_kept now [] = now
is_all_kept now (step ∷ steps) = is_all_kept (is_all_kept_after now step) steps

-- A process begins with these STOREs and this core, and nothing else is read back yet.
abbrev pub BeginsWith : Scheme → {B K : Type 0} → (K → List ℕ → Type 0) → List (List ℕ) → State → Process B K → Type 0
BeginsWith v reads_back stores core p =
    (p ≡ begun p.link.inner v stores core p.keeper) × ((bytes : List ℕ) → reads_back p.keeper bytes → IsFile v bytes stores core)

-- for a device, a link that carries batches, and a keeper that says which bytes may be read back
module _ (v : Scheme) {B K : Type 0} (batches : B → List (List ℕ) → BatchOutcome → List Exchange → B → Type 0) (reads_back : K → List ℕ → Type 0) where
  -- The process ends now, or in an act that it begins now. These bytes are read back, and the host has had these exchanges in
  -- that act.
  abbrev pub Ends : Process B K → List ℕ → List Exchange → Type 0
  Ends p bytes exchanges = (reads_back p.keeper bytes × (exchanges ≡ [])) ⊎ ((act : Act) × EndsIn v batches reads_back p act bytes exchanges)

  -- A process begins with the file that is read back where the one before ends.
  pub record Follows (last p : Process B K) : Type 0 where
    pub bytes : List ℕ
    pub exchanges : List Exchange
    pub ends : Ends last bytes exchanges
    pub stores : List (List ℕ)
    pub core : State
    pub file : IsFile v bytes stores core
    pub begins : BeginsWith v reads_back stores core p

  -- The first process begins with this core and no STOREs, n others follow, and the last of them begins as p.
  abbrev pub Lives : State → ℕ → Process B K → Type 0
  Lives core zero p = BeginsWith v reads_back [] core p
  Lives core (suc n) p = (first : Process B K) × (steps : List ProcessStep) × (last : Process B K) × Lives core n first × DoesSteps v batches reads_back first steps last × Follows last p

  -- The run of the core before the last process begins. Before the first process that is nothing. Before any later one it
  -- is a beginning of the run of the process before, up to the core that is read back.
  abbrev pub IsRunBefore : (core : State) (n : ℕ) (p : Process B K) → Lives core n p → List Happening → Type 0
  IsRunBefore core zero p lives before = before ≡ []
  IsRunBefore core (suc n) p lives before =
      (earlier : List Happening) × (since : List Happening) × IsRunBefore core n lives.0 lives.3 earlier × (earlier ++ run_of lives.1 ≡ before ++ since)

  -- the messages that have left the processes before
  abbrev pub left_before : (core : State) (n : ℕ) (p : Process B K) → Lives core n p → List (List ℕ)
  left_before core zero p lives = []
  left_before core (suc n) p lives = left_before core n lives.0 lives.3 ++ (left_by lives.1 ++ bodies_of lives.5.exchanges)

-- The run leads from the formatted core to this one, and all that it shows is right.
abbrev pub IsRightRun : Setting → List Tree → List Happening → State → Type 0
IsRightRun v trees run core =
    IsRun v.scheme (new_state v trees) run core × AllRight v [] (map (λ (h : Happening). h.event) run) (map (λ (h : Happening). h.shown) run)

-- However many processes there are, and wherever each ends: one run leads from the formatted core to the one that the last
-- process begins with, and with all that happens to it this run goes on to its core, up to any moment. All that it shows
-- is right: the replies, the places of the tape and the nonces.
abbrev pub LivesAreOneRun : {B K : Type 0} → (B → List (List ℕ) → BatchOutcome → List Exchange → B → Type 0) → (K → List ℕ → Type 0) → Type 0
LivesAreOneRun {B} {K} batches reads_back = AreBatches batches
    → (v : Setting) (trees : List Tree) (n : ℕ) (first : Process B K) → IsDevice v.scheme.device → IsFormatted v trees
    → (lives : Lives v.scheme batches reads_back (new_state v trees) n first)
    → (before : List Happening) × IsRunBefore v.scheme batches reads_back (new_state v trees) n first lives before
    × ((steps : List ProcessStep) (p : Process B K) → DoesSteps v.scheme batches reads_back first steps p → IsRightRun v trees (before ++ run_of steps) p.core)

-- A message that the run of a core has sent: a STORE that is kept, or the FETCH whose answer the core waits for.
pub record IsSentInRun {B K : Type 0} (run : List Happening) (p : Process B K) (body : List ℕ) : Type 0 where
  pub sent : IsAmong body (sends_of run)
  pub either : IsAmong body p.link.kept ⊎ ((outstanding p.core ≡ Some body) × IsPathFetch p.link.device body)

-- What leaves a process is such a message, or it goes ahead: it is the first FETCH of a command that the run has accepted,
-- and the run will send it next (NextFetchesAreEntries).
abbrev pub IsOfRun : {B K : Type 0} → Scheme → List Happening → Process B K → List ℕ → Type 0
IsOfRun v run p body = IsSentInRun run p body ⊎ (IsAmong body (next_bodies v.device p.core) × IsPathFetch p.link.device body)

-- each of these messages is one that the run has sent, or a FETCH
abbrev pub HasSentStores : Setting → List Happening → List (List ℕ) → Type 0
HasSentStores v run bodies = (body : List ℕ) → IsAmong body bodies → IsAmong body (sends_of run) ⊎ IsPathFetch v.scheme.device body

-- The bytes have a core that the run has led to on its way, and STOREs that it had sent by then. Those that have left were
-- sent by then too, and those that may leave are among the STOREs of the bytes. If what is kept has all commands, none was
-- submitted since then.
pub record IsKeptOnRun (v : Setting) (trees : List Tree) (run : List Happening) (left leaving : List (List ℕ)) (all_kept : Bool) (bytes : List ℕ) : Type 0 where
  pub stores : List (List ℕ)
  pub core : State
  pub file : IsFile v.scheme bytes stores core
  pub early : List Happening
  pub since : List Happening
  pub whole : run ≡ early ++ since
  pub right : IsRightRun v trees early core
  pub sent : (body : List ℕ) → IsAmong body stores → IsAmong body (sends_of early)
  pub left_sent : HasSentStores v early left
  pub covers : (body : List ℕ) → IsAmong body leaving → IsAmong body stores
  pub commands : all_kept ≡ true → SubmitsNone since

-- What waits at the link of a process, what leaves it, and what is read back if it ends now, are of the run that has led to
-- its core, and so are the STOREs that have left by now.
pub record KeepsToRun (v : Setting) (trees : List Tree) {B K : Type 0} (batches : B → List (List ℕ) → BatchOutcome → List Exchange → B → Type 0) (reads_back : K → List ℕ → Type 0)
    (run : List Happening) (left : List (List ℕ)) (all_kept : Bool) (p : Process B K) : Type 0 where
  pub right : IsRightRun v trees run p.core
  pub left_sent : HasSentStores v run left
  pub waits : (body : List ℕ) → IsAmong body (waiting p.link) → IsAmong body (sends_of run)
  pub acts : (act : Act) (q : Process B K) → Does v.scheme batches reads_back p act q
      → (body : List ℕ) → IsAmong body (bodies_of (exchanges_of act)) → IsOfRun v.scheme run p body
  pub ends : (bytes : List ℕ) (exchanges : List Exchange) → Ends v.scheme batches reads_back p bytes exchanges
      → (body : List ℕ) → IsAmong body (bodies_of exchanges) → IsOfRun v.scheme run p body
  pub kept : (bytes : List ℕ) (exchanges : List Exchange) → Ends v.scheme batches reads_back p bytes exchanges
      → IsKeptOnRun v trees run (left ++ bodies_of exchanges) p.link.kept all_kept bytes

-- Each message that leaves a process is one that the run has sent, or will send next: a STORE in the file that is read back,
-- the outstanding FETCH, or the first FETCH of a command that waits. And each STORE that has left any of the processes so far
-- is one that this run has sent, so a nonce seals one record in all of them.
-- What a process has heard since its last keeping is forgotten when it ends, so a FETCH may have left that belongs to no later
-- run. But if no command was submitted since then, as none is in a round, the run of that FETCH has no other commands than
-- the core that is read back, and these fix its path (KeptCommandsFixMessages).
abbrev pub MessagesAreOfOneRun : {B K : Type 0} → (B → List (List ℕ) → BatchOutcome → List Exchange → B → Type 0) → (K → List ℕ → Type 0) → Type 0
MessagesAreOfOneRun {B} {K} batches reads_back = AreBatches batches
    → (v : Setting) (trees : List Tree) (n : ℕ) (first : Process B K) → IsDevice v.scheme.device → IsFormatted v trees
    → (lives : Lives v.scheme batches reads_back (new_state v trees) n first)
    → (before : List Happening) × IsRunBefore v.scheme batches reads_back (new_state v trees) n first lives before
    × ((steps : List ProcessStep) (p : Process B K) → DoesSteps v.scheme batches reads_back first steps p
    → KeepsToRun v trees batches reads_back (before ++ run_of steps) (left_before v.scheme batches reads_back (new_state v trees) n first lives ++ left_by steps)
    (is_all_kept true steps) p)
