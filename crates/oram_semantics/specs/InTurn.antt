-- A core sends its next FETCHes in turn, whatever the host answers to the messages in between, and they are entries of the
-- commands that it has accepted.
use Rattle.std.specs.Prelude.{◌≡◌, ◌≢◌, ◌⊎◌, ℕ, ◌<◌, ◌-◌, ◌*◌, true, false, List, [], ◌∷◌, ◌++◌, None, length, map}
use Rattle.std.specs.List.{All}
use Rattle.oram_geometry.specs.declared.Sizes.{Sizes}
use Rattle.oram_geometry.specs.Sizes.{IsDevice, trees_of}
use Rattle.oram_trace.specs.declared.entries.Entry.{Entry}
use Rattle.oram_tree.specs.State.{State as Tree}
use Rattle.oram_wire.specs.HostMessages.{fetch_body}
use Rattle.oram_semantics.specs.Agree.{Agrees, IsOrderly}
use Rattle.oram_semantics.specs.Formatting.{IsFormatted}
use Rattle.oram_semantics.specs.Law.{StepsByRule, StepsTo, new_state}
use Rattle.oram_semantics.specs.Messages.{IsMessage}
use Rattle.oram_semantics.specs.Moves.{shows_in}
use Rattle.oram_semantics.specs.NextFetches.{fetch_bodies, next_fetches, to_begin}
use Rattle.oram_semantics.specs.Progress.{Setting, Step, accepted, entries, entry_at}
use Rattle.oram_semantics.specs.Run.{Shown, from_to, is_accepted, is_resent}
use Rattle.oram_semantics.specs.Scheme.{Scheme}
use Rattle.oram_semantics.specs.State.{AllStand, State, World}
use Rattle.oram_semantics.specs.declared.events.Event.{Event}
use Rattle.oram_semantics.specs.declared.events.Note.TheVariants.{Taken}

-- a message is the first of the next FETCHes
abbrev pub IsFirstNext : Sizes → State → List ℕ → Type 0
IsFirstNext d s m = (rest : List (List ℕ)) × (fetch_bodies (next_fetches d s) ≡ m ∷ rest)

-- a message isn't the FETCH of a path of the last tree, with which commands begin
abbrev pub IsNoFirstFetch : Sizes → List ℕ → Type 0
IsNoFirstFetch d m = (leaf : ℕ) → m ≢ fetch_body (trees_of d - 1) leaf

-- While a command waits, the outstanding message is the first of the next FETCHes until its answer has come, and no FETCH of
-- the last tree after that.
pub record AsksInTurn (d : Sizes) (s : State) : Type 0 where
  pub first : 0 < length s.queue → s.entry_number ≡ 0 → IsFirstNext d s s.message
  pub later : 0 < length s.queue → 0 < s.entry_number → IsNoFirstFetch d s.message

-- A step that doesn't fail the core: what becomes of the next FETCHes.
pub record StepsInTurn (d : Sizes) (s : State) (x : Shown) (t : State) : Type 0 where
  -- the first FETCH of a command that is accepted comes after the other next FETCHes
  pub accepted : is_accepted x.note ≡ true → (e : Entry) × (next_fetches d t ≡ next_fetches d s ++ e ∷ [])
  -- the first of them has its answer, and the others stay
  pub taken : x.note ≡ Taken → s.entry_number ≡ 0 → (e : Entry) × (next_fetches d s ≡ e ∷ next_fetches d t)
  -- at any other step all stay
  pub same : is_accepted x.note ≡ false → (x.note ≡ Taken → s.entry_number ≢ 0) → next_fetches d t ≡ next_fetches d s
  -- a new message is the first of them, or no FETCH of the last tree
  pub sends : is_resent x.note ≡ false → (m : List ℕ) → x.sends ≡ m ∷ []
      → ((t.entry_number ≡ 0) × IsFirstNext d t m) ⊎ ((0 < t.entry_number) × IsNoFirstFetch d m)
  pub asks : AsksInTurn d s → AsksInTurn d t

-- A core whose trees stand and agree sends its next FETCHes in turn.
abbrev pub CoresAskInTurn : Type 0
CoresAskInTurn = (v : Scheme) (s t : State) (w : World) (event : Event) (x : Shown) → IsDevice v.device
    → IsOrderly v s → AllStand v s w → Agrees v s w → shows_in v s w event ≡ false → StepsByRule v s event x t → t.failure ≡ None
    → StepsInTurn v.device s x t

-- the message of an entry of the accepted commands
pub record IsOfAccepted (v : Setting) (past : List Step) (m : List ℕ) : Type 0 where
  pub number : ℕ
  pub within : number < entries v past
  pub message : IsMessage v.scheme (entry_at v past number) m

-- The next FETCHes are the first entries of the last of the accepted commands, and their messages are messages of these
-- entries.
pub record AreNextEntries (v : Setting) (past : List Step) (s : State) : Type 0 where
  pub fetches : next_fetches v.scheme.device s
      ≡ map (λ ticket. entry_at v past (2 * trees_of v.scheme.device * ticket)) (from_to (length (accepted past) - length (to_begin s)) (length (accepted past)))
  pub messages : All (IsOfAccepted v past) (fetch_bodies (next_fetches v.scheme.device s))

-- After any list of events, the next FETCHes of a core that steps by the rule from its formatting on are entries of the
-- commands that it has accepted.
abbrev pub NextFetchesAreEntries : Type 0
NextFetchesAreEntries =
    (v : Setting) (trees : List Tree) (events : List Event) (xs : List Shown) (past : List Step) (s : State) → IsDevice v.scheme.device
    → IsFormatted v trees → StepsTo v [] (new_state v trees) events xs past s → AreNextEntries v past s
