-- From one step to a whole run.
use Rattle.std.specs.Prelude.{◌≡◌, ℕ, ◌-◌, false, List, [], ◌∷◌, None, length, replicate}
use Rattle.oram_geometry.specs.Sizes.{IsDevice, trees_of, blocks_in}
use Rattle.oram_semantics.specs.Scheme.{Scheme}
use Rattle.oram_semantics.specs.Progress.{Setting, Step, accepted, progress, records_of, status}
use Rattle.oram_semantics.specs.Content.{content_of}
use Rattle.oram_tree.specs.State.{State as Tree}
use Rattle.oram_semantics.specs.Nonces.{formatted}
use Rattle.oram_semantics.specs.Run.{Shown, AllRight, shows_pair, step_of, without_reply}
use Rattle.oram_semantics.specs.State.{State, World, AllStand, status_in}
use Rattle.oram_semantics.specs.Formatting.{IsFormatted}
use Rattle.oram_semantics.specs.Moves.{Moves, Fits, shows_in, moved, world_after}
use Rattle.oram_semantics.specs.Agree.{Agrees, IsOrderly}
use Rattle.oram_semantics.specs.ArrayReplies.{ServesArray, HasServed}
use Rattle.oram_semantics.specs.declared.events.Event.{Event}

-- The promise of one step: in each world that the core fits, and unless the answer shows two records with the same
-- digest, the core shows and becomes what the local rule allows.
abbrev pub StepsByRule : Scheme → State → Event → Shown → State → Type 0
StepsByRule v s event x t = (w : World) → Fits v s w → shows_in v s w event ≡ false → Moves v s w event x t

-- steps by the rule, one after another; there may be fewer steps than events
abbrev pub StepsAlong : Scheme → State → List Event → List Shown → Type 0
StepsAlong v s events [] = Unit {0}
StepsAlong v s [] (x ∷ xs) = ⊥
StepsAlong v s (event ∷ events) (x ∷ xs) = (t : State) × StepsByRule v s event x t × StepsAlong v t events xs

-- the world after a past: the records last stored, and the content that the accepted submissions have left
abbrev pub world_of : Setting → List Step → World
world_of v past = record { records = records_of v past; content = content_of v past }

-- the state of a core that has just been formatted
abbrev pub new_state : Setting → List Tree → State
new_state v trees = record { table = replicate (blocks_in v.scheme.device (trees_of v.scheme.device - 1)) 0; trees = trees; next = 0; nonce = formatted v.scheme.device; queue = []; entry_number = 0; held_entry = 0; held_data = []; message = []; lost = false; failure = None }

-- Whatever a core does by the local rule, from the formatting on, is right.
abbrev pub StepsAreRight : Type 0
StepsAreRight =
    (v : Setting) (trees : List Tree) (events : List Event) (xs : List Shown) → IsDevice v.scheme.device → IsFormatted v trees
    → StepsAlong v.scheme (new_state v trees) events xs → AllRight v [] events xs

-- steps by the rule from one state to another, and the past that they make, the newest step first; no answer shows two
-- records with the same digest
abbrev pub StepsTo : Setting → List Step → State → List Event → List Shown → List Step → State → Type 0
StepsTo v past s [] [] now t = (now ≡ past) × (t ≡ s)
StepsTo v past s (event ∷ events) (x ∷ xs) now t =
    (u : State) × StepsByRule v.scheme s event x u × (shows_pair v past event ≡ false) × StepsTo v (step_of event x ∷ past) u events xs now t
StepsTo v past s [] (x ∷ xs) now t = ⊥
StepsTo v past s (event ∷ events) [] now t = ⊥

-- What a core reports agrees with its past: how many commands were accepted, how many of them have no reply, its status,
-- and why it failed.
pub record TellsOf (v : Setting) (past : List Step) (s : State) : Type 0 where
  pub next : s.next ≡ length (accepted past)
  pub waiting : length s.queue ≡ without_reply v past
  pub status : status_in s ≡ status v past
  pub failure : s.failure ≡ (progress v past).failure

-- A core steps by the rule from its formatting on. After any list of events, what it reports agrees with its past.
abbrev pub CoresTell : Type 0
CoresTell =
    (v : Setting) (trees : List Tree) (events : List Event) (xs : List Shown) (past : List Step) (s : State) → IsDevice v.scheme.device
    → IsFormatted v trees → StepsTo v [] (new_state v trees) events xs past s → TellsOf v past s

-- A core with an unknown past, after an event that didn't fail it: its trees stand and agree in the world after the
-- event, and it has served the array.
pub record HasGoneOn (v : Scheme) (s t : State) (w : World) (array : ℕ → List ℕ) (x : Shown) : Type 0 where
  pub orderly : IsOrderly v t
  pub holds : AllStand v t w
  pub agrees : Agrees v t w
  pub served : HasServed v s t w array x.replies

-- A core whose trees stand and agree in a world serves an array.
pub record IsServing (v : Scheme) (s : State) (w : World) (array : ℕ → List ℕ) : Type 0 where
  pub orderly : IsOrderly v s
  pub holds : AllStand v s w
  pub agrees : Agrees v s w
  pub serves : ServesArray v s w array

-- A core that has just been formatted serves an array of zeros.
abbrev pub NewCoresServe : Type 0
NewCoresServe = (v : Setting) (trees : List Tree) → IsDevice v.scheme.device → IsFormatted v trees
    → IsServing v.scheme (new_state v trees) (world_of v []) (λ a. replicate v.scheme.device.block_bytes 0)

-- The trees of a core that stand and agree still do after each step by the local rule, unless the step fails the core,
-- and the core answers as the array.
abbrev pub CoresServe : Type 0
CoresServe = (v : Scheme) (s t : State) (w : World) (array : ℕ → List ℕ) (event : Event) (x : Shown) → IsDevice v.device
    → IsOrderly v s → AllStand v s w → Agrees v s w → ServesArray v s w array → shows_in v s w event ≡ false
    → StepsByRule v s event x t → t.failure ≡ None → HasGoneOn v s t (world_after v w (moved v s w event) x.sends) array x
