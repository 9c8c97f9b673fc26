-- A core as plain data, and the world around it.
use Rattle.std.specs.Prelude.{ℕ, ◌<◌, ◌+◌, ◌-◌, ◌==◌, Bool, false, if◌then◌else◌, List, [], ◌∷◌, Option, Some, None, slice_index, slice_index_or}
use Rattle.std.specs.Option.{option_map_or}
use Rattle.oram_geometry.specs.declared.Sizes.{Sizes}
use Rattle.oram_geometry.specs.Sizes.{trees_of}
use Rattle.oram_semantics.specs.Scheme.{Scheme}
use Rattle.oram_tree.specs.Content.{Map, Entry as Held}
use Rattle.oram_tree.specs.State.{State as Tree}
use Rattle.oram_semantics.specs.Content.{block_of}
use Rattle.oram_semantics.specs.Progress.{Status}
use Rattle.oram_semantics.specs.Progress.Status.{Idle, Waiting, Stalling, Over}
use Rattle.oram_semantics.specs.Trees.{Stands}
use Rattle.oram_semantics.specs.declared.events.Reason.{Reason}
use Rattle.oram_semantics.specs.declared.events.Submission.{Submission}

pub record State : Type 0 where
  pub table : List ℕ  -- by block of the last tree: 0, or one more than its leaf
  pub trees : List Tree
  pub next : ℕ  -- the next ticket
  pub nonce : ℕ  -- of the next bucket that is sealed
  pub queue : List Submission  -- those without a reply, the oldest first
  pub entry_number : ℕ  -- of the oldest command: which of its fetches and stores is outstanding, from 0 to 2H - 1 with H trees
  pub held_entry : ℕ  -- the map entry of the block in the tree that is fetched next, or was fetched last
  pub held_data : List ℕ  -- the block of tree 0 as it was read
  pub message : List ℕ  -- the message sent last
  pub lost : Bool  -- whether that counts as lost
  pub failure : Option Reason

-- the records at the host, by tree and node, and what the trees hold, by tree and block
pub record World : Type 0 where
  pub records : ℕ → ℕ → List ℕ
  pub content : ℕ → Map

-- The state of a core that has failed. Of all that it held, it still knows how many commands were accepted and how
-- many buckets sealed.
abbrev pub failed_state : ℕ → ℕ → Reason → State
failed_state next nonce e = record { table = []; trees = []; next = next; nonce = nonce; queue = []; entry_number = 0; held_entry = 0; held_data = []; message = []; lost = false; failure = Some e }

abbrev pub no_tree : Tree
no_tree = record { number = 0; root = []; stash = [] }

-- each tree of the core stands in the world
abbrev pub AllStand : Scheme → State → World → Type 0
AllStand v s w = (i : ℕ) → i < trees_of v.device → Stands v i (slice_index_or s.trees i no_tree) (w.records i) (w.content i)

-- the status, by the reason of a failure, the commands that wait, and whether the outstanding message is lost
abbrev pub status_by : Option Reason → List Submission → Bool → Status
status_by (Some e) queue lost = Over
status_by None [] lost = Idle
status_by None (x ∷ rest) lost = if lost then Stalling else Waiting

abbrev pub status_in : State → Status
status_in s = status_by s.failure s.queue s.lost

-- the map entry of the command's block in the tree of the outstanding FETCH
abbrev pub map_entry_now : Sizes → State → Submission → ℕ
map_entry_now d s x = if s.entry_number == 0 then slice_index s.table (block_of d (trees_of d - 1) x) else s.held_entry

-- the map entry that a block should have, given what its tree has for it
abbrev pub map_entry_of : Option Held → ℕ
map_entry_of o = option_map_or (λ h. h.leaf + 1) o 0
