-- The sizes that a core's parts must have so that their file can be read in only one way: how many of each, and how
-- long.
use Rattle.std.specs.Prelude.{◌≡◌, ℕ, ◌+◌, ◌-◌, ◌*◌, ◌^◌, ◌<◌, ◌≤◌, ◌==◌, Bool, false, if◌then◌else◌, List, [], ◌∷◌, length, Option, Some, None, ◌⊎◌}
use Rattle.std.specs.List.{All, AllByRecursion}
use Rattle.oram_geometry.specs.declared.Sizes.{Sizes}
use Rattle.oram_geometry.specs.Sizes.{IsDevice, blocks_in, trees_of}
use Rattle.oram_bucket.specs.Cell.{Cell}
use Rattle.oram_tree.specs.Parts.{Parts as TreeParts}
use Rattle.oram_semantics.specs.declared.events.Command.{Command}
use Rattle.oram_semantics.specs.declared.events.Command.TheVariants.{Read, Write, Discard}
use Rattle.oram_semantics.specs.declared.events.Reason.{Reason}
use Rattle.oram_core.specs.Parts.{Parts}
use Rattle.oram_core.specs.declared.parts.Pending.{Pending}
use Rattle.oram_state.specs.StateBytes.{Work, fields_text, state_file, work_of}

-- the number fits in four bytes, or in eight
abbrev pub IsShort : ℕ → Type 0
IsShort n = n < 2 ^ 32

abbrev pub IsLong : ℕ → Type 0
IsLong n = n < 2 ^ 64

-- a failed core keeps no table and no trees
abbrev pub table_len : Sizes → Option Reason → ℕ
table_len d None = blocks_in d (trees_of d - 1)
table_len d (Some why) = 0

abbrev pub tree_count : Sizes → Option Reason → ℕ
tree_count d None = trees_of d
tree_count d (Some why) = 0

pub record IsSizedBlock (d : Sizes) (c : Cell) : Type 0 where
  pub address : IsShort c.address
  pub leaf : IsShort c.leaf
  pub whole : length c.content ≡ d.block_bytes

pub record IsSizedTree (d : Sizes) (t : TreeParts) : Type 0 where
  pub root : length t.root ≡ 32
  pub count : IsShort (length t.stash)
  pub blocks : AllByRecursion (IsSizedBlock d) t.stash

-- a command's fields fit the widths that the file has for them
abbrev pub IsSizedCommand : Sizes → Command → Type 0
IsSizedCommand d (Read address) = IsShort address
IsSizedCommand d (Write address content) = IsShort address × (length content ≡ d.block_bytes)
IsSizedCommand d (Discard address) = IsShort address

pub record IsSizedPending (d : Sizes) (q : Pending) : Type 0 where
  pub session : IsShort q.session
  pub command : IsSizedCommand d q.command
  pub count : length q.words ≡ 2 * trees_of d
  pub words : AllByRecursion IsLong q.words

-- data is held only while the last message of a command is outstanding
abbrev pub held_len : Sizes → ℕ → ℕ
held_len d r = if r + 1 == 2 * trees_of d then d.block_bytes else 0

pub record IsSizedWork (d : Sizes) (w : Work) : Type 0 where
  pub few : length w.waiting ≤ 64
  pub commands : AllByRecursion (IsSizedPending d) w.waiting
  pub step : w.entry_number < 2 * trees_of d
  pub entry : IsShort w.held_entry
  pub held : length w.held_data ≡ held_len d w.entry_number
  pub message : IsShort (length w.message)

-- no work
abbrev pub no_work : Work
no_work = record { waiting = []; entry_number = 0; held_entry = 0; held_data = []; message = [] }

pub record IsNoWork (w : Work) (stalled : Bool) : Type 0 where
  pub none : w ≡ no_work
  pub not_stalled : stalled ≡ false

-- the work fits the mode, which follows from the failure and the commands that wait
abbrev pub IsWorkBy : Sizes → Option Reason → List Pending → Work → Bool → Type 0
IsWorkBy d (Some why) waiting w stalled = IsNoWork w stalled
IsWorkBy d None [] w stalled = IsNoWork w stalled
IsWorkBy d None (first ∷ others) w stalled = IsSizedWork d w

pub record IsWellSized (p : Parts) : Type 0 where
  pub device : IsDevice p.device
  pub tickets : IsLong p.tickets
  pub nonce : IsLong p.nonce
  pub table : length p.table ≡ table_len p.device p.failure
  pub entries : AllByRecursion IsShort p.table
  pub count : length p.trees ≡ tree_count p.device p.failure
  pub trees : AllByRecursion (IsSizedTree p.device) p.trees
  pub work : IsWorkBy p.device p.failure p.waiting (work_of p) p.stalled

-- the counts and lengths fit in their fields
pub record HasCounts (p : Parts) : Type 0 where
  pub trees : All (λ t. IsShort (length t.stash)) p.trees
  pub waiting : IsShort (length p.waiting)
  pub message : IsShort (length p.message)

-- the numbers of a command fit in their fields
pub record CommandFits (q : Pending) : Type 0 where
  pub session : IsShort q.session
  pub words : All IsLong q.words

-- Numbers and digests fit in their fields. Soundness of a core doesn't say this, but the types of these parts do.
pub record FitsFields (p : Parts) : Type 0 where
  pub nonce : IsLong p.nonce
  pub roots : All (λ t. length t.root ≡ 32) p.trees
  pub waiting : All CommandFits p.waiting

-- the parts have a file of this version; the first version has no files of cores at work
abbrev pub HasFile : ℕ → Parts → Type 0
HasFile version p = ((version ≡ 1) × (p.waiting ≡ [])) ⊎ (version ≡ 2)

-- the text is the file of these parts in this version, under this overhead; only devices with a leaf load of 1 have files
pub record IsFileOf (text : List ℕ) (version overhead : ℕ) (p : Parts) : Type 0 where
  pub version_known : HasFile version p
  pub load : p.device.leaf_load ≡ 1
  pub overhead_fits : IsShort overhead
  pub sized : IsWellSized p
  pub spelled : text ≡ state_file version overhead p

-- the text is the fields of these parts in the second version, under this overhead; the leaf load may be any that a device has
pub record AreFieldsOf (text : List ℕ) (overhead : ℕ) (p : Parts) : Type 0 where
  pub overhead_fits : IsShort overhead
  pub sized : IsWellSized p
  pub spelled : text ≡ fields_text overhead p
