-- Trees whose maps agree in a world. Only the world matters here, so this also applies to a core that was read from a
-- file.
use Rattle.std.specs.Prelude.{◌≡◌, ℕ, ◌<◌, ◌≤◌, ◌+◌, ◌-◌, ◌*◌, ◌/◌, ◌%◌, ◌^◌, ◌==◌, if◌then◌else◌, false, List, [], ◌∷◌, length, slice_index}
use Rattle.std.specs.List.{All}
use Rattle.oram_geometry.specs.declared.Sizes.{Sizes}
use Rattle.oram_geometry.specs.Sizes.{trees_of, depth_of, blocks_in, fanout}
use Rattle.oram_semantics.specs.Content.{entry_tree}
use Rattle.oram_semantics.specs.Events.{address_of}
use Rattle.oram_semantics.specs.Scheme.{Scheme}
use Rattle.oram_semantics.specs.Run.{has_bad_length}
use Rattle.oram_semantics.specs.Content.{block_of, new_leaf}
use Rattle.oram_semantics.specs.State.{State, World, map_entry_of}
use Rattle.oram_semantics.specs.Blocks.{found_in, entry_in}
use Rattle.oram_semantics.specs.declared.events.Submission.{Submission}

-- the map entry for block b of tree i: in the table for the last tree, otherwise in the block's map block
abbrev pub map_entry_for : Scheme → State → World → ℕ → ℕ → ℕ
map_entry_for v s w i b =
    if i + 1 == trees_of v.device then slice_index s.table b else entry_in (found_in v.device (w.content (i + 1) (b / fanout v.device))) (b % fanout v.device)

-- the tree of the FETCH that is outstanding in the middle of a command, or comes next
abbrev pub next_tree : Scheme → State → ℕ
next_tree v s = entry_tree v.device (s.entry_number + 1)

-- a command is between two trees
abbrev pub IsAmid : Scheme → State → Type 0
IsAmid v s = (0 < s.entry_number) × (s.entry_number + 1 < 2 * trees_of v.device)

-- the map entry for the next tree's block already has the block's new leaf, and the entry before that is held
pub record IsBetween (v : Scheme) (s : State) (w : World) (x : Submission) : Type 0 where
  pub held : s.held_entry ≡ map_entry_of (w.content (next_tree v s) (block_of v.device (next_tree v s) x))
  pub ahead : map_entry_for v s w (next_tree v s) (block_of v.device (next_tree v s) x) ≡ new_leaf v.device (next_tree v s) x + 1

abbrev pub AtBetween : Scheme → State → World → List Submission → Type 0
AtBetween v s w [] = Unit {0}
AtBetween v s w (x ∷ rest) = IsAmid v s → IsBetween v s w x

-- this is the next tree's block of the command at work
abbrev pub IsNext : Scheme → State → List Submission → ℕ → ℕ → Type 0
IsNext v s [] i b = ⊥
IsNext v s (x ∷ rest) i b = IsAmid v s × (i ≡ next_tree v s) × (b ≡ block_of v.device i x)

-- Each tree's blocks are as long as the device's blocks, and have leaves of the tree. The map entry for a block names
-- the leaf that its tree has for it, except for the next tree's block of a command at work.
pub record Agrees (v : Scheme) (s : State) (w : World) : Type 0 where
  pub sized : (i b : ℕ) → i < trees_of v.device → length (found_in v.device (w.content i b)) ≡ v.device.block_bytes
  pub leaves : (i b : ℕ) → i < trees_of v.device → map_entry_of (w.content i b) ≤ 2 ^ depth_of v.device i
  pub others : (i b : ℕ) → i < trees_of v.device → b < blocks_in v.device i → ¬ IsNext v s s.queue i b
      → map_entry_for v s w i b ≡ map_entry_of (w.content i b)
  pub between : AtBetween v s w s.queue

-- the device allows the accepted command
pub record IsAllowed (d : Sizes) (x : Submission) : Type 0 where
  pub address : address_of x.command < blocks_in d 0
  pub data_length : has_bad_length d x.command ≡ false
  pub words : length x.words ≡ 2 * trees_of d

-- the tickets rise by one, from t on
abbrev pub TicketsFrom : ℕ → List Submission → Type 0
TicketsFrom t [] = Unit {0}
TicketsFrom t (x ∷ xs) = (x.ticket ≡ t) × TicketsFrom (t + 1) xs

-- the table, the queue and the stage of a core suit the device
pub record IsOrderly (v : Scheme) (s : State) : Type 0 where
  pub sized : length s.table ≡ blocks_in v.device (trees_of v.device - 1)
  pub queue : All (IsAllowed v.device) s.queue
  pub entry_number : s.entry_number < 2 * trees_of v.device
  pub rests : length s.queue ≡ 0 → s.entry_number ≡ 0
