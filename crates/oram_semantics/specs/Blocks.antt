-- What an access finds in a block, and what it leaves there.
use Rattle.std.specs.Prelude.{ℕ, zero, suc, ◌+◌, ◌*◌, ◌%◌, ◌==◌, if◌then◌else◌, List, [], replicate, slice_range, Option}
use Rattle.std.specs.Int.{w32, from_be_bytes}
use Rattle.oram_geometry.specs.declared.Sizes.{Sizes}
use Rattle.oram_geometry.specs.Sizes.{fanout}
use Rattle.oram_tree.specs.Content.{Map, Entry as Held, put}
use Rattle.oram_tree.specs.Access.{content_or_zeros}
use Rattle.oram_tree.specs.Edits.{with_entry}
use Rattle.oram_semantics.specs.Content.{block_of, new_leaf}
use Rattle.oram_semantics.specs.declared.events.Command.{Command}
use Rattle.oram_semantics.specs.declared.events.Command.TheVariants.{Read, Write, Discard}
use Rattle.oram_semantics.specs.declared.events.ReplyBody.{ReplyBody}
use Rattle.oram_semantics.specs.declared.events.ReplyBody.TheVariants.{Data, Done}
use Rattle.oram_semantics.specs.declared.events.Submission.{Submission}

-- the data that a tree has for a block, or zeros if it doesn't have the block
abbrev pub found_in : Sizes → Option Held → List ℕ
found_in d o = content_or_zeros d.block_bytes o

-- entry j of a map block
unfoldable pub entry_in : List ℕ → ℕ → ℕ
entry_in bytes j = from_be_bytes w32 (slice_range bytes (4 * j) (4 * j + 4))

-- a block's data after a command
abbrev pub left_by : Sizes → Command → List ℕ → List ℕ
left_by d (Read a) bytes = bytes
left_by d (Write a new) bytes = new
left_by d (Discard a) bytes = replicate d.block_bytes 0

-- The data of a block of tree i after the access: in tree 0 as the command leaves it; in a map tree with an entry for
-- the new leaf of the command's block in the tree below.
unfoldable pub block_after : Sizes → ℕ → Submission → List ℕ → List ℕ
block_after d zero x bytes = left_by d x.command bytes
block_after d (suc i) x bytes = with_entry bytes (block_of d i x % fanout d) (new_leaf d i x + 1)

-- the entry that the block had for the command's block in the tree below; 0 in tree 0, which is no map
unfoldable pub next_map_entry : Sizes → ℕ → Submission → List ℕ → ℕ
next_map_entry d zero x bytes = 0
next_map_entry d (suc i) x bytes = entry_in bytes (block_of d i x % fanout d)

-- the data to keep for the reply: that of tree 0's block, as it was read
abbrev pub kept_of : ℕ → List ℕ → List ℕ
kept_of zero bytes = bytes
kept_of (suc i) bytes = []

-- the trees' content, with one block of tree i changed
abbrev pub put_in : (ℕ → Map) → ℕ → ℕ → Held → ℕ → Map
put_in content i a h k b = if k == i then put (content k) a h b else content k b

-- the content of the reply to a command that found these bytes in its block
abbrev pub body_from : List ℕ → Command → ReplyBody
body_from bytes (Read a) = Data bytes
body_from bytes (Write a new) = Done
body_from bytes (Discard a) = Done
