-- What each tree holds after some accesses, given by the accepted submissions alone.
use Rattle.std.specs.Prelude.{ℕ, zero, suc, ◌+◌, ◌-◌, ◌*◌, ◌/◌, ◌%◌, ◌==◌, if◌then◌else◌, List, take, reverse, slice_index, Option, find, nat_lt}
use Rattle.std.specs.List.{flat_map, range_with_len}
use Rattle.std.specs.Option.{option_map, option_map_or}
use Rattle.std.specs.Int.{w32, to_be_bytes}
use Rattle.oram_geometry.specs.declared.Sizes.{Sizes}
use Rattle.oram_geometry.specs.Sizes.{trees_of, fanout, address_in, leaf_of}
use Rattle.oram_tree.specs.Content.{Map}
use Rattle.oram_semantics.specs.Events.{address_of, array_at}
use Rattle.oram_semantics.specs.Progress.{Setting, Step, accepted, progress}
use Rattle.oram_semantics.specs.declared.events.Submission.{Submission}

-- the block of tree i that a submission accesses
abbrev pub block_of : Sizes → ℕ → Submission → ℕ
block_of d i s = address_in d i (address_of s.command)

-- the leaf that a submission's new word names in tree i
abbrev pub new_leaf : Sizes → ℕ → Submission → ℕ
new_leaf d i s = leaf_of d i (slice_index s.words (2 * i + 1))

-- the newest of the submissions that access block a of tree i
abbrev pub newest_in : Sizes → ℕ → List Submission → ℕ → Option Submission
newest_in d i newest_first a = find (λ s. block_of d i s == a) newest_first

-- the map entry for a block of tree i after these submissions, the newest first: 0, or its leaf plus one
unfoldable pub map_entry_in : Sizes → ℕ → List Submission → ℕ → ℕ
map_entry_in d i newest_first a = option_map_or (λ s. new_leaf d i s + 1) (newest_in d i newest_first a) 0

-- the data of a block of tree i: in tree 0 that of the plain array; in a map tree an entry for each of its blocks of
-- the tree below
unfoldable pub data_in : Sizes → ℕ → List Submission → ℕ → List ℕ
data_in d zero newest_first a = array_at d newest_first a
data_in d (suc i) newest_first a =
    flat_map (λ b. to_be_bytes w32 (map_entry_in d i newest_first b)) (range_with_len (a * fanout d) (fanout d))

-- the content of tree i after these submissions, the newest first
unfoldable pub content_after : Sizes → ℕ → List Submission → Map
content_after d i newest_first a =
    option_map (λ s. record { leaf = new_leaf d i s; content = data_in d i newest_first a }) (newest_in d i newest_first a)

-- the tree of entry r of a ticket, which has a FETCH and a STORE for each tree, from the last tree to tree 0
abbrev pub entry_tree : Sizes → ℕ → ℕ
entry_tree d r = trees_of d - 1 - r / 2

-- how often tree i was accessed after g good answers: once for each FETCH in it that had a good answer
unfoldable pub accesses : Sizes → ℕ → ℕ → ℕ
accesses d g i = g / (2 * trees_of d) + (if nat_lt (2 * (trees_of d - 1 - i)) (g % (2 * trees_of d)) then 1 else 0)

-- the content of tree i after a past
abbrev pub content_of : Setting → List Step → ℕ → Map
content_of v past i =
    content_after v.scheme.device i (reverse (take (accesses v.scheme.device (progress v past).good i) (accepted past)))
