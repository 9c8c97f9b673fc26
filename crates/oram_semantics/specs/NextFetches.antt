-- The FETCHes with which the commands that wait begin. Each is fixed as soon as its command is accepted, so it can leave
-- while the commands before it are still at work.
use Rattle.std.specs.Prelude.{ℕ, ◌+◌, ◌-◌, ◌==◌, if◌then◌else◌, List, [], ◌∷◌, drop, map, slice_index, slice_set}
use Rattle.oram_geometry.specs.declared.Sizes.{Sizes}
use Rattle.oram_geometry.specs.Sizes.{trees_of}
use Rattle.oram_trace.specs.declared.entries.Entry.{Entry}
use Rattle.oram_wire.specs.HostMessages.{fetch_body}
use Rattle.oram_semantics.specs.Content.{block_of, new_leaf}
use Rattle.oram_semantics.specs.Moves.{fetch_at}
use Rattle.oram_semantics.specs.State.{State}
use Rattle.oram_semantics.specs.declared.events.Submission.{Submission}

-- the table once these commands have had the answers to their first FETCHes: it names each block's new leaf
unfoldable pub table_after : Sizes → List ℕ → List Submission → List ℕ
table_after d table [] = table
table_after d table (x ∷ rest) =
    table_after d (slice_set table (block_of d (trees_of d - 1) x) (new_leaf d (trees_of d - 1) x + 1)) rest

-- the first FETCH of each of these commands, in their order, if they begin with this table
unfoldable pub first_fetches : Sizes → List ℕ → List Submission → List Entry
first_fetches d table [] = []
first_fetches d table (x ∷ rest) =
    fetch_at d 0 (slice_index table (block_of d (trees_of d - 1) x)) x ∷ first_fetches d (table_after d table (x ∷ [])) rest

-- the commands that wait and whose first FETCH has had no answer: all, or all but the oldest, which is at work
abbrev pub to_begin : State → List Submission
to_begin s = if s.entry_number == 0 then s.queue else drop 1 s.queue

-- the first FETCHes of these commands, in the order in which the core sends them; the oldest command's is outstanding if its
-- answer hasn't come
abbrev pub next_fetches : Sizes → State → List Entry
next_fetches d s = first_fetches d s.table (to_begin s)

-- the messages of some FETCHes
abbrev pub fetch_bodies : List Entry → List (List ℕ)
fetch_bodies fetches = map (λ e. fetch_body e.tree e.leaf) fetches
