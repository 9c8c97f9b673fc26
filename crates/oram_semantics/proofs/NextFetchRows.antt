-- Worked rows of the FETCHes with which commands begin, computed.
use Rattle.std.proofs.Common.{◌≡◌, ℕ, List, [], ◌∷◌, true, false, None, refl}
use Rattle.oram_geometry.specs.declared.Sizes.{Sizes}
use Rattle.oram_geometry.specs.Sizes.{trees_of, blocks_in, level_for}
use Rattle.oram_geometry.specs.Least.{least_from}
use Rattle.oram_trace.specs.declared.entries.Entry.{Entry}
use Rattle.oram_semantics.specs.NextFetches.{fetch_bodies, first_fetches, next_fetches, table_after}
use Rattle.oram_semantics.specs.State.{State}
use Rattle.oram_semantics.specs.declared.events.Command.TheVariants.{Read}
use Rattle.oram_semantics.specs.declared.events.Submission.{Submission}

-- 64 blocks in three trees, of depths 6, 4 and 2. The table has an entry for each of the four blocks of tree 2.
abbrev recursive : Sizes
recursive = record { blocks = 64; block_bytes = 16; slots = 4; top = 4; lifetime = 100; leaf_load = 1 }

-- the words that a command has in trees 0 and 1 don't matter here
abbrev asks : ℕ → ℕ → ℕ → ℕ → Submission
asks ticket address spare new = record { session = 1; ticket = ticket; command = Read address; words = 90 ∷ 91 ∷ 92 ∷ 93 ∷ spare ∷ new ∷ [] }

-- blocks 37 and 40 of tree 0 are found by block 2 of tree 2, and block 5 by block 0
abbrev queue : List Submission
queue = asks 0 37 12 13 ∷ asks 1 5 14 15 ∷ asks 2 40 16 18 ∷ asks 3 5 20 21 ∷ asks 4 33 22 23 ∷ []

abbrev fetch : ℕ → Entry
fetch leaf = record { fetch = true; tree = 2; leaf = leaf }

abbrev begun : ℕ → List ℕ → State
begun entry_number table = record { table = table; trees = []; next = 5; nonce = 0; queue = queue; entry_number = entry_number; held_entry = 0; held_data = []; message = []; lost = false; failure = None }

-- Nothing has an entry in the table yet. The first command fetches the leaf of its spare word, and so does the second,
-- for another block. The third fetches the leaf of the first one's new word, the fourth that of the second's, and the
-- last that of the third's, which is newer than the first's.
from_zeros : first_fetches recursive (0 ∷ 0 ∷ 0 ∷ 0 ∷ []) queue ≡ fetch 0 ∷ fetch 2 ∷ fetch 1 ∷ fetch 3 ∷ fetch 2 ∷ []
unfolding trees_of blocks_in least_from level_for first_fetches table_after
from_zeros = refl

-- an entry of the table names its leaf plus one
from_names : first_fetches recursive (4 ∷ 1 ∷ 2 ∷ 3 ∷ []) queue ≡ fetch 1 ∷ fetch 3 ∷ fetch 1 ∷ fetch 3 ∷ fetch 2 ∷ []
unfolding trees_of blocks_in least_from level_for first_fetches table_after
from_names = refl

-- before the oldest command's first answer all five are next
before_the_answer : fetch_bodies (next_fetches recursive (begun 0 (0 ∷ 0 ∷ 0 ∷ 0 ∷ [])))
    ≡ (1 ∷ 2 ∷ 0 ∷ 0 ∷ 0 ∷ 0 ∷ []) ∷ (1 ∷ 2 ∷ 0 ∷ 0 ∷ 0 ∷ 2 ∷ []) ∷ (1 ∷ 2 ∷ 0 ∷ 0 ∷ 0 ∷ 1 ∷ []) ∷ (1 ∷ 2 ∷ 0 ∷ 0 ∷ 0 ∷ 3 ∷ []) ∷ (1 ∷ 2 ∷ 0 ∷ 0 ∷ 0 ∷ 2 ∷ []) ∷ []
unfolding trees_of blocks_in least_from level_for first_fetches table_after
before_the_answer = refl

-- and after it, when the table names block 2's new leaf, the other four
after_the_answer : next_fetches recursive (begun 3 (0 ∷ 0 ∷ 2 ∷ 0 ∷ [])) ≡ fetch 2 ∷ fetch 1 ∷ fetch 3 ∷ fetch 2 ∷ []
unfolding trees_of blocks_in least_from level_for first_fetches table_after
after_the_answer = refl
