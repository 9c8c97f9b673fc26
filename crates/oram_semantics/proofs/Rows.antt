-- Worked runs, computed.
use Rattle.std.proofs.Common.{◌≡◌, ℕ, zero, suc, ◌<◌, List, [], ◌∷◌, ◌++◌, map, replicate, slice_index, true, false, refl, Some, None, arith}
use Rattle.oram_geometry.specs.declared.Sizes.{Sizes}
use Rattle.oram_geometry.specs.Path.{node_on}
use Rattle.oram_geometry.specs.Sizes.{trees_of, level_for, blocks_in, record_len_of}
use Rattle.oram_geometry.specs.Least.{least_from}
use Rattle.oram_trace.specs.Tape.{greatest_below}
use Rattle.oram_trace.specs.TapeRearrangement.{nth_place, places_of, shown_places, rest_places, arranged_places, ShowsAlike}
use Rattle.oram_trace.proofs.Rearranged.{IsRearrangement-from, ShowsAlike-from}
use Rattle.oram_wire.specs.HostMessages.{fetch_body, put_body, store_body}
use Rattle.oram_hash.specs.Path.{record_at}
use Rattle.oram_semantics.specs.Scheme.{Scheme}
use Rattle.oram_semantics.specs.Messages.{last_stored, written, level_on}
use Rattle.std.specs.Str.{bytes_eq}
use Rattle.oram_bucket.specs.Cipher.{plain_cipher}
use Rattle.sha2.specs.Sha256.{sha256}
use Rattle.oram_semantics.specs.Answers.{path_in, outcome_of, good_answer, first_other, pair_in}
use Rattle.oram_semantics.specs.Answers.Outcome.{Good, NoRoom, Fails}
use Rattle.oram_semantics.specs.Progress.{Setting, Step, accepted, progress, status_from, sent}
use Rattle.oram_semantics.specs.Content.{content_after, data_in, map_entry_in, accesses}
use Rattle.oram_semantics.specs.Nonces.{formatted, formatted_below, buckets_below, store_nonce}
use Rattle.oram_semantics.specs.Events.{reply_of}
use Rattle.oram_semantics.specs.Run.{note_of, refusal_of, entries_sent, from_to, replies_at, Shown}
use Rattle.oram_semantics.specs.TwoWorlds.{LookAlike, past_of, AreTwoWorlds}
use Rattle.oram_semantics.specs.declared.events.Command.{Command}
use Rattle.oram_semantics.specs.declared.events.Command.TheVariants.{Read, Write, Discard}
use Rattle.oram_semantics.specs.declared.events.Refusal.TheVariants as refusal
use Rattle.oram_semantics.specs.declared.events.ReplyBody.TheVariants.{Data, Done, Failed}
use Rattle.oram_semantics.specs.declared.events.Event.{Event}
use Rattle.oram_semantics.specs.declared.events.Event.TheVariants.{Submit, Answer, Lost, Reopen, Retry}
use Rattle.oram_semantics.specs.declared.events.Note.TheVariants.{Accepted, Taken, Stalled, Resent, FailedNow, Unexpected}
use Rattle.oram_semantics.specs.declared.events.Reason.TheVariants.{Malformed, Tampered, HostRefused}
use Rattle.oram_semantics.specs.declared.events.Submission.{Submission}

-- 64 blocks in three trees, of depths 6, 4 and 2

abbrev recursive : Sizes
recursive = record { blocks = 64; block_bytes = 16; slots = 4; top = 4; lifetime = 100; leaf_load = 1 }

abbrev first : Submission
first = record { session = 1; ticket = 0; command = Read 37; words = 10 ∷ 11 ∷ 12 ∷ 13 ∷ 14 ∷ 15 ∷ [] }

abbrev second : Submission
second = record { session = 1; ticket = 1; command = Read 38; words = 20 ∷ 21 ∷ 22 ∷ 23 ∷ 24 ∷ 25 ∷ [] }

-- the map block of tree 1 after both tickets: it has the leaf of ticket 1's new word, and names the leaves of blocks
-- 37 and 38
map_block : content_after recursive 1 (second ∷ first ∷ []) 9
    ≡ Some (record { leaf = 7; content = 0 ∷ 0 ∷ 0 ∷ 0 ∷ 0 ∷ 0 ∷ 0 ∷ 12 ∷ 0 ∷ 0 ∷ 0 ∷ 22 ∷ 0 ∷ 0 ∷ 0 ∷ 0 ∷ [] })
unfolding trees_of blocks_in least_from level_for content_after data_in map_entry_in
map_block = refl

none_there : content_after recursive 0 (second ∷ first ∷ []) 39 ≡ None
unfolding content_after data_in map_entry_in
none_there = refl

-- after 9 good answers, three of them of ticket 1: tree 2 was accessed twice, tree 1 twice, tree 0 once
ninth : accesses recursive 9 2 ∷ accesses recursive 9 1 ∷ accesses recursive 9 0 ∷ [] ≡ 2 ∷ 2 ∷ 1 ∷ []
unfolding trees_of blocks_in least_from accesses
ninth = refl

-- the formatting puts 127, 31 and 7 buckets, and a ticket stores 3, 5 and 7, from the last tree to tree 0
nonces :
    formatted recursive ∷ store_nonce recursive 0 2 ∷ store_nonce recursive 0 1 ∷ store_nonce recursive 0 0 ∷ store_nonce recursive 1 2 ∷ []
    ≡ 165 ∷ 165 ∷ 168 ∷ 173 ∷ 180 ∷ []
unfolding trees_of blocks_in least_from level_for formatted_below buckets_below
nonces = refl

-- two blocks in one tree of depth 1, whose records have 88 bytes

abbrev small : Scheme
small = record {
  device = record { blocks = 2; block_bytes = 16; slots = 1; top = 2; lifetime = 10; leaf_load = 1 };
  cipher = plain_cipher;
}

abbrev filled : ℕ → List ℕ
filled byte = replicate 88 byte

abbrev messages : List (List ℕ)
messages =
    store_body 0 1 (filled 7 ++ filled 8) ∷ put_body 0 0 (filled 3) ∷ put_body 0 2 (filled 2) ∷ put_body 0 1 (filled 1) ∷ []

-- the STORE of the path of leaf 1 replaced the root and the right leaf
stored : map (last_stored small messages 0) (0 ∷ 1 ∷ 2 ∷ []) ≡ filled 7 ∷ filled 1 ∷ filled 8 ∷ []
unfolding trees_of blocks_in least_from level_for last_stored written level_on node_on record_at record_len_of
stored = refl

-- answers to the fetch of the path of leaf 1
meanings : map (outcome_of small (last_stored small messages) (record { fetch = true; tree = 0; leaf = 1 }))
    ((128 ∷ filled 7 ++ filled 8) ∷ (128 ∷ filled 7 ++ filled 9) ∷ (128 ∷ filled 3 ++ filled 9) ∷ (128 ∷ []) ∷ (129 ∷ 8 ∷ []) ∷ (129 ∷ 3 ∷ []) ∷ (129 ∷ 9 ∷ []) ∷ [] ∷ [])
    ≡ Good ∷ Fails (Tampered 0 1) ∷ Fails (Tampered 0 0) ∷ Fails Malformed ∷ NoRoom ∷ Fails (HostRefused 3) ∷ Fails Malformed ∷ Fails Malformed ∷ []
unfolding trees_of blocks_in least_from level_for last_stored written level_on node_on record_at record_len_of outcome_of good_answer path_in first_other
meanings = refl

-- and to its store
store_meanings : map (outcome_of small (last_stored small messages) (record { fetch = false; tree = 0; leaf = 1 }))
    ((128 ∷ []) ∷ (128 ∷ filled 7 ++ filled 8) ∷ (129 ∷ 8 ∷ []) ∷ [])
    ≡ Good ∷ Fails Malformed ∷ NoRoom ∷ []
unfolding trees_of blocks_in least_from level_for last_stored written level_on node_on record_at record_len_of outcome_of good_answer path_in first_other
store_meanings = refl

-- a run whose host answered as if each record were empty

abbrev setting : Setting
setting = record { scheme = record small { device = recursive }; format = [] }

abbrev happened : Event → Step
happened event = record { event = event; accepts = false; sends = [] }

abbrev submitted : Event
submitted = Submit 1 (Read 37) (10 ∷ 11 ∷ 12 ∷ 13 ∷ 14 ∷ 15 ∷ [])

abbrev good : Event
good = Answer (128 ∷ [])

abbrev begun : List Step
begun = (record { event = submitted; accepts = true; sends = [] }) ∷ []

abbrev past : List Step
past = happened good ∷ happened Retry ∷ happened Lost ∷ begun

counted : progress setting past ≡ record { good = 1; lost = false; failure = None }
unfolding progress accepted status_from trees_of blocks_in least_from level_for greatest_below outcome_of good_answer path_in last_stored sent node_on
counted = refl

-- the notes of events, each after its past
notes : note_of setting [] submitted ∷ note_of setting [] good ∷ note_of setting begun Lost ∷ note_of setting begun Reopen ∷ note_of setting begun Retry
    ∷ note_of setting (happened Lost ∷ begun) good ∷ note_of setting (happened Lost ∷ begun) Lost ∷ note_of setting (happened Lost ∷ begun) Reopen ∷ note_of setting (happened Reopen ∷ begun) Retry
    ∷ note_of setting begun good ∷ note_of setting begun (Answer (129 ∷ 8 ∷ [])) ∷ note_of setting begun (Answer (129 ∷ 4 ∷ []))
    ∷ note_of setting (happened (Answer []) ∷ begun) Retry ∷ []
    ≡ Accepted 0 ∷ Unexpected ∷ Stalled ∷ Stalled ∷ Unexpected ∷ Unexpected ∷ Unexpected ∷ Unexpected ∷ Resent ∷ Taken ∷ Stalled ∷ FailedNow (HostRefused 4) ∷ Unexpected ∷ []
unfolding progress accepted status_from trees_of blocks_in least_from level_for greatest_below outcome_of good_answer path_in last_stored sent node_on first_other record_len_of record_at
notes = refl

-- the plain array: each command sees the effect of those before it

abbrev asks : ℕ → Command → Submission
asks ticket command = record { session = 2; ticket = ticket; command = command; words = [] }

abbrev commands : List Submission
commands =
    asks 0 (Read 5) ∷ asks 1 (Write 5 (replicate 16 7)) ∷ asks 2 (Read 5) ∷ asks 3 (Read 6) ∷ asks 4 (Write 5 (replicate 16 9)) ∷ asks 5 (Read 5)
    ∷ asks 6 (Discard 5) ∷ asks 7 (Read 5) ∷ asks 8 (Write 5 (replicate 16 3)) ∷ asks 9 (Discard 6) ∷ asks 10 (Read 5) ∷ []

bodies : map (λ s. (reply_of recursive commands s).body) commands
    ≡ Data (replicate 16 0) ∷ Done ∷ Data (replicate 16 7) ∷ Data (replicate 16 0) ∷ Done ∷ Data (replicate 16 9)
    ∷ Done ∷ Data (replicate 16 0) ∷ Done ∷ Done ∷ Data (replicate 16 3) ∷ []
bodies = refl

-- each refusal, when all later reasons apply too
refusals : refusal_of recursive true 64 100 (Read 64) [] ∷ refusal_of recursive false 64 100 (Discard 64) [] ∷ refusal_of recursive false 64 100 (Write 63 (7 ∷ [])) []
    ∷ refusal_of recursive false 64 100 (Discard 63) [] ∷ refusal_of recursive false 64 100 (Read 63) first.words ∷ refusal_of recursive false 63 100 (Read 63) first.words
    ∷ refusal_of recursive false 63 99 (Read 63) first.words ∷ []
    ≡ Some refusal.Failed ∷ Some refusal.BadAddress ∷ Some refusal.BadLength ∷ Some refusal.BadWords ∷ Some refusal.Busy ∷ Some refusal.Exhausted ∷ None ∷ []
unfolding trees_of blocks_in least_from
refusals = refl

-- eight blocks in one tree, under a host that keeps nothing: byte 0x80 alone is a good answer to a fetch too

abbrev plain : Setting
plain = record { scheme = record small { device = record { blocks = 8; block_bytes = 16; slots = 4; top = 8; lifetime = 100; leaf_load = 1 } }; format = [] }

abbrev read_of : ℕ → Step
read_of address = record { event = Submit 1 (Read address) (6 ∷ 3 ∷ []); accepts = true; sends = [] }

abbrev both : List Step
both = read_of 2 ∷ read_of 5 ∷ []

-- the entries that are due: the first fetch, nothing for a command that waits, then one for each good answer until all are sent
due : from_to (entries_sent plain []) (entries_sent plain (read_of 5 ∷ [])) ∷ from_to (entries_sent plain (read_of 5 ∷ [])) (entries_sent plain both)
    ∷ from_to (entries_sent plain both) (entries_sent plain (happened good ∷ both)) ∷ from_to (entries_sent plain (happened good ∷ both)) (entries_sent plain (happened good ∷ happened good ∷ both))
    ∷ from_to (entries_sent plain (happened good ∷ read_of 5 ∷ [])) (entries_sent plain (happened good ∷ happened good ∷ read_of 5 ∷ [])) ∷ []
    ≡ (0 ∷ []) ∷ [] ∷ (1 ∷ []) ∷ (2 ∷ []) ∷ [] ∷ []
unfolding progress accepted status_from trees_of blocks_in least_from level_for greatest_below outcome_of good_answer path_in last_stored sent node_on
due = refl

-- a reply at the good answer to a command's last store, none before; at a failure all that wait are answered so
replies : replies_at plain both (happened good) Taken ∷ replies_at plain (happened good ∷ both) (happened good) Taken ∷ replies_at plain both (happened (Answer [])) (FailedNow Malformed) ∷ []
    ≡ [] ∷ ((record { session = 1; ticket = 0; body = Data (replicate 16 0) }) ∷ [])
    ∷ ((record { session = 1; ticket = 0; body = Failed }) ∷ (record { session = 1; ticket = 1; body = Failed }) ∷ []) ∷ []
unfolding progress accepted status_from trees_of blocks_in least_from level_for greatest_below outcome_of good_answer path_in last_stored sent node_on first_other record_len_of record_at
replies = refl

-- the pair that an answer may show is its first record that isn't the one last stored, and that one
pair : pair_in small (last_stored small messages) (record { fetch = true; tree = 0; leaf = 1 }) (128 ∷ filled 7 ++ filled 9)
    ≡ bytes_eq (sha256 (filled 9)) (sha256 (filled 8))
unfolding trees_of blocks_in least_from level_for last_stored written level_on node_on record_at record_len_of path_in first_other pair_in
pair = refl

-- the FETCH of a path, and its STORE with these records and with others
look_alike : LookAlike (fetch_body 0 1 ∷ store_body 0 1 (filled 7 ++ filled 8) ∷ []) (fetch_body 0 1 ∷ store_body 0 1 (filled 9 ++ filled 3) ∷ [])
look_alike = (record { length_is = refl; header = refl }, (record { length_is = refl; header = refl }, tt))

-- two worlds of one tree: one reads block 5 twice, the other block 5 and then block 2, with the words of the middle two places
-- swapped

abbrev reading : ℕ → List ℕ → Event
reading address words = Submit 1 (Read address) words

abbrev taken : ℕ → List (List ℕ) → Shown
taken ticket sends = record { note = Accepted ticket; replies = []; sends = sends }

abbrev reactions : List Shown
reactions = taken 0 (fetch_body 0 6 ∷ []) ∷ taken 1 [] ∷ []

after_both : past_of [] (reading 5 (6 ∷ 7 ∷ []) ∷ reading 2 (3 ∷ 1 ∷ []) ∷ good ∷ []) reactions
    ≡ (record { event = reading 2 (3 ∷ 1 ∷ []); accepts = true; sends = [] })
    ∷ (record { event = reading 5 (6 ∷ 7 ∷ []); accepts = true; sends = fetch_body 0 6 ∷ [] }) ∷ []
after_both = refl

abbrev swapped : List ℕ
swapped = 0 ∷ 2 ∷ 1 ∷ 3 ∷ []

in_tree : (i : ℕ) → i < 1
    → map (slice_index swapped) (arranged_places plain.scheme.device (5 ∷ 2 ∷ []) i) ≡ arranged_places plain.scheme.device (5 ∷ 5 ∷ []) i
unfolding trees_of least_from blocks_in greatest_below nth_place places_of shown_places rest_places arranged_places
in_tree zero below = refl
in_tree (suc i) below = absurd (omega arith)

shows_alike : ShowsAlike plain.scheme.device (5 ∷ 5 ∷ []) (5 ∷ 2 ∷ []) swapped
unfolding trees_of least_from blocks_in
shows_alike =
    ShowsAlike-from plain.scheme.device (5 ∷ 5 ∷ []) (5 ∷ 2 ∷ []) swapped refl
    (IsRearrangement-from plain.scheme.device (5 ∷ 5 ∷ []) (5 ∷ 2 ∷ []) swapped refl refl in_tree) (omega arith)

two_worlds : AreTwoWorlds
    (record { setting = plain; events = reading 5 (6 ∷ 3 ∷ []) ∷ reading 5 (7 ∷ 1 ∷ []) ∷ []; reactions = reactions; addresses = 5 ∷ 5 ∷ [] })
    (record { setting = plain; events = reading 5 (6 ∷ 7 ∷ []) ∷ reading 2 (3 ∷ 1 ∷ []) ∷ []; reactions = reactions; addresses = 5 ∷ 2 ∷ [] })
    (6 ∷ 3 ∷ 7 ∷ 1 ∷ []) swapped
unfolding trees_of least_from blocks_in accepted
two_worlds = record {
  device = refl;
  overhead = refl;
  notes = refl;
  words_are = refl;
  alike = shows_alike;
  first_is = record { addresses_are = refl; tape_is = refl };
  second_is = record { addresses_are = refl; tape_is = refl };
}
