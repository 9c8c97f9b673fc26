-- Rows that the definitions compute.
use Rattle.std.proofs.Common.{◌≡◌, ℕ, ◌+◌, ◌-◌, ◌/◌, ◌%◌, ◌^◌, ◌<◌, List, [], ◌∷◌, ◌++◌, Some, None, true, false, Ok, Err, length, take, refl, ap, ◌∙◌, arith, append_assoc, length-append}
use Rattle.std.specs.Prelude.{replicate}
use Rattle.sha2.specs.Sha256.{sha256}
use Rattle.sha2.proofs.Facts256.{length-sha256}
use Rattle.oram_geometry.specs.declared.Sizes.{Sizes}
use Rattle.oram_geometry.specs.Least.{least_from}
use Rattle.oram_geometry.specs.Sizes.{IsDevice, blocks_in, trees_of}
use Rattle.oram_semantics.specs.declared.events.Command.TheVariants.{Read, Write}
use Rattle.oram_semantics.specs.declared.events.Reason.TheVariants.{Malformed, Tampered, HostRefused}
use Rattle.oram_core.specs.Parts.{Parts}
use Rattle.oram_state.specs.declared.fault.StateFault.TheVariants.{Magic, Length, Content}
use Rattle.oram_state.specs.declared.mode.Mode.TheVariants.{Idle, Failed, Stalled}
use Rattle.oram_state.specs.StateBytes.{half, short, long, after_text, before_text, body, device_text, command_text, fields_text, mode_of, reason_text, state_file, table_text, with_table}
use Rattle.oram_state.specs.WellSized.{held_len, table_len, tree_count}
use Rattle.oram_state.specs.Parser.{fields_in, next_device, next_number, reason_in}

abbrev device : Sizes
device = record { blocks = 8; block_bytes = 16; slots = 4; top = 8; lifetime = 100; leaf_load = 1 }

-- just formatted
abbrev idle : Parts
idle = record {
  device = device;
  tickets = 0;
  nonce = 15;
  table = replicate 8 0;
  trees = record { root = replicate 32 0; stash = [] } ∷ [];
  failure = None;
  waiting = [];
  entry_number = 0;
  held_entry = 0;
  held_data = [];
  message = [];
  stalled = false;
}

-- a read whose fetch is outstanding, and then its store
abbrev fetching : Parts
fetching = record idle { tickets = 1; waiting = record { session = 1; command = Read 5; words = 6 ∷ 3 ∷ [] } ∷ []; message = replicate 6 0 }

abbrev storing : Parts
storing = record fetching { nonce = 19; entry_number = 1; held_data = replicate 16 0; message = replicate 646 0 }

-- the host refused the fetch
abbrev failed : Parts
failed = record idle { tickets = 1; table = []; trees = []; failure = Some (HostRefused 6) }

-- three trees, just formatted
abbrev three_trees : Parts
three_trees = record idle {
  device = record { blocks = 64; block_bytes = 16; slots = 4; top = 4; lifetime = 100; leaf_load = 1 };
  nonce = 165;
  table = replicate 4 0;
  trees = replicate 3 (record { root = replicate 32 0; stash = [] });
}

-- a file is its text and a digest of 32 bytes
file_len : (version overhead : ℕ) (p : Parts) → length (state_file version overhead p) ≡ length (body version (fields_text overhead p)) + 32
file_len version overhead p = let text = body version (fields_text overhead p) in length-append text (sha256 text) ∙ ap (λ n. length text + n) (length-sha256 text)

idle_len : length (state_file 2 0 idle) ≡ 165
unfolding half short long
idle_len = file_len 2 0 idle

-- a file of the first version is as long
first_version_len : length (state_file 1 0 idle) ≡ 165
unfolding half short long
first_version_len = file_len 1 0 idle

three_trees_len : length (state_file 2 0 three_trees) ≡ 221
unfolding half short long
three_trees_len = file_len 2 0 three_trees

-- a failed core's file is as long whatever the reason
malformed_len : length (state_file 2 8 (record failed { failure = Some Malformed })) ≡ 101
unfolding half short long
malformed_len = file_len 2 8 (record failed { failure = Some Malformed })

tampered_len : length (state_file 2 0 (record failed { failure = Some (Tampered 0 3) })) ≡ 101
unfolding half short long
tampered_len = file_len 2 0 (record failed { failure = Some (Tampered 0 3) })

failed_len : length (state_file 1 0 failed) ≡ 101
unfolding half short long
failed_len = file_len 1 0 failed

fetching_len : length (state_file 2 0 fetching) ≡ 212
unfolding half short long
fetching_len = file_len 2 0 fetching

storing_len : length (state_file 2 0 storing) ≡ 868
unfolding half short long
storing_len = file_len 2 0 storing

letters : take 8 (state_file 2 0 idle) ≡ 0x50 ∷ 0x41 ∷ 0x54 ∷ 0x48 ∷ 0x4f ∷ 0x52 ∷ 0x41 ∷ 0x4d ∷ []
letters = refl

-- with a leaf load of 1 the slots of a device are a number in four bytes, whatever its numbers are
four_bytes : (n : ℕ) → n < 2 ^ 16 → half 0 ++ half n ≡ short n
unfolding half short
four_bytes n fits =
    let a : n / 16777216 % 256 ≡ 0 = omega arith in
    let b : n / 65536 % 256 ≡ 0 = omega arith in
    rw (a, b) refl

five_numbers : (d : Sizes) → IsDevice d → d.leaf_load ≡ 1 → device_text d ≡ short d.blocks ++ short d.block_bytes ++ short d.slots ++ short d.top ++ long d.lifetime
five_numbers d is one =
    let none : d.leaf_load - 1 ≡ 0 = omega (arith, one) in
    let slots : half (d.leaf_load - 1) ++ half d.slots ≡ short d.slots = ap (λ (n : ℕ). half n ++ half d.slots) none ∙ four_bytes d.slots (omega (arith, is.few_slots)) in
    ap (λ (x : List ℕ). x ++ short d.top ++ long d.lifetime) (append_assoc (short d.blocks ++ short d.block_bytes) (half (d.leaf_load - 1)) (half d.slots) ∙ ap (λ (x : List ℕ). short d.blocks ++ short d.block_bytes ++ x) slots)

one_leaf_each : device_text device ≡ short 8 ++ short 16 ++ short 4 ++ short 8 ++ long 100
unfolding half short long
one_leaf_each = refl

-- with a leaf load of 4 they have a 3 before them
four_a_leaf : device_text (record device { leaf_load = 4 }) ≡ short 8 ++ short 16 ++ (0 ∷ 3 ∷ 0 ∷ 4 ∷ []) ++ short 8 ++ long 100
unfolding half short long
four_a_leaf = refl

-- and so they are read
four_read : next_device (short 8 ++ short 16 ++ (0 ∷ 3 ∷ 0 ∷ 4 ∷ []) ++ short 8 ++ long 100) ≡ Ok (record device { leaf_load = 4 }, [])
unfolding short long next_device next_number
four_read = refl

-- six to a leaf, for which four slots have no room
six_refused : next_device (short 8 ++ short 16 ++ (0 ∷ 5 ∷ 0 ∷ 4 ∷ []) ++ short 8 ++ long 100) ≡ Err Content
unfolding short long next_device next_number
six_refused = refl

-- with five blocks to a leaf the device has three nodes, and its fields are as long as with one
packed_len : length (fields_text 0 (record idle { device = record device { leaf_load = 5 }; nonce = 3 })) ≡ 113
unfolding half short long
packed_len = refl

-- the whole text of a failed core's file, of the first version: the fields between the length and the digest
failed_text : body 1 (fields_text 0 failed) ≡ 0x50 ∷ 0x41 ∷ 0x54 ∷ 0x48 ∷ 0x4f ∷ 0x52 ∷ 0x41 ∷ 0x4d ∷ 0 ∷ 0 ∷ 0 ∷ 1 ∷ 0 ∷ 0 ∷ 0 ∷ 0 ∷ 0 ∷ 0 ∷ 0 ∷ 0x65
    ∷ 0 ∷ 0 ∷ 0 ∷ 8 ∷ 0 ∷ 0 ∷ 0 ∷ 0x10 ∷ 0 ∷ 0 ∷ 0 ∷ 4 ∷ 0 ∷ 0 ∷ 0 ∷ 8 ∷ 0 ∷ 0 ∷ 0 ∷ 0 ∷ 0 ∷ 0 ∷ 0 ∷ 0x64 ∷ 0 ∷ 0 ∷ 0 ∷ 0 ∷ 1
    ∷ 0 ∷ 0 ∷ 0 ∷ 0 ∷ 0 ∷ 0 ∷ 0 ∷ 1 ∷ 0 ∷ 0 ∷ 0 ∷ 0 ∷ 0 ∷ 0 ∷ 0 ∷ 0xf ∷ 3 ∷ 0 ∷ 0 ∷ 6 ∷ []
unfolding half short long
failed_text = refl

-- the fields around a table: 45 bytes before it, or 49 of a core that failed
before_len_row : length (before_text 0 idle) ≡ 45
unfolding half short long
before_len_row = refl

failed_len_row : length (before_text 0 failed) ≡ 49
unfolding half short long
failed_len_row = refl

entry_row : table_text (0x01020304 ∷ 5 ∷ []) ≡ 1 ∷ 2 ∷ 3 ∷ 4 ∷ 0 ∷ 0 ∷ 0 ∷ 5 ∷ []
unfolding short
entry_row = refl

around_row : with_table (before_text 0 idle) (replicate 8 0) (after_text idle) ≡ fields_text 0 idle
unfolding half short long
around_row = refl

write_row : command_text (Write 2 (0xff ∷ 0xfe ∷ [])) ≡ 0x12 ∷ 0 ∷ 0 ∷ 0 ∷ 2 ∷ 0xff ∷ 0xfe ∷ []
unfolding short
write_row = refl

tampered_row : reason_text (Tampered 0 3) ≡ 2 ∷ 0 ∷ 3 ∷ 0 ∷ []
tampered_row = refl

code_row : reason_in 3 0 0 6 ≡ Ok (HostRefused 6)
code_row = refl

idle_mode : mode_of idle ≡ Idle
idle_mode = refl

stalled_mode : mode_of (record storing { stalled = true }) ≡ Stalled
stalled_mode = refl

failed_mode : mode_of failed ≡ Failed
failed_mode = refl

table_row : table_len device None ≡ 8
unfolding blocks_in trees_of least_from
table_row = refl

no_trees : tree_count device (Some Malformed) ≡ 0
no_trees = refl

-- with one tree, a command has two entries, and data is held at the last
held_row : held_len device 1 ≡ 16
unfolding trees_of blocks_in least_from
held_row = refl

not_held : held_len device 0 ≡ 0
unfolding trees_of blocks_in least_from
not_held = refl

-- a text that is too short, by which part of it is missing
no_letters : fields_in (0x50 ∷ 0x41 ∷ []) ≡ Err Magic
unfolding fields_in
no_letters = refl

no_version : fields_in (0x50 ∷ 0x41 ∷ 0x54 ∷ 0x48 ∷ 0x4f ∷ 0x52 ∷ 0x41 ∷ 0x4d ∷ 0 ∷ 0 ∷ []) ≡ Err Length
unfolding fields_in
no_version = refl
