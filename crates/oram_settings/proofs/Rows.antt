-- The definitions on names, sizes, a formatting, a disk and settings that are written out.
use Rattle.std.proofs.Common.{◌≡◌, ℕ, ◌^◌, refl, Some, None, inl, inr, arith, codes}
use Rattle.std.specs.Prelude.{replicate, pos}
use Rattle.std.specs.Fmt.{digits}
use Rattle.std.specs.Path.{path_file_name, path_join, path_parent, path_with_file_name, rsplit_once, split_last_component, trim_trailing}
use Rattle.hex.specs.Hex.{encode_with}
use Rattle.toml.specs.Data.{Members, integer, member, no_members, string}
use Rattle.toml.specs.Parse.{parse_document}
use Rattle.toml.proofs.OnLiterals.{toml_on_literals}
use Rattle.oram_semantics.specs.declared.events.Reason.TheVariants.{Tampered}
use Rattle.oram_cli.specs.Tables.{HasNumber, HasText}
use Rattle.oram_settings.specs.Amounts.{size_text}
use Rattle.oram_settings.specs.Differences.{value_text}
use Rattle.oram_settings.specs.Progress.{progress_text}
use Rattle.oram_settings.specs.declared.differences.FixedKey.TheVariants.{Near}
use Rattle.oram_settings.specs.declared.progress.LongWork.TheVariants.{Exporting, Formatting}
use Rattle.oram_settings.specs.Settings.{HasSealing, OrDefault, default_leaf_load, default_near, default_table, first_text}
use Rattle.oram_geometry.specs.declared.Sizes.{Sizes}
use Rattle.oram_geometry.specs.Least.{least_from}
use Rattle.oram_geometry.specs.Sizes.{blocks_in, level_for, record_len_of, trees_of}
use Rattle.oram_settings.specs.Footprint.{nodes_below, stored_bytes}
use Rattle.oram_settings.specs.NearRecords.{IsNearLevels, near_len}
use Rattle.oram_settings.specs.declared.disk_file.Sealing.TheVariants.{ChaCha}
use Rattle.oram_settings.specs.Sizes.{IsSizeIn}
use Rattle.oram_settings.specs.Status.{failing, report}

in_the_folder : path_with_file_name (codes "mydisk/disk.toml") (codes "disk.state") ≡ codes "mydisk/disk.state"
unfolding path_with_file_name path_file_name path_join path_parent rsplit_once split_last_component trim_trailing
in_the_folder = refl

in_no_folder : path_with_file_name (codes "disk.toml") (codes "disk.state") ≡ codes "disk.state"
unfolding path_with_file_name path_file_name path_join path_parent rsplit_once split_last_component trim_trailing
in_no_folder = refl

from_the_top : path_with_file_name (codes "mydisk/disk.toml") (codes "/disk.state") ≡ codes "/disk.state"
unfolding path_with_file_name path_file_name path_join path_parent rsplit_once split_last_component trim_trailing
from_the_top = refl

mebibytes : IsSizeIn (codes "MiB", 2 ^ 20) (codes "512MiB") 536870912
unfolding digits
mebibytes = record { number = 512; some = omega arith; written = refl; bytes = refl }

well_begun : progress_text Formatting 7000 16383 9000 ≡ codes "formatting: 42 % (7000 of 16383 records), 12 s left"
unfolding digits
well_begun = refl

just_begun : progress_text Exporting 0 131071 40 ≡ codes "exporting: 0 % (0 of 131071 records)"
unfolding digits
just_begun = refl

tampered : failing (Some (Tampered 1 7)) ≡ codes "it has failed: in tree 1 the record at level 7 of a path wasn't the one that was stored last"
unfolding digits
tampered = refl

stands : report (record { blocks = 262144; block_bytes = 4096; trees = 2; stash = 1; near = 16867224; accesses = 12; lifetime = 2 ^ 40; waiting = 1; failure = None })
    ≡ codes "size: 1073741824 bytes, 262144 blocks of 4096\ntrees: 2\nstash: 1 block\nnear: 16867224 bytes\naccesses: 12 made, 1099511627764 left\nwaiting: 1\nstate: it is sound\n"
unfolding digits
stands = refl

a_gibibyte : size_text (2 ^ 30) ≡ codes "1 GiB"
unfolding digits
a_gibibyte = refl

one_and_a_half : size_text 1610612736 ≡ codes "1536 MiB"
unfolding digits
one_and_a_half = refl

half_a_mebibyte : size_text 524288 ≡ codes "512 KiB"
unfolding digits
half_a_mebibyte = refl

no_whole_unit : size_text 100003840 ≡ codes "100.0 MB"
unfolding digits
no_whole_unit = refl

-- what the first settings say, once they are read
abbrev first_table : Members
first_table =
    member (codes "host") (string (codes "unix:buckets.sock"))
    (member (codes "key") (string (codes "a7a7a7a7a7a7a7a7a7a7a7a7a7a7a7a7a7a7a7a7a7a7a7a7a7a7a7a7a7a7a7a7"))
    (member (codes "size") (integer (pos 1073741824)) no_members))

reads_back : parse_document (first_text (2 ^ 30) (replicate 32 167)) ≡ Some first_table
unfolding digits encode_with toml_on_literals
reads_back = refl

-- the default, if they don't have the key
no_slots : OrDefault first_table (codes "slots") 4 (HasNumber first_table (codes "slots")) 4
no_slots = refl

no_sealer : OrDefault first_table (codes "sealer") ChaCha (HasSealing first_table (codes "sealer")) ChaCha
no_sealer = refl

no_near : OrDefault first_table (codes "near") (default_near (2 ^ 30)) (HasNumber first_table (codes "near")) 33554432
no_near = refl

nowhere_to_listen : OrDefault first_table (codes "listen") (codes "unix:disk.sock") (HasText first_table (codes "listen")) (codes "unix:disk.sock")
nowhere_to_listen = refl

-- five blocks to a leaf, and one where a bucket has fewer than four slots
loads : (default_leaf_load 4 ≡ 5) × (default_leaf_load 8 ≡ 5) × (default_leaf_load 3 ≡ 1)
loads = (refl, refl, refl)

-- an entry for each block
tables : (default_table (2 ^ 30) 4096 ≡ 262144) × (default_table 4095 4096 ≡ 0)
tables = (refl, refl)

-- a disk of 1 GiB, whose table has an entry for each block
abbrev gibibyte : ℕ → Sizes
gibibyte load = record { blocks = 2 ^ 18; block_bytes = 4096; slots = 4; top = 2 ^ 18; lifetime = 2 ^ 40; leaf_load = load }

its_bytes : (stored_bytes (gibibyte 5) ChaCha ≡ 2161098648) × (stored_bytes (gibibyte 1) ChaCha ≡ 8644444056)
unfolding nodes_below trees_of blocks_in level_for least_from record_len_of
its_bytes = (refl, refl)

-- 1/32 of the disk's size, and at most 64 MiB
nears : (default_near (2 ^ 30) ≡ 2 ^ 25) × (default_near (2 ^ 31) ≡ 2 ^ 26) × (default_near (2 ^ 38) ≡ 2 ^ 26) × (default_near 4096 ≡ 128) × (default_near 31 ≡ 0)
nears = (refl, refl, refl, refl, refl)

-- Of a disk of 1 GiB the records of ten levels have at most 1/32 of its size, and those of eleven have more.
ten_levels : (near_len (gibibyte 5) 8 10 ≡ 16867224) × (near_len (gibibyte 5) 8 11 ≡ 33750936)
unfolding record_len_of
ten_levels = (refl, refl)

of_a_gibibyte : IsNearLevels (gibibyte 5) 8 (default_near (2 ^ 30)) 10
unfolding blocks_in level_for least_from record_len_of
of_a_gibibyte = record { above_leaves = omega arith; fits = omega arith; most = inr (omega arith) }

-- seven levels of a disk of 64 MiB
of_64_mebibytes : IsNearLevels (record (gibibyte 5) { blocks = 2 ^ 14; top = 2 ^ 14 }) 8 (default_near (2 ^ 26)) 7
unfolding blocks_in level_for least_from record_len_of
of_64_mebibytes = record { above_leaves = omega arith; fits = omega arith; most = inr (omega arith) }

-- a disk of one block has one level, whose node is a leaf
of_one_block : IsNearLevels (record (gibibyte 5) { blocks = 1; top = 1 }) 8 (2 ^ 26) 0
unfolding blocks_in level_for least_from record_len_of
of_one_block = record { above_leaves = omega arith; fits = omega arith; most = inl refl }

-- what the fault for a changed `near` says that it was, if that disk has ten near levels
was_near : value_text (gibibyte 5) ChaCha 10 Near ≡ codes "16867224"
unfolding digits record_len_of
was_near = refl

-- no bytes, no levels
of_no_bytes : IsNearLevels (gibibyte 5) 8 0 0
unfolding blocks_in level_for least_from record_len_of
of_no_bytes = record { above_leaves = omega arith; fits = omega arith; most = inr (omega arith) }

-- and the value, if they have it
five_slots : let said = member (codes "slots") (integer (pos 5)) no_members in OrDefault said (codes "slots") 4 (HasNumber said (codes "slots")) 5
five_slots = refl
