-- Worked rows: what the definitions say of a few patches, beside what was written down by hand.
use Rattle.std.proofs.Common.{◌≡◌, [], ◌∷◌, ℕ, true, false, length, refl}
use Rattle.std.specs.Prelude.{Bool}
use Rattle.oram_redo.specs.Content.{Content, bytes_at, put}
use Rattle.oram_redo.specs.Note.{Call}
use Rattle.oram_redo.specs.Opened.{Opened}
use Rattle.oram_redo.specs.System.{ranges_after}
use Rattle.oram_redo.specs.declared.file_pair.FileKind.TheVariants.{Records}
use Rattle.oram_redo.specs.Log.{place_bytes, length_bytes, check_bytes, entry_text, entries, put_all}

zeros : Content
zeros i = 0

-- two bytes for the place 258, which is 1 * 256 + 2
row_text : entry_text (258, 7 ∷ 9 ∷ []) ≡ 2 ∷ 1 ∷ 0 ∷ 0 ∷ 0 ∷ 0 ∷ 0 ∷ 0 ∷ 2 ∷ 0 ∷ 0 ∷ 0 ∷ 7 ∷ 9 ∷ []
unfolding place_bytes length_bytes
row_text = refl

row_lengths : length (entries ((258, 7 ∷ 9 ∷ []) ∷ (0, []) ∷ [])) ≡ 44
unfolding place_bytes length_bytes check_bytes
row_lengths = refl

row_put : bytes_at 5 2 (put (7 ∷ 9 ∷ []) 4 zeros) ≡ 0 ∷ 0 ∷ 7 ∷ 9 ∷ 0 ∷ []
unfolding zeros
row_put = refl

-- a later patch lies over an earlier one
row_put_all : bytes_at 4 0 (put_all ((0, 1 ∷ 2 ∷ 3 ∷ []) ∷ (1, 8 ∷ 8 ∷ 8 ∷ []) ∷ []) zeros) ≡ 1 ∷ 8 ∷ 8 ∷ 8 ∷ []
unfolding zeros
row_put_all = refl

-- a byte that is written, and syncs: the second one of two covers nothing if the first has failed
no_files : Opened
no_files = record { records = []; log = []; unsynced = [] }

one_call : ℕ → Bool → Call
one_call kind ok = record { kind = kind; file = Records; at = 4; is_ok = ok; bytes = 7 ∷ [] }

row_synced : ranges_after no_files (one_call 3 true ∷ one_call 1 true ∷ []) ≡ []
unfolding no_files one_call
row_synced = refl

row_not_synced : ranges_after no_files (one_call 3 true ∷ one_call 3 false ∷ one_call 1 true ∷ []) ≡ record { file = Records; at = 4; len = 1 } ∷ []
unfolding no_files one_call
row_not_synced = refl
