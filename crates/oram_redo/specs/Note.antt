-- A call on a pair of files, as a history notes it.
use Rattle.std.specs.Prelude.{ℕ, Bool, List, slice_index, ◌==◌, if◌then◌else◌}
use Rattle.oram_redo.specs.declared.file_pair.FileKind.{FileKind}
use Rattle.oram_redo.specs.declared.file_pair.FileKind.TheVariants.{Records, Log}

-- One call of the system that was made on a pair of files. `kind` is 1 for a write, 2 for a read, 3 for a sync, 4 for a question for
-- the file's length, 5 for a rename to the log's name, 6 for a sync of the log's folder, and 7 for such a
-- rename that was refused. `at` is the first place in `file` that the
-- call reached, or the length that it returned. `is_ok` says whether it returned `Ok`. `bytes` are those that the system took or gave; where a write failed, all that it was to take.
pub record Call : Type 0 where
  pub kind : ℕ
  pub file : FileKind
  pub at : ℕ
  pub is_ok : Bool
  pub bytes : List ℕ

abbrev pub call_of : List ℕ → List ℕ → Call
call_of numbers bytes = record {
  kind = slice_index numbers 0;
  file = (if slice_index numbers 1 == 1 then Log else Records);
  at = slice_index numbers 2;
  is_ok = slice_index numbers 3 == 1;
  bytes = bytes;
}
