-- What a pair of the system's files is when it is made.
use Rattle.std.specs.Prelude.{ℕ, List}
use Rattle.oram_redo.specs.FilePair.{Contents}
use Rattle.oram_redo.specs.Memory.{byte_of}
use Rattle.oram_redo.specs.declared.file_pair.FileKind.TheVariants.{Records, Log}
use Rattle.oram_redo.specs.declared.memory.Range.{Range}

-- The bytes that a read of the file of records and of its log returns, and the ranges that no sync has covered: a process that was killed
-- may have written there.
pub record Opened : Type 0 where
  pub records : List ℕ
  pub log : List ℕ
  pub unsynced : List Range

abbrev pub contents_in : Opened → Contents
contents_in held Records = byte_of held.records
contents_in held Log = byte_of held.log
