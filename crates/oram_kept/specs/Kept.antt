-- A text that is kept in a pair of files, between two calls and after a crash.
use Rattle.std.specs.Prelude.{◌≡◌, ◌⊎◌, ℕ, ◌^◌, Bool, List, [], ◌∷◌}
use Rattle.oram_redo.specs.Content.{Content}
use Rattle.oram_redo.specs.FilePair.{Contents, FileModel}
use Rattle.oram_redo.specs.Log.{StandsFor}
use Rattle.oram_redo.specs.Redo.{IsCrashConsistent, bounds_of}
use Rattle.oram_redo.specs.declared.bounds.Bounds.{Bounds}
use Rattle.oram_redo.specs.declared.file_pair.FileKind.TheVariants.{Records}
use Rattle.oram_redo.specs.declared.redo.Redo.{Redo}
use Rattle.oram_kept.specs.Layout.{Holds}
use Rattle.oram_kept.specs.Text.{Parts}

-- The log's first 4,096 bytes are for its front.
abbrev pub bounds : Bounds
bounds = record { log_start = 4096; log_end = 2 ^ 40; records_end = 2 ^ 62 }

-- the files stand for one of these records
abbrev pub StandsEither : Bounds → Content → Content → Contents → Type 0
StandsEither bounds r s c = StandsFor bounds [] r c ⊎ StandsFor bounds [] s c

pub record KeptValue (F : Type 0) : Type 0 where
  pub files : F
  pub redo : Redo
  pub table : List ℕ  -- as it was kept last
  pub records : List ℕ  -- as they were kept last
  pub has_stopped : Bool  -- a call has failed: the files have to be opened again

-- the table of the first of these texts
abbrev pub newest_table : List Parts → List ℕ
newest_table [] = []
newest_table (p ∷ ps) = p.table

-- the records of the first of these texts
abbrev pub newest_records : List Parts → List ℕ
newest_records [] = []
newest_records (p ∷ ps) = p.records

-- These files are those of a text with these parts: whoever opens them finds it.
pub record Finds (bounds : Bounds) (p : Parts) (c : Contents) : Type 0 where
  pub records : Content
  pub stands : StandsFor bounds [] records c
  pub holds : Holds p records

-- This text was kept last, and a crash leaves files with it.
pub record Keeps {F : Type 0} (model : FileModel F) (p : Parts) (k : KeptValue F) : Type 0 where
  pub consistent : IsCrashConsistent model k.redo [] k.files
  pub holds : Holds p (model.seen k.files Records)
  pub table : k.table ≡ p.table
  pub records : k.records ≡ p.records
  pub bounded : bounds_of k.redo ≡ bounds

-- a crash leaves files with one of these two texts
abbrev pub FindsEither : Bounds → Parts → Parts → Contents → Type 0
FindsEither bounds p q c = Finds bounds p c ⊎ Finds bounds q c
