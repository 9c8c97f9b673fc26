-- The process of a disk in the text that is kept of it.
use Rattle.std.specs.Prelude.{◌≡◌, ◌<◌, ◌^◌, ◌⊎◌, ℕ, List, [], ◌∷◌, ◌++◌, length, All, ⊤}
use Rattle.oram_kept.specs.Keeper.{KeeperValue}
use Rattle.oram_kept.specs.Kept.{Finds, bounds}
use Rattle.oram_kept.specs.Layout.{Holds}
use Rattle.oram_kept.specs.Opening.{IsNotOpened}
use Rattle.oram_kept.specs.Text.{Parts, text_of}
use Rattle.oram_state.specs.StateBytes.{with_table}
use Rattle.oram_redo.specs.FilePair.{Contents, FileModel}
use Rattle.oram_redo.specs.declared.file_pair.FileKind.TheVariants.{Records}
use Rattle.oram_rounds.specs.KeptParts.{text_of as process_of}
use Rattle.oram_keeper.specs.declared.first_process.FirstProcess.{FirstProcess}
use Rattle.oram_keeper.specs.declared.found_process.FoundProcess.{FoundProcess}
use Rattle.oram_keeper.specs.declared.pair_keeper.KeeperFault.{KeeperFault}
use Rattle.oram_keeper.specs.declared.pair_keeper.KeeperFault.TheVariants.{Files, NoTitle, OutOfMemory}

pub record PairKeeperState (F : Type 0) : Type 0 where
  pub keeper : KeeperValue F  -- of the texts
  pub title : List ℕ  -- stands first in each text

-- the text is that of this process, behind this title
abbrev pub IsTextOf : List ℕ → List ℕ → Parts → Type 0
IsTextOf title process p = text_of p ≡ title ++ process

-- one of the texts is that of this process
abbrev pub IsAmong : List ℕ → List ℕ → List Parts → Type 0
IsAmong title process [] = ⊥
IsAmong title process (p ∷ ps) = IsTextOf title process p ⊎ IsAmong title process ps

-- The process may be read back: its text is one of those that may be found.
abbrev pub MayReadBack : {F : Type 0} → PairKeeperState F → List ℕ → Type 0
MayReadBack k process = IsAmong k.title process k.keeper.texts

-- the table of the text that was kept last
abbrev pub kept_table : {F : Type 0} → PairKeeperState F → List ℕ
kept_table k = k.keeper.kept.table

-- the records of the text that was kept last
abbrev pub kept_records : {F : Type 0} → PairKeeperState F → List ℕ
kept_records k = k.keeper.kept.records

-- the text of a process that was found, with its records
abbrev pub found_text : FoundProcess → List ℕ
found_text found = found.text.items ++ found.records.items

-- The table of a kept text stands in the text of a process that was found, at the place that is said of it, and the records behind that text.
pub record IsFoundIn (found : FoundProcess) (p : Parts) : Type 0 where
  pub before : List ℕ
  pub text : found.text.items ≡ with_table before p.table p.after
  pub place : length before ≡ found.table_at
  pub count : length p.table ≡ found.table_len
  pub records : found.records.items ≡ p.records
  pub numbers : All (λ n. n < 2 ^ 32) p.table

-- Files hold a text that has fewer bytes before its table than a title.
pub record HoldsNoTitle {F : Type 0} (model : FileModel F) (title_len : ℕ) (old new : F) : Type 0 where
  pub text : Parts
  pub found : model.is_honest new → Finds bounds text (model.seen old)
  pub short : length text.before < title_len

-- Files were not opened, for this reason.
abbrev pub IsNotRead : {F : Type 0} → FileModel F → ℕ → F → KeeperFault → Type 0
IsNotRead {F} model title_len old (Files why) = (new : F) × IsNotOpened model why old new
IsNotRead {F} model title_len old NoTitle = (new : F) × HoldsNoTitle model title_len old new
IsNotRead model title_len old OutOfMemory = ⊤

-- The file of records holds the text of a first process, behind its title.
pub record HoldsFirst (first : FirstProcess) (files : Contents) : Type 0 where
  pub text : Parts
  pub is : IsTextOf first.title.now (process_of first.text) text
  pub holds : Holds text (files Records)
