-- What a store has that is opened again after a crash.
use Rattle.std.specs.Prelude.{◌≡◌, List, [], ◌++◌}
use Rattle.oram_redo.specs.Content.{Content}
use Rattle.oram_redo.specs.FilePair.{Contents, FileModel}
use Rattle.oram_redo.specs.Log.{StandsFor}
use Rattle.oram_layout.specs.BucketFile.{IsBucketFile}
use Rattle.oram_layout.specs.Records.{AreKept, records_in}
use Rattle.oram_layout.specs.Trees.{Trees}
use Rattle.oram_store.specs.GroupRuns.{FoundAtBorder, Group}
use Rattle.oram_store.specs.KeptRecords.{Holds, IsSound, StoreValue, records_of}
use Rattle.oram_store.specs.RecordFile.{bounds}

-- A store was opened over these files, as `FileStore::over` does it: it has the trees and the records of a bucket file that they stand for.
abbrev pub IsOpenedOver : {F : Type 0} → FileModel F → Contents → StoreValue F → Type 0
IsOpenedOver model files again = (trees : Trees) (c : Content) → StandsFor bounds [] c files → IsBucketFile trees c
    → (again.trees ≡ trees) × IsSound model again × AreKept (records_in trees c) (records_of model again)

-- A store that was opened again has what was found at a border of these groups: after all of the first ones, and some of the others.
pub record IsFoundAgain {F : Type 0} (model : FileModel F) (first others : List Group) (old again : StoreValue F) : Type 0 where
  pub content : Content
  pub found : FoundAtBorder model (first ++ others) old content
  pub later : List Group
  pub all_first : found.first ≡ first ++ later
  pub has : Holds again.trees (records_of model again) content
  pub sound : IsSound model again
