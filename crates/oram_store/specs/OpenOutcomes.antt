-- The outcomes of opening a pair of files.
use Rattle.std.specs.Prelude.{◌≡◌, ◌⊎◌, []}
use Rattle.oram_redo.specs.Content.{Content}
use Rattle.oram_redo.specs.FilePair.{ComesAfter, Contents, FileModel, HasFailed, LeavesOnly}
use Rattle.oram_redo.specs.Log.{HasOddGate, StandsAlike, StandsFor}
use Rattle.oram_redo.specs.Redo.{IsCrashConsistent}
use Rattle.oram_redo.specs.declared.file_pair.FileKind.TheVariants.{Log, Records}
use Rattle.oram_redo.specs.declared.redo.Redo.{Redo}
use Rattle.oram_layout.specs.BucketFile.{IsBucketFile}
use Rattle.oram_layout.specs.Header.{HasTrees}
use Rattle.oram_layout.specs.Trees.{AreApart, Trees}
use Rattle.oram_store.specs.RecordFile.{bounds}
use Rattle.oram_store.specs.declared.faults.StoreFault.{StoreFault}
use Rattle.oram_store.specs.declared.faults.StoreFault.TheVariants.{Damaged, Io, LogDamaged, OutOfMemory}

-- The new files hold what the old ones stood for, even after a crash, and `trees` are the trees of the header.
pub record IsOpened {F : Type 0} (model : FileModel F) (redo : Redo) (trees : Trees) (old new : F) : Type 0 where
  pub stands : StandsFor bounds [] (model.seen new Records) (model.seen old)
  pub consistent : IsCrashConsistent model redo [] new
  pub trees_stand : HasTrees trees (model.seen new Records)
  pub apart : AreApart trees

-- A crash while files are opened leaves what an earlier crash might have left, or files that stand for the same
-- content.
abbrev pub OpensAlike : {F : Type 0} → FileModel F → F → F → Type 0
OpensAlike model old new = LeavesOnly model old new (λ c. model.may_leave old c ⊎ StandsAlike bounds (model.seen old) c)

-- no content that the files stand for is that of a bucket file
abbrev pub HoldsNoStore : Contents → Type 0
HoldsNoStore files = (trees : Trees) (c : Content) → StandsFor bounds [] c files → IsBucketFile trees c → ⊥

-- the files stand for no content, unless the gate at their log's end is neither open nor shut
abbrev pub HoldsNoneUnlessOdd : Contents → Type 0
HoldsNoneUnlessOdd files = (c : Content) → StandsFor bounds [] c files → HasOddGate bounds (files Log)

-- Files were not opened, for this reason. `new` is what they are when they are dropped.
pub record IsNotOpened {F : Type 0} (model : FileModel F) (why : StoreFault) (old new : F) : Type 0 where
  pub after : ComesAfter model old new
  pub any_moment : model.is_honest new → OpensAlike model old new
  pub damaged : why ≡ Damaged → model.is_honest new → HoldsNoStore (model.seen old)
  pub log_damaged : why ≡ LogDamaged → model.is_honest new → HoldsNoneUnlessOdd (model.seen old)
  pub failed : why ≡ Io → HasFailed model old new
  pub which : (why ≡ OutOfMemory) ⊎ (why ≡ Io) ⊎ (why ≡ Damaged) ⊎ (why ≡ LogDamaged)
