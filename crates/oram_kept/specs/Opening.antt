-- The outcomes of opening the files of a text.
use Rattle.std.specs.Prelude.{◌≡◌, ◌⊎◌, List, Result, IfErr, IsErrOf}
use Rattle.oram_redo.specs.FilePair.{ComesAfter, Contents, FileModel, HasFailed, LeavesOnly, WritesNothing}
use Rattle.oram_redo.specs.Log.{HasOddGate, Patch}
use Rattle.oram_redo.specs.Redo.{IsCrashConsistent}
use Rattle.oram_redo.specs.declared.faults.RedoError.TheVariants.{Damaged, Failed, Memory}
use Rattle.oram_redo.specs.declared.file_pair.FileKind.TheVariants.{Log}
use Rattle.oram_redo.specs.declared.redo.Redo.{Redo}
use Rattle.oram_kept.specs.Kept.{Finds, bounds}
use Rattle.oram_kept.specs.Text.{Parts}
use Rattle.oram_kept.specs.declared.opening.OpenError.{OpenError}
use Rattle.oram_kept.specs.declared.opening.OpenError.TheVariants.{Files, NoText}

-- Files that are those of no text.
abbrev pub FindsNone : Contents → Type 0
FindsNone c = (p : Parts) → Finds bounds p c → ⊥

-- two pairs of files have the same text, if they have one
abbrev pub FindsSame : Contents → Contents → Type 0
FindsSame old new = (p : Parts) → Finds bounds p old → Finds bounds p new

-- A reading writes nothing, and fails only for want of memory or because a call of the files has failed.
pub record ReadsText {F T : Type 0} (model : FileModel F) (redo : Redo) (result : Result T OpenError) (old new : F) : Type 0 where
  pub consistent : (loose : List Patch) → IsCrashConsistent model redo loose old → IsCrashConsistent model redo loose new
  pub nothing_written : WritesNothing model old new
  pub after : ComesAfter model old new
  pub failed : IsErrOf result (Files Failed) → HasFailed model old new
  pub errors : IfErr result (λ e. (e ≡ Files Memory) ⊎ (e ≡ Files Failed) ⊎ (e ≡ NoText))

-- Files were not opened, for this reason. `new` is what they are when they are dropped.
pub record IsNotOpened {F : Type 0} (model : FileModel F) (why : OpenError) (old new : F) : Type 0 where
  pub after : ComesAfter model old new
  pub any_moment : model.is_honest new → LeavesOnly model old new (λ c. model.may_leave old c ⊎ FindsSame (model.seen old) c)
  pub none : why ≡ NoText → model.is_honest new → FindsNone (model.seen old)
  -- the log is none, or the gate at its end is neither open nor shut
  pub damaged : why ≡ Files Damaged → model.is_honest new → (p : Parts) → Finds bounds p (model.seen old) → HasOddGate bounds (model.seen old Log)
  pub failed : why ≡ Files Failed → HasFailed model old new
  pub which : (why ≡ Files Memory) ⊎ (why ≡ Files Failed) ⊎ (why ≡ Files Damaged) ⊎ (why ≡ NoText)
