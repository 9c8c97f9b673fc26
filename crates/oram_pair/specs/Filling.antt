-- What new files hold, before they are filled and after that.
use Rattle.std.specs.Prelude.{◌≡◌, ◌<◌, ℕ, [], ◌∷◌, length}
use Rattle.oram_redo.specs.Content.{Agrees, put}
use Rattle.oram_redo.specs.FilePair.{Contents, FileModel, IsSure}
use Rattle.oram_redo.specs.declared.file_pair.FileKind.{FileKind}
use Rattle.oram_redo.specs.declared.file_pair.FileKind.TheVariants.{Records, Log}
use Rattle.oram_pair.specs.Fronts.{front_bytes}
use Rattle.oram_pair.specs.declared.format.PairFormat.{PairFormat}
use Rattle.oram_pair.specs.declared.fronts.Identity.{Identity}

-- Each file begins with its letters and the identity, and the first gate of the log is shut. Everything else is zeros.
pub record AreNew (format : PairFormat) (identity : Identity) (files : Contents) : Type 0 where
  pub whole : length identity.0 ≡ 16
  pub records : Agrees (files Records) (put (front_bytes format.letters.records identity) 0 (λ i. 0))
  pub log : Agrees (files Log) (put (15 ∷ []) format.bounds.log_start (put (front_bytes format.letters.log identity) 0 (λ i. 0)))

-- Both fronts, all bytes before the place where the log's entries begin, are as they were.
abbrev pub KeepsFronts : PairFormat → Contents → Contents → Type 0
KeepsFronts format old new = (file : FileKind) (i : ℕ) → i < format.bounds.log_start → new file i ≡ old file i

-- A filling has kept the fronts, and the first gate of its log is shut: the log has no entries.
pub record IsFilling (format : PairFormat) (old new : Contents) : Type 0 where
  pub fronts : KeepsFronts format old new
  pub shut : new Log format.bounds.log_start ≡ 15

-- These files were new, and then they were filled in this way.
pub record AreFilled (format : PairFormat) (identity : Identity) (Fills : Contents → Contents → Type 0) (files : Contents) : Type 0 where
  pub new : Contents
  pub are_new : AreNew format identity new
  pub kept : IsFilling format new files
  pub filled : Fills new files

-- A pair's files were filled in this way, and a crash leaves them so.
pub record IsFilledPair {F : Type 0} (model : FileModel F) (format : PairFormat) (identity : Identity) (Fills : Contents → Contents → Type 0) (files : F) : Type 0 where
  pub filled : AreFilled format identity Fills (model.seen files)
  pub sure : (file : FileKind) → IsSure model file files
