-- Laws of the definitions.
use Rattle.std.specs.Prelude.{◌≡◌}
use Rattle.oram_redo.specs.FilePair.{Contents, FileModel, IsSure}
use Rattle.oram_redo.specs.declared.file_pair.FileKind.{FileKind}
use Rattle.oram_redo.specs.declared.file_pair.FileKind.TheVariants.{Log, Records}
use Rattle.oram_kept.specs.Kept.{Finds, bounds}
use Rattle.oram_redo.specs.Content.{Content}
use Rattle.oram_kept.specs.Layout.{Holds}
use Rattle.oram_kept.specs.Text.{Parts}

-- A content holds at most one text.
abbrev pub TextsAreOne : Type 0
TextsAreOne = (p q : Parts) (c : Content) → Holds p c → Holds q c → p ≡ q

-- Files hold a text, the first gate of their log is shut, so that it has no entries, and both are synced. Then a crash leaves files with the text.
abbrev pub WrittenFilesHold : {F : Type 0} → FileModel F → Type 0
WrittenFilesHold {F} model = (files : F) (p : Parts) → Holds p (model.seen files Records) → model.seen files Log bounds.log_start ≡ 15
    → ((file : FileKind) → IsSure model file files) → (c : Contents) → model.may_leave files c → Finds bounds p c
