-- Texts that are kept one after the other, and which of them may be found.
use Rattle.std.specs.Prelude.{◌≡◌, ◌⊎◌, List, [], ◌∷◌, false}
use Rattle.oram_redo.specs.FilePair.{Contents, FileModel}
use Rattle.oram_kept.specs.Kept.{Finds, Keeps, KeptValue, bounds}
use Rattle.oram_kept.specs.Text.{Parts}

pub record KeeperValue (F : Type 0) : Type 0 where
  pub kept : KeptValue F
  pub texts : List Parts  -- those that may be found, the newest first

-- whoever opens these files finds one of these texts
abbrev pub FindsOneOf : List Parts → Contents → Type 0
FindsOneOf [] c = ⊥
FindsOneOf (p ∷ ps) c = Finds bounds p c ⊎ FindsOneOf ps c

-- A crash leaves files with one of the texts that are noted. While no call has failed, that is one text.
pub record Knows {F : Type 0} (model : FileModel F) (k : KeeperValue F) : Type 0 where
  pub found : (c : Contents) → model.may_leave k.kept.files c → FindsOneOf k.texts c
  pub one : k.kept.has_stopped ≡ false → (p : Parts) × (k.texts ≡ p ∷ []) × Keeps model p k.kept
