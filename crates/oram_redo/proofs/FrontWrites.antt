-- What a write into the front of a file owes.
use Rattle.std.proofs.Common.{◌≡◌, ◌⊎◌, inl, ℕ, true, List, [], ◌∷◌, subst, Result, Ok, Err}
use Rattle.std.specs.Prelude.{OnOk}
use Rattle.oram_redo.specs.FilePair.{Wrote}
use Rattle.oram_redo.specs.Fronts.{HasFailedLast, SaysLast, WroteFront, WroteWithLength}
use Rattle.oram_redo.specs.Length.{SaysLength}
use Rattle.oram_redo.specs.Note.{Call}
use Rattle.oram_redo.specs.System.{seen_after}
use Rattle.oram_redo.specs.declared.file_pair.FileKind.{FileKind}
use Rattle.oram_redo.specs.declared.file_pair.FileKind.TheVariants.{Records, Log}
use Rattle.oram_redo.specs.declared.length.TheConstants.{LENGTH_AT}

-- what follows from success
pub on_ok_then : {T E : Type 0} (result : Result T E) (P Q : Type 0) → (P → Q) → OnOk result P → OnOk result Q
on_ok_then (Ok x) P Q follows holds = follows holds
on_ok_then (Err e) P Q follows holds = tt

-- the length was asked for, and then written
pub says_last : (calls later old mid new : List Call) (len : ℕ) (field : List ℕ) → later ≡ record { kind = 4; file = Records; at = len; is_ok = true; bytes = [] } ∷ calls → mid ≡ old → SaysLength field len
    → WroteFront Records LENGTH_AT field mid new → SaysLast calls later old new ⊎ HasFailedLast new
says_last calls later old mid new len field is same says written = inl (record {
  len = len;
  asked = is;
  field = field;
  says = says;
  written = λ first. subst (λ (l : List Call). Wrote Records LENGTH_AT field (seen_after first l) (seen_after first new)) same (written first);
})

-- the caller's bytes, and then the length
pub records_written : (file : FileKind) (at : ℕ) (bytes : List ℕ) (calls between later old mid new : List Call) → file ≡ Records → between ≡ calls → WroteFront file at bytes old mid → SaysLast between later mid new ⊎ HasFailedLast new
    → WroteWithLength file at bytes calls later old new
records_written Records at bytes calls between later old mid new is same written said = (mid, written, subst (λ (l : List Call). SaysLast l later mid new ⊎ HasFailedLast new) same said)
records_written Log at bytes calls between later old mid new is same written said = absurd (other is)
  where
    other : Log ≡ Records → ⊥
    other e = cc

pub log_written : (file : FileKind) (at : ℕ) (bytes : List ℕ) (calls later old new : List Call) → file ≡ Log → WroteFront file at bytes old new → WroteWithLength file at bytes calls later old new
log_written Log at bytes calls later old new is written = written
log_written Records at bytes calls later old new is written = absurd (other is)
  where
    other : Records ≡ Log → ⊥
    other e = cc
