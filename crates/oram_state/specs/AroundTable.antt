-- The fields of a core are those before its table, the table, and those after it.
use Rattle.std.specs.Prelude.{◌≡◌, ℕ, List, Option, Some, None}
use Rattle.oram_geometry.specs.declared.Sizes.{Sizes}
use Rattle.oram_semantics.specs.State.{State}
use Rattle.oram_semantics.specs.declared.events.Reason.{Reason}
use Rattle.oram_core.specs.Parts.{parts_of}
use Rattle.oram_state.specs.DecodedCore.{AreSavedFields}
use Rattle.oram_state.specs.StateBytes.{after_text, before_text, with_table}

-- the fields of a core before its table, if its sealer has this overhead
abbrev pub before_table : ℕ → Sizes → State → List ℕ
before_table overhead d s = before_text overhead (parts_of d s)

-- and those after it
abbrev pub after_table : Sizes → State → List ℕ
after_table d s = after_text (parts_of d s)

-- how many bytes stand before the table: four more if they say why the core failed
abbrev pub before_len : Option Reason → ℕ
before_len None = 45
before_len (Some why) = 49

-- So these three are the fields of the core.
abbrev pub FieldsAreAroundTable : Type 0
FieldsAreAroundTable = (text : List ℕ) (overhead : ℕ) (d : Sizes) (s : State) → AreSavedFields text overhead d s
    → text ≡ with_table (before_table overhead d s) s.table (after_table d s)
