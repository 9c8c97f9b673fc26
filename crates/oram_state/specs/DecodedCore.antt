-- The core that a file or its fields belong to, and why a text is the file of no core.
use Rattle.std.specs.Prelude.{◌≡◌, ◌⊎◌, ℕ, List, Ok, Err}
use Rattle.oram_geometry.specs.declared.Sizes.{Sizes}
use Rattle.oram_semantics.specs.State.{State}
use Rattle.oram_core.specs.Parts.{Parts, AreParts, state_of}
use Rattle.oram_state.specs.declared.fault.StateFault.{StateFault}
use Rattle.oram_state.specs.declared.fault.StateFault.TheVariants.{Magic, Version, Length, Digest, Content, OutOfMemory}
use Rattle.oram_state.specs.declared.saved.Saved.{Saved}
use Rattle.oram_state.specs.Parser.{state_in}
use Rattle.oram_state.specs.WellSized.{AreFieldsOf, IsFileOf}

-- the text is the file of parts that can be a core's under this overhead, and this is the core that they make
pub record IsSaved (text : List ℕ) (overhead : ℕ) (d : Sizes) (s : State) : Type 0 where
  pub version : ℕ
  pub parts : Parts
  pub file : IsFileOf text version overhead parts
  pub fits : AreParts overhead parts
  pub device : d ≡ parts.device
  pub state : s ≡ state_of parts

-- the text is the fields of parts that can be a core's under this overhead, and this is the core that they make
pub record AreSavedFields (text : List ℕ) (overhead : ℕ) (d : Sizes) (s : State) : Type 0 where
  pub parts : Parts
  pub fields : AreFieldsOf text overhead parts
  pub fits : AreParts overhead parts
  pub device : d ≡ parts.device
  pub state : s ≡ state_of parts

-- the text can be read, but it has another overhead, or parts that can't be a core's
pub record TellsOfNone (text : List ℕ) (overhead : ℕ) : Type 0 where
  pub saved : Saved
  pub reads : state_in text ≡ Ok saved
  pub none : ¬ ((saved.overhead ≡ overhead) × AreParts overhead saved.parts)

-- The first fault that reading meets. If reading meets none, but the parts can't be a core's, the fault is Content.
-- The fault OutOfMemory says nothing about the text.
abbrev pub IsFaultIn : List ℕ → ℕ → StateFault → Type 0
IsFaultIn text overhead Content = (state_in text ≡ Err Content) ⊎ TellsOfNone text overhead
IsFaultIn text overhead OutOfMemory = Unit {0}
IsFaultIn text overhead Magic = state_in text ≡ Err Magic
IsFaultIn text overhead Version = state_in text ≡ Err Version
IsFaultIn text overhead Length = state_in text ≡ Err Length
IsFaultIn text overhead Digest = state_in text ≡ Err Digest
