-- What the definitions about connections need to know of a device.
use Rattle.std.specs.Prelude.{ℕ, Bool, List}

-- A kind of device, in the words of the trait `BlockDevice`: the sizes of such a device, whether it has failed, the blocks
-- that a call asks for, the events of its calls, how the world beside it changes at an event, and the arrays that it holds and keeps beside that world.
pub record DeviceKind (D W E : Type 0) : Type 1 where
  pub block_len : D → ℕ
  pub size : D → ℕ
  pub failed : D → Type 0
  pub asked : D → List ℕ → D → Type 0
  pub had : D → List E → D → Type 0
  pub hears : Bool → W → E → W → Type 0
  pub holds : Bool → D → W → List ℕ → Type 0
  pub kept : Bool → D → W → List ℕ → List ℕ → Type 0

abbrev pub device_kind : {D W E : Type 0} → (D → ℕ) → (D → ℕ) → (D → Type 0) → (D → List ℕ → D → Type 0) → (D → List E → D → Type 0) → (Bool → W → E → W → Type 0) → (Bool → D → W → List ℕ → Type 0)
    → (Bool → D → W → List ℕ → List ℕ → Type 0) → DeviceKind D W E
device_kind block_len size failed asked had hears holds kept =
    record { block_len = block_len; size = size; failed = failed; asked = asked; had = had; hears = hears; holds = holds; kept = kept }
