-- A whole connection: its handshake, and then its requests.
use Rattle.std.specs.Prelude.{◌≡◌, ◌⊎◌, ℕ, List, nat_le, ◌&&◌, if◌then◌else◌}
use Rattle.std.specs.Int.{is_power_of_two}
use Rattle.oram_nbd.specs.DeviceKind.{DeviceKind}
use Rattle.oram_nbd.specs.Handshake.{export_value, ExportValue}
use Rattle.oram_nbd.specs.Negotiation.{HasAgreed, StopsNegotiating}
use Rattle.oram_nbd.specs.Streams.{Streams}
use Rattle.oram_nbd.specs.Transmission.{HasTransmitted, StopsServing}
use Rattle.oram_nbd.specs.declared.TheConstants.{LONGEST_PAYLOAD}
use Rattle.oram_nbd.specs.declared.connection.TheConstants.{LEAST_PREFERRED, DEFAULT_PREFERRED, GREATEST_MINIMUM}
use Rattle.oram_nbd.specs.declared.faults.NbdFault.{NbdFault}
use Rattle.oram_nbd.specs.declared.handshake.Agreement.TheVariants.{Transmission, Gone}

-- the preferred number of bytes of a request: that of a block, if it is a power of two that clients accept
abbrev pub preferred_of : ℕ → ℕ
preferred_of len = if is_power_of_two len && nat_le LEAST_PREFERRED len && nat_le len LONGEST_PAYLOAD then len else DEFAULT_PREFERRED

-- the least number of bytes of a request: that of a block, if the protocol has it as a minimum
abbrev pub minimum_of : ℕ → ℕ
minimum_of len = if is_power_of_two len && nat_le len GREATEST_MINIMUM then len else 1

-- For a device of this kind, whose export has the name `name`. It goes from one state to another beside a world.
module _ {D W E : Type 0} (kind : DeviceKind D W E) (old new : D) (name : List ℕ) where
  -- what the server says about the device
  abbrev pub its_export : ExportValue
  its_export = export_value name (kind.size old) (minimum_of (kind.block_len old)) (preferred_of (kind.block_len old))

  -- The client left in the handshake; or requests followed, and `count` of them were answered.
  abbrev pub HasConnected : ℕ → Streams → Streams → Type 0
  HasConnected count before after =
      (HasAgreed its_export Gone before after × (count ≡ 0) × (new ≡ old))
      ⊎ ((mid : Streams) × HasAgreed its_export Transmission before mid × HasTransmitted kind old new count mid after)

  -- The connection stopped in the handshake, and the device was left as it was; or it stopped after the handshake.
  abbrev pub StopsConnection : NbdFault → Streams → Streams → Type 0
  StopsConnection fault before after =
      (StopsNegotiating its_export fault before after × (new ≡ old))
      ⊎ ((mid : Streams) × HasAgreed its_export Transmission before mid × StopsServing kind old new fault mid after)
