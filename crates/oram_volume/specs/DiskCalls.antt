-- What a volume does as a disk of bytes.
use Rattle.std.specs.Prelude.{ℕ, Bool, List, []}
use Rattle.oram_bucket.specs.Cipher.{Cipher}
use Rattle.oram_semantics.specs.declared.events.ReplyBody.{ReplyBody}
use Rattle.oram_semantics.specs.declared.events.ReplyBody.TheVariants.{Data, Done, Failed}
use Rattle.oram_link_laws.specs.Runs.{Exchange}
use Rattle.oram_nbd.specs.Beside.{GoesOn, Arrays, HasArrays}
use Rattle.oram_rounds.specs.Batches.{BatchOutcome}
use Rattle.oram_volume.specs.CarriedOut.{Had}
use Rattle.oram_volume.specs.HeldArrays.{HostHears, HoldsBytes, KeepsBytes, running}
use Rattle.oram_volume.specs.Parts.{VolumeParts as Volume}

-- the bytes of a reply
abbrev pub data_of : ReplyBody → List ℕ
data_of (Data bytes) = bytes
data_of Done = []
data_of Failed = []

-- The volume took steps from one state to another. Beside each host that goes through their exchanges, `step` leads from all
-- that was known of the volume before to what is known of it now.
abbrev pub VolumeGoesOn : {S B K T : Type 0} → (S → Cipher) → (T → ℕ → ℕ → List ℕ) → (B → List (List ℕ) → BatchOutcome → List Exchange → B → Type 0)
    → (K → List ℕ → Type 0) → Volume S B K T → (Bool → Arrays (List ℕ) → Arrays (List ℕ) → Type 0) → Volume S B K T → Type 0
VolumeGoesOn cipher words batches reads_back old step new =
    GoesOn (λ d events e. Had batches reads_back (running cipher words d) events (running cipher words e)) HostHears
    (HasArrays (λ may_lie d w bytes. HoldsBytes may_lie (running cipher words d) w bytes) (λ may_lie d w saved bytes. KeepsBytes reads_back may_lie (running cipher words d) w saved bytes)) old step new
