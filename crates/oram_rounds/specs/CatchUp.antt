-- A host that has STOREs of its client still to carry out, and what it will keep after them.
use Rattle.std.specs.Prelude.{◌≡◌, ◌≢◌, ◌⊎◌, ℕ, ◌≤◌, Bool, true, List, [], ◌∷◌, Ok}
use Rattle.std.specs.List.{FoldsTo}
use Rattle.sha2.specs.Sha256.{sha256}
use Rattle.oram_geometry.specs.Sizes.{depth_of}
use Rattle.oram_hash.specs.Path.{node_at, record_at}
use Rattle.oram_wire.specs.declared.host_messages.HostAnswer.{HostAnswer}
use Rattle.oram_wire.specs.declared.host_messages.HostAnswer.TheVariants.{Refused}
use Rattle.oram_host.specs.Host.{Host}
use Rattle.oram_host.specs.Service.{Serves}
use Rattle.oram_semantics.specs.Answers.{answered_path, is_payload}
use Rattle.oram_semantics.specs.Messages.{requested}
use Rattle.oram_semantics.specs.Moves.{records_after}
use Rattle.oram_semantics.specs.Scheme.{Scheme, record_len}
use Rattle.oram_host_laws.specs.Honest.{KeepsAll, KeepsTree}
use Rattle.oram_session.specs.Honesty.{IsHonestCall}
use Rattle.oram_session.specs.Outcome.{Outcome}
use Rattle.oram_link_laws.specs.Runs.{Exchange}
use Rattle.oram_rounds.specs.PathMessages.{ArePathStores}

-- the records at a host after these messages, the oldest first
abbrev pub left_by : Scheme → (ℕ → ℕ → List ℕ) → List (List ℕ) → ℕ → ℕ → List ℕ
left_by v records [] = records
left_by v records (body ∷ bodies) = left_by v (records_after v records (body ∷ [])) bodies

-- Once the host has carried out these STOREs, it keeps what `later` keeps.
pub record CatchesUp (v : Scheme) (host : Host) (stores : List (List ℕ)) (later : Host) : Type 0 where
  pub records : ℕ → ℕ → List ℕ
  pub keeps : KeepsAll v records host
  pub paths : ArePathStores v.device (record_len v) stores
  pub ahead : KeepsAll v (left_by v records stores) later

-- The answer to a FETCH has a record that isn't the one that the host keeps at that node, and has the same digest.
pub record ShowsTwin (v : Scheme) (host : Host) (message bytes : List ℕ) : Type 0 where
  pub payload : is_payload v (requested message) bytes ≡ true
  pub records : ℕ → List ℕ
  pub kept : KeepsTree v (requested message).tree records host
  pub level : ℕ
  pub within : level ≤ depth_of v.device (requested message).tree
  pub differs : record_at (answered_path v (requested message) bytes) level ≢ records (node_at (answered_path v (requested message) bytes) level)
  pub digest : sha256 (record_at (answered_path v (requested message) bytes) level) ≡ sha256 (records (node_at (answered_path v (requested message) bytes) level))

-- The message is answered with these bytes, whatever they are. An honest host receives it too, and has room for it. No
-- record of the answer has the digest of another record that this host keeps at its node.
pub record IsPlainLie (v : Scheme) (host : Host) (message bytes : List ℕ) (after : Host) : Type 0 where
  pub answer : HostAnswer
  pub heard : Serves host message answer after
  pub room : answer ≢ Refused 8
  pub apart : ¬ ShowsTwin v host message bytes

-- a call gives the honest host's answer, or a lie if the host may lie
abbrev pub IsPlainCall : Bool → Scheme → Host → List ℕ → Outcome → Host → Type 0
IsPlainCall may_lie v host body o after =
    IsHonestCall host body o after ⊎ ((may_lie ≡ true) × (bytes : List ℕ) × (o ≡ Ok bytes) × IsPlainLie v host body bytes after)

-- such calls, one after the other
abbrev pub PlainRun : Bool → Scheme → Host → List Exchange → Host → Type 0
PlainRun may_lie v host exchanges after = FoldsTo {P = Host} {A = Exchange} (λ h e g. IsPlainCall may_lie v h e.0 e.1 g) host exchanges after
