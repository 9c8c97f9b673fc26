-- A link that asks its host whether it keeps the disk, and the link for whole paths over it.
use Rattle.std.specs.Prelude.{◌≡◌, ℕ, List, [], ◌∷◌, ◌⊎◌, drop, length, string_bytes, Err, IsErrAnd, IsOk, MatchBool, MatchResult, Some, Result}
use Rattle.oram_client.specs.Dialer.{lacks_memory}
use Rattle.oram_client.specs.Reconnect.{DialerKind, IsReached, ReconnectBatch, ReconnectState}
use Rattle.oram_client.specs.declared.dialer.Trouble.{Trouble}
use Rattle.oram_disk_client.specs.Faults.{IsAbout}
use Rattle.oram_disk_client.specs.FormattedWith.{HasNearLevels, HasNoNearLevels}
use Rattle.oram_disk_client.specs.Serving.{IsHostFault}
use Rattle.oram_disk_host.specs.declared.faults.Fault.{Fault}
use Rattle.oram_disk_host.specs.declared.faults.Fault.TheVariants.{OutOfMemory}
use Rattle.oram_disk_host.specs.declared.kinds.FaultKind.TheVariants.{DamagedState, NotADisk}
use Rattle.oram_geometry.specs.Sizes.{record_len_of}
use Rattle.oram_geometry.specs.declared.Sizes.{Sizes}
use Rattle.oram_link_laws.specs.Runs.{Exchange}
use Rattle.oram_near.specs.ComingAnswers.{no_coming}
use Rattle.oram_near.specs.EmptyRecords.{WithRest}
use Rattle.oram_near.specs.FormattedRecords.{SealedDevice}
use Rattle.oram_near.specs.Near.{nothing_noted}
use Rattle.oram_near.specs.NearCalls.{NearValue, TakesUnsure}
use Rattle.oram_near.specs.NearLevels.{near_len}
use Rattle.oram_rounds.specs.Batches.{BatchOutcome}
use Rattle.oram_rounds.specs.PathMessages.{ArePathStores}
use Rattle.oram_settings.specs.declared.disk_file.DiskSettings.{DiskSettings}

-- The link passed one message, which has no bytes, and this is what it learnt of its host.
pub record HasAsked {D L A : Type 0} (kind : DialerKind D L) (l : ReconnectState D L) (asked : Result A Trouble) (m : ReconnectState D L) : Type 0 where
  pub outcome : BatchOutcome
  pub exchanges : List Exchange
  pub passed : ReconnectBatch kind l ([] ∷ []) outcome exchanges m
  pub reached : IsReached outcome m.trouble asked

-- The program's result for what the link learnt: it goes on only if the host has answered.
abbrev pub IsHostCheck : {A B : Type 0} → Result A Trouble → DiskSettings → Result B Fault → Type 0
IsHostCheck asked settings result =
    MatchResult result (λ _. IsOk asked)
    (λ fault. IsErrAnd asked (λ trouble. MatchBool (lacks_memory trouble) (fault ≡ OutOfMemory) (IsHostFault (Some trouble) settings fault)))

-- The link asked, and the program ends with this fault for what it learnt.
abbrev pub EndsAsked : {D L : Type 0} → DialerKind D L → ReconnectState D L → DiskSettings → Fault → Type 0
EndsAsked {D} {L} kind l settings fault =
    (asked : Result (Unit {0}) Trouble) × (m : ReconnectState D L) × HasAsked kind l asked m × IsHostCheck {B = Unit {0}} asked settings (Err fault)

-- The fault for what a state has beside the core of a device, if no link for whole paths can be made of it: no number of near levels gives so
-- many bytes of records, or one of the STOREs isn't that of a whole path of the device.
abbrev pub HasNoLink : Sizes → ℕ → ℕ → List (List ℕ) → DiskSettings → Fault → Type 0
HasNoLink device overhead records stores settings fault =
    (HasNoNearLevels device overhead records × IsAbout DamagedState (string_bytes settings.state) fault)
    ⊎ ((¬ ArePathStores device (record_len_of device overhead) stores) × IsAbout NotADisk (string_bytes settings.state) fault)

-- A link for whole paths over another link, before the STOREs that wait are laid over its near records: these are the ones that were kept, and
-- none of them counts as changed. Behind them lie the digests of the disk's formatting.
abbrev pub link_at_first : {B S : Type 0} → B → Sizes → S → ℕ → ℕ → List ℕ → NearValue B (WithRest (SealedDevice S))
link_at_first inner device sealer record_len levels records = record {
  inner = inner;
  empty = record { maker = record { device = device; sealer = sealer }; rest = drop (near_len levels record_len) records };
  device = device;
  near = record { levels = levels; record_len = record_len; bytes = records; noted = nothing_noted };
  unsure = [];
  coming = no_coming;
}

-- A link for whole paths of a process that was kept with these records and STOREs, of a device whose sealed buckets have this overhead. It has
-- the near levels that the disk was formatted with. The STOREs are laid over its near records, and count as unsure: the host may or may not
-- have carried them out.
pub record IsPathLink {B S : Type 0} (device : Sizes) (sealer : S) (overhead : ℕ) (records : List ℕ) (stores : List (List ℕ)) (l : NearValue B (WithRest (SealedDevice S))) : Type 0 where
  pub levels : ℕ
  pub formatted : HasNearLevels device overhead (length records) levels
  pub takes : TakesUnsure (link_at_first l.inner device sealer (record_len_of device overhead) levels records) stores l
