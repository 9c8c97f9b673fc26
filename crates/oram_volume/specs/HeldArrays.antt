-- What a process of a device holds, beside a host.
use Rattle.std.specs.Prelude.{◌≡◌, ℕ, Bool, List, []}
use Rattle.oram_bucket.specs.Cipher.{Cipher}
use Rattle.oram_core.specs.Core.{scheme_of}
use Rattle.oram_geometry.specs.Sizes.{IsDevice}
use Rattle.oram_host.specs.Host.{Host}
use Rattle.oram_semantics.specs.Scheme.{Scheme, record_len}
use Rattle.oram_semantics.specs.State.{State}
use Rattle.oram_session.specs.CoreWork.{HasNoWork}
use Rattle.oram_link_laws.specs.Runs.{Exchange, IsHeldBy}
use Rattle.oram_rounds.specs.CatchUp.{IsPlainCall}
use Rattle.oram_rounds.specs.Law.{AreAhead}
use Rattle.oram_rounds.specs.Process.{IsSafe, Process, begun, process}
use Rattle.oram_rounds.specs.Rounds.{waiting}
use Rattle.oram_rounds.specs.Service.{WillHoldAfter}
use Rattle.oram_volume.specs.Blocks.{IsLaidOut}
use Rattle.oram_volume.specs.Parts.{VolumeParts as Volume}

-- a host, and the scheme of the device beside which it stands
pub record HostBeside : Type 0 where
  pub scheme : Scheme
  pub host : Host

-- an exchange leads the host from one state to another
abbrev pub HostHears : Bool → HostBeside → Exchange → HostBeside → Type 0
HostHears may_lie w e later = (later.scheme ≡ w.scheme) × IsPlainCall may_lie w.scheme w.host e.0 e.1 later.host

-- a process, the scheme of its device, and the words of its tape
pub record Running (B K : Type 0) : Type 0 where
  pub scheme : Scheme
  pub words : ℕ → ℕ → List ℕ
  pub process : Process B K

-- the process of a volume, its scheme by the cipher of its sealer, and the words of its tape
abbrev pub running : {S B K T : Type 0} → (S → Cipher) → (T → ℕ → ℕ → List ℕ) → Volume S B K T → Running B K
running cipher words d = record { scheme = scheme_of cipher d.core; words = words d.tape; process = process d.core.state d.link d.keeper }

-- Beside this host the device holds the array; or it will, once the commands that wait are carried out. If the host may
-- lie, the device may also have failed.
pub record HoldsArray {B K : Type 0} (may_lie : Bool) (p : Running B K) (w : HostBeside) (array : ℕ → List ℕ) : Type 0 where
  pub same : w.scheme ≡ p.scheme
  pub device : IsDevice p.scheme.device
  pub same_device : p.process.link.device ≡ p.scheme.device
  pub same_len : p.process.link.record_len ≡ record_len p.scheme
  pub will_hold : WillHoldAfter may_lie p.scheme p.process.core (waiting p.process.link) w.host array
  pub ahead : AreAhead may_lie p.scheme w.host p.process.link

-- it holds the array that has these bytes
pub record HoldsBytes {B K : Type 0} (may_lie : Bool) (p : Running B K) (w : HostBeside) (bytes : List ℕ) : Type 0 where
  pub array : ℕ → List ℕ
  pub holds : HoldsArray may_lie p w array
  pub laid : IsLaidOut p.scheme.device array bytes

-- Beside this host the process holds the array. The next process will hold it too, or the one before, whatever is read back
-- from the keeper. While no command is at work, the two are one array.
pub record KeepsArray {B K : Type 0} (reads_back : K → List ℕ → Type 0) (may_lie : Bool) (p : Running B K) (w : HostBeside) (before array : ℕ → List ℕ) : Type 0 where
  pub same : w.scheme ≡ p.scheme
  pub device : IsDevice p.scheme.device
  pub safe : IsSafe may_lie p.scheme reads_back p.process w.host before array
  pub no_work : HasNoWork p.process.core → before ≡ array

-- the arrays that have these bytes
pub record KeepsBytes {B K : Type 0} (reads_back : K → List ℕ → Type 0) (may_lie : Bool) (p : Running B K) (w : HostBeside) (saved bytes : List ℕ) : Type 0 where
  pub before : ℕ → List ℕ
  pub array : ℕ → List ℕ
  pub keeps : KeepsArray reads_back may_lie p w before array
  pub laid_before : IsLaidOut p.scheme.device before saved
  pub laid : IsLaidOut p.scheme.device array bytes

-- A process that begins with a device as a host keeps it between two requests holds the bytes of its array beside that host,
-- whether it may lie from then on or not.
abbrev pub HeldDevicesHold : Type 0 → Type 0 → Type 0
HeldDevicesHold B K = (may_lie : Bool) (v : Scheme) (words : ℕ → ℕ → List ℕ) (inner : B) (core : State) (keeper : K) (host : Host) (array : ℕ → List ℕ) (bytes : List ℕ) → IsDevice v.device
    → IsHeldBy v core host array → IsLaidOut v.device array bytes
    → HoldsBytes may_lie (record { scheme = v; words = words; process = begun inner v [] core keeper }) (record { scheme = v; host = host }) bytes
