-- The process that begins with what is read back where another one has ended.
use Rattle.std.proofs.Common.{ℕ, List, refl, inl, inr}
use Rattle.oram_link_laws.specs.Runs.{Exchange}
use Rattle.oram_rounds.specs.Batches.{BatchOutcome}
use Rattle.oram_rounds.specs.Process.{IsSafe, begun}
use Rattle.oram_rounds.proofs.KeptText.{one_process}
use Rattle.oram_rounds.proofs.Safety.{begun_is_safe, ends_are_safe}
use Rattle.oram_volume.specs.Blocks.{IsLaidOut}
use Rattle.oram_volume.specs.HeldArrays.{HoldsBytes}
use Rattle.oram_volume.specs.NextProcess.{BegunDevicesHold, KeptBytesOutlast, host_of, next_process}
use Rattle.oram_volume.proofs.HeldArrays.{Nothing}

pub begun_devices_hold : (B K : Type 0) → BegunDevicesHold B K
begun_devices_hold B K may_lie v file host before array bytes_before bytes device k laid_before laid stores core is words inner keeper =
    let same = one_process v.cipher.overhead v.device v.device file k.stores stores k.core core k.file is in
    elim (begun_is_safe B {K = K} Nothing may_lie v inner stores core keeper file host before array k same.0 same.2 (λ other back. absurd back)) [
      | inl safe ↦ inl (holds before bytes_before safe laid_before)
      | inr safe ↦ inr (holds array bytes safe laid)
    ]
  where
    holds : (now : ℕ → List ℕ) (held : List ℕ) → IsSafe may_lie v {B = B} {K = K} Nothing (begun inner v stores core keeper) host now now → IsLaidOut v.device now held
        → HoldsBytes may_lie (next_process v words inner stores core keeper) (host_of v host) held
    holds now held safe is_laid = record {
      array = now;
      holds = record { same = refl; device = device; same_device = safe.device; same_len = safe.record_len_is; will_hold = safe.live; ahead = safe.ahead };
      laid = is_laid;
    }

pub kept_bytes_outlast : {B K : Type 0} (batches : B → List (List ℕ) → BatchOutcome → List Exchange → B → Type 0) (reads_back : K → List ℕ → Type 0) → KeptBytesOutlast batches reads_back
kept_bytes_outlast {B} {K} batches reads_back are may_lie p w saved bytes h act file exchanges after ends run stores core is words inner keeper =
    let k = ends_are_safe batches reads_back are may_lie p.scheme p.process act file exchanges w.host after h.before h.array h.keeps.device h.keeps.safe ends run in
    begun_devices_hold B K may_lie p.scheme file after h.before h.array saved bytes h.keeps.device k h.laid_before h.laid stores core is words inner keeper
