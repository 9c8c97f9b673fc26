-- What a call of a device leaves.
use Rattle.std.specs.Prelude.{◌≡◌, ◌⊎◌, ℕ, ◌<◌, Bool, true, List, length, Some, Result, IsErrOf, MatchResult, OnErr, OnOk}
use Rattle.oram_nbd.specs.Beside.{Arrays}
use Rattle.oram_nbd.specs.Bytes.{IsBegun, written}
use Rattle.oram_nbd.specs.declared.faults.DiskFault.{DiskFault}
use Rattle.oram_nbd.specs.declared.faults.DiskFault.TheVariants.{Failed, Stopped}

-- a device that held an array fails only in a world that may lie
abbrev pub FailsByLies : {T : Type 0} → Result T DiskFault → Bool → Type 0
FailsByLies result may_lie = IsErrOf result Failed → may_lie ≡ true

-- What is kept of a call that has done all that it was asked for: the next process would hold what the device holds now. Or the
-- call touched nothing, and left all as it was.
pub record SavesAll {A : Type 0} (touched : Type 0) (old new : Arrays A) : Type 0 where
  pub either : (new.saved ≡ Some new.held) ⊎ ((touched → ⊥) × (new ≡ old))

-- What is kept of a call that has failed: what was saved before, or else one of the arrays that `begun` gives, which are
-- those that a beginning of the call leaves.
pub record SavesPart {A : Type 0} (begun : A → A → Type 0) (old new : Arrays A) : Type 0 where
  pub either : (new.saved ≡ old.saved) ⊎ ((part : A) × begun old.held part × (new.saved ≡ Some part))

-- what is kept of a call, by its result
abbrev pub Saves : {T A : Type 0} → Result T DiskFault → Type 0 → (A → A → Type 0) → Arrays A → Arrays A → Type 0
Saves result touched begun old new = MatchResult result (λ _. SavesAll touched old new) (λ _. SavesPart begun old new)

-- A call that writes bytes leads from one array to another: all of them are written, or after an error some of them, from the
-- first one on. What is kept has all of them too, or some.
abbrev pub Writes : {T : Type 0} → ℕ → List ℕ → Result T DiskFault → Bool → Arrays (List ℕ) → Arrays (List ℕ) → Type 0
Writes at bytes result may_lie old new =
    OnOk result (new.held ≡ written old.held at bytes) × OnErr result (IsBegun old.held at bytes new.held) × FailsByLies result may_lie
    × Saves result (0 < length bytes) (λ before part. IsBegun before at bytes part) old new

-- A call that reads leads from an array to the same one.
abbrev pub Reads : {T : Type 0} → Type 0 → Result T DiskFault → Arrays (List ℕ) → Arrays (List ℕ) → Type 0
Reads touched result old new = (new.held ≡ old.held) × Saves result touched (λ before part. part ≡ before) old new

-- For a device whose blocks have `block_len` bytes, and which has `size` bytes in all. `failed` says that it has failed.
module _ {D : Type 0} (block_len size : D → ℕ) (failed : D → Type 0) where
  -- The device has the same shape. One that had failed has still failed.
  pub record Stays (old new : D) : Type 0 where
    pub same_block_len : block_len new ≡ block_len old
    pub same_size : size new ≡ size old
    pub still_failed : failed old → failed new

  -- A call with this result led from one state of the device to another, and its error is true: a device that reports a
  -- failure has failed, and a device that reports a stop has met what `stopped` says.
  pub record IsCall {T : Type 0} (stopped : Type 0) (old : D) (result : Result T DiskFault) (new : D) : Type 0 where
    pub stays : Stays old new
    pub has_failed : IsErrOf result Failed → failed new
    pub has_stopped : IsErrOf result Stopped → stopped
