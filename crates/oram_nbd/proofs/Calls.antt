-- Calls of a device, one after another.
use Rattle.std.proofs.Common.{ℕ, Result, Ok, refl, ◌∙◌}
use Rattle.oram_nbd.specs.Beside.{IsStopped}
use Rattle.oram_nbd.specs.Calls.{IsCall, Stays}
use Rattle.oram_nbd.specs.declared.faults.DiskFault.{DiskFault}

module _ {D : Type 0} {block_len size : D → ℕ} {failed : D → Type 0} where
  -- A device that wasn't called stays as it is.
  pub at_rest : (d : D) → Stays block_len size failed d d
  at_rest d = record { same_block_len = refl; same_size = refl; still_failed = λ h. h }

  -- What stays from a first state to a second one, and from there to a third, stays from the first to the third.
  pub stays_on : {old mid new : D} → Stays block_len size failed old mid → Stays block_len size failed mid new → Stays block_len size failed old new
  stays_on first second = record {
    same_block_len = second.same_block_len ∙ first.same_block_len;
    same_size = second.same_size ∙ first.same_size;
    still_failed = λ h. second.still_failed (first.still_failed h);
  }

  module _ {T stopped : Type 0} {old new : D} where
    -- Where a function returns no error, there is no fault to tell of.
    pub done : {x : T} → Stays block_len size failed old new → IsCall block_len size failed stopped old (Ok x) new
    done stays = record { stays = stays; has_failed = λ e. cc; has_stopped = λ e. cc }

    -- Calls that were made before are part of the call.
    pub after : {mid : D} {r : Result T DiskFault} → Stays block_len size failed old mid → IsCall block_len size failed stopped mid r new → IsCall block_len size failed stopped old r new
    after first call = record { stays = stays_on first call.stays; has_failed = call.has_failed; has_stopped = call.has_stopped }

  -- A device says of its own call in which state the call began. A function above it only says that there is one.
  pub met : (stops : D → D → Type 0) {T : Type 0} {old new : D} {r : Result T DiskFault} → IsCall block_len size failed (stops old new) old r new →
      IsCall block_len size failed (IsStopped stops new) old r new
  met stops {old = old} call = record { stays = call.stays; has_failed = call.has_failed; has_stopped = λ e. (old, call.has_stopped e) }
