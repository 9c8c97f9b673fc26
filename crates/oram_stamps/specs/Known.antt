-- What a client knows of the two stamps that its host has.
use Rattle.std.specs.Prelude.{◌≡◌, ◌⊎◌, ℕ, ◌+◌, ◌-◌, ◌<◌, ◌≤◌, ◌^◌, max, min, List, [], ◌∷◌, ◌++◌, length, drop, slice_index_or, Option, Some, None}
use Rattle.std.specs.List.{slice_get}
use Rattle.oram_stamps.specs.declared.known.Mismatch.{Mismatch}
use Rattle.oram_stamps.specs.declared.known.Mismatch.TheVariants.{OlderState, OlderHost}
use Rattle.oram_stamps.specs.declared.stamp.Shown.{Shown}
use Rattle.oram_stamps.specs.declared.stamp.Stamp.{Stamp}

-- The keepings whose messages may have reached the host, oldest first. Each stands for all of its batches: its number is the least one that
-- a batch of it may have at the host. In this list stand the keeping that the host is known to have begun, and the one that it is known to
-- have done. `current` has the check of the last keeping, and the greatest number that a batch is known to have had.
pub record Stamps : Type 0 where
  pub may : List Stamp
  pub begun : ℕ
  pub done : ℕ
  pub current : Stamp

-- the first stamp of a disk, before its client has kept anything
abbrev pub first_stamp : Stamp
first_stamp = record { number = 0; check = 0 }

-- what is known once the host has begun and done the batch with this stamp, and nothing else is under way
abbrev pub settled : Stamp → Stamps
settled stamp = record { may = stamp ∷ []; begun = 0; done = 0; current = stamp }

-- the number after this one; the greatest number stays
abbrev pub next_number : ℕ → ℕ
next_number number = min (number + 1) (2 ^ 64 - 1)

-- the second stamp is of a batch of the same keeping, and not of an earlier batch: it has the same check, and no smaller number
abbrev pub Covers : Stamp → Stamp → Type 0
Covers first stamp = (stamp.check ≡ first.check) × (first.number ≤ stamp.number)

-- the keeping at this place of the list has a batch with this stamp
abbrev pub StandsAt : List Stamp → ℕ → Stamp → Type 0
StandsAt stamps i stamp = (i < length stamps) × Covers (slice_index_or stamps i stamp) stamp

-- The host may show these stamps: both are of batches of keepings in the list, neither before the one that it is known to have at that
-- place; and it hasn't done a keeping that is later than the one that it has begun.
pub record MayShow (k : Stamps) (shown : Shown) (begun done : ℕ) : Type 0 where
  pub begun_at : StandsAt k.may begun shown.begun
  pub done_at : StandsAt k.may done shown.done
  pub begun_since : k.begun ≤ begun
  pub done_since : k.done ≤ done
  pub in_order : done ≤ begun

abbrev pub IsAllowed : Stamps → Shown → Type 0
IsAllowed k shown = (begun : ℕ) × (done : ℕ) × MayShow k shown begun done

-- the least number that a batch may have of the keeping that the host is known to have begun
abbrev pub number_of : Option Stamp → ℕ
number_of None = 0
number_of (Some stamp) = stamp.number

abbrev pub begun_number : Stamps → ℕ
begun_number k = number_of (slice_get k.may k.begun)

-- The host has begun a keeping that this state doesn't know, and that isn't older than the one that it is known to have begun.
pub record IsUnknown (k : Stamps) (begun : Stamp) : Type 0 where
  pub new : (i : ℕ) → k.begun ≤ i → ¬ StandsAt k.may i begun
  pub later : begun_number k ≤ begun.number

-- why a host may not show these stamps
abbrev pub IsMismatch : Stamps → Shown → Mismatch → Type 0
IsMismatch k shown OlderState = IsUnknown k shown.begun
IsMismatch k shown OlderHost = ¬ IsUnknown k shown.begun × ¬ IsAllowed k shown

-- The greatest number that a batch is known to have had, once the host has shown these stamps.
abbrev pub seen : Stamp → Shown → Stamp
seen current shown = record { number = max current.number (max shown.begun.number shown.done.number); check = current.check }

-- The host is known to have these stamps now: of the places where they may stand, each takes the first one. Batches from now on have
-- greater numbers than these.
pub record IsTakenOver (k : Stamps) (shown : Shown) (k' : Stamps) : Type 0 where
  pub begun : ℕ
  pub done : ℕ
  pub allowed : MayShow k shown begun done
  pub first : (b d : ℕ) → MayShow k shown b d → (begun ≤ b) × (done ≤ d)
  pub after : k' ≡ record k { begun = begun; done = done; current = seen k.current shown }

-- the process was kept, and has this check
abbrev pub kept : Stamps → ℕ → Stamps
kept k check = record k { current = record { number = k.current.number; check = check } }

-- the stamp of the next batch
abbrev pub next_stamp : Stamps → Stamp
next_stamp k = record { number = next_number k.current.number; check = k.current.check }

-- The last keeping in the list has a batch with this stamp.
abbrev pub EndsIn : List Stamp → Stamp → Type 0
EndsIn stamps stamp = StandsAt stamps (length stamps - 1) stamp

-- The first batch of the last keeping is about to be sent, so the host may have this keeping too. What is older than the one that it is
-- known to have done is dropped.
abbrev pub sent : Stamps → Stamps
sent k = record { may = drop k.done k.may ++ next_stamp k ∷ []; begun = k.begun - k.done; done = 0; current = next_stamp k }

-- A batch of the last keeping is about to be sent with the next number. If there may have been one before, then the list has this keeping.
abbrev pub IsSent : Stamps → Stamps → Type 0
IsSent k k' = (EndsIn k.may (next_stamp k) × (k' ≡ record k { current = next_stamp k })) ⊎ (¬ EndsIn k.may (next_stamp k) × (k' ≡ sent k))

-- the host has begun and done the last batch, and nothing that it was sent is missing
abbrev pub answered : Stamps → Stamps
answered k = settled k.current

-- The host is known to have begun and done a batch of the last keeping.
abbrev pub IsSettled : Stamps → Type 0
IsSettled k = StandsAt k.may k.begun k.current × StandsAt k.may k.done k.current
