-- What is kept with a process of what it knows about its host's stamps.
use Rattle.std.specs.Prelude.{◌≡◌, ℕ, ◌-◌, ◌<◌, ◌^◌, List, [], ◌∷◌, ◌++◌, drop}
use Rattle.std.specs.Int.{w64, to_be_bytes}
use Rattle.std.specs.List.{AllByRecursion, flat_map}
use Rattle.oram_stamps.specs.Known.{Stamps, kept, next_number, sent}
use Rattle.oram_stamps.specs.Stamps.{AreNumbers, stamp_text}
use Rattle.oram_stamps.specs.declared.stamp.Stamp.{Stamp}

-- The number of the keeping that the note is kept by, the place of the stamp that the host is known to have begun, and the stamps that
-- the host may have. The first of these is the one that it is known to have done.
abbrev pub text_of : ℕ → ℕ → List Stamp → List ℕ
text_of number begun stamps = to_be_bytes w64 number ++ (to_be_bytes w64 begun ++ flat_map stamp_text stamps)

-- the note of a process that is about to be kept
abbrev pub note_text : Stamps → List ℕ
note_text k = text_of (next_number k.current.number) (k.begun - k.done) (drop k.done k.may)

-- what a process knows that is read from a file, and has this check: the host may have the stamp of that keeping too
abbrev pub known_from : ℕ → ℕ → List Stamp → ℕ → Stamps
known_from number begun stamps check =
    let current : Stamp = record { number = number; check = check } in
    record { may = stamps ++ current ∷ []; begun = begun; done = 0; current = current }

-- The process that starts from a file knows what the process that kept it knew, once that one has sent messages of this keeping.
abbrev pub restarted : Stamps → ℕ → Stamps
restarted k check = sent (kept k check)

-- a note can hold these numbers
pub record AreNotable (k : Stamps) : Type 0 where
  pub begun : k.begun - k.done < 2 ^ 64
  pub stamps : AllByRecursion AreNumbers (drop k.done k.may)

-- some bytes are a note
pub record IsNote (note : List ℕ) : Type 0 where
  pub number : ℕ
  pub begun : ℕ
  pub stamps : List Stamp
  pub number_fits : number < 2 ^ 64
  pub begun_fits : begun < 2 ^ 64
  pub stamps_fit : AllByRecursion AreNumbers stamps
  pub all : note ≡ text_of number begun stamps
