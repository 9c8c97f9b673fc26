-- Frames on a stream: the length of a body in four bytes, and then the body.
use Rattle.std.specs.Prelude.{◌≡◌, ℕ, ◌+◌, ◌<◌, ◌≤◌, Bool, List, [], ◌++◌, length, All}
use Rattle.std.specs.Bool.{MatchBool}
use Rattle.std.specs.List.{flat_map}
use Rattle.std.specs.Int.{w32, to_be_bytes}
use Rattle.byteorder.specs.Endian.{big_number}
use Rattle.oram_wire.specs.declared.TheConstants.{LONGEST_BODY}

abbrev pub IsBody : List ℕ → Type 0
IsBody body = length body ≤ LONGEST_BODY

-- a body as a frame
abbrev pub frame : List ℕ → List ℕ
frame body = to_be_bytes w32 (length body) ++ body

-- the length that the first four bytes give
abbrev pub length_at : List ℕ → ℕ
length_at bytes = big_number 4 bytes

-- less than a whole frame: fewer than four bytes, or fewer bytes after these four than they say
abbrev pub IsUnfinished : List ℕ → Type 0
IsUnfinished bytes = 4 ≤ length bytes → (length_at bytes ≤ LONGEST_BODY)
    × (length bytes < 4 + length_at bytes)

-- the first four bytes are a length that is too great for a frame
abbrev pub IsBroken : List ℕ → Type 0
IsBroken bytes = (4 ≤ length bytes) × (LONGEST_BODY < length_at bytes)

-- the bytes that are held of a stream, and whether the stream is broken
pub record Feeding : Type 0 where
  pub held : List ℕ
  pub broken : Bool

-- the bytes after the whole frames are held, unless they begin with a length that is too great
abbrev pub IsLeft : List ℕ → Feeding → Type 0
IsLeft rest left = MatchBool left.broken (IsBroken rest × (left.held ≡ [])) (IsUnfinished rest
    × (left.held ≡ rest))

-- The frames of a stream: `bodies` are those of the longest beginning of the stream that is a list of frames.
pub record AreFrames (stream : List ℕ) (bodies : List (List ℕ)) (left : Feeding) : Type 0 where
  pub rest : List ℕ
  pub whole : stream ≡ flat_map frame bodies ++ rest
  pub each : All IsBody bodies
  pub leaves : IsLeft rest left

-- at most one unfinished frame is held, and nothing once the stream is broken
abbrev pub IsFeeding : Feeding → Type 0
IsFeeding left = MatchBool left.broken (left.held ≡ []) (IsUnfinished left.held)
