-- The tally of a connection.
use Rattle.std.specs.Prelude.{◌≡◌, ℕ, ◌+◌, ◌-◌, ◌*◌, ◌^◌, min, List, [], ◌∷◌, length, None}
use Rattle.oram_disk_host.specs.declared.tally.Tally.{Tally}

-- before the first message
abbrev pub none : Tally
none = record { messages = 0; received = 0; sent = 0; failure = None }

-- a sum that stops at the greatest number
abbrev pub capped : ℕ → ℕ
capped n = min n (2 ^ 64 - 1)

-- the number of bytes of the frame of a body
abbrev pub frame_len : List ℕ → ℕ
frame_len body = capped (length body + 4)

-- the number of bytes of the frames of some bodies
abbrev pub frames_len : List (List ℕ) → ℕ
frames_len [] = 0
frames_len (body ∷ bodies) = frame_len body + frames_len bodies

-- the tally with more messages, each with this answer
pub record Counts (before : Tally) (bodies : List (List ℕ)) (answer : List ℕ) (after : Tally) : Type 0 where
  pub messages : after.messages ≡ capped (before.messages + length bodies)
  pub received : after.received ≡ capped (before.received + frames_len bodies)
  pub sent : after.sent ≡ capped (before.sent + length bodies * frame_len answer)
