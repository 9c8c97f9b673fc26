-- CHECKPOINT and SUMMARY, and what answers SUMMARY. All numbers are big-endian.
use Rattle.std.specs.Prelude.{◌≡◌, ℕ, ◌+◌, ◌<◌, ◌≤◌, ◌^◌, ◌==◌, ◌||◌, ◌&&◌, nat_le, if◌then◌else◌, Bool, true, false, List, [], ◌∷◌, ◌++◌, length, slice_index}
use Rattle.std.specs.Int.{w64, to_be_bytes}
use Rattle.oram_checkpoints.specs.declared.request.TheConstants.{LONGEST_SUMMARY}
use Rattle.oram_checkpoints.specs.declared.request.CheckpointRequest.{CheckpointRequest}
use Rattle.oram_checkpoints.specs.declared.request.CheckpointRequest.TheVariants as request

-- the number of a checkpoint in eight bytes, and its summary: also the payload of the answer to SUMMARY
abbrev pub numbered_text : ℕ → List ℕ → List ℕ
numbered_text number summary = to_be_bytes w64 number ++ summary

-- the number fits its eight bytes, and the summary isn't too long
pub record IsCheckpoint (number : ℕ) (summary : List ℕ) : Type 0 where
  pub fits : number < 2 ^ 64
  pub short : length summary ≤ LONGEST_SUMMARY

-- CHECKPOINT leaves the number and the summary of a checkpoint at the host
abbrev pub checkpoint_body : ℕ → List ℕ → List ℕ
checkpoint_body number summary = 8 ∷ numbered_text number summary

-- a message about checkpoints, with its summary as it is, and not where it lies in memory
pub data CheckpointMessage : Type 0 where
  Checkpoint : (number : ℕ) (summary : List ℕ) → CheckpointMessage
  Summary : CheckpointMessage

-- the body of a message; SUMMARY asks for the number and the summary of the last checkpoint
abbrev pub message_body : CheckpointMessage → List ℕ
message_body (Checkpoint number summary) = checkpoint_body number summary
message_body Summary = 9 ∷ []

-- the message that a request is
abbrev pub message_of : CheckpointRequest → CheckpointMessage
message_of (request.Checkpoint number summary) = Checkpoint number summary.now
message_of request.Summary = Summary

-- there is such a message
abbrev pub IsMessage : CheckpointMessage → Type 0
IsMessage (Checkpoint number summary) = IsCheckpoint number summary
IsMessage Summary = Unit {0}

-- the first byte names one of the two messages
abbrev pub names_message : List ℕ → Bool
names_message [] = false
names_message (op ∷ fields) = op == 8 || op == 9

-- the lengths that the body of a message with this first byte may have: CHECKPOINT has nine bytes and a summary, and SUMMARY has one byte
abbrev pub is_message_length : ℕ → ℕ → Bool
is_message_length op len = if op == 8 then nat_le 9 len && nat_le len (9 + LONGEST_SUMMARY) else len == 1

-- the first byte names one of the two messages, but the length isn't one of such a message
abbrev pub IsMisfit : List ℕ → Type 0
IsMisfit body = (names_message body ≡ true) × (is_message_length (slice_index body 0) (length body) ≡ false)
