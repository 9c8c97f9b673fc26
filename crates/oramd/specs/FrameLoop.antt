-- Session frames that are answered by a device that is made for them.
use Rattle.std.specs.Prelude.{◌≡◌, ◌⊎◌, ℕ, List, [], Result, Ok, Err, replicate}
use Rattle.oram_geometry.specs.declared.Sizes.{Sizes}
use Rattle.oram_geometry.specs.Sizes.{trees_of}
use Rattle.oram_bucket.specs.Cipher.{plain_cipher}
use Rattle.oram_semantics.specs.Scheme.{Scheme}
use Rattle.oram_semantics.specs.State.{State}
use Rattle.oram_host.specs.Answered.{Answering}
use Rattle.oram_session.specs.Outcome.{Outcome}
use Rattle.oram_session.specs.Sessions.{HasServedSession}
use Rattle.oram_session.specs.Tapes.{chacha_words}
use Rattle.oram_session.specs.Turns.{Turn}
use Rattle.oram_host.specs.declared.serve_fault.ServeFault.{ServeFault}
use Rattle.oram_host.specs.declared.serve_fault.ServeFault.TheVariants as serve
use Rattle.oram_tree.specs.declared.faults.FormatFault.{FormatFault}
use Rattle.oramd.specs.Formatting.{IsFormatted}
use Rattle.oramd.specs.LibraryFaults.{format_fault}
use Rattle.oramd.specs.declared.faults.Fault.{Fault}
use Rattle.oramd.specs.declared.faults.Fault.TheVariants.{Hex, OutOfMemory, Stalled}

-- 64 blocks of 16 bytes in one tree
abbrev pub loop_sizes : Sizes
loop_sizes = record { blocks = 64; block_bytes = 16; slots = 4; top = 64; lifetime = 100; leaf_load = 1 }

-- unsealed
abbrev pub loop_scheme : Scheme
loop_scheme = record { device = loop_sizes; cipher = plain_cipher }

-- the words of the tape with the zero key
abbrev pub loop_words : ℕ → ℕ → List ℕ
loop_words = chacha_words (replicate 32 0) (trees_of loop_sizes)

-- Frames that are too long or cut short are a fault of the digits. Replies go to memory, so the only reason not to
-- write one is that memory ran out.
abbrev pub after_frames : Result ℕ ServeFault → Result (Unit {0}) Fault
after_frames (Ok count) = Ok tt
after_frames (Err serve.Read) = Err Hex
after_frames (Err serve.Frame) = Err Hex
after_frames (Err serve.Truncated) = Err Hex
after_frames (Err serve.Stalled) = Err Stalled
after_frames (Err serve.Write) = Err OutOfMemory
after_frames (Err serve.OutOfMemory) = Err OutOfMemory

-- Why some frames have no answers: the formatting was broken off, or serving the frames ended early.
abbrev pub IsUnansweredFor : Fault → Type 0
IsUnansweredFor fault = ((why : FormatFault) × (fault ≡ format_fault why)) ⊎ ((ended : Result ℕ ServeFault) × (Err fault ≡ after_frames ended))

-- The device was formatted over a link with these calls, and its session 0 answered some turns. It also read the bytes
-- `part` of a frame, and the replies were appended to what was there.
pub record HasAnsweredFrames {L : Type 0} (calls : L → List ℕ → Outcome → L → Type 0) (p : Answering L) (part : List ℕ) (q : Answering L) : Type 0 where
  pub new : State
  pub mid : L
  pub formatted : IsFormatted loop_scheme calls p.state new mid
  pub turns : List Turn
  pub after : State
  pub served : HasServedSession loop_scheme calls loop_words 0 (record {
    before = record { state = (new, mid); unread = p.unread; written = p.written };
    things = turns;
    part = part;
    more = [];
    after = record { state = (after, q.state); unread = q.unread; written = q.written };
  })
