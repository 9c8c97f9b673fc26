-- The parts of a run, and the replies of a plain array.
use Rattle.std.specs.Prelude.{ℕ, ◌==◌, Bool, false, List, replicate, take, reverse, Option, Some, None, find, map}
use Rattle.std.specs.List.{flat_map}
use Rattle.oram_geometry.specs.declared.Sizes.{Sizes}
use Rattle.oram_semantics.specs.declared.events.Command.{Command}
use Rattle.oram_semantics.specs.declared.events.Command.TheVariants.{Read, Write, Discard}
use Rattle.oram_semantics.specs.declared.events.ReplyBody.{ReplyBody}
use Rattle.oram_semantics.specs.declared.events.ReplyBody.TheVariants.{Data, Done, Failed}
use Rattle.oram_semantics.specs.declared.events.Refusal.{Refusal}
use Rattle.oram_semantics.specs.declared.events.Refusal.TheVariants as refusal
use Rattle.oram_semantics.specs.declared.events.Refusal.TheVariants.{BadAddress, BadLength, BadWords, Busy, Exhausted}
use Rattle.oram_semantics.specs.declared.events.Reply.{Reply}
use Rattle.oram_semantics.specs.declared.events.Submission.{Submission}

-- the block that a command asks for
abbrev pub address_of : Command → ℕ
address_of (Read a) = a
address_of (Write a bytes) = a
address_of (Discard a) = a

-- the number by which programs and sessions name a refusal
abbrev pub refusal_number : Refusal → ℕ
refusal_number BadAddress = 1
refusal_number BadLength = 2
refusal_number BadWords = 3
refusal_number Busy = 4
refusal_number Exhausted = 5
refusal_number refusal.Failed = 6

abbrev pub addresses : List Submission → List ℕ
addresses subs = map (λ s. address_of s.command) subs

-- the tape: the words of the accepted submissions, joined
abbrev pub tape : List Submission → List ℕ
tape subs = flat_map (λ s. s.words) subs

-- whether a command writes or discards the block of this address
abbrev pub changes : ℕ → Command → Bool
changes a (Read b) = false
changes a (Write b bytes) = a == b
changes a (Discard b) = a == b

-- the data that a write leaves; zeros for any other command
abbrev pub bytes_of : ℕ → Command → List ℕ
bytes_of size (Read b) = replicate size 0
bytes_of size (Write b bytes) = bytes
bytes_of size (Discard b) = replicate size 0

abbrev pub bytes_left : ℕ → Option Submission → List ℕ
bytes_left size None = replicate size 0
bytes_left size (Some s) = bytes_of size s.command

-- what a plain array holds at an address after these submissions, the newest first: the data of the newest one that
-- writes or discards there, which is zeros if it discards; zeros if there is none
abbrev pub array_at : Sizes → List Submission → ℕ → List ℕ
array_at d newest_first a = bytes_left d.block_bytes (find (λ s. changes a s.command) newest_first)

-- the reply's content that a plain array gives after these submissions, the newest first
abbrev pub body_for : Sizes → List Submission → Command → ReplyBody
body_for d newest_first (Read a) = Data (array_at d newest_first a)
body_for d newest_first (Write a bytes) = Done
body_for d newest_first (Discard a) = Done

-- the plain array's reply to one of the submissions, after those before it
abbrev pub reply_of : Sizes → List Submission → Submission → Reply
reply_of d subs s = record { session = s.session; ticket = s.ticket; body = body_for d (reverse (take s.ticket subs)) s.command }

abbrev pub failed_reply : Submission → Reply
failed_reply s = record { session = s.session; ticket = s.ticket; body = Failed }
