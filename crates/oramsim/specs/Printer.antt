-- The text that the run of a script prints. Each line ends with the byte 10.
use Rattle.std.specs.Prelude.{ℕ, ◌==◌, nat_le, if◌then◌else◌, List, [], ◌∷◌, ◌++◌, length, slice_index, slice_range, codes}
use Rattle.std.specs.Fmt.{decimal}
use Rattle.std.specs.List.{flat_map}
use Rattle.byteorder.specs.Endian.{big_number}
use Rattle.hex.specs.Hex.{encode_lower}
use Rattle.oram_geometry.specs.declared.ShapeFault.{ShapeFault}
use Rattle.oram_geometry.specs.Sizes.{fault_number}
use Rattle.oram_semantics.specs.Run.{Shown}
use Rattle.oram_semantics.specs.declared.events.Note.{Note}
use Rattle.oram_semantics.specs.declared.events.Note.TheVariants.{Accepted, Refused, Taken, Stalled, FailedNow, Resent, Unexpected}
use Rattle.oram_semantics.specs.declared.events.Reason.{Reason}
use Rattle.oram_semantics.specs.declared.events.Reason.TheVariants.{Malformed, Tampered, HostRefused}
use Rattle.oram_semantics.specs.declared.events.Refusal.{Refusal}
use Rattle.oram_semantics.specs.declared.events.Refusal.TheVariants as refusal
use Rattle.oram_semantics.specs.declared.events.Reply.{Reply}
use Rattle.oram_semantics.specs.declared.events.ReplyBody.{ReplyBody}
use Rattle.oram_semantics.specs.declared.events.ReplyBody.TheVariants as body

abbrev pub newline : List ℕ
newline = 10 ∷ []

abbrev pub space : List ℕ
space = 32 ∷ []

-- a refusal's number and word
abbrev pub refusal_text : Refusal → List ℕ
refusal_text refusal.BadAddress = codes "1 address"
refusal_text refusal.BadLength = codes "2 length"
refusal_text refusal.BadWords = codes "3 words"
refusal_text refusal.Busy = codes "4 busy"
refusal_text refusal.Exhausted = codes "5 exhausted"
refusal_text refusal.Failed = codes "6 failed"

-- why a device failed, as oramsim prints it
abbrev pub reason_text : Reason → List ℕ
reason_text Malformed = codes "malformed"
reason_text (Tampered tree level) = codes "tampered " ++ decimal tree ++ space ++ decimal level
reason_text (HostRefused code) = codes "host " ++ decimal code

-- the line of a note; a note that an answer was taken, or a message sent again, has none
abbrev pub note_text : Note → List ℕ
note_text (Accepted ticket) = codes "accepted " ++ decimal ticket ++ newline
note_text (Refused refused) = codes "refused " ++ refusal_text refused ++ newline
note_text Taken = []
note_text Stalled = codes "stalled" ++ newline
note_text (FailedNow reason) = codes "failed " ++ reason_text reason ++ newline
note_text Resent = []
note_text Unexpected = codes "unexpected" ++ newline

-- what a reply says, as oramsim prints it
abbrev pub body_text : ReplyBody → List ℕ
body_text (body.Data bytes) = codes "data " ++ encode_lower bytes
body_text body.Done = codes "done"
body_text body.Failed = codes "failed"

abbrev pub reply_line : ℕ → ℕ → List ℕ → List ℕ
reply_line session ticket says = codes "reply " ++ decimal session ++ space ++ decimal ticket ++ space ++ says ++ newline

abbrev pub reply_text : Reply → List ℕ
reply_text r = reply_line r.session r.ticket (body_text r.body)

-- the line of a message: its first byte is 1 for a fetch and 2 for a store; then come the tree and the four bytes of
-- the leaf
abbrev pub send_text : List ℕ → List ℕ
send_text message =
    if nat_le 6 (length message)
    then (if slice_index message 0 == 1 then codes "fetch " else codes "store ") ++ decimal (slice_index message 1) ++ space ++ decimal (big_number 4 (slice_range message 2 6)) ++ newline
    else []

abbrev pub reaction_text : Shown → List ℕ
reaction_text x = note_text x.note ++ flat_map reply_text x.replies ++ flat_map send_text x.sends

-- the line for a new device with this many trees
abbrev pub ready_text : ℕ → List ℕ
ready_text trees = codes "ready " ++ decimal trees ++ newline

-- the line for five numbers that make no device
abbrev pub shape_text : ShapeFault → List ℕ
shape_text f = codes "shape " ++ decimal (fault_number f) ++ newline

-- the line which says that the script can't have its line n
abbrev pub error_text : ℕ → List ℕ
error_text n = codes "error line " ++ decimal n ++ newline

abbrev pub memory_text : List ℕ
memory_text = codes "out of memory" ++ newline
