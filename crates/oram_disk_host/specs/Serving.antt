-- What a disk's host is asked over a connection, and what it answers.
use Rattle.std.specs.Prelude.{◌≡◌, ◌⊎◌, ℕ, ◌+◌, ◌<◌, ◌≤◌, List, [], ◌++◌, All, length, Option, Result, Ok, Err}
use Rattle.std.specs.List.{flat_map, FoldsTo}
use Rattle.std.specs.Io.KnownBytes.{Appends, Consumes, IsAtEnd}
use Rattle.oram_redo.specs.FilePair.{FileModel}
use Rattle.oram_wire.specs.FrameStream.{IsBody, IsBroken, IsUnfinished, frame, length_at}
use Rattle.oram_wire.specs.HostMessages.{answer_body}
use Rattle.oram_wire.specs.declared.TheConstants.{LONGEST_BODY}
use Rattle.oram_wire.specs.declared.host_messages.HostAnswer.{HostAnswer}
use Rattle.oram_host.specs.Answered.{Answering}
use Rattle.oram_host.specs.Transfers.{Begins}
use Rattle.oram_host.specs.declared.serve_fault.ServeFault.{ServeFault}
use Rattle.oram_host.specs.declared.serve_fault.ServeFault.TheVariants.{Read, Write, Frame, Truncated, Stalled, OutOfMemory}
use Rattle.oram_disk_host.specs.Hosts.{HostedValue, Serves}
use Rattle.oram_disk_host.specs.declared.serving.Next.{Next}
use Rattle.oram_disk_host.specs.declared.serving.Next.TheVariants.{Waits, Ends, Fails}

-- the bytes begin with a whole frame
abbrev pub BeginsWithFrame : List ℕ → Type 0
BeginsWithFrame bytes = (4 ≤ length bytes) × (4 + length_at bytes ≤ length bytes)

-- the frames of some bodies, one after the other
abbrev pub frames : List (List ℕ) → List ℕ
frames bodies = flat_map frame bodies

-- ---- what is read before anything is answered

-- What was read when no further frame could be read, by the fault.
abbrev pub IsCutOff : ServeFault → List ℕ → Option (List ℕ) → Type 0
IsCutOff Read part left = IsUnfinished part
IsCutOff Frame part left = (length part ≡ 4) × IsBroken part
IsCutOff Truncated part left = (0 < length part) × IsUnfinished part × IsAtEnd left
-- the length of a frame, or all of it
IsCutOff OutOfMemory part left = ((length part ≡ 4) × (length_at part ≤ LONGEST_BODY)) ⊎ ((body : List ℕ) × IsBody body × (part ≡ frame body))
IsCutOff Write part left = ⊥
IsCutOff Stalled part left = ⊥

-- what was read after some whole frames, by what follows them
abbrev pub LeavesOff : Next → List ℕ → Option (List ℕ) → Type 0
LeavesOff Waits part left = part ≡ []
LeavesOff Ends part left = (part ≡ []) × IsAtEnd left
LeavesOff (Fails fault) part left = IsCutOff fault part left

-- The frames of these bodies were read, and then no more than this.
pub record IsGathered (bodies : List (List ℕ)) (next : Next) (unread left : Option (List ℕ)) : Type 0 where
  pub part : List ℕ
  pub fits : All IsBody bodies
  pub read : Consumes unread left (frames bodies ++ part)
  pub ends : LeavesOff next part left

-- ---- groups of messages, each with its answer

-- some messages, and the answer that each of them got
pub record Group : Type 0 where
  pub bodies : List (List ℕ)
  pub answer : HostAnswer

-- the messages of some groups
abbrev pub messages_of : List Group → List (List ℕ)
messages_of groups = flat_map (λ g. g.bodies) groups

-- the frames of the answers, one for each message, in the order of the messages
abbrev pub answers_text : List Group → List ℕ
answers_text groups = flat_map (λ g. flat_map (λ body. frame (answer_body g.answer)) g.bodies) groups

module _ {F : Type 0} (model : FileModel F) where
  abbrev pub IsServed : HostedValue F → Group → HostedValue F → Type 0
  IsServed before g after = Serves model before g.bodies g.answer after

  -- The host has carried out these groups of the messages, one after the other, and `rest` are the messages behind them.
  pub record Carries (bodies : List (List ℕ)) (groups : List Group) (rest : List (List ℕ)) (old new : HostedValue F) : Type 0 where
    pub are : bodies ≡ messages_of groups ++ rest
    pub led : FoldsTo IsServed old groups new

  -- The host answers some messages. All of them, or a beginning of the answers was written; or memory ran out for a message, which
  -- was not carried out then, nor was any behind it.
  abbrev pub AnswersAll : List (List ℕ) → Result Unit ServeFault → HostedValue F → HostedValue F → Option (List ℕ) → Option (List ℕ) → Type 0
  AnswersAll bodies (Ok _) old new written written' = (groups : List Group) × Carries bodies groups [] old new × Appends written written' (answers_text groups)
  AnswersAll bodies (Err Write) old new written written' = (groups : List Group) × (rest : List (List ℕ)) × Carries bodies groups rest old new × Begins written written' (answers_text groups)
  AnswersAll bodies (Err OutOfMemory) old new written written' = (groups : List Group) × (rest : List (List ℕ)) × Carries bodies groups rest old new × Appends written written' (answers_text groups)
  AnswersAll bodies (Err _) old new written written' = ⊥

  -- The host has carried out these groups since a connection began at `p`. It has read their messages, and then `rest`.
  pub record HasServed (p q : Answering (HostedValue F)) (groups : List Group) (rest : List ℕ) : Type 0 where
    pub led : FoldsTo IsServed p.state groups q.state
    pub read : Consumes p.unread q.unread (frames (messages_of groups) ++ rest)

  -- How a connection that began at `p` ends at `q`: the host has carried out some groups, and has written their answers.
  abbrev pub EndsServing : Answering (HostedValue F) → Answering (HostedValue F) → Result Unit ServeFault → Type 0
  -- The input ended after their frames.
  EndsServing p q (Ok _) = (groups : List Group) × HasServed p q groups [] × Appends p.written q.written (answers_text groups) × IsAtEnd q.unread
  -- Only a beginning of their answers was written, or all of them. `rest` is what was read of other messages.
  EndsServing p q (Err Write) = (groups : List Group) × (rest : List ℕ) × HasServed p q groups rest × Begins p.written q.written (answers_text groups)
  -- Memory ran out for another message, or for its answer: it was not carried out. `rest` is what was read of it, and behind it.
  EndsServing p q (Err OutOfMemory) = (groups : List Group) × (rest : List ℕ) × HasServed p q groups rest × Appends p.written q.written (answers_text groups)
  -- No further frame could be read, because of this part of one.
  EndsServing p q (Err fault) = (groups : List Group) × (part : List ℕ) × HasServed p q groups part × Appends p.written q.written (answers_text groups) × IsCutOff fault part q.unread
