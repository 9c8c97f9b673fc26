-- The messages of which the laws about many messages speak.
use Rattle.std.specs.Prelude.{◌≡◌, ℕ, List}
use Rattle.oram_layout.specs.Records.{Records}
use Rattle.oram_layout.specs.Trees.{Trees}
use Rattle.oram_levels.specs.Messages.{HasNumbers as HasLevelsNumbers, LevelsMessage, levels_body}
use Rattle.oram_redo.specs.Content.{Content}
use Rattle.oram_store.specs.Answers.{Answers}
use Rattle.oram_store.specs.Crashes.{IsCarriedOut}
use Rattle.oram_store.specs.LevelsAnswers.{IsLevelsCarriedOut, LevelsAnswers, RespondsToLevels}
use Rattle.oram_store.specs.Refusals.{RespondsWith}
use Rattle.oram_wire.specs.HostBodies.{HasNumbers}
use Rattle.oram_wire.specs.HostMessages.{request_body}
use Rattle.oram_wire.specs.declared.host_messages.HostAnswer.{HostAnswer}
use Rattle.oram_wire.specs.declared.host_messages.HostRequest.{HostRequest}

-- one of the four requests that every host answers, or a message about some levels of a path
pub data Message : Type 0 where
  OfHost : HostRequest → Message
  OfLevels : LevelsMessage → Message

abbrev pub body_of : Message → List ℕ
body_of (OfHost request) = request_body request
body_of (OfLevels message) = levels_body message

-- the numbers of a message fit their four bytes
abbrev pub HasItsNumbers : Message → Type 0
HasItsNumbers (OfHost request) = HasNumbers request
HasItsNumbers (OfLevels message) = HasLevelsNumbers message

-- the answer to a message, and the trees after it
abbrev pub Responds : Trees → Message → HostAnswer → Trees → Type 0
Responds trees (OfHost request) given after = RespondsWith trees request given after
Responds trees (OfLevels message) given after = RespondsToLevels trees message given × (after ≡ trees)

-- the answer to a message, by the records before it and after it
abbrev pub IsAnswered : Trees → Records → Message → HostAnswer → Records → Type 0
IsAnswered trees old (OfHost request) given new = Answers trees old request given new
IsAnswered trees old (OfLevels message) given new = LevelsAnswers trees old message given new

-- the content is that of a bucket file after a message was carried out over these trees and records
abbrev pub IsDoneIn : Trees → Records → Message → Content → Type 0
IsDoneIn trees old (OfHost request) c = IsCarriedOut trees old request c
IsDoneIn trees old (OfLevels message) c = IsLevelsCarriedOut trees old message c
