-- What a verdict says about an answer.
use Rattle.std.specs.Prelude.{◌≡◌, ℕ, ◌%◌, ◌==◌, not, if◌then◌else◌, List, length, slice_index, Option, Some, None, nat_lt}
use Rattle.oram_hash.specs.Path.{IsAccepted}
use Rattle.oram_hash.specs.Tree.{IsPathOf}
use Rattle.oram_semantics.specs.Answers.{outcome_of}
use Rattle.oram_semantics.specs.Answers.Outcome.{Good, NoRoom, Fails}
use Rattle.oram_semantics.specs.Content.{entry_tree}
use Rattle.oram_semantics.specs.Messages.{requested}
use Rattle.oram_semantics.specs.Scheme.{Scheme}
use Rattle.oram_semantics.specs.State.{State, World}
use Rattle.oram_core.specs.AnswerMeaning.{path_now, tree_now, IsReasonFor}
use Rattle.oram_core.specs.declared.verdicts.Verdict.{Verdict}
use Rattle.oram_core.specs.declared.verdicts.Verdict.TheVariants as verdict
use Rattle.oram_wire.specs.HostMessages.{done_answer, no_room_answer, payload_answer}
use Rattle.oram_wire.specs.declared.host_messages.TheConstants.{REFUSED}

-- the verdict agrees with the answer's outcome in a world
abbrev pub Means : Scheme → State → World → List ℕ → Verdict → Type 0
Means v s w bytes (verdict.Path p) = (outcome_of v w.records (requested s.message) bytes ≡ Good) × IsPathOf (w.records (entry_tree v.device s.entry_number)) p
Means v s w bytes verdict.Stored = outcome_of v w.records (requested s.message) bytes ≡ Good
Means v s w bytes verdict.NoRoom = outcome_of v w.records (requested s.message) bytes ≡ NoRoom
Means v s w bytes (verdict.Bad e) = outcome_of v w.records (requested s.message) bytes ≡ Fails e

-- the verdict is right by the core's own digests
abbrev pub Tells : Scheme → State → List ℕ → Verdict → Type 0
Tells v s bytes (verdict.Path p) = (s.entry_number % 2 ≡ 0) × (bytes ≡ payload_answer p.bytes) × (p ≡ path_now v s p.bytes) × IsAccepted p (tree_now v s).root
Tells v s bytes verdict.Stored = (s.entry_number % 2 ≡ 1) × (bytes ≡ done_answer)
Tells v s bytes verdict.NoRoom = bytes ≡ no_room_answer
Tells v s bytes (verdict.Bad e) = IsReasonFor v s bytes e

-- the code of a refusal: byte 0x81 and a code from 1 to 8
abbrev pub refusal_in : List ℕ → Option ℕ
refusal_in bytes =
    if not (length bytes == 2) then None
    else if not (slice_index bytes 0 == REFUSED) then None
    else if slice_index bytes 1 == 0 then None
    else if nat_lt 8 (slice_index bytes 1) then None
    else Some (slice_index bytes 1)
