-- Processes, one after the other: the replies that they give are to the commands of one run.
use Rattle.std.specs.Prelude.{◌≡◌, ◌≢◌, ◌⊎◌, ℕ, zero, suc, Bool, true, if◌then◌else◌, List, [], ◌∷◌, ◌++◌, length, ⊤}
use Rattle.std.specs.List.{AllByRecursion}
use Rattle.oram_geometry.specs.declared.Sizes.{Sizes}
use Rattle.oram_geometry.specs.Sizes.{IsDevice}
use Rattle.oram_semantics.specs.Events.{failed_reply, reply_of}
use Rattle.oram_semantics.specs.Formatting.{IsFormatted}
use Rattle.oram_semantics.specs.Law.{new_state}
use Rattle.oram_semantics.specs.Progress.{Setting, accepted}
use Rattle.oram_semantics.specs.State.{State}
use Rattle.oram_semantics.specs.declared.events.Reply.{Reply}
use Rattle.oram_semantics.specs.declared.events.ReplyBody.TheVariants.{Failed}
use Rattle.oram_semantics.specs.declared.events.Submission.{Submission}
use Rattle.oram_tree.specs.State.{State as Tree}
use Rattle.oram_link_laws.specs.Runs.{Exchange}
use Rattle.oram_rounds.specs.Batches.{BatchOutcome}
use Rattle.oram_rounds.specs.Process.{Process}
use Rattle.oram_process_laws.specs.KeptCommands.{ShowsNoPair, past_after}
use Rattle.oram_rounds.specs.ProcessSteps.{DoesSteps, ProcessStep, replies_in}
use Rattle.oram_process_laws.specs.Lives.{Happening, IsRightRun, IsRunBefore, Lives, is_all_kept_after, run_of}

-- The replies that a process gives: those of its core while what is kept has all commands. `perform` gives no others, since it
-- keeps the core first.
abbrev pub given_at : Bool → ProcessStep → List Reply
given_at all step = if is_all_kept_after all step then replies_in step else []

abbrev pub given_by : Bool → List ProcessStep → List Reply
given_by all [] = []
given_by all (step ∷ steps) = given_at all step ++ given_by (is_all_kept_after all step) steps

-- A reply to one of these commands, which has the ticket of its place: it is the plain array's after the commands before it, or
-- says that the device has failed.
pub record IsReplyIn (d : Sizes) (commands : List Submission) (reply : Reply) : Type 0 where
  pub earlier : List Submission
  pub command : Submission
  pub later : List Submission
  pub place : commands ≡ earlier ++ command ∷ later
  pub ticket : command.ticket ≡ length earlier
  pub either : (reply ≡ reply_of d earlier command) ⊎ (reply ≡ failed_reply command)

abbrev pub AreRepliesIn : Sizes → List Submission → List Reply → Type 0
AreRepliesIn d commands replies = AllByRecursion (IsReplyIn d commands) replies

-- for a device, a link that carries batches, and a keeper that says which bytes may be read back
module _ (v : Setting) {B K : Type 0} (batches : B → List (List ℕ) → BatchOutcome → List Exchange → B → Type 0) (reads_back : K → List ℕ → Type 0) where
  -- the replies that the processes before have given
  abbrev pub given_before : (core : State) (n : ℕ) (p : Process B K) → Lives v.scheme batches reads_back core n p → List Reply
  given_before core zero p lives = []
  given_before core (suc n) p lives = given_before core n lives.0 lives.3 ++ given_by true lives.1

  -- no answer that any of the processes before has had shows two records with the same digest
  abbrev pub ShowedNoPair : (core : State) (n : ℕ) (p : Process B K) (lives : Lives v.scheme batches reads_back core n p) (before : List Happening)
      → IsRunBefore v.scheme batches reads_back core n p lives before → Type 0
  ShowedNoPair core zero p lives before is = ⊤
  ShowedNoPair core (suc n) p lives before is = ShowedNoPair core n lives.0 lives.3 is.0 is.2 × ShowsNoPair v [] (is.0 ++ run_of lives.1)

-- However many processes there are, and wherever each ends: each reply that any of them has given is to a command that the one
-- run has accepted, and is the plain array's after the commands before it, or says that the device has failed. What a
-- process did after its last keeping is no part of this run, but the replies that it gave then are right in it.
abbrev pub RepliesAreOfOneRun : {B K : Type 0} → (B → List (List ℕ) → BatchOutcome → List Exchange → B → Type 0) → (K → List ℕ → Type 0) → Type 0
RepliesAreOfOneRun {B} {K} batches reads_back =
    (v : Setting) (trees : List Tree) (n : ℕ) (first : Process B K) → IsDevice v.scheme.device → IsFormatted v trees
    → (lives : Lives v.scheme batches reads_back (new_state v trees) n first)
    → (before : List Happening) × (is : IsRunBefore v.scheme batches reads_back (new_state v trees) n first lives before)
    × ((steps : List ProcessStep) (p : Process B K) → DoesSteps v.scheme batches reads_back first steps p
    → IsRightRun v trees (before ++ run_of steps) p.core
    × (ShowedNoPair v batches reads_back (new_state v trees) n first lives before is → ShowsNoPair v [] (before ++ run_of steps)
    → AreRepliesIn v.scheme.device (accepted (past_after [] (before ++ run_of steps)))
    (given_before v batches reads_back (new_state v trees) n first lives ++ given_by true steps)))

-- So two replies with the same ticket are the same, whichever processes gave them, unless one says that the device has failed.
abbrev pub OneTicketHasOneReply : Type 0
OneTicketHasOneReply = (d : Sizes) (commands : List Submission) (one other : Reply) → IsReplyIn d commands one → IsReplyIn d commands other
    → one.ticket ≡ other.ticket → one.body ≢ Failed → other.body ≢ Failed → one ≡ other
