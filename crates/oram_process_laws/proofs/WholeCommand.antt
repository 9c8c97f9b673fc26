-- A whole command: a read of the block of zeros gets its reply.
use Rattle.std.proofs.Common.{◌≡◌, ℕ, ◌*◌, ◌==◌, if◌then◌else◌, Bool, List, [], ◌∷◌, None, Some, Ok, refl, sym, subst, inl, inr}
use Rattle.oram_wire.specs.HostMessages.{done_answer, fetch_body}
use Rattle.oram_geometry.specs.Sizes.{trees_of}
use Rattle.oram_semantics.specs.Answers.{good_answer, outcome_of}
use Rattle.oram_semantics.specs.Answers.Outcome.{Good}
use Rattle.oram_semantics.specs.Messages.{requested}
use Rattle.oram_semantics.specs.Moves.{Fits, Moved, Moves, MovesTo, fetches, finishes, on_answer}
use Rattle.oram_semantics.specs.Progress.Status.{Waiting}
use Rattle.oram_semantics.specs.Progress.{Setting}
use Rattle.oram_semantics.specs.State.{State, World}
use Rattle.oram_semantics.specs.declared.events.Event.TheVariants.{Answer}
use Rattle.oram_semantics.specs.declared.events.Note.TheVariants.{Taken}
use Rattle.oram_core.specs.AnswerMeaning.{IsVerdict}
use Rattle.oram_core.specs.Steps.{Steps}
use Rattle.oram_core.proofs.Judged.{stored_verdict}
use Rattle.oram_core.proofs.LocalRule.{holds_of}
use Rattle.oram_core.proofs.Quiet.{finishes_met}
use Rattle.oram_session.specs.Links.{ToServer}
use Rattle.oram_link_laws.specs.Examples.{new_core, new_host, one_block}
use Rattle.oram_link_laws.proofs.Device.{new_device_example, one_tree, session_example}
use Rattle.oram_rounds.specs.Examples.{DirectBatches, zero_array}
use Rattle.oram_rounds.specs.PathMessages.{IsPathStore}
use Rattle.oram_rounds.specs.Process.{DoesAll, IsSafe}
use Rattle.oram_rounds.specs.ProcessSteps.{DoesSteps}
use Rattle.oram_rounds.specs.ReadingExample.{one_read, process_with, reading_core, reads, reads_kept, shown_in}
use Rattle.oram_rounds.specs.Rounds.{RoundCall}
use Rattle.oram_process_laws.specs.WholeExample.{WholeExample, block_store, fetched_core, finished, stored_record, whole_acts, whole_process, whole_steps}
use Rattle.oram_rounds.proofs.Example.{first_leaf, first_tree, one_path, one_waits_example, whole_record}
use Rattle.oram_process_laws.specs.Lives.{IsRun, Lives, run_of}
use Rattle.oram_process_laws.proofs.FetchedPath.{takes_path}
use Rattle.oram_process_laws.proofs.Lives.{right_by}
use Rattle.oram_process_laws.proofs.NoPair.{no_pair}
use Rattle.oram_rounds.proofs.ReadingProcess.{accepts, awaits, called, now, now_ahead, reading_process_example, went}
use Rattle.oram_rounds.proofs.Start.{submitted_is_safe}

-- the core hears that the STORE is carried out

good : (r : ℕ → ℕ → List ℕ) → outcome_of one_block r (requested block_store) done_answer ≡ Good
unfolding outcome_of good_answer requested
good r = refl

met : (w : World) → Fits one_block fetched_core w → Moves one_block fetched_core w (Answer done_answer) (shown_in finished) finished.state
met w fits =
    let P : Moved → Type 0 = λ m. MovesTo one_block fetched_core w m (shown_in finished) finished.state in
    let last : P (if 2 == 2 * trees_of one_block.device then finishes one_block fetched_core w one_read [] else fetches one_block fetched_core w one_read) =
    (let Q : ℕ → Type 0 = λ n. P (if 2 == 2 * n then finishes one_block fetched_core w one_read [] else fetches one_block fetched_core w one_read) in
    subst Q (sym one_tree) (finishes_met one_block fetched_core w one_read [] (holds_of one_block fetched_core w fits))) in
    subst (λ o. P (on_answer one_block fetched_core w Waiting o)) (sym (good w.records)) last

replies : Steps one_block fetched_core (Answer done_answer) (shown_in finished) finished.state
replies = record {
  plain = λ d is. absurd (let none : None ≡ Some d = is in cc);
  heard = λ bytes is waits other. inr (inr (record { oldest = one_read; rest = []; queue = refl; does = refl; long = refl }));
  verdict = λ bytes is waits other.
      let same : done_answer ≡ bytes = (let both : Answer done_answer ≡ Answer bytes = is in cc) in
      subst (λ (b : List ℕ). IsVerdict one_block fetched_core b Taken) same (stored_verdict one_block fetched_core done_answer (refl, refl));
  moves = λ w fits apart. met w fits;
}

stores : IsPathStore one_block.device 88 block_store
stores = record { tree = 0; leaf = 0; records = stored_record; tree_in = first_tree; leaf_in = first_leaf; whole = one_path stored_record refl; named = refl }

call : RoundCall DirectBatches (process_with fetched_core reading_core).link block_store (Ok done_answer) [] whole_process.link
call = record {
  device = refl;
  record_len = refl;
  does = inl (record {
    path = subst (λ (len : ℕ). IsPathStore one_block.device len block_store) whole_record stores;
    answer = refl;
    none = refl;
    same = refl;
    kept = refl;
    held = refl;
    ahead = refl;
  });
}

safe : (may_lie : Bool) → IsSafe may_lie one_block reads_kept (process_with reading_core new_core) new_host zero_array zero_array
safe may_lie =
    submitted_is_safe ToServer reads_kept may_lie one_block (reads ∷ []) (process_with new_core new_core) (process_with reading_core new_core) new_host zero_array
    reading_process_example.1 (reading_process_example.4 may_lie) reading_process_example.3

acts : DoesAll one_block DirectBatches reads_kept (process_with reading_core new_core) whole_acts whole_process
acts = (
  now,
  (λ bytes back. back, refl, refl, inl refl),
  (
    now_ahead,
    ((went, refl), refl),
    (
      process_with fetched_core reading_core,
      ((fetch_body 0 0, awaits, called, takes_path), refl),
      (whole_process, ((block_store, refl, call, replies), refl), refl),
    ),
  ),
)

steps : DoesSteps one_block DirectBatches reads_kept (process_with new_core new_core) whole_steps whole_process
steps = (process_with reading_core new_core, (accepts, refl, refl), acts)

run : IsRun one_block new_core (run_of whole_steps) finished.state
run = (reading_core, accepts, (fetched_core, takes_path, (finished.state, replies, refl)))

pub whole_example : WholeExample
whole_example =
    let new = new_device_example.0 in
    let v : Setting = record { scheme = one_block; format = new.format } in (
      reading_process_example.0,
      reading_process_example.1,
      reading_process_example.2,
      safe,
      reading_process_example.5,
      acts,
      λ may_lie. one_waits_example.3 may_lie,
      refl,
      (
        new.format,
        new.trees,
        (
          new.formatted,
          subst (λ (s : State). Lives one_block DirectBatches reads_kept s 0 (process_with new_core new_core)) new.state (refl, λ other back. back),
          steps,
          right_by v new.trees session_example.0 new.formatted (run_of whole_steps) finished.state
              (subst (λ (s : State). IsRun one_block s (run_of whole_steps) finished.state) new.state run),
          no_pair,
          refl,
          record { earlier = []; command = one_read; later = []; place = refl; ticket = refl; either = inl refl },
        ),
      ),
    )
