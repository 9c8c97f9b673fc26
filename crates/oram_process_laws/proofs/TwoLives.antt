-- A read of a block is submitted to a process, which keeps itself and ends while its FETCH goes ahead; another one begins with
-- its file and sends the FETCH ahead again.
use Rattle.std.proofs.Common.{List, [], ◌∷◌, ◌++◌, refl, sym, subst, inl, inr}
use Rattle.std.specs.List.{AllByRecursion}
use Rattle.oram_wire.specs.HostMessages.{fetch_body}
use Rattle.oram_semantics.specs.Progress.{Setting}
use Rattle.oram_semantics.specs.State.{State}
use Rattle.oram_link_laws.specs.Examples.{new_core, one_block}
use Rattle.oram_link_laws.proofs.Device.{new_device_example, session_example}
use Rattle.oram_link_laws.specs.Repair.{AreAmong}
use Rattle.oram_rounds.specs.Examples.{DirectBatches, zeros_fetched}
use Rattle.oram_rounds.specs.ProcessSteps.{DoesSteps}
use Rattle.oram_process_laws.specs.Lives.{Follows, Happening, IsRun, Lives, run_of}
use Rattle.oram_process_laws.specs.LivesExample.{TwoLivesExample, first_steps, second_steps}
use Rattle.oram_rounds.specs.ReadingExample.{reading_core, one_read, process_with, reads_kept}
use Rattle.oram_rounds.proofs.ReadingCore.{file_bytes, is_file}
use Rattle.oram_rounds.proofs.ReadingProcess.{accepts, awaits, called, loses, lost_core, next_is, now, now_ahead, path, sends_again, went}
use Rattle.oram_rounds.specs.PathMessages.{IsPathFetch}
use Rattle.oram_rounds.specs.Process.Act.{GoesAhead}
use Rattle.oram_process_laws.proofs.Lives.{right_by}

-- what the processes do

first_goes : DoesSteps one_block DirectBatches reads_kept (process_with new_core new_core) first_steps now
first_goes = (process_with reading_core new_core, (accepts, refl, refl), (now, (λ bytes back. back, refl, refl, inl refl), refl))

second_goes : DoesSteps one_block DirectBatches reads_kept now second_steps now
second_goes = (
  process_with lost_core reading_core,
  ((inl refl, loses, refl), refl),
  (now, ((inr refl, sends_again, refl), refl), (now, (λ bytes back. back, refl, refl, inl refl), (now_ahead, ((went, refl), refl), (now, ((fetch_body 0 0, awaits, called, refl), refl), refl)))),
)

-- The first process ends while its FETCH goes ahead.
follows : Follows one_block DirectBatches reads_kept now now
follows = record {
  bytes = file_bytes;
  exchanges = zeros_fetched;
  ends = inr (GoesAhead zeros_fetched, (is_file, inr (subst (AllByRecursion (IsPathFetch one_block.device)) (sym next_is) (path, tt), subst (AreAmong (fetch_body 0 0 ∷ [])) (sym next_is) (inl refl, tt))));
  stores = [];
  core = reading_core;
  file = is_file;
  begins = (refl, λ other back. back);
}

-- the run of both
abbrev run : List Happening
run = run_of first_steps ++ run_of second_steps

is_run : IsRun one_block new_core run reading_core
is_run = (reading_core, accepts, (lost_core, loses, (reading_core, sends_again, refl)))

pub two_lives_example : TwoLivesExample
two_lives_example =
    let new = new_device_example.0 in
    let v : Setting = record { scheme = one_block; format = new.format } in (
      new.format,
      new.trees,
      (
        λ l m bodies o exchanges h. h.1,
        session_example.0,
        new.formatted,
        first_goes,
        subst (λ (s : State). Lives one_block DirectBatches reads_kept s 1 now) new.state
            (process_with new_core new_core, first_steps, now, (refl, λ other back. back), first_goes, follows),
        second_goes,
        right_by v new.trees session_example.0 new.formatted run reading_core (subst (λ (s : State). IsRun one_block s run reading_core) new.state is_run),
        (refl, (refl, (refl, tt))),
        (refl, (refl, tt)),
        next_is,
        record { earlier = []; command = one_read; later = []; place = refl; ticket = refl; either = inl refl },
      ),
    )
