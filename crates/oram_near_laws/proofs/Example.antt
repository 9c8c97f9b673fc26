-- A process over a host of levels that has no record sends a FETCH ahead.
use Rattle.std.proofs.Common.{◌≡◌, ◌⊎◌, arith, Bool, List, ℕ, [], ◌∷◌, replicate, Ok, refl, sym, subst, inl, inr}
use Rattle.oram_geometry.specs.Sizes.{depth_of, record_len_of}
use Rattle.oram_host.specs.Host.{Host}
use Rattle.oram_wire.specs.HostMessages.{fetch_body, payload_answer}
use Rattle.oram_levels.specs.Messages.{FetchLevels}
use Rattle.oram_semantics.specs.Scheme.{record_len}
use Rattle.oram_link_laws.specs.Examples.{new_host, one_block}
use Rattle.oram_rounds.proofs.Example.{unlaid}
use Rattle.oram_rounds.proofs.ReadingProcess.{awaits, next_is, path, reading_process_example}
use Rattle.oram_rounds.proofs.Safety.{begun_is_safe}
use Rattle.oram_rounds.specs.Examples.{zero_array}
use Rattle.oram_rounds.specs.Overlay.{IsOverlaid, holds_path}
use Rattle.oram_rounds.specs.Process.{IsSafe, Process, next_bodies}
use Rattle.oram_rounds.specs.ReadingExample.{reading_core, reads_only}
use Rattle.oram_rounds.specs.Rounds.{RoundCall, WentAhead}
use Rattle.oram_near.proofs.Example.{near_example}
use Rattle.oram_near.specs.Examples.{LevelsBatches, Maker, link_over, no_record, nothing_below, zero_records, zeros, zeros_given}
use Rattle.oram_near_laws.specs.BesideLevels.{NearBeside, NearSide}
use Rattle.oram_near_laws.specs.Example.{NextOverLevelsExample, ReadingOverLevelsExample, reading_over_levels}

long : 88 ≡ record_len one_block
unfolding record_len_of
long = refl

abbrev answer : List ℕ
answer = payload_answer zeros

-- the process with the file that the example of `oram_rounds` reads back, before and after its FETCH has gone ahead
abbrev file : List ℕ
file = reading_process_example.11.0

abbrev now : Process (NearSide Host Maker) (List ℕ)
now = reading_over_levels file

abbrev ahead : Process (NearSide Host Maker) (List ℕ)
ahead = record now { link = record now.link { ahead = zeros_given } }

-- where no STORE waits, the core receives what the host gives
unchanged : IsOverlaid one_block.device (record_len one_block) 0 0 [] answer answer
unchanged = unlaid (record_len one_block) (holds_path one_block.device (record_len one_block) 0 0 answer) (replicate 88 0)

went : (may_lie : Bool) → WentAhead (NearBeside LevelsBatches zero_records may_lie one_block) now.link (next_bodies one_block.device reading_core) zeros_given ahead.link
went may_lie =
    subst (λ (bodies : List (List ℕ)). WentAhead (NearBeside LevelsBatches zero_records may_lie one_block) now.link bodies zeros_given ahead.link) (sym next_is) (record {
      device = refl;
      record_len = refl;
      held = refl;
      does = inl (record {
        some = λ none. absurd (let both : fetch_body 0 0 ∷ [] ≡ [] = none in cc);
        paths = (path, tt);
        outcome = Ok (answer ∷ []);
        batch = (nothing_below, near_example.3, near_example.4 may_lie);
        gives = record { given = answer ∷ []; acks = []; all = refl; count = refl; either = inl (tt, refl, answer ∷ [], ((path, unchanged), (refl, refl)), 1, refl) };
      });
    })

called : (may_lie : Bool) → RoundCall (NearBeside LevelsBatches zero_records may_lie one_block) ahead.link (fetch_body 0 0) (Ok answer) [] now.link
called may_lie = record {
  device = refl;
  record_len = refl;
  does = inr (inr (inr (record {
    path = path;
    answer = answer;
    next = refl;
    given = answer;
    reported = refl;
    over = unchanged;
    none = refl;
    same = refl;
    kept = refl;
    held = refl;
  })));
}

safe : (may_lie : Bool) → IsSafe may_lie one_block reads_only now new_host zero_array zero_array
safe may_lie =
    let kept = reading_process_example.11.3 may_lie in
    elim (begun_is_safe (NearSide Host Maker) reads_only may_lie one_block (link_over no_record, no_record) [] reading_core file file new_host zero_array zero_array kept.0 kept.1 kept.2 (λ other back. back)) [
      | inl before ↦ before
      | inr after ↦ after
    ]

pub reading_over_levels_example : ReadingOverLevelsExample
reading_over_levels_example = (
  near_example.0,
  reading_process_example.1,
  record { device = refl; long = long; fits = near_example.1; completes = near_example.2 },
  (
    file,
    safe,
    λ may_lie. (let on = reading_process_example.5 may_lie in (on.0, on.1, on.2, inl refl)),
    λ may_lie. (ahead, ((went may_lie, refl), refl), (now, ((fetch_body 0 0, awaits, called may_lie, refl), refl), refl)),
  ),
)

pub next_over_levels_example : NextOverLevelsExample
next_over_levels_example = (
  record { device = refl; long = long; fits = near_example.1; completes = near_example.2 },
  (file, reading_process_example.11.3, λ other same. same),
  λ requests none are message one. absurd one,
  near_example.1,
  record { device = refl; levels = refl; record_len = refl; bytes = refl; empty = refl },
  record { requests = []; named = refl; paths = tt; stored = refl; same = refl },
  ((FetchLevels 0 0 (depth_of one_block.device 0) 0, omega arith, refl), tt),
  near_example.4,
)
