-- The device of one block as it was formatted.
use Rattle.std.proofs.Common.{refl, inr}
use Rattle.oram_rounds.proofs.NewProcess.{new_process_example}
use Rattle.oram_rounds.specs.Examples.{zero_array}
use Rattle.oram_volume.specs.Examples.{NextProcessExample}

pub next_process_example : NextProcessExample
next_process_example =
    let device = new_process_example.1 in
    let safe = new_process_example.3 in (
      new_process_example.0,
      device,
      record { long = λ a within. refl; all = refl },
      λ may_lie words. record {
        before = zero_array;
        array = zero_array;
        keeps = record { same = refl; device = device; safe = safe may_lie; no_work = λ none. refl };
        laid_before = record { long = λ a within. refl; all = refl };
        laid = record { long = λ a within. refl; all = refl };
      },
      λ file is. (inr is, refl),
      λ may_lie file is. (safe may_lie).kept file is,
      λ may_lie. refl,
    )
