-- From one step to a whole run.
use Rattle.std.proofs.Common.{◌≡◌, ℕ, false, ◌-◌, List, [], ◌∷◌, refl, ap, sym, ◌∙◌, arith}
use Rattle.std.proofs.lemmas.List.{get_or-replicate, length-replicate}
use Rattle.oram_geometry.specs.Sizes.{trees_of, blocks_in}
use Rattle.oram_semantics.specs.Progress.{Setting, Step, accepted, progress}
use Rattle.oram_semantics.specs.Content.{map_entry_in}
use Rattle.oram_tree.specs.State.{State as Tree}
use Rattle.oram_semantics.specs.Run.{shows_pair, Shown, step_of, AllRight}
use Rattle.oram_semantics.specs.State.{State, AllStand}
use Rattle.oram_semantics.specs.Law.{StepsByRule, StepsAlong, StepsAreRight, world_of, new_state}
use Rattle.oram_semantics.specs.declared.events.Event.{Event}
use Rattle.oram_semantics.proofs.Bounds.{IsFit, fit_device}
use Rattle.oram_semantics.proofs.Follows.{Follows, applied_none}
use Rattle.oram_semantics.proofs.Keeps.{Kept, fits, pair_same}
use Rattle.oram_semantics.proofs.Others.{all_none}
use Rattle.oram_semantics.proofs.Nonces.{nonce_new}
use Rattle.oram_semantics.proofs.Formatting.{formatted_holds}
use Rattle.oram_semantics.proofs.Steps.{keeps}

-- one step by the contract, from a core that follows the past
pub one_step : (v : Setting) (past : List Step) (s t : State) (event : Event) (x : Shown) → IsFit v.scheme.device
    → Follows v past s → StepsByRule v.scheme s event x t → shows_pair v past event ≡ false → Kept v past event x t
one_step v past s t event x fit f step apart =
    keeps v past s t event x fit f (step (world_of v past) (fits v past s f.old s.failure refl fit f.follows) (pair_same v past s f.old event s.failure refl fit f.follows ∙ apart))

-- everything that follows is right
pub along : (v : Setting) (past : List Step) (s : State) (events : List Event) (xs : List Shown) → IsFit v.scheme.device
    → Follows v past s → StepsAlong v.scheme s events xs → AllRight v past events xs
along v past s events [] fit f run = tt
along v past s [] (x ∷ xs) fit f run = run
along v past s (event ∷ events) (x ∷ xs) fit f run = λ apart.
    let k = one_step v past s run.0 event x fit f run.1 apart in
    (k.right, along v (step_of event x ∷ past) run.0 events xs fit k.follows run.2)

-- a core that has just been formatted follows the empty past
pub new_follows : (v : Setting) (trees : List Tree) → IsFit v.scheme.device
    → AllStand v.scheme (new_state v trees) (world_of v []) → Follows v [] (new_state v trees)
unfolding progress accepted map_entry_in
new_follows v trees fit holds =
    let d = v.scheme.device in
    let n : ℕ = blocks_in d (trees_of d - 1) in
    record {
      old = [];
      follows = (
        record {
          alive = refl;
          lost = refl;
          good = omega arith;
          split = refl;
          words = tt;
          allowed = all_none _;
          tickets = tt;
          next = refl;
          nonce = sym (nonce_new v fit.some);
          sized = length-replicate n 0;
          table = λ a below. get_or-replicate n a 0 0 below ∙ sym (ap (λ xs. map_entry_in d (trees_of d - 1) xs a) (applied_none d [] [] (trees_of d - 1)));
          work = record { entry_number = refl; calm = refl };
        },
        holds,
      );
    }

pub steps_are_right : StepsAreRight
steps_are_right v trees events xs is made run =
    along v [] (new_state v trees) events xs (fit_device v.scheme.device is) (new_follows v trees (fit_device v.scheme.device is) (formatted_holds v trees made)) run
