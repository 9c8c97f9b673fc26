-- A read of a block is submitted to a process, which keeps itself and sends its FETCH ahead.
use Rattle.std.proofs.Common.{◌≡◌, ℕ, ◌*◌, ◌^◌, ◌<◌, arith, Bool, true, Option, Some, None, unwrap_or, List, [], ◌∷◌, replicate, Ok, refl, sym, ap, ◌∙◌, subst, inl, inr}
use Rattle.std.specs.List.{AllByRecursion}
use Rattle.oram_geometry.specs.Least.{least_from}
use Rattle.oram_geometry.specs.Sizes.{blocks_in, level_for, trees_of}
use Rattle.oram_wire.specs.HostMessages.{fetch_body, payload_answer}
use Rattle.oram_semantics.specs.NextFetches.{first_fetches}
use Rattle.oram_semantics.specs.Moves.{Fits, moved, on_submission}
use Rattle.oram_semantics.specs.Run.{is_over, refusal_of}
use Rattle.oram_semantics.specs.Scheme.{Scheme, record_len}
use Rattle.oram_semantics.specs.State.{State, World, status_in}
use Rattle.oram_semantics.specs.declared.events.Command.TheVariants.{Read}
use Rattle.oram_semantics.specs.declared.events.Event.{Event}
use Rattle.oram_semantics.specs.declared.events.Event.TheVariants.{Answer, Reopen, Retry, Submit}
use Rattle.oram_semantics.specs.declared.events.Refusal.{Refusal}
use Rattle.oram_core.specs.PlainSteps.{Done, accepted_by, plain_step, resent_by, stalled_by, submitted_by}
use Rattle.oram_core.specs.Steps.{Steps}
use Rattle.oram_core.proofs.LocalRule.{holds_of}
use Rattle.oram_core.proofs.Quiet.{Meets, accepts_met, resends_met, stalls_met}
use Rattle.oram_session.specs.Links.{DirectCall, ToServer}
use Rattle.oram_session.specs.CoreWork.{outstanding}
use Rattle.oram_link_laws.specs.Examples.{new_core, new_host, new_server, one_block}
use Rattle.oram_link_laws.proofs.Device.{no_depth, one_tree, session_example}
use Rattle.oram_link_laws.specs.Repair.{AreAmong}
use Rattle.oram_link_laws.specs.Runs.{LinkRun}
use Rattle.oram_rounds.specs.ReadingExample.{ReadingProcessExample, reading_acts, reading_core, one_read, process_with, reads, reads_kept, shown_in}
use Rattle.oram_rounds.specs.CatchUp.{CatchesUp}
use Rattle.oram_rounds.specs.Examples.{DirectBatches, zero_array, zeros_fetched}
use Rattle.oram_rounds.specs.Overlay.{IsOverlaid, holds_path}
use Rattle.oram_rounds.specs.PathMessages.{IsPathFetch}
use Rattle.oram_rounds.specs.Process.{DoesAll, IsKept, Process, next_bodies}
use Rattle.oram_rounds.specs.Rounds.{RoundCall, WentAhead}
use Rattle.oram_rounds.specs.Service.{IsServed, WillHoldAfter}
use Rattle.oram_rounds.proofs.AheadInTurn.{nothing_ahead_is_in_turn}
use Rattle.oram_rounds.proofs.ReadingCore.{file_bytes, is_file, message_is, sound}
use Rattle.oram_rounds.proofs.Example.{one_waits_example, unlaid}
use Rattle.oram_rounds.proofs.Start.{held_goes_on, held_is_safe, served_submitted}

-- the steps of the core

plain_steps : (v : Scheme) (s : State) (event : Event) (d : Done) → plain_step v s event ≡ Some d → ((w : World) → Fits v s w → Meets v s w (moved v s w event) d)
    → ((bytes : List ℕ) → event ≡ Answer bytes → ⊥) → Steps v s event (shown_in d) d.state
plain_steps v s event d is met unheard = record {
  plain = λ e plain. ap (λ (o : Option Done). unwrap_or o d) (sym is ∙ plain);
  heard = λ bytes answer waits other. absurd (unheard bytes answer);
  verdict = λ bytes answer waits other. absurd (unheard bytes answer);
  moves = λ w fits apart. met w fits;
}

free : refusal_of one_block.device (is_over (status_in new_core)) 0 0 (Read 0) (0 ∷ 0 ∷ []) ≡ None
unfolding trees_of blocks_in least_from
free = refl

pub accepts : Steps one_block new_core (Submit 0 (Read 0) (0 ∷ 0 ∷ [])) reads.shown reading_core
accepts =
    plain_steps one_block new_core (Submit 0 (Read 0) (0 ∷ 0 ∷ [])) (accepted_by one_block new_core one_read) (ap (λ (o : Option Refusal). Some (submitted_by one_block new_core one_read o)) free)
    (λ w fits. subst (λ (o : Option Refusal). Meets one_block new_core w (on_submission one_block new_core w one_read o) (accepted_by one_block new_core one_read)) (sym free)
    (accepts_met one_block new_core w one_read (holds_of one_block new_core w fits)))
    (λ bytes answer. absurd (let no_way : Submit 0 (Read 0) (0 ∷ 0 ∷ []) ≡ Answer bytes = answer in cc))

abbrev pub lost_core : State
lost_core = (stalled_by reading_core).state

pub loses : Steps one_block reading_core Reopen (shown_in (stalled_by reading_core)) lost_core
loses =
    plain_steps one_block reading_core Reopen (stalled_by reading_core) refl
    (λ w fits. stalls_met one_block reading_core w (holds_of one_block reading_core w fits)) (λ bytes answer. absurd (let no_way : Reopen ≡ Answer bytes = answer in cc))

pub sends_again : Steps one_block lost_core Retry (shown_in (resent_by lost_core)) reading_core
sends_again =
    plain_steps one_block lost_core Retry (resent_by lost_core) refl
    (λ w fits. resends_met one_block lost_core w (holds_of one_block lost_core w fits)) (λ bytes answer. absurd (let no_way : Retry ≡ Answer bytes = answer in cc))

pub awaits : outstanding reading_core ≡ Some (fetch_body 0 0)
awaits = ap (λ (m : List ℕ). Some m) message_is

-- the FETCH and its answer

abbrev pub path : IsPathFetch one_block.device (fetch_body 0 0)
path = record {
  tree = 0;
  leaf = 0;
  tree_in = omega (arith, one_tree);
  leaf_in = let P : ℕ → Type 0 = λ d. 0 < 2 ^ d in subst P no_depth (omega arith);
  named = refl;
}

ran : LinkRun DirectCall new_server zeros_fetched new_server
ran = elim one_waits_example.2.does [
  | inl holds ↦ absurd (let some = holds.none in cc)
  | inr (inl f) ↦ f.batch.0
  | inr (inr (inl declines)) ↦ absurd (let some = declines.none in cc)
  | inr (inr (inr takes)) ↦ absurd (let some = takes.none in cc)
]

abbrev pub now : Process ToServer (List (List ℕ) × State)
now = process_with reading_core reading_core

-- the same, where the FETCH has gone ahead
abbrev pub now_ahead : Process ToServer (List (List ℕ) × State)
now_ahead = record now { link = record now.link { ahead = zeros_fetched } }

pub next_is : next_bodies one_block.device reading_core ≡ fetch_body 0 0 ∷ []
unfolding first_fetches trees_of blocks_in level_for least_from
next_is = refl

abbrev pub answer : List ℕ
answer = payload_answer (replicate 88 0)

-- where no STORE waits, the core receives what the host gives
unchanged : IsOverlaid one_block.device (record_len one_block) 0 0 [] answer answer
unchanged = unlaid (record_len one_block) (holds_path one_block.device (record_len one_block) 0 0 answer) (replicate 88 0)

pub went : WentAhead DirectBatches now.link (next_bodies one_block.device reading_core) zeros_fetched now_ahead.link
went =
    subst (λ (bodies : List (List ℕ)). WentAhead DirectBatches now.link bodies zeros_fetched now_ahead.link) (sym next_is) (record {
      device = refl;
      record_len = refl;
      held = refl;
      does = inl (record {
        some = λ none. absurd (let both : fetch_body 0 0 ∷ [] ≡ [] = none in cc);
        paths = (path, tt);
        outcome = Ok (answer ∷ []);
        batch = (ran, (refl, [], tt, refl));
        gives = record { given = answer ∷ []; acks = []; all = refl; count = refl; either = inl (tt, refl, answer ∷ [], ((path, unchanged), (refl, refl)), 1, refl) };
      });
    })

pub called : RoundCall DirectBatches now_ahead.link (fetch_body 0 0) (Ok answer) [] now.link
called = record {
  device = refl;
  record_len = refl;
  does = inr (inr (inr (record {
    path = path;
    answer = answer;
    next = refl;
    given = answer;
    reported = refl;
    over = unchanged;
    none = refl;
    same = refl;
    kept = refl;
    held = refl;
  })));
}

-- what the process does

acts_done : DoesAll one_block DirectBatches reads_kept (process_with reading_core new_core) reading_acts now
acts_done = (
  process_with lost_core new_core,
  ((inl refl, loses, refl), refl),
  (process_with reading_core new_core, ((inr refl, sends_again, refl), refl), (now, (λ bytes back. back, refl, refl, inl refl), (now_ahead, ((went, refl), refl), (now, ((fetch_body 0 0, awaits, called, refl), refl), refl)))),
)

served : IsServed one_block reading_core new_host zero_array
served =
    let on = held_goes_on one_block new_core new_host zero_array session_example.1 in
    served_submitted true one_block session_example.0 new_core reading_core reads new_host zero_array accepts on.1

caught : CatchesUp one_block new_host [] new_host
caught = (held_goes_on one_block new_core new_host zero_array session_example.1).0

holds : (may_lie : Bool) → WillHoldAfter may_lie one_block reading_core [] new_host zero_array
holds may_lie = (new_host, caught, inl (zero_array, served, refl))

kept : (may_lie : Bool) → (k : IsKept may_lie one_block [] file_bytes new_host zero_array zero_array) × (k.stores ≡ []) × (k.core ≡ reading_core)
kept may_lie = (record { stores = []; core = reading_core; file = is_file; covers = λ b among. among; holds = inl (holds may_lie) }, refl, refl)

pub reading_process_example : ReadingProcessExample
reading_process_example = (
  λ l m bodies o exchanges h. h.1,
  session_example.0,
  (reading_core, (refl, ap (λ (n : ℕ). replicate (2 * n) 0) (sym one_tree), accepts), refl),
  (process_with reading_core new_core, (accepts, refl, refl), refl),
  λ may_lie. held_is_safe ToServer reads_kept may_lie one_block new_server new_core ([], new_core) new_host zero_array session_example.1 (λ bytes back. back),
  λ may_lie. (new_host, caught, served, inl refl),
  sound,
  nothing_ahead_is_in_turn ToServer one_block.device 0 reading_core (process_with reading_core new_core).link sound refl,
  acts_done,
  λ may_lie. one_waits_example.3 may_lie,
  next_is,
  (
    file_bytes,
    is_file,
    (is_file, inr (subst (AllByRecursion (IsPathFetch one_block.device)) (sym next_is) (path, tt), subst (AreAmong (fetch_body 0 0 ∷ [])) (sym next_is) (inl refl, tt))),
    kept,
    λ other back. back,
  ),
)
