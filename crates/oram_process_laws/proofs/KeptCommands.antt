-- The messages of a run are entries of the commands that it has accepted.
use Rattle.std.proofs.Common.{◌≡◌, ℕ, zero, suc, ◌+◌, ◌-◌, ◌*◌, ◌<◌, ◌≤◌, arith, Bool, true, false, if◌then◌else◌, List, [], ◌∷◌, ◌++◌, length, map, take, slice_index, refl, sym, ap, ◌∙◌, subst, inl, inr, append-nil, length-append}
use Rattle.std.specs.List.{All, range_with_len}
use Rattle.std.proofs.lemmas.List.Elements.{All-head, All-tail}
use Rattle.std.proofs.lemmas.Grind.{flat_map-append}
use Rattle.std.proofs.lemmas.List.{get_or_append_left, length-map, map-append}
use Rattle.oram_geometry.specs.Sizes.{trees_of}
use Rattle.oram_trace.specs.Tape.{entry}
use Rattle.oram_trace.specs.declared.entries.Entry.{Entry}
use Rattle.oram_semantics.specs.Events.{address_of, addresses, tape}
use Rattle.oram_semantics.specs.InTurn.{IsOfAccepted}
use Rattle.oram_semantics.specs.Law.{StepsTo}
use Rattle.oram_semantics.specs.Messages.{IsMessage}
use Rattle.oram_semantics.specs.Progress.{Setting, Step, accepted, entries, entry_at, sent}
use Rattle.oram_semantics.specs.Run.{AllRight, AskFor, IsRight, SendsRight, Shown, entries_sent, is_accepted, is_resent, step_of}
use Rattle.oram_semantics.specs.declared.events.Event.{Event}
use Rattle.oram_semantics.specs.declared.events.Event.TheVariants.{Answer, Lost, Reopen, Retry, Submit}
use Rattle.oram_semantics.specs.declared.events.Submission.{Submission}
use Rattle.oram_semantics.proofs.Counts.{accepted_cons, sent_cons}
use Rattle.oram_semantics.proofs.FirstEntries.{entry_same}
use Rattle.oram_semantics.proofs.Pasts.{Adds, adds, brings}
use Rattle.oram_link_laws.specs.Repair.{IsAmong}
use Rattle.oram_process_laws.specs.KeptCommands.{KeptCommandsFixMessages, NextFetchesAreOfCommands, ShowsNoPair, past_after}
use Rattle.oram_semantics.specs.State.{State}
use Rattle.oram_semantics.proofs.NextEntries.{next_fetches_are_entries}
use Rattle.oram_rounds.specs.Process.{next_bodies}
use Rattle.oram_process_laws.specs.Lives.{Happening, IsRun, SubmitsNone, is_submission, sends_of}
use Rattle.oram_process_laws.proofs.Sends.{among_back, among_either}
use Rattle.oram_rounds.proofs.Tries.{among_front}

-- what a longer past has

pub past_join : (past : List Step) (early since : List Happening) → past_after past (early ++ since) ≡ past_after (past_after past early) since
past_join past [] since = refl
past_join past (h ∷ early) since = past_join (step_of h.event h.shown ∷ past) early since

sent_more : (step : Step) (past : List Step) (b : List ℕ) → IsAmong b (sent past) → IsAmong b (sent (step ∷ past))
sent_more step past b among = subst (IsAmong b) (sym (sent_cons step past)) (among_back step.sends (sent past) b among)

sent_after : (run : List Happening) (past : List Step) (b : List ℕ) → IsAmong b (sent past) → IsAmong b (sent (past_after past run))
sent_after [] past b among = among
sent_after (h ∷ run) past b among = sent_after run (step_of h.event h.shown ∷ past) b (sent_more (step_of h.event h.shown) past b among)

sends_after : (run : List Happening) (past : List Step) (b : List ℕ) → IsAmong b (sends_of run) → IsAmong b (sent (past_after past run))
sends_after [] past b among = absurd among
sends_after (h ∷ run) past b among =
    let step : Step = step_of h.event h.shown in
    elim (among_either h.shown.sends (sends_of run) b among) [
      | inl now ↦ sent_after run (step ∷ past) b (subst (IsAmong b) (sym (sent_cons step past)) (among_front h.shown.sends (sent past) b now))
      | inr later ↦ sends_after run (step ∷ past) b later
    ]

-- without a submission nothing is accepted

if_same : (b : Bool) (all : List Submission) → (if b then all ++ [] else all) ≡ all
if_same true all = append-nil all
if_same false all = refl

accepts_none : (event : Event) (x : Shown) (past : List Step) → is_submission event ≡ false → accepted (step_of event x ∷ past) ≡ accepted past
accepts_none (Submit session c words) x past none = absurd cc
accepts_none (Answer bytes) x past none = accepted_cons (step_of (Answer bytes) x) past ∙ if_same (is_accepted x.note) (accepted past)
accepts_none Lost x past none = accepted_cons (step_of Lost x) past ∙ if_same (is_accepted x.note) (accepted past)
accepts_none Reopen x past none = accepted_cons (step_of Reopen x) past ∙ if_same (is_accepted x.note) (accepted past)
accepts_none Retry x past none = accepted_cons (step_of Retry x) past ∙ if_same (is_accepted x.note) (accepted past)

pub accepted_same : (since : List Happening) (past : List Step) → SubmitsNone since → accepted (past_after past since) ≡ accepted past
accepted_same [] past none = refl
accepted_same (h ∷ since) past none =
    accepted_same since (step_of h.event h.shown ∷ past) none.1 ∙ accepts_none h.event h.shown past none.0

module _ (v : Setting) where
  -- the entry at a number of these commands
  abbrev IsAt : List Submission → ℕ → List ℕ → Type 0
  IsAt all m b = IsMessage v.scheme (entry v.scheme.device (addresses all) (tape all) m) b

  -- each command has as many words as the device requires, and all that was sent are entries
  record AreEntries (past : List Step) : Type 0 where
    words : length (tape (accepted past)) ≡ 2 * trees_of v.scheme.device * length (accepted past)
    each : (b : List ℕ) → IsAmong b (sent past) → IsOfAccepted v past b

  -- more commands don't change the entries of those before
  entry_stays : (all more : List Submission) (m : ℕ) → length (tape all) ≡ 2 * trees_of v.scheme.device * length all → m < 2 * trees_of v.scheme.device * length all
      → entry v.scheme.device (addresses (all ++ more)) (tape (all ++ more)) m ≡ entry v.scheme.device (addresses all) (tape all) m
  entry_stays all more m words within =
      entry_same v.scheme.device (addresses (all ++ more)) (addresses all) (tape (all ++ more)) (tape all) (length all) m within
      (λ k below.
      ap (λ (xs : List ℕ). slice_index xs k) (map-append (λ (s : Submission). address_of s.command) all more)
      ∙ get_or_append_left (addresses all) (addresses more) 0 k (omega (arith, below, length-map all (λ (s : Submission). address_of s.command))))
      (λ k below.
      ap (λ (xs : List ℕ). slice_index xs k) (flat_map-append (λ (s : Submission). s.words) all more)
      ∙ get_or_append_left (tape all) (tape more) 0 k (omega (arith, below, words)))

  entry_more : (past : List Step) (step : Step) (n m : ℕ) → AreEntries past → Adds v past step n → m < entries v past → entry_at v (step ∷ past) m ≡ entry_at v past m
  entry_more past step n m are a within =
      ap (λ (all : List Submission). entry v.scheme.device (addresses all) (tape all) m) a.accepted_is
      ∙ entry_stays (accepted past) a.more m are.words within

  within_more : (past : List Step) (step : Step) (n m : ℕ) → Adds v past step n → m < entries v past → m < entries v (step ∷ past)
  within_more past step n m a within =
      let count : length (accepted (step ∷ past)) ≡ length (accepted past) + length a.more = ap length a.accepted_is ∙ length-append (accepted past) a.more in
      let P : ℕ → Type 0 = λ k. m < 2 * trees_of v.scheme.device * k in
      subst P (sym count) (omega (arith, within))

  words_more : (past : List Step) (step : Step) (n : ℕ) → AreEntries past → Adds v past step n
      → length (tape (accepted (step ∷ past))) ≡ 2 * trees_of v.scheme.device * length (accepted (step ∷ past))
  words_more past step n are a =
      let count : length (accepted (step ∷ past)) ≡ length (accepted past) + n = ap length a.accepted_is ∙ length-append (accepted past) a.more ∙ ap (λ (k : ℕ). length (accepted past) + k) a.count in
      let joined : length (tape (accepted (step ∷ past))) ≡ length (tape (accepted past)) + length (tape a.more) =
      ap (λ (all : List Submission). length (tape all)) a.accepted_is ∙ ap length (flat_map-append (λ (s : Submission). s.words) (accepted past) a.more)
      ∙ length-append (tape (accepted past)) (tape a.more) in
      let P : ℕ → Type 0 = λ k. length (tape (accepted (step ∷ past))) ≡ 2 * trees_of v.scheme.device * k in
      subst P (sym count) (omega (arith, joined, are.words, a.words))

  -- one of the messages that ask for entries

  asked_for : (past : List Step) (s n : ℕ) (xs : List (List ℕ)) (b : List ℕ) → AskFor v past (range_with_len s n) xs → IsAmong b xs
      → (m : ℕ) × (s ≤ m) × (m < s + n) × IsMessage v.scheme (entry_at v past m) b
  asked_for past s zero [] b ask among = absurd among
  asked_for past s zero (x ∷ xs) b ask among = absurd ask
  asked_for past s (suc n) [] b ask among = absurd among
  asked_for past s (suc n) (x ∷ xs) b ask (inl same) =
      (s, omega arith, omega arith, subst (λ (y : List ℕ). IsMessage v.scheme (entry_at v past s) y) (sym same) ask.0)
  asked_for past s (suc n) (x ∷ xs) b ask (inr later) =
      let k = asked_for past (s + 1) n xs b ask.1 later in
      let low = k.1 in
      let high = k.2 in
      (k.0, omega (arith, low), omega (arith, high), k.3)

  newest_sent : (older : List (List ℕ)) (b : List ℕ) → IsAmong b (take 1 older) → IsAmong b older
  newest_sent [] b among = absurd among
  newest_sent (m ∷ older) b (inl same) = inl same
  newest_sent (m ∷ older) b (inr none) = absurd none

  now_sent : (past : List Step) (step : Step) (n : ℕ) (resent : Bool) → AreEntries past → Adds v past step n → SendsRight v past step resent → (b : List ℕ) → IsAmong b step.sends
      → IsOfAccepted v (step ∷ past) b
  now_sent past step n true are a right b among =
      let e : IsOfAccepted v past b = are.each b (newest_sent (sent past) b (subst (IsAmong b) right among)) in
      record {
        number = e.number;
        within = within_more past step n e.number a e.within;
        message = subst (λ (k : Entry). IsMessage v.scheme k b) (sym (entry_more past step n e.number are a e.within)) e.message;
      }
  now_sent past step n false are a right b among =
      let low : ℕ = entries_sent v past in
      let high : ℕ = entries_sent v (step ∷ past) in
      let k = asked_for (step ∷ past) low (high - low) step.sends b right among in
      let least = k.1 in
      let most = k.2 in
      let few : high ≤ entries v (step ∷ past) = omega arith in
      record { number = k.0; within = omega (arith, least, most, few); message = k.3 }

  one_step : (past : List Step) (event : Event) (x : Shown) → AreEntries past → IsRight v past event x → AreEntries (step_of event x ∷ past)
  one_step past event x are right =
      let step : Step = step_of event x in
      let n : ℕ = brings x.note in
      let a : Adds v past step n = adds v past event x right.note in
      record {
        words = words_more past step n are a;
        each = λ b among. elim (among_either x.sends (sent past) b (subst (IsAmong b) (sent_cons step past) among)) [
          | inl now ↦ now_sent past step n (is_resent x.note) are a right.sends b now
          | inr was ↦
              let e : IsOfAccepted v past b = are.each b was in
              record {
                number = e.number;
                within = within_more past step n e.number a e.within;
                message = subst (λ (k : Entry). IsMessage v.scheme k b) (sym (entry_more past step n e.number are a e.within)) e.message;
              }
        ];
      }

  abbrev Right : List Step → List Happening → Type 0
  Right past run = AllRight v past (map (λ (h : Happening). h.event) run) (map (λ (h : Happening). h.shown) run)

  all_entries : (run : List Happening) (past : List Step) → AreEntries past → Right past run → ShowsNoPair v past run → AreEntries (past_after past run)
  all_entries [] past are right apart = are
  all_entries (h ∷ run) past are right apart =
      let now = right apart.0 in
      all_entries run (step_of h.event h.shown ∷ past) (one_step past h.event h.shown are now.0) now.1 apart.1

  all_stay : (run : List Happening) (past : List Step) (m : ℕ) → AreEntries past → Right past run → ShowsNoPair v past run → m < entries v past
      → entry_at v (past_after past run) m ≡ entry_at v past m
  all_stay [] past m are right apart within = refl
  all_stay (h ∷ run) past m are right apart within =
      let now = right apart.0 in
      let step : Step = step_of h.event h.shown in
      let n : ℕ = brings h.shown.note in
      let a : Adds v past step n = adds v past h.event h.shown now.0.note in
      all_stay run (step ∷ past) m (one_step past h.event h.shown are now.0) now.1 apart.1 (within_more past step n m a within)
      ∙ entry_more past step n m are a within

  early_stay : (early since : List Happening) (past : List Step) (m : ℕ) → AreEntries past → Right past (early ++ since) → ShowsNoPair v past (early ++ since)
      → m < entries v (past_after past early) → entry_at v (past_after past (early ++ since)) m ≡ entry_at v (past_after past early) m
  early_stay [] since past m are right apart within = all_stay since past m are right apart within
  early_stay (h ∷ early) since past m are right apart within =
      let now = right apart.0 in
      early_stay early since (step_of h.event h.shown ∷ past) m (one_step past h.event h.shown are now.0) now.1 apart.1 within

  none_yet : AreEntries []
  unfolding accepted sent
  none_yet = record { words = omega arith; each = λ b among. absurd among }

  sent_entries : (early since : List Happening) → Right [] (early ++ since) → ShowsNoPair v [] (early ++ since) → SubmitsNone since → (b : List ℕ) → IsAmong b (sends_of (early ++ since))
      → IsOfAccepted v (past_after [] early) b
  sent_entries early since right apart none b among =
      let are = all_entries (early ++ since) [] none_yet right apart in
      let e : IsOfAccepted v (past_after [] (early ++ since)) b = are.each b (sends_after (early ++ since) [] b among) in
      let same : accepted (past_after [] (early ++ since)) ≡ accepted (past_after [] early) =
      ap accepted (past_join [] early since) ∙ accepted_same since (past_after [] early) none in
      let P : List Submission → Type 0 = λ all. e.number < 2 * trees_of v.scheme.device * length all in
      record { number = e.number; within = subst P same e.within; message = subst (λ (all : List Submission). IsAt all e.number b) same e.message }

pub kept_commands_fix_messages : KeptCommandsFixMessages
kept_commands_fix_messages v trees early since core right apart = (
  λ none body among. sent_entries v early since right.1 apart none body among,
  λ number within. early_stay v early since [] number (none_yet v) right.1 apart within,
)

-- the steps of a run, as the law of next FETCHes has them

steps_to : (v : Setting) (run : List Happening) (past : List Step) (s t : State) → IsRun v.scheme s run t → ShowsNoPair v past run
    → StepsTo v past s (map (λ (h : Happening). h.event) run) (map (λ (h : Happening). h.shown) run) (past_after past run) t
steps_to v [] past s t is_run apart = (refl, sym is_run)
steps_to v (h ∷ run) past s t is_run apart = (is_run.0, is_run.1.moves, apart.0, steps_to v run (step_of h.event h.shown ∷ past) is_run.0 t is_run.2 apart.1)

among_all : (P : List ℕ → Type 0) (xs : List (List ℕ)) (b : List ℕ) → All P xs → IsAmong b xs → P b
among_all P [] b all among = absurd among
among_all P (x ∷ xs) b all (inl same) = subst P (sym same) (All-head P x xs all)
among_all P (x ∷ xs) b all (inr later) = among_all P xs b (All-tail P x xs all) later

pub next_fetches_are_of_commands : NextFetchesAreOfCommands
next_fetches_are_of_commands v trees run core device made right apart body among =
    let next = next_fetches_are_entries v trees (map (λ (h : Happening). h.event) run) (map (λ (h : Happening). h.shown) run) (past_after [] run) core device made
    (steps_to v run [] _ core right.0 apart) in
    among_all (IsOfAccepted v (past_after [] run)) (next_bodies v.scheme.device core) body next.messages among
