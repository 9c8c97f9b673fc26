-- What is ahead stands in the core's next FETCHes, one behind the other.
use Rattle.std.proofs.Common.{◌≡◌, ◌⊎◌, ℕ, ◌<◌, arith, zero, suc, Bool, true, false, List, [], ◌∷◌, ◌++◌, length, slice_index, take, drop, Option, Some, None, Ok, Err, refl, sym, ap, ◌∙◌, subst, inl, inr, append_assoc}
use Rattle.std.specs.Prelude.{MatchResult}
use Rattle.std.proofs.lemmas.List.{map-append, take-append-drop}
use Rattle.std.specs.List.{flat_map}
use Rattle.oram_geometry.specs.declared.Sizes.{Sizes}
use Rattle.oram_geometry.specs.Sizes.{IsDevice}
use Rattle.oram_host.specs.Host.{Host}
use Rattle.oram_trace.specs.declared.entries.Entry.{Entry}
use Rattle.oram_wire.specs.HostMessages.{fetch_body, store_body}
use Rattle.oram_semantics.specs.InTurn.{AsksInTurn, StepsInTurn}
use Rattle.oram_semantics.specs.NextFetches.{fetch_bodies, next_fetches}
use Rattle.oram_semantics.specs.Progress.{Status}
use Rattle.oram_semantics.specs.Progress.Status.{Idle, Over, Stalling, Waiting}
use Rattle.oram_semantics.specs.Run.{Shown, is_accepted}
use Rattle.oram_semantics.specs.Scheme.{Scheme, record_len}
use Rattle.oram_semantics.specs.State.{State, status_by, status_in}
use Rattle.oram_semantics.specs.declared.events.Event.{Event}
use Rattle.oram_semantics.specs.declared.events.Event.TheVariants.{Reopen, Retry}
use Rattle.oram_semantics.specs.declared.events.Note.TheVariants.{Stalled, Taken}
use Rattle.oram_semantics.specs.declared.events.Reason.{Reason}
use Rattle.oram_semantics.specs.declared.events.Submission.{Submission}
use Rattle.oram_core.specs.PlainSteps.{Done as Did, lost_by, retried_by}
use Rattle.oram_core.specs.Steps.{Heard, Steps, did}
use Rattle.oram_core.proofs.InTurn.{sound_cores_are_in_turn}
use Rattle.oram_session.specs.Exchanges.{event_of, is_stall}
use Rattle.oram_session.specs.Honesty.{HasFailed}
use Rattle.oram_session.specs.Outcome.{Outcome}
use Rattle.oram_session.proofs.CoreSteps.{heard_is, stalled}
use Rattle.oram_session.proofs.Honesty.{waits_by}
use Rattle.oram_link_laws.specs.Runs.{Exchange, bodies_of}
use Rattle.oram_link_laws.proofs.Exchanged.{folds_split}
use Rattle.oram_rounds.specs.AheadInTurn.{AheadIsNotSent, AheadStaysInTurn, IsAheadInTurn, NothingAheadIsInTurn}
use Rattle.oram_rounds.specs.Batches.{BatchOutcome, answered}
use Rattle.oram_rounds.specs.CatchUp.{IsPlainCall, PlainRun}
use Rattle.oram_rounds.specs.Law.{AreBatches}
use Rattle.oram_rounds.specs.Process.{Act, Does, DoesAll, IsGoingOn, Process, exchanges_of, next_bodies}
use Rattle.oram_rounds.specs.Process.Act.{Calls, GoesAhead, Hears, Keeps, Misses}
use Rattle.oram_rounds.specs.Rounds.{BreaksAhead, GivesAhead, LeavesAhead, IsFirstAhead, Round, RoundCall, WentAhead}
use Rattle.oram_rounds.proofs.Replies.{goes_on, same_device, stays_failed}
use Rattle.oram_rounds.proofs.Safety.{called}
use Rattle.oram_rounds.proofs.Steps.{step_in_turn}

-- a list of FETCHes that begins with a message
named_fetch : (fetches : List Entry) (m : List ℕ) (rest : List (List ℕ)) → fetch_bodies fetches ≡ m ∷ rest → (e : Entry) × (m ≡ fetch_body e.tree e.leaf)
named_fetch [] m rest is = absurd (let both : [] ≡ m ∷ rest = is in cc)
named_fetch (e ∷ fetches) m rest is = (e, let both : fetch_body e.tree e.leaf ∷ fetch_bodies fetches ≡ m ∷ rest = is in cc)

-- no FETCH is a STORE
pub fetch_or_store : (i l j k : ℕ) (records : List ℕ) → fetch_body i l ≡ store_body j k records → ⊥
fetch_or_store i l j k records same = let numbers : 1 ≡ 2 = ap (λ (b : List ℕ). slice_index b 0) same in omega (arith, numbers)

first_ahead : (ahead : List Exchange) (m : List ℕ) (rest : List (List ℕ)) → bodies_of ahead ≡ m ∷ rest → IsFirstAhead ahead m
first_ahead [] m rest is = absurd (let both : [] ≡ m ∷ rest = is in cc)
first_ahead (e ∷ ahead) m rest is = let both : e.0 ∷ bodies_of ahead ≡ m ∷ rest = is in cc

-- Messages that stand one behind the other in a list of messages, and what becomes of them when the first message of the list has gone.
abbrev Stand : List (List ℕ) → List (List ℕ) → Type 0
Stand all some = (before behind : List (List ℕ)) × (all ≡ before ++ (some ++ behind))

first_gone : (before some behind rest : List (List ℕ)) (b : List ℕ) → b ∷ rest ≡ before ++ (some ++ behind) → (before ≡ [] → Stand rest some) → Stand rest some
first_gone [] some behind rest b same none = none refl
first_gone (x ∷ before) some behind rest b same none = (before, behind, let both : b ∷ rest ≡ x ∷ (before ++ (some ++ behind)) = same in cc)

one_less : (all before some behind : List (List ℕ)) (b : List ℕ) → all ≡ before ++ ((b ∷ some) ++ behind) → Stand all some
one_less all before some behind b same = (before ++ b ∷ [], behind, same ∙ sym (append_assoc before (b ∷ []) (some ++ behind)))

none_stand : (all : List (List ℕ)) → Stand all []
none_stand all = ([], all, refl)

queue_waits : (f : Option Reason) (queue : List Submission) (lost : Bool) → status_by f queue lost ≡ Waiting → 0 < length queue
queue_waits (Some e) queue lost waits = absurd (let both : Over ≡ Waiting = waits in cc)
queue_waits None [] lost waits = absurd (let both : Idle ≡ Waiting = waits in cc)
queue_waits None (x ∷ queue) lost waits = omega arith

zero_or_more : (n : ℕ) → (n ≡ 0) ⊎ (0 < n)
zero_or_more zero = inl refl
zero_or_more (suc n) = inr (omega arith)

-- the core's next FETCHes, once it has heard of a call

taken_note : (v : Scheme) (s : State) (d : Did) → Heard v s d → d.state.failure ≡ None → d.note ≡ Taken
taken_note v s d (inl fails) alive = absurd (let both = sym (ap (λ (t : State). t.failure) fails.state) ∙ alive in cc)
taken_note v s d (inr (inl on)) alive = on.note
taken_note v s d (inr (inr replies)) alive = ap (λ (e : Did). e.note) replies.does

-- All of the next FETCHes stay; or the call hasn't stalled, and the answer to the first of them has come.
abbrev Moved : Scheme → State → State → Outcome → Type 0
Moved v s t o = (next_bodies v.device t ≡ next_bodies v.device s)
    ⊎ ((is_stall o ≡ false) × (s.entry_number ≡ 0) × (b : List ℕ) × (next_bodies v.device s ≡ b ∷ next_bodies v.device t))

moved_by : (v : Scheme) (s t : State) (o : Outcome) (x : Shown) (stuck : Bool) → is_stall o ≡ stuck → status_in s ≡ Waiting → Steps v s (event_of o) x t → t.failure ≡ None
    → StepsInTurn v.device s x t → Moved v s t o
moved_by v s t o x true stuck waits step alive turn =
    let note : x.note ≡ Stalled = ap (λ (d : Did). d.note) (stalled v s t o x waits stuck step) in
    inl (ap fetch_bodies (turn.same (ap is_accepted note) (λ taken. absurd (let both : Stalled ≡ Taken = sym note ∙ taken in cc))))
moved_by v s t o x false heard waits step alive turn =
    let note : x.note ≡ Taken = taken_note v s (did x t) (heard_is v s t o x waits heard step) alive in
    elim (zero_or_more s.entry_number) [
      | inl none ↦ let e = turn.taken note none in inr (heard, none, fetch_body e.0.tree e.0.leaf, ap fetch_bodies e.1)
      | inr some ↦ inl (ap fetch_bodies (turn.same (ap is_accepted note) (λ taken none. omega (arith, some, none))))
    ]

-- one call

module _ {B : Type 0} (batches : B → List (List ℕ) → BatchOutcome → List Exchange → B → Type 0) (d : Sizes) (s : State) (l m : Round B) (message : List ℕ) (o : Outcome) (exchanges : List Exchange) (waits : status_in s ≡ Waiting) (is : message ≡ s.message) (asks : AsksInTurn d s) (call : RoundCall batches l message o exchanges m) where
  -- the first of the next FETCHes is outstanding
  outstanding_first : s.entry_number ≡ 0 → (rest : List (List ℕ)) × (next_bodies d s ≡ message ∷ rest)
  outstanding_first none =
      let first = asks.first (queue_waits s.failure s.queue s.lost waits) none in
      (first.0, first.1 ∙ ap (λ (b : List ℕ). b ∷ first.0) (sym is))

  -- where they begin with what is ahead, it is the first one ahead
  first_of_all : s.entry_number ≡ 0 → (a : Exchange) (ahead : List Exchange) (behind : List (List ℕ)) → l.ahead ≡ a ∷ ahead → next_bodies d s ≡ bodies_of l.ahead ++ behind → IsFirstAhead l.ahead message
  first_of_all none a ahead behind some all =
      let first = outstanding_first none in
      let both : message ∷ first.0 ≡ a.0 ∷ (bodies_of ahead ++ behind) = sym first.1 ∙ all ∙ ap (λ (es : List Exchange). bodies_of es ++ behind) some in
      subst (λ (es : List Exchange). IsFirstAhead es message) (sym some) (let same : a.0 ≡ message = cc in same)

  -- one of them is ahead, or none
  some_or_none : (P : Type 0) → (l.ahead ≡ [] → P) → ((a : Exchange) (ahead : List Exchange) → l.ahead ≡ a ∷ ahead → P) → P
  some_or_none P none some = by l.ahead refl
    where
      by : (es : List Exchange) → l.ahead ≡ es → P
      by [] is = none is
      by (a ∷ ahead) is = some a ahead is

  no_store : s.entry_number ≡ 0 → (j k : ℕ) (records : List ℕ) → message ≡ store_body j k records → ⊥
  no_store none j k records named =
      let first = outstanding_first none in
      let e = named_fetch (next_fetches d s) message first.0 first.1 in
      fetch_or_store e.0.tree e.0.leaf j k records (sym e.1 ∙ named)

  all_ahead : s.entry_number ≡ 0 → next_bodies d s ≡ bodies_of l.ahead → IsFirstAhead l.ahead message
  all_ahead none all = let first = outstanding_first none in first_ahead l.ahead message first.0 (sym all ∙ first.1)

  pub not_sent : s.entry_number ≡ 0 → next_bodies d s ≡ bodies_of l.ahead → exchanges ≡ []
  not_sent none all = elim call.does [
    | inl holds ↦ holds.none
    | inr (inl f) ↦ absurd (f.not_ahead (all_ahead none all))
    | inr (inr (inl declines)) ↦ declines.none
    | inr (inr (inr takes)) ↦ takes.none
  ]

  -- what stood in the messages before the call stands in those that are left

  same_stand : (all before behind : List (List ℕ)) → all ≡ before ++ (bodies_of l.ahead ++ behind) → m.ahead ≡ l.ahead → Stand all (bodies_of m.ahead)
  same_stand all before behind next same = (before, behind, next ∙ ap (λ (ahead : List Exchange). before ++ (bodies_of ahead ++ behind)) (sym same))

  taken_stand : (all before behind : List (List ℕ)) (answer : List ℕ) → all ≡ before ++ (bodies_of l.ahead ++ behind) → l.ahead ≡ (message, Ok answer) ∷ m.ahead → Stand all (bodies_of m.ahead)
  taken_stand all before behind answer next taken =
      one_less all before (bodies_of m.ahead) behind message (next ∙ ap (λ (ahead : List Exchange). before ++ (bodies_of ahead ++ behind)) taken)

  -- the core doesn't hear of it, or its next FETCHes stay
  pub stand_still : (all before behind : List (List ℕ)) → all ≡ before ++ (bodies_of l.ahead ++ behind) → Stand all (bodies_of m.ahead)
  stand_still all before behind next = elim call.does [
    | inl holds ↦ same_stand all before behind next holds.ahead
    | inr (inl f) ↦ same_stand all before behind next f.ahead
    | inr (inr (inl declines)) ↦ same_stand all before behind next declines.ahead
    | inr (inr (inr takes)) ↦ taken_stand all before behind takes.answer next takes.next
  ]

  -- the first of them has its answer

  unsent_stand : (before behind rest : List (List ℕ)) (b : List ℕ) → next_bodies d s ≡ before ++ (bodies_of l.ahead ++ behind) → next_bodies d s ≡ b ∷ rest → m.ahead ≡ l.ahead
      → ((a : Exchange) (ahead : List Exchange) → l.ahead ≡ a ∷ ahead → next_bodies d s ≡ bodies_of l.ahead ++ behind → ⊥) → Stand rest (bodies_of m.ahead)
  unsent_stand before behind rest b next gone same apart =
      let still : b ∷ rest ≡ before ++ (bodies_of m.ahead ++ behind) = sym gone ∙ next ∙ ap (λ (ahead : List Exchange). before ++ (bodies_of ahead ++ behind)) (sym same) in
      first_gone before (bodies_of m.ahead) behind rest b still (λ none.
      some_or_none (Stand rest (bodies_of m.ahead))
      (λ nothing. subst (λ (es : List Exchange). Stand rest (bodies_of es)) (sym (same ∙ nothing)) (none_stand rest))
      (λ a ahead some. absurd (apart a ahead some (next ∙ ap (λ (k : List (List ℕ)). k ++ (bodies_of l.ahead ++ behind)) none))))

  pub stand_moved : (before behind rest : List (List ℕ)) (b : List ℕ) → is_stall o ≡ false → s.entry_number ≡ 0 → next_bodies d s ≡ before ++ (bodies_of l.ahead ++ behind) → next_bodies d s ≡ b ∷ rest
      → Stand rest (bodies_of m.ahead)
  stand_moved before behind rest b heard none next gone = elim call.does [
    | inl holds ↦ absurd (no_store none holds.path.tree holds.path.leaf holds.path.records holds.path.named)
    | inr (inl f) ↦ unsent_stand before behind rest b next gone f.ahead (λ a ahead some all. f.not_ahead (first_of_all none a ahead behind some all))
    | inr (inr (inl declines)) ↦ absurd (let both : true ≡ false = ap is_stall (sym declines.answer) ∙ heard in cc)
    | inr (inr (inr takes)) ↦
        let still : b ∷ rest ≡ before ++ ((message ∷ bodies_of m.ahead) ++ behind) =
        sym gone ∙ next ∙ ap (λ (ahead : List Exchange). before ++ (bodies_of ahead ++ behind)) takes.next in
        (let left : Stand rest (bodies_of m.ahead) = by before still in left)
  ]
    where
      by : (front : List (List ℕ)) → b ∷ rest ≡ front ++ ((message ∷ bodies_of m.ahead) ++ behind) → Stand rest (bodies_of m.ahead)
      by [] same = ([], behind, let both : b ∷ rest ≡ message ∷ (bodies_of m.ahead ++ behind) = same in cc)
      by (x ∷ front) same =
          let both : b ∷ rest ≡ x ∷ (front ++ ((message ∷ bodies_of m.ahead) ++ behind)) = same in
          let tail : rest ≡ front ++ ((message ∷ bodies_of m.ahead) ++ behind) = cc in
          one_less rest front (bodies_of m.ahead) behind message tail

-- what goes ahead

-- the messages of the first few exchanges, and the others
pub bodies_apart : (count : ℕ) (xs : List Exchange) → bodies_of xs ≡ bodies_of (take count xs) ++ bodies_of (drop count xs)
bodies_apart count xs = ap bodies_of (sym (take-append-drop count xs)) ∙ map-append (λ (e : Exchange). e.0) (take count xs) (drop count xs)

-- FETCHes of which the first have answers
first_bodies : (fetches laid : List (List ℕ)) → (behind : List (List ℕ)) × (fetches ≡ bodies_of (answered fetches laid) ++ behind)
first_bodies [] laid = ([], refl)
first_bodies (f ∷ fetches) [] = (f ∷ fetches, refl)
first_bodies (f ∷ fetches) (x ∷ laid) = let rest = first_bodies fetches laid in (rest.0, ap (λ (bs : List (List ℕ)). f ∷ bs) rest.1)

module _ {B : Type 0} (batches : B → List (List ℕ) → BatchOutcome → List Exchange → B → Type 0) (l m : Round B) (fetches : List (List ℕ)) (exchanges : List Exchange) where
  no_stand : m.ahead ≡ [] → Stand fetches (bodies_of m.ahead)
  no_stand none = subst (λ (es : List Exchange). Stand fetches (bodies_of es)) (sym none) (none_stand fetches)

  first_stand : (laid : List (List ℕ)) (count : ℕ) → m.ahead ≡ take count (answered fetches laid) → Stand fetches (bodies_of m.ahead)
  first_stand laid count is =
      let answers = answered fetches laid in
      let rest = first_bodies fetches laid in
      let apart : fetches ≡ bodies_of (take count answers) ++ (bodies_of (drop count answers) ++ rest.0) =
      rest.1 ∙ ap (λ (bs : List (List ℕ)). bs ++ rest.0) (bodies_apart count answers) ∙ append_assoc (bodies_of (take count answers)) (bodies_of (drop count answers)) rest.0 in
      ([], bodies_of (drop count answers) ++ rest.0, apart ∙ ap (λ (es : List Exchange). bodies_of es ++ (bodies_of (drop count answers) ++ rest.0)) (sym is))

  left_stand : (given : List (List ℕ)) → LeavesAhead batches l.device l.record_len l fetches given m → Stand fetches (bodies_of m.ahead)
  left_stand given g = elim g.either [ inl none ↦ no_stand none | inr laid ↦ first_stand laid.1 laid.3 laid.4 ]

  pub gone_stand : WentAhead batches l fetches exchanges m → Stand fetches (bodies_of m.ahead)
  gone_stand went = elim went.does [
    | inl s ↦ by s.outcome s.gives
    | inr none ↦ no_stand none.ahead
  ]
    where
      by : (outcome : BatchOutcome)
          → MatchResult outcome (λ answers. GivesAhead batches l.device l.record_len l fetches answers m) (λ fault. BreaksAhead batches l.device l.record_len l fetches exchanges m)
          → Stand fetches (bodies_of m.ahead)
      by (Err fault) g = left_stand g.given g.leaves
      by (Ok answers) g = elim g.either [ inl done ↦ first_stand done.2 done.4 done.5 | inr refused ↦ left_stand g.given refused.1 ]

-- an event that changes no more than whether the outstanding message is lost

module _ {B : Type 0} (d : Sizes) (s : State) (l : Round B) (a : IsAheadInTurn d s l) where
  with_lost : (lost : Bool) → IsAheadInTurn d (record s { lost = lost }) l
  with_lost lost = record { asks = record { first = a.asks.first; later = a.asks.later }; before = a.before; behind = a.behind; next = a.next }

  lost_in_turn : (now : Status) → IsAheadInTurn d (lost_by s now).state l
  lost_in_turn Waiting = with_lost true
  lost_in_turn Idle = a
  lost_in_turn Stalling = a
  lost_in_turn Over = a

  retried_in_turn : (now : Status) → IsAheadInTurn d (retried_by s now).state l
  retried_in_turn Stalling = with_lost false
  retried_in_turn Idle = a
  retried_in_turn Waiting = a
  retried_in_turn Over = a

resumed_in_turn : {B : Type 0} (v : Scheme) (s t : State) (l : Round B) (event : Event) (x : Shown) → (event ≡ Reopen) ⊎ (event ≡ Retry) → Steps v s event x t → IsAheadInTurn v.device s l
    → IsAheadInTurn v.device t l
resumed_in_turn v s t l event x (inl is) step a =
    let as_event : Steps v s Reopen x t = subst (λ (e : Event). Steps v s e x t) is step in
    subst (λ (u : State). IsAheadInTurn v.device u l) (sym (ap (λ (d : Did). d.state) (as_event.plain (lost_by s (status_in s)) refl))) (lost_in_turn v.device s l a (status_in s))
resumed_in_turn v s t l event x (inr is) step a =
    let as_event : Steps v s Retry x t = subst (λ (e : Event). Steps v s e x t) is step in
    subst (λ (u : State). IsAheadInTurn v.device u l) (sym (ap (λ (d : Did). d.state) (as_event.plain (retried_by s (status_in s)) refl))) (retried_in_turn v.device s l a (status_in s))

-- whatever a process does

module _ {B K : Type 0} (batches : B → List (List ℕ) → BatchOutcome → List Exchange → B → Type 0) (reads_back : K → List ℕ → Type 0) (are : AreBatches batches) (may_lie : Bool) (v : Scheme) (device : IsDevice v.device) where
  abbrev Stays : Process B K → Type 0
  Stays q = IsAheadInTurn v.device q.core q.link ⊎ ((may_lie ≡ true) × HasFailed q.core)

  same_core : (s t : State) (l m : Round B) → t ≡ s → AsksInTurn v.device s → Stand (next_bodies v.device s) (bodies_of m.ahead) → IsAheadInTurn v.device t m
  same_core s t l m same asks stand =
      subst (λ (u : State). IsAheadInTurn v.device u m) (sym same) (record { asks = asks; before = stand.0; behind = stand.1; next = stand.2 })

  heard_in_turn : (s t : State) (l m : Round B) (message : List ℕ) (o : Outcome) (exchanges : List Exchange) (x : Shown) → status_in s ≡ Waiting → message ≡ s.message
      → RoundCall batches l message o exchanges m → Steps v s (event_of o) x t → IsAheadInTurn v.device s l → t.failure ≡ None → StepsInTurn v.device s x t → IsAheadInTurn v.device t m
  heard_in_turn s t l m message o exchanges x waits is call step a alive turn = elim (moved_by v s t o x (is_stall o) refl waits step alive turn) [
    | inl same ↦
        let stand = stand_still batches v.device s l m message o exchanges waits is a.asks call (next_bodies v.device t) a.before a.behind (same ∙ a.next) in
        record { asks = turn.asks a.asks; before = stand.0; behind = stand.1; next = stand.2 }
    | inr first ↦
        let stand = stand_moved batches v.device s l m message o exchanges waits is a.asks call a.before a.behind (next_bodies v.device t) first.2 first.0 first.1 a.next first.3 in
        record { asks = turn.asks a.asks; before = stand.0; behind = stand.1; next = stand.2 }
  ]

  one_act : (act : Act) (p q : Process B K) (host after : Host) (array : ℕ → List ℕ) → p.link.device ≡ v.device → p.link.record_len ≡ record_len v → IsGoingOn may_lie v p host array
      → IsAheadInTurn v.device p.core p.link → Does v batches reads_back p act q → PlainRun may_lie v host (exchanges_of act) after → Stays q
  one_act (Hears event x) p q host after array dev len on a does run =
      inl (subst (λ (l : Round B). IsAheadInTurn v.device q.core l) (sym does.0.2) (resumed_in_turn v p.core q.core p.link event x does.0.0 does.0.1 a))
  one_act (Calls o exchanges x) p q host after array dev len on a does run =
      let c = called batches reads_back are may_lie v device p q.link host after on.0 array does.0.0 o exchanges dev len on.1 on.3 on.2 does.0.1 does.0.2 run in
      let is = (waits_by p.core (status_in p.core) does.0.0 refl does.0.1).1 in
      elim (step_in_turn may_lie v device p.core q.core on.0 c.next array x on.2 o c.waits does.0.3 c.heard) [
        | inl turn ↦ inl (heard_in_turn p.core q.core p.link q.link does.0.0 o exchanges x c.waits is does.0.2 does.0.3 a turn.0 turn.1)
        | inr failed ↦ inr (failed.0, (failed.1.reason, failed.1.failure))
      ]
  one_act (Misses o exchanges) p q host after array dev len on a does run =
      let out = waits_by p.core (status_in p.core) does.0.0 refl does.0.1 in
      inl (same_core p.core q.core p.link q.link does.0.3 a.asks
      (stand_still batches v.device p.core p.link q.link does.0.0 o exchanges out.0 out.1 a.asks does.0.2 (next_bodies v.device p.core) a.before a.behind a.next))
  one_act (GoesAhead exchanges) p q host after array dev len on a does run =
      inl (same_core p.core q.core p.link q.link does.0.1 a.asks (gone_stand batches p.link q.link (next_bodies v.device p.core) exchanges does.0.0))
  one_act (Keeps true) p q host after array dev len on a does run =
      inl (same_core p.core q.core p.link q.link does.1 a.asks (no_stand batches p.link q.link (next_bodies v.device p.core) [] (ap (λ (l : Round B). l.ahead) does.2)))
  one_act (Keeps false) p q host after array dev len on a does run =
      inl (subst (λ (l : Round B). IsAheadInTurn v.device q.core l) (sym does.2) (same_core p.core q.core p.link p.link does.1 a.asks (a.before, a.behind, a.next)))

  all_acts : (acts : List Act) (p q : Process B K) (host after : Host) (array : ℕ → List ℕ) → p.link.device ≡ v.device → p.link.record_len ≡ record_len v → IsGoingOn may_lie v p host array
      → IsAheadInTurn v.device p.core p.link → DoesAll v batches reads_back p acts q → PlainRun may_lie v host (flat_map exchanges_of acts) after → Stays q
  all_acts [] p q host after array dev len on a does run = subst Stays does (inl a)
  all_acts (act ∷ acts) p q host after array dev len on a does run =
      let halves = folds_split {P = Host} {A = Exchange} (λ h e g. IsPlainCall may_lie v h e.0 e.1 g) host after (exchanges_of act) (flat_map exchanges_of acts) run in
      let same = same_device batches reads_back are may_lie v device act p does.0 does.1 in
      elim (goes_on batches reads_back are may_lie v device act p does.0 host halves.0 array dev len on does.1 halves.1) [
        | inr failed ↦ inr (failed.lies, (stays_failed batches reads_back are may_lie v device acts does.0 q failed.failed does.2).0)
        | inl went ↦ elim (one_act act p does.0 host halves.0 array dev len on a does.1 halves.1) [
          | inr failed ↦ inr (failed.0, (stays_failed batches reads_back are may_lie v device acts does.0 q failed.1 does.2).0)
          | inl now ↦ all_acts acts does.0 q halves.0 after went.now (same.0 ∙ dev) (same.1 ∙ len) went.goes_on now does.2 halves.2
        ]
      ]

pub ahead_stays_in_turn : {B K : Type 0} (batches : B → List (List ℕ) → BatchOutcome → List Exchange → B → Type 0) (reads_back : K → List ℕ → Type 0) → AheadStaysInTurn batches reads_back
ahead_stays_in_turn batches reads_back are may_lie v acts p q host after array device dev len on a does run =
    all_acts batches reads_back are may_lie v device acts p q host after array dev len on a does run

pub ahead_is_not_sent : {B : Type 0} (batches : B → List (List ℕ) → BatchOutcome → List Exchange → B → Type 0) → AheadIsNotSent batches
ahead_is_not_sent batches v s t l m o exchanges x asks none all talks =
    let out = waits_by s (status_in s) talks.0 refl talks.1 in
    not_sent batches v.device s l m talks.0 o exchanges out.0 out.1 asks talks.2 none all

pub nothing_ahead_is_in_turn : (B : Type 0) → NothingAheadIsInTurn B
nothing_ahead_is_in_turn B d overhead core l sound none = record {
  asks = (sound_cores_are_in_turn d overhead core sound).asks;
  before = [];
  behind = next_bodies d core;
  next = ap (λ (ahead : List Exchange). bodies_of ahead ++ next_bodies d core) (sym none);
}
