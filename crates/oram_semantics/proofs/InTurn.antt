-- A core whose trees stand and agree sends its next FETCHes in turn.
use Rattle.std.proofs.Common.{◌≡◌, ◌≢◌, ℕ, ◌+◌, ◌-◌, ◌*◌, ◌%◌, ◌<◌, ◌==◌, Bool, true, false, if◌then◌else◌, List, [], ◌∷◌, ◌++◌, drop, length, slice_index, slice_set, Option, Some, None, refl, ap, sym, ◌∙◌, subst, arith, inl, inr}
use Rattle.std.proofs.lemmas.Bool.Decides.{eqb_tells, nat_tests}
use Rattle.std.proofs.lemmas.List.{map-append}
use Rattle.oram_geometry.specs.declared.Sizes.{Sizes}
use Rattle.oram_geometry.specs.Sizes.{trees_of}
use Rattle.oram_trace.specs.declared.entries.Entry.{Entry}
use Rattle.oram_wire.specs.HostMessages.{fetch_body, store_body}
use Rattle.oram_semantics.specs.Agree.{IsOrderly}
use Rattle.oram_semantics.specs.Answers.{Outcome, outcome_of}
use Rattle.oram_semantics.specs.Answers.Outcome.{Good, NoRoom, Fails}
use Rattle.oram_semantics.specs.Content.{block_of, entry_tree, new_leaf}
use Rattle.oram_semantics.specs.InTurn.{CoresAskInTurn, IsFirstNext, IsNoFirstFetch, StepsInTurn}
use Rattle.oram_semantics.specs.Messages.{requested}
use Rattle.oram_semantics.specs.Moves.{Moved, MovesTo, Moves, Sends, accepts, fetch_at, fetches, finishes, first_fetch, goes_on, if_idle, latest, on_answer, on_loss, on_retry, on_submission, resends, stalls, stays, stores}
use Rattle.oram_semantics.specs.NextFetches.{fetch_bodies, first_fetches, next_fetches, table_after, to_begin}
use Rattle.oram_semantics.specs.Progress.{Status}
use Rattle.oram_semantics.specs.Progress.Status.{Idle, Waiting, Stalling, Over}
use Rattle.oram_semantics.specs.Run.{Shown, is_accepted, is_over, is_resent, refusal_of}
use Rattle.oram_semantics.specs.Scheme.{Scheme}
use Rattle.oram_semantics.specs.State.{State, World, status_in}
use Rattle.oram_semantics.specs.declared.events.Event.{Event}
use Rattle.oram_semantics.specs.declared.events.Event.TheVariants.{Submit, Answer, Lost, Reopen, Retry}
use Rattle.oram_semantics.specs.declared.events.Note.{Note}
use Rattle.oram_semantics.specs.declared.events.Note.TheVariants.{Accepted, Refused, Taken, Stalled, Resent, Unexpected}
use Rattle.oram_semantics.specs.declared.events.Refusal.{Refusal}
use Rattle.oram_semantics.specs.declared.events.Submission.{Submission}
use Rattle.oram_semantics.proofs.AgreeSteps.{agreeing_fits}
use Rattle.oram_semantics.proofs.Bounds.{fit_device}
use Rattle.oram_semantics.proofs.NextFetches.{first_fetches-push}

-- the next FETCHes of a state

pub next_by : (d : Sizes) (t : State) (table : List ℕ) (queue : List Submission) (r : ℕ) → t.table ≡ table → t.queue ≡ queue → t.entry_number ≡ r
    → next_fetches d t ≡ first_fetches d table (if r == 0 then queue else drop 1 queue)
next_by d t table queue r table_is queue_is r_is =
    ap (λ (ts : List ℕ). first_fetches d ts (to_begin t)) table_is
    ∙ ap (λ (q : List Submission). first_fetches d table (if t.entry_number == 0 then q else drop 1 q)) queue_is
    ∙ ap (λ (k : ℕ). first_fetches d table (if k == 0 then queue else drop 1 queue)) r_is

pub next_later : (d : Sizes) (t : State) (table : List ℕ) (queue : List Submission) → t.table ≡ table → t.queue ≡ queue → 0 < t.entry_number
    → next_fetches d t ≡ first_fetches d table (drop 1 queue)
next_later d t table queue table_is queue_is some =
    let later : (t.entry_number == 0) ≡ false = grind (arith, nat_tests, some) in
    next_by d t table queue t.entry_number table_is queue_is refl
    ∙ ap (λ (b : Bool). first_fetches d table (if b then queue else drop 1 queue)) later

-- if the oldest command isn't begun, its first FETCH is the first of them
pub next_cons : (d : Sizes) (table : List ℕ) (x : Submission) (rest : List Submission)
    → first_fetches d table (x ∷ rest)
    ≡ fetch_at d 0 (slice_index table (block_of d (trees_of d - 1) x)) x ∷ first_fetches d (slice_set table (block_of d (trees_of d - 1) x) (new_leaf d (trees_of d - 1) x + 1)) rest
unfolding first_fetches table_after
next_cons d table x rest = refl

-- the messages of a command

pub no_first_store : (d : Sizes) (tree leaf : ℕ) (records m : List ℕ) → m ≡ store_body tree leaf records → IsNoFirstFetch d m
no_first_store d tree leaf records m is other same =
    let numbers : 2 ≡ 1 = ap (λ (bytes : List ℕ). slice_index bytes 0) (sym is ∙ same) in
    absurd (omega (arith, numbers))

pub no_first_fetch : (d : Sizes) (tree leaf : ℕ) (m : List ℕ) → tree ≢ trees_of d - 1 → m ≡ fetch_body tree leaf → IsNoFirstFetch d m
no_first_fetch d tree leaf m apart is other same = absurd (apart (ap (λ (bytes : List ℕ). slice_index bytes 1) (sym is ∙ same)))

-- the state after an event, if the rule allows it and it doesn't fail the core
abbrev After : Scheme → State → State → World → Shown → Moved → Type 0
After v s t w y m = MovesTo v s w m y t → t.failure ≡ None → StepsInTurn v.device s y t

-- a step that changes neither the table nor the queue nor the stage, and sends no new message
in_turn_kept : (d : Sizes) (s t : State) (y : Shown) → t.table ≡ s.table → t.queue ≡ s.queue → t.entry_number ≡ s.entry_number
    → t.message ≡ s.message → is_accepted y.note ≡ false → y.note ≢ Taken → (is_resent y.note ≡ false → y.sends ≡ [])
    → StepsInTurn d s y t
in_turn_kept d s t y table queue r message quiet other sends =
    let same : next_fetches d t ≡ next_fetches d s = next_by d t s.table s.queue s.entry_number table queue r in
    let long : length t.queue ≡ length s.queue = ap (λ (q : List Submission). length q) queue in
    record {
      accepted = λ yes. absurd (let both : true ≡ false = sym yes ∙ quiet in cc);
      taken = λ taken. absurd (other taken);
      same = λ no none. same;
      sends = λ new m one. absurd (let both : [] ≡ m ∷ [] = sym (sends new) ∙ one in cc);
      asks = λ a. record {
        first = λ some zero_is.
            let was = a.first (omega arith) (sym r ∙ zero_is) in
            (was.0, ap (λ (es : List Entry). fetch_bodies es) same ∙ was.1 ∙ ap (λ (m : List ℕ). m ∷ was.0) (sym message));
        later = λ some on. subst (IsNoFirstFetch d) (sym message) (a.later (omega arith) (omega arith));
      };
    }

in_turn_stays : (v : Scheme) (s t : State) (w : World) (y : Shown) (n : Note) → is_accepted n ≡ false → n ≢ Taken → After v s t w y (stays s w n)
in_turn_stays v s t w y n quiet other mv healthy =
    in_turn_kept v.device s t y (ap (λ (u : State). u.table) mv.state) (ap (λ (u : State). u.queue) mv.state) (ap (λ (u : State). u.entry_number) mv.state)
    (ap (λ (u : State). u.message) mv.state ∙ ap (λ (ms : List (List ℕ)). latest ms s.message) mv.sends)
    (ap is_accepted mv.note ∙ quiet) (λ taken. other (sym mv.note ∙ taken)) (λ new. mv.sends)

in_turn_stalls : (v : Scheme) (s t : State) (w : World) (y : Shown) → After v s t w y (stalls s w)
in_turn_stalls v s t w y mv healthy =
    in_turn_kept v.device s t y (ap (λ (u : State). u.table) mv.state) (ap (λ (u : State). u.queue) mv.state) (ap (λ (u : State). u.entry_number) mv.state)
    (ap (λ (u : State). u.message) mv.state ∙ ap (λ (ms : List (List ℕ)). latest ms s.message) mv.sends)
    (ap is_accepted mv.note) (λ taken. let both : Stalled ≡ Taken = sym mv.note ∙ taken in cc) (λ new. mv.sends)

in_turn_resends : (v : Scheme) (s t : State) (w : World) (y : Shown) → After v s t w y (resends s w)
in_turn_resends v s t w y mv healthy =
    in_turn_kept v.device s t y (ap (λ (u : State). u.table) mv.state) (ap (λ (u : State). u.queue) mv.state) (ap (λ (u : State). u.entry_number) mv.state)
    (ap (λ (u : State). u.message) mv.state ∙ ap (λ (ms : List (List ℕ)). latest ms s.message) mv.sends)
    (ap is_accepted mv.note) (λ taken. let both : Resent ≡ Taken = sym mv.note ∙ taken in cc)
    (λ new. absurd (let both : true ≡ false = sym (ap is_resent mv.note) ∙ new in cc))

-- a command joins the queue

-- one more FETCH at the end leaves the first as it was
first_kept : (d : Sizes) (s t : State) (e : Entry) (m : List ℕ) → next_fetches d t ≡ next_fetches d s ++ e ∷ [] → IsFirstNext d s m → IsFirstNext d t m
first_kept d s t e m joined first = (
  first.0 ++ fetch_bodies (e ∷ []),
  ap (λ (es : List Entry). fetch_bodies es) joined ∙ map-append (λ (f : Entry). fetch_body f.tree f.leaf) (next_fetches d s) (e ∷ [])
      ∙ ap (λ (ms : List (List ℕ)). ms ++ fetch_bodies (e ∷ [])) first.1,
)

joins : (v : Scheme) (s t : State) (w : World) (y : Shown) (x z : Submission) (rest : List Submission) → s.queue ≡ z ∷ rest
    → MovesTo v s w (accepts v s w x) y t → (e : Entry) × (next_fetches v.device t ≡ next_fetches v.device s ++ e ∷ [])
joins v s t w y x z rest qu mv =
    let d = v.device in
    let table : t.table ≡ s.table = ap (λ (u : State). u.table) mv.state in
    let queue : t.queue ≡ z ∷ (rest ++ x ∷ []) = ap (λ (u : State). u.queue) mv.state ∙ ap (λ (q : List Submission). q ++ x ∷ []) qu in
    let r : t.entry_number ≡ s.entry_number = ap (λ (u : State). u.entry_number) mv.state in
    elim (eqb_tells s.entry_number 0) [
      | inl none ↦
          let e : Entry = fetch_at d 0 (slice_index (table_after d s.table (z ∷ rest)) (block_of d (trees_of d - 1) x)) x in (
            e,
            next_by d t s.table (z ∷ (rest ++ x ∷ [])) 0 table queue (r ∙ none.1) ∙ first_fetches-push d s.table (z ∷ rest) x
                ∙ ap (λ (es : List Entry). es ++ e ∷ []) (sym (next_by d s s.table (z ∷ rest) 0 refl qu none.1)),
          )
      | inr some ↦
          let on : s.entry_number ≢ 0 = some.1 in
          let e : Entry = fetch_at d 0 (slice_index (table_after d s.table rest) (block_of d (trees_of d - 1) x)) x in (
            e,
            next_later d t s.table (z ∷ (rest ++ x ∷ [])) table queue (omega arith) ∙ first_fetches-push d s.table rest x
                ∙ ap (λ (es : List Entry). es ++ e ∷ []) (sym (next_later d s s.table (z ∷ rest) refl qu (omega arith))),
          )
    ]

in_turn_begun : (v : Scheme) (s t : State) (w : World) (y : Shown) (x : Submission) → s.queue ≡ [] → IsOrderly v s → After v s t w y (accepts v s w x)
unfolding first_fetches table_after
in_turn_begun v s t w y x qu o mv healthy =
    let d = v.device in
    let zero_is : s.entry_number ≡ 0 = o.rests (ap (λ (q : List Submission). length q) qu) in
    let e : Entry = fetch_at d 0 (slice_index s.table (block_of d (trees_of d - 1) x)) x in
    let queue : t.queue ≡ x ∷ [] = ap (λ (u : State). u.queue) mv.state ∙ ap (λ (q : List Submission). q ++ x ∷ []) qu in
    let r : t.entry_number ≡ 0 = ap (λ (u : State). u.entry_number) mv.state ∙ zero_is in
    let next_t : next_fetches d t ≡ e ∷ [] = next_by d t s.table (x ∷ []) 0 (ap (λ (u : State). u.table) mv.state) queue r in
    let next_s : next_fetches d s ≡ [] = next_by d s s.table [] 0 refl qu zero_is in
    let sends = subst (λ (q : List Submission). Sends v s.message (if_idle q (first_fetch v.device s.table (x ∷ []))) y.sends) qu mv.sends in
    let first : IsFirstNext d t sends.0 = ([], ap (λ (es : List Entry). fetch_bodies es) next_t ∙ ap (λ (m : List ℕ). m ∷ []) (sym sends.2.body)) in
    let message : t.message ≡ sends.0 = ap (λ (u : State). u.message) mv.state ∙ ap (λ (ms : List (List ℕ)). latest ms s.message) sends.1 in
    record {
      accepted = λ yes. (e, next_t ∙ ap (λ (es : List Entry). es ++ e ∷ []) (sym next_s));
      taken = λ taken. absurd (let both : Accepted x.ticket ≡ Taken = sym mv.note ∙ taken in cc);
      same = λ no none. absurd (let both : true ≡ false = sym (ap is_accepted mv.note) ∙ no in cc);
      sends = λ new m one. inl (r, subst (IsFirstNext d t) (let both : sends.0 ∷ [] ≡ m ∷ [] = sym sends.1 ∙ one in cc) first);
      asks = λ a. record { first = λ some none. subst (IsFirstNext d t) (sym message) first; later = λ some on. absurd (omega arith) };
    }

in_turn_joined : (v : Scheme) (s t : State) (w : World) (y : Shown) (x z : Submission) (rest : List Submission) → s.queue ≡ z ∷ rest → After v s t w y (accepts v s w x)
in_turn_joined v s t w y x z rest qu mv healthy =
    let d = v.device in
    let joined = joins v s t w y x z rest qu mv in
    let none : y.sends ≡ [] = subst (λ (q : List Submission). Sends v s.message (if_idle q (first_fetch v.device s.table (x ∷ []))) y.sends) qu mv.sends in
    let message : t.message ≡ s.message = ap (λ (u : State). u.message) mv.state ∙ ap (λ (ms : List (List ℕ)). latest ms s.message) none in
    let r : t.entry_number ≡ s.entry_number = ap (λ (u : State). u.entry_number) mv.state in
    let long : length s.queue ≡ length rest + 1 = ap (λ (q : List Submission). length q) qu ∙ omega arith in
    record {
      accepted = λ yes. joined;
      taken = λ taken. absurd (let both : Accepted x.ticket ≡ Taken = sym mv.note ∙ taken in cc);
      same = λ no stays. absurd (let both : true ≡ false = sym (ap is_accepted mv.note) ∙ no in cc);
      sends = λ new m one. absurd (let both : [] ≡ m ∷ [] = sym none ∙ one in cc);
      asks = λ a. record {
        first = λ some zero_is. first_kept d s t joined.0 t.message joined.1 (subst (IsFirstNext d s) (sym message) (a.first (omega arith) (sym r ∙ zero_is)));
        later = λ some on. subst (IsNoFirstFetch d) (sym message) (a.later (omega arith) (omega arith));
      };
    }

in_turn_accepted : (v : Scheme) (s t : State) (w : World) (y : Shown) (x : Submission) (queue : List Submission) → s.queue ≡ queue → IsOrderly v s
    → After v s t w y (accepts v s w x)
in_turn_accepted v s t w y x [] qu o = in_turn_begun v s t w y x qu o
in_turn_accepted v s t w y x (z ∷ rest) qu o = in_turn_joined v s t w y x z rest qu

-- good answers

-- the table after the answer to the first FETCH
table_entry_is : (d : Sizes) (s : State) (x : Submission) → s.entry_number ≡ 0
    → (if s.entry_number == 0 then slice_set s.table (block_of d (entry_tree d s.entry_number) x) (new_leaf d (entry_tree d s.entry_number) x + 1) else s.table)
    ≡ slice_set s.table (block_of d (trees_of d - 1) x) (new_leaf d (trees_of d - 1) x + 1)
table_entry_is d s x zero_is =
    let last : entry_tree d 0 ≡ trees_of d - 1 = omega arith in
    ap (λ (r : ℕ). if r == 0 then slice_set s.table (block_of d (entry_tree d r) x) (new_leaf d (entry_tree d r) x + 1) else s.table) zero_is
    ∙ ap (λ (i : ℕ). slice_set s.table (block_of d i x) (new_leaf d i x + 1)) last

in_turn_stored : (v : Scheme) (s t : State) (w : World) (y : Shown) (x : Submission) (rest : List Submission) → s.queue ≡ x ∷ rest
    → After v s t w y (stores v s w x)
in_turn_stored v s t w y x rest qu mv healthy =
    let d = v.device in
    let i : ℕ = entry_tree d s.entry_number in
    let e : Entry = fetch_at d 0 (slice_index s.table (block_of d (trees_of d - 1) x)) x in
    let r : t.entry_number ≡ s.entry_number + 1 = ap (λ (u : State). u.entry_number) mv.state in
    let queue : t.queue ≡ x ∷ rest = ap (λ (u : State). u.queue) mv.state ∙ qu in
    let table : t.table ≡ (if s.entry_number == 0 then slice_set s.table (block_of d i x) (new_leaf d i x + 1) else s.table) =
    ap (λ (u : State). u.table) mv.state in
    let next_t : next_fetches d t ≡ first_fetches d t.table rest = next_later d t t.table (x ∷ rest) refl queue (omega arith) in
    let message : t.message ≡ mv.sends.0 = ap (λ (u : State). u.message) mv.state ∙ ap (λ (ms : List (List ℕ)). latest ms s.message) mv.sends.1 in
    let store : IsNoFirstFetch d mv.sends.0 = no_first_store d i (requested s.message).leaf mv.sends.2.records mv.sends.0 mv.sends.2.body in
    record {
      accepted = λ yes. absurd (let both : true ≡ false = sym yes ∙ ap is_accepted mv.note in cc);
      taken = λ taken zero_is. (
        e,
        next_by d s s.table (x ∷ rest) 0 refl qu zero_is ∙ next_cons d s.table x rest
            ∙ ap (λ (ts : List ℕ). e ∷ first_fetches d ts rest) (sym (table ∙ table_entry_is d s x zero_is))
            ∙ ap (λ (es : List Entry). e ∷ es) (sym next_t),
      );
      same = λ no stays.
          let on : s.entry_number ≢ 0 = stays mv.note in
          let later : (s.entry_number == 0) ≡ false = grind (arith, nat_tests, on) in
          next_t
          ∙ ap (λ (ts : List ℕ). first_fetches d ts rest) (table ∙ ap (λ (b : Bool). if b then slice_set s.table (block_of d i x) (new_leaf d i x + 1) else s.table) later)
          ∙ sym (next_later d s s.table (x ∷ rest) refl qu (omega arith));
      sends = λ new m one. inr (omega arith, subst (IsNoFirstFetch d) (let both : mv.sends.0 ∷ [] ≡ m ∷ [] = sym mv.sends.1 ∙ one in cc) store);
      asks = λ a. record { first = λ some none. absurd (omega arith); later = λ some on. subst (IsNoFirstFetch d) (sym message) store };
    }

in_turn_fetched : (v : Scheme) (s t : State) (w : World) (y : Shown) (x : Submission) (rest : List Submission) → s.queue ≡ x ∷ rest
    → s.entry_number % 2 ≡ 1 → s.entry_number + 1 < 2 * trees_of v.device → After v s t w y (fetches v s w x)
in_turn_fetched v s t w y x rest qu odd more mv healthy =
    let d = v.device in
    let r : t.entry_number ≡ s.entry_number + 1 = ap (λ (u : State). u.entry_number) mv.state in
    let queue : t.queue ≡ x ∷ rest = ap (λ (u : State). u.queue) mv.state ∙ qu in
    let message : t.message ≡ mv.sends.0 = ap (λ (u : State). u.message) mv.state ∙ ap (λ (ms : List (List ℕ)). latest ms s.message) mv.sends.1 in
    let apart : entry_tree d (s.entry_number + 1) ≢ trees_of d - 1 = λ same. absurd (omega arith) in
    let fetch : IsNoFirstFetch d mv.sends.0 = no_first_fetch d (entry_tree d (s.entry_number + 1)) _ mv.sends.0 apart mv.sends.2.body in
    record {
      accepted = λ yes. absurd (let both : true ≡ false = sym yes ∙ ap is_accepted mv.note in cc);
      taken = λ taken zero_is. absurd (omega (arith, odd, zero_is));
      same = λ no stays.
          next_later d t s.table (x ∷ rest) (ap (λ (u : State). u.table) mv.state) queue (omega arith)
          ∙ sym (next_later d s s.table (x ∷ rest) refl qu (omega arith));
      sends = λ new m one. inr (omega arith, subst (IsNoFirstFetch d) (let both : mv.sends.0 ∷ [] ≡ m ∷ [] = sym mv.sends.1 ∙ one in cc) fetch);
      asks = λ a. record { first = λ some none. absurd (omega arith); later = λ some on. subst (IsNoFirstFetch d) (sym message) fetch };
    }

-- the first message of the commands that are left
first_sent : (v : Scheme) (table last : List ℕ) (rest : List Submission) (t : State) (sends : List (List ℕ)) → next_fetches v.device t ≡ first_fetches v.device table rest
    → Sends v last (first_fetch v.device table rest) sends → (m : List ℕ) → sends ≡ m ∷ [] → IsFirstNext v.device t m
first_sent v table last [] t sends next sent m one = absurd (let both : [] ≡ m ∷ [] = sym sent ∙ one in cc)
first_sent v table last (z ∷ more) t sends next sent m one =
    let d = v.device in
    let is : sent.0 ≡ m = let both : sent.0 ∷ [] ≡ m ∷ [] = sym sent.1 ∙ one in cc in (
      fetch_bodies (first_fetches d (slice_set table (block_of d (trees_of d - 1) z) (new_leaf d (trees_of d - 1) z + 1)) more),
      ap (λ (es : List Entry). fetch_bodies es) (next ∙ next_cons d table z more)
          ∙ ap (λ (k : List ℕ). k ∷ fetch_bodies (first_fetches d (slice_set table (block_of d (trees_of d - 1) z) (new_leaf d (trees_of d - 1) z + 1)) more)) (sym sent.2.body ∙ is),
    )

some_sent : (v : Scheme) (table last : List ℕ) (rest : List Submission) (sends : List (List ℕ)) → 0 < length rest
    → Sends v last (first_fetch v.device table rest) sends → (m : List ℕ) × (sends ≡ m ∷ [])
some_sent v table last [] sends some sent = absurd (omega arith)
some_sent v table last (z ∷ more) sends some sent = (sent.0, sent.1)

in_turn_finished : (v : Scheme) (s t : State) (w : World) (y : Shown) (x : Submission) (rest : List Submission) → s.queue ≡ x ∷ rest
    → s.entry_number % 2 ≡ 1 → After v s t w y (finishes v s w x rest)
in_turn_finished v s t w y x rest qu odd mv healthy =
    let d = v.device in
    let r : t.entry_number ≡ 0 = ap (λ (u : State). u.entry_number) mv.state in
    let queue : t.queue ≡ rest = ap (λ (u : State). u.queue) mv.state in
    let next_t : next_fetches d t ≡ first_fetches d s.table rest = next_by d t s.table rest 0 (ap (λ (u : State). u.table) mv.state) queue r in
    record {
      accepted = λ yes. absurd (let both : true ≡ false = sym yes ∙ ap is_accepted mv.note in cc);
      taken = λ taken zero_is. absurd (omega (arith, odd, zero_is));
      same = λ no stays. next_t ∙ sym (next_later d s s.table (x ∷ rest) refl qu (omega arith));
      sends = λ new m one. inl (r, first_sent v s.table s.message rest t y.sends next_t mv.sends m one);
      asks = λ a. record {
        first = λ some none.
            let left : 0 < length rest = omega (arith, some, ap (λ (q : List Submission). length q) queue) in
            let sent = some_sent v s.table s.message rest y.sends left mv.sends in
            let message : t.message ≡ sent.0 = ap (λ (u : State). u.message) mv.state ∙ ap (λ (ms : List (List ℕ)). latest ms []) sent.1 in
            subst (IsFirstNext d t) (sym message) (first_sent v s.table s.message rest t y.sends next_t mv.sends sent.0 sent.1);
        later = λ some on. absurd (omega arith);
      };
    }

in_turn_good : (v : Scheme) (s t : State) (w : World) (y : Shown) (queue : List Submission) → s.queue ≡ queue → IsOrderly v s
    → After v s t w y (goes_on v s w queue)
in_turn_good v s t w y [] qu o = in_turn_stays v s t w y Unexpected refl (λ e. let both : Unexpected ≡ Taken = e in cc)
in_turn_good v s t w y (x ∷ rest) qu o =
    let P : Moved → Type 0 = After v s t w y in
    let few : s.entry_number < 2 * trees_of v.device = o.entry_number in
    elim (eqb_tells (s.entry_number % 2) 0) [
      | inl even ↦ subst (λ (b : Bool). P (if b then stores v s w x else if s.entry_number + 1 == 2 * trees_of v.device then finishes v s w x rest else fetches v s w x)) (sym even.0) (in_turn_stored v s t w y x rest qu)
      | inr odd ↦
          let one : s.entry_number % 2 ≡ 1 = let ne : s.entry_number % 2 ≢ 0 = odd.1 in omega arith in
          subst (λ (b : Bool). P (if b then stores v s w x else if s.entry_number + 1 == 2 * trees_of v.device then finishes v s w x rest else fetches v s w x)) (sym odd.0)
          (elim (eqb_tells (s.entry_number + 1) (2 * trees_of v.device)) [
            | inl last ↦ subst (λ (b : Bool). P (if b then finishes v s w x rest else fetches v s w x)) (sym last.0) (in_turn_finished v s t w y x rest qu one)
            | inr more ↦ subst (λ (b : Bool). P (if b then finishes v s w x rest else fetches v s w x)) (sym more.0) (let ne : s.entry_number + 1 ≢ 2 * trees_of v.device = more.1 in in_turn_fetched v s t w y x rest qu one (omega arith))
          ])
    ]

-- all events

in_turn_unexpected : (v : Scheme) (s t : State) (w : World) (y : Shown) → After v s t w y (stays s w Unexpected)
in_turn_unexpected v s t w y = in_turn_stays v s t w y Unexpected refl (λ e. let both : Unexpected ≡ Taken = e in cc)

in_turn_submitted : (v : Scheme) (s t : State) (w : World) (y : Shown) (x : Submission) (o : Option Refusal) → IsOrderly v s
    → After v s t w y (on_submission v s w x o)
in_turn_submitted v s t w y x (Some e) orderly = in_turn_stays v s t w y (Refused e) refl (λ h. let both : Refused e ≡ Taken = h in cc)
in_turn_submitted v s t w y x None orderly = in_turn_accepted v s t w y x s.queue refl orderly

in_turn_answered : (v : Scheme) (s t : State) (w : World) (y : Shown) (now : Status) (o : Outcome) → IsOrderly v s
    → After v s t w y (on_answer v s w now o)
in_turn_answered v s t w y Waiting Good orderly = in_turn_good v s t w y s.queue refl orderly
in_turn_answered v s t w y Waiting NoRoom orderly = in_turn_stalls v s t w y
in_turn_answered v s t w y Waiting (Fails e) orderly = λ mv healthy. absurd (let both : Some e ≡ None = sym (ap (λ (u : State). u.failure) mv.state) ∙ healthy in cc)
in_turn_answered v s t w y Idle outcome orderly = in_turn_unexpected v s t w y
in_turn_answered v s t w y Stalling outcome orderly = in_turn_unexpected v s t w y
in_turn_answered v s t w y Over outcome orderly = in_turn_unexpected v s t w y

in_turn_lost : (v : Scheme) (s t : State) (w : World) (y : Shown) (now : Status) → After v s t w y (on_loss s w now)
in_turn_lost v s t w y Waiting = in_turn_stalls v s t w y
in_turn_lost v s t w y Idle = in_turn_unexpected v s t w y
in_turn_lost v s t w y Stalling = in_turn_unexpected v s t w y
in_turn_lost v s t w y Over = in_turn_unexpected v s t w y

in_turn_retried : (v : Scheme) (s t : State) (w : World) (y : Shown) (now : Status) → After v s t w y (on_retry s w now)
in_turn_retried v s t w y Stalling = in_turn_resends v s t w y
in_turn_retried v s t w y Idle = in_turn_unexpected v s t w y
in_turn_retried v s t w y Waiting = in_turn_unexpected v s t w y
in_turn_retried v s t w y Over = in_turn_unexpected v s t w y

-- a step by the rule, at each event that doesn't fail the core
pub in_turn_moved : (v : Scheme) (s t : State) (w : World) (event : Event) (y : Shown) → IsOrderly v s → Moves v s w event y t
    → t.failure ≡ None → StepsInTurn v.device s y t
in_turn_moved v s t w (Submit session c words) y o =
    in_turn_submitted v s t w y (record { session = session; ticket = s.next; command = c; words = words }) (refusal_of v.device (is_over (status_in s)) (length s.queue) s.next c words) o
in_turn_moved v s t w (Answer bytes) y o = in_turn_answered v s t w y (status_in s) (outcome_of v w.records (requested s.message) bytes) o
in_turn_moved v s t w Lost y o = in_turn_lost v s t w y (status_in s)
in_turn_moved v s t w Reopen y o = in_turn_lost v s t w y (status_in s)
in_turn_moved v s t w Retry y o = in_turn_retried v s t w y (status_in s)

pub cores_ask_in_turn : CoresAskInTurn
cores_ask_in_turn v s t w event x device o holds agrees apart steps healthy =
    in_turn_moved v s t w event x o (steps w (agreeing_fits v s w (fit_device v.device device) o agrees holds) apart) healthy
