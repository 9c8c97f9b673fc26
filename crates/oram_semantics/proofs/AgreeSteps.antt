-- Trees that agree still do after each event that doesn't fail the device.
use Rattle.std.proofs.Common.{◌≡◌, ◌≢◌, ℕ, ◌+◌, ◌-◌, ◌*◌, ◌%◌, ◌<◌, ◌==◌, Bool, true, false, if◌then◌else◌, List, [], ◌∷◌, ◌++◌, length, length-append, slice_set, Option, Some, None, refl, ap, sym, ◌∙◌, subst, arith, inl, inr}
use Rattle.std.specs.List.{All}
use Rattle.std.proofs.lemmas.List.{length-set}
use Rattle.std.proofs.lemmas.List.Elements.{All-head, All-tail, All-push}
use Rattle.std.proofs.lemmas.Bool.Decides.{eqb_tells}
use Rattle.oram_geometry.specs.Sizes.{trees_of, blocks_in}
use Rattle.oram_semantics.specs.Scheme.{Scheme}
use Rattle.oram_semantics.specs.Answers.{Outcome, outcome_of}
use Rattle.oram_semantics.specs.Answers.Outcome.{Good, NoRoom, Fails}
use Rattle.oram_semantics.specs.Messages.{requested}
use Rattle.oram_semantics.specs.Events.{address_of}
use Rattle.oram_semantics.specs.Content.{block_of, new_leaf, entry_tree}
use Rattle.oram_semantics.specs.Progress.{Status}
use Rattle.oram_semantics.specs.Progress.Status.{Idle, Waiting, Stalling, Over}
use Rattle.oram_semantics.specs.Run.{Shown, refusal_of, is_over}
use Rattle.oram_semantics.specs.State.{State, World, AllStand, status_in, map_entry_of}
use Rattle.oram_semantics.specs.Blocks.{found_in}
use Rattle.oram_semantics.specs.Moves.{Moved, MovesTo, Moves, Fits, IsReady, stays, stalls, resends, accepts, stores, fetches, finishes, goes_on, on_submission, on_answer, on_loss, on_retry, world_after, moved}
use Rattle.oram_semantics.specs.Agree.{map_entry_for, next_tree, IsBetween, AtBetween, IsNext, Agrees, IsAllowed, IsOrderly}
use Rattle.oram_semantics.specs.declared.events.Event.{Event}
use Rattle.oram_semantics.specs.declared.events.Event.TheVariants.{Submit, Answer, Lost, Reopen, Retry}
use Rattle.oram_semantics.specs.declared.events.Refusal.{Refusal}
use Rattle.oram_semantics.specs.declared.events.Note.TheVariants.{Refused, Unexpected}
use Rattle.oram_semantics.specs.declared.events.Submission.{Submission}
use Rattle.oram_geometry.proofs.DeviceSizes.{blocks_in-zero}
use Rattle.oram_semantics.proofs.Bounds.{IsFit, address_small}
use Rattle.oram_semantics.proofs.AgreedFetches.{agreeing_ready}
use Rattle.oram_semantics.proofs.AgreeOn.{agrees_on}
use Rattle.oram_semantics.proofs.AgreeKept.{agrees_kept, agrees_finished, agrees_fetched, map_entry_kept}
use Rattle.oram_semantics.proofs.Submitted.{passed}

-- the block that a command has in each tree is one of the tree's blocks
inside : (v : Scheme) (x : Submission) → IsFit v.device → IsAllowed v.device x → (k : ℕ)
    → block_of v.device k x < blocks_in v.device k
inside v x fit ok k =
    address_small v.device k (address_of x.command) fit.words.some (subst (λ n. address_of x.command < n) (blocks_in-zero v.device) ok.address)

-- the state after an event
pub record IsLeft (v : Scheme) (t : State) (w : World) : Type 0 where
  pub orderly : IsOrderly v t
  pub agrees : Agrees v t w

-- an event that leaves table, queue, stage and content unchanged

next_same : (v : Scheme) (s t : State) (queue : List Submission) (k b : ℕ) → t.entry_number ≡ s.entry_number → IsNext v s queue k b
    → IsNext v t queue k b
next_same v s t [] k b e n = n
next_same v s t (x ∷ rest) k b e n =
    let more : 0 < s.entry_number = n.0.0 in
    let less : s.entry_number + 1 < 2 * trees_of v.device = n.0.1 in
    ((omega arith, omega arith), n.1 ∙ ap (λ r. entry_tree v.device (r + 1)) (sym e), n.2)

between_same : (v : Scheme) (s t : State) (w w' : World) (queue : List Submission) → t.table ≡ s.table → t.entry_number ≡ s.entry_number
    → t.held_entry ≡ s.held_entry → ((i c : ℕ) → w'.content i c ≡ w.content i c) → AtBetween v s w queue → AtBetween v t w' queue
between_same v s t w w' [] table entry_number held_entry content at = tt
between_same v s t w w' (x ∷ rest) table entry_number held_entry content at = λ amid.
    let more : 0 < t.entry_number = amid.0 in
    let less : t.entry_number + 1 < 2 * trees_of v.device = amid.1 in
    let was : IsBetween v s w x = at (omega arith, omega arith) in
    let same : next_tree v t ≡ next_tree v s = ap (λ r. entry_tree v.device (r + 1)) entry_number in
    record {
      held = held_entry ∙ was.held
          ∙ sym (ap (λ i. map_entry_of (w'.content i (block_of v.device i x))) same ∙ ap map_entry_of (content (next_tree v s) (block_of v.device (next_tree v s) x)));
      ahead = map_entry_kept v s t w w' (next_tree v t) (block_of v.device (next_tree v t) x) table content
          ∙ ap (λ i. map_entry_for v s w i (block_of v.device i x)) same ∙ was.ahead ∙ ap (λ i. new_leaf v.device i x + 1) (sym same);
    }

left_same : (v : Scheme) (s t : State) (w w' : World) → t.table ≡ s.table → t.queue ≡ s.queue → t.entry_number ≡ s.entry_number
    → t.held_entry ≡ s.held_entry → ((i c : ℕ) → w'.content i c ≡ w.content i c) → IsOrderly v s → Agrees v s w → IsLeft v t w'
left_same v s t w w' table queue entry_number held_entry content o a = record {
  orderly = record {
    sized = ap (λ (xs : List ℕ). length xs) table ∙ o.sized;
    queue = subst (All (IsAllowed v.device)) (sym queue) o.queue;
    entry_number = subst (λ (r : ℕ). r < 2 * trees_of v.device) (sym entry_number) o.entry_number;
    rests = λ none. entry_number ∙ o.rests (sym (ap (λ (q : List Submission). length q) queue) ∙ none);
  };
  agrees = agrees_kept v s t w w' table content
      (λ k b n. subst (λ q. IsNext v t q k b) (sym queue) (next_same v s t s.queue k b entry_number n))
      (subst (AtBetween v t w') (sym queue) (between_same v s t w w' s.queue table entry_number held_entry content a.between)) a;
}

-- an accepted submission

next_push : (v : Scheme) (t : State) (queue : List Submission) (x : Submission) (k b : ℕ) → IsNext v t queue k b
    → IsNext v t (queue ++ x ∷ []) k b
next_push v t [] x k b n = absurd n
next_push v t (y ∷ rest) x k b n = n

between_push : (v : Scheme) (t : State) (w : World) (queue : List Submission) (x : Submission)
    → (length queue ≡ 0 → t.entry_number ≡ 0) → AtBetween v t w queue → AtBetween v t w (queue ++ x ∷ [])
between_push v t w [] x rests at = λ amid. absurd (let more : 0 < t.entry_number = amid.0 in let none : t.entry_number ≡ 0 = rests refl in omega arith)
between_push v t w (y ∷ rest) x rests at = at

left_pushed : (v : Scheme) (s t : State) (w w' : World) (x : Submission) → t.table ≡ s.table → t.queue ≡ s.queue ++ x ∷ []
    → t.entry_number ≡ s.entry_number → t.held_entry ≡ s.held_entry → ((i c : ℕ) → w'.content i c ≡ w.content i c) → IsAllowed v.device x
    → IsOrderly v s → Agrees v s w → IsLeft v t w'
left_pushed v s t w w' x table queue entry_number held_entry content ok o a = record {
  orderly = record {
    sized = ap (λ (xs : List ℕ). length xs) table ∙ o.sized;
    queue = subst (All (IsAllowed v.device)) (sym queue) (All-push (IsAllowed v.device) s.queue x o.queue ok);
    entry_number = subst (λ (r : ℕ). r < 2 * trees_of v.device) (sym entry_number) o.entry_number;
    rests = λ none. absurd (let some : length t.queue ≡ length s.queue + 1 = ap (λ (q : List Submission). length q) queue ∙ length-append s.queue (x ∷ []) ∙ omega arith in omega arith);
  };
  agrees = agrees_kept v s t w w' table content
      (λ k b n. subst (λ q. IsNext v t q k b) (sym queue) (next_push v t s.queue x k b (next_same v s t s.queue k b entry_number n)))
      (subst (AtBetween v t w') (sym queue) (between_push v t w' s.queue x (λ none. entry_number ∙ o.rests none) (between_same v s t w w' s.queue table entry_number held_entry content a.between))) a;
}

-- good answers

left_stored : (v : Scheme) (s t : State) (w : World) (x : Submission) (rest : List Submission) (y : Shown) → IsFit v.device
    → s.queue ≡ x ∷ rest → s.entry_number % 2 ≡ 0 → IsOrderly v s → Agrees v s w → MovesTo v s w (stores v s w x) y t
    → IsLeft v t (world_after v w (stores v s w x) y.sends)
left_stored v s t w x rest y fit qu even o a mv =
    let d = v.device in
    let i : ℕ = entry_tree d s.entry_number in
    let few : s.entry_number < 2 * trees_of d = o.entry_number in
    let ok : IsAllowed d x = All-head (IsAllowed d) x rest (subst (All (IsAllowed d)) qu o.queue) in
    let queue : t.queue ≡ x ∷ rest = ap (λ (u : State). u.queue) mv.state ∙ qu in
    let entry_number : t.entry_number ≡ s.entry_number + 1 = ap (λ (u : State). u.entry_number) mv.state in
    let table : t.table ≡ (if s.entry_number == 0 then slice_set s.table (block_of d i x) (new_leaf d i x + 1) else s.table) =
    ap (λ (u : State). u.table) mv.state in
    let some : length t.queue ≡ length rest + 1 = ap (λ (q : List Submission). length q) queue ∙ omega arith in
    record {
      orderly = record {
        sized = ap (λ (xs : List ℕ). length xs) table ∙ length_table s.table s.entry_number (block_of d i x) (new_leaf d i x + 1)
            ∙ o.sized;
        queue = subst (All (IsAllowed d)) (sym (ap (λ (u : State). u.queue) mv.state)) o.queue;
        entry_number = omega arith;
        rests = λ none. absurd (omega arith);
      };
      agrees =
          agrees_on v s t w (world_after v w (stores v s w x) y.sends) x rest i (block_of d i x) (found_in d (w.content i (block_of d i x))) (record {
            tree = refl;
            block = refl;
            found = refl;
            queue = qu;
            even = even;
            few = few;
            inside = omega (arith, inside v x fit ok (trees_of d - 1), o.sized);
            queue' = queue;
            stage' = entry_number;
            table' = table;
            held_entry' = ap (λ (u : State). u.held_entry) mv.state;
            content' = λ k b. refl;
          }) fit.words a ok.data_length (inside v x fit ok);
    }
  where
    length_table : (table : List ℕ) (entry_number a n : ℕ) → length (if entry_number == 0 then slice_set table a n else table) ≡ length table
    length_table table entry_number a n = elim (entry_number == 0) as (λ b. length (if b then slice_set table a n else table) ≡ length table) [ true ↦ length-set table a n | false ↦ refl ]

left_fetched : (v : Scheme) (s t : State) (w : World) (x : Submission) (rest : List Submission) (y : Shown)
    → s.queue ≡ x ∷ rest → s.entry_number % 2 ≡ 1 → s.entry_number + 1 < 2 * trees_of v.device → IsOrderly v s → Agrees v s w
    → MovesTo v s w (fetches v s w x) y t → IsLeft v t (world_after v w (fetches v s w x) y.sends)
left_fetched v s t w x rest y qu odd more o a mv =
    let queue : t.queue ≡ x ∷ rest = ap (λ (u : State). u.queue) mv.state ∙ qu in
    let entry_number : t.entry_number ≡ s.entry_number + 1 = ap (λ (u : State). u.entry_number) mv.state in
    let table : t.table ≡ s.table = ap (λ (u : State). u.table) mv.state in
    let some : length t.queue ≡ length rest + 1 = ap (λ (q : List Submission). length q) queue ∙ omega arith in
    record {
      orderly = record {
        sized = ap (λ (xs : List ℕ). length xs) table ∙ o.sized;
        queue = subst (All (IsAllowed v.device)) (sym (ap (λ (u : State). u.queue) mv.state)) o.queue;
        entry_number = omega arith;
        rests = λ none. absurd (omega arith);
      };
      agrees = agrees_fetched v s t w (world_after v w (fetches v s w x) y.sends) x rest qu queue table (ap (λ (u : State). u.held_entry) mv.state) (λ i c. refl) odd more entry_number a;
    }

left_finished : (v : Scheme) (s t : State) (w : World) (x : Submission) (rest : List Submission) (y : Shown) → IsFit v.device
    → s.queue ≡ x ∷ rest → s.entry_number + 1 ≡ 2 * trees_of v.device → IsOrderly v s → Agrees v s w
    → MovesTo v s w (finishes v s w x rest) y t → IsLeft v t (world_after v w (finishes v s w x rest) y.sends)
left_finished v s t w x rest y fit qu last o a mv =
    let entry_number : t.entry_number ≡ 0 = ap (λ (u : State). u.entry_number) mv.state in
    let table : t.table ≡ s.table = ap (λ (u : State). u.table) mv.state in
    let some : 0 < trees_of v.device = fit.some in
    record {
      orderly = record {
        sized = ap (λ (xs : List ℕ). length xs) table ∙ o.sized;
        queue = subst (All (IsAllowed v.device)) (sym (ap (λ (u : State). u.queue) mv.state)) (All-tail (IsAllowed v.device) x rest (subst (All (IsAllowed v.device)) qu o.queue));
        entry_number = omega arith;
        rests = λ none. entry_number;
      };
      agrees = agrees_finished v s t w (world_after v w (finishes v s w x rest) y.sends) table (λ i c. refl) last entry_number a;
    }

left_good : (v : Scheme) (s t : State) (w : World) (queue : List Submission) (y : Shown) → IsFit v.device → s.queue ≡ queue
    → IsOrderly v s → Agrees v s w → MovesTo v s w (goes_on v s w queue) y t
    → IsLeft v t (world_after v w (goes_on v s w queue) y.sends)
left_good v s t w [] y fit qu o a mv =
    left_same v s t w (world_after v w (goes_on v s w []) y.sends) (ap (λ (u : State). u.table) mv.state) (ap (λ (u : State). u.queue) mv.state) (ap (λ (u : State). u.entry_number) mv.state) (ap (λ (u : State). u.held_entry) mv.state) (λ i c. refl) o a
left_good v s t w (x ∷ rest) y fit qu o a mv =
    let P : Moved → Type 0 = λ m. MovesTo v s w m y t → IsLeft v t (world_after v w m y.sends) in
    let few : s.entry_number < 2 * trees_of v.device = o.entry_number in
    let go : P (goes_on v s w (x ∷ rest)) = elim (eqb_tells (s.entry_number % 2) 0) [
      | inl even ↦ subst (λ (b : Bool). P (if b then stores v s w x else if s.entry_number + 1 == 2 * trees_of v.device then finishes v s w x rest else fetches v s w x)) (sym even.0) (left_stored v s t w x rest y fit qu even.1 o a)
      | inr odd ↦
          let one : s.entry_number % 2 ≡ 1 = let ne : s.entry_number % 2 ≢ 0 = odd.1 in omega arith in
          subst (λ (b : Bool). P (if b then stores v s w x else if s.entry_number + 1 == 2 * trees_of v.device then finishes v s w x rest else fetches v s w x)) (sym odd.0)
          (elim (eqb_tells (s.entry_number + 1) (2 * trees_of v.device)) [
            | inl last ↦ subst (λ (b : Bool). P (if b then finishes v s w x rest else fetches v s w x)) (sym last.0) (left_finished v s t w x rest y fit qu last.1 o a)
            | inr more ↦ subst (λ (b : Bool). P (if b then finishes v s w x rest else fetches v s w x)) (sym more.0) (let ne : s.entry_number + 1 ≢ 2 * trees_of v.device = more.1 in left_fetched v s t w x rest y qu one (omega arith) o a)
          ])
    ] in
    go mv

-- all events

-- the state after an event that doesn't fail the device
abbrev After : Scheme → State → State → World → Shown → Moved → Type 0
After v s t w y m = MovesTo v s w m y t → t.failure ≡ None → IsLeft v t (world_after v w m y.sends)

left_quiet : (v : Scheme) (s t : State) (w : World) (y : Shown) (m : Moved) → m.state.table ≡ s.table
    → m.state.queue ≡ s.queue → m.state.entry_number ≡ s.entry_number → m.state.held_entry ≡ s.held_entry
    → ((i c : ℕ) → m.content i c ≡ w.content i c) → IsOrderly v s → Agrees v s w → After v s t w y m
left_quiet v s t w y m table queue entry_number held_entry content o a mv healthy =
    left_same v s t w (world_after v w m y.sends) (ap (λ (u : State). u.table) mv.state ∙ table) (ap (λ (u : State). u.queue) mv.state ∙ queue) (ap (λ (u : State). u.entry_number) mv.state ∙ entry_number) (ap (λ (u : State). u.held_entry) mv.state ∙ held_entry) content o a

left_submitted : (v : Scheme) (s t : State) (w : World) (y : Shown) (x : Submission) (o : Option Refusal) → IsFit v.device
    → refusal_of v.device (is_over (status_in s)) (length s.queue) s.next x.command x.words ≡ o → IsOrderly v s
    → Agrees v s w → After v s t w y (on_submission v s w x o)
left_submitted v s t w y x (Some e) fit r o a = left_quiet v s t w y (stays s w (Refused e)) refl refl refl refl (λ i c. refl) o a
left_submitted v s t w y x None fit r o a = λ mv healthy.
    let ok = passed v.device (is_over (status_in s)) (length s.queue) s.next x.command x.words r in
    left_pushed v s t w (world_after v w (accepts v s w x) y.sends) x (ap (λ (u : State). u.table) mv.state) (ap (λ (u : State). u.queue) mv.state) (ap (λ (u : State). u.entry_number) mv.state) (ap (λ (u : State). u.held_entry) mv.state) (λ i c. refl)
    (record { address = subst (λ n. address_of x.command < n) (sym (blocks_in-zero v.device)) ok.1; data_length = ok.2; words = ok.3 }) o a

left_answered : (v : Scheme) (s t : State) (w : World) (y : Shown) (now : Status) (o : Outcome) → IsFit v.device
    → IsOrderly v s → Agrees v s w → After v s t w y (on_answer v s w now o)
left_answered v s t w y Waiting Good fit o a = λ mv healthy. left_good v s t w s.queue y fit refl o a mv
left_answered v s t w y Waiting NoRoom fit o a = left_quiet v s t w y (stalls s w) refl refl refl refl (λ i c. refl) o a
left_answered v s t w y Waiting (Fails e) fit o a = λ mv healthy. absurd (let both : Some e ≡ None = sym (ap (λ (u : State). u.failure) mv.state) ∙ healthy in cc)
left_answered v s t w y Idle outcome fit o a = left_quiet v s t w y (stays s w Unexpected) refl refl refl refl (λ i c. refl) o a
left_answered v s t w y Stalling outcome fit o a =
    left_quiet v s t w y (stays s w Unexpected) refl refl refl refl (λ i c. refl) o a
left_answered v s t w y Over outcome fit o a = left_quiet v s t w y (stays s w Unexpected) refl refl refl refl (λ i c. refl) o a

left_lost : (v : Scheme) (s t : State) (w : World) (y : Shown) (now : Status) → IsOrderly v s → Agrees v s w
    → After v s t w y (on_loss s w now)
left_lost v s t w y Waiting o a = left_quiet v s t w y (stalls s w) refl refl refl refl (λ i c. refl) o a
left_lost v s t w y Idle o a = left_quiet v s t w y (stays s w Unexpected) refl refl refl refl (λ i c. refl) o a
left_lost v s t w y Stalling o a = left_quiet v s t w y (stays s w Unexpected) refl refl refl refl (λ i c. refl) o a
left_lost v s t w y Over o a = left_quiet v s t w y (stays s w Unexpected) refl refl refl refl (λ i c. refl) o a

left_retried : (v : Scheme) (s t : State) (w : World) (y : Shown) (now : Status) → IsOrderly v s → Agrees v s w
    → After v s t w y (on_retry s w now)
left_retried v s t w y Stalling o a = left_quiet v s t w y (resends s w) refl refl refl refl (λ i c. refl) o a
left_retried v s t w y Idle o a = left_quiet v s t w y (stays s w Unexpected) refl refl refl refl (λ i c. refl) o a
left_retried v s t w y Waiting o a = left_quiet v s t w y (stays s w Unexpected) refl refl refl refl (λ i c. refl) o a
left_retried v s t w y Over o a = left_quiet v s t w y (stays s w Unexpected) refl refl refl refl (λ i c. refl) o a

-- Trees that agree still do after each event that doesn't fail the device, and the core stays orderly.
pub agrees_moved : (v : Scheme) (s t : State) (w : World) (event : Event) (y : Shown) → IsFit v.device → IsOrderly v s
    → Agrees v s w → Moves v s w event y t → t.failure ≡ None → IsLeft v t (world_after v w (moved v s w event) y.sends)
agrees_moved v s t w (Submit session c words) y fit o a =
    left_submitted v s t w y (record { session = session; ticket = s.next; command = c; words = words }) (refusal_of v.device (is_over (status_in s)) (length s.queue) s.next c words) fit refl o a
agrees_moved v s t w (Answer bytes) y fit o a =
    left_answered v s t w y (status_in s) (outcome_of v w.records (requested s.message) bytes) fit o a
agrees_moved v s t w Lost y fit o a = left_lost v s t w y (status_in s) o a
agrees_moved v s t w Reopen y fit o a = left_lost v s t w y (status_in s) o a
agrees_moved v s t w Retry y fit o a = left_retried v s t w y (status_in s) o a

ready_by : (v : Scheme) (s : State) (w : World) (queue : List Submission) → s.queue ≡ queue → IsFit v.device → IsOrderly v s
    → Agrees v s w → IsReady v s w queue
ready_by v s w [] qu fit o a = tt
ready_by v s w (x ∷ rest) qu fit o a = λ even.
    agreeing_ready v s w x rest qu even o.entry_number fit.some (inside v x fit (All-head (IsAllowed v.device) x rest (subst (All (IsAllowed v.device)) qu o.queue))) a

-- A core whose trees stand and agree can go on.
pub agreeing_fits : (v : Scheme) (s : State) (w : World) → IsFit v.device → IsOrderly v s → Agrees v s w → AllStand v s w → Fits v s w
agreeing_fits v s w fit o a holds = λ healthy. (holds, ready_by v s w s.queue refl fit o a)
