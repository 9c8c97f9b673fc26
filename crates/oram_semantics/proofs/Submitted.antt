-- An accepted submission: its reaction is right, and the core follows the longer past.
use Rattle.std.proofs.Common.{◌≡◌, ℕ, ◌+◌, ◌-◌, ◌*◌, ◌<◌, ◌==◌, not, nat_le, Bool, true, false, if◌then◌else◌, List, [], ◌∷◌, ◌++◌, length, length-append, reverse, slice_index, Option, Some, None, refl, ap, sym, ◌∙◌, arith}
use Rattle.std.proofs.lemmas.List.{append-nil}
use Rattle.std.proofs.lemmas.Bool.Decides.{nat_tests}
use Rattle.oram_geometry.specs.declared.Sizes.{Sizes}
use Rattle.oram_geometry.specs.Sizes.{trees_of}
use Rattle.oram_semantics.specs.Content.{entry_tree}
use Rattle.oram_semantics.specs.Events.{address_of, reply_of}
use Rattle.oram_semantics.specs.Scheme.{Scheme}
use Rattle.oram_semantics.specs.Progress.{Setting, Step, Progress, accepted, progress, submission_of}
use Rattle.oram_semantics.specs.Content.{block_of, map_entry_in, content_after}
use Rattle.oram_semantics.specs.declared.events.Refusal.TheVariants as refusal
use Rattle.oram_semantics.specs.Run.{has_bad_length, refusal_of, note_of, is_accepted, fails_now, is_resent, AskFor, answered_tickets, entries_sent, from_to, Shown, step_of}
use Rattle.oram_semantics.specs.State.{State}
use Rattle.oram_semantics.specs.Moves.{Moved, MovesTo, accepts, Sends, latest, first_fetch, if_idle, buckets_in}
use Rattle.oram_semantics.specs.declared.events.Command.{Command}
use Rattle.oram_semantics.specs.declared.events.Event.{Event}
use Rattle.oram_semantics.specs.declared.events.Event.TheVariants.{Submit}
use Rattle.oram_semantics.specs.declared.events.Refusal.{Refusal}
use Rattle.oram_semantics.specs.declared.events.Note.TheVariants.{Accepted}
use Rattle.oram_semantics.specs.declared.events.Submission.{Submission}
use Rattle.oram_semantics.specs.Law.{world_of}
use Rattle.oram_semantics.proofs.Bounds.{IsFit, address_small}
use Rattle.oram_semantics.proofs.Follows.{FitsTable, applied, applied_none, AtWork, Live, content_is}
use Rattle.oram_semantics.proofs.Counts.{progress_cons, accepted_cons, accepted_len, none_between, asks_for_none, sent_is}
use Rattle.oram_semantics.proofs.Fetches.{fetch_entry}
use Rattle.oram_semantics.proofs.Others.{live_accepted, accepted_state, applied_push, idle_stage}
use Rattle.oram_semantics.proofs.Keeps.{Kept, replies_calm, sends_right, follows_on, entry_split}
use Rattle.oram_semantics.proofs.Answered.{asks_due, sent_before, placed_first, records_first, seals_none, forget_last}

if_none : (b : Bool) (e : Refusal) (o : Option Refusal) → (if b then Some e else o) ≡ None → (b ≡ false) × (o ≡ None)
if_none true e o h = cc
if_none false e o h = (refl, h)

-- what is known about an accepted submission
pub passed : (d : Sizes) (f : Bool) (w n : ℕ) (c : Command) (words : List ℕ) → refusal_of d f w n c words ≡ None
    → (f ≡ false) × (address_of c < d.blocks) × (has_bad_length d c ≡ false) × (length words ≡ 2 * trees_of d)
passed d f w n c words e =
    let a = if_none f refusal.Failed _ e in
    let b = if_none (nat_le d.blocks (address_of c)) refusal.BadAddress _ a.1 in
    let g = if_none (has_bad_length d c) refusal.BadLength _ b.1 in
    let h = if_none (not (length words == 2 * trees_of d)) refusal.BadWords _ g.1 in
    let near : address_of c < d.blocks = grind (arith, nat_tests, b.0) in
    let two : length words ≡ 2 * trees_of d = grind (arith, nat_tests, h.0) in
    (a.0, near, g.0, two)

-- an idle core sends the first fetch
first_due : (v : Setting) (past : List Step) (old queue : List Submission) (s : State) (y : Submission) (step : Step)
    → IsFit v.scheme.device → Live v past old s → s.queue ≡ queue → AtWork v past old s queue → FitsTable v.scheme.device y
    → progress v (step ∷ past) ≡ progress v past → accepted (step ∷ past) ≡ accepted past ++ y ∷ []
    → Sends v.scheme s.message (if_idle queue (first_fetch v.scheme.device s.table (y ∷ []))) step.sends
    → AskFor v (step ∷ past) (from_to (entries_sent v past) (entries_sent v (step ∷ past))) step.sends
first_due v past old [] s y step fit l qu w ok p a sends =
    let d = v.scheme.device in
    let g : ℕ = (progress v past).good in
    let z : s.entry_number ≡ 0 = w.entry_number in
    let some : 0 < trees_of d = fit.some in
    let split : accepted past ≡ reverse old ++ [] = l.split ∙ ap (λ xs. reverse old ++ xs) qu in
    let len : length (accepted past) ≡ length old = accepted_len past old [] split ∙ omega arith in
    let len' : length (accepted (step ∷ past)) ≡ length old + 1 =
    ap length a ∙ length-append (accepted past) (y ∷ []) ∙ omega arith in
    let good : g ≡ length old * (2 * trees_of d) + 0 = l.good ∙ ap (λ (k : ℕ). length old * (2 * trees_of d) + k) z in
    let top : trees_of d - 1 ≡ entry_tree d 0 = omega arith in
    let map_entry_is : slice_index s.table (block_of d (trees_of d - 1) y) ≡ map_entry_in d (entry_tree d 0) old (block_of d (entry_tree d 0) y) = l.table (block_of d (trees_of d - 1) y) ok.block
    ∙ ap (λ (k : ℕ). map_entry_in d (trees_of d - 1) (applied d old s.queue k (trees_of d - 1)) (block_of d (trees_of d - 1) y)) z
    ∙ ap (λ xs. map_entry_in d (trees_of d - 1) xs (block_of d (trees_of d - 1) y)) (applied_none d old s.queue (trees_of d - 1))
    ∙ ap (λ (i : ℕ). map_entry_in d i old (block_of d i y)) top in
    let whole : accepted (step ∷ past) ≡ reverse old ++ y ∷ [] =
    a ∙ ap (λ xs. xs ++ y ∷ []) split ∙ ap (λ xs. xs ++ y ∷ []) (append-nil (reverse old)) in
    let due =
    fetch_entry d old y 0 (slice_index s.table (block_of d (trees_of d - 1) y)) refl map_entry_is
    ∙ sym (entry_split v (step ∷ past) old [] y 0 g good whole l.words ok.words (omega arith)) in
    asks_due v past step s.message _ (entries_sent v past) (entries_sent v (step ∷ past)) g sends
    (sent_is v past g (length old) g refl len (omega arith))
    (sent_is v (step ∷ past) g (length old + 1) (g + 1) (ap (λ (q : Progress). q.good) p) len' (omega arith)) due
first_due v past old (z ∷ rest) s y step fit l qu w ok p a sends =
    let d = v.scheme.device in
    let g : ℕ = (progress v past).good in
    let few : s.entry_number < 2 * trees_of d = w.entry_number in
    let len : length (accepted past) ≡ length old + (length rest + 1) =
    accepted_len past old s.queue l.split ∙ ap (λ (q : List Submission). length old + length q) qu ∙ omega arith in
    let len' : length (accepted (step ∷ past)) ≡ length old + (length rest + 1 + 1) =
    ap length a ∙ length-append (accepted past) (y ∷ []) ∙ omega arith in
    asks_for_none v (step ∷ past) (entries_sent v past) (entries_sent v (step ∷ past)) step.sends
    (sent_is v (step ∷ past) g (length old + (length rest + 1 + 1)) (g + 1) (ap (λ (q : Progress). q.good) p) len' (sent_before (trees_of d) (length old) (length rest + 1) s.entry_number g few l.good)
    ∙ sym (sent_is v past g (length old + (length rest + 1)) (g + 1) refl len (sent_before (trees_of d) (length old) (length rest) s.entry_number g few l.good))) sends

-- the message of an accepted submission
idle_ask : (v : Scheme) (last table : List ℕ) (queue : List Submission) (y : Submission) (sends : List (List ℕ))
    → Sends v last (if_idle queue (first_fetch v.device table (y ∷ []))) sends
    → (rest : List Submission) × (if_idle queue (first_fetch v.device table (y ∷ [])) ≡ first_fetch v.device table rest) × Sends v last (first_fetch v.device table rest) sends
idle_ask v last table [] y sends h = (y ∷ [], refl, h)
idle_ask v last table (z ∷ queue) y sends h = ([], refl, h)

pub accepts_keep : (v : Setting) (past : List Step) (s t : State) (old : List Submission) (x : Shown) (session : ℕ)
    (c : Command) (words : List ℕ) → IsFit v.scheme.device → Live v past old s → s.failure ≡ None
    → address_of c < v.scheme.device.blocks → length words ≡ 2 * trees_of v.scheme.device
    → MovesTo v.scheme s (world_of v past) (accepts v.scheme s (world_of v past) (record { session = session; ticket = s.next; command = c; words = words })) x t
    → Accepted s.next ≡ note_of v past (Submit session c words) → Kept v past (Submit session c words) x t
accepts_keep v past s t old x session c words fit l healthy near two mv is =
    let d = v.scheme.device in
    let event : Event = Submit session c words in
    let step : Step = step_of event x in
    let y : Submission = record { session = session; ticket = s.next; command = c; words = words } in
    let m : Moved = accepts v.scheme s (world_of v past) y in
    let n : ℕ = s.nonce + 0 in
    let ask = idle_ask v.scheme s.message s.table s.queue y x.sends mv.sends in
    let u : State = accepted_state v past s y t.trees n (latest x.sends s.message) in
    let is_u : t ≡ u =
    mv.state
    ∙ ap (λ k. accepted_state v past s y t.trees (s.nonce + k) (latest x.sends s.message)) (ap (buckets_in d) ask.1 ∙ seals_none d s.table ask.0) in
    let p : progress v (step ∷ past) ≡ progress v past = progress_cons v step past in
    let count : s.next ≡ length (accepted past) = l.next ∙ sym (accepted_len past old s.queue l.split) in
    let a : accepted (step ∷ past) ≡ accepted past ++ y ∷ [] = accepted_cons step past ∙ ap (λ (b : Bool). if b then accepted past ++ submission_of (length (accepted past)) event else accepted past) (ap is_accepted mv.note)
    ∙ ap (λ (k : ℕ). accepted past ++ (record { session = session; ticket = k; command = c; words = words }) ∷ []) (sym count) in
    let ok : FitsTable d y =
    record { block = address_small d (trees_of d - 1) (address_of c) fit.words.some near; words = two } in
    let nonce : n ≡ s.nonce = omega arith in
    let live : Live v (step ∷ past) old u = live_accepted v past old s y step t.trees n fit l ok refl p a nonce mv.sends in
    record {
      right = record {
        note = mv.note ∙ is;
        replies = mv.replies
            ∙ sym (replies_calm v past step x.note [] (ap fails_now mv.note) (none_between (reply_of d (accepted past)) (accepted past) (answered_tickets v past) (answered_tickets v (step ∷ past)) (rw p refl)));
        sends = sends_right v past step x.note false (ap is_resent mv.note) (first_due v past old s.queue s y step fit l refl l.work ok p a mv.sends);
        placed = λ _. placed_first v (step ∷ past) (answered_tickets v past) s.message x.sends s.table ask.0 ask.2;
      };
      follows = follows_on v past event x old t u m fit is_u healthy live
          (λ k below. content_is v past old s k fit l ∙ ap (content_after d k) (sym (applied_push d old s.queue y s.entry_number k (idle_stage v past old s s.queue l.work))))
          (records_first v past event x m s.table ask.0 ask.1 (forget_last v.scheme s.message s.table ask.0 x.sends ask.2)) mv.holds;
    }
