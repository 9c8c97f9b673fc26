-- What has to be proved of each step by the local rule, and the steps at which no new message is sent.
use Rattle.std.proofs.Common.{◌≡◌, ℕ, zero, suc, ◌+◌, ◌-◌, ◌*◌, ◌%◌, ◌^◌, ◌<◌, ◌≤◌, ◌==◌, ◌&&◌, Bool, true, false, if◌then◌else◌, List, [], ◌∷◌, ◌++◌, length, reverse, map, take, drop, slice_index, slice_index_or, slice_range, Option, Some, None, refl, ap, sym, ◌∙◌, subst, arith}
use Rattle.std.specs.List.{All}
use Rattle.std.proofs.lemmas.List.{append-nil}
use Rattle.std.proofs.lemmas.List.Elements.{All-head}
use Rattle.std.proofs.lemmas.Bool.Decides.{nat_tests}
use Rattle.oram_geometry.specs.declared.Sizes.{Sizes}
use Rattle.oram_geometry.specs.Sizes.{trees_of, depth_of}
use Rattle.oram_trace.specs.declared.entries.Entry.{Entry}
use Rattle.oram_trace.specs.Tape.{entry}
use Rattle.oram_semantics.specs.Content.{entry_tree}
use Rattle.oram_semantics.specs.Events.{addresses, tape, reply_of, failed_reply}
use Rattle.oram_semantics.specs.Messages.{requested, is_store, last_stored}
use Rattle.oram_semantics.specs.Answers.{pair_in}
use Rattle.oram_semantics.specs.Progress.{Setting, Step, Progress, Status, accepted, sent, records_of, progress, entry_at}
use Rattle.oram_tree.specs.Content.{Map}
use Rattle.oram_semantics.specs.Content.{block_of, map_entry_in, data_in, content_after, content_of}
use Rattle.oram_semantics.specs.Nonces.{store_nonce}
use Rattle.oram_semantics.specs.Trees.{Stands, IsPlaced}
use Rattle.oram_semantics.specs.Run.{is_waiting, note_of, is_accepted, fails_now, is_resent, replies_at, SendsRight, answered_tickets, entries_sent, PlacedBy, Shown, step_of, IsRight, shows_pair}
use Rattle.oram_semantics.specs.State.{State, World, AllStand, no_tree, status_by, map_entry_of}
use Rattle.oram_semantics.specs.Blocks.{found_in, next_map_entry}
use Rattle.oram_semantics.specs.Moves.{Moved, MovesTo, stays, resends, fails, latest, world_after, records_after, PlacedIn, IsReady, IsReadyFor, Fits, shows_in}
use Rattle.oram_semantics.specs.Moves.Ask.{Nothing}
use Rattle.oram_semantics.specs.declared.events.Event.{Event}
use Rattle.oram_semantics.specs.declared.events.Event.TheVariants.{Submit, Answer, Lost, Reopen, Retry}
use Rattle.oram_semantics.specs.declared.events.Reason.{Reason}
use Rattle.oram_semantics.specs.declared.events.Note.{Note}
use Rattle.oram_semantics.specs.declared.events.Note.TheVariants.{FailedNow, Resent}
use Rattle.oram_semantics.specs.declared.events.Reply.{Reply}
use Rattle.oram_semantics.specs.declared.events.Submission.{Submission}
use Rattle.oram_semantics.proofs.Entries.{HasWords, entry_is}
use Rattle.oram_semantics.proofs.Maps.{name_is, map_entry_range}
use Rattle.oram_semantics.specs.Law.{world_of}
use Rattle.oram_semantics.proofs.Bounds.{IsFit}
use Rattle.oram_semantics.proofs.Follows.{FitsTable, applied, applied_none, entry_for, Working, AtWork, Live, FollowsAt, Follows, content_is}
use Rattle.oram_semantics.proofs.Counts.{accepted_cons, sent_cons, records_more, again_same, accepted_len, rest_is, status_is, status_ends, none_between, asks_for_none, answered_is}
use Rattle.oram_semantics.proofs.Stores.{content_before, bytes_are, map_entry_next}
use Rattle.oram_semantics.proofs.Others.{all_none, all_one, live_kept}

-- the records at the host, in the longer past
abbrev pub RecordsAre : Setting → List Step → Event → Shown → Moved → Type 0
RecordsAre v past event x m = records_of v (step_of event x ∷ past) ≡ (world_after v.scheme (world_of v past) m x.sends).records

-- the content is the defined one
abbrev pub ContentIs : Setting → List Submission → State → Moved → Type 0
ContentIs v old t m =
    (i : ℕ) → i < trees_of v.scheme.device → m.content i ≡ content_after v.scheme.device i (applied v.scheme.device old t.queue t.entry_number i)

-- the trees stand in the world of the longer past
holds_on : (v : Setting) (past : List Step) (event : Event) (x : Shown) (old : List Submission) (t : State) (m : Moved)
    → IsFit v.scheme.device → Live v (step_of event x ∷ past) old t → ContentIs v old t m → RecordsAre v past event x m
    → AllStand v.scheme t (world_after v.scheme (world_of v past) m x.sends)
    → AllStand v.scheme t (world_of v (step_of event x ∷ past))
holds_on v past event x old t m fit l same rec h i below =
    let now : List Step = step_of event x ∷ past in
    subst (λ (r : ℕ → ℕ → List ℕ). Stands v.scheme i (slice_index_or t.trees i no_tree) (r i) (content_of v now i)) (sym rec)
    (subst (λ (c : Map). Stands v.scheme i (slice_index_or t.trees i no_tree) ((world_after v.scheme (world_of v past) m x.sends).records i) c) (same i below ∙ sym (content_is v now old t i fit l)) (h i below))

pub content_along : (v : Setting) (old : List Submission) (t u : State) (m : Moved) → t ≡ u → ContentIs v old u m
    → ContentIs v old t m
content_along v old t u m e same i below =
    same i below ∙ ap (λ (s : State). content_after v.scheme.device i (applied v.scheme.device old s.queue s.entry_number i)) (sym e)

pub follows_on : (v : Setting) (past : List Step) (event : Event) (x : Shown) (old : List Submission) (t u : State)
    (m : Moved) → IsFit v.scheme.device → t ≡ u → u.failure ≡ None → Live v (step_of event x ∷ past) old u
    → ContentIs v old u m → RecordsAre v past event x m
    → (t.failure ≡ None → AllStand v.scheme t (world_after v.scheme (world_of v past) m x.sends))
    → Follows v (step_of event x ∷ past) t
follows_on v past event x old t u m fit e alive l same rec h =
    let healthy : t.failure ≡ None = ap (λ (s : State). s.failure) e ∙ alive in
    let live : Live v (step_of event x ∷ past) old t = subst (Live v (step_of event x ∷ past) old) (sym e) l in
    record { old = old; follows = subst (FollowsAt v (step_of event x ∷ past) old t) (sym healthy) (live, holds_on v past event x old t m fit live (content_along v old t u m e same) rec (h healthy)) }

-- what was placed is placed in terms of the past, too
pub placed_one : (v : Setting) (past : List Step) (event : Event) (x : Shown) (old : List Submission) (t : State)
    (m : Moved) (ticket n : ℕ) (y : List ℕ) → IsFit v.scheme.device → Live v (step_of event x ∷ past) old t
    → ContentIs v old t m → RecordsAre v past event x m
    → (is_store y ≡ true → n ≡ store_nonce v.scheme.device ticket (requested y).tree) → x.sends ≡ y ∷ []
    → (requested y).tree < trees_of v.scheme.device
    → All (PlacedIn v.scheme n (world_after v.scheme (world_of v past) m x.sends)) x.sends
    → All (PlacedBy v (step_of event x ∷ past) ticket) x.sends
placed_one v past event x old t m ticket n y fit l same rec nonce one below h =
    let now : List Step = step_of event x ∷ past in
    let i : ℕ = (requested y).tree in
    let world = world_after v.scheme (world_of v past) m x.sends in
    let head : PlacedIn v.scheme n world y =
    All-head (PlacedIn v.scheme n world) y [] (subst (All (PlacedIn v.scheme n world)) one h) in
    subst (All (PlacedBy v now ticket)) (sym one) (all_one (PlacedBy v now ticket) y (λ store.
    subst (λ (r : ℕ → ℕ → List ℕ). IsPlaced v.scheme i (requested y).leaf (store_nonce v.scheme.device ticket i) (r i) (content_of v now i)) (sym rec)
    (subst (λ (c : Map). IsPlaced v.scheme i (requested y).leaf (store_nonce v.scheme.device ticket i) (world.records i) c) (same i below ∙ sym (content_is v now old t i fit l))
    (subst (λ (k : ℕ). IsPlaced v.scheme i (requested y).leaf k (world.records i) (m.content i)) (nonce store) (head store)))))

pub placed_none : (P : List ℕ → Type 0) (sends : List (List ℕ)) → sends ≡ [] → All P sends
placed_none P sends e = subst (All P) (sym e) (all_none P)

-- the entry that is outstanding
pub entry_split : (v : Setting) (past : List Step) (old rest : List Submission) (x : Submission) (r m : ℕ)
    → m ≡ length old * (2 * trees_of v.scheme.device) + r → accepted past ≡ reverse old ++ x ∷ rest
    → HasWords (2 * trees_of v.scheme.device) old → length x.words ≡ 2 * trees_of v.scheme.device
    → r < 2 * trees_of v.scheme.device → entry_at v past m ≡ entry_for v.scheme.device old x r
entry_split v past old rest x r m g split words size few =
    let d = v.scheme.device in
    ap (entry_at v past) g
    ∙ ap (λ subs. entry d (addresses subs) (tape subs) (length old * (2 * trees_of d) + r)) split
    ∙ entry_is d old rest x r few words size

pub requested_now : (v : Setting) (past : List Step) (old rest : List Submission) (s : State) (x : Submission)
    → Live v past old s → s.queue ≡ x ∷ rest → Working v past old s x
    → requested s.message ≡ entry_at v past (progress v past).good
requested_now v past old rest s x l qu w =
    let d = v.scheme.device in
    let ok : FitsTable d x = All-head (FitsTable d) x rest (subst (All (FitsTable d)) qu l.allowed) in
    w.asks
    ∙ sym (entry_split v past old rest x s.entry_number (progress v past).good l.good (l.split ∙ ap (λ xs. reverse old ++ xs) qu) l.words ok.words w.entry_number)

-- the core can go on in the world of the past

map_entry_at_stage : (v : Setting) (past : List Step) (old rest : List Submission) (s : State) (x : Submission) (r : ℕ)
    → s.entry_number ≡ r → IsFit v.scheme.device → Live v past old s → s.queue ≡ x ∷ rest → Working v past old s x → r % 2 ≡ 0
    → map_entry_in v.scheme.device (entry_tree v.scheme.device r) old (block_of v.scheme.device (entry_tree v.scheme.device r) x) ≡ (if r == 0 then slice_index s.table (block_of v.scheme.device (trees_of v.scheme.device - 1) x) else s.held_entry)
map_entry_at_stage v past old rest s x zero e fit l qu w even =
    let d = v.scheme.device in
    let top : entry_tree d 0 ≡ trees_of d - 1 = omega arith in
    let ok : FitsTable d x = All-head (FitsTable d) x rest (subst (All (FitsTable d)) qu l.allowed) in
    let a : ℕ = block_of d (trees_of d - 1) x in
    ap (λ (i : ℕ). map_entry_in d i old (block_of d i x)) top
    ∙ sym (l.table a ok.block ∙ ap (λ (r : ℕ). map_entry_in d (trees_of d - 1) (applied d old s.queue r (trees_of d - 1)) a) e ∙ ap (λ xs. map_entry_in d (trees_of d - 1) xs a) (applied_none d old s.queue (trees_of d - 1)))
map_entry_at_stage v past old rest s x (suc r) e fit l qu w even =
    let d = v.scheme.device in
    let few : s.entry_number < 2 * trees_of d = w.entry_number in
    let later : (suc r == 0) ≡ false = grind (arith, nat_tests) in
    let same : entry_tree d (suc r) ≡ entry_tree d (s.entry_number + 1) = omega arith in
    ap (λ (i : ℕ). map_entry_in d i old (block_of d i x)) same ∙ sym (w.held_entry (omega arith) (omega arith))
    ∙ sym (ap (λ (b : Bool). if b then slice_index s.table (block_of d (trees_of d - 1) x) else s.held_entry) later)

next_small : (d : Sizes) (old : List Submission) (x : Submission) (i : ℕ) (bytes : List ℕ) → IsFit d
    → bytes ≡ data_in d i old (block_of d i x) → next_map_entry d i x bytes ≤ 2 ^ depth_of d (i - 1)
unfolding next_map_entry
next_small d old x zero bytes fit b = omega arith
next_small d old x (suc i) bytes fit b =
    let map_entry_is : next_map_entry d (suc i) x bytes ≡ map_entry_in d i old (block_of d i x) =
    map_entry_next d old x (suc i) i bytes fit.words (omega arith) b in
    let range : map_entry_in d i old (block_of d i x) ≤ 2 ^ depth_of d i = map_entry_range d i old (block_of d i x) in
    let below : suc i - 1 ≡ i = omega arith in
    subst (λ (k : ℕ). next_map_entry d (suc i) x bytes ≤ 2 ^ depth_of d k) (sym below) (subst (λ (k : ℕ). k ≤ 2 ^ depth_of d i) (sym map_entry_is) range)

ready_at : (v : Setting) (past : List Step) (old rest : List Submission) (s : State) (x : Submission) → IsFit v.scheme.device
    → Live v past old s → s.queue ≡ x ∷ rest → Working v past old s x → s.entry_number % 2 ≡ 0
    → IsReadyFor v.scheme s (world_of v past) x
ready_at v past old rest s x fit l qu w even =
    let d = v.scheme.device in
    let i : ℕ = entry_tree d s.entry_number in
    let was = content_before v past old rest s x fit l qu w.entry_number even in
    record {
      held_entry = ap (λ (f : Map). map_entry_of (f (block_of d i x))) was ∙ name_is d i old (block_of d i x)
          ∙ map_entry_at_stage v past old rest s x s.entry_number refl fit l qu w even;
      next = next_small d old x i (found_in d (content_of v past i (block_of d i x))) fit (bytes_are v past old rest s x fit l qu w.entry_number even);
    }

ready_by : (v : Setting) (past : List Step) (old queue : List Submission) (s : State) → IsFit v.scheme.device
    → Live v past old s → s.queue ≡ queue → AtWork v past old s queue → IsReady v.scheme s (world_of v past) queue
ready_by v past old [] s fit l qu w = tt
ready_by v past old (x ∷ rest) s fit l qu w = λ even. ready_at v past old rest s x fit l qu w even

-- the core can go on in the world of the past
pub fits : (v : Setting) (past : List Step) (s : State) (old : List Submission) (failure : Option Reason)
    → s.failure ≡ failure → IsFit v.scheme.device → FollowsAt v past old s failure → Fits v.scheme s (world_of v past)
fits v past s old (Some e) h fit f = λ alive. absurd (let both : Some e ≡ None = sym h ∙ alive in cc)
fits v past s old None h fit f = λ alive. (f.1, ready_by v past old s.queue s fit f.0 refl f.0.work)

-- whether an answer shows two records with the same digest, by the core and by the past

pair_at : (v : Setting) (past : List Step) (old queue : List Submission) (s : State) (bytes : List ℕ) (b : Bool)
    → Live v past old s → s.queue ≡ queue → AtWork v past old s queue
    → (is_waiting (status_by None queue b) && pair_in v.scheme (records_of v past) (requested s.message) bytes) ≡ (is_waiting (status_by None queue b) && pair_in v.scheme (records_of v past) (entry_at v past (progress v past).good) bytes)
pair_at v past old [] s bytes b l qu w = refl
pair_at v past old (x ∷ rest) s bytes b l qu w =
    ap (λ (e : Entry). is_waiting (status_by None (x ∷ rest) b) && pair_in v.scheme (records_of v past) e bytes) (requested_now v past old rest s x l qu w)

pub pair_same : (v : Setting) (past : List Step) (s : State) (old : List Submission) (event : Event)
    (failure : Option Reason) → s.failure ≡ failure → IsFit v.scheme.device → FollowsAt v past old s failure
    → shows_in v.scheme s (world_of v past) event ≡ shows_pair v past event
pair_same v past s old (Submit session c words) failure h fit f = refl
pair_same v past s old Lost failure h fit f = refl
pair_same v past s old Reopen failure h fit f = refl
pair_same v past s old Retry failure h fit f = refl
pair_same v past s old (Answer bytes) (Some e) h fit f =
    ap (λ (o : Option Reason). is_waiting (status_by o s.queue s.lost) && pair_in v.scheme (records_of v past) (requested s.message) bytes) h
    ∙ sym (ap (λ (k : Status). is_waiting k && pair_in v.scheme (records_of v past) (entry_at v past (progress v past).good) bytes) (status_ends v past e f.failed))
pair_same v past s old (Answer bytes) None h fit f =
    ap (λ (o : Option Reason). is_waiting (status_by o s.queue s.lost) && pair_in v.scheme (records_of v past) (requested s.message) bytes) h
    ∙ pair_at v past old s.queue s bytes s.lost f.0 refl f.0.work
    ∙ ap (λ (k : Status). is_waiting k && pair_in v.scheme (records_of v past) (entry_at v past (progress v past).good) bytes) (sym (status_is v past old s fit f.0 h ∙ ap (λ (o : Option Reason). status_by o s.queue s.lost) h))

-- one step: the reaction is right, and the core follows the longer past
pub record Kept (v : Setting) (past : List Step) (event : Event) (x : Shown) (t : State) : Type 0 where
  pub right : IsRight v past event x
  pub follows : Follows v (step_of event x ∷ past) t

pub replies_calm : (v : Setting) (past : List Step) (step : Step) (note : Note) (xs : List Reply) → fails_now note ≡ false
    → map (reply_of v.scheme.device (accepted past)) (slice_range (accepted past) (answered_tickets v past) (answered_tickets v (step ∷ past))) ≡ xs
    → replies_at v past step note ≡ xs
replies_calm v past step note xs calm e =
    let now =
    map (reply_of v.scheme.device (accepted past)) (slice_range (accepted past) (answered_tickets v past) (answered_tickets v (step ∷ past))) in
    ap (λ (b : Bool). now ++ (if b then map failed_reply (drop (answered_tickets v past) (accepted past)) else [])) calm
    ∙ append-nil now ∙ e

pub sends_right : (v : Setting) (past : List Step) (step : Step) (note : Note) (b : Bool) → is_resent note ≡ b
    → SendsRight v past step b → SendsRight v past step (is_resent note)
sends_right v past step note b e h = subst (SendsRight v past step) (sym e) h

pub not_accepted : (past : List Step) (step : Step) → step.accepts ≡ false → accepted (step ∷ past) ≡ accepted past
not_accepted past step e = accepted_cons step past ∙ rw e refl

pub records_quiet : (v : Setting) (past : List Step) (event : Event) (x : Shown) → x.sends ≡ []
    → records_of v (step_of event x ∷ past) ≡ records_of v past
records_quiet v past event x e = records_more v (step_of event x) past ∙ ap (λ ms. records_after v.scheme (records_of v past) ms) e

-- the progress of a core that hasn't failed
pub progress_is : (v : Setting) (past : List Step) (old : List Submission) (s : State) → Live v past old s
    → progress v past ≡ record { good = (progress v past).good; lost = s.lost; failure = None }
progress_is v past old s l =
    ap (λ (b : Bool). record { good = (progress v past).good; lost = b; failure = (progress v past).failure }) l.lost
    ∙ ap (λ (f : Option Reason). record { good = (progress v past).good; lost = s.lost; failure = f }) l.alive

-- A step without replies and messages, at which the counts stay.
abbrev pub quiet : State → World → Note → Bool → Moved
quiet s w n b = record { note = n; replies = []; ask = Nothing; state = record s { lost = b }; content = w.content }

right_quiet : (v : Setting) (past : List Step) (event : Event) (x : Shown) (n : Note) → x.note ≡ n → x.replies ≡ []
    → x.sends ≡ [] → is_accepted n ≡ false → fails_now n ≡ false → is_resent n ≡ false → n ≡ note_of v past event
    → (progress v (step_of event x ∷ past)).good ≡ (progress v past).good → IsRight v past event x
right_quiet v past event x n note replies sends quiet_note calm new is g =
    let step : Step = step_of event x in
    let a : accepted (step ∷ past) ≡ accepted past = not_accepted past step (ap is_accepted note ∙ quiet_note) in
    record {
      note = note ∙ is;
      replies = replies
          ∙ sym (replies_calm v past step x.note [] (ap fails_now note ∙ calm) (none_between (reply_of v.scheme.device (accepted past)) (accepted past) (answered_tickets v past) (answered_tickets v (step ∷ past)) (rw g refl)));
      sends = sends_right v past step x.note false (ap is_resent note ∙ new) (asks_for_none v (step ∷ past) (entries_sent v past) (entries_sent v (step ∷ past)) x.sends (rw (g, a) refl) sends);
      placed = λ _. placed_none (PlacedBy v (step ∷ past) (answered_tickets v past)) x.sends sends;
    }

pub quiet_keep : (v : Setting) (past : List Step) (s t : State) (old : List Submission) (event : Event) (x : Shown)
    (n : Note) (b : Bool) → IsFit v.scheme.device → Live v past old s → s.failure ≡ None → AllStand v.scheme s (world_of v past)
    → MovesTo v.scheme s (world_of v past) (quiet s (world_of v past) n b) x t → is_accepted n ≡ false → fails_now n ≡ false
    → is_resent n ≡ false → n ≡ note_of v past event
    → progress v (step_of event x ∷ past) ≡ record { good = (progress v past).good; lost = b; failure = None }
    → (length s.queue ≡ 0 → b ≡ false) → Kept v past event x t
quiet_keep v past s t old event x n b fit l healthy holds mv quiet_note calm new is p idle =
    let step : Step = step_of event x in
    let a : accepted (step ∷ past) ≡ accepted past = not_accepted past step (ap is_accepted mv.note ∙ quiet_note) in
    let u : State = record s { nonce = s.nonce + 0; lost = b; trees = t.trees } in
    let is_u : t ≡ u =
    mv.state ∙ ap (λ ms. record s { nonce = s.nonce + 0; lost = b; trees = t.trees; message = latest ms s.message }) mv.sends in
    let live : Live v (step ∷ past) old u =
    live_kept v past (step ∷ past) old s b t.trees (s.nonce + 0) l p a (omega arith) (λ older e. (older, sent_cons step past ∙ ap (λ ms. ms ++ sent past) mv.sends ∙ e)) idle in
    record {
      right = right_quiet v past event x n mv.note mv.replies mv.sends quiet_note calm new is (ap (λ (q : Progress). q.good) p);
      follows = follows_on v past event x old t u (quiet s (world_of v past) n b) fit is_u healthy live (λ i below. content_is v past old s i fit l) (records_quiet v past event x mv.sends) mv.holds;
    }

pub idle_calm : (v : Setting) (past : List Step) (old : List Submission) (s : State) (queue : List Submission)
    → AtWork v past old s queue → length queue ≡ 0 → s.lost ≡ false
idle_calm v past old s [] w e = w.calm
idle_calm v past old s (x ∷ rest) w e = absurd (omega arith)

-- a step that leaves everything as it was
pub stays_keep : (v : Setting) (past : List Step) (s t : State) (old : List Submission) (event : Event) (x : Shown)
    (n : Note) (failure : Option Reason) → s.failure ≡ failure → IsFit v.scheme.device → FollowsAt v past old s failure
    → MovesTo v.scheme s (world_of v past) (stays s (world_of v past) n) x t → is_accepted n ≡ false → fails_now n ≡ false
    → is_resent n ≡ false → n ≡ note_of v past event → progress v (step_of event x ∷ past) ≡ progress v past
    → Kept v past event x t
stays_keep v past s t old event x n (Some e) h fit f mv quiet_note calm new is p =
    let failed : t.failure ≡ Some e = ap (λ (u : State). u.failure) mv.state ∙ h in
    record {
      right = right_quiet v past event x n mv.note mv.replies mv.sends quiet_note calm new is (ap (λ (q : Progress). q.good) p);
      follows = record {
        old = old;
        follows = subst (FollowsAt v (step_of event x ∷ past) old t) (sym failed) (record {
          failed = ap (λ (q : Progress). q.failure) p ∙ f.failed;
          next = ap (λ (u : State). u.next) mv.state ∙ f.next
              ∙ sym (ap (λ (subs : List Submission). length subs) (not_accepted past (step_of event x) (ap is_accepted mv.note ∙ quiet_note)));
          queue = ap (λ (u : State). u.queue) mv.state ∙ f.queue;
        });
      };
    }
stays_keep v past s t old event x n None h fit f mv quiet_note calm new is p =
    quiet_keep v past s t old event x n s.lost fit f.0 h f.1 mv quiet_note calm new is (p ∙ progress_is v past old s f.0) (idle_calm v past old s s.queue f.0.work)

-- the last message is sent again
pub resends_keep : (v : Setting) (past : List Step) (s t : State) (old : List Submission) (x : Shown) (y : Submission)
    (rest : List Submission) → IsFit v.scheme.device → Live v past old s → s.failure ≡ None → s.queue ≡ y ∷ rest
    → Working v past old s y → MovesTo v.scheme s (world_of v past) (resends s (world_of v past)) x t
    → Resent ≡ note_of v past Retry
    → progress v (step_of Retry x ∷ past) ≡ record { good = (progress v past).good; lost = false; failure = None }
    → Kept v past Retry x t
resends_keep v past s t old x y rest fit l healthy qu w mv is p =
    let step : Step = step_of Retry x in
    let a : accepted (step ∷ past) ≡ accepted past = not_accepted past step (ap is_accepted mv.note) in
    let g : (progress v (step ∷ past)).good ≡ (progress v past).good = ap (λ (q : Progress). q.good) p in
    let u : State = record s { nonce = s.nonce + 0; lost = false; trees = t.trees } in
    let is_u : t ≡ u =
    mv.state ∙ ap (λ ms. record s { nonce = s.nonce + 0; lost = false; trees = t.trees; message = latest ms s.message }) mv.sends in
    let sent_is : sent (step ∷ past) ≡ s.message ∷ sent past = sent_cons step past ∙ ap (λ ms. ms ++ sent past) mv.sends in
    let live : Live v (step ∷ past) old u =
    live_kept v past (step ∷ past) old s false t.trees (s.nonce + 0) l p a (omega arith) (λ older e. (sent past, sent_is)) (λ e. refl) in
    let again : records_of v (step ∷ past) ≡ records_of v past =
    ap (λ ms. last_stored v.scheme (ms ++ reverse v.format)) (sent_is ∙ ap (λ ms. s.message ∷ ms) w.latest)
    ∙ again_same v.scheme s.message (w.older ++ reverse v.format)
    ∙ sym (ap (λ ms. last_stored v.scheme (ms ++ reverse v.format)) w.latest) in
    record {
      right = record {
        note = mv.note ∙ is;
        replies = mv.replies
            ∙ sym (replies_calm v past step x.note [] (ap fails_now mv.note) (none_between (reply_of v.scheme.device (accepted past)) (accepted past) (answered_tickets v past) (answered_tickets v (step ∷ past)) (rw g refl)));
        sends = sends_right v past step x.note true (ap is_resent mv.note) (mv.sends ∙ sym (ap (take 1) w.latest));
        placed = λ new. absurd (let both : true ≡ false = sym (ap is_resent mv.note) ∙ new in cc);
      };
      follows = follows_on v past Retry x old t u (resends s (world_of v past)) fit is_u healthy live (λ i below. content_is v past old s i fit l) again mv.holds;
    }

-- an answer that fails the device
pub fails_keep : (v : Setting) (past : List Step) (s t : State) (old : List Submission) (x : Shown) (bytes : List ℕ)
    (e : Reason) → IsFit v.scheme.device → Live v past old s → s.entry_number < 2 * trees_of v.scheme.device
    → MovesTo v.scheme s (world_of v past) (fails s (world_of v past) e) x t → FailedNow e ≡ note_of v past (Answer bytes)
    → progress v (step_of (Answer bytes) x ∷ past) ≡ record { good = (progress v past).good; lost = false; failure = Some e }
    → Kept v past (Answer bytes) x t
fails_keep v past s t old x bytes e fit l few mv is p =
    let step : Step = step_of (Answer bytes) x in
    let a : accepted (step ∷ past) ≡ accepted past = not_accepted past step (ap is_accepted mv.note) in
    let g : (progress v (step ∷ past)).good ≡ (progress v past).good = ap (λ (q : Progress). q.good) p in
    let tickets : answered_tickets v past ≡ length old = answered_is v past (length old) s.entry_number l.good few in
    let none =
    none_between (reply_of v.scheme.device (accepted past)) (accepted past) (answered_tickets v past) (answered_tickets v (step ∷ past)) (rw g refl) in
    let failed : t.failure ≡ Some e = ap (λ (u : State). u.failure) mv.state in
    record {
      right = record {
        note = mv.note ∙ is;
        replies = mv.replies ∙ ap (map failed_reply) (sym (rest_is past old s.queue (answered_tickets v past) tickets l.split))
            ∙ sym (ap (λ (b : Bool). map (reply_of v.scheme.device (accepted past)) (slice_range (accepted past) (answered_tickets v past) (answered_tickets v (step ∷ past))) ++ (if b then map failed_reply (drop (answered_tickets v past) (accepted past)) else [])) (ap fails_now mv.note)
            ∙ ap (λ (xs : List Reply). xs ++ map failed_reply (drop (answered_tickets v past) (accepted past))) none);
        sends = sends_right v past step x.note false (ap is_resent mv.note) (asks_for_none v (step ∷ past) (entries_sent v past) (entries_sent v (step ∷ past)) x.sends (rw (g, a) refl) mv.sends);
        placed = λ _. placed_none (PlacedBy v (step ∷ past) (answered_tickets v past)) x.sends mv.sends;
      };
      follows = record {
        old = old;
        follows = subst (FollowsAt v (step ∷ past) old t) (sym failed) (record {
          failed = ap (λ (q : Progress). q.failure) p;
          next = ap (λ (u : State). u.next) mv.state ∙ l.next ∙ sym (accepted_len past old s.queue l.split)
              ∙ sym (ap (λ (subs : List Submission). length subs) a);
          queue = ap (λ (u : State). u.queue) mv.state;
        });
      };
    }
