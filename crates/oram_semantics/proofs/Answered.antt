-- A good answer: its reaction is right, and the core follows the longer past.
use Rattle.std.proofs.Common.{◌≡◌, ℕ, ◌+◌, ◌-◌, ◌*◌, ◌%◌, ◌^◌, ◌<◌, min, true, false, List, [], ◌∷◌, ◌++◌, length, reverse, take, slice_index, None, refl, ap, sym, ◌∙◌, subst, arith}
use Rattle.std.specs.List.{All}
use Rattle.std.proofs.lemmas.List.{length-reverse, reverse-reverse, take_at}
use Rattle.std.proofs.lemmas.List.Elements.{All-head, All-tail}
use Rattle.oram_geometry.specs.declared.Sizes.{Sizes}
use Rattle.oram_geometry.specs.Sizes.{trees_of, depth_of, blocks_in}
use Rattle.oram_trace.specs.declared.entries.Entry.{Entry}
use Rattle.oram_semantics.specs.Content.{entry_tree}
use Rattle.oram_semantics.specs.Events.{address_of, array_at, body_for, reply_of}
use Rattle.oram_semantics.specs.Scheme.{Scheme}
use Rattle.oram_semantics.specs.Messages.{IsMessage, requested, is_store}
use Rattle.oram_semantics.specs.Progress.{Setting, Step, Progress, accepted, sent, records_of, progress, entry_at}
use Rattle.oram_semantics.specs.Nonces.{store_nonce}
use Rattle.oram_semantics.specs.Content.{block_of, map_entry_in, content_after}
use Rattle.oram_semantics.specs.Run.{note_of, is_accepted, fails_now, is_resent, AskFor, answered_tickets, entries_sent, from_to, PlacedBy, Shown, step_of}
use Rattle.oram_semantics.specs.State.{State}
use Rattle.oram_semantics.specs.Blocks.{body_from}
use Rattle.oram_semantics.specs.Moves.{Moved, is_new, records_next, MovesTo, stores, fetches, finishes, Sends, latest, first_fetch, buckets_in}
use Rattle.oram_semantics.specs.Moves.Ask.{For}
use Rattle.oram_semantics.specs.declared.events.Command.{Command}
use Rattle.oram_semantics.specs.declared.events.Command.TheVariants.{Read, Write, Discard}
use Rattle.oram_semantics.specs.declared.events.Event.{Event}
use Rattle.oram_semantics.specs.declared.events.Event.TheVariants.{Answer}
use Rattle.oram_semantics.specs.declared.events.Note.TheVariants.{Taken}
use Rattle.oram_semantics.specs.declared.events.Reply.{Reply}
use Rattle.oram_semantics.specs.declared.events.ReplyBody.TheVariants.{Data}
use Rattle.oram_semantics.specs.declared.events.Submission.{Submission}
use Rattle.oram_semantics.proofs.Entries.{HasWords, turn}
use Rattle.oram_semantics.specs.Law.{world_of}
use Rattle.oram_semantics.proofs.Bounds.{IsFit}
use Rattle.oram_semantics.specs.Agree.{TicketsFrom}
use Rattle.oram_semantics.proofs.Follows.{FitsTable, applied, applied_yes, entry_for, Working, Live, content_is}
use Rattle.oram_semantics.proofs.Counts.{sent_cons, records_more, accepted_len, rest_is, none_between, one_between, asks_for_none, asks_for_one, answered_is, sent_is, requested_is, no_store, store_entry_is}
use Rattle.oram_semantics.proofs.Stores.{content_stored, leaf_fits, live_stored, stored_state, store_entry}
use Rattle.oram_semantics.proofs.Fetches.{live_fetched, live_finished, fetched_state, finished_state, applied_fetched, applied_finished, fetch_entry}
use Rattle.oram_semantics.proofs.Others.{all_one}
use Rattle.oram_semantics.proofs.Nonces.{nonce_at, nonce_here, nonce_stored, nonce_fetched, nonce_finished}
use Rattle.oram_semantics.proofs.Keeps.{Kept, RecordsAre, ContentIs, replies_calm, sends_right, not_accepted, follows_on, placed_one, placed_none, content_along, records_quiet, entry_split}

-- the counts at a good answer

pub sent_before : (h o q r g : ℕ) → r < 2 * h → g ≡ o * (2 * h) + r → g + 1 ≡ min (g + 1) (2 * h * (o + (q + 1)))
sent_before h o q r g few e = omega arith

sent_more : (h o q r g : ℕ) → r + 1 < 2 * h → g ≡ o * (2 * h) + r → g + 1 + 1 ≡ min (g + 1 + 1) (2 * h * (o + (q + 1)))
sent_more h o q r g few e = omega arith

sent_next : (h o q r g : ℕ) → r + 1 ≡ 2 * h → g ≡ o * (2 * h) + r → g + 1 + 1 ≡ min (g + 1 + 1) (2 * h * (o + (q + 1 + 1)))
sent_next h o q r g last e = omega arith

sent_end : (h o r g : ℕ) → r + 1 ≡ 2 * h → g ≡ o * (2 * h) + r → g + 1 ≡ min (g + 1 + 1) (2 * h * (o + (0 + 1)))
sent_end h o r g last e = omega arith

-- the message asks for the entry that is due
pub asks_due : (v : Setting) (past : List Step) (step : Step) (last : List ℕ) (e : Entry) (a b m : ℕ)
    → Sends v.scheme last (For e) step.sends → a ≡ m → b ≡ m + 1 → e ≡ entry_at v (step ∷ past) m
    → AskFor v (step ∷ past) (from_to a b) step.sends
asks_due v past step last e a b m s from to due =
    asks_for_one v (step ∷ past) a b m step.sends s.0 from to s.1 (subst (λ (f : Entry). IsMessage v.scheme f s.0) due s.2)

-- a good answer in the middle of a command
middle_keep : (v : Setting) (past : List Step) (s t u : State) (old rest : List Submission) (x : Shown) (y : Submission)
    (bytes : List ℕ) (m : Moved) (e : Entry) → IsFit v.scheme.device → Live v past old s → s.queue ≡ y ∷ rest
    → s.entry_number + 1 < 2 * trees_of v.scheme.device → m.note ≡ Taken → m.replies ≡ [] → m.ask ≡ For e
    → MovesTo v.scheme s (world_of v past) m x t → t ≡ u → u.failure ≡ None → ContentIs v old u m
    → Live v (step_of (Answer bytes) x ∷ past) old u → e ≡ entry_for v.scheme.device old y (s.entry_number + 1)
    → Taken ≡ note_of v past (Answer bytes)
    → progress v (step_of (Answer bytes) x ∷ past) ≡ record { good = (progress v past).good + 1; lost = false; failure = None }
    → (e.fetch ≡ false → s.nonce ≡ store_nonce v.scheme.device (length old) e.tree) → Kept v past (Answer bytes) x t
middle_keep v past s t u old rest x y bytes m e fit l qu few taken none ask mv is_u alive same live due is p nonce =
    let d = v.scheme.device in
    let event : Event = Answer bytes in
    let step : Step = step_of event x in
    let g : ℕ = (progress v past).good in
    let note : x.note ≡ Taken = mv.note ∙ taken in
    let a : accepted (step ∷ past) ≡ accepted past = not_accepted past step (ap is_accepted note) in
    let g' : (progress v (step ∷ past)).good ≡ g + 1 = ap (λ (q : Progress). q.good) p in
    let ok : FitsTable d y = All-head (FitsTable d) y rest (subst (All (FitsTable d)) qu l.allowed) in
    let split : accepted past ≡ reverse old ++ y ∷ rest = l.split ∙ ap (λ xs. reverse old ++ xs) qu in
    let len : length (accepted past) ≡ length old + (length rest + 1) = accepted_len past old (y ∷ rest) split ∙ omega arith in
    let before : answered_tickets v past ≡ length old = answered_is v past (length old) s.entry_number l.good (omega arith) in
    let after : answered_tickets v (step ∷ past) ≡ length old =
    answered_is v (step ∷ past) (length old) (s.entry_number + 1) (g' ∙ ap (λ k. k + 1) l.good ∙ omega arith) few in
    let sends : Sends v.scheme s.message (For e) x.sends = subst (λ k. Sends v.scheme s.message k x.sends) ask mv.sends in
    let entry_due : e ≡ entry_at v (step ∷ past) (g + 1) =
    due
    ∙ sym (entry_split v (step ∷ past) old rest y (s.entry_number + 1) (g + 1) (ap (λ k. k + 1) l.good ∙ omega arith) (a ∙ split) l.words ok.words few) in
    let rec : RecordsAre v past event x m =
    records_more v step past ∙ sym (ap (λ k. records_next v.scheme (records_of v past) k x.sends) ask) in
    let leaf : e.leaf < 2 ^ 32 = subst (λ (f : Entry). f.leaf < 2 ^ 32) (sym due) (leaf_fits d old y (s.entry_number + 1)) in
    let asks : requested sends.0 ≡ e = requested_is v.scheme e sends.0 leaf sends.2 in
    let sealed : is_store sends.0 ≡ true → s.nonce ≡ store_nonce d (answered_tickets v past) (requested sends.0).tree = λ store.
    nonce (store_entry_is v.scheme e sends.0 sends.2 store) ∙ ap (λ k. store_nonce d k e.tree) (sym before)
    ∙ ap (λ (f : Entry). store_nonce d (answered_tickets v past) f.tree) (sym asks) in
    let tree : (requested sends.0).tree < trees_of d =
    let some : 0 < trees_of d =
    fit.some in subst (λ (k : ℕ). k < trees_of d) (sym (ap (λ (f : Entry). f.tree) (asks ∙ due))) (omega arith) in
    record {
      right = record {
        note = note ∙ is;
        replies = mv.replies ∙ none
            ∙ sym (replies_calm v past step x.note [] (ap fails_now note) (none_between (reply_of d (accepted past)) (accepted past) (answered_tickets v past) (answered_tickets v (step ∷ past)) (after ∙ sym before)));
        sends =
            sends_right v past step x.note false (ap is_resent note) (asks_due v past step s.message e (entries_sent v past) (entries_sent v (step ∷ past)) (g + 1) sends
            (sent_is v past g (length old + (length rest + 1)) (g + 1) refl len (sent_before (trees_of d) (length old) (length rest) s.entry_number g (omega arith) l.good))
            (sent_is v (step ∷ past) (g + 1) (length old + (length rest + 1)) (g + 1 + 1) g' (ap length a ∙ len) (sent_more (trees_of d) (length old) (length rest) s.entry_number g few l.good)) entry_due);
        placed = λ _. placed_one v past event x old t m (answered_tickets v past) s.nonce sends.0 fit (subst (Live v (step ∷ past) old) (sym is_u) live) (content_along v old t u m is_u same) rec sealed sends.1 tree (mv.placed (ap is_new ask));
      };
      follows = follows_on v past event x old t u m fit is_u alive live same rec mv.holds;
    }

-- a good answer to a fetch
pub stores_keep : (v : Setting) (past : List Step) (s t : State) (old rest : List Submission) (x : Shown) (y : Submission)
    (bytes : List ℕ) → IsFit v.scheme.device → Live v past old s → s.failure ≡ None → s.queue ≡ y ∷ rest
    → Working v past old s y → s.lost ≡ false → s.entry_number % 2 ≡ 0
    → MovesTo v.scheme s (world_of v past) (stores v.scheme s (world_of v past) y) x t → Taken ≡ note_of v past (Answer bytes)
    → progress v (step_of (Answer bytes) x ∷ past) ≡ record { good = (progress v past).good + 1; lost = false; failure = None }
    → Kept v past (Answer bytes) x t
stores_keep v past s t old rest x y bytes fit l healthy qu w calm even mv is p =
    let d = v.scheme.device in
    let step : Step = step_of (Answer bytes) x in
    let few : s.entry_number < 2 * trees_of d = w.entry_number in
    let m : List ℕ = mv.sends.0 in
    let i : ℕ = entry_tree d s.entry_number in
    let n : ℕ = s.nonce + (depth_of d i + 1) in
    let u : State = stored_state v past s y t.trees n m in
    let is_u : t ≡ u = mv.state ∙ ap (λ ms. stored_state v past s y t.trees n (latest ms s.message)) mv.sends.1 in
    let sent_is : sent (step ∷ past) ≡ m ∷ sent past = sent_cons step past ∙ ap (λ ms. ms ++ sent past) mv.sends.1 in
    let a : accepted (step ∷ past) ≡ accepted past = not_accepted past step (ap is_accepted mv.note) in
    let nonce : n ≡ nonce_at v ((progress v past).good + 1) =
    ap (λ (k : ℕ). k + (depth_of d i + 1)) l.nonce
    ∙ sym (nonce_stored v (progress v past).good (length old) s.entry_number l.good few even) in
    let live : Live v (step ∷ past) old u =
    live_stored v past old rest s y step t.trees n m fit l qu w even calm p a sent_is mv.sends.2 nonce in
    let due : record { fetch = false; tree = i; leaf = (requested s.message).leaf } ≡ entry_for d old y (s.entry_number + 1) =
    ap (λ (k : ℕ). record { fetch = false; tree = i; leaf = k }) (ap (λ (e : Entry). e.leaf) w.asks)
    ∙ store_entry d old y s.entry_number even in
    middle_keep v past s t u old rest x y bytes (stores v.scheme s (world_of v past) y) _ fit l qu (omega arith) refl refl refl mv is_u healthy
    (λ k below. content_stored v past old rest s y fit l qu few even k below ∙ ap (λ q. content_after d k (applied d old q (s.entry_number + 1) k)) (sym qu)) live due is p
    (λ _. l.nonce ∙ nonce_here v (progress v past).good (length old) s.entry_number l.good few even)

-- a good answer to a store, but the last
pub fetches_keep : (v : Setting) (past : List Step) (s t : State) (old rest : List Submission) (x : Shown) (y : Submission)
    (bytes : List ℕ) → IsFit v.scheme.device → Live v past old s → s.failure ≡ None → s.queue ≡ y ∷ rest
    → Working v past old s y → s.lost ≡ false → s.entry_number % 2 ≡ 1 → s.entry_number + 1 < 2 * trees_of v.scheme.device
    → MovesTo v.scheme s (world_of v past) (fetches v.scheme s (world_of v past) y) x t
    → Taken ≡ note_of v past (Answer bytes)
    → progress v (step_of (Answer bytes) x ∷ past) ≡ record { good = (progress v past).good + 1; lost = false; failure = None }
    → Kept v past (Answer bytes) x t
fetches_keep v past s t old rest x y bytes fit l healthy qu w calm odd more mv is p =
    let d = v.scheme.device in
    let step : Step = step_of (Answer bytes) x in
    let m : List ℕ = mv.sends.0 in
    let n : ℕ = s.nonce + 0 in
    let u : State = fetched_state v past s y t.trees n m in
    let is_u : t ≡ u = mv.state ∙ ap (λ ms. fetched_state v past s y t.trees n (latest ms s.message)) mv.sends.1 in
    let sent_is : sent (step ∷ past) ≡ m ∷ sent past = sent_cons step past ∙ ap (λ ms. ms ++ sent past) mv.sends.1 in
    let a : accepted (step ∷ past) ≡ accepted past = not_accepted past step (ap is_accepted mv.note) in
    let nonce : n ≡ nonce_at v ((progress v past).good + 1) =
    (let z : s.nonce + 0 ≡ s.nonce = omega arith in z) ∙ l.nonce
    ∙ sym (nonce_fetched v (progress v past).good (length old) s.entry_number l.good more odd) in
    let live : Live v (step ∷ past) old u =
    live_fetched v past old rest s y step t.trees n m fit l qu w odd more calm p a sent_is mv.sends.2 nonce in
    let held_entry : s.held_entry ≡ map_entry_in d (entry_tree d (s.entry_number + 1)) old (block_of d (entry_tree d (s.entry_number + 1)) y) =
    w.held_entry (omega arith) more in
    middle_keep v past s t u old rest x y bytes (fetches v.scheme s (world_of v past) y) _ fit l qu more refl refl refl mv is_u healthy
    (λ k below. content_is v past old s k fit l ∙ ap (λ q. content_after d k (applied d old q s.entry_number k)) qu ∙ ap (content_after d k) (sym (applied_fetched d old rest y s.entry_number k odd)) ∙ ap (λ q. content_after d k (applied d old q (s.entry_number + 1) k)) (sym qu))
    live (fetch_entry d old y (s.entry_number + 1) s.held_entry (omega arith) held_entry) is p (λ fetch. absurd (let both : true ≡ false = fetch in cc))

-- the last good answer of a command

reply_is : (d : Sizes) (past : List Step) (old rest : List Submission) (y : Submission)
    → accepted past ≡ reverse old ++ y ∷ rest → y.ticket ≡ length old
    → reply_of d (accepted past) y ≡ record { session = y.session; ticket = y.ticket; body = body_for d old y.command }
reply_is d past old rest y split ticket =
    let before : reverse (take y.ticket (accepted past)) ≡ old =
    ap (λ k. reverse (take k (accepted past))) ticket ∙ ap (λ xs. reverse (take (length old) xs)) split
    ∙ (ap reverse (take_at (reverse old) (y ∷ rest) (length old) (length-reverse old)) ∙ reverse-reverse old) in
    ap (λ xs. record { session = y.session; ticket = y.ticket; body = body_for d xs y.command }) before

body_is : (d : Sizes) (old : List Submission) (bytes : List ℕ) (c : Command) → bytes ≡ array_at d old (address_of c)
    → body_from bytes c ≡ body_for d old c
body_is d old bytes (Read a) e = ap Data e
body_is d old bytes (Write a new) e = refl
body_is d old bytes (Discard a) e = refl

-- the next command's FETCH, if there is a next command
next_due : (v : Setting) (past : List Step) (step : Step) (old rest : List Submission) (s : State) (y : Submission) (g : ℕ)
    (last : List ℕ) → IsFit v.scheme.device → g ≡ length old * (2 * trees_of v.scheme.device) + s.entry_number
    → s.entry_number + 1 ≡ 2 * trees_of v.scheme.device → (progress v past).good ≡ g → (progress v (step ∷ past)).good ≡ g + 1
    → accepted (step ∷ past) ≡ accepted past → accepted past ≡ reverse old ++ y ∷ rest
    → HasWords (2 * trees_of v.scheme.device) (y ∷ old) → All (FitsTable v.scheme.device) rest
    → ((a : ℕ) → a < blocks_in v.scheme.device (trees_of v.scheme.device - 1) → slice_index s.table a ≡ map_entry_in v.scheme.device (trees_of v.scheme.device - 1) (y ∷ old) a)
    → Sends v.scheme last (first_fetch v.scheme.device s.table rest) step.sends
    → AskFor v (step ∷ past) (from_to (entries_sent v past) (entries_sent v (step ∷ past))) step.sends
next_due v past step old [] s y g last fit good whole before after a split words all table sends =
    let len : length (accepted past) ≡ length old + (0 + 1) = accepted_len past old (y ∷ []) split in
    let few : s.entry_number < 2 * trees_of v.scheme.device = omega arith in
    asks_for_none v (step ∷ past) (entries_sent v past) (entries_sent v (step ∷ past)) step.sends
    (sent_is v (step ∷ past) (g + 1) (length old + (0 + 1)) (g + 1) after (ap length a ∙ len) (sent_end (trees_of v.scheme.device) (length old) s.entry_number g whole good)
    ∙ sym (sent_is v past g (length old + (0 + 1)) (g + 1) before len (sent_before (trees_of v.scheme.device) (length old) 0 s.entry_number g few good))) sends
next_due v past step old (z ∷ rest) s y g last fit good whole before after a split words all table sends =
    let d = v.scheme.device in
    let ok : FitsTable d z = All-head (FitsTable d) z rest all in
    let few : s.entry_number < 2 * trees_of d = omega arith in
    let some : 0 < trees_of d = fit.some in
    let len : length (accepted past) ≡ length old + (length rest + 1 + 1) =
    accepted_len past old (y ∷ z ∷ rest) split ∙ omega arith in
    let size : length (y ∷ old) ≡ length old + 1 = omega arith in
    let top : trees_of d - 1 ≡ entry_tree d 0 = omega arith in
    let map_entry_is : slice_index s.table (block_of d (trees_of d - 1) z)
    ≡ map_entry_in d (entry_tree d 0) (y ∷ old) (block_of d (entry_tree d 0) z) =
    table (block_of d (trees_of d - 1) z) ok.block ∙ ap (λ (i : ℕ). map_entry_in d i (y ∷ old) (block_of d i z)) top in
    let at : g + 1 ≡ length (y ∷ old) * (2 * trees_of d) + 0 =
    (let whole' : g + 1 ≡ (length old + 1) * (2 * trees_of d) + 0 = omega arith in whole')
    ∙ ap (λ (k : ℕ). k * (2 * trees_of d) + 0) (sym size) in
    let due = fetch_entry d (y ∷ old) z 0 (slice_index s.table (block_of d (trees_of d - 1) z)) refl map_entry_is
    ∙ sym (entry_split v (step ∷ past) (y ∷ old) rest z 0 (g + 1) at (a ∙ split ∙ sym (turn y old (z ∷ rest))) words ok.words (omega arith)) in
    asks_due v past step last _ (entries_sent v past) (entries_sent v (step ∷ past)) (g + 1) sends
    (sent_is v past g (length old + (length rest + 1 + 1)) (g + 1) before len (sent_before (trees_of d) (length old) (length rest + 1) s.entry_number g few good))
    (sent_is v (step ∷ past) (g + 1) (length old + (length rest + 1 + 1)) (g + 1 + 1) after (ap length a ∙ len) (sent_next (trees_of d) (length old) (length rest) s.entry_number g whole good)) due

-- the records at the host, if no message or a new one is sent
pub records_first : (v : Setting) (past : List Step) (event : Event) (x : Shown) (m : Moved) (table : List ℕ)
    (rest : List Submission) → m.ask ≡ first_fetch v.scheme.device table rest
    → Sends v.scheme [] (first_fetch v.scheme.device table rest) x.sends → RecordsAre v past event x m
records_first v past event x m table [] ask sends =
    records_quiet v past event x sends ∙ sym (ap (λ k. records_next v.scheme (records_of v past) k x.sends) ask)
records_first v past event x m table (y ∷ rest) ask sends =
    records_more v (step_of event x) past ∙ sym (ap (λ k. records_next v.scheme (records_of v past) k x.sends) ask)

pub placed_first : (v : Setting) (now : List Step) (g : ℕ) (last : List ℕ) (sends : List (List ℕ)) (table : List ℕ)
    (rest : List Submission) → Sends v.scheme last (first_fetch v.scheme.device table rest) sends
    → All (PlacedBy v now g) sends
placed_first v now g last sends table [] h = placed_none (PlacedBy v now g) sends h
placed_first v now g last sends table (y ∷ rest) h =
    let none : is_store h.0 ≡ false = no_store v.scheme _ h.0 refl h.2 in
    subst (All (PlacedBy v now g)) (sym h.1) (all_one (PlacedBy v now g) h.0 (λ store. absurd (let both : true ≡ false = sym store ∙ none in cc)))

pub seals_none : (d : Sizes) (table : List ℕ) (rest : List Submission) → buckets_in d (first_fetch d table rest) ≡ 0
seals_none d table [] = refl
seals_none d table (x ∷ rest) = refl

pub forget_last : (v : Scheme) (last : List ℕ) (table : List ℕ) (rest : List Submission) (sends : List (List ℕ))
    → Sends v last (first_fetch v.device table rest) sends → Sends v [] (first_fetch v.device table rest) sends
forget_last v last table [] sends h = h
forget_last v last table (x ∷ rest) sends h = h

pub finishes_keep : (v : Setting) (past : List Step) (s t : State) (old rest : List Submission) (x : Shown) (y : Submission)
    (bytes : List ℕ) → IsFit v.scheme.device → Live v past old s → s.failure ≡ None → s.queue ≡ y ∷ rest
    → Working v past old s y → s.lost ≡ false → s.entry_number + 1 ≡ 2 * trees_of v.scheme.device
    → MovesTo v.scheme s (world_of v past) (finishes v.scheme s (world_of v past) y rest) x t
    → Taken ≡ note_of v past (Answer bytes)
    → progress v (step_of (Answer bytes) x ∷ past) ≡ record { good = (progress v past).good + 1; lost = false; failure = None }
    → Kept v past (Answer bytes) x t
finishes_keep v past s t old rest x y bytes fit l healthy qu w calm whole mv is p =
    let d = v.scheme.device in
    let step : Step = step_of (Answer bytes) x in
    let m : Moved = finishes v.scheme s (world_of v past) y rest in
    let g : ℕ = (progress v past).good in
    let few : s.entry_number < 2 * trees_of d = w.entry_number in
    let n : ℕ = s.nonce + 0 in
    let u : State = finished_state v past s y rest t.trees n (latest x.sends []) in
    let is_u : t ≡ u =
    mv.state
    ∙ ap (λ k. finished_state v past s y rest t.trees (s.nonce + k) (latest x.sends [])) (seals_none d s.table rest) in
    let a : accepted (step ∷ past) ≡ accepted past = not_accepted past step (ap is_accepted mv.note) in
    let split : accepted past ≡ reverse old ++ y ∷ rest = l.split ∙ ap (λ xs. reverse old ++ xs) qu in
    let nonce : n ≡ nonce_at v (g + 1) =
    (let z : s.nonce + 0 ≡ s.nonce = omega arith in z) ∙ l.nonce
    ∙ sym (nonce_finished v g (length old) s.entry_number l.good whole) in
    let live : Live v (step ∷ past) (y ∷ old) u =
    live_finished v past old rest s y step t.trees n fit l qu w whole calm p a (forget_last v.scheme s.message s.table rest x.sends mv.sends) nonce in
    let g' : (progress v (step ∷ past)).good ≡ g + 1 = ap (λ (q : Progress). q.good) p in
    let before : answered_tickets v past ≡ length old = answered_is v past (length old) s.entry_number l.good few in
    let some : 0 < trees_of d = fit.some in
    let after : answered_tickets v (step ∷ past) ≡ length old + 1 =
    answered_is v (step ∷ past) (length old + 1) 0 (g' ∙ ap (λ k. k + 1) l.good ∙ omega arith) (omega arith) in
    let one_more : answered_tickets v (step ∷ past) ≡ answered_tickets v past + 1 = omega arith in
    let ticket : y.ticket ≡ length old = (subst (TicketsFrom (length old)) qu l.tickets).0 in
    let all : All (FitsTable d) (y ∷ rest) = subst (All (FitsTable d)) qu l.allowed in
    let due : (i : ℕ) → 2 * (trees_of d - 1 - i) < s.entry_number = λ i. omega arith in
    let table : (b : ℕ) → b < blocks_in d (trees_of d - 1) → slice_index s.table b ≡ map_entry_in d (trees_of d - 1) (y ∷ old) b = λ b below. l.table b below
    ∙ ap (λ q. map_entry_in d (trees_of d - 1) (applied d old q s.entry_number (trees_of d - 1)) b) qu
    ∙ ap (λ xs. map_entry_in d (trees_of d - 1) xs b) (applied_yes d old rest y s.entry_number (trees_of d - 1) (due (trees_of d - 1))) in
    record {
      right = record {
        note = mv.note ∙ is;
        replies =
            mv.replies
            ∙ ap (λ b. (record { session = y.session; ticket = y.ticket; body = b }) ∷ []) (body_is d old s.held_data y.command (w.held_data whole))
            ∙ ap (λ (r : Reply). r ∷ []) (sym (reply_is d past old rest y split ticket))
            ∙ sym (replies_calm v past step x.note (reply_of d (accepted past) y ∷ []) (ap fails_now mv.note) (one_between (reply_of d (accepted past)) (accepted past) rest y (answered_tickets v past) (answered_tickets v (step ∷ past)) one_more (rest_is past old (y ∷ rest) (answered_tickets v past) before split)));
        sends = sends_right v past step x.note false (ap is_resent mv.note) (next_due v past step old rest s y g s.message fit l.good whole refl g' a split ((All-head (FitsTable d) y rest all).words, l.words) (All-tail (FitsTable d) y rest all) table mv.sends);
        placed = λ _. placed_first v (step ∷ past) (answered_tickets v past) s.message x.sends s.table rest mv.sends;
      };
      follows = follows_on v past (Answer bytes) x (y ∷ old) t u m fit is_u healthy live
          (λ k below. content_is v past old s k fit l ∙ ap (λ q. content_after d k (applied d old q s.entry_number k)) qu ∙ ap (content_after d k) (sym (applied_finished d old rest y s.entry_number k whole)))
          (records_first v past (Answer bytes) x m s.table rest refl (forget_last v.scheme s.message s.table rest x.sends mv.sends)) mv.holds;
    }
