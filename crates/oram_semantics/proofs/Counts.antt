-- How a past goes on, and which tickets and entries are added at a step.
use Rattle.std.proofs.Math.Path.{fun_ext}
use Rattle.std.proofs.Common.{◌≡◌, ℕ, ◌+◌, ◌-◌, ◌*◌, ◌<◌, ◌==◌, get_or, get_or-take, min, ◌^◌, Bool, true, false, if◌then◌else◌, List, [], ◌∷◌, ◌++◌, length, reverse, map, take, drop, slice_index, slice_range, Option, Some, None, unwrap_or, refl, ap, sym, ◌∙◌, arith, length-append, append_assoc}
use Rattle.std.specs.Int.{w32, to_be_bytes, from_be_bytes}
use Rattle.oram_wire.specs.HostMessages.{fetch_body, store_body}
use Rattle.std.proofs.lemmas.List.{length-reverse, drop_at, drop-take}
use Rattle.std.proofs.lemmas.Nat.{div-mul-add, from_be_bytes-to_be_bytes_4}
use Rattle.std.proofs.lemmas.Bool.Decides.{nat_tests}
use Rattle.oram_geometry.specs.Sizes.{trees_of}
use Rattle.oram_trace.specs.declared.entries.Entry.{Entry}
use Rattle.oram_semantics.specs.Messages.{is_store, header_of}
use Rattle.oram_semantics.specs.Scheme.{Scheme}
use Rattle.oram_semantics.specs.Messages.{is_store, IsMessage, requested, last_stored, written}
use Rattle.oram_semantics.specs.Progress.{Setting, Step, Progress, accepted, sent, records_of, progress, status, status_from, entries, entry_at, advanced, meaning_at, submission_of}
use Rattle.oram_semantics.specs.Progress.Status.{Idle, Waiting, Stalling, Over}
use Rattle.oram_semantics.specs.Run.{AskFor, from_to, answered_tickets, entries_sent}
use Rattle.oram_semantics.specs.State.{State, status_in, status_by}
use Rattle.oram_semantics.specs.Moves.{records_after}
use Rattle.oram_semantics.specs.declared.events.Reason.{Reason}
use Rattle.oram_semantics.specs.declared.events.Submission.{Submission}
use Rattle.oram_semantics.proofs.Bounds.{IsFit}
use Rattle.oram_semantics.proofs.Follows.{Live, AtWork}

pub progress_cons : (v : Setting) (s : Step) (past : List Step)
    → progress v (s ∷ past) ≡ advanced (progress v past) (status v past) (meaning_at v past (progress v past).good) s.event
unfolding progress
progress_cons v s past = refl

pub accepted_cons : (s : Step) (past : List Step)
    → accepted (s ∷ past) ≡ (if s.accepts then accepted past ++ submission_of (length (accepted past)) s.event else accepted past)
unfolding accepted
accepted_cons s past = refl

pub sent_cons : (s : Step) (past : List Step) → sent (s ∷ past) ≡ s.sends ++ sent past
unfolding sent
sent_cons s past = refl

abbrev put_over : Scheme → List ℕ → (ℕ → ℕ → List ℕ) → ℕ → ℕ → List ℕ
put_over v m f i n = unwrap_or (written v m i n) (f i n)

-- messages that are sent change what was last stored
stored_more : (v : Scheme) (sends older : List (List ℕ))
    → last_stored v (sends ++ older) ≡ records_after v (last_stored v older) sends
unfolding last_stored
stored_more v [] older = refl
stored_more v (m ∷ sends) older = ap (put_over v m) (stored_more v sends older)

pub records_more : (v : Setting) (s : Step) (past : List Step)
    → records_of v (s ∷ past) ≡ records_after v.scheme (records_of v past) s.sends
records_more v s past =
    ap (λ ms. last_stored v.scheme (ms ++ reverse v.format)) (sent_cons s past)
    ∙ ap (last_stored v.scheme) (append_assoc s.sends (sent past) (reverse v.format))
    ∙ stored_more v.scheme s.sends (sent past ++ reverse v.format)

stored_again : (v : Scheme) (m : List ℕ) (older : List (List ℕ)) (i n : ℕ)
    → last_stored v (m ∷ m ∷ older) i n ≡ last_stored v (m ∷ older) i n
unfolding last_stored
stored_again v m older i n = elim (written v m i n) as (λ o. unwrap_or o (unwrap_or o (last_stored v older i n)) ≡ unwrap_or o (last_stored v older i n)) [ None ↦ refl | Some r ↦ refl ]

-- sending the last message again changes nothing
pub again_same : (v : Scheme) (m : List ℕ) (older : List (List ℕ)) → last_stored v (m ∷ m ∷ older) ≡ last_stored v (m ∷ older)
again_same v m older = fun_ext (λ i. fun_ext (λ n. stored_again v m older i n))

status_over : (all : ℕ) (p : Progress) (e : Reason) → p.failure ≡ Some e → status_from all p ≡ Over
unfolding status_from
status_over all p e h = rw h refl

status_idle : (all : ℕ) (p : Progress) → p.failure ≡ None → p.good ≡ all → status_from all p ≡ Idle
unfolding status_from
status_idle all p h g = rw h (let same : (p.good == all) ≡ true = grind (arith, nat_tests) in rw same refl)

status_busy : (all : ℕ) (p : Progress) (b : Bool) → p.failure ≡ None → p.lost ≡ b → p.good < all
    → status_from all p ≡ (if b then Stalling else Waiting)
unfolding status_from
status_busy all p b h l g = rw h (let other : (p.good == all) ≡ false = grind (arith, nat_tests) in rw (other, l) refl)

pub accepted_len : (past : List Step) (old queue : List Submission) → accepted past ≡ reverse old ++ queue
    → length (accepted past) ≡ length old + length queue
accepted_len past old queue e = ap length e ∙ length-append (reverse old) queue ∙ ap (λ n. n + length queue) (length-reverse old)

-- the submissions without those that are answered
pub rest_is : (past : List Step) (old queue : List Submission) (t : ℕ) → t ≡ length old
    → accepted past ≡ reverse old ++ queue → drop t (accepted past) ≡ queue
rest_is past old queue t e split = rw (e, split) (drop_at (reverse old) queue (length old) (length-reverse old))

status_by_queue : (v : Setting) (past : List Step) (old : List Submission) (s : State) (queue : List Submission)
    → IsFit v.scheme.device → Live v past old s → s.queue ≡ queue → AtWork v past old s queue
    → status v past ≡ status_by None queue s.lost
status_by_queue v past old s [] fit l qu w =
    let none : length s.queue ≡ 0 = ap length qu in
    let len : length (accepted past) ≡ length old + length s.queue = accepted_len past old s.queue l.split in
    let z : s.entry_number ≡ 0 = w.entry_number in
    let exact : length (accepted past) ≡ length old = omega arith in
    status_idle (entries v past) (progress v past) l.alive (rw (l.good, exact, z) (omega arith))
status_by_queue v past old s (x ∷ rest) fit l qu w =
    let len : length (accepted past) ≡ length old + (length rest + 1) =
    accepted_len past old s.queue l.split ∙ ap (λ (q : List Submission). length old + length q) qu ∙ omega arith in
    let few : s.entry_number < 2 * trees_of v.scheme.device = w.entry_number in
    status_busy (entries v past) (progress v past) s.lost l.alive l.lost (rw (l.good, len) (omega arith))

pub status_is : (v : Setting) (past : List Step) (old : List Submission) (s : State) → IsFit v.scheme.device
    → Live v past old s → s.failure ≡ None → status v past ≡ status_in s
status_is v past old s fit l h =
    status_by_queue v past old s s.queue fit l refl l.work ∙ ap (λ (f : Option Reason). status_by f s.queue s.lost) (sym h)

pub status_ends : (v : Setting) (past : List Step) (e : Reason) → (progress v past).failure ≡ Some e → status v past ≡ Over
status_ends v past e h = status_over (entries v past) (progress v past) e h

pub none_between : {X Y : Type 0} (f : X → Y) (xs : List X) (a b : ℕ) → b ≡ a → map f (slice_range xs a b) ≡ []
none_between f xs a b e = let none : b - a ≡ 0 = omega arith in rw none refl

pub one_between : {X Y : Type 0} (f : X → Y) (xs rest : List X) (x : X) (a b : ℕ) → b ≡ a + 1 → drop a xs ≡ x ∷ rest
    → map f (slice_range xs a b) ≡ f x ∷ []
one_between f xs rest x a b e h = let one : b - a ≡ 1 = omega arith in rw (one, h) refl

pub asks_for_none : (v : Setting) (past : List Step) (a b : ℕ) (sends : List (List ℕ)) → b ≡ a → sends ≡ []
    → AskFor v past (from_to a b) sends
asks_for_none v past a b sends e h = let none : b - a ≡ 0 = omega arith in rw (none, h) tt

pub asks_for_one : (v : Setting) (past : List Step) (a b m : ℕ) (sends : List (List ℕ)) (x : List ℕ) → a ≡ m → b ≡ m + 1
    → sends ≡ x ∷ [] → IsMessage v.scheme (entry_at v past m) x → AskFor v past (from_to a b) sends
asks_for_one v past a b m sends x e h s is = let one : b - a ≡ 1 = omega arith in rw (one, s) (rw e (is, tt))

pub answered_is : (v : Setting) (past : List Step) (n r : ℕ)
    → (progress v past).good ≡ n * (2 * trees_of v.scheme.device) + r → r < 2 * trees_of v.scheme.device
    → answered_tickets v past ≡ n
answered_is v past n r g h = rw g (div-mul-add n (2 * trees_of v.scheme.device) r h)

pub sent_is : (v : Setting) (past : List Step) (g n m : ℕ) → (progress v past).good ≡ g → length (accepted past) ≡ n
    → m ≡ min (g + 1) (2 * trees_of v.scheme.device * n) → entries_sent v past ≡ m
sent_is v past g n m e l h = rw (e, l) (sym h)

pub byte_of : (m h : List ℕ) (k : ℕ) → take 6 m ≡ h → k < 6 → get_or m k 0 ≡ get_or h k 0
byte_of m h k e few = sym (get_or-take 6 m k 0 few) ∙ ap (λ xs. get_or xs k 0) e

is_fetch : (b : Bool) (n : ℕ) → n ≡ (if b then 1 else 2) → (n == 1) ≡ b
is_fetch true n e = rw e refl
is_fetch false n e = rw e refl

header_by : (fetch : Bool) (i leaf : ℕ) (records : List ℕ)
    → take 6 (if fetch then fetch_body i leaf else store_body i leaf records) ≡ (if fetch then 1 else 2) ∷ i ∷ to_be_bytes w32 leaf
header_by true i leaf records = refl
header_by false i leaf records = refl

-- a message begins with its entry's header
pub header_is : (v : Scheme) (e : Entry) (m : List ℕ) → IsMessage v e m → take 6 m ≡ header_of e
header_is v e m is = ap (take 6) is.body ∙ header_by e.fetch e.tree e.leaf is.records

-- the entry that a message asks for
pub requested_is : (v : Scheme) (e : Entry) (m : List ℕ) → e.leaf < 2 ^ 32 → IsMessage v e m → requested m ≡ e
unfolding requested
requested_is v e m small is =
    let header : take 6 m ≡ header_of e = header_is v e m is in
    let op : (slice_index m 0 == 1) ≡ e.fetch =
    is_fetch e.fetch (slice_index m 0) (byte_of m (header_of e) 0 header (omega arith)) in
    let tree : slice_index m 1 ≡ e.tree = byte_of m (header_of e) 1 header (omega arith) in
    let leaf : from_be_bytes w32 (slice_range m 2 6) ≡ e.leaf =
    ap (from_be_bytes w32) (sym (drop-take 2 4 m) ∙ ap (drop 2) header) ∙ from_be_bytes-to_be_bytes_4 e.leaf small in
    ap (λ (b : Bool). record { fetch = b; tree = slice_index m 1; leaf = from_be_bytes w32 (slice_range m 2 6) }) op
    ∙ ap (λ (n : ℕ). record { fetch = e.fetch; tree = n; leaf = from_be_bytes w32 (slice_range m 2 6) }) tree
    ∙ ap (λ (n : ℕ). record { fetch = e.fetch; tree = e.tree; leaf = n }) leaf

-- the message of a FETCH entry isn't a STORE,
pub no_store : (v : Scheme) (e : Entry) (y : List ℕ) → e.fetch ≡ true → IsMessage v e y → is_store y ≡ false
no_store v e y fetch is =
    let op : slice_index y 0 ≡ 1 =
    byte_of y (header_of e) 0 (header_is v e y is) (omega arith) ∙ ap (λ (b : Bool). if b then 1 else 2) fetch in
    ap (λ (n : ℕ). n == 2) op

store_by : (v : Scheme) (e : Entry) (y : List ℕ) (b : Bool) → e.fetch ≡ b → IsMessage v e y → is_store y ≡ true → b ≡ false
store_by v e y false f is store = refl
store_by v e y true f is store = sym store ∙ no_store v e y f is

-- and a STORE belongs to an entry that is no FETCH
pub store_entry_is : (v : Scheme) (e : Entry) (y : List ℕ) → IsMessage v e y → is_store y ≡ true → e.fetch ≡ false
store_entry_is v e y is store = store_by v e y e.fetch refl is store
