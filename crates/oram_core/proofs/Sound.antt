-- The properties that every core has stay true at each step.
use Rattle.std.proofs.Common.{◌⊎◌, ◌≡◌, ℕ, zero, suc, ◌+◌, ◌-◌, ◌*◌, ◌%◌, ◌^◌, ◌<◌, ◌≤◌, ◌≢◌, ◌==◌, Bool, true, false, if◌then◌else◌, List, [], ◌∷◌, ◌++◌, length, length-append, slice_index, slice_set, Option, Some, None, refl, ap, sym, ◌∙◌, subst, arith, inl, inr}
use Rattle.std.specs.List.{All}
use Rattle.std.specs.Int.{w32, to_be_bytes}
use Rattle.std.proofs.lemmas.List.{get_or-set_same, get_or-set_other, length-set}
use Rattle.std.proofs.lemmas.List.Elements.{All-push, All-head, All-tail, All-set}
use Rattle.std.proofs.lemmas.Bool.{cases_eq}
use Rattle.std.proofs.lemmas.Bool.Decides.{nat_tests}
use Rattle.std.proofs.lemmas.Nat.{from_be_bytes-to_be_bytes_4, pow_pos}
use Rattle.std.proofs.Math.Nat.{mod-lt, mul-le-mul}
use Rattle.std.proofs.Math.Pow.{pow_mono}
use Rattle.oram_geometry.specs.declared.Sizes.{Sizes}
use Rattle.oram_geometry.specs.Sizes.{IsDevice, trees_of, depth_of, blocks_in, record_len_of}
use Rattle.oram_geometry.proofs.DeviceSizes.{trees_of-few}
use Rattle.oram_wire.specs.HostMessages.{fetch_body, store_body}
use Rattle.oram_tree.specs.State.{State as Tree}
use Rattle.oram_trace.specs.declared.entries.Entry.{Entry}
use Rattle.oram_semantics.specs.Content.{block_of, new_leaf, entry_tree}
use Rattle.oram_semantics.specs.Messages.{requested}
use Rattle.oram_semantics.specs.Moves.{fetch_at, leaf_for, latest}
use Rattle.oram_semantics.specs.Blocks.{next_map_entry, kept_of}
use Rattle.oram_semantics.specs.Progress.Status.{Idle, Waiting, Stalling, Over}
use Rattle.oram_semantics.specs.Nonces.{next_nonce, buckets_below, formatted}
use Rattle.oram_semantics.specs.State.{State, map_entry_now, no_tree, status_by, status_in}
use Rattle.oram_semantics.specs.declared.events.Reason.{Reason}
use Rattle.oram_semantics.specs.declared.events.Submission.{Submission}
use Rattle.oram_semantics.proofs.Bounds.{some_trees, depth_small}
use Rattle.oram_semantics.proofs.NoncesApart.{formatted_small}
use Rattle.oram_semantics.proofs.Nonces.{nonce_split, nonce_stored, nonce_fetched, nonce_finished}
use Rattle.oram_semantics.proofs.Others.{tickets_push}
use Rattle.oram_semantics.specs.Agree.{IsAllowed, TicketsFrom}
use Rattle.oram_semantics.specs.Progress.{Setting}
use Rattle.oram_core.specs.Core.{IsTreeKept, IsStoreOf, IsAtWork, IsResting, AtWork, IsHealthy, IsWhole, IsSound, most_map_entry}
use Rattle.oram_core.proofs.Small.{map_entry_none}
use Rattle.oram_core.specs.PlainSteps.{fetch_of, first_message, first_messages}

-- the leaf that a command fetches is one of the tree
pub leaf_for-range : (d : Sizes) (i map_entry : ℕ) (x : Submission) → map_entry ≤ 2 ^ depth_of d i → leaf_for d i map_entry x < 2 ^ depth_of d i
leaf_for-range d i map_entry x fits = elim (cases_eq map_entry 0) [
  | inl none ↦ let e : (map_entry == 0) ≡ true = grind (arith, nat_tests) in rw e (mod-lt (slice_index x.words (2 * i)) (pow_pos (depth_of d i)))
  | inr some ↦ let e : (map_entry == 0) ≡ false = grind (arith, nat_tests) in rw e (omega arith)
]

-- what a FETCH asks for,
pub requested_fetch : (i leaf : ℕ) → leaf < 2 ^ 32 → requested (fetch_body i leaf) ≡ record { fetch = true; tree = i; leaf = leaf }
unfolding requested
requested_fetch i leaf small = ap (λ (k : ℕ). record { fetch = true; tree = i; leaf = k }) (from_be_bytes-to_be_bytes_4 leaf small)

-- and a STORE
pub requested_store : (i leaf : ℕ) (records : List ℕ) → leaf < 2 ^ 32 → requested (store_body i leaf records) ≡ record { fetch = false; tree = i; leaf = leaf }
unfolding requested
requested_store i leaf records small = ap (λ (k : ℕ). record { fetch = false; tree = i; leaf = k }) (from_be_bytes-to_be_bytes_4 leaf small)

small_leaf : (d : Sizes) (i leaf : ℕ) → leaf < 2 ^ depth_of d i → leaf < 2 ^ 32
small_leaf d i leaf fits = omega (arith, fits, pow_mono {i = depth_of d i} {j = 24} (depth_small d i))

-- the fetch of a stage
pub requested_fetch_at : (d : Sizes) (entry_number map_entry : ℕ) (x : Submission) → map_entry ≤ 2 ^ depth_of d (entry_tree d entry_number) → requested (fetch_of (fetch_at d entry_number map_entry x)) ≡ fetch_at d entry_number map_entry x
requested_fetch_at d entry_number map_entry x fits =
    let i : ℕ = entry_tree d entry_number in
    requested_fetch i (leaf_for d i map_entry x) (small_leaf d i _ (leaf_for-range d i map_entry x fits))

-- an entry of the table, 0 past its end
pub entry_small : (xs : List ℕ) (n k : ℕ) → All (λ e. e ≤ n) xs → slice_index xs k ≤ n
entry_small [] n k h = omega arith
entry_small (x ∷ xs) n zero h = All-head (λ e. e ≤ n) x xs h
entry_small (x ∷ xs) n (suc k) h = entry_small xs n k (All-tail (λ e. e ≤ n) x xs h)

-- what the outstanding message of a command asks for, and what is held beside it
pub record Outstanding (d : Sizes) (s : State) (x : Submission) : Type 0 where
  pub entry_number : s.entry_number < 2 * trees_of d
  pub header : 6 ≤ length s.message
  pub leaf : (requested s.message).leaf < 2 ^ depth_of d (entry_tree d s.entry_number)
  pub fetch : s.entry_number % 2 ≡ 0 → requested s.message ≡ fetch_at d s.entry_number (map_entry_now d s x) x
  pub store : s.entry_number % 2 ≡ 1 → requested s.message ≡ record { fetch = false; tree = entry_tree d s.entry_number; leaf = (requested s.message).leaf }
  pub held_entry : s.held_entry ≤ 2 ^ depth_of d (entry_tree d (s.entry_number + s.entry_number % 2))
  pub held_data : s.entry_number + 1 ≡ 2 * trees_of d → length s.held_data ≡ d.block_bytes

-- a command accesses the last tree first
last_tree : (d : Sizes) → entry_tree d 0 ≡ trees_of d - 1
last_tree d = omega arith

map_entry_low : (d : Sizes) (entry_number map_entry : ℕ) → map_entry ≤ most_map_entry d entry_number → map_entry ≤ 2 ^ depth_of d (entry_tree d (entry_number + entry_number % 2))
map_entry_low d entry_number map_entry h = elim (cases_eq entry_number 0) [
  | inl first ↦ let e : (entry_number == 0) ≡ true = grind (arith, nat_tests) in let none : map_entry ≤ 0 = subst (λ (b : Bool). map_entry ≤ (if b then 0 else if entry_number + 1 == 2 * trees_of d then 0 else 2 ^ depth_of d (entry_tree d (entry_number + entry_number % 2)))) e h in omega arith
  | inr later ↦
      let e : (entry_number == 0) ≡ false = grind (arith, nat_tests) in
      let low : map_entry ≤ (if entry_number + 1 == 2 * trees_of d then 0 else 2 ^ depth_of d (entry_tree d (entry_number + entry_number % 2))) = subst (λ (b : Bool). map_entry ≤ (if b then 0 else if entry_number + 1 == 2 * trees_of d then 0 else 2 ^ depth_of d (entry_tree d (entry_number + entry_number % 2)))) e h in
      elim (entry_number + 1 == 2 * trees_of d) as (λ b. map_entry ≤ (if b then 0 else 2 ^ depth_of d (entry_tree d (entry_number + entry_number % 2))) → map_entry ≤ 2 ^ depth_of d (entry_tree d (entry_number + entry_number % 2))) [
        | true ↦ λ none. omega (arith, none)
        | false ↦ λ fits. fits
      ] low
]

-- in the middle of a command
most_amid : (d : Sizes) (entry_number : ℕ) → 0 < entry_number → entry_number + 1 ≢ 2 * trees_of d → most_map_entry d entry_number ≡ 2 ^ depth_of d (entry_tree d (entry_number + entry_number % 2))
most_amid d entry_number some more =
    let first : (entry_number == 0) ≡ false = grind (arith, nat_tests) in
    let last : (entry_number + 1 == 2 * trees_of d) ≡ false = grind (arith, nat_tests, more) in
    rw (first, last) refl

-- at its last STORE
most_at_end : (d : Sizes) (entry_number : ℕ) → entry_number + 1 ≡ 2 * trees_of d → most_map_entry d entry_number ≡ 0
most_at_end d entry_number end = elim (entry_number == 0) as (λ b. (if b then 0 else if entry_number + 1 == 2 * trees_of d then 0 else 2 ^ depth_of d (entry_tree d (entry_number + entry_number % 2))) ≡ 0) [
  | true ↦ refl
  | false ↦ let last : (entry_number + 1 == 2 * trees_of d) ≡ true = grind (arith, nat_tests, end) in rw last refl
]

length_at_end : (d : Sizes) (entry_number : ℕ) (before : List ℕ) → length before ≡ (if entry_number + 1 == 2 * trees_of d then d.block_bytes else 0) → entry_number + 1 ≡ 2 * trees_of d → length before ≡ d.block_bytes
length_at_end d entry_number before h end = let last : (entry_number + 1 == 2 * trees_of d) ≡ true = grind (arith, nat_tests, end) in h ∙ ap (λ (b : Bool). if b then d.block_bytes else 0) last

length_amid : (d : Sizes) (entry_number : ℕ) → entry_number + 1 ≢ 2 * trees_of d → (if entry_number + 1 == 2 * trees_of d then d.block_bytes else 0) ≡ 0
length_amid d entry_number more = let last : (entry_number + 1 == 2 * trees_of d) ≡ false = grind (arith, nat_tests, more) in rw last refl

-- what the table names for a block
map_entry_first : (d : Sizes) (o : ℕ) (s : State) (x : Submission) → IsHealthy d o s → slice_index s.table (block_of d (trees_of d - 1) x) ≤ 2 ^ depth_of d (entry_tree d 0)
map_entry_first d o s x h = subst (λ (i : ℕ). slice_index s.table (block_of d (trees_of d - 1) x) ≤ 2 ^ depth_of d i) (sym (last_tree d))
    (entry_small s.table (2 ^ depth_of d (trees_of d - 1)) (block_of d (trees_of d - 1) x) h.map_entries)

-- the map entry of the block of the outstanding FETCH
map_entry_fits : (d : Sizes) (o : ℕ) (s : State) (x : Submission) → IsHealthy d o s → s.held_entry ≤ most_map_entry d s.entry_number → s.entry_number % 2 ≡ 0 → map_entry_now d s x ≤ 2 ^ depth_of d (entry_tree d s.entry_number)
map_entry_fits d o s x h held_entry even =
    elim (cases_eq s.entry_number 0) [
      | inl first ↦
          let e : (s.entry_number == 0) ≡ true = grind (arith, nat_tests) in
          rw e (subst (λ (k : ℕ). slice_index s.table (block_of d (trees_of d - 1) x) ≤ 2 ^ depth_of d (entry_tree d k)) (sym first) (map_entry_first d o s x h))
      | inr later ↦
          let e : (s.entry_number == 0) ≡ false = grind (arith, nat_tests) in
          rw e (subst (λ (k : ℕ). s.held_entry ≤ 2 ^ depth_of d (entry_tree d k)) (let same : s.entry_number + s.entry_number % 2 ≡ s.entry_number = omega (arith, even) in same) (map_entry_low d s.entry_number s.held_entry held_entry))
    ]

fetch_outstanding : (d : Sizes) (o : ℕ) (s : State) (x : Submission) → IsHealthy d o s → IsAtWork d o s x → s.entry_number % 2 ≡ 0 → Outstanding d s x
fetch_outstanding d o s x h w even =
    let n : ℕ = map_entry_now d s x in
    let fits : n ≤ 2 ^ depth_of d (entry_tree d s.entry_number) = map_entry_fits d o s x h w.held_entry even in
    let message : s.message ≡ fetch_of (fetch_at d s.entry_number n x) = w.fetch even in
    let e : requested s.message ≡ fetch_at d s.entry_number n x = ap requested message ∙ requested_fetch_at d s.entry_number n x fits in
    record {
      entry_number = w.entry_number;
      header = rw message (omega arith);
      leaf = rw e (leaf_for-range d (entry_tree d s.entry_number) n x fits);
      fetch = λ _. e;
      store = λ odd. absurd (omega (arith, even, odd));
      held_entry = map_entry_low d s.entry_number s.held_entry w.held_entry;
      held_data = length_at_end d s.entry_number s.held_data w.held_data;
    }

store_outstanding : (d : Sizes) (o : ℕ) (s : State) (x : Submission) → IsAtWork d o s x → s.entry_number % 2 ≡ 1 → Outstanding d s x
store_outstanding d o s x w odd =
    let i : ℕ = entry_tree d s.entry_number in
    let m : IsStoreOf d o i s.message = w.store odd in
    let e : requested s.message ≡ record { fetch = false; tree = i; leaf = m.leaf } = ap requested m.stores.body ∙ requested_store i m.leaf m.stores.records (small_leaf d i m.leaf m.inside) in
    let leaf : (requested s.message).leaf ≡ m.leaf = ap (λ (k : Entry). k.leaf) e in
    record {
      entry_number = w.entry_number;
      header = rw m.stores.body (omega (arith, length-append (to_be_bytes w32 m.leaf) m.stores.records));
      leaf = subst (λ (k : ℕ). k < 2 ^ depth_of d i) (sym leaf) m.inside;
      fetch = λ even. absurd (omega (arith, even, odd));
      store = λ _. e ∙ ap (λ (k : ℕ). record { fetch = false; tree = i; leaf = k }) (sym leaf);
      held_entry = map_entry_low d s.entry_number s.held_entry w.held_entry;
      held_data = length_at_end d s.entry_number s.held_data w.held_data;
    }

even_or_odd : (n : ℕ) → (n % 2 ≡ 0) ⊎ (n % 2 ≡ 1)
even_or_odd n = elim (cases_eq (n % 2) 0) [ inl even ↦ inl even | inr odd ↦ inr (omega (arith, odd)) ]

outstanding_by : (d : Sizes) (o : ℕ) (s : State) (x : Submission) → IsHealthy d o s → IsAtWork d o s x → Outstanding d s x
outstanding_by d o s x h w = elim (even_or_odd s.entry_number) [ inl even ↦ fetch_outstanding d o s x h w even | inr odd ↦ store_outstanding d o s x w odd ]

-- a sound core that hasn't failed is healthy
pub healthy_of : (d : Sizes) (o : ℕ) (s : State) → IsSound d o s → s.failure ≡ None → IsHealthy d o s
healthy_of d o s h alive = subst (IsWhole d o s) alive h.whole

pub at_hand : (d : Sizes) (o : ℕ) (s : State) (x : Submission) (rest : List Submission) → IsSound d o s → s.failure ≡ None → s.queue ≡ x ∷ rest → Outstanding d s x
at_hand d o s x rest h alive queue =
    let whole = healthy_of d o s h alive in
    outstanding_by d o s x whole (subst (AtWork d o s) queue whole.work)

-- a healthy core is sound
sound_by : (d : Sizes) (o : ℕ) (t : State) → IsDevice d → o ≤ 64 → t.next ≤ d.lifetime → t.failure ≡ None → IsHealthy d o t → IsSound d o t
sound_by d o t ranges small next alive whole = record { ranges = ranges; small = small; next = next; whole = subst (IsWhole d o t) (sym alive) whole }

abbrev setting : Sizes → Setting
setting d = record { scheme = record { device = d; cipher = record { overhead = 0; sealing = λ n plain. plain; opening = λ sealed. None } }; format = [] }

-- how the nonce rises from stage to stage
next_stored : (d : Sizes) (n r : ℕ) → r < 2 * trees_of d → r % 2 ≡ 0 → next_nonce d n (r + 1) ≡ next_nonce d n r + (depth_of d (entry_tree d r) + 1)
next_stored d n r few even =
    let g : ℕ = n * (2 * trees_of d) + r in
    let more : g + 1 ≡ n * (2 * trees_of d) + (r + 1) = omega arith in
    sym (nonce_split (setting d) (g + 1) n (r + 1) more (omega (arith, even)))
    ∙ nonce_stored (setting d) g n r refl few even
    ∙ ap (λ k. k + (depth_of d (entry_tree d r) + 1)) (nonce_split (setting d) g n r refl few)

next_fetched : (d : Sizes) (n r : ℕ) → r + 1 < 2 * trees_of d → r % 2 ≡ 1 → next_nonce d n (r + 1) ≡ next_nonce d n r
next_fetched d n r few odd =
    let g : ℕ = n * (2 * trees_of d) + r in
    let more : g + 1 ≡ n * (2 * trees_of d) + (r + 1) = omega arith in
    sym (nonce_split (setting d) (g + 1) n (r + 1) more few) ∙ nonce_fetched (setting d) g n r refl few odd ∙ nonce_split (setting d) g n r refl (omega arith)

next_finished : (d : Sizes) (n r : ℕ) → r + 1 ≡ 2 * trees_of d → next_nonce d (n + 1) 0 ≡ next_nonce d n r
next_finished d n r end =
    let g : ℕ = n * (2 * trees_of d) + r in
    let more : g + 1 ≡ (n + 1) * (2 * trees_of d) + 0 = omega (arith, end) in
    sym (nonce_split (setting d) (g + 1) (n + 1) 0 more (omega (arith, end))) ∙ nonce_finished (setting d) g n r refl end ∙ nonce_split (setting d) g n r refl (omega (arith, end))

resting : (d : Sizes) (o : ℕ) (s : State) (queue : List Submission) → AtWork d o s queue → length queue ≡ 0 → IsResting s
resting d o s [] w none = w
resting d o s (x ∷ rest) w none = absurd (omega arith)

alone : (d : Sizes) (o : ℕ) (t : State) (queue : List Submission) (x : Submission) → length queue ≡ 0 → IsAtWork d o t x → AtWork d o t (queue ++ x ∷ [])
alone d o t [] x none w = w
alone d o t (y ∷ rest) x none w = absurd (omega arith)

-- a command begins, once its first FETCH was sent
begun_work : (d : Sizes) (o : ℕ) (s t : State) (x : Submission) → t.entry_number ≡ 0 → t.held_entry ≡ 0 → t.held_data ≡ [] → t.table ≡ s.table → t.message ≡ first_message d s x → IsAtWork d o t x
begun_work d o s t x entry_number held_entry before table last =
    let n : ℕ = slice_index s.table (block_of d (trees_of d - 1) x) in
    let some : 0 < trees_of d = some_trees d in
    let now : map_entry_now d t x ≡ n = rw entry_number (ap (λ (ts : List ℕ). slice_index ts (block_of d (trees_of d - 1) x)) table) in
    let same : fetch_at d t.entry_number (map_entry_now d t x) x ≡ fetch_at d 0 n x = ap (λ (k : ℕ). fetch_at d k (map_entry_now d t x) x) entry_number ∙ ap (λ (k : ℕ). fetch_at d 0 k x) now in
    record {
      entry_number = omega (arith, entry_number, some);
      fetch = λ even. last ∙ sym (ap fetch_of same);
      store = λ odd. absurd (omega (arith, entry_number));
      held_entry = rw held_entry (omega arith);
      held_data = ap length before ∙ sym (length_amid d t.entry_number (λ end. absurd (omega (arith, entry_number, end, some))));
    }

-- a command joins an empty queue
pub sound_begun : (d : Sizes) (o : ℕ) (s : State) (x : Submission) → IsSound d o s → s.failure ≡ None → length s.queue ≡ 0 → s.next < d.lifetime → IsAllowed d x → x.ticket ≡ s.next →
    IsSound d o (record s { next = s.next + 1; queue = s.queue ++ x ∷ []; message = first_message d s x })
sound_begun d o s x h alive none room allowed ticket =
    let q = healthy_of d o s h alive in
    let calm : IsResting s = resting d o s s.queue q.work none in
    let t : State = record s { next = s.next + 1; queue = s.queue ++ x ∷ []; message = first_message d s x } in
    let more : length t.queue ≡ length s.queue + 1 = length-append s.queue (x ∷ []) in
    let same : t.next - length t.queue ≡ s.next - length s.queue = omega (arith, more) in
    sound_by d o t h.ranges h.small (omega arith) alive (record {
      table = q.table;
      map_entries = q.map_entries;
      count = q.count;
      kept = q.kept;
      queue = All-push (IsAllowed d) s.queue x q.queue allowed;
      tickets = subst (λ (k : ℕ). TicketsFrom k t.queue) (sym same) (tickets_push (s.next - length s.queue) s.queue x q.tickets (ticket ∙ (let b = q.begun in omega (arith, none))));
      most = omega (arith, more);
      begun = omega (arith, more, q.begun);
      work = alone d o t s.queue x none (begun_work d o s t x calm.entry_number calm.held_entry calm.held_data refl refl);
      nonce = q.nonce ∙ ap (λ (k : ℕ). next_nonce d k s.entry_number) (sym same);
    })

-- the same command stays at work if another one begins to wait
work_pushed : (d : Sizes) (o : ℕ) (s : State) (queue whole : List Submission) (x : Submission) (next : ℕ) → 0 < length queue → AtWork d o s queue → AtWork d o (record s { next = next; queue = whole }) (queue ++ x ∷ [])
work_pushed d o s [] whole x next some w = absurd (omega arith)
work_pushed d o s (y ∷ rest) whole x next some w = record { entry_number = w.entry_number; fetch = w.fetch; store = w.store; held_entry = w.held_entry; held_data = w.held_data }

-- a command joins a queue that isn't empty
pub sound_pushed : (d : Sizes) (o : ℕ) (s : State) (x : Submission) → IsSound d o s → s.failure ≡ None → 0 < length s.queue → length s.queue < 64 → s.next < d.lifetime → IsAllowed d x → x.ticket ≡ s.next →
    IsSound d o (record s { next = s.next + 1; queue = s.queue ++ x ∷ [] })
sound_pushed d o s x h alive some few room allowed ticket =
    let q = healthy_of d o s h alive in
    let t : State = record s { next = s.next + 1; queue = s.queue ++ x ∷ [] } in
    let more : length t.queue ≡ length s.queue + 1 = length-append s.queue (x ∷ []) in
    let same : t.next - length t.queue ≡ s.next - length s.queue = omega (arith, more) in
    sound_by d o t h.ranges h.small (omega arith) alive (record {
      table = q.table;
      map_entries = q.map_entries;
      count = q.count;
      kept = q.kept;
      queue = All-push (IsAllowed d) s.queue x q.queue allowed;
      tickets = subst (λ (k : ℕ). TicketsFrom k t.queue) (sym same) (tickets_push (s.next - length s.queue) s.queue x q.tickets (ticket ∙ (let b = q.begun in omega arith)));
      most = omega (arith, more);
      begun = omega (arith, more, q.begun);
      work = work_pushed d o s s.queue t.queue x (s.next + 1) some q.work;
      nonce = q.nonce ∙ ap (λ (k : ℕ). next_nonce d k s.entry_number) (sym same);
    })

-- the path of the next tree is fetched
pub sound_fetched : (d : Sizes) (o : ℕ) (s : State) (x : Submission) (rest : List Submission) → IsSound d o s → s.failure ≡ None → s.queue ≡ x ∷ rest → s.entry_number % 2 ≡ 1 → s.entry_number + 1 < 2 * trees_of d →
    IsSound d o (record s { entry_number = s.entry_number + 1; message = fetch_of (fetch_at d (s.entry_number + 1) s.held_entry x) })
sound_fetched d o s x rest h alive queue odd more =
    let q = healthy_of d o s h alive in
    let w : IsAtWork d o s x = subst (AtWork d o s) queue q.work in
    let t : State = record s { entry_number = s.entry_number + 1; message = fetch_of (fetch_at d (s.entry_number + 1) s.held_entry x) } in
    let later : (s.entry_number + 1 == 0) ≡ false = grind (arith, nat_tests) in
    let next : s.entry_number + s.entry_number % 2 ≡ s.entry_number + 1 + (s.entry_number + 1) % 2 = omega (arith, odd) in
    let same : most_map_entry d s.entry_number ≡ most_map_entry d (s.entry_number + 1) =
    most_amid d s.entry_number (omega (arith, odd)) (λ end. absurd (omega (arith, more, end))) ∙ ap (λ (k : ℕ). 2 ^ depth_of d (entry_tree d k)) next ∙ sym (most_amid d (s.entry_number + 1) (omega arith) (λ end. absurd (omega (arith, odd, end)))) in
    sound_by d o t h.ranges h.small h.next alive (record {
      table = q.table;
      map_entries = q.map_entries;
      count = q.count;
      kept = q.kept;
      queue = q.queue;
      tickets = q.tickets;
      most = q.most;
      begun = q.begun;
      work = subst (AtWork d o t) (sym queue) (record {
        entry_number = more;
        fetch = λ even. sym (ap (λ (b : Bool). fetch_of (fetch_at d (s.entry_number + 1) (if b then slice_index s.table (block_of d (trees_of d - 1) x) else s.held_entry) x)) later);
        store = λ turn. absurd (omega (arith, odd, turn));
        held_entry = subst (λ (k : ℕ). s.held_entry ≤ k) same w.held_entry;
        held_data = w.held_data ∙ length_amid d s.entry_number (λ end. absurd (omega (arith, more, end))) ∙ sym (length_amid d (s.entry_number + 1) (λ end. absurd (omega (arith, odd, end))));
      });
      nonce = q.nonce ∙ sym (next_fetched d (s.next - length s.queue) s.entry_number more odd);
    })

next_work : (d : Sizes) (o : ℕ) (s t : State) (rest : List Submission) → t.lost ≡ false → t.entry_number ≡ 0 → t.held_entry ≡ 0 → t.held_data ≡ [] → t.table ≡ s.table → t.message ≡ latest (first_messages d s rest) [] → AtWork d o t rest
next_work d o s t [] lost entry_number held_entry before table last = record { entry_number = entry_number; held_entry = held_entry; held_data = before; message = last; lost = lost }
next_work d o s t (y ∷ rest) lost entry_number held_entry before table last = begun_work d o s t y entry_number held_entry before table last

-- the oldest command gets its reply
pub sound_finished : (d : Sizes) (o : ℕ) (s : State) (x : Submission) (rest : List Submission) → IsSound d o s → s.failure ≡ None → s.queue ≡ x ∷ rest → s.lost ≡ false → s.entry_number + 1 ≡ 2 * trees_of d →
    IsSound d o (record s { queue = rest; entry_number = 0; held_entry = 0; held_data = []; message = latest (first_messages d s rest) [] })
sound_finished d o s x rest h alive queue calm end =
    let q = healthy_of d o s h alive in
    let t : State = record s { queue = rest; entry_number = 0; held_entry = 0; held_data = []; message = latest (first_messages d s rest) [] } in
    let count : length s.queue ≡ length rest + 1 = ap length queue ∙ omega arith in
    let n : ℕ = s.next - length s.queue in
    let one : s.next - length rest ≡ n + 1 = let b = q.begun in omega (arith, count) in
    sound_by d o t h.ranges h.small h.next alive (record {
      table = q.table;
      map_entries = q.map_entries;
      count = q.count;
      kept = q.kept;
      queue = All-tail (IsAllowed d) x rest (subst (All (IsAllowed d)) queue q.queue);
      tickets = subst (λ (k : ℕ). TicketsFrom k rest) (sym one) (subst (TicketsFrom n) queue q.tickets).1;
      most = let m = q.most in omega (arith, count);
      begun = let b = q.begun in omega (arith, count);
      work = next_work d o s t rest calm refl refl refl refl refl;
      nonce = q.nonce ∙ sym (next_finished d n s.entry_number end) ∙ ap (λ (k : ℕ). next_nonce d k 0) (sym one);
    })

work_accessed : (d : Sizes) (o : ℕ) (s : State) (trees : List Tree) (queue : List Submission) → AtWork d o s queue → AtWork d o (record s { trees = trees }) queue
work_accessed d o s trees [] w = record { entry_number = w.entry_number; held_entry = w.held_entry; held_data = w.held_data; message = w.message; lost = w.lost }
work_accessed d o s trees (x ∷ rest) w = record { entry_number = w.entry_number; fetch = w.fetch; store = w.store; held_entry = w.held_entry; held_data = w.held_data }

-- one tree changes by an access
pub sound_accessed : (d : Sizes) (o : ℕ) (s : State) (i : ℕ) (tree : Tree) → IsSound d o s → s.failure ≡ None → i < trees_of d → IsTreeKept d i tree → IsSound d o (record s { trees = slice_set s.trees i tree })
sound_accessed d o s i tree h alive inside is =
    let q = healthy_of d o s h alive in
    let within : i < length s.trees = omega (arith, q.count) in
    sound_by d o (record s { trees = slice_set s.trees i tree }) h.ranges h.small h.next alive (record {
      table = q.table;
      map_entries = q.map_entries;
      count = length-set s.trees i tree ∙ q.count;
      kept = λ k below. elim (cases_eq k i) [
        | inl same ↦ rw same (subst (IsTreeKept d i) (sym (get_or-set_same s.trees i tree no_tree within)) is)
        | inr other ↦ subst (IsTreeKept d k) (sym (get_or-set_other s.trees i k tree no_tree other)) (q.kept k below)
      ];
      queue = q.queue;
      tickets = q.tickets;
      most = q.most;
      begun = q.begun;
      work = work_accessed d o s (slice_set s.trees i tree) s.queue q.work;
      nonce = q.nonce;
    })

-- the table after a new leaf is entered
names_set : (d : Sizes) (o : ℕ) (s : State) (x : Submission) → IsHealthy d o s →
    All (λ e. e ≤ 2 ^ depth_of d (trees_of d - 1)) (slice_set s.table (block_of d (entry_tree d 0) x) (new_leaf d (entry_tree d 0) x + 1))
names_set d o s x h =
    let small : new_leaf d (entry_tree d 0) x < 2 ^ depth_of d (entry_tree d 0) = mod-lt (slice_index x.words (2 * entry_tree d 0 + 1)) (pow_pos (depth_of d (entry_tree d 0))) in
    All-set (λ e. e ≤ 2 ^ depth_of d (trees_of d - 1)) s.table (block_of d (entry_tree d 0) x) (new_leaf d (entry_tree d 0) x + 1)
    (subst (λ (i : ℕ). new_leaf d (entry_tree d 0) x + 1 ≤ 2 ^ depth_of d i) (last_tree d) (omega arith)) h.map_entries

-- the block of tree 0 is held at a command's last STORE, and at no other stage
kept_long : (d : Sizes) (i : ℕ) (before : List ℕ) → length before ≡ d.block_bytes → length (kept_of i before) ≡ (if i == 0 then d.block_bytes else 0)
kept_long d zero before long = long
kept_long d (suc i) before long = let none : (suc i == 0) ≡ false = grind (arith, nat_tests) in rw none refl

kept_here : (d : Sizes) (entry_number : ℕ) (before : List ℕ) → entry_number < 2 * trees_of d → entry_number % 2 ≡ 0 → length before ≡ d.block_bytes →
    length (kept_of (entry_tree d entry_number) before) ≡ (if entry_number + 1 + 1 == 2 * trees_of d then d.block_bytes else 0)
kept_here d entry_number before within even long =
    kept_long d (entry_tree d entry_number) before long ∙ ap (λ (b : Bool). if b then d.block_bytes else 0) (let same : (entry_tree d entry_number == 0) ≡ (entry_number + 1 + 1 == 2 * trees_of d) = same_test (entry_tree d entry_number) (entry_number + 1 + 1) (2 * trees_of d) (λ e. omega (arith, within, even, e)) (λ e. omega (arith, within, even, e)) in same)
  where
    same_test : (a m n : ℕ) → (a ≡ 0 → m ≡ n) → (m ≡ n → a ≡ 0) → (a == 0) ≡ (m == n)
    same_test a m n to from = elim (cases_eq a 0) [
      | inl none ↦ let e : m ≡ n = to none in grind (arith, nat_tests, e, none)
      | inr some ↦ let e : m ≢ n = λ same. some (from same) in grind (arith, nat_tests, e, some)
    ]

-- the entry of a map block for the tree below is a leaf there or 0; tree 0 has no such entry
map_entry_next : (d : Sizes) (entry_number : ℕ) (x : Submission) (before : List ℕ) → entry_number < 2 * trees_of d → entry_number % 2 ≡ 0 → next_map_entry d (entry_tree d entry_number) x before ≤ 2 ^ depth_of d (entry_tree d entry_number - 1) →
    next_map_entry d (entry_tree d entry_number) x before ≤ most_map_entry d (entry_number + 1)
map_entry_next d entry_number x before within even fits = elim (cases_eq (entry_number + 1 + 1) (2 * trees_of d)) [
  | inl end ↦
      let none : 0 ≡ next_map_entry d (entry_tree d entry_number) x before = map_entry_none d (entry_tree d entry_number) x before (omega (arith, within, even, end)) in
      subst (λ (k : ℕ). next_map_entry d (entry_tree d entry_number) x before ≤ k) (sym (most_at_end d (entry_number + 1) end)) (omega (arith, none))
  | inr more ↦
      let below : entry_tree d entry_number - 1 ≡ entry_tree d (entry_number + 1 + (entry_number + 1) % 2) = omega (arith, within, even) in
      subst (λ (k : ℕ). next_map_entry d (entry_tree d entry_number) x before ≤ k) (sym (most_amid d (entry_number + 1) (omega arith) more)) (subst (λ (i : ℕ). next_map_entry d (entry_tree d entry_number) x before ≤ 2 ^ depth_of d i) below fits)
]

-- the path of an access is stored
pub sound_stored : (d : Sizes) (o : ℕ) (s : State) (x : Submission) (rest : List Submission) (before records : List ℕ) → IsSound d o s → s.failure ≡ None → s.queue ≡ x ∷ rest → s.entry_number % 2 ≡ 0 → length before ≡ d.block_bytes →
    length records ≡ (depth_of d (entry_tree d s.entry_number) + 1) * record_len_of d o →
    next_map_entry d (entry_tree d s.entry_number) x before ≤ 2 ^ depth_of d (entry_tree d s.entry_number - 1) →
    (let d = d in
    let i = entry_tree d s.entry_number in
    IsSound d o (record s {
      table = if s.entry_number == 0 then slice_set s.table (block_of d i x) (new_leaf d i x + 1) else s.table;
      nonce = s.nonce + (depth_of d i + 1);
      entry_number = s.entry_number + 1;
      held_entry = next_map_entry d i x before;
      held_data = kept_of i before;
      message = store_body i (requested s.message).leaf records;
    }))
sound_stored d o s x rest before records h alive queue even long whole fits =
    let i : ℕ = entry_tree d s.entry_number in
    let leaf : ℕ = (requested s.message).leaf in
    let q = healthy_of d o s h alive in
    let work : Outstanding d s x = at_hand d o s x rest h alive queue in
    let within : s.entry_number < 2 * trees_of d = work.entry_number in
    let n : ℕ = s.next - length s.queue in
    let next_tree : i ≡ entry_tree d (s.entry_number + 1) = omega (arith, even) in
    let t : State = record s {
      table = if s.entry_number == 0 then slice_set s.table (block_of d i x) (new_leaf d i x + 1) else s.table;
      nonce = s.nonce + (depth_of d i + 1);
      entry_number = s.entry_number + 1;
      held_entry = next_map_entry d i x before;
      held_data = kept_of i before;
      message = store_body i leaf records;
    } in
    let stored : IsStoreOf d o i t.message = record { leaf = leaf; inside = work.leaf; stores = record { records = records; long = whole; body = refl } } in
    sound_by d o t h.ranges h.small h.next alive (record {
      table = elim (s.entry_number == 0) as (λ b. length (if b then slice_set s.table (block_of d i x) (new_leaf d i x + 1) else s.table) ≡ blocks_in d (trees_of d - 1)) [ true ↦ length-set s.table (block_of d i x) (new_leaf d i x + 1) ∙ q.table | false ↦ q.table ];
      map_entries = elim (cases_eq s.entry_number 0) [
        | inl first ↦ let e : (s.entry_number == 0) ≡ true = grind (arith, nat_tests) in rw (e, first) (names_set d o s x q)
        | inr later ↦ let e : (s.entry_number == 0) ≡ false = grind (arith, nat_tests) in rw e q.map_entries
      ];
      count = q.count;
      kept = q.kept;
      queue = q.queue;
      tickets = q.tickets;
      most = q.most;
      begun = q.begun;
      work = subst (AtWork d o t) (sym queue) (record {
        entry_number = omega (arith, within, even);
        fetch = λ turn. absurd (omega (arith, even, turn));
        store = λ odd. subst (λ (k : ℕ). IsStoreOf d o k t.message) next_tree stored;
        held_entry = map_entry_next d s.entry_number x before within even fits;
        held_data = kept_here d s.entry_number before within even long;
      });
      nonce = ap (λ (k : ℕ). k + (depth_of d i + 1)) q.nonce ∙ sym (next_stored d n s.entry_number within even);
    })

-- the states in the form in which the code writes them

pub begun_as : (d : Sizes) (o : ℕ) (s : State) (x : Submission) (queue : List Submission) (last : List ℕ) → IsSound d o s → s.failure ≡ None → length s.queue ≡ 0 → s.next < d.lifetime → IsAllowed d x → x.ticket ≡ s.next →
    queue ≡ s.queue ++ x ∷ [] → last ≡ first_message d s x → IsSound d o (record s { next = s.next + 1; queue = queue; message = last })
begun_as d o s x queue last h alive none room allowed ticket q l =
    subst (λ (ms : List ℕ). IsSound d o (record s { next = s.next + 1; queue = queue; message = ms })) (sym l)
    (subst (λ (xs : List Submission). IsSound d o (record s { next = s.next + 1; queue = xs; message = first_message d s x })) (sym q) (sound_begun d o s x h alive none room allowed ticket))

pub fetched_as : (d : Sizes) (o : ℕ) (s : State) (x : Submission) (rest : List Submission) (last : List ℕ) → IsSound d o s → s.failure ≡ None → s.queue ≡ x ∷ rest → s.entry_number % 2 ≡ 1 → s.entry_number + 1 < 2 * trees_of d →
    last ≡ fetch_of (fetch_at d (s.entry_number + 1) s.held_entry x) → IsSound d o (record s { entry_number = s.entry_number + 1; message = last })
fetched_as d o s x rest last h alive queue odd more l =
    subst (λ (ms : List ℕ). IsSound d o (record s { entry_number = s.entry_number + 1; message = ms })) (sym l) (sound_fetched d o s x rest h alive queue odd more)

pub finished_as : (d : Sizes) (o : ℕ) (s : State) (x : Submission) (rest queue : List Submission) (before last : List ℕ) → IsSound d o s → s.failure ≡ None → s.queue ≡ x ∷ rest → s.lost ≡ false → s.entry_number + 1 ≡ 2 * trees_of d →
    queue ≡ rest → before ≡ [] → last ≡ latest (first_messages d s rest) [] → IsSound d o (record s { queue = queue; entry_number = 0; held_entry = 0; held_data = before; message = last })
finished_as d o s x rest queue before last h alive is calm end q b l =
    subst (λ (ms : List ℕ). IsSound d o (record s { queue = queue; entry_number = 0; held_entry = 0; held_data = before; message = ms })) (sym l)
    (subst (λ (bs : List ℕ). IsSound d o (record s { queue = queue; entry_number = 0; held_entry = 0; held_data = bs; message = latest (first_messages d s rest) [] })) (sym b)
    (subst (λ (xs : List Submission). IsSound d o (record s { queue = xs; entry_number = 0; held_entry = 0; held_data = []; message = latest (first_messages d s rest) [] })) (sym q)
    (sound_finished d o s x rest h alive is calm end)))

pub stored_as : (d : Sizes) (o : ℕ) (s : State) (x : Submission) (rest : List Submission) (before records table : List ℕ) (nonce map_entry : ℕ) (kept last : List ℕ) → IsSound d o s → s.failure ≡ None → s.queue ≡ x ∷ rest → s.entry_number % 2 ≡ 0 → length before ≡ d.block_bytes →
    length records ≡ (depth_of d (entry_tree d s.entry_number) + 1) * record_len_of d o →
    next_map_entry d (entry_tree d s.entry_number) x before ≤ 2 ^ depth_of d (entry_tree d s.entry_number - 1) →
    (let d = d in
    let i = entry_tree d s.entry_number in
    table ≡ (if s.entry_number == 0 then slice_set s.table (block_of d i x) (new_leaf d i x + 1) else s.table) → nonce ≡ s.nonce + (depth_of d i + 1) → map_entry ≡ next_map_entry d i x before → kept ≡ kept_of i before → last ≡ store_body i (requested s.message).leaf records →
    IsSound d o (record s { table = table; nonce = nonce; entry_number = s.entry_number + 1; held_entry = map_entry; held_data = kept; message = last }))
stored_as d o s x rest before records table nonce map_entry kept last h alive queue even long whole fits t n m k l =
    let i : ℕ = entry_tree d s.entry_number in
    let remapped : List ℕ = if s.entry_number == 0 then slice_set s.table (block_of d i x) (new_leaf d i x + 1) else s.table in
    let body : List ℕ = store_body i (requested s.message).leaf records in
    let next : ℕ = next_map_entry d i x before in
    subst (λ (ts : List ℕ). IsSound d o (record s { table = ts; nonce = nonce; entry_number = s.entry_number + 1; held_entry = map_entry; held_data = kept; message = last })) (sym t)
    (subst (λ (z : ℕ). IsSound d o (record s { table = remapped; nonce = z; entry_number = s.entry_number + 1; held_entry = map_entry; held_data = kept; message = last })) (sym n)
    (subst (λ (z : ℕ). IsSound d o (record s { table = remapped; nonce = s.nonce + (depth_of d i + 1); entry_number = s.entry_number + 1; held_entry = z; held_data = kept; message = last })) (sym m)
    (subst (λ (bs : List ℕ). IsSound d o (record s { table = remapped; nonce = s.nonce + (depth_of d i + 1); entry_number = s.entry_number + 1; held_entry = next; held_data = bs; message = last })) (sym k)
    (subst (λ (ms : List ℕ). IsSound d o (record s { table = remapped; nonce = s.nonce + (depth_of d i + 1); entry_number = s.entry_number + 1; held_entry = next; held_data = kept_of i before; message = ms })) (sym l)
    (sound_stored d o s x rest before records h alive queue even long whole fits)))))

-- a command is at work, and its message is outstanding
pub record HasOldest (d : Sizes) (s : State) : Type 0 where
  pub oldest : Submission
  pub rest : List Submission
  pub queue : s.queue ≡ oldest ∷ rest
  pub healthy : s.failure ≡ None
  pub calm : s.lost ≡ false
  pub work : Outstanding d s oldest

oldest_by : (d : Sizes) (o : ℕ) (s : State) (failure : Option Reason) (queue : List Submission) (lost : Bool) → IsSound d o s → s.failure ≡ failure → s.queue ≡ queue → s.lost ≡ lost → status_by failure queue lost ≡ Waiting → HasOldest d s
oldest_by d o s (Some e) queue lost h f q l now = absurd (let no_way : Over ≡ Waiting = now in cc)
oldest_by d o s None [] lost h f q l now = absurd (let no_way : Idle ≡ Waiting = now in cc)
oldest_by d o s None (x ∷ rest) true h f q l now = absurd (let no_way : Stalling ≡ Waiting = now in cc)
oldest_by d o s None (x ∷ rest) false h f q l now = record { oldest = x; rest = rest; queue = q; healthy = f; calm = l; work = at_hand d o s x rest h f q }

pub has_oldest : (d : Sizes) (o : ℕ) (s : State) → IsSound d o s → status_in s ≡ Waiting → HasOldest d s
has_oldest d o s h now = oldest_by d o s s.failure s.queue s.lost h refl refl refl now

-- a core with a command hasn't failed
pub some_healthy : (d : Sizes) (o : ℕ) (s : State) → IsSound d o s → 0 < length s.queue → s.failure ≡ None
some_healthy d o s h some = elim s.failure as (λ f. IsWhole d o s f → f ≡ None) [
  | None ↦ λ w. refl
  | Some e ↦ λ w. absurd (let none : length s.queue ≡ 0 = ap (λ (t : State). length t.queue) w.1 in omega (arith, some, none))
] h.whole

-- bounds on the number of buckets sealed in the formatting and for one command
pub buckets_small : (d : Sizes) (n : ℕ) → buckets_below d n ≤ 25 * n
unfolding buckets_below
buckets_small d zero = omega arith
buckets_small d (suc n) = let deep : depth_of d n ≤ 24 = depth_small d n in omega (arith, buckets_small d n)

-- the next nonce is far below its limit
pub nonce_low : (d : Sizes) (o : ℕ) (s : State) → IsSound d o s → s.failure ≡ None → s.nonce < 2 ^ 62
nonce_low d o s h alive =
    let q = healthy_of d o s h alive in
    let few : trees_of d ≤ 14 = trees_of-few d h.ranges in
    let n : ℕ = s.next - length s.queue in
    let one : buckets_below d (trees_of d) ≤ 25 * 14 = omega (arith, buckets_small d (trees_of d), few) in
    let l : d.lifetime ≤ 2 ^ 40 = h.ranges.few_lifetime in
    let many : n * buckets_below d (trees_of d) ≤ 2 ^ 40 * (25 * 14) = mul-le-mul (let t = h.next in let low : n ≤ 2 ^ 40 = omega (arith, t, l) in low) one in
    let f : formatted d ≤ 14 * 2 ^ 25 = let small = formatted_small d (trees_of d) in omega (arith, small, few) in
    let is = q.nonce in
    omega (arith, is, many, f, one)

-- and the nonces of a STORE are below it
pub nonce_small : (d : Sizes) (o : ℕ) (s : State) → IsSound d o s → s.failure ≡ None → s.nonce + depth_of d (entry_tree d s.entry_number) < 2 ^ 64
nonce_small d o s h alive =
    let deep : depth_of d (entry_tree d s.entry_number) ≤ 24 = depth_small d (entry_tree d s.entry_number) in
    omega (arith, nonce_low d o s h alive, deep)

stage_by : (d : Sizes) (overhead : ℕ) (s : State) (queue : List Submission) → AtWork d overhead s queue → s.entry_number < 2 * trees_of d
stage_by d overhead s [] w = let some : 0 < trees_of d = some_trees d in omega (arith, w.entry_number, some)
stage_by d overhead s (x ∷ rest) w = w.entry_number

-- the outstanding entry is one of the command's entries
pub stage_within : (d : Sizes) (o : ℕ) (s : State) → IsSound d o s → s.entry_number < 2 * trees_of d
stage_within d o s h = elim s.failure as (λ f. IsWhole d o s f → s.entry_number < 2 * trees_of d) [
  | None ↦ λ w. stage_by d o s s.queue w.work
  | Some e ↦ λ w. let none : s.entry_number ≡ 0 = ap (λ (t : State). t.entry_number) w.1 in let some : 0 < trees_of d = some_trees d in omega (arith, none, some)
] h.whole

-- the tree at work is one of the device's
pub tree_within : (d : Sizes) (o : ℕ) (s : State) → IsSound d o s → entry_tree d s.entry_number < trees_of d
tree_within d o s h = let some : 0 < trees_of d = some_trees d in omega (arith, some)
