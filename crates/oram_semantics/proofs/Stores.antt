-- A good answer to a FETCH: the core and the trees afterwards.
use Rattle.std.proofs.Math.Path.{fun_ext}
use Rattle.std.proofs.Common.{◌≡◌, ◌≢◌, ℕ, zero, suc, ◌+◌, ◌-◌, ◌*◌, ◌/◌, ◌%◌, ◌^◌, ◌<◌, ◌≤◌, ◌==◌, Bool, true, false, if◌then◌else◌, List, ◌∷◌, length, slice_index, slice_set, Some, None, refl, ap, sym, ◌∙◌, subst, arith, inl, inr}
use Rattle.std.specs.List.{All}
use Rattle.std.proofs.lemmas.List.{get_or-set_same, get_or-set_other, length-set}
use Rattle.std.proofs.lemmas.List.Elements.{All-head}
use Rattle.std.proofs.lemmas.Bool.Decides.{nat_tests, eqb_tells}
use Rattle.oram_geometry.specs.declared.Sizes.{Sizes}
use Rattle.oram_geometry.specs.Sizes.{trees_of, leaf_of, blocks_in}
use Rattle.oram_trace.specs.declared.entries.Entry.{Entry}
use Rattle.oram_semantics.specs.Content.{entry_tree}
use Rattle.oram_semantics.specs.Events.{address_of, array_at}
use Rattle.oram_semantics.specs.Messages.{IsMessage, requested}
use Rattle.oram_semantics.specs.Progress.{Setting, Step, Progress, accepted, progress, sent}
use Rattle.oram_tree.specs.Content.{Map, Entry as Held}
use Rattle.oram_semantics.specs.Content.{block_of, new_leaf, map_entry_in, data_in, content_after, content_of}
use Rattle.oram_semantics.specs.State.{State}
use Rattle.oram_tree.specs.State.{State as Tree}
use Rattle.oram_semantics.proofs.Nonces.{nonce_at}
use Rattle.oram_semantics.specs.Blocks.{found_in, block_after, next_map_entry, kept_of, put_in}
use Rattle.oram_semantics.specs.Moves.{leaf_for, stores}
use Rattle.oram_semantics.specs.declared.events.Submission.{Submission}
use Rattle.oram_semantics.proofs.Bounds.{HasEntries}
use Rattle.oram_semantics.proofs.Maps.{data_zero, content_more, found_is, next_is, map_entry_here, map_entry_there, map_entry_range, leaf_small}
use Rattle.oram_semantics.specs.Law.{world_of}
use Rattle.oram_semantics.proofs.Bounds.{IsFit}
use Rattle.oram_semantics.proofs.Follows.{FitsTable, applied, applied_none, applied_yes, applied_no, applied_same, entry_for, Working, AtWork, Live, content_is}
use Rattle.oram_semantics.proofs.Counts.{requested_is}

-- arithmetic of stages

stage_back : (h r : ℕ) → r < 2 * h → r % 2 ≡ 0 → 2 * (h - 1 - (h - 1 - r / 2)) ≡ r
stage_back h r few even = omega arith

other_tree : (h r k : ℕ) → k < h → r < 2 * h → r % 2 ≡ 0 → k ≢ h - 1 - r / 2 → 2 * (h - 1 - k) ≢ r
other_tree h r k below few even ne e = ne (omega arith)

same_tree : (h r : ℕ) → r % 2 ≡ 0 → h - 1 - (r + 1) / 2 ≡ h - 1 - r / 2
same_tree h r even = omega arith

-- the command hasn't accessed the tree at work yet
pub content_before : (v : Setting) (past : List Step) (old rest : List Submission) (s : State) (x : Submission)
    → IsFit v.scheme.device → Live v past old s → s.queue ≡ x ∷ rest → s.entry_number < 2 * trees_of v.scheme.device
    → s.entry_number % 2 ≡ 0
    → content_of v past (entry_tree v.scheme.device s.entry_number) ≡ content_after v.scheme.device (entry_tree v.scheme.device s.entry_number) old
content_before v past old rest s x fit l qu few even =
    let d = v.scheme.device in
    let i : ℕ = entry_tree d s.entry_number in
    let late : s.entry_number ≤ 2 * (trees_of d - 1 - i) = omega (arith, stage_back (trees_of d) s.entry_number few even) in
    content_is v past old s i fit l
    ∙ ap (λ q. content_after d i (applied d old q s.entry_number i)) qu
    ∙ ap (content_after d i) (applied_no d old rest x s.entry_number i late)

-- what the access finds
pub bytes_are : (v : Setting) (past : List Step) (old rest : List Submission) (s : State) (x : Submission)
    → IsFit v.scheme.device → Live v past old s → s.queue ≡ x ∷ rest → s.entry_number < 2 * trees_of v.scheme.device
    → s.entry_number % 2 ≡ 0
    → found_in v.scheme.device (content_of v past (entry_tree v.scheme.device s.entry_number) (block_of v.scheme.device (entry_tree v.scheme.device s.entry_number) x))
    ≡ data_in v.scheme.device (entry_tree v.scheme.device s.entry_number) old (block_of v.scheme.device (entry_tree v.scheme.device s.entry_number) x)
bytes_are v past old rest s x fit l qu few even =
    let d = v.scheme.device in
    let i : ℕ = entry_tree d s.entry_number in
    ap (λ (f : Map). found_in d (f (block_of d i x))) (content_before v past old rest s x fit l qu few even)
    ∙ found_is d i old (block_of d i x) fit.words

put_same : (c : ℕ → Map) (i a : ℕ) (h : Held) (k b : ℕ) → k ≡ i → put_in c i a h k b ≡ (if b == a then Some h else c i b)
put_same c i a h k b e = let same : (i == i) ≡ true = grind (arith, nat_tests) in rw e (rw same refl)

put_other : (c : ℕ → Map) (i a : ℕ) (h : Held) (k b : ℕ) → k ≢ i → put_in c i a h k b ≡ c k b
put_other c i a h k b ne = let other : (k == i) ≡ false = grind (arith, nat_tests) in rw other refl

-- the content after the access is the defined one at the next stage
pub content_stored : (v : Setting) (past : List Step) (old rest : List Submission) (s : State) (x : Submission)
    → IsFit v.scheme.device → Live v past old s → s.queue ≡ x ∷ rest → s.entry_number < 2 * trees_of v.scheme.device
    → s.entry_number % 2 ≡ 0 → (k : ℕ) → k < trees_of v.scheme.device
    → (stores v.scheme s (world_of v past) x).content k ≡ content_after v.scheme.device k (applied v.scheme.device old (x ∷ rest) (s.entry_number + 1) k)
content_stored v past old rest s x fit l qu few even k below =
    let d = v.scheme.device in
    let i : ℕ = entry_tree d s.entry_number in
    let a : ℕ = block_of d i x in
    let h : Held = record { leaf = new_leaf d i x; content = block_after d i x (found_in d (content_of v past i a)) } in
    let was = content_before v past old rest s x fit l qu few even in
    fun_ext (λ b. elim (eqb_tells k i) [
      | inl t ↦
          let due : 2 * (trees_of d - 1 - k) < s.entry_number + 1 = omega (arith, stage_back (trees_of d) s.entry_number few even, t.1) in
          put_same (content_of v past) i a h k b t.1
          ∙ ap (λ (f : Map). if b == a then Some (record { leaf = new_leaf d i x; content = block_after d i x (found_in d (f a)) }) else f b) was
          ∙ sym (content_more d i old x b fit.words)
          ∙ ap (λ (n : ℕ). content_after d n (x ∷ old) b) (sym t.1)
          ∙ ap (λ xs. content_after d k xs b) (sym (applied_yes d old rest x (s.entry_number + 1) k due))
      | inr f ↦
          put_other (content_of v past) i a h k b f.1
          ∙ ap (λ (g : Map). g b) (content_is v past old s k fit l)
          ∙ ap (λ q. content_after d k (applied d old q s.entry_number k) b) qu
          ∙ ap (λ xs. content_after d k xs b) (sym (applied_same d old rest x s.entry_number k (other_tree (trees_of d) s.entry_number k below few even f.1)))
    ])

-- the leaf of an entry fits four bytes
pub leaf_fits : (d : Sizes) (old : List Submission) (x : Submission) (r : ℕ) → (entry_for d old x r).leaf < 2 ^ 32
leaf_fits d old x r =
    let i : ℕ = entry_tree d r in
    let map_entry : ℕ = map_entry_in d i old (block_of d i x) in
    let spare = leaf_small d i (slice_index x.words (2 * i)) in
    let range = map_entry_range d i old (block_of d i x) in
    elim (map_entry == 0) as (λ b. (if b then leaf_of d i (slice_index x.words (2 * i)) else map_entry - 1) < 2 ^ 32) [ true ↦ omega (arith, spare.0, spare.1) | false ↦ omega (arith, range, spare.1) ]

-- the STORE asks for the next entry
pub store_entry : (d : Sizes) (old : List Submission) (x : Submission) (r : ℕ) → r % 2 ≡ 0
    → record { fetch = false; tree = entry_tree d r; leaf = (entry_for d old x r).leaf } ≡ entry_for d old x (r + 1)
store_entry d old x r even =
    let odd : ((r + 1) % 2 == 0) ≡ false = grind (arith, nat_tests) in
    let tree : entry_tree d (r + 1) ≡ entry_tree d r = same_tree (trees_of d) r even in
    sym (ap (λ (n : ℕ). record { fetch = (r + 1) % 2 == 0; tree = n; leaf = leaf_for d n (map_entry_in d n old (block_of d n x)) x }) tree
    ∙ ap (λ (b : Bool). record { fetch = b; tree = entry_tree d r; leaf = (entry_for d old x r).leaf }) odd)

pub map_entry_next : (d : Sizes) (old : List Submission) (x : Submission) (i j : ℕ) (bytes : List ℕ) → HasEntries d → i ≡ j + 1
    → bytes ≡ data_in d i old (block_of d i x) → next_map_entry d i x bytes ≡ map_entry_in d j old (block_of d j x)
map_entry_next d old x zero j bytes h e b = absurd (omega arith)
map_entry_next d old x (suc i) j bytes h e b =
    let same : i ≡ j = omega arith in
    ap (next_map_entry d (suc i) x) b ∙ next_is d i old x h ∙ ap (λ (n : ℕ). map_entry_in d n old (block_of d n x)) same

pub kept_last : (d : Sizes) (old : List Submission) (x : Submission) (i : ℕ) (bytes : List ℕ) → i ≡ 0
    → bytes ≡ data_in d i old (block_of d i x) → kept_of i bytes ≡ array_at d old (address_of x.command)
kept_last d old x zero bytes e b = b ∙ data_zero d old x
kept_last d old x (suc i) bytes e b = absurd (omega arith)

-- the table after the access
table_stored : (v : Setting) (past : List Step) (old rest : List Submission) (s : State) (x : Submission) (entry_number : ℕ)
    → s.entry_number ≡ entry_number → IsFit v.scheme.device → Live v past old s → s.queue ≡ x ∷ rest → FitsTable v.scheme.device x → (a : ℕ)
    → a < blocks_in v.scheme.device (trees_of v.scheme.device - 1)
    → slice_index (if entry_number == 0 then slice_set s.table (block_of v.scheme.device (entry_tree v.scheme.device entry_number) x) (new_leaf v.scheme.device (entry_tree v.scheme.device entry_number) x + 1) else s.table) a
    ≡ map_entry_in v.scheme.device (trees_of v.scheme.device - 1) (applied v.scheme.device old (x ∷ rest) (entry_number + 1) (trees_of v.scheme.device - 1)) a
table_stored v past old rest s x zero e fit l qu ok a below =
    let d = v.scheme.device in
    let top : ℕ = trees_of d - 1 in
    let here : entry_tree d 0 ≡ top = omega arith in
    let due : 2 * (trees_of d - 1 - top) < 0 + 1 = omega arith in
    let was : slice_index s.table a ≡ map_entry_in d top old a =
    l.table a below ∙ ap (λ (r : ℕ). map_entry_in d top (applied d old s.queue r top) a) e
    ∙ ap (λ xs. map_entry_in d top xs a) (applied_none d old s.queue top) in
    ap (λ (i : ℕ). slice_index (slice_set s.table (block_of d i x) (new_leaf d i x + 1)) a) here
    ∙ elim (eqb_tells a (block_of d top x)) [
      | inl t ↦
          let inside : a < length s.table = omega (arith, l.sized) in
          ap (λ (k : ℕ). slice_index (slice_set s.table k (new_leaf d top x + 1)) a) (sym t.1)
          ∙ get_or-set_same s.table a (new_leaf d top x + 1) 0 inside
          ∙ sym (map_entry_here d top x old a t.1)
      | inr f ↦ get_or-set_other s.table (block_of d top x) a (new_leaf d top x + 1) 0 f.1 ∙ was ∙ sym (map_entry_there d top x old a f.1)
    ]
    ∙ ap (λ xs. map_entry_in d top xs a) (sym (applied_yes d old rest x (0 + 1) top due))
table_stored v past old rest s x (suc r) e fit l qu ok a below =
    let d = v.scheme.device in
    let top : ℕ = trees_of d - 1 in
    let ne : 2 * (trees_of d - 1 - top) ≢ suc r = omega arith in
    let later : (suc r == 0) ≡ false = grind (arith, nat_tests) in
    ap (λ (b : Bool). slice_index (if b then slice_set s.table (block_of d (entry_tree d (suc r)) x) (new_leaf d (entry_tree d (suc r)) x + 1) else s.table) a) later
    ∙ l.table a below
    ∙ ap (λ (k : ℕ). map_entry_in d top (applied d old s.queue k top) a) e
    ∙ ap (λ q. map_entry_in d top (applied d old q (suc r) top) a) qu
    ∙ ap (λ xs. map_entry_in d top xs a) (sym (applied_same d old rest x (suc r) top ne))

length_stored : (table : List ℕ) (entry_number a n : ℕ) → length (if entry_number == 0 then slice_set table a n else table) ≡ length table
length_stored table entry_number a n = elim (entry_number == 0) as (λ b. length (if b then slice_set table a n else table) ≡ length table) [ true ↦ length-set table a n | false ↦ refl ]

-- the state after the access, with the trees and the message that the access made
abbrev pub stored_state : Setting → List Step → State → Submission → List Tree → ℕ → List ℕ → State
stored_state v past s x ts n m = record (stores v.scheme s (world_of v past) x).state { trees = ts; nonce = n; message = m }

pub live_stored : (v : Setting) (past : List Step) (old rest : List Submission) (s : State) (x : Submission) (step : Step)
    (ts : List Tree) (n : ℕ) (m : List ℕ) → IsFit v.scheme.device → Live v past old s → s.queue ≡ x ∷ rest
    → Working v past old s x → s.entry_number % 2 ≡ 0 → s.lost ≡ false
    → progress v (step ∷ past) ≡ record { good = (progress v past).good + 1; lost = false; failure = None }
    → accepted (step ∷ past) ≡ accepted past → sent (step ∷ past) ≡ m ∷ sent past
    → IsMessage v.scheme (record { fetch = false; tree = entry_tree v.scheme.device s.entry_number; leaf = (requested s.message).leaf }) m
    → n ≡ nonce_at v ((progress v past).good + 1) → Live v (step ∷ past) old (stored_state v past s x ts n m)
live_stored v past old rest s x step ts n m fit l qu w even calm p a sent_is is nonce_is =
    let d = v.scheme.device in
    let i : ℕ = entry_tree d s.entry_number in
    let found : found_in d (content_of v past i (block_of d i x)) ≡ data_in d i old (block_of d i x) =
    bytes_are v past old rest s x fit l qu w.entry_number even in
    let few : s.entry_number < 2 * trees_of d = w.entry_number in
    let ok : FitsTable d x = All-head (FitsTable d) x rest (subst (All (FitsTable d)) qu l.allowed) in
    let leaf : (requested s.message).leaf ≡ (entry_for d old x s.entry_number).leaf = ap (λ (e : Entry). e.leaf) w.asks in
    let small : (requested s.message).leaf < 2 ^ 32 = subst (λ (k : ℕ). k < 2 ^ 32) (sym leaf) (leaf_fits d old x s.entry_number) in
    let t : State = stored_state v past s x ts n m in
    let work : Working v (step ∷ past) old t x = record {
      entry_number = omega arith;
      asks = requested_is v.scheme _ m small is ∙ ap (λ (k : ℕ). record { fetch = false; tree = i; leaf = k }) leaf
          ∙ store_entry d old x s.entry_number even;
      older = sent past;
      latest = sent_is;
      held_entry = λ some more.
          let down : i ≡ entry_tree d (s.entry_number + 1 + 1) + 1 = omega arith in
          map_entry_next d old x i (entry_tree d (s.entry_number + 1 + 1)) (found_in d (content_of v past i (block_of d i x))) fit.words down found;
      held_data = λ e. let bottom : i ≡ 0 = omega arith in kept_last d old x i (found_in d (content_of v past i (block_of d i x))) bottom found;
    } in
    record {
      alive = ap (λ (q : Progress). q.failure) p;
      lost = ap (λ (q : Progress). q.lost) p ∙ sym calm;
      good = ap (λ (q : Progress). q.good) p ∙ ap (λ k. k + 1) l.good ∙ omega arith;
      split = a ∙ l.split;
      words = l.words;
      allowed = l.allowed;
      tickets = l.tickets;
      next = l.next;
      nonce = nonce_is ∙ ap (nonce_at v) (sym (ap (λ (q : Progress). q.good) p));
      sized = length_stored s.table s.entry_number (block_of d i x) (new_leaf d i x + 1) ∙ l.sized;
      table = λ b below. table_stored v past old rest s x s.entry_number refl fit l qu ok b below ∙ ap (λ q. map_entry_in d (trees_of d - 1) (applied d old q (s.entry_number + 1) (trees_of d - 1)) b) (sym qu);
      work = subst (AtWork v (step ∷ past) old t) (sym qu) work;
    }
