-- A host that keeps the trees of a device receives a message of a run.
use Rattle.std.proofs.Math.Path.{fun_ext}
use Rattle.std.proofs.Common.{◌≡◌, ◌≢◌, ◌⊎◌, ℕ, ◌+◌, ◌-◌, ◌*◌, ◌^◌, ◌<◌, ◌≤◌, ◌==◌, ◌&&◌, not, Bool, true, false, if◌then◌else◌, cond, List, [], ◌∷◌, length, take, drop, slice_index, Option, Some, None, unwrap_or, refl, ap, sym, ◌∙◌, subst, arith, inl, inr, zero, suc}
use Rattle.std.specs.Prelude.{MatchOption}
use Rattle.std.specs.List.{find, range_with_len}
use Rattle.std.proofs.Math.Nat.{pow-le-pow_right}
use Rattle.std.proofs.lemmas.Nat.{pow-add}
use Rattle.std.proofs.lemmas.Bool.{cases_eq}
use Rattle.std.proofs.lemmas.Bool.Decides.{nat_tests}
use Rattle.oram_geometry.specs.Sizes.{trees_of, depth_of}
use Rattle.oram_geometry.specs.Path.{node_on}
use Rattle.oram_geometry.proofs.Nodes.{node_on-inner, node_on-leaf, on_or_off}
use Rattle.oram_trace.specs.declared.entries.Entry.{Entry}
use Rattle.oram_hash.specs.Path.{Path, path_of, record_at}
use Rattle.oram_hash.specs.Tree.{IsPathOf}
use Rattle.oram_wire.specs.HostMessages.{fetch_body, store_body, answer_body}
use Rattle.oram_wire.specs.declared.host_messages.HostRequest.TheVariants as request
use Rattle.oram_wire.specs.declared.host_messages.HostAnswer.{HostAnswer}
use Rattle.oram_wire.specs.declared.host_messages.HostAnswer.TheVariants.{Done, Payload, Refused}
use Rattle.oram_host.specs.declared.refusals.HostRefusal.{HostRefusal}
use Rattle.oram_host.specs.declared.refusals.HostRefusal.TheVariants.{NoShape, BadLeaf, BadNode, BadLength, ShapeTaken, Missing, BadOp, OutOfMemory}
use Rattle.oram_host.specs.Answers.{Answers, IsFetched, IsStored}
use Rattle.oram_host.specs.Host.{Host, Kept, record_of, tree_at}
use Rattle.oram_host.specs.Path.{IsPath, StoresPath, node_on as host_node, record_at as host_record}
use Rattle.oram_host.specs.Refusals.{Refuses, RefusesFetch, RefusesStore, code_of}
use Rattle.oram_tree.specs.Content.{node_count}
use Rattle.oram_semantics.specs.Scheme.{Scheme, record_len}
use Rattle.oram_semantics.specs.Messages.{IsMessage, written}
use Rattle.oram_semantics.specs.Moves.{records_after}
use Rattle.oram_semantics.specs.Answers.{outcome_of, pair_in, answered_path, is_payload, first_other, is_last_stored}
use Rattle.oram_semantics.specs.Answers.Outcome.{Good, NoRoom}
use Rattle.oram_semantics.proofs.Judged.{good_is, bytes_same}
use Rattle.oram_semantics.proofs.Outcomes.{no_room_is, stored_is}
use Rattle.oram_semantics.proofs.Replaced.{store_replaces, store_leaves}
use Rattle.oram_host.specs.Service.{Serves}
use Rattle.oram_host_laws.specs.Honest.{KeepsTree, KeepsAll}

-- the two forms of a node, and of a record on a path
pub node_same : (depth leaf level : ℕ) → host_node depth leaf level ≡ node_on depth leaf level
unfolding host_node node_on
node_same depth leaf level = refl

pub record_same : (p : Path) (level : ℕ) → host_record p.record_len p.bytes level ≡ record_at p level
unfolding record_at
record_same p level =
    let size : (level + 1) * p.record_len - level * p.record_len ≡ p.record_len = omega arith in
    ap (λ k. take k (drop (level * p.record_len) p.bytes)) size

-- a node of a path is one of the tree's
pub node_in : (depth leaf l : ℕ) → leaf < 2 ^ depth → l ≤ depth → node_on depth leaf l < node_count depth
node_in depth leaf l fits below = elim (cases_eq l depth) [
  | inl last ↦ omega (arith, (node_on-leaf depth leaf fits).1, ap (node_on depth leaf) last)
  | inr above ↦ omega (arith, node_on-inner depth leaf l fits (omega arith), pow-add 2 depth 1)
]

no_kept : Kept
no_kept = record { depth = 0; record_len = 0; records = [] }

pub kept_same : (o : Option Kept) (k l : Kept) → o ≡ Some k → o ≡ Some l → k ≡ l
kept_same o k l a b = ap (λ (x : Option Kept). unwrap_or x no_kept) (sym a ∙ b)

bytes_alike : (o : Option (List ℕ)) (k l : List ℕ) → o ≡ Some k → o ≡ Some l → k ≡ l
bytes_alike o k l a b = ap (λ (x : Option (List ℕ)). unwrap_or x []) (sym a ∙ b)

not_none : (o : Option (List ℕ)) (r : List ℕ) → o ≡ Some r → o ≢ None
not_none o r some none = absurd (let both : Some r ≡ None = sym some ∙ none in cc)

-- a host with a whole tree refuses only for lack of room

fetch_room : (kept : Kept) (leaf : ℕ) (why : HostRefusal) → leaf < 2 ^ kept.depth
    → ((l : ℕ) → l ≤ kept.depth → record_of kept (host_node kept.depth leaf l) ≢ None) → RefusesFetch kept leaf why
    → code_of why ≡ 8
fetch_room kept leaf NoShape small full r = absurd r
fetch_room kept leaf BadLeaf small full r = absurd (omega arith)
fetch_room kept leaf BadNode small full r = absurd r
fetch_room kept leaf BadLength small full r = absurd r
fetch_room kept leaf ShapeTaken small full r = absurd r
fetch_room kept leaf Missing small full r = absurd (full r.1 r.2 r.3)
fetch_room kept leaf BadOp small full r = absurd r
fetch_room kept leaf OutOfMemory small full r = refl

store_room : (kept : Kept) (leaf : ℕ) (records : List ℕ) (why : HostRefusal) → leaf < 2 ^ kept.depth
    → length records ≡ (kept.depth + 1) * kept.record_len → RefusesStore kept leaf records why → code_of why ≡ 8
store_room kept leaf records NoShape small long r = absurd r
store_room kept leaf records BadLeaf small long r = absurd (omega arith)
store_room kept leaf records BadNode small long r = absurd r
store_room kept leaf records BadLength small long r = absurd (r.1 long)
store_room kept leaf records ShapeTaken small long r = absurd r
store_room kept leaf records Missing small long r = absurd r
store_room kept leaf records BadOp small long r = absurd r
store_room kept leaf records OutOfMemory small long r = refl

module _ (v : Scheme) (i leaf : ℕ) (records : ℕ → List ℕ) (host : Host) (k : KeepsTree v i records host) (fits : leaf < 2 ^ depth_of v.device i) where
  leaf_fits : leaf < 2 ^ k.kept.depth
  leaf_fits = subst (λ (n : ℕ). leaf < 2 ^ n) (sym k.depth) fits

  -- the record at a level of the path
  pub on_level : (l : ℕ) → l ≤ k.kept.depth → record_of k.kept (host_node k.kept.depth leaf l) ≡ Some (records (node_on (depth_of v.device i) leaf l))
  on_level l below =
      ap (λ n. record_of k.kept (host_node n leaf l)) k.depth
      ∙ ap (record_of k.kept) (node_same (depth_of v.device i) leaf l)
      ∙ k.each (node_on (depth_of v.device i) leaf l) (node_in (depth_of v.device i) leaf l fits (omega (arith, k.depth)))

  pub fetch_refused : (why : HostRefusal) → Refuses host (request.Fetch i leaf) why → code_of why ≡ 8
  fetch_refused why r =
      fetch_room k.kept leaf why leaf_fits (λ l below. not_none _ _ (on_level l below))
      (subst (λ (o : Option Kept). MatchOption o (why ≡ NoShape) (λ kept. RefusesFetch kept leaf why)) k.there r)

  pub store_refused : (bytes : List ℕ) (why : HostRefusal) → length bytes ≡ (depth_of v.device i + 1) * record_len v
      → Refuses host (request.Store i leaf bytes) why → code_of why ≡ 8
  store_refused bytes why long r =
      store_room k.kept leaf bytes why leaf_fits
      (long ∙ sym (ap (λ n. (n + 1) * k.kept.record_len) k.depth ∙ ap (λ n. (depth_of v.device i + 1) * n) k.record_len))
      (subst (λ (o : Option Kept). MatchOption o (why ≡ NoShape) (λ kept. RefusesStore kept leaf bytes why)) k.there r)

  -- the records of a path that was fetched
  module _ (bytes : List ℕ) (after : Host) (f : IsFetched host i leaf bytes) where
    path : IsPath k.kept leaf bytes
    path = subst (λ (q : Kept). IsPath q leaf bytes) (kept_same (tree_at host i) f.kept k.kept f.shaped k.there) f.path

    pub fetched_whole : length bytes ≡ (depth_of v.device i + 1) * record_len v
    fetched_whole =
        path.whole ∙ ap (λ n. (n + 1) * k.kept.record_len) k.depth ∙ ap (λ n. (depth_of v.device i + 1) * n) k.record_len

    pub fetched_path : IsPathOf records (path_of v.device i leaf v.cipher.overhead bytes)
    fetched_path l below =
        let within : l ≤ k.kept.depth = omega (arith, k.depth, below) in
        sym (record_same (path_of v.device i leaf v.cipher.overhead bytes) l)
        ∙ ap (λ n. host_record n bytes l) (sym k.record_len)
        ∙ bytes_alike _ _ _ (path.each l within) (on_level l within)

-- the host after it has stored a path
stored_host : (v : Scheme) (records : ℕ → ℕ → List ℕ) (host after : Host) (i leaf : ℕ) (bytes : List ℕ)
    → i < trees_of v.device → leaf < 2 ^ depth_of v.device i → depth_of v.device i ≤ 24 → KeepsAll v records host
    → IsStored host i leaf bytes after → KeepsAll v (records_after v records (store_body i leaf bytes ∷ [])) after
stored_host v records host after i leaf bytes below fits few keeps is j inside = elim (cases_eq j i) [
  | inr other ↦
      let k : KeepsTree v j (records j) host = keeps j inside in
      subst (λ (r : ℕ → List ℕ). KeepsTree v j r after) (sym (store_leaves v records i leaf j bytes other))
      (record { kept = k.kept; there = is.keeps.others j other ∙ k.there; depth = k.depth; record_len = k.record_len; each = k.each })
  | inl same ↦
      subst (λ (n : ℕ). KeepsTree v n (records_after v records (store_body i leaf bytes ∷ []) n) after) (sym same) (
      let k : KeepsTree v i (records i) host = keeps i below in
      let now : ℕ → List ℕ = records_after v records (store_body i leaf bytes ∷ []) i in
      let one : StoresPath k.kept leaf bytes is.stored =
      subst (λ (q : Kept). StoresPath q leaf bytes is.stored) (kept_same (tree_at host i) is.kept k.kept is.shaped k.there) is.stores in
      let deep : is.stored.depth ≡ depth_of v.device i = one.depth ∙ k.depth in
      let long : is.stored.record_len ≡ record_len v = one.record_len ∙ k.record_len in
      let most : 2 ^ depth_of v.device i ≤ 2 ^ 24 = pow-le-pow_right {n = 2} (omega arith) {i = depth_of v.device i} {j = 24} few in
      let new = store_replaces v records i leaf [] bytes (omega arith) in
      record {
        kept = is.stored;
        there = is.keeps.here;
        depth = deep;
        record_len = long;
        each = λ n small. elim (on_or_off (depth_of v.device i) leaf n) [
          | inl on ↦
              subst (λ (m : ℕ). record_of is.stored m ≡ Some (now m)) (sym on.2) (
              sym (ap (λ m. record_of is.stored (host_node m leaf on.0)) deep ∙ ap (record_of is.stored) (node_same (depth_of v.device i) leaf on.0))
              ∙ one.path.each on.0 (omega (arith, deep, on.1))
              ∙ ap (λ m. Some (host_record m bytes on.0)) long
              ∙ ap (λ (r : List ℕ). Some r) (record_same (path_of v.device i leaf v.cipher.overhead bytes) on.0 ∙ sym (new.on_path on.0 on.1)))
          | inr off ↦
              one.others n (λ l within e. off l (omega (arith, k.depth)) (e ∙ ap (λ m. host_node m leaf l) k.depth ∙ node_same (depth_of v.device i) leaf l))
              ∙ k.each n small ∙ ap (λ (r : List ℕ). Some r) (sym (new.off_path n off))
        ];
      })
]

-- a FETCH changes no record
written_fetch : (v : Scheme) (j leaf i n : ℕ) → written v (fetch_body j leaf) i n ≡ None
unfolding written
written_fetch v j leaf i n =
    let none : Option (List ℕ) = None in
    elim (j == i) as (λ b. (if not b then none else none) ≡ none) [ true ↦ refl | false ↦ refl ]

pub fetch_leaves : (v : Scheme) (records : ℕ → ℕ → List ℕ) (j leaf : ℕ)
    → records_after v records (fetch_body j leaf ∷ []) ≡ records
fetch_leaves v records j leaf =
    fun_ext (λ i. fun_ext (λ n. ap (λ o. unwrap_or o (records i n)) (written_fetch v j leaf i n)))

-- an answer with the records that the host keeps

none_in : (p : ℕ → Bool) (a n : ℕ) → ((k : ℕ) → a ≤ k → k < a + n → p k ≡ false) → find p (range_with_len a n) ≡ None
none_in p a zero h = refl
none_in p a (suc n) h =
    ap (λ b. cond b (Some a) (find p (range_with_len (a + 1) n))) (h a (omega arith) (omega arith))
    ∙ none_in p (a + 1) n (λ k low high. h k (omega arith) (omega arith))

no_other : (records : ℕ → List ℕ) (p : Path) → IsPathOf records p → first_other records p ≡ None
unfolding first_other
no_other records p same =
    none_in (λ l. not (is_last_stored records p l)) 0 (p.depth + 1) (λ l low high. ap not (bytes_same _ _ (same l (omega arith))))

no_pair : (v : Scheme) (records : ℕ → ℕ → List ℕ) (e : Entry) (bytes : List ℕ)
    → IsPathOf (records e.tree) (answered_path v e bytes) → pair_in v records e bytes ≡ false
unfolding pair_in
no_pair v records e bytes same =
    rw (no_other (records e.tree) (answered_path v e bytes) same) (elim (is_payload v e bytes) as (λ b. (b && false) ≡ false) [ true ↦ refl | false ↦ refl ])

no_payload : (v : Scheme) (records : ℕ → ℕ → List ℕ) (e : Entry) (bytes : List ℕ) → is_payload v e bytes ≡ false
    → pair_in v records e bytes ≡ false
unfolding pair_in
no_payload v records e bytes none = rw none refl

payload_by : (v : Scheme) (e : Entry) (bytes : List ℕ) → e.fetch ≡ true
    → length bytes ≡ (depth_of v.device e.tree + 1) * record_len v → is_payload v e (128 ∷ bytes) ≡ true
payload_by v e bytes fetch whole =
    let long : (length (128 ∷ bytes) == 1 + (depth_of v.device e.tree + 1) * record_len v) ≡ true = grind (arith, nat_tests) in
    rw (fetch, long) refl

-- The host has received the message m of an entry: its answer is good, and it keeps what the messages so far have
-- left; or it had no room and has changed nothing.
pub record IsGood (v : Scheme) (records : ℕ → ℕ → List ℕ) (e : Entry) (answer : HostAnswer) (after : Host) : Type 0 where
  pub outcome : outcome_of v records e (answer_body answer) ≡ Good
  pub apart : pair_in v records e (answer_body answer) ≡ false
  pub keeps : KeepsAll v records after

pub record IsFull (host : Host) (answer : HostAnswer) (after : Host) : Type 0 where
  pub refused : answer ≡ Refused 8
  pub unchanged : after ≡ host

abbrev pub Handed : Scheme → (ℕ → ℕ → List ℕ) → Entry → List ℕ → Host → HostAnswer → Host → Type 0
Handed v records e m host answer after = IsGood v (records_after v records (m ∷ [])) e answer after ⊎ IsFull host answer after

pub full_outcome : (v : Scheme) (records : ℕ → ℕ → List ℕ) (e : Entry) (host after : Host) (answer : HostAnswer)
    → IsFull host answer after → outcome_of v records e (answer_body answer) ≡ NoRoom
full_outcome v records e host after answer is = no_room_is v records e (answer_body answer) (ap answer_body is.refused)

pub full_apart : (v : Scheme) (records : ℕ → ℕ → List ℕ) (e : Entry) (host after : Host) (answer : HostAnswer)
    → IsFull host answer after → pair_in v records e (answer_body answer) ≡ false
full_apart v records e host after answer is =
    ap (λ (a : HostAnswer). pair_in v records e (answer_body a)) is.refused
    ∙ (let bytes : List ℕ = 129 ∷ 8 ∷ [] in no_payload v records e bytes (elim e.fetch as (λ b. (b && false && (length bytes == 1 + (depth_of v.device e.tree + 1) * record_len v)) ≡ false) [ true ↦ refl | false ↦ refl ]))

handed_fetch : (v : Scheme) (records : ℕ → ℕ → List ℕ) (e : Entry) (host after : Host) (answer : HostAnswer) → e.fetch ≡ true
    → e.tree < trees_of v.device → e.leaf < 2 ^ depth_of v.device e.tree → KeepsAll v records host
    → Answers host (request.Fetch e.tree e.leaf) answer after → IsGood v records e answer after ⊎ IsFull host answer after
handed_fetch v records e host after Done fetch below fits keeps is = absurd is
handed_fetch v records e host after (Refused code) fetch below fits keeps is =
    inr (record { refused = ap Refused (is.1 ∙ fetch_refused v e.tree e.leaf (records e.tree) host (keeps e.tree below) fits is.0 is.2); unchanged = is.3 })
handed_fetch v records e host after (Payload bytes) fetch below fits keeps is =
    let k : KeepsTree v e.tree (records e.tree) host = keeps e.tree below in
    let path : IsPathOf (records e.tree) (answered_path v e (128 ∷ bytes)) = fetched_path v e.tree e.leaf (records e.tree) host k fits bytes after is.0 in
    inl (record {
      outcome = good_is v records e (128 ∷ bytes) (payload_by v e bytes fetch (fetched_whole v e.tree e.leaf (records e.tree) host k fits bytes after is.0)) path;
      apart = no_pair v records e (128 ∷ bytes) path;
      keeps = subst (KeepsAll v records) (sym is.1) keeps;
    })

handed_store : (v : Scheme) (records : ℕ → ℕ → List ℕ) (e : Entry) (bytes : List ℕ) (host after : Host) (answer : HostAnswer)
    → e.fetch ≡ false → depth_of v.device e.tree ≤ 24 → e.tree < trees_of v.device → e.leaf < 2 ^ depth_of v.device e.tree
    → length bytes ≡ (depth_of v.device e.tree + 1) * record_len v → KeepsAll v records host
    → Answers host (request.Store e.tree e.leaf bytes) answer after
    → Handed v records e (store_body e.tree e.leaf bytes) host answer after
handed_store v records e bytes host after (Payload other) store few below fits long keeps is = absurd is
handed_store v records e bytes host after (Refused code) store few below fits long keeps is =
    inr (record { refused = ap Refused (is.1 ∙ store_refused v e.tree e.leaf (records e.tree) host (keeps e.tree below) fits bytes is.0 long is.2); unchanged = is.3 })
handed_store v records e bytes host after Done store few below fits long keeps is =
    let now = records_after v records (store_body e.tree e.leaf bytes ∷ []) in
    let done : List ℕ = 128 ∷ [] in
    inl (record {
      outcome = stored_is v now e done store refl;
      apart = no_payload v now e done (ap (λ b. b && (slice_index done 0 == 128) && (length done == 1 + (depth_of v.device e.tree + 1) * record_len v)) store);
      keeps = stored_host v records host after e.tree e.leaf bytes below fits few keeps is;
    })

handed_by : (v : Scheme) (records : ℕ → ℕ → List ℕ) (e : Entry) (m : List ℕ) (host after : Host) (answer : HostAnswer) (b : Bool)
    → e.fetch ≡ b → depth_of v.device e.tree ≤ 24 → e.tree < trees_of v.device → e.leaf < 2 ^ depth_of v.device e.tree
    → KeepsAll v records host → IsMessage v e m → Serves host m answer after → Handed v records e m host answer after
handed_by v records e m host after answer true fetch few below fits keeps is serves =
    let most : 2 ^ depth_of v.device e.tree ≤ 2 ^ 24 = pow-le-pow_right {n = 2} (omega arith) {i = depth_of v.device e.tree} {j = 24} few in
    let body : m ≡ fetch_body e.tree e.leaf = is.body ∙ ap (λ (b : Bool). if b then fetch_body e.tree e.leaf else store_body e.tree e.leaf is.records) fetch in
    subst (λ (r : ℕ → ℕ → List ℕ). IsGood v r e answer after ⊎ IsFull host answer after)
    (sym (ap (λ x. records_after v records (x ∷ [])) body ∙ fetch_leaves v records e.tree e.leaf))
    (handed_fetch v records e host after answer fetch below fits keeps (serves.request (request.Fetch e.tree e.leaf) (omega arith) body))
handed_by v records e m host after answer false store few below fits keeps is serves =
    let most : 2 ^ depth_of v.device e.tree ≤ 2 ^ 24 = pow-le-pow_right {n = 2} (omega arith) {i = depth_of v.device e.tree} {j = 24} few in
    let body : m ≡ store_body e.tree e.leaf is.records = is.body ∙ ap (λ (b : Bool). if b then fetch_body e.tree e.leaf else store_body e.tree e.leaf is.records) store in
    let long : length is.records ≡ (depth_of v.device e.tree + 1) * record_len v =
    is.length_is ∙ ap (λ (b : Bool). if b then 0 else (depth_of v.device e.tree + 1) * record_len v) store in
    subst (λ (x : List ℕ). Handed v records e x host answer after) (sym body)
    (handed_store v records e is.records host after answer store few below fits long keeps (serves.request (request.Store e.tree e.leaf is.records) (omega arith) body))

pub handed : (v : Scheme) (records : ℕ → ℕ → List ℕ) (e : Entry) (m : List ℕ) (host after : Host) (answer : HostAnswer)
    → depth_of v.device e.tree ≤ 24 → e.tree < trees_of v.device → e.leaf < 2 ^ depth_of v.device e.tree
    → KeepsAll v records host → IsMessage v e m → Serves host m answer after → Handed v records e m host answer after
handed v records e m host after answer few below fits keeps is serves =
    handed_by v records e m host after answer e.fetch refl few below fits keeps is serves
