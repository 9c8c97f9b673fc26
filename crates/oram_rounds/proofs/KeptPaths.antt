-- A host that keeps the trees of a device, and the paths of a FETCH and of STOREs laid over it.
use Rattle.std.proofs.Common.{◌≡◌, ◌⊎◌, ℕ, zero, suc, ◌+◌, ◌-◌, ◌*◌, ◌^◌, ◌<◌, ◌≤◌, ◌≢◌, arith, List, [], ◌∷◌, ◌++◌, length, take, drop, Option, Some, unwrap_or, refl, sym, ap, ◌∙◌, subst, inl, inr}
use Rattle.std.proofs.Math.Pow.{pow_mono}
use Rattle.std.specs.Int.{w32, to_be_bytes, from_be_bytes}
use Rattle.std.specs.Prelude.{IsSome, MatchOption}
use Rattle.std.specs.List.{flat_map, range_with_len}
use Rattle.std.proofs.lemmas.Bool.{cases_eq}
use Rattle.std.proofs.lemmas.List.{drop-drop, drop_at, length-drop, length-take-le, take_at}
use Rattle.std.proofs.Math.Nat.{mul-le-mul_right}
use Rattle.std.proofs.lemmas.Nat.{from_be_bytes-to_be_bytes_4}
use Rattle.oram_geometry.specs.Path.{IsOffPath, node_on}
use Rattle.oram_geometry.specs.Sizes.{depth_of}
use Rattle.oram_geometry.specs.declared.Sizes.{Sizes}
use Rattle.oram_hash.specs.Path.{path_of}
use Rattle.oram_wire.specs.HostMessages.{fetch_body, request_body, store_body}
use Rattle.oram_wire.specs.HostBodies.{HasNumbers, IsMisfit}
use Rattle.oram_wire.specs.declared.host_messages.HostAnswer.{HostAnswer}
use Rattle.oram_wire.specs.declared.host_messages.HostAnswer.TheVariants.{Refused}
use Rattle.oram_wire.specs.declared.host_messages.HostRequest.{HostRequest}
use Rattle.oram_wire.specs.declared.host_messages.HostRequest.TheVariants.{Fetch, Put, Shape, Store}
use Rattle.oram_host.specs.Answers.{Answers, IsFetched}
use Rattle.oram_host.specs.Host.{Host, Kept, record_of, tree_at}
use Rattle.oram_host.specs.Path.{IsPath, node_on as host_node, record_at as host_record}
use Rattle.oram_host.specs.Refusals.{Refuses, RefusesFetch}
use Rattle.oram_host.specs.Service.{Serves}
use Rattle.oram_host.specs.declared.refusals.HostRefusal.TheVariants.{NoShape, OutOfMemory}
use Rattle.oram_tree.specs.Content.{node_count}
use Rattle.oram_semantics.proofs.Judged.{length_chunks}
use Rattle.oram_semantics.proofs.Bounds.{depth_small}
use Rattle.oram_semantics.proofs.Replaced.{store_leaves, store_replaces}
use Rattle.oram_semantics.specs.Moves.{records_after}
use Rattle.oram_semantics.specs.Scheme.{Scheme, record_len}
use Rattle.oram_host_laws.specs.Honest.{KeepsTree}
use Rattle.oram_host_laws.proofs.Handed.{kept_same, node_in, node_same, on_level, record_same}
use Rattle.oram_link_laws.proofs.Overlay.{one_level}
use Rattle.oram_link_laws.proofs.Put.{first}
use Rattle.oram_rounds.specs.CatchUp.{left_by}
use Rattle.oram_rounds.specs.Overlay.{LaysAllOver, LaysOver}
use Rattle.oram_rounds.specs.PathMessages.{ArePathStores, IsPathStore}

pub leaf_fits : (d : Sizes) (i leaf : ℕ) → leaf < 2 ^ depth_of d i → leaf < 2 ^ 32
leaf_fits d i leaf fits =
    let small : depth_of d i ≤ 24 = depth_small d i in
    let grows : 2 ^ depth_of d i ≤ 2 ^ 32 = pow_mono {i = depth_of d i} {j = 32} (omega (arith, small)) in omega (arith, grows, fits)

pub leaf_small : (v : Scheme) (i leaf : ℕ) → leaf < 2 ^ depth_of v.device i → leaf < 2 ^ 32
leaf_small v i leaf fits = leaf_fits v.device i leaf fits

bytes_same : (k l : List ℕ) → Some k ≡ Some l → k ≡ l
bytes_same k l e = ap (λ (o : Option (List ℕ)). unwrap_or o k) e

-- of a tree that the host keeps
module _ (v : Scheme) (i leaf : ℕ) (records : ℕ → List ℕ) (host : Host) (k : KeepsTree v i records host) (fits : leaf < 2 ^ depth_of v.device i) where
  -- a fetched path has these records
  pub fetched_levels : (bytes : List ℕ) → IsFetched host i leaf bytes → (l : ℕ) → l ≤ depth_of v.device i
      → host_record (record_len v) bytes l ≡ records (node_on (depth_of v.device i) leaf l)
  fetched_levels bytes f l below =
      let path : IsPath k.kept leaf bytes = subst (λ (q : Kept). IsPath q leaf bytes) (kept_same (tree_at host i) f.kept k.kept f.shaped k.there) f.path in
      ap (λ n. host_record n bytes l) (sym k.record_len)
      ∙ bytes_same _ _ (sym (path.each l (omega (arith, k.depth, below))) ∙ on_level v i leaf records host k fits l (omega (arith, k.depth, below)))

  -- bytes with these records are the path
  pub fetched_so : (bytes : List ℕ) → length bytes ≡ (depth_of v.device i + 1) * record_len v
      → ((l : ℕ) → l ≤ depth_of v.device i → host_record (record_len v) bytes l ≡ records (node_on (depth_of v.device i) leaf l))
      → IsFetched host i leaf bytes
  fetched_so bytes whole each =
      let P : ℕ → Type 0 = λ n. leaf < 2 ^ n in
      record {
        kept = k.kept;
        shaped = k.there;
        leaf_in = subst P (sym k.depth) fits;
        path = record {
          whole = whole ∙ sym (ap (λ n. (n + 1) * k.kept.record_len) k.depth ∙ ap (λ n. (depth_of v.device i + 1) * n) k.record_len);
          each = λ l low.
              let below : l ≤ depth_of v.device i = omega (arith, k.depth, low) in
              on_level v i leaf records host k fits l low ∙ ap (λ (x : List ℕ). Some x) (sym (each l below) ∙ ap (λ n. host_record n bytes l) (sym k.record_len));
        };
      }

-- the host that keeps a path gives it

only_fetch : (host after : Host) (tree leaf : ℕ) (answer : HostAnswer) → leaf < 2 ^ 32 → Answers host (Fetch tree leaf) answer after
    → (message : HostRequest) → HasNumbers message → fetch_body tree leaf ≡ request_body message → Answers host message answer after
only_fetch host after tree leaf answer fits is (Store t l r) numbers e = absurd (let two : 1 ≡ 2 = ap first e in omega arith)
only_fetch host after tree leaf answer fits is (Put t n b) numbers e = absurd (let two : 1 ≡ 3 = ap first e in omega arith)
only_fetch host after tree leaf answer fits is (Shape t d l) numbers e = absurd (let two : 1 ≡ 4 = ap first e in omega arith)
only_fetch host after tree leaf answer fits is (Fetch t l) numbers e =
    let same_tree : tree ≡ t = ap (λ (b : List ℕ). first (drop 1 b)) e in
    let number : to_be_bytes w32 leaf ≡ to_be_bytes w32 l = ap (λ (b : List ℕ). drop 2 b) e in
    let same_leaf : leaf ≡ l = sym (from_be_bytes-to_be_bytes_4 leaf fits) ∙ ap (from_be_bytes w32) number ∙ from_be_bytes-to_be_bytes_4 l numbers in
    subst (λ (x : ℕ). Answers host (Fetch x l) answer after) same_tree (subst (λ (x : ℕ). Answers host (Fetch tree x) answer after) same_leaf is)

no_misfit : (tree leaf : ℕ) → IsMisfit (fetch_body tree leaf) → ⊥
no_misfit tree leaf misfit = let e = misfit.1 in cc

pub serves_fetch : (host after : Host) (tree leaf : ℕ) (answer : HostAnswer) → leaf < 2 ^ 32 → Answers host (Fetch tree leaf) answer after
    → Serves host (fetch_body tree leaf) answer after
serves_fetch host after tree leaf answer fits is = record {
  request = only_fetch host after tree leaf answer fits is;
  op = λ e. absurd cc;
  misfit = λ m. absurd (no_misfit tree leaf m);
}

-- a host without room may say so
pub refuses_fetch : (v : Scheme) (i leaf : ℕ) (records : ℕ → List ℕ) (host : Host) (k : KeepsTree v i records host) → leaf < 2 ^ depth_of v.device i
    → Answers host (Fetch i leaf) (Refused 8) host
refuses_fetch v i leaf records host k fits =
    let P : ℕ → Type 0 = λ n. leaf < 2 ^ n in
    let some : (l : ℕ) → l ≤ k.kept.depth → IsSome (record_of k.kept (host_node k.kept.depth leaf l)) =
    λ l low. rw (on_level v i leaf records host k fits l low) refl in
    let refuses : Refuses host (Fetch i leaf) OutOfMemory =
    subst (λ (o : Option Kept). MatchOption o (OutOfMemory ≡ NoShape) (λ kept. RefusesFetch kept leaf OutOfMemory)) (sym k.there) (subst P (sym k.depth) fits, some) in
    (OutOfMemory, refl, refuses, refl)

-- a tree whose records have their length has the path of each leaf

level_of : (size : ℕ) (f : ℕ → List ℕ) (a n j : ℕ) → j < n → ((b : ℕ) → a ≤ b → b < a + n → length (f b) ≡ size)
    → take size (drop (j * size) (flat_map f (range_with_len a n))) ≡ f (a + j)
level_of size f a zero j below h = absurd (omega arith)
level_of size f a (suc n) zero below h =
    let none : 0 * size ≡ 0 = omega arith in
    let here : a + 0 ≡ a = omega arith in
    ap (λ k. take size (drop k (f a ++ flat_map f (range_with_len (a + 1) n)))) none
    ∙ take_at (f a) (flat_map f (range_with_len (a + 1) n)) size (h a (omega arith) (omega arith)) ∙ ap f (sym here)
level_of size f a (suc n) (suc j) below h =
    let more : suc j * size ≡ size + j * size = omega arith in
    let next : a + 1 + j ≡ a + suc j = omega arith in
    ap (λ k. take size (drop k (f a ++ flat_map f (range_with_len (a + 1) n)))) more
    ∙ ap (take size) (sym (drop-drop (j * size) size (f a ++ flat_map f (range_with_len (a + 1) n))))
    ∙ ap (λ xs. take size (drop (j * size) xs)) (drop_at (f a) (flat_map f (range_with_len (a + 1) n)) size (h a (omega arith) (omega arith)))
    ∙ level_of size f (a + 1) n j (omega arith) (λ b low high. h b (omega arith) (omega arith)) ∙ ap f next

pub has_levels : (v : Scheme) (i leaf : ℕ) (records : ℕ → List ℕ) (host : Host) (k : KeepsTree v i records host) → leaf < 2 ^ depth_of v.device i
    → ((l : ℕ) → l ≤ depth_of v.device i → length (records (node_on (depth_of v.device i) leaf l)) ≡ record_len v) → (bytes : List ℕ) × IsFetched host i leaf bytes
has_levels v i leaf records host k fits long =
    let deep : ℕ = depth_of v.device i in
    let size : ℕ = record_len v in
    let f : ℕ → List ℕ = λ l. records (node_on deep leaf l) in
    let each : (b : ℕ) → 0 ≤ b → b < 0 + (deep + 1) → length (f b) ≡ size =
    λ b low high. long b (omega (arith, high)) in
    let bytes : List ℕ = flat_map f (range_with_len 0 (deep + 1)) in (
      bytes,
      fetched_so v i leaf records host k fits bytes (length_chunks size f 0 (deep + 1) each) (λ l low.
          let part : (l + 1) * size - l * size ≡ size = omega arith in
          let none : 0 + l ≡ l = omega arith in
          ap (λ n. take n (drop (l * size) bytes)) part ∙ level_of size f 0 (deep + 1) l (omega (arith, low)) each ∙ ap f none),
    )

pub has_path : (v : Scheme) (i leaf : ℕ) (records : ℕ → List ℕ) (host : Host) (k : KeepsTree v i records host) → leaf < 2 ^ depth_of v.device i
    → ((n : ℕ) → n < node_count (depth_of v.device i) → length (records n) ≡ record_len v) → (bytes : List ℕ) × IsFetched host i leaf bytes
has_path v i leaf records host k fits long =
    has_levels v i leaf records host k fits
    (λ l low. long (node_on (depth_of v.device i) leaf l) (node_in (depth_of v.device i) leaf l fits low))

-- the records of STOREs, laid over a path

module _ (v : Scheme) (tree leaf : ℕ) (leaf_in : leaf < 2 ^ depth_of v.device tree) where
  abbrev node : ℕ → ℕ
  node l = node_on (depth_of v.device tree) leaf l

  abbrev at : List ℕ → ℕ → List ℕ
  at bytes l = host_record (record_len v) bytes l

  -- the record at a level is what the STOREs leave there, or else as it was
  abbrev pub IsLeft : (ℕ → ℕ → List ℕ) → (ℕ → ℕ → List ℕ) → List ℕ → List ℕ → ℕ → Type 0
  IsLeft r q bytes new l = (at new l ≡ q tree (node l)) ⊎ ((at new l ≡ at bytes l) × (q tree (node l) ≡ r tree (node l)))

  -- A STORE leaves its own record of a level, if it stores at that level's node. Otherwise it leaves what was there.
  one_left : (r : ℕ → ℕ → List ℕ) (body : List ℕ) (s : IsPathStore v.device (record_len v) body) (l : ℕ) → l ≤ depth_of v.device tree
      → ((s.tree ≡ tree) × (host_node (depth_of v.device tree) leaf l ≡ host_node (depth_of v.device tree) s.leaf l)
      × (at s.records l ≡ records_after v r (body ∷ []) tree (node l)))
      ⊎ ((s.tree ≡ tree → host_node (depth_of v.device tree) leaf l ≢ host_node (depth_of v.device tree) s.leaf l)
      × (records_after v r (body ∷ []) tree (node l) ≡ r tree (node l)))
  one_left r body s l low =
      let is : records_after v r (body ∷ []) ≡ records_after v r (store_body s.tree s.leaf s.records ∷ []) =
      ap (λ (b : List ℕ). records_after v r (b ∷ [])) s.named in
      elim (cases_eq s.tree tree) [
        | inr other ↦ inr (
          (λ e. absurd (other e)),
          ap (λ (f : ℕ → ℕ → List ℕ). f tree (node l)) is
              ∙ ap (λ (f : ℕ → List ℕ). f (node l)) (store_leaves v r s.tree s.leaf tree s.records (λ e. other (sym e))),
        )
        | inl there ↦
            let P : ℕ → Type 0 = λ i. s.leaf < 2 ^ depth_of v.device i in
            let leaf_there : s.leaf < 2 ^ depth_of v.device tree = subst P there s.leaf_in in
            let Q : ℕ → Type 0 = λ i. records_after v r (body ∷ []) ≡ records_after v r (store_body i s.leaf s.records ∷ []) in
            let here : records_after v r (body ∷ []) ≡ records_after v r (store_body tree s.leaf s.records ∷ []) = subst Q there is in
            let new_there = store_replaces v r tree s.leaf [] s.records (leaf_small v tree s.leaf leaf_there) in
            elim (cases_eq (host_node (depth_of v.device tree) leaf l) (host_node (depth_of v.device tree) s.leaf l)) [
              | inl shared ↦
                  let same : node l ≡ node_on (depth_of v.device tree) s.leaf l =
                  sym (node_same (depth_of v.device tree) leaf l) ∙ shared ∙ node_same (depth_of v.device tree) s.leaf l in
                  inl (
                    there,
                    shared,
                    record_same (path_of v.device tree s.leaf v.cipher.overhead s.records) l
                        ∙ sym (new_there.on_path l low)
                        ∙ ap (λ (n : ℕ). records_after v r (store_body tree s.leaf s.records ∷ []) tree n) (sym same)
                        ∙ sym (ap (λ (f : ℕ → ℕ → List ℕ). f tree (node l)) here),
                  )
              | inr apart ↦
                  let off : IsOffPath (depth_of v.device tree) s.leaf (node l) = λ j within e.
                  let nodes : host_node (depth_of v.device tree) leaf l ≡ host_node (depth_of v.device tree) s.leaf j =
                  node_same (depth_of v.device tree) leaf l ∙ e ∙ sym (node_same (depth_of v.device tree) s.leaf j) in
                  let level : l ≡ j = one_level (depth_of v.device tree) leaf s.leaf l j leaf_in leaf_there low within nodes in
                  apart (nodes ∙ ap (host_node (depth_of v.device tree) s.leaf) (sym level)) in
                  inr ((λ e. apart), ap (λ (f : ℕ → ℕ → List ℕ). f tree (node l)) here ∙ new_there.off_path (node l) off)
            ]
      ]

  one_over : (r : ℕ → ℕ → List ℕ) (body bytes new : List ℕ) → LaysOver v.device (record_len v) tree leaf body bytes new → (l : ℕ) → l ≤ depth_of v.device tree
      → IsLeft r (records_after v r (body ∷ [])) bytes new l
  one_over r body bytes new lays l low =
      let left = one_left r body lays.0 l low in
      elim lays.1 [
        | inr other ↦ elim left [
          | inl here ↦ absurd (other.0 here.0)
          | inr off ↦ inr (ap (λ (b : List ℕ). at b l) other.1, off.1)
        ]
        | inl over ↦ elim left [
          | inl here ↦ inl (over.1.shared l low here.1 ∙ here.2)
          | inr off ↦ inr (over.1.others l low (off.0 over.0), off.1)
        ]
      ]

  pub all_over : (stores : List (List ℕ)) (r : ℕ → ℕ → List ℕ) (bytes new : List ℕ) → LaysAllOver v.device (record_len v) tree leaf stores bytes new
      → (l : ℕ) → l ≤ depth_of v.device tree → IsLeft r (left_by v r stores) bytes new l
  all_over [] r bytes new lays l low = inr (ap (λ (b : List ℕ). at b l) (sym lays), refl)
  all_over (body ∷ stores) r bytes new lays l low = elim (all_over stores (records_after v r (body ∷ [])) lays.0 new lays.2 l low) [
    | inl left ↦ inl left
    | inr as_mid ↦ elim (one_over r body bytes lays.0 lays.1 l low) [
      | inl left ↦ inl (as_mid.0 ∙ left ∙ sym as_mid.1)
      | inr as_was ↦ inr (as_mid.0 ∙ as_was.0, as_mid.1 ∙ as_was.1)
    ]
  ]

  pub whole_over : (stores : List (List ℕ)) (bytes new : List ℕ) → LaysAllOver v.device (record_len v) tree leaf stores bytes new
      → length bytes ≡ (depth_of v.device tree + 1) * record_len v → length new ≡ (depth_of v.device tree + 1) * record_len v
  whole_over [] bytes new lays whole = ap length (sym lays) ∙ whole
  whole_over (body ∷ stores) bytes new lays whole =
      whole_over stores lays.0 new lays.2 (elim lays.1.1 [ inl over ↦ over.1.whole | inr other ↦ ap length other.1 ∙ whole ])

  -- a record of such bytes has its length

  pub record_long : (bytes : List ℕ) → length bytes ≡ (depth_of v.device tree + 1) * record_len v → (l : ℕ) → l ≤ depth_of v.device tree → length (at bytes l) ≡ record_len v
  record_long bytes whole l low =
      let len : ℕ = record_len v in
      let part : (l + 1) * len - l * len ≡ len = omega arith in
      let more : (l + 1) * len ≡ l * len + len = omega arith in
      let most : (l + 1) * len ≤ (depth_of v.device tree + 1) * len = mul-le-mul_right len (omega (arith, low)) in
      ap (λ (k : ℕ). length (take k (drop (l * len) bytes))) part
      ∙ length-take-le len (drop (l * len) bytes) (omega (arith, length-drop (l * len) bytes, most, more, whole))

  -- and so has what STOREs leave

  one_long : (r : ℕ → ℕ → List ℕ) (body : List ℕ) → IsPathStore v.device (record_len v) body → (l : ℕ) → l ≤ depth_of v.device tree → length (r tree (node l)) ≡ record_len v
      → length (records_after v r (body ∷ []) tree (node l)) ≡ record_len v
  one_long r body s l low long = elim (one_left r body s l low) [
    | inl here ↦
        let whole : length s.records ≡ (depth_of v.device tree + 1) * record_len v = s.whole ∙ ap (λ (t : ℕ). (depth_of v.device t + 1) * record_len v) here.0 in
        ap length (sym here.2) ∙ record_long s.records whole l low
    | inr off ↦ ap length off.1 ∙ long
  ]

  pub all_long : (stores : List (List ℕ)) (r : ℕ → ℕ → List ℕ) → ArePathStores v.device (record_len v) stores → (l : ℕ) → l ≤ depth_of v.device tree
      → length (r tree (node l)) ≡ record_len v → length (left_by v r stores tree (node l)) ≡ record_len v
  all_long [] r paths l low long = long
  all_long (body ∷ stores) r paths l low long = all_long stores (records_after v r (body ∷ [])) paths.1 l low (one_long r body paths.0 l low long)
