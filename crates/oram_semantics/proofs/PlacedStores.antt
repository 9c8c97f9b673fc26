-- A STORE whose records an access has made: the tree stands in the new records, and its blocks are placed.
use Rattle.std.proofs.Math.Path.{fun_ext}
use Rattle.std.proofs.Common.{◌≡◌, ◌≢◌, ℕ, ◌+◌, ◌-◌, ◌*◌, ◌^◌, ◌<◌, ◌≤◌, ◌==◌, Bool, true, false, not, is_some, if◌then◌else◌, List, [], ◌∷◌, length, slice_index, slice_index_or, slice_set, Option, Some, None, ap, sym, ◌∙◌, subst, arith, inl, inr}
use Rattle.std.proofs.lemmas.List.{get_or-set_same, get_or-set_other}
use Rattle.std.proofs.lemmas.Bool.Decides.{nat_tests, eqb_tells}
use Rattle.oram_geometry.specs.declared.Sizes.{Sizes}
use Rattle.oram_geometry.specs.Sizes.{depth_of, leaf_of}
use Rattle.oram_wire.specs.HostMessages.{store_body}
use Rattle.oram_hash.specs.Path.{Path, path_of, with_bytes, record_at, node_at}
use Rattle.oram_hash.specs.Record.{sealed_part}
use Rattle.oram_hash.specs.Tree.{IsReplaced}
use Rattle.oram_bucket.specs.Cell.{Cell}
use Rattle.oram_bucket.specs.SealedBlocks.{Reads}
use Rattle.oram_stash.specs.Eviction.{IsGreedy, listed}
use Rattle.oram_tree.specs.Content.{Map, Entry as Held, HasContent, entry_of, put}
use Rattle.oram_tree.specs.State.{State as Tree, IsStoredWith}
use Rattle.oram_tree.specs.Access.{IsRewritten, IsAtOrAbsent}
use Rattle.oram_semantics.specs.Scheme.{Scheme}
use Rattle.oram_semantics.specs.Trees.{Stands, IsPlaced, part_on}
use Rattle.oram_semantics.specs.State.{State, World, AllStand, no_tree, map_entry_of}
use Rattle.oram_semantics.specs.Blocks.{put_in}
use Rattle.oram_semantics.specs.Moves.{leaf_for, records_after}
use Rattle.oram_semantics.specs.declared.events.Submission.{Submission}
use Rattle.oram_semantics.proofs.Replaced.{store_replaces, store_leaves}

-- An access to tree i, on the path of a leaf as the records have it, has made these bytes of a STORE of that path.
pub record IsMade (v : Scheme) (i leaf nonce : ℕ) (records : ℕ → List ℕ) (content : Map) (c : Cell) (before tree : Tree) (path : Path) (bytes : List ℕ) : Type 0 where
  pub path_is : path ≡ path_of v.device i leaf v.cipher.overhead path.bytes
  pub leaf_small : leaf < 2 ^ 32
  pub number : tree.number ≡ i
  pub rewritten :
      IsRewritten (record { device = v.device; tree = i; cipher = v.cipher; path = path; nonce = nonce }) before.stash (with_bytes path bytes) c tree.stash
  pub updated : (new : ℕ → List ℕ) → IsReplaced path (with_bytes path bytes) records new
      → IsStoredWith v.cipher.opening v.cipher.overhead v.device tree new (put content c.address (entry_of c))

module _ (v : Scheme) (records : ℕ → ℕ → List ℕ) (i leaf nonce : ℕ) (content : Map) (c : Cell) (before tree : Tree) (path : Path) (bytes : List ℕ) (made : IsMade v i leaf nonce (records i) content c before tree path bytes) where
  replaced : IsReplaced path (with_bytes path bytes) (records i) (records_after v records (store_body i leaf bytes ∷ []) i)
  replaced =
      subst (λ (p : Path). IsReplaced p (with_bytes p bytes) (records i) (records_after v records (store_body i leaf bytes ∷ []) i)) (sym made.path_is)
      (store_replaces v records i leaf path.bytes bytes made.leaf_small)

  stored :
      IsStoredWith v.cipher.opening v.cipher.overhead v.device tree (records_after v records (store_body i leaf bytes ∷ []) i) (put content c.address (entry_of c))
  stored = made.updated _ replaced

  deep : path.depth ≡ depth_of v.device i
  deep = ap (λ (p : Path). p.depth) made.path_is

  -- the sealed bucket at a level of the path
  part_is : (level : ℕ) → level ≤ depth_of v.device i
      → sealed_part (record_at (with_bytes path bytes) level) ≡ part_on v i leaf (records_after v records (store_body i leaf bytes ∷ []) i) level
  part_is level below =
      let within : level ≤ path.depth = omega (arith, deep) in
      ap sealed_part (sym (replaced.on_path level within))
      ∙ ap (λ (p : Path). sealed_part (records_after v records (store_body i leaf bytes ∷ []) i (node_at p level))) made.path_is

  -- The tree stands in the records after the STORE, with the accessed block changed,
  pub store_stands :
      Stands v i tree (records_after v records (store_body i leaf bytes ∷ []) i) (put content c.address (entry_of c))
  store_stands = record { number = made.number; stored = stored }

  -- and its blocks are placed.
  pub store_places :
      IsPlaced v i leaf nonce (records_after v records (store_body i leaf bytes ∷ []) i) (put content c.address (entry_of c))
  store_places =
      let records' : ℕ → List ℕ = records_after v records (store_body i leaf bytes ∷ []) i in
      let held : HasContent (Reads v.cipher.opening v.device tree.number) (depth_of v.device tree.number) records' tree.stash (put content c.address (entry_of c)) =
      stored.holds in
      record {
        lists = made.rewritten.lists;
        rest = tree.stash;
        holds = subst (λ (k : ℕ). HasContent (Reads v.cipher.opening v.device k) (depth_of v.device k) records' tree.stash (put content c.address (entry_of c))) made.number held;
        levels = made.rewritten.evicted.placement.levels ∙ ap (λ (k : ℕ). k + 1) deep;
        reads = λ level below. subst (λ (part : List ℕ). Reads v.cipher.opening v.device i part (listed made.rewritten.lists level)) (part_is level below) (made.rewritten.read_back level (omega (arith, deep)));
        sealed = λ level below. sym (part_is level below) ∙ made.rewritten.sealed level (omega (arith, deep));
        greedy = subst (λ (p : Path). IsGreedy p.depth v.device.slots p.leaf made.rewritten.lists tree.stash) made.path_is made.rewritten.evicted.greedy;
      }

-- each tree stands after the STORE of one of them
pub holds_stored : (v : Scheme) (s t : State) (w : World) (i leaf : ℕ) (bytes : List ℕ) (a : ℕ) (h : Held) (tree : Tree)
    → AllStand v s w → t.trees ≡ slice_set s.trees i tree → i < length s.trees
    → Stands v i tree (records_after v w.records (store_body i leaf bytes ∷ []) i) (put (w.content i) a h)
    → AllStand v t (record { records = records_after v w.records (store_body i leaf bytes ∷ []); content = put_in w.content i a h })
holds_stored v s t w i leaf bytes a h tree holds trees inside here k below = elim (eqb_tells k i) [
  | inl same ↦
      let one : (i == i) ≡ true = grind (arith, nat_tests) in
      let kept : slice_index_or t.trees i no_tree ≡ tree =
      ap (λ ts. slice_index_or ts i no_tree) trees ∙ get_or-set_same s.trees i tree no_tree inside in
      let content : put (w.content i) a h ≡ put_in w.content i a h i =
      fun_ext (λ b. sym (ap (λ (t : Bool). if t then put (w.content i) a h b else w.content i b) one)) in
      subst (λ (n : ℕ). Stands v n (slice_index_or t.trees n no_tree) (records_after v w.records (store_body i leaf bytes ∷ []) n) (put_in w.content i a h n)) (sym same.1)
      (subst (λ (m : Map). Stands v i (slice_index_or t.trees i no_tree) (records_after v w.records (store_body i leaf bytes ∷ []) i) m) content
      (subst (λ (u : Tree). Stands v i u (records_after v w.records (store_body i leaf bytes ∷ []) i) (put (w.content i) a h)) (sym kept) here))
  | inr other ↦
      let ne : k ≢ i = other.1 in
      let kept : slice_index_or t.trees k no_tree ≡ slice_index_or s.trees k no_tree =
      ap (λ ts. slice_index_or ts k no_tree) trees ∙ get_or-set_other s.trees i k tree no_tree ne in
      let content : w.content k ≡ put_in w.content i a h k =
      fun_ext (λ b. sym (ap (λ (t : Bool). if t then put (w.content k) a h b else w.content k b) other.0)) in
      subst (λ (m : Map). Stands v k (slice_index_or t.trees k no_tree) (records_after v w.records (store_body i leaf bytes ∷ []) k) m) content
      (subst (λ (r : ℕ → List ℕ). Stands v k (slice_index_or t.trees k no_tree) r (w.content k)) (sym (store_leaves v w.records i leaf k bytes ne))
      (subst (λ (u : Tree). Stands v k u (w.records k) (w.content k)) (sym kept) (holds k below)))
]

-- a block with this map entry is on the path that is fetched, or the tree doesn't have it
pub at_leaf : (d : Sizes) (i a map_entry : ℕ) (x : Submission) (content : Map) → map_entry_of (content a) ≡ map_entry
    → IsAtOrAbsent content a (leaf_for d i map_entry x)
at_leaf d i a map_entry x content e h found =
    let one : h.leaf + 1 ≡ map_entry = sym (ap map_entry_of found) ∙ e in
    let some : (map_entry == 0) ≡ false = grind (arith, nat_tests) in
    sym (ap (λ (b : Bool). if b then leaf_of d i (slice_index x.words (2 * i)) else map_entry - 1) some ∙ omega arith)

-- the tree has the block exactly if the map names it
pub there_by_map_entry : (o : Option Held) (map_entry : ℕ) → map_entry_of o ≡ map_entry → is_some o ≡ not (map_entry == 0)
there_by_map_entry None map_entry e = ap (λ k. not (k == 0)) e
there_by_map_entry (Some h) map_entry e = let some : (map_entry == 0) ≡ false = grind (arith, nat_tests) in sym (ap not some)
