-- The core takes over the answer to a FETCH: the tree has changed by the access, and the path is stored.
use Rattle.std.proofs.Math.Path.{fun_ext}
use Rattle.std.proofs.Common.{◌≡◌, ℕ, ◌+◌, ◌-◌, ◌*◌, ◌^◌, ◌<◌, ◌≤◌, ◌==◌, ◌&&◌, not, nat_lt, Bool, true, false, if◌then◌else◌, List, [], ◌∷◌, length, slice_index_or, slice_set, None, refl, ap, sym, ◌∙◌, subst, arith}
use Rattle.std.proofs.lemmas.Bool.Decides.{nat_tests}
use Rattle.std.proofs.Math.Pow.{pow_mono}
use Rattle.oram_geometry.specs.Sizes.{depth_of, trees_of}
use Rattle.oram_trace.specs.declared.entries.Entry.{Entry}
use Rattle.oram_wire.specs.HostMessages.{store_body}
use Rattle.oram_hash.specs.Path.{Path, path_of, with_bytes}
use Rattle.oram_bucket.specs.Cell.{Cell}
use Rattle.oram_tree.specs.Content.{Map, entry_of, put}
use Rattle.oram_tree.specs.State.{State as Tree}
use Rattle.oram_tree.specs.Access.{IsRewritten, IsUpdate}
use Rattle.oram_semantics.specs.Content.{block_of, new_leaf, entry_tree}
use Rattle.oram_semantics.specs.Messages.{requested}
use Rattle.oram_semantics.specs.Moves.{PlacedIn, IsReadyFor, stores, records_after}
use Rattle.oram_semantics.specs.Blocks.{found_in, block_after, next_map_entry, put_in}
use Rattle.oram_semantics.specs.Scheme.{Scheme, record_len}
use Rattle.oram_semantics.specs.State.{State, World, AllStand, map_entry_now, no_tree}
use Rattle.oram_semantics.specs.Trees.{Stands, IsPlaced}
use Rattle.oram_semantics.specs.declared.events.Submission.{Submission}
use Rattle.oram_semantics.proofs.Others.{all_one}
use Rattle.oram_semantics.proofs.Bounds.{some_trees, depth_small}
use Rattle.oram_semantics.proofs.PlacedStores.{IsMade, store_stands, store_places, holds_stored, there_by_map_entry}
use Rattle.oram_core.specs.Core.{IsSound}
use Rattle.oram_core.proofs.Sound.{Outstanding, healthy_of}
use Rattle.oram_core.specs.PlainSteps.{stored_by, is_misled}
use Rattle.oram_core.proofs.Quiet.{Meets}
use Rattle.oram_core.proofs.Sound.{requested_store}

-- an access to the tree at work: the block as changed, and the tree and the records that it has made
pub record IsAccess (v : Scheme) (s : State) (w : World) (x : Submission) (path : Path) (tree : Tree) (found : Bool) (before records : List ℕ) : Type 0 where
  pub number : tree.number ≡ entry_tree v.device s.entry_number
  pub path_is : path ≡ path_of v.device (entry_tree v.device s.entry_number) (requested s.message).leaf v.cipher.overhead path.bytes
  pub long : length records ≡ (depth_of v.device (entry_tree v.device s.entry_number) + 1) * record_len v
  pub rewritten :
      let d = v.device in
      let i = entry_tree d s.entry_number in
      IsRewritten (record { device = d; tree = i; cipher = v.cipher; path = path; nonce = s.nonce }) (slice_index_or s.trees i no_tree).stash (with_bytes path records)
      (record { address = block_of d i x; leaf = new_leaf d i x; content = block_after d i x before }) tree.stash
  pub update :
      let d = v.device in
      let i = entry_tree d s.entry_number in
      IsUpdate (record {
        device = d;
        cipher = v.cipher;
        path = path;
        written = with_bytes path records;
        records = w.records i;
        content = w.content i;
        block = record { address = block_of d i x; leaf = new_leaf d i x; content = block_after d i x before };
        found = found;
        before = before;
        after = tree;
      })

both_ways : (b : Bool) → (not b && not (not b)) ≡ false
both_ways true = refl
both_ways false = refl

-- if the core is ready for the FETCH, the map doesn't lead astray
pub not_misled : (v : Scheme) (s : State) (w : World) (x : Submission) (path : Path) (tree : Tree) (found : Bool) (before records : List ℕ) →
    IsReadyFor v s w x → IsAccess v s w x path tree found before records → is_misled v s x found before ≡ false
not_misled v s w x path tree found before records ready a =
    let d = v.device in
    let i : ℕ = entry_tree d s.entry_number in
    let there : found ≡ not (map_entry_now v.device s x == 0) = a.update.reported ∙ there_by_map_entry (w.content i (block_of d i x)) (map_entry_now v.device s x) ready.held_entry in
    let fits : next_map_entry d i x before ≤ 2 ^ depth_of d (i - 1) = subst (λ (bytes : List ℕ). next_map_entry d i x bytes ≤ 2 ^ depth_of d (i - 1)) (sym a.update.data_reported) ready.next in
    let leaf : nat_lt (2 ^ depth_of d (i - 1)) (next_map_entry d i x before) ≡ false = grind (arith, nat_tests) in
    let none : (nat_lt 0 i && nat_lt (2 ^ depth_of d (i - 1)) (next_map_entry d i x before)) ≡ false = rw leaf (elim (nat_lt 0 i) as (λ b. (b && false) ≡ false) [ true ↦ refl | false ↦ refl ]) in
    rw (there, both_ways (map_entry_now v.device s x == 0)) none

-- The core takes over the access by the rule, if the access found what the tree's content has.
taken_over : (v : Scheme) (s : State) (w : World) (x : Submission) (path : Path) (tree : Tree) (found : Bool) (records : List ℕ) → IsSound v.device v.cipher.overhead s → s.failure ≡ None → Outstanding v.device s x → AllStand v s w →
    IsAccess v s w x path tree found (found_in v.device (w.content (entry_tree v.device s.entry_number) (block_of v.device (entry_tree v.device s.entry_number) x))) records →
    Meets v s w (stores v s w x) (stored_by v (record s { trees = slice_set s.trees (entry_tree v.device s.entry_number) tree }) x (found_in v.device (w.content (entry_tree v.device s.entry_number) (block_of v.device (entry_tree v.device s.entry_number) x))) records)
taken_over v s w x path tree found records sound alive work holds a =
    let i : ℕ = entry_tree v.device s.entry_number in
    let leaf : ℕ = (requested s.message).leaf in
    let b : ℕ = block_of v.device i x in
    let bytes : List ℕ = found_in v.device (w.content i b) in
    let c : Cell = record { address = b; leaf = new_leaf v.device i x; content = block_after v.device i x bytes } in
    let t : State = record s { trees = slice_set s.trees i tree } in
    let u : State = (stored_by v t x bytes records).state in
    let fits : leaf < 2 ^ depth_of v.device i = work.leaf in
    let deep : 2 ^ depth_of v.device i ≤ 2 ^ 24 = pow_mono (depth_small v.device i) in
    let small : leaf < 2 ^ 32 = omega arith in
    let made : IsMade v i leaf s.nonce (w.records i) (w.content i) c (slice_index_or s.trees i no_tree) tree path records =
    record { path_is = a.path_is; leaf_small = small; number = a.number; rewritten = a.rewritten; updated = a.update.updated } in
    let inside : i < length s.trees = let n : length s.trees ≡ trees_of v.device = (healthy_of v.device v.cipher.overhead s sound alive).count in let some : 0 < trees_of v.device = some_trees v.device in omega arith in
    let here : Stands v i tree (records_after v w.records (store_body i leaf records ∷ []) i) (put (w.content i) b (entry_of c)) = store_stands v w.records i leaf s.nonce (w.content i) c (slice_index_or s.trees i no_tree) tree path records made in
    let one : (i == i) ≡ true = grind (arith, nat_tests) in
    let same : put (w.content i) b (entry_of c) ≡ put_in w.content i b (entry_of c) i =
    fun_ext (λ k. sym (ap (λ (test : Bool). if test then put (w.content i) b (entry_of c) k else w.content i k) one)) in
    let placed_here : IsPlaced v i leaf s.nonce (records_after v w.records (store_body i leaf records ∷ []) i) (put_in w.content i b (entry_of c) i) =
    subst (λ (m : Map). IsPlaced v i leaf s.nonce (records_after v w.records (store_body i leaf records ∷ []) i) m) same
    (store_places v w.records i leaf s.nonce (w.content i) c (slice_index_or s.trees i no_tree) tree path records made) in
    let after : World = record { records = records_after v w.records (store_body i leaf records ∷ []); content = put_in w.content i b (entry_of c) } in
    record {
      note = refl;
      replies = refl;
      sends = (store_body i leaf records, refl, record { records = records; body = refl; length_is = a.long });
      state = refl;
      holds = λ ok. holds_stored v s u w i leaf records b (entry_of c) tree holds refl inside here;
      placed = λ new. all_one (PlacedIn v s.nonce after) (store_body i leaf records) (λ store.
          subst (λ (e : Entry). IsPlaced v e.tree e.leaf s.nonce (after.records e.tree) (after.content e.tree)) (sym (requested_store i leaf records small)) placed_here);
    }

pub stores_met : (v : Scheme) (s : State) (w : World) (x : Submission) (path : Path) (tree : Tree) (found : Bool) (before records : List ℕ) → IsSound v.device v.cipher.overhead s → s.failure ≡ None → Outstanding v.device s x → AllStand v s w →
    IsAccess v s w x path tree found before records →
    Meets v s w (stores v s w x) (stored_by v (record s { trees = slice_set s.trees (entry_tree v.device s.entry_number) tree }) x before records)
stores_met v s w x path tree found before records sound alive work holds a =
    let i : ℕ = entry_tree v.device s.entry_number in
    let e : before ≡ found_in v.device (w.content i (block_of v.device i x)) = a.update.data_reported in
    subst (λ (b : List ℕ). Meets v s w (stores v s w x) (stored_by v (record s { trees = slice_set s.trees i tree }) x b records)) (sym e)
    (taken_over v s w x path tree found records sound alive work holds (subst (λ (b : List ℕ). IsAccess v s w x path tree found b records) e a))
