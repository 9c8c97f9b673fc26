-- What a reading of a core's trees says.
use Rattle.std.proofs.Common.{◌≡◌, ◌⊎◌, ℕ, zero, suc, ◌+◌, ◌<◌, ◌≤◌, inl, inr, arith, ap, sym, ◌∙◌, refl, subst, List, [], ◌∷◌, ◌++◌, length, map, get_or, take, drop, None, Some, replicate, zero-add}
use Rattle.std.specs.List.{All, FoldsTo, range_with_len}
use Rattle.std.proofs.lemmas.List.{append-nil, drop_at, get_or-map, length-map, map-append, take_at}
use Rattle.std.proofs.lemmas.List.Elements.{All-head, All-tail}
use Rattle.oram_geometry.specs.Sizes.{IsDevice, depth_of}
use Rattle.oram_hash.specs.Tree.{IsStored}
use Rattle.oram_bucket.specs.Cell.{Cell}
use Rattle.oram_bucket.specs.SealedBlocks.{Reads}
use Rattle.oram_link_laws.specs.Runs.{Exchange}
use Rattle.oram_rounds.specs.Batches.{BatchOutcome}
use Rattle.oram_scan.specs.Laws.{AreGiven, HasCollision, Row}
use Rattle.oram_scan.specs.Scan.{begun, node_count}
use Rattle.oram_scan.proofs.Findings.{given_are_sound, sound_are_the_trees}
use Rattle.oram_rounds.specs.Service.{after_all}
use Rattle.oram_semantics.specs.ArrayReplies.{array_in}
use Rattle.oram_semantics.specs.Law.{IsServing}
use Rattle.oram_semantics.specs.Scheme.{Scheme, record_len}
use Rattle.oram_semantics.specs.State.{State, World, no_tree}
use Rattle.oram_semantics.proofs.Bounds.{some_trees}
use Rattle.oram_tree.specs.Content.{HasContent}
use Rattle.oram_tree.specs.Parts.{Parts, parts_of}
use Rattle.oram_tree.specs.State.{State as Tree}
use Rattle.oram_export.specs.Export.{IsExport, all_writes, to_read, tree_in}
use Rattle.oram_export.specs.Findings.{IsLevelWhole}
use Rattle.oram_export.specs.Images.{AreBlocksOf, BlockWrite, IsBackup, PutsBlocks, waiting_writes, write_of}
use Rattle.oram_export.specs.Laws.{ReadingsAreRight}
use Rattle.oram_export.specs.Stages.{HasLength, record_in}
use Rattle.oram_records.specs.Messages.{rows_text}
use Rattle.oram_export.specs.Reading.{AreRead, HasAsked, HasAskedTrees, IsRead, MayAskNext, asked_in, asked_of, sound_in}
use Rattle.oram_export.specs.declared.findings.LevelFindings.{LevelFindings}
use Rattle.oram_export.specs.declared.tree_reading.TreeToRead.{TreeToRead}
use Rattle.oram_export.proofs.Imaging.{images_are_right, node_after, none_lost_whole, sound_none_lost}
use Rattle.oram_export.proofs.Staging.{folds-append}
use Rattle.oram_export.proofs.Backups.{backed_up}

-- one more tree
pub one_tree_more : {B : Type 0} (batches : B → List (List ℕ) → BatchOutcome → List Exchange → B → Type 0) (trees : ℕ → TreeToRead) (i j : ℕ) (l m n : B) (found : List (List LevelFindings))
    (levels : List LevelFindings) (rows : List Row) → i + length found ≡ j → AreRead batches trees i l found m → IsRead batches (trees j) m rows levels n → AreRead batches trees i l (found ++ levels ∷ []) n
one_tree_more batches trees i j l m n [] levels rows at are read =
    (n, (rows, subst (λ k. IsRead batches (trees k) l rows levels n) (sym at ∙ omega arith) (subst (λ k. IsRead batches (trees j) k rows levels n) are read)), refl)
one_tree_more batches trees i j l m n (first ∷ found) levels rows at (k, one, rest) read = (k, one, one_tree_more batches trees (i + 1) j k m n found levels rows (omega (arith, at)) rest read)

-- the parts of a core's tree
pub part_at : (trees : List Tree) (parts : List Parts) (i : ℕ) (p : Parts) → parts ≡ map parts_of trees → i < length parts → p ≡ get_or parts i p → p ≡ parts_of (get_or trees i no_tree)
part_at trees parts i p are below is =
    let count : length parts ≡ length trees = ap length are ∙ length-map trees parts_of in
    is ∙ ap (λ (ps : List Parts). get_or ps i p) are ∙ get_or-map parts_of trees i no_tree p (omega (arith, count))

-- the blocks that were put
pub puts_all : {K : Type 0} (reads : List ℕ → List Cell → Type 0) (takes : K → BlockWrite → K → Type 0) (records : List (List ℕ)) (s t : K) → FoldsTo (PutsBlocks reads takes) s records t
    → (cells : List Cell) × AreBlocksOf reads records cells × FoldsTo takes s (map write_of cells) t
puts_all reads takes [] s t folds = ([], refl, folds)
puts_all reads takes (r ∷ records) s t (u, puts, rest) =
    let others = puts_all reads takes records u t rest in (
      puts.cells ++ others.0,
      (puts.cells, others.0, puts.read, others.1, refl),
      subst (λ ws. FoldsTo takes s ws t) (sym (map-append write_of puts.cells others.0)) (folds-append takes s (map write_of puts.cells) u (map write_of others.0) t puts.put others.2),
    )

pub image_right : {B : Type 0} (batches : B → List (List ℕ) → BatchOutcome → List Exchange → B → Type 0) (v : Scheme) (s : State) (l m : B) (rows : List Row) (levels : List LevelFindings) (cells : List Cell)
    → IsDevice v.device → IsRead batches (to_read v s 0) l rows levels m → AreBlocksOf (Reads v.cipher.opening v.device 0) (sound_in rows) cells
    → (w : World) (array : ℕ → List ℕ) → IsServing v s w array
    → HasCollision (w.records 0) rows ⊎ IsBackup v.device.block_bytes (after_all v.device s.queue array) (all_writes v s cells) (All IsLevelWhole levels)
image_right batches v s l m rows levels cells of read blocks w array serving =
    let stands = serving.holds 0 (some_trees v.device) in
    let tree = tree_in s 0 in
    let stored : IsStored (depth_of v.device 0) (record_len v) tree.root (w.records 0) = subst (λ i. IsStored (depth_of v.device i) (record_len v) tree.root (w.records 0)) stands.number stands.stored.stands in
    let holds : HasContent (Reads v.cipher.opening v.device 0) (depth_of v.device 0) (w.records 0) tree.stash (w.content 0) =
    subst (λ i. HasContent (Reads v.cipher.opening v.device i) (depth_of v.device i) (w.records 0) tree.stash (w.content 0)) stands.number stands.stored.holds in
    let count : length rows ≡ node_count (depth_of v.device 0) = sym (node_after rows (begun (depth_of v.device 0) (record_len v) tree.root) read.scan read.judged ∙ zero-add (length rows)) ∙ read.whole in
    elim (sound_are_the_trees (depth_of v.device 0) (record_len v) tree.root (w.records 0) rows read.scan stored read.judged) [
      | inr collides ↦ inl collides
      | inl are ↦ inr (backed_up v s w array (map write_of (cells ++ tree.stash)) (All IsLevelWhole levels) serving
          (images_are_right v.cipher.opening v.device (w.records 0) tree.stash (w.content 0) (array_in v w) rows cells levels of holds (λ a. refl) are count blocks read.lost))
    ]

pub exported : {B K : Type 0} (batches : B → List (List ℕ) → BatchOutcome → List Exchange → B → Type 0) (takes : K → BlockWrite → K → Type 0) (v : Scheme) (s : State) (l m : B) (k n p q : K)
    (rows : List Row) (levels : List LevelFindings) → IsDevice v.device → IsRead batches (to_read v s 0) l rows levels m
    → FoldsTo (PutsBlocks (Reads v.cipher.opening v.device 0) takes) k (sound_in rows) n → FoldsTo takes n (map write_of (tree_in s 0).stash) p
    → FoldsTo takes p (waiting_writes (replicate v.device.block_bytes 0) s.queue) q → IsExport batches takes v s (l, k) levels (m, q)
exported batches takes v s l m k n p q rows levels of read told stash waiting =
    let found = puts_all (Reads v.cipher.opening v.device 0) takes (sound_in rows) k n told in
    let blocks = subst (λ ws. FoldsTo takes k ws p) (sym (map-append write_of found.0 (tree_in s 0).stash)) (folds-append takes k (map write_of found.0) n (map write_of (tree_in s 0).stash) p found.2 stash) in
    record {
      rows = rows;
      cells = found.0;
      read = read;
      blocks = found.1;
      put = folds-append takes k (map write_of (found.0 ++ (tree_in s 0).stash)) p (waiting_writes (replicate v.device.block_bytes 0) s.queue) q blocks waiting;
      right = image_right batches v s l m rows levels found.0 of read found.1;
    }

-- ---- beside a host that gives the stored records

same_start : (len : ℕ) (r q xs ys : List ℕ) → length r ≡ len → length q ≡ len → 1 ∷ r ++ xs ≡ 1 ∷ q ++ ys → (r ≡ q) × (xs ≡ ys)
same_start len r q xs ys of_r of_q same =
    let rest : r ++ xs ≡ q ++ ys = ap (drop 1) same in
    (sym (take_at r xs len of_r) ∙ ap (take len) rest ∙ take_at q ys len of_q, sym (drop_at r xs len of_r) ∙ ap (drop len) rest ∙ drop_at q ys len of_q)

given_rows : (len : ℕ) (records : ℕ → List ℕ) (rows : List Row) (k n : ℕ) → All (HasLength len) rows → ((j : ℕ) → k ≤ j → j < k + n → length (records j) ≡ len)
    → rows_text (map record_in rows) ≡ rows_text (map (λ j. Some (records j)) (range_with_len k n)) → AreGiven records k rows
given_rows len records [] k n long lengths same = tt
given_rows len records (None ∷ rows) k zero long lengths same = absurd (cc)
given_rows len records (None ∷ rows) k (suc n) long lengths same = absurd (cc)
given_rows len records (Some (r, finding) ∷ rows) k zero long lengths same = absurd (cc)
given_rows len records (Some (r, finding) ∷ rows) k (suc n) long lengths same =
    let row : Row = Some (r, finding) in
    let parts = same_start len r (records k) (rows_text (map record_in rows)) (rows_text (map (λ j. Some (records j)) (range_with_len (k + 1) n))) (All-head (HasLength len) row rows long) (lengths k (omega arith) (omega arith)) same in
    (parts.0, given_rows len records rows (k + 1) n (All-tail (HasLength len) row rows long) (λ j above below. lengths j (omega arith) (omega arith)) parts.1)

pub readings_right : {B : Type 0} (batches : B → List (List ℕ) → BatchOutcome → List Exchange → B → Type 0) → ReadingsAreRight batches
readings_right batches tree l m rows levels records stored read = (
  sound_are_the_trees tree.depth tree.record_len tree.root records rows read.scan stored read.judged,
  λ given. none_lost_whole levels (read.lost ∙ sound_none_lost rows (given_are_sound tree.depth tree.record_len tree.root records rows read.scan stored read.judged
      (given_rows tree.record_len records rows 0 (node_count tree.depth) read.long (λ j above below. stored.lengths j (omega arith)) (sym read.spelled ∙ given)))),
)

-- ---- a reading that stops

module _ {B : Type 0} (batches : B → List (List ℕ) → BatchOutcome → List Exchange → B → Type 0) (asks : B → List (List ℕ) → B → Type 0) where
  asks_none : (l : B) (later : List (List (List ℕ))) → MayAskNext asks l later l
  asks_none l [] = refl
  asks_none l (bodies ∷ later) = inl refl

  pub asked_none : (tree : TreeToRead) (l : B) → HasAsked batches asks tree l l
  asked_none tree l = ([], l, refl, (asked_of tree, refl, asks_none l (asked_of tree)))

  pub asked_nothing : (trees : ℕ → TreeToRead) (l : B) → HasAskedTrees batches asks trees l l
  asked_nothing trees l = ([], l, refl, asked_none (trees 0) l)

  pub asked_some : (trees : ℕ → TreeToRead) (i : ℕ) (l k m : B) (found : List (List LevelFindings)) → length found ≡ i
      → AreRead batches trees 0 l found k → HasAsked batches asks (trees i) k m → HasAskedTrees batches asks trees l m
  asked_some trees i l k m found count are asked = (found, k, are, subst (λ j. HasAsked batches asks (trees j) k m) (sym count) asked)

  pub asked_all : (tree : TreeToRead) (l m : B) (rows : List Row) (levels : List LevelFindings) → IsRead batches tree l rows levels m → HasAsked batches asks tree l m
  asked_all tree l m rows levels read = (read.askings, m, read.carried, ([], sym read.asked ∙ sym (append-nil (asked_in read.askings)), refl))
