-- The blocks of the records that were found sound, and the image that they make.
use Rattle.std.proofs.Common.{◌≡◌, ◌≢◌, ℕ, zero, suc, ◌+◌, ◌*◌, ◌<◌, ◌≤◌, ◌==◌, ◌⊎◌, inl, inr, if◌then◌else◌, arith, ap, sym, ◌∙◌, refl, subst, List, [], ◌∷◌, ◌++◌, length, map, Option, Some, None, IsSome, cond, replicate, Contains, sum_by}
use Rattle.std.specs.List.{All, FoldsTo, count_by}
use Rattle.std.proofs.lemmas.Bool.{cases_eq, eq-eqb, ne_eqb}
use Rattle.std.proofs.lemmas.List.Elements.{All-cons, All-head, All-nil, All-tail, Contains-append_cases, Contains-append_left, Contains-append_right}
use Rattle.std.proofs.lemmas.List.Sums.{get_or-le-sum_by, sum_by-cons, sum_by-le}
use Rattle.oram_geometry.specs.declared.Sizes.{Sizes}
use Rattle.oram_geometry.specs.Sizes.{IsDevice, depth_of}
use Rattle.oram_hash.specs.Record.{sealed_part}
use Rattle.oram_bucket.specs.Cell.{Cell}
use Rattle.oram_bucket.specs.SealedBlocks.{Reads}
use Rattle.oram_bucket.proofs.UniqueEncoding.{reads_once}
use Rattle.oram_tree.specs.Access.{content_or_zeros}
use Rattle.oram_tree.specs.Content.{Entry, HasContent, Holds, Map, entry_of, node_count}
use Rattle.oram_scan.specs.Laws.{AreSound, AreTheTrees, Row, Takes}
use Rattle.oram_scan.specs.Scan.{Scan}
use Rattle.oram_scan.specs.declared.tree_scan.Finding.TheVariants.{Sound, Changed, Unchecked}
use Rattle.oram_export.specs.Findings.{IsLevelWhole, is_lost, lost_of}
use Rattle.oram_export.specs.Images.{AreBlocksOf, BlockWrite, IsImage, image_after, image_of, write_of}
use Rattle.oram_export.specs.Reading.{sound_in}
use Rattle.oram_export.specs.declared.findings.LevelFindings.{LevelFindings}
use Rattle.oram_export.proofs.Staging.{takes_next}

-- ---- whole trees

pub none_lost_sound : (rows : List Row) → count_by is_lost rows ≡ 0 → AreSound rows
none_lost_sound [] none = tt
none_lost_sound (None ∷ rows) none = absurd (omega (arith, none, sum_by-cons (λ row. cond (is_lost row) 1 0) None rows))
none_lost_sound (Some (r, Sound) ∷ rows) none = (refl, none_lost_sound rows (omega (arith, none, sum_by-cons (λ row. cond (is_lost row) 1 0) (Some (r, Sound)) rows)))
none_lost_sound (Some (r, Changed) ∷ rows) none = absurd (omega (arith, none, sum_by-cons (λ row. cond (is_lost row) 1 0) (Some (r, Changed)) rows))
none_lost_sound (Some (r, Unchecked) ∷ rows) none = absurd (omega (arith, none, sum_by-cons (λ row. cond (is_lost row) 1 0) (Some (r, Unchecked)) rows))

pub sound_none_lost : (rows : List Row) → AreSound rows → count_by is_lost rows ≡ 0
sound_none_lost [] sound = refl
sound_none_lost (None ∷ rows) sound = absurd sound
sound_none_lost (Some (r, Sound) ∷ rows) sound = sum_by-cons (λ row. cond (is_lost row) 1 0) (Some (r, Sound)) rows ∙ omega (arith, sound_none_lost rows sound.1)
sound_none_lost (Some (r, Changed) ∷ rows) sound = let other = sound.0 in absurd (cc)
sound_none_lost (Some (r, Unchecked) ∷ rows) sound = let other = sound.0 in absurd (cc)

pub whole_none_lost : (levels : List LevelFindings) → All IsLevelWhole levels → sum_by lost_of levels ≡ 0
whole_none_lost levels whole =
    let few : sum_by lost_of levels ≤ length levels * 0 = sum_by-le lost_of 0 levels (λ k d below. let w = whole k d below in omega (arith, w.changed, w.missing, w.unchecked)) in
    omega (arith, few)

pub none_lost_whole : (levels : List LevelFindings) → sum_by lost_of levels ≡ 0 → All IsLevelWhole levels
none_lost_whole levels none k d below =
    let one = get_or-le-sum_by lost_of levels k d below in
    record { changed = omega (arith, one, none); missing = omega (arith, one, none); unchecked = omega (arith, one, none) }

-- ---- the blocks that were found

pub node_after : (rows : List Row) (s t : Scan) → FoldsTo Takes s rows t → t.node ≡ s.node + length rows
node_after [] s t folds = ap (λ x. x.node) (sym folds) ∙ omega arith
node_after (row ∷ rows) s t (u, takes, rest) = let next = takes_next s row u takes in node_after rows u t rest ∙ omega (arith, next.node)

-- a record of the tree, and the tree's blocks
abbrev AreHeld : Map → List Cell → Type 0
AreHeld content cells = (c : Cell) → Contains cells c → content c.address ≡ Some (entry_of c)

none_contained : {X : Type 0} (x : X) → Contains [] x → ⊥
none_contained x (k, below, is) = absurd (omega arith)

found_are_held : (reads : List ℕ → List Cell → Type 0) (depth : ℕ) (records : ℕ → List ℕ) (stash : List Cell) (content : Map) → HasContent reads depth records stash content
    → (rows : List Row) (n : ℕ) (cells : List Cell) → AreTheTrees records n rows → n + length rows ≤ node_count depth → AreBlocksOf reads (sound_in rows) cells → AreHeld content cells
found_are_held reads depth records stash content holds [] n cells are within blocks c here = absurd (none_contained c (subst (λ (cs : List Cell). Contains cs c) blocks here))
found_are_held reads depth records stash content holds (None ∷ rows) n cells are within blocks c here = found_are_held reads depth records stash content holds rows (n + 1) cells are (omega arith) blocks c here
found_are_held reads depth records stash content holds (Some (r, Changed) ∷ rows) n cells are within blocks c here = found_are_held reads depth records stash content holds rows (n + 1) cells are (omega arith) blocks c here
found_are_held reads depth records stash content holds (Some (r, Unchecked) ∷ rows) n cells are within blocks c here = found_are_held reads depth records stash content holds rows (n + 1) cells are (omega arith) blocks c here
found_are_held reads depth records stash content holds (Some (r, Sound) ∷ rows) n cells are within (first, rest, read, others, is) c here =
    elim (Contains-append_cases first rest c (subst (λ (cs : List Cell). Contains cs c) is here)) [
      | inl in_first ↦ holds.from_tree n c (omega arith) (first, subst (λ (s : List ℕ). reads (sealed_part s) first) are.0 read, in_first)
      | inr in_rest ↦ found_are_held reads depth records stash content holds rows (n + 1) rest are.1 (omega arith) others c in_rest
    ]

-- if all records were found sound, the blocks of each bucket were found
all_are_found : (opening : List ℕ → Option (List ℕ)) (d : Sizes) → IsDevice d → (records : ℕ → List ℕ) (rows : List Row) (n : ℕ) (cells : List Cell) → AreSound rows → AreTheTrees records n rows
    → AreBlocksOf (Reads opening d 0) (sound_in rows) cells → (m : ℕ) (c : Cell) → n ≤ m → m < n + length rows → Holds (Reads opening d 0) (records m) c → Contains cells c
all_are_found opening d of records [] n cells sound are blocks m c above below holds = absurd (omega arith)
all_are_found opening d of records (None ∷ rows) n cells sound are blocks m c above below holds = absurd sound
all_are_found opening d of records (Some (r, Changed) ∷ rows) n cells sound are blocks m c above below holds = let other = sound.0 in absurd (cc)
all_are_found opening d of records (Some (r, Unchecked) ∷ rows) n cells sound are blocks m c above below holds = let other = sound.0 in absurd (cc)
all_are_found opening d of records (Some (r, Sound) ∷ rows) n cells sound are (first, rest, read, others, is) m c above below (bucket, reads, has) =
    subst (λ (cs : List Cell). Contains cs c) (sym is) (elim (cases_eq m n) [
      | inl same ↦
          let here : Reads opening d 0 (sealed_part (records n)) first = subst (λ (s : List ℕ). Reads opening d 0 (sealed_part s) first) are.0 read in
          let there : Reads opening d 0 (sealed_part (records n)) bucket = subst (λ (k : ℕ). Reads opening d 0 (sealed_part (records k)) bucket) same reads in
          Contains-append_left first rest c (subst (λ (cs : List Cell). Contains cs c) (reads_once opening d 0 (sealed_part (records n)) bucket first of there here) has)
      | inr other ↦ Contains-append_right first rest c (all_are_found opening d of records rows (n + 1) rest sound.1 are.1 others m c (omega (arith, other)) (omega arith) (bucket, reads, has))
    ])

-- ---- images

abbrev IsRight : (ℕ → List ℕ) → BlockWrite → Type 0
IsRight array w = w.content ≡ array w.address

abbrev AreRight : (ℕ → List ℕ) → List BlockWrite → Type 0
AreRight array writes = All (IsRight array) writes

one_write : (array image : ℕ → List ℕ) (w : BlockWrite) (a : ℕ) → w.content ≡ array w.address
    → ((w.address ≡ a) × ((if w.address == a then w.content else image a) ≡ array a)) ⊎ ((w.address ≢ a) × ((if w.address == a then w.content else image a) ≡ image a))
one_write array image w a right =
    elim (cases_eq w.address a) [
      | inl same ↦ inl (same, ap (λ b. if b then w.content else image a) (eq-eqb w.address a same) ∙ right ∙ ap array same)
      | inr other ↦ inr (other, ap (λ b. if b then w.content else image a) (ne_eqb w.address a other))
    ]

-- where the image has the array's block, it keeps it
stays_right : (array : ℕ → List ℕ) (writes : List BlockWrite) (image : ℕ → List ℕ) (a : ℕ) → AreRight array writes → image a ≡ array a → image_after image writes a ≡ array a
stays_right array [] image a right is = is
stays_right array (w ∷ writes) image a right is =
    stays_right array writes (λ b. if w.address == b then w.content else image b) a (All-tail (IsRight array) w writes right)
    (elim (one_write array image w a (All-head (IsRight array) w writes right)) [ inl same ↦ same.1 | inr other ↦ other.1 ∙ is ])

right_or_zeros : (len : ℕ) (array : ℕ → List ℕ) (writes : List BlockWrite) (image : ℕ → List ℕ) (a : ℕ) → AreRight array writes → (image a ≡ array a) ⊎ (image a ≡ replicate len 0)
    → (image_after image writes a ≡ array a) ⊎ (image_after image writes a ≡ replicate len 0)
right_or_zeros len array [] image a right is = is
right_or_zeros len array (w ∷ writes) image a right is =
    right_or_zeros len array writes (λ b. if w.address == b then w.content else image b) a (All-tail (IsRight array) w writes right)
    (elim (one_write array image w a (All-head (IsRight array) w writes right)) [
      | inl same ↦ inl same.1
      | inr other ↦ elim is [ inl there ↦ inl (other.1 ∙ there) | inr zeros ↦ inr (other.1 ∙ zeros) ]
    ])

-- a block that is written is the array's
written_right : (array : ℕ → List ℕ) (cells : List Cell) (image : ℕ → List ℕ) (c : Cell) → AreRight array (map write_of cells) → Contains cells c
    → image_after image (map write_of cells) c.address ≡ array c.address
written_right array [] image c right here = absurd (none_contained c here)
written_right array (d ∷ cells) image c right (zero, below, is) =
    stays_right array (map write_of cells) (λ b. if d.address == b then d.content else image b) c.address (All-tail (IsRight array) (write_of d) (map write_of cells) right)
    (elim (one_write array image (write_of d) c.address (All-head (IsRight array) (write_of d) (map write_of cells) right)) [ inl same ↦ same.1 | inr other ↦ absurd (other.0 (ap (λ (x : Cell). x.address) is)) ])
written_right array (d ∷ cells) image c right (suc k, below, is) =
    written_right array cells (λ b. if d.address == b then d.content else image b) c (All-tail (IsRight array) (write_of d) (map write_of cells) right) (k, omega arith, is)

held_are_right : (len : ℕ) (array : ℕ → List ℕ) (content : Map) → ((a : ℕ) → content_or_zeros len (content a) ≡ array a) → (cells : List Cell) → AreHeld content cells → AreRight array (map write_of cells)
held_are_right len array content serves [] held = All-nil (IsRight array)
held_are_right len array content serves (c ∷ cells) held =
    All-cons (IsRight array) (write_of c) (map write_of cells) (sym (ap (content_or_zeros len) (held c (zero, omega arith, refl))) ∙ serves c.address)
    (held_are_right len array content serves cells (λ d (k, below, is). held d (suc k, omega arith, is)))

-- the image of the blocks that were found, and those of the stash
pub images_are_right : (opening : List ℕ → Option (List ℕ)) (d : Sizes) (records : ℕ → List ℕ) (stash : List Cell) (content : Map) (array : ℕ → List ℕ) (rows : List Row) (cells : List Cell)
    (levels : List LevelFindings) → IsDevice d → HasContent (Reads opening d 0) (depth_of d 0) records stash content → ((a : ℕ) → content_or_zeros d.block_bytes (content a) ≡ array a)
    → AreTheTrees records 0 rows → length rows ≡ node_count (depth_of d 0) → AreBlocksOf (Reads opening d 0) (sound_in rows) cells → sum_by lost_of levels ≡ count_by is_lost rows
    → IsImage d.block_bytes array (map write_of (cells ++ stash)) (All IsLevelWhole levels)
images_are_right opening d records stash content array rows cells levels of holds serves are count blocks lost = record {
  written = right;
  each = λ a. right_or_zeros d.block_bytes array (map write_of (cells ++ stash)) (λ b. replicate d.block_bytes 0) a right (inr refl);
  whole = λ whole a. go whole a (content a) refl;
}
  where
    zeros : ℕ → List ℕ
    zeros b = replicate d.block_bytes 0

    held : AreHeld content (cells ++ stash)
    held c here = elim (Contains-append_cases cells stash c here) [
      | inl found ↦ found_are_held (Reads opening d 0) (depth_of d 0) records stash content holds rows 0 cells are (omega (arith, count)) blocks c found
      | inr kept ↦ holds.from_stash c kept
    ]

    right : AreRight array (map write_of (cells ++ stash))
    right = held_are_right d.block_bytes array content serves (cells ++ stash) held

    at_address : (c : Cell) (a : ℕ) → c.address ≡ a → Contains (cells ++ stash) c → image_of d.block_bytes (map write_of (cells ++ stash)) a ≡ array a
    at_address c a at here = subst (λ (b : ℕ). image_of d.block_bytes (map write_of (cells ++ stash)) b ≡ array b) at (written_right array (cells ++ stash) (λ b. replicate d.block_bytes 0) c right here)

    go : All IsLevelWhole levels → (a : ℕ) (o : Option Entry) → content a ≡ o → image_of d.block_bytes (map write_of (cells ++ stash)) a ≡ array a
    go whole a None none = stays_right array (map write_of (cells ++ stash)) (λ b. replicate d.block_bytes 0) a right (sym (ap (content_or_zeros d.block_bytes) none) ∙ serves a)
    go whole a (Some e) some = elim (holds.held a (subst IsSome (sym some) refl)) [
      | inl (c, at, has) ↦ at_address c a at (Contains-append_right cells stash c has)
      | inr (c, n, at, below, has) ↦
          let sound = none_lost_sound rows (sym lost ∙ whole_none_lost levels whole) in
          at_address c a at (Contains-append_left cells stash c (all_are_found opening d of records rows 0 cells sound are blocks n c (omega arith) (omega (arith, count, below)) has))
    ]
