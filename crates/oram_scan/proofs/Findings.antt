-- What the findings of a scan say about the stored tree.
use Rattle.std.proofs.Common.{◌≡◌, ◌≢◌, ℕ, ◌+◌, ◌-◌, ◌*◌, ◌^◌, ◌<◌, ◌≤◌, ◌⊎◌, inl, inr, refl, sym, arith, zero, suc, ap, ◌∙◌, subst, List, [], ◌∷◌, ◌++◌, length, drop, get_or, Option, Some, None, Bool, if◌then◌else◌, length-append, length-drop}
use Rattle.std.specs.Prelude.{min}
use Rattle.std.specs.List.{FoldsTo}
use Rattle.std.proofs.lemmas.Bool.{cases_eq, cases_lt, lt-ltb, le-ltb}
use Rattle.std.proofs.lemmas.List.{get_or_append_left, get_or-drop, get_or-append_right}
use Rattle.std.proofs.lemmas.Nat.{pow_pos}
use Rattle.sha2.specs.Sha256.{sha256}
use Rattle.oram_hash.specs.Record.{left_digest, right_digest}
use Rattle.oram_hash.specs.Tree.{IsStored}
use Rattle.oram_scan.specs.Scan.{Scan, after, begun, expected, node_count, passed, told}
use Rattle.oram_scan.specs.Laws.{AreGiven, AreSound, AreTheTrees, HasCollision, HonestScansAreSound, Row, SoundRecordsAreTheTrees, Takes}
use Rattle.oram_scan.specs.declared.tree_scan.Finding.TheVariants.{Sound, Changed, Unchecked}
use Rattle.oram_scan.proofs.Scans.{twice}

same_list : (xs ys : List ℕ) → (xs ≡ ys) ⊎ (xs ≢ ys)
same_list [] [] = inl refl
same_list [] (y ∷ ys) = inr (λ (e : [] ≡ y ∷ ys). cc)
same_list (x ∷ xs) [] = inr (λ (e : x ∷ xs ≡ []). cc)
same_list (x ∷ xs) (y ∷ ys) =
    elim (cases_eq x y) [
      | inl head ↦ elim (same_list xs ys) [
        | inl tail ↦ inl (cc)
        | inr other ↦ inr (λ (e : x ∷ xs ≡ y ∷ ys). other (cc))
      ]
      | inr other ↦ inr (λ (e : x ∷ xs ≡ y ∷ ys). other (cc))
    ]

-- A scan of this tree: the digests that it knows are those of the tree's records.
record Fits (depth len : ℕ) (records : ℕ → List ℕ) (s : Scan) : Type 0 where
  deep : s.depth ≡ depth
  long : s.record_len ≡ len
  count : length s.digests ≡ min (s.node + 1) (node_count depth - s.node)
  right : (i : ℕ) (d : List ℕ) → get_or s.digests i None ≡ Some d → d ≡ sha256 (records (s.node + i))

-- the scan after the next node, with these digests after those that it knows already
abbrev next : Scan → List (Option (List ℕ)) → Scan
next s tail = record s { node = s.node + 1; digests = drop 1 s.digests ++ tail }

begun_fits : (depth len : ℕ) (root : List ℕ) (records : ℕ → List ℕ) → IsStored depth len root records → Fits depth len records (begun depth len root)
begun_fits depth len root records stored = record { deep = refl; long = refl; count = omega (arith, twice depth, pow_pos depth); right = at }
  where
    at : (i : ℕ) (d : List ℕ) → get_or (Some root ∷ []) i None ≡ Some d → d ≡ sha256 (records (0 + i))
    at zero d e = (let same : d ≡ root = cc in same) ∙ sym stored.top
    at (suc i) d e = absurd (cc)

known_fits : (depth len : ℕ) (records : ℕ → List ℕ) (s : Scan) (tail : List (Option (List ℕ))) → Fits depth len records s
    → (i : ℕ) (d : List ℕ) → i < length (drop 1 s.digests) → get_or (drop 1 s.digests ++ tail) i None ≡ Some d → d ≡ sha256 (records (s.node + 1 + i))
known_fits depth len records s tail fits i d known e =
    let same : get_or s.digests (1 + i) None ≡ Some d = sym (get_or-drop 1 s.digests i None) ∙ sym (get_or_append_left (drop 1 s.digests) tail None i known) ∙ e in
    let node : s.node + (1 + i) ≡ s.node + 1 + i = omega arith in
    fits.right (1 + i) d same ∙ ap (λ (n : ℕ). sha256 (records n)) node

-- an inner node: what its record says of its children comes last
inner_fits : (depth len : ℕ) (records : ℕ → List ℕ) (s : Scan) (left right : Option (List ℕ)) → s.node + 1 < 2 ^ depth → Fits depth len records s
    → ((d : List ℕ) → left ≡ Some d → d ≡ sha256 (records (2 * s.node + 1))) → ((d : List ℕ) → right ≡ Some d → d ≡ sha256 (records (2 * s.node + 2)))
    → Fits depth len records (next s (left ∷ right ∷ []))
inner_fits depth len records s left right inner fits left_is right_is = record { deep = fits.deep; long = fits.long; count = counted; right = at }
  where
    all : length s.digests ≡ s.node + 1
    all = fits.count ∙ omega (arith, twice depth)

    before : length (drop 1 s.digests) ≡ s.node
    before = length-drop 1 s.digests ∙ omega (arith, all)

    counted : length (drop 1 s.digests ++ left ∷ right ∷ []) ≡ min (s.node + 1 + 1) (node_count depth - (s.node + 1))
    counted = length-append (drop 1 s.digests) (left ∷ right ∷ []) ∙ omega (arith, before, twice depth)

    child : (i n : ℕ) (d : List ℕ) → i ≡ s.node + n → get_or (left ∷ right ∷ []) n None ≡ Some d → d ≡ sha256 (records (s.node + 1 + i))
    child i zero d is e =
        let node : 2 * s.node + 1 ≡ s.node + 1 + i = omega arith in
        left_is d e ∙ ap (λ (n : ℕ). sha256 (records n)) node
    child i (suc zero) d is e =
        let node : 2 * s.node + 2 ≡ s.node + 1 + i = omega arith in
        right_is d e ∙ ap (λ (n : ℕ). sha256 (records n)) node
    child i (suc (suc n)) d is e = absurd (cc)

    at : (i : ℕ) (d : List ℕ) → get_or (drop 1 s.digests ++ left ∷ right ∷ []) i None ≡ Some d → d ≡ sha256 (records (s.node + 1 + i))
    at i d e =
        elim (cases_lt i (length (drop 1 s.digests))) [
          | inl known ↦ known_fits depth len records s (left ∷ right ∷ []) fits i d known e
          | inr beyond ↦
              child i (i - length (drop 1 s.digests)) d (omega (arith, before))
              (sym (get_or-append_right (drop 1 s.digests) (left ∷ right ∷ []) (length (drop 1 s.digests)) i None refl beyond) ∙ e)
        ]

leaf_fits : (depth len : ℕ) (records : ℕ → List ℕ) (s : Scan) → s.node < node_count depth → 2 ^ depth ≤ s.node + 1 → Fits depth len records s → Fits depth len records (next s [])
leaf_fits depth len records s within leaf fits = record { deep = fits.deep; long = fits.long; count = counted; right = at }
  where
    counted : length (drop 1 s.digests ++ []) ≡ min (s.node + 1 + 1) (node_count depth - (s.node + 1))
    counted = length-append (drop 1 s.digests) [] ∙ omega (arith, length-drop 1 s.digests, fits.count, twice depth)

    at : (i : ℕ) (d : List ℕ) → get_or (drop 1 s.digests ++ []) i None ≡ Some d → d ≡ sha256 (records (s.node + 1 + i))
    at i d e =
        elim (cases_lt i (length (drop 1 s.digests))) [
          | inl known ↦ known_fits depth len records s [] fits i d known e
          | inr beyond ↦
              let none : get_or {A = Option (List ℕ)} [] (i - length (drop 1 s.digests)) None ≡ Some d =
              sym (get_or-append_right (drop 1 s.digests) [] (length (drop 1 s.digests)) i None refl beyond) ∙ e in
              absurd (cc)
        ]

after_fits : (depth len : ℕ) (records : ℕ → List ℕ) (s : Scan) (left right : Option (List ℕ)) → s.node < node_count s.depth → Fits depth len records s
    → (s.node + 1 < 2 ^ depth → (d : List ℕ) → left ≡ Some d → d ≡ sha256 (records (2 * s.node + 1)))
    → (s.node + 1 < 2 ^ depth → (d : List ℕ) → right ≡ Some d → d ≡ sha256 (records (2 * s.node + 2)))
    → Fits depth len records (after s left right)
after_fits depth len records s left right within fits left_is right_is =
    let deep : 2 ^ s.depth ≡ 2 ^ depth = ap (λ (d : ℕ). 2 ^ d) fits.deep in
    let inside : s.node < node_count depth = subst (λ (d : ℕ). s.node < node_count d) fits.deep within in
    elim (cases_lt (s.node + 1) (2 ^ s.depth)) [
      | inl inner ↦
          let low : s.node + 1 < 2 ^ depth = omega arith in
          subst (λ (b : Bool). Fits depth len records (next s (if b then left ∷ right ∷ [] else []))) (sym (lt-ltb (s.node + 1) (2 ^ s.depth) inner))
          (inner_fits depth len records s left right low fits (left_is low) (right_is low))
      | inr leaf ↦
          let low : 2 ^ depth ≤ s.node + 1 = omega arith in
          subst (λ (b : Bool). Fits depth len records (next s (if b then left ∷ right ∷ [] else []))) (sym (le-ltb (s.node + 1) (2 ^ s.depth) leaf))
          (leaf_fits depth len records s inside low fits)
    ]

passed_fits : (depth len : ℕ) (records : ℕ → List ℕ) (s : Scan) → s.node < node_count s.depth → Fits depth len records s → Fits depth len records (passed s)
passed_fits depth len records s within fits = after_fits depth len records s None None within fits (λ low d e. absurd (cc)) (λ low d e. absurd (cc))

-- after the tree's own record
told_fits : (depth len : ℕ) (root : List ℕ) (records : ℕ → List ℕ) (s : Scan) (r : List ℕ) → IsStored depth len root records → s.node < node_count s.depth → Fits depth len records s
    → r ≡ records s.node → Fits depth len records (told s r)
told_fits depth len root records s r stored within fits is =
    after_fits depth len records s (Some (left_digest r)) (Some (right_digest r)) within fits
    (λ low d e. (let same : d ≡ left_digest r = cc in same) ∙ ap left_digest is ∙ (stored.inner s.node (omega arith)).left_held)
    (λ low d e. (let same : d ≡ right_digest r = cc in same) ∙ ap right_digest is ∙ (stored.inner s.node (omega arith)).right_held)

-- a record that is found sound has the digest of the tree's
sound_digest : (depth len : ℕ) (records : ℕ → List ℕ) (s : Scan) (r : List ℕ) → Fits depth len records s → expected s ≡ Some (sha256 r) → sha256 r ≡ sha256 (records s.node)
sound_digest depth len records s r fits e =
    let node : s.node + 0 ≡ s.node = omega arith in
    fits.right 0 (sha256 r) e ∙ ap (λ (n : ℕ). sha256 (records n)) node

collision_after : (records : ℕ → List ℕ) (row : Row) (rows : List Row) → HasCollision records rows → HasCollision records (row ∷ rows)
collision_after records row rows (before, r, after_it, is, collides) = (row ∷ before, r, after_it, ap (λ (rest : List Row). row ∷ rest) is, collides)

trees_from : (depth len : ℕ) (root : List ℕ) (records : ℕ → List ℕ) → IsStored depth len root records → (rows : List Row) (s t : Scan) → Fits depth len records s → FoldsTo Takes s rows t
    → AreTheTrees records s.node rows ⊎ HasCollision records rows
trees_from depth len root records stored [] s t fits folds = inl tt
trees_from depth len root records stored (None ∷ rows) s t fits (j, (within, is), rest) =
    elim (trees_from depth len root records stored rows (passed s) t (passed_fits depth len records s within fits) (subst (λ (k : Scan). FoldsTo Takes k rows t) is rest)) [
      | inl same ↦ inl same
      | inr collides ↦ inr (collision_after records None rows collides)
    ]
trees_from depth len root records stored (Some (r, Changed) ∷ rows) s t fits (j, (within, finding), rest) =
    elim (trees_from depth len root records stored rows (passed s) t (passed_fits depth len records s within fits) (subst (λ (k : Scan). FoldsTo Takes k rows t) finding.3 rest)) [
      | inl same ↦ inl same
      | inr collides ↦ inr (collision_after records (Some (r, Changed)) rows collides)
    ]
trees_from depth len root records stored (Some (r, Unchecked) ∷ rows) s t fits (j, (within, finding), rest) =
    elim (trees_from depth len root records stored rows (passed s) t (passed_fits depth len records s within fits) (subst (λ (k : Scan). FoldsTo Takes k rows t) finding.1 rest)) [
      | inl same ↦ inl same
      | inr collides ↦ inr (collision_after records (Some (r, Unchecked)) rows collides)
    ]
trees_from depth len root records stored (Some (r, Sound) ∷ rows) s t fits (j, (within, finding), rest) =
    let digest : sha256 r ≡ sha256 (records s.node) = sound_digest depth len records s r fits finding.0.1 in
    elim (same_list r (records s.node)) [
      | inr other ↦ inr ([], r, rows, refl, (s.node, other, digest))
      | inl same ↦ elim (trees_from depth len root records stored rows (told s r) t (told_fits depth len root records s r stored within fits same)
          (subst (λ (k : Scan). FoldsTo Takes k rows t) finding.1 rest)) [
            | inl others ↦ inl (same, others)
            | inr collides ↦ inr (collision_after records (Some (r, Sound)) rows collides)
          ]
    ]

pub sound_are_the_trees : SoundRecordsAreTheTrees
sound_are_the_trees depth len root records rows t stored folds =
    trees_from depth len root records stored rows (begun depth len root) t (begun_fits depth len root records stored) folds

-- ---- beside an honest host

-- a scan knows the digest of each node that comes next
abbrev IsFull : List (Option (List ℕ)) → Type 0
IsFull digests = (i : ℕ) → i < length digests → (d : List ℕ) × (get_or digests i None ≡ Some d)

full_next : (s : Scan) (tail : List (Option (List ℕ))) → IsFull s.digests → IsFull tail → IsFull (drop 1 s.digests ++ tail)
full_next s tail full more i below =
    elim (cases_lt i (length (drop 1 s.digests))) [
      | inl known ↦
          let found = full (1 + i) (omega (arith, length-drop 1 s.digests)) in
          (found.0, get_or_append_left (drop 1 s.digests) tail None i known ∙ get_or-drop 1 s.digests i None ∙ found.1)
      | inr beyond ↦
          let found = more (i - length (drop 1 s.digests)) (omega (arith, length-append (drop 1 s.digests) tail)) in
          (found.0, get_or-append_right (drop 1 s.digests) tail (length (drop 1 s.digests)) i None refl beyond ∙ found.1)
    ]

full_told : (s : Scan) (r : List ℕ) → IsFull s.digests → IsFull (told s r).digests
full_told s r full =
    elim (cases_lt (s.node + 1) (2 ^ s.depth)) [
      | inl inner ↦ subst (λ (b : Bool). IsFull (drop 1 s.digests ++ (if b then Some (left_digest r) ∷ Some (right_digest r) ∷ [] else []))) (sym (lt-ltb (s.node + 1) (2 ^ s.depth) inner))
          (full_next s (Some (left_digest r) ∷ Some (right_digest r) ∷ []) full both)
      | inr leaf ↦ subst (λ (b : Bool). IsFull (drop 1 s.digests ++ (if b then Some (left_digest r) ∷ Some (right_digest r) ∷ [] else []))) (sym (le-ltb (s.node + 1) (2 ^ s.depth) leaf))
          (full_next s [] full (λ i below. absurd (omega arith)))
    ]
  where
    both : IsFull (Some (left_digest r) ∷ Some (right_digest r) ∷ [])
    both zero below = (left_digest r, refl)
    both (suc zero) below = (right_digest r, refl)
    both (suc (suc i)) below = absurd (omega arith)

-- the digest that is expected is that of the tree's record
expected_full : (depth len : ℕ) (records : ℕ → List ℕ) (s : Scan) → s.node < node_count s.depth → Fits depth len records s → IsFull s.digests → expected s ≡ Some (sha256 (records s.node))
expected_full depth len records s within fits full =
    let count : node_count s.depth ≡ node_count depth = ap node_count fits.deep in
    let first = full 0 (omega (arith, within, fits.count, count)) in
    let node : s.node + 0 ≡ s.node = omega arith in
    first.1 ∙ ap Some (fits.right 0 first.0 first.1 ∙ ap (λ (n : ℕ). sha256 (records n)) node)

sound_from : (depth len : ℕ) (root : List ℕ) (records : ℕ → List ℕ) → IsStored depth len root records → (rows : List Row) (s t : Scan) → Fits depth len records s → IsFull s.digests
    → FoldsTo Takes s rows t → AreGiven records s.node rows → AreSound rows
sound_from depth len root records stored [] s t fits full folds given = tt
sound_from depth len root records stored (None ∷ rows) s t fits full folds given = absurd given
sound_from depth len root records stored (Some (r, Sound) ∷ rows) s t fits full (j, (within, finding), rest) given = (
  refl,
  sound_from depth len root records stored rows (told s r) t (told_fits depth len root records s r stored within fits given.0) (full_told s r full)
      (subst (λ (k : Scan). FoldsTo Takes k rows t) finding.1 rest) given.1,
)
sound_from depth len root records stored (Some (r, Changed) ∷ rows) s t fits full (j, (within, finding), rest) given =
    let count : node_count s.depth ≡ node_count depth = ap node_count fits.deep in
    let inside : s.node < node_count depth = omega (arith, within, count) in
    let length_is : length r ≡ s.record_len = ap length given.0 ∙ stored.lengths s.node inside ∙ sym fits.long in
    absurd (finding.2 (length_is, expected_full depth len records s within fits full ∙ ap (λ (b : List ℕ). Some (sha256 b)) (sym given.0)))
sound_from depth len root records stored (Some (r, Unchecked) ∷ rows) s t fits full (j, (within, finding), rest) given =
    let known = expected_full depth len records s within fits full in
    let none : expected s ≡ None = finding.0 in
    absurd (cc)

pub given_are_sound : HonestScansAreSound
given_are_sound depth len root records rows t stored folds given =
    sound_from depth len root records stored rows (begun depth len root) t (begun_fits depth len root records stored) first folds given
  where
    first : IsFull (Some root ∷ [])
    first zero below = (root, refl)
    first (suc i) below = absurd (omega arith)
