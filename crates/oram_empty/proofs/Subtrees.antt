-- The records of a subtree of empty buckets.
use Rattle.std.proofs.Common.{◌≡◌, ℕ, zero, suc, ◌+◌, ◌-◌, ◌*◌, ◌/◌, ◌%◌, ◌^◌, ◌<◌, ◌≤◌, ◌==◌, Bool, true, false, if◌then◌else◌, List, [], ◌++◌, length, take, drop, refl, ap, sym, ◌∙◌, append_assoc, arith}
use borrow.Rule.Slice.PartMut.{put_mid}
use Rattle.std.proofs.lemmas.List.{append-nil, length-append, length-replicate, length-take-le, length-drop, take_at, drop_at, take_rest}
use Rattle.sha2.specs.Sha256.{sha256}
use Rattle.sha2.proofs.Facts256.{length-sha256}
use Rattle.oram_hash.specs.Record.{no_digest}
use Rattle.oram_tree.specs.Content.{node_count}
use Rattle.oram_tree.specs.Subtree.{root_record}
use Rattle.oram_tree.proofs.Puts.{root_record-leaf, root_record-inner}
use Rattle.oram_empty.specs.SubtreePaths.{subtree_path, in_order, linked}
use Rattle.oram_empty.proofs.Pieces.{tail_written}

abbrev pub zeros : List ℕ
zeros = no_digest ++ no_digest

pub leaf_record : (seal : ℕ → List ℕ) (h k : ℕ) → h ≡ 0 → seal k ++ zeros ≡ root_record seal h k
leaf_record seal h k none = sym (append_assoc (seal k) no_digest no_digest) ∙ sym (root_record-leaf seal h k none)

pub inner_record : (seal : ℕ → List ℕ) (h k b : ℕ) (l r : List ℕ) → 0 < h → b ≡ node_count (h - 1) → l ≡ sha256 (root_record seal (h - 1) k) → r ≡ sha256 (root_record seal (h - 1) (k + b))
    → seal (k + 2 * b) ++ (l ++ r) ≡ root_record seal h k
inner_record seal h k b l r some below left right =
    sym (append_assoc (seal (k + 2 * b)) l r) ∙ sym (root_record-inner seal h k b l r some below left right)

-- sealing adds the same number of bytes each time, so all records have one length
pub length-root_record : (seal : ℕ → List ℕ) (len h k : ℕ) → ((x : ℕ) → length (seal x) + 64 ≡ len) → length (root_record seal h k) ≡ len
unfolding root_record
length-root_record seal len zero k each = omega (arith, length-append (seal k ++ no_digest) no_digest, length-append (seal k) no_digest, length-replicate {A = ℕ} 32 0, each k)
length-root_record seal len (suc h) k each =
    let s = seal (k + 2 * node_count h) in
    let l = sha256 (root_record seal h k) in
    let r = sha256 (root_record seal h (k + node_count h)) in
    omega (arith, length-append (s ++ l) r, length-append s l, length-sha256 (root_record seal h k), length-sha256 (root_record seal h (k + node_count h)), each (k + 2 * node_count h))

pub path-leaf : (seal : ℕ → List ℕ) (h k leaf : ℕ) → h ≡ 0 → subtree_path seal h k leaf ≡ root_record seal h k
unfolding subtree_path
path-leaf seal zero k leaf none = refl
path-leaf seal (suc h) k leaf none = absurd (omega arith)

-- where the subtree of the child on the path begins
abbrev pub on_path : ℕ → ℕ → ℕ → ℕ → ℕ
on_path h k b leaf = if (leaf / 2 ^ (h - 1)) % 2 == 0 then k else k + b

pub path-inner : (seal : ℕ → List ℕ) (h k b leaf : ℕ) → 0 < h → b ≡ node_count (h - 1) → subtree_path seal h k leaf ≡ root_record seal h k ++ subtree_path seal (h - 1) (on_path h k b leaf) leaf
unfolding subtree_path
path-inner seal zero k b leaf some below = absurd (omega arith)
path-inner seal (suc h) k b leaf some below =
    let e : h ≡ suc h - 1 = omega arith in
    let b_is : node_count h ≡ b = ap node_count e ∙ sym below in
    ap (λ (n : ℕ). root_record seal (suc h) k ++ subtree_path seal h (if (leaf / 2 ^ h) % 2 == 0 then k else k + n) leaf) b_is
    ∙ ap (λ (g : ℕ). root_record seal (suc h) k ++ subtree_path seal g (if (leaf / 2 ^ g) % 2 == 0 then k else k + b) leaf) e

-- a path begins with the record at the top
pub path-front : (seal : ℕ → List ℕ) (h k leaf : ℕ) → (rest : List ℕ) × (subtree_path seal h k leaf ≡ root_record seal h k ++ rest)
unfolding subtree_path
path-front seal zero k leaf = ([], sym (append-nil (root_record seal zero k)))
path-front seal (suc h) k leaf = (subtree_path seal h (if (leaf / 2 ^ h) % 2 == 0 then k else k + node_count h) leaf, refl)

pub length-path-front : (seal : ℕ → List ℕ) (len h k leaf : ℕ) → ((x : ℕ) → length (seal x) + 64 ≡ len) → len ≤ length (subtree_path seal h k leaf)
length-path-front seal len h k leaf each =
    let f = path-front seal h k leaf in
    omega (arith, ap length f.1, length-append (root_record seal h k) f.0, length-root_record seal len h k each)

-- a sealed bucket with room for two digests, and behind it the records of a path below
linked-parts : (len : ℕ) (goes_left : Bool) (other sealed hole child rest : List ℕ) → length sealed + 64 ≡ len → length hole ≡ 64 → length child ≡ len
    → linked len goes_left other ((sealed ++ hole) ++ (child ++ rest)) ≡ (sealed ++ in_order goes_left (sha256 child) other) ++ (child ++ rest)
linked-parts len goes_left other sealed hole child rest long room same =
    let whole = (sealed ++ hole) ++ (child ++ rest) in
    let top : length (sealed ++ hole) ≡ len = omega (arith, length-append sealed hole) in
    let at : length sealed ≡ len - 64 = omega arith in
    let behind : drop len whole ≡ child ++ rest = drop_at (sealed ++ hole) (child ++ rest) len top in
    let front : take (len - 64) whole ≡ sealed = ap (take (len - 64)) (append_assoc sealed hole (child ++ rest)) ∙ take_at sealed (hole ++ (child ++ rest)) (len - 64) at in
    let next : take len (drop len whole) ≡ child = ap (take len) behind ∙ take_at child rest len same in
    ap (λ (xs : List ℕ). xs ++ in_order goes_left (sha256 (take len (drop len whole))) other ++ drop len whole) front
    ∙ ap (λ (xs : List ℕ). sealed ++ in_order goes_left (sha256 xs) other ++ drop len whole) next
    ∙ ap (λ (xs : List ℕ). sealed ++ in_order goes_left (sha256 child) other ++ xs) behind

-- once the digests of its children are written, the first record is that of the subtree's top
pub linked-path : (seal : ℕ → List ℕ) (len h k b leaf on off : ℕ) (goes_left : Bool) (hole other : List ℕ) → ((x : ℕ) → length (seal x) + 64 ≡ len) → 0 < h → b ≡ node_count (h - 1)
    → goes_left ≡ ((leaf / 2 ^ (h - 1)) % 2 == 0) → on ≡ (if goes_left then k else k + b) → off ≡ (if goes_left then k + b else k) → length hole ≡ 64 → other ≡ sha256 (root_record seal (h - 1) off)
    → linked len goes_left other ((seal (k + 2 * b) ++ hole) ++ subtree_path seal (h - 1) on leaf) ≡ subtree_path seal h k leaf
linked-path seal len h k b leaf on off goes_left hole other each some below side on_is off_is room other_is =
    let f = path-front seal (h - 1) on leaf in
    let child = root_record seal (h - 1) on in
    let on_path_is : on ≡ on_path h k b leaf = on_is ∙ ap (λ (s : Bool). if s then k else k + b) side in
    ap (λ (p : List ℕ). linked len goes_left other ((seal (k + 2 * b) ++ hole) ++ p)) f.1
    ∙ linked-parts len goes_left other (seal (k + 2 * b)) hole child f.0 (each (k + 2 * b)) room (length-root_record seal len (h - 1) on each)
    ∙ ap (λ (p : List ℕ). (seal (k + 2 * b) ++ in_order goes_left (sha256 child) other) ++ p) (sym f.1)
    ∙ ap (λ (r : List ℕ). r ++ subtree_path seal (h - 1) on leaf) (top goes_left on_is off_is)
    ∙ ap (λ (x : ℕ). root_record seal h k ++ subtree_path seal (h - 1) x leaf) on_path_is
    ∙ sym (path-inner seal h k b leaf some below)
  where
    top : (s : Bool) → on ≡ (if s then k else k + b) → off ≡ (if s then k + b else k) → seal (k + 2 * b) ++ in_order s (sha256 (root_record seal (h - 1) on)) other ≡ root_record seal h k
    top true one two = inner_record seal h k b _ _ some below (ap (λ (x : ℕ). sha256 (root_record seal (h - 1) x)) one) (other_is ∙ ap (λ (x : ℕ). sha256 (root_record seal (h - 1) x)) two)
    top false one two = inner_record seal h k b _ _ some below (other_is ∙ ap (λ (x : ℕ). sha256 (root_record seal (h - 1) x)) two) (ap (λ (x : ℕ). sha256 (root_record seal (h - 1) x)) one)

-- Below, a vector has `old`, then the subtree's first record without its digests, and then the records of the path below it.

length-zeros : length zeros ≡ 64
length-zeros = length-append no_digest no_digest ∙ omega (arith, length-replicate {A = ℕ} 32 0)

-- the first record and the next one are whole
pub two_records : (seal : ℕ → List ℕ) (len h n on leaf : ℕ) (old items now : List ℕ) (start mid : ℕ) → ((x : ℕ) → length (seal x) + 64 ≡ len)
    → items ≡ old ++ (seal n ++ zeros) ++ subtree_path seal h on leaf → now ≡ items → start ≡ length old → mid ≡ length (old ++ (seal n ++ zeros))
    → 2 * (mid - start) ≤ length (take (length now - start) (drop start now))
two_records seal len h n on leaf old items now start mid each is same at end =
    let top = seal n ++ zeros in
    let below = subtree_path seal h on leaf in
    let rest : drop start now ≡ top ++ below = ap (drop start) (same ∙ is ∙ append_assoc old top below) ∙ drop_at old (top ++ below) start (sym at) in
    omega (
      arith,
      ap (λ (xs : List ℕ). length (take (length now - start) xs)) (sym rest),
      length-take-le (length now - start) (drop start now) (omega (arith, length-drop start now)),
      length-drop start now,
      ap length rest,
      length-append top below,
      length-append (seal n) zeros,
      length-zeros,
      each n,
      length-append old top,
      length-path-front seal len h on leaf each,
    )

-- after the digests are written, it has the records of the path
pub linked_in_place : (seal : ℕ → List ℕ) (len h k b leaf on off : ℕ) (goes_left : Bool) (other old items now new : List ℕ) (start mid n : ℕ)
    → ((x : ℕ) → length (seal x) + 64 ≡ len) → 0 < h → b ≡ node_count (h - 1)
    → goes_left ≡ ((leaf / 2 ^ (h - 1)) % 2 == 0) → on ≡ (if goes_left then k else k + b) → off ≡ (if goes_left then k + b else k) → other ≡ sha256 (root_record seal (h - 1) off)
    → items ≡ old ++ (seal (k + 2 * b) ++ zeros) ++ subtree_path seal (h - 1) on leaf → now ≡ items → start ≡ length old → mid ≡ length (old ++ (seal (k + 2 * b) ++ zeros)) → n ≡ length items
    → new ≡ linked (mid - start) goes_left other (take (length now - start) (drop start now)) → length new ≡ length (take (length now - start) (drop start now))
    → take n (put_mid start (length now - start) now new ++ drop (length (put_mid start (length now - start) now new)) items) ≡ old ++ subtree_path seal h k leaf
linked_in_place seal len h k b leaf on off goes_left other old items now new start mid n each some below side on_is off_is other_is is same at end whole written kept =
    let top = seal (k + 2 * b) ++ zeros in
    let path = subtree_path seal (h - 1) on leaf in
    let split : items ≡ old ++ (top ++ path) = is ∙ append_assoc old top path in
    let rest : drop start now ≡ top ++ path = ap (drop start) (same ∙ split) ∙ drop_at old (top ++ path) start (sym at) in
    let width : mid - start ≡ len = omega (arith, length-append old top, length-append (seal (k + 2 * b)) zeros, length-zeros, each (k + 2 * b)) in
    let records : take (length now - start) (drop start now) ≡ top ++ path = take_rest now start ∙ rest in
    let within : start ≤ length items = omega (arith, ap length split, length-append old (top ++ path)) in
    let new_len : length new ≡ length items - start = kept ∙ ap length (take_rest now start) ∙ length-drop start now ∙ ap (λ (xs : List ℕ). length xs - start) same in
    let new_is : new ≡ subtree_path seal h k leaf =
    written ∙ ap (λ (xs : List ℕ). linked (mid - start) goes_left other xs) records ∙ ap (λ (l : ℕ). linked l goes_left other (top ++ path)) width
    ∙ linked-path seal len h k b leaf on off goes_left zeros other each some below side on_is off_is length-zeros other_is in
    tail_written items now new start n same whole within new_len
    ∙ ap (λ (xs : List ℕ). xs ++ new) (ap (take start) split ∙ take_at old (top ++ path) start (sym at))
    ∙ ap (λ (xs : List ℕ). old ++ xs) new_is
