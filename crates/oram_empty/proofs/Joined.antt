-- The records of a path, one behind the other.
use Rattle.std.proofs.Common.{◌≡◌, ℕ, zero, suc, ◌+◌, ◌-◌, ◌*◌, ◌/◌, ◌%◌, ◌^◌, ◌<◌, ◌≤◌, ◌==◌, Bool, true, false, if◌then◌else◌, List, [], ◌++◌, length, refl, ap, sym, ◌∙◌, append_assoc, arith}
use Rattle.std.proofs.lemmas.Bool.{le-ltb, lt-ltb}
use Rattle.std.proofs.lemmas.List.{append-nil, length-append, length-replicate, drop_at}
use Rattle.sha2.specs.Sha256.{sha256}
use Rattle.sha2.proofs.Facts256.{length-sha256}
use Rattle.oram_geometry.specs.declared.Sizes.{Sizes}
use Rattle.oram_geometry.specs.Sizes.{trees_of, depth_of, bucket_len, record_len_of}
use Rattle.oram_geometry.specs.Path.{node_on}
use Rattle.oram_hash.specs.Record.{is_left_child}
use Rattle.oram_hash.proofs.Paths.{is_left_child-node_on}
use Rattle.oram_bucket.specs.Bucket.{spelling}
use Rattle.oram_bucket.specs.Cipher.{Cipher, IsCipher}
use Rattle.oram_tree.specs.Content.{node_count}
use Rattle.oram_tree.specs.Subtree.{root_record}
use Rattle.oram_tree.proofs.Puts.{root_record-inner}
use Rattle.oram_semantics.specs.Nonces.{formatted_below}
use Rattle.oram_empty.specs.EmptyRecords.{IsExtended, begins_at, empty_record, joined, seal_empty}
use Rattle.oram_empty.specs.SubtreePaths.{subtree_path}
use Rattle.oram_empty.specs.KeptDigests.{AreOfFormatting, Digests, children_in, digests_part, made_path, made_record, upper_record}
use Rattle.oram_empty.proofs.Counts.{begins-more}
use Rattle.oram_empty.proofs.Subtrees.{length-root_record}

pub joined-none : (f : ℕ → List ℕ) (a : ℕ) → joined f a 0 ≡ []
unfolding joined
joined-none f a = refl

pub joined-append : (f : ℕ → List ℕ) (a n m : ℕ) → joined f a n ++ joined f (a + n) m ≡ joined f a (n + m)
unfolding joined
joined-append f a zero m = (let e : a + 0 ≡ a = omega arith in ap (λ (x : ℕ). joined f x m) e) ∙ (let e : m ≡ 0 + m = omega arith in ap (joined f a) e)
joined-append f a (suc n) m =
    append_assoc (f a) (joined f (a + 1) n) (joined f (a + suc n) m)
    ∙ ap (λ (x : ℕ). f a ++ (joined f (a + 1) n ++ joined f x m)) (let e : a + suc n ≡ a + 1 + n = omega arith in e)
    ∙ ap (λ (xs : List ℕ). f a ++ xs) (joined-append f (a + 1) n m)
    ∙ (let e : suc (n + m) ≡ suc n + m = omega arith in ap (joined f a) e)

pub joined-more : (f : ℕ → List ℕ) (a n : ℕ) → joined f a (n + 1) ≡ joined f a n ++ f (a + n)
unfolding joined
joined-more f a n = sym (joined-append f a n 1) ∙ ap (λ (xs : List ℕ). joined f a n ++ xs) (append-nil (f (a + n)))

pub joined-same : (f g : ℕ → List ℕ) (a n : ℕ) → ((l : ℕ) → a ≤ l → l < a + n → f l ≡ g l) → joined f a n ≡ joined g a n
unfolding joined
joined-same f g a zero same = refl
joined-same f g a (suc n) same =
    ap (λ (xs : List ℕ). xs ++ joined f (a + 1) n) (same a (omega arith) (omega arith))
    ∙ ap (λ (xs : List ℕ). g a ++ xs) (joined-same f g (a + 1) n (λ l low high. same l (omega arith) (omega arith)))

pub length-joined : (f : ℕ → List ℕ) (len a n : ℕ) → ((l : ℕ) → a ≤ l → l < a + n → length (f l) ≡ len) → length (joined f a n) ≡ n * len
unfolding joined
length-joined f len a zero each = omega arith
length-joined f len a (suc n) each =
    let row : suc n * len ≡ len + n * len = omega arith in
    omega (arith, length-append (f a) (joined f (a + 1) n), each a (omega arith) (omega arith), length-joined f len (a + 1) n (λ l low high. each l (omega arith) (omega arith)))

-- the path in the subtree of the node at a level of a leaf's path has the records from this level on
child_begins : (s : Bool) (k n : ℕ) → (if s then k else k + n) ≡ k + (if s then 0 else n)
child_begins true k n = omega arith
child_begins false k n = refl

pub path-joined : (seal : ℕ → List ℕ) (base depth leaf h level : ℕ) → level + h ≡ depth
    → subtree_path seal h (begins_at base depth leaf level) leaf ≡ joined (λ l. root_record seal (depth - l) (begins_at base depth leaf l)) level (suc h)
unfolding subtree_path joined
path-joined seal base depth leaf zero level whole =
    let e : 0 ≡ depth - level = omega arith in
    ap (λ (g : ℕ). root_record seal g (begins_at base depth leaf level)) e ∙ sym (append-nil (root_record seal (depth - level) (begins_at base depth leaf level)))
path-joined seal base depth leaf (suc h) level whole =
    let e : suc h ≡ depth - level = omega arith in
    let d : depth - (level + 1) ≡ h = omega arith in
    let k = begins_at base depth leaf level in
    let side : is_left_child (node_on depth leaf (level + 1)) ≡ ((leaf / 2 ^ h) % 2 == 0) = is_left_child-node_on depth leaf (level + 1) (omega arith) ∙ ap (λ (x : ℕ). (leaf / 2 ^ x) % 2 == 0) d in
    let next : (if (leaf / 2 ^ h) % 2 == 0 then k else k + node_count h) ≡ begins_at base depth leaf (level + 1) =
    child_begins ((leaf / 2 ^ h) % 2 == 0) k (node_count h)
    ∙ ap (λ (s : Bool). k + (if s then 0 else node_count h)) (sym side)
    ∙ ap (λ (x : ℕ). k + (if is_left_child (node_on depth leaf (level + 1)) then 0 else node_count x)) (sym d)
    ∙ sym (begins-more base depth leaf level) in
    ap (λ (x : ℕ). root_record seal (suc h) k ++ subtree_path seal h x leaf) next
    ∙ ap (λ (xs : List ℕ). root_record seal (suc h) k ++ xs) (path-joined seal base depth leaf h (level + 1) (omega arith))
    ∙ ap (λ (g : ℕ). root_record seal g k ++ joined (λ l. root_record seal (depth - l) (begins_at base depth leaf l)) (level + 1) (suc h)) e

-- the two digests that end the record of an inner node
pub digests-inner : (seal : ℕ → List ℕ) (h k : ℕ) → 0 < h
    → digests_part (root_record seal h k) ≡ sha256 (root_record seal (h - 1) k) ++ sha256 (root_record seal (h - 1) (k + node_count (h - 1)))
digests-inner seal h k some =
    let l = sha256 (root_record seal (h - 1) k) in
    let r = sha256 (root_record seal (h - 1) (k + node_count (h - 1))) in
    let s = seal (k + 2 * node_count (h - 1)) in
    let is : root_record seal h k ≡ s ++ (l ++ r) = root_record-inner seal h k (node_count (h - 1)) l r some refl refl refl ∙ append_assoc s l r in
    ap digests_part is
    ∙ drop_at s (l ++ r) (length (s ++ (l ++ r)) - 64) (omega (arith, length-append s (l ++ r), length-append l r, length-sha256 (root_record seal (h - 1) k), length-sha256 (root_record seal (h - 1) (k + node_count (h - 1)))))

pub record-inner : (seal : ℕ → List ℕ) (h k : ℕ) → 0 < h → seal (k + 2 * node_count (h - 1)) ++ digests_part (root_record seal h k) ≡ root_record seal h k
record-inner seal h k some =
    let l = sha256 (root_record seal (h - 1) k) in
    let r = sha256 (root_record seal (h - 1) (k + node_count (h - 1))) in
    let s = seal (k + 2 * node_count (h - 1)) in
    ap (λ (ds : List ℕ). s ++ ds) (digests-inner seal h k some) ∙ sym (append_assoc s l r) ∙ sym (root_record-inner seal h k (node_count (h - 1)) l r some refl refl refl)

-- with the digests of the formatting the upper records are those of the formatting
pub upper_is : (cipher : Cipher) (s : Digests) (tree leaf level : ℕ) → AreOfFormatting cipher s → tree < trees_of s.device → leaf < 2 ^ depth_of s.device tree → level + 3 < depth_of s.device tree
    → upper_record cipher s tree leaf level ≡ empty_record cipher s.device tree leaf level
upper_is cipher s tree leaf level are tree_in leaf_in low =
    let d = s.device in
    let depth = depth_of d tree in
    let k = begins_at (formatted_below d tree) depth leaf level in
    let seal = seal_empty cipher d in
    let e : depth - (level + 1) ≡ depth - level - 1 = omega arith in
    ap (λ (ds : List ℕ). seal (k + 2 * node_count (depth - (level + 1))) ++ ds) (are.each tree leaf level tree_in leaf_in low)
    ∙ ap (λ (x : ℕ). seal (k + 2 * node_count x) ++ digests_part (empty_record cipher d tree leaf level)) e
    ∙ record-inner seal (depth - level) k (omega arith)

-- the empty bucket's bytes fill its slots
pub length-empty : (d : Sizes) → length (spelling d []) ≡ bucket_len d
unfolding spelling
length-empty d = length-replicate {A = ℕ} ((d.slots - 0) * (8 + d.block_bytes)) 0 ∙ ap (λ (n : ℕ). n * (8 + d.block_bytes)) (let e : d.slots - 0 ≡ d.slots = omega arith in e)

pub length-sealed : (cipher : Cipher) (d : Sizes) → IsCipher cipher → (n : ℕ) → length (seal_empty cipher d n) + 64 ≡ record_len_of d cipher.overhead
unfolding record_len_of
length-sealed cipher d law n = omega (arith, law.longer n (spelling d []), length-empty d)

pub length-upper : (cipher : Cipher) (s : Digests) (tree leaf level : ℕ) → IsCipher cipher → length (children_in s.device s.bytes tree (node_on (depth_of s.device tree) leaf level)) ≡ 64
    → length (upper_record cipher s tree leaf level) ≡ record_len_of s.device cipher.overhead
length-upper cipher s tree leaf level law pair =
    let d = s.device in
    let n = begins_at (formatted_below d tree) (depth_of d tree) leaf level + 2 * node_count (depth_of d tree - (level + 1)) in
    omega (arith, length-append (seal_empty cipher d n) (children_in d s.bytes tree (node_on (depth_of d tree) leaf level)), length-sealed cipher d law n)

-- the steps of the loop that appends the records above

pub none_appended : (f : ℕ → List ℕ) (a : ℕ) (old : List ℕ) → old ≡ old ++ joined f a (a - a)
none_appended f a old = sym (append-nil old) ∙ ap (λ (xs : List ℕ). old ++ xs) (sym (joined-none f a)) ∙ ap (λ (n : ℕ). old ++ joined f a n) (let e : 0 ≡ a - a = omega arith in e)

pub one_more_appended : (f : ℕ → List ℕ) (a level : ℕ) (old mid new : List ℕ) → a ≤ level → mid ≡ old ++ joined f a (level - a) → new ≡ mid ++ f level → new ≡ old ++ joined f a (level + 1 - a)
one_more_appended f a level old mid new h so_far here =
    here ∙ ap (λ (xs : List ℕ). xs ++ f level) so_far ∙ append_assoc old (joined f a (level - a)) (f level)
    ∙ ap (λ (l : ℕ). old ++ (joined f a (level - a) ++ f l)) (let e : level ≡ a + (level - a) = omega arith in e)
    ∙ ap (λ (xs : List ℕ). old ++ xs) (sym (joined-more f a (level - a)))
    ∙ ap (λ (n : ℕ). old ++ joined f a n) (let e : level - a + 1 ≡ level + 1 - a = omega arith in e)

pub extended_by : (old mid new kept : List ℕ) → mid ≡ old ++ kept → IsExtended mid new → IsExtended old new
extended_by old mid new kept is (more, here) = (kept ++ more, here ∙ ap (λ (xs : List ℕ). xs ++ more) is ∙ append_assoc old kept more)

-- The parts of a path that were appended: upper records down to a level, and from there on those of a subtree.

pub below_is : (cipher : Cipher) (s : Digests) (tree leaf level dep nonce : ℕ) (plain : List ℕ) → level ≤ depth_of s.device tree → dep ≡ depth_of s.device tree → plain ≡ spelling s.device []
    → nonce ≡ begins_at (formatted_below s.device tree) (depth_of s.device tree) leaf level
    → subtree_path (λ n. cipher.sealing n plain) (dep - level) nonce leaf ≡ joined (empty_record cipher s.device tree leaf) level (depth_of s.device tree + 1 - level)
below_is cipher s tree leaf level dep nonce plain within dep_is plain_is nonce_is =
    let d = s.device in
    let depth = depth_of d tree in
    let e : suc (depth - level) ≡ depth + 1 - level = omega arith in
    ap (λ (xs : List ℕ). subtree_path (λ n. cipher.sealing n xs) (dep - level) nonce leaf) plain_is
    ∙ ap (λ (x : ℕ). subtree_path (seal_empty cipher d) (x - level) nonce leaf) dep_is
    ∙ ap (λ (x : ℕ). subtree_path (seal_empty cipher d) (depth - level) x leaf) nonce_is
    ∙ path-joined (seal_empty cipher d) (formatted_below d tree) depth leaf (depth - level) level (omega arith)
    ∙ ap (joined (empty_record cipher d tree leaf) level) e

-- which of the two records is made
pub made_upper : (cipher : Cipher) (s : Digests) (tree leaf level : ℕ) → level + 3 < depth_of s.device tree → upper_record cipher s tree leaf level ≡ made_record cipher s tree leaf level
made_upper cipher s tree leaf level low =
    sym (ap (λ (b : Bool). if b then upper_record cipher s tree leaf level else empty_record cipher s.device tree leaf level) (lt-ltb (level + 3) (depth_of s.device tree) low))

pub made_below : (cipher : Cipher) (s : Digests) (tree leaf level : ℕ) → depth_of s.device tree ≤ level + 3 → empty_record cipher s.device tree leaf level ≡ made_record cipher s tree leaf level
made_below cipher s tree leaf level low =
    sym (ap (λ (b : Bool). if b then upper_record cipher s tree leaf level else empty_record cipher s.device tree leaf level) (le-ltb (level + 3) (depth_of s.device tree) low))

pub whole_path : (cipher : Cipher) (s : Digests) (tree leaf first level : ℕ) (old mid new path : List ℕ)
    → first ≤ level → level ≤ depth_of s.device tree → (first < level → level + 3 ≤ depth_of s.device tree) → depth_of s.device tree ≤ level + 3
    → mid ≡ old ++ joined (upper_record cipher s tree leaf) first (level - first)
    → path ≡ joined (empty_record cipher s.device tree leaf) level (depth_of s.device tree + 1 - level) → new ≡ mid ++ path
    → new ≡ old ++ made_path cipher s tree leaf first
whole_path cipher s tree leaf first level old mid new path above within low high mid_is path_is new_is =
    let d = s.device in
    let depth = depth_of d tree in
    let f = made_record cipher s tree leaf in
    let top : joined (upper_record cipher s tree leaf) first (level - first) ≡ joined f first (level - first) =
    joined-same (upper_record cipher s tree leaf) f first (level - first) (λ l from to. made_upper cipher s tree leaf l (omega (arith, low (omega arith)))) in
    let bottom : joined (empty_record cipher d tree leaf) level (depth + 1 - level) ≡ joined f level (depth + 1 - level) =
    joined-same (empty_record cipher d tree leaf) f level (depth + 1 - level) (λ l from to. made_below cipher s tree leaf l (omega arith)) in
    let at : level ≡ first + (level - first) = omega arith in
    let count : level - first + (depth + 1 - level) ≡ depth + 1 - first = omega arith in
    new_is ∙ ap (λ (xs : List ℕ). xs ++ path) (mid_is ∙ ap (λ (xs : List ℕ). old ++ xs) top)
    ∙ ap (λ (xs : List ℕ). old ++ joined f first (level - first) ++ xs) (path_is ∙ bottom ∙ ap (λ (l : ℕ). joined f l (depth + 1 - level)) at)
    ∙ append_assoc old (joined f first (level - first)) (joined f (first + (level - first)) (depth + 1 - level))
    ∙ ap (λ (xs : List ℕ). old ++ xs) (joined-append f first (level - first) (depth + 1 - level) ∙ ap (joined f first) count)

pub length-empty_record : (cipher : Cipher) (d : Sizes) (tree leaf level : ℕ) → IsCipher cipher → length (empty_record cipher d tree leaf level) ≡ record_len_of d cipher.overhead
length-empty_record cipher d tree leaf level law = length-root_record (seal_empty cipher d) (record_len_of d cipher.overhead) (depth_of d tree - level) (begins_at (formatted_below d tree) (depth_of d tree) leaf level) (length-sealed cipher d law)

pub whole_len : (cipher : Cipher) (s : Digests) (tree leaf first level : ℕ) (old mid new path : List ℕ) → IsCipher cipher → first ≤ level → level ≤ depth_of s.device tree
    → mid ≡ old ++ joined (upper_record cipher s tree leaf) first (level - first)
    → ((k : ℕ) → first ≤ k → k < level → length (upper_record cipher s tree leaf k) ≡ record_len_of s.device cipher.overhead)
    → path ≡ joined (empty_record cipher s.device tree leaf) level (depth_of s.device tree + 1 - level) → new ≡ mid ++ path
    → (more : List ℕ) × (new ≡ old ++ more) × (length more ≡ (depth_of s.device tree + 1 - first) * record_len_of s.device cipher.overhead)
whole_len cipher s tree leaf first level old mid new path law above within mid_is each path_is new_is =
    let d = s.device in
    let depth = depth_of d tree in
    let len = record_len_of d cipher.overhead in
    let top = joined (upper_record cipher s tree leaf) first (level - first) in
    let count : (level - first) * len + (depth + 1 - level) * len ≡ (depth + 1 - first) * len =
    sym (right_mul (level - first) (depth + 1 - level) len) ∙ ap (λ (n : ℕ). n * len) (let e : level - first + (depth + 1 - level) ≡ depth + 1 - first = omega arith in e) in (
      top ++ path,
      new_is ∙ ap (λ (xs : List ℕ). xs ++ path) mid_is ∙ append_assoc old top path,
      length-append top path
          ∙ ap (λ (n : ℕ). n + length path) (length-joined (upper_record cipher s tree leaf) len first (level - first) (λ l from to. each l from (omega arith)))
          ∙ ap (λ (n : ℕ). (level - first) * len + n) (ap length path_is ∙ length-joined (empty_record cipher d tree leaf) len level (depth + 1 - level) (λ l from to. length-empty_record cipher d tree leaf l law))
          ∙ count,
    )
  where
    right_mul : (a b n : ℕ) → (a + b) * n ≡ a * n + b * n
    right_mul a b n = omega arith
