-- The records that formatting puts form a stored tree of empty buckets.
use Rattle.std.proofs.Common.{◌≡◌, ℕ, zero, suc, ◌+◌, ◌-◌, ◌*◌, ◌/◌, ◌%◌, ◌^◌, ◌<◌, ◌≤◌, List, [], ◌∷◌, ◌++◌, length, get_or, map, Contains, Result, Ok, Err, IfOk, OnOk, true, false, cond, nat_eq, replicate, inl, inr, refl, sym, ap, subst, ◌∙◌, arith}
use Rattle.std.proofs.lemmas.Bool.{cases_lt}
use Rattle.std.proofs.lemmas.Bool.Decides.{Decides-eqb, eqb_tells}
use Rattle.std.proofs.lemmas.List.{map-append, length-append, length-replicate, get_or_append_left, get_or-append-add}
use Rattle.sha2.specs.Sha256.{sha256}
use Rattle.sha2.proofs.Facts256.{length-sha256}
use Rattle.oram_hash.specs.Record.{HoldsDigests, no_digest, sealed_part}
use Rattle.oram_hash.proofs.Rebuilds.{sealed_part-joined, left_digest-joined, right_digest-joined}
use Rattle.oram_hash.specs.Tree.{IsStored}
use Rattle.oram_geometry.specs.declared.Sizes.{Sizes}
use Rattle.oram_geometry.specs.Sizes.{IsDevice, depth_of, bucket_len, record_len_of}
use Rattle.oram_wire.specs.HostMessages.{put_body, shape_body}
use Rattle.oram_bucket.specs.Cipher.{Cipher, IsCipher}
use Rattle.oram_bucket.specs.Cell.{Cell}
use Rattle.oram_bucket.specs.Bytes.{IsBytes}
use Rattle.oram_bucket.specs.Bucket.{IsBucketOf, spelling}
use Rattle.oram_bucket.specs.SealedBlocks.{Reads}
use Rattle.oram_tree.specs.Content.{Holds, node_count, no_blocks, HasContent}
use Rattle.oram_tree.specs.State.{State}
use Rattle.oram_tree.specs.Format.{PutsAll, post_order, IsFormat, IsBegun}
use Rattle.oram_tree.specs.Subtree.{puts, root_record, IsStartOf}
use Rattle.oram_tree.proofs.Content.{IsUnique, reads_uniquely}
use Rattle.oram_tree.proofs.Grown.{IsGrown, grown_stands, all_grown}
use Rattle.oram_tree.proofs.Puts.{node_count-twice}

-- a subtree: its height, and the nonce of its first PUT
record Spot : Type 0 where
  height : ℕ
  start : ℕ

unfoldable child : Spot → ℕ → Spot
child s n = record { height = s.height - 1; start = cond (nat_eq (n % 2) 1) s.start (s.start + node_count (s.height - 1)) }

-- the subtree of a node
unfoldable spot : ℕ → ℕ → ℕ → ℕ → Spot
spot d k zero m = record { height = d; start = k }
spot d k (suc f) zero = record { height = d; start = k }
spot d k (suc f) (suc m) = child (spot d k f (m / 2)) (suc m)

spot-fuel : (d k f g m : ℕ) → m ≤ f → m ≤ g → spot d k f m ≡ spot d k g m
unfolding spot
spot-fuel d k zero zero m a b = refl
spot-fuel d k zero (suc g) zero a b = refl
spot-fuel d k zero (suc g) (suc m) a b = absurd (omega arith)
spot-fuel d k (suc f) zero zero a b = refl
spot-fuel d k (suc f) zero (suc m) a b = absurd (omega arith)
spot-fuel d k (suc f) (suc g) zero a b = refl
spot-fuel d k (suc f) (suc g) (suc m) a b = ap (λ (s : Spot). child s (suc m)) (spot-fuel d k f g (m / 2) (omega arith) (omega arith))

spot-next : (d k n m : ℕ) → m / 2 ≡ n → spot d k (suc m) (suc m) ≡ child (spot d k n n) (suc m)
unfolding spot
spot-next d k n m half = ap (λ (s : Spot). child s (suc m)) (ap (λ (x : ℕ). spot d k m x) half ∙ spot-fuel d k m n n (omega arith) (omega arith))

at : ℕ → ℕ → Spot
at h k = record { height = h; start = k }

child-left : (h k n : ℕ) → (let s : Spot = record { height = suc h; start = k } in child s (2 * n + 1) ≡ record { height = h; start = k })
unfolding child
child-left h k n =
    let odd : nat_eq ((2 * n + 1) % 2) 1 ≡ true = (Decides-eqb ((2 * n + 1) % 2) 1).1 (omega arith) in
    let e : suc h - 1 ≡ h = omega arith in
    rw (odd, e) refl

child-right : (h k n : ℕ) → (let s : Spot = record { height = suc h; start = k } in child s (2 * n + 2) ≡ record { height = h; start = k + node_count h })
unfolding child
child-right h k n =
    let even : nat_eq ((2 * n + 2) % 2) 1 ≡ false = elim (eqb_tells ((2 * n + 2) % 2) 1) [ inl (test, same) ↦ absurd (omega arith) | inr (test, differs) ↦ test ] in
    let e : suc h - 1 ≡ h = omega arith in
    rw (even, e) refl

-- this is the subtree of node n
abbrev IsAt : ℕ → ℕ → ℕ → ℕ → ℕ → Type 0
IsAt d k0 n h k = (let s : Spot = record { height = h; start = k } in spot d k0 n n ≡ s)

IsAt-left : (d k0 n h k : ℕ) → IsAt d k0 n (suc h) k → IsAt d k0 (2 * n + 1) h k
IsAt-left d k0 n h k here =
    let e : 2 * n + 1 ≡ suc (2 * n) = omega arith in
    let next = spot-next d k0 n (2 * n) (omega arith) in
    ap (λ (x : ℕ). spot d k0 x x) e ∙ next ∙ ap (λ (x : ℕ). child (spot d k0 n n) x) (sym e) ∙ ap (λ (s : Spot). child s (2 * n + 1)) here ∙ child-left h k n

IsAt-right : (d k0 n h k : ℕ) → IsAt d k0 n (suc h) k → IsAt d k0 (2 * n + 2) h (k + node_count h)
IsAt-right d k0 n h k here =
    let e : 2 * n + 2 ≡ suc (2 * n + 1) = omega arith in
    let next = spot-next d k0 n (2 * n + 1) (omega arith) in
    ap (λ (x : ℕ). spot d k0 x x) e ∙ next ∙ ap (λ (x : ℕ). child (spot d k0 n n) x) (sym e) ∙ ap (λ (s : Spot). child s (2 * n + 2)) here ∙ child-right h k n

-- the record of a node
unfoldable records_of : (ℕ → List ℕ) → ℕ → ℕ → ℕ → List ℕ
records_of seal d k0 n = let s = spot d k0 n n in root_record seal s.height s.start

record_is : (seal : ℕ → List ℕ) (d k0 n h k : ℕ) → IsAt d k0 n h k → records_of seal d k0 n ≡ root_record seal h k
unfolding records_of
record_is seal d k0 n h k here = ap (λ (s : Spot). root_record seal s.height s.start) here

-- the PUTs are those of these records, in order
puts_are : (seal : ℕ → List ℕ) (tree d k0 h k n : ℕ) → IsAt d k0 n h k → puts seal tree h k n ≡ map (λ m. put_body tree m (records_of seal d k0 m)) (post_order h n)
unfolding puts post_order
puts_are seal tree d k0 zero k n here = ap (λ (r : List ℕ). put_body tree n r ∷ []) (sym (record_is seal d k0 n zero k here))
puts_are seal tree d k0 (suc h) k n here =
    let f = λ (m : ℕ). put_body tree m (records_of seal d k0 m) in
    let left = puts_are seal tree d k0 h k (2 * n + 1) (IsAt-left d k0 n h k here) in
    let right = puts_are seal tree d k0 h (k + node_count h) (2 * n + 2) (IsAt-right d k0 n h k here) in
    let top : put_body tree n (root_record seal (suc h) k) ∷ [] ≡ map f (n ∷ []) = ap (λ (r : List ℕ). put_body tree n r ∷ []) (sym (record_is seal d k0 n (suc h) k here)) in
    let split = map-append f (post_order h (2 * n + 1) ++ post_order h (2 * n + 2)) (n ∷ []) in
    let split2 = map-append f (post_order h (2 * n + 1)) (post_order h (2 * n + 2)) in
    rw (left, right) (ap (λ (x : List (List ℕ)). map f (post_order h (2 * n + 1)) ++ map f (post_order h (2 * n + 2)) ++ x) top ∙ ap (λ (x : List (List ℕ)). x ++ map f (n ∷ [])) (sym split2) ∙ sym split)

length-post_order : (h n : ℕ) → length (post_order h n) ≡ node_count h
unfolding post_order
length-post_order zero n = refl
length-post_order (suc h) n =
    let a = post_order h (2 * n + 1) in
    let b = post_order h (2 * n + 2) in
    let up = node_count-twice (suc h) (omega arith) in
    let e : suc h - 1 ≡ h = omega arith in
    let half : node_count (suc h - 1) ≡ node_count h = ap node_count e in
    omega (arith, length-append (a ++ b) (n ∷ []), length-append a b, length-post_order h (2 * n + 1), length-post_order h (2 * n + 2), up, half)

sealed_top : (seal : ℕ → List ℕ) (h k : ℕ) → (x : ℕ) × (sealed_part (root_record seal h k) ≡ seal x) × (k ≤ x) × (x < k + node_count h)
unfolding root_record
sealed_top seal zero k = (k, sealed_part-joined (seal k) no_digest no_digest refl refl, omega arith, omega arith)
sealed_top seal (suc h) k =
    let up = node_count-twice (suc h) (omega arith) in
    let e : suc h - 1 ≡ h = omega arith in
    let half : node_count (suc h - 1) ≡ node_count h = ap node_count e in (
      k + 2 * node_count h,
      sealed_part-joined (seal (k + 2 * node_count h)) (sha256 (root_record seal h k)) (sha256 (root_record seal h (k + node_count h))) (length-sha256 _) (length-sha256 _),
      omega arith,
      omega (arith, up, half),
    )

-- the nonces rise in the order of the PUTs
sealed_are : (seal : ℕ → List ℕ) (d k0 h k n : ℕ) → IsAt d k0 n h k → (j : ℕ) → j < node_count h → sealed_part (records_of seal d k0 (get_or (post_order h n) j 0)) ≡ seal (k + j)
unfolding post_order root_record
sealed_are seal d k0 zero k n here j lt =
    let first : j ≡ 0 = omega arith in
    rw first (ap sealed_part (record_is seal d k0 n zero k here) ∙ sealed_part-joined (seal k) no_digest no_digest refl refl ∙ ap seal (let z : k ≡ k + 0 = omega arith in z))
sealed_are seal d k0 (suc h) k n here j lt =
    let a = post_order h (2 * n + 1) in
    let b = post_order h (2 * n + 2) in
    let la = length-post_order h (2 * n + 1) in
    let lb = length-post_order h (2 * n + 2) in
    let lab = length-append a b in
    let up = node_count-twice (suc h) (omega arith) in
    let e : suc h - 1 ≡ h = omega arith in
    let half : node_count (suc h - 1) ≡ node_count h = ap node_count e in
    let R = λ (m : ℕ). sealed_part (records_of seal d k0 m) in
    elim (cases_lt j (node_count h)) [
      | inl low ↦
          ap R (get_or_append_left (a ++ b) (n ∷ []) 0 j (omega (arith, la, lb, lab)) ∙ get_or_append_left a b 0 j (omega (arith, la)))
          ∙ sealed_are seal d k0 h k (2 * n + 1) (IsAt-left d k0 n h k here) j low
      | inr not_low ↦ elim (cases_lt j (2 * node_count h)) [
        | inl mid ↦
            let i = j - node_count h in
            let at : j ≡ length a + i = omega (arith, la) in
            ap R (get_or_append_left (a ++ b) (n ∷ []) 0 j (omega (arith, la, lb, lab)) ∙ ap (λ (x : ℕ). get_or (a ++ b) x 0) at ∙ get_or-append-add a b i 0)
            ∙ sealed_are seal d k0 h (k + node_count h) (2 * n + 2) (IsAt-right d k0 n h k here) i (omega arith)
            ∙ ap seal (let s : k + node_count h + i ≡ k + j = omega arith in s)
        | inr high ↦
            let last : j ≡ 2 * node_count h = omega (arith, up, half) in
            let at : j ≡ length (a ++ b) + 0 = omega (arith, la, lb, lab) in
            ap R (ap (λ (x : ℕ). get_or (a ++ b ++ n ∷ []) x 0) at ∙ get_or-append-add (a ++ b) (n ∷ []) 0 0)
            ∙ ap sealed_part (record_is seal d k0 n (suc h) k here)
            ∙ sealed_part-joined (seal (k + 2 * node_count h)) (sha256 (root_record seal h k)) (sha256 (root_record seal h (k + node_count h))) (length-sha256 _) (length-sha256 _)
            ∙ ap (λ (x : ℕ). seal (k + x)) (sym last)
      ]
    ]

-- a record's sealed part reads as the empty bucket
abbrev IsEmpty : (List ℕ → List Cell → Type 0) → List ℕ → Type 0
IsEmpty reads r = reads (sealed_part r) []

length-root_record : (seal : ℕ → List ℕ) (len h k : ℕ) → ((x : ℕ) → length (seal x) + 64 ≡ len) → length (root_record seal h k) ≡ len
unfolding root_record
length-root_record seal len zero k each = omega (arith, length-append (seal k ++ no_digest) no_digest, length-append (seal k) no_digest, length-replicate {A = ℕ} 32 0, each k)
length-root_record seal len (suc h) k each =
    let s = seal (k + 2 * node_count h) in
    let l = sha256 (root_record seal h k) in
    let r = sha256 (root_record seal h (k + node_count h)) in
    omega (arith, length-append (s ++ l) r, length-append s l, length-sha256 (root_record seal h k), length-sha256 (root_record seal h (k + node_count h)), each (k + 2 * node_count h))

empty_top : (reads : List ℕ → List Cell → Type 0) (seal : ℕ → List ℕ) (h k : ℕ) → ((x : ℕ) → k ≤ x → x < k + node_count h → reads (seal x) []) → IsEmpty reads (root_record seal h k)
empty_top reads seal h k each = let t = sealed_top seal h k in let P : List ℕ → Type 0 = λ s. reads s [] in subst P (sym t.1) (each t.0 t.2 t.3)

grown : (reads : List ℕ → List Cell → Type 0) (seal : ℕ → List ℕ) (len d k0 h k n : ℕ) → ((x : ℕ) → length (seal x) + 64 ≡ len) → ((x : ℕ) → k ≤ x → x < k + node_count h → reads (seal x) []) → IsAt d k0 n h k
    → IsGrown (IsEmpty reads) (records_of seal d k0) len h n
unfolding root_record
grown reads seal len d k0 zero k n long each here =
    let P : List ℕ → Type 0 = λ r. (length r ≡ len) × HoldsDigests r no_digest no_digest × IsEmpty reads r in
    subst P (sym (record_is seal d k0 n zero k here)) (
      length-root_record seal len zero k long,
      record { left_held = left_digest-joined (seal k) no_digest no_digest refl refl; right_held = right_digest-joined (seal k) no_digest no_digest refl refl },
      empty_top reads seal zero k each,
    )
grown reads seal len d k0 (suc h) k n long each here =
    let up = node_count-twice (suc h) (omega arith) in
    let e : suc h - 1 ≡ h = omega arith in
    let half : node_count (suc h - 1) ≡ node_count h = ap node_count e in
    let left_at = IsAt-left d k0 n h k here in
    let right_at = IsAt-right d k0 n h k here in
    let records = records_of seal d k0 in
    let here_is = record_is seal d k0 n (suc h) k here in
    let s = seal (k + 2 * node_count h) in
    let l = sha256 (root_record seal h k) in
    let r = sha256 (root_record seal h (k + node_count h)) in
    let l_is : l ≡ sha256 (records (2 * n + 1)) = ap sha256 (sym (record_is seal d k0 (2 * n + 1) h k left_at)) in
    let r_is : r ≡ sha256 (records (2 * n + 2)) = ap sha256 (sym (record_is seal d k0 (2 * n + 2) h (k + node_count h) right_at)) in
    let L : List ℕ → Type 0 = λ x. length x ≡ len in
    let D : List ℕ → Type 0 = λ x. HoldsDigests x (sha256 (records (2 * n + 1))) (sha256 (records (2 * n + 2))) in
    let E : List ℕ → Type 0 = IsEmpty reads in (
      subst L (sym here_is) (length-root_record seal len (suc h) k long),
      subst D (sym here_is) (record {
        left_held = left_digest-joined s l r (length-sha256 (root_record seal h k)) (length-sha256 (root_record seal h (k + node_count h))) ∙ l_is;
        right_held = right_digest-joined s l r (length-sha256 (root_record seal h k)) (length-sha256 (root_record seal h (k + node_count h))) ∙ r_is;
      }),
      grown reads seal len d k0 h k (2 * n + 1) long (λ x low high. each x low (omega (arith, up, half))) left_at,
      grown reads seal len d k0 h (k + node_count h) (2 * n + 2) long (λ x low high. each x (omega arith) (omega (arith, up, half))) right_at,
      subst E (sym here_is) (empty_top reads seal (suc h) k each),
    )

-- what is read as an empty bucket holds no block
holds_none : (reads : List ℕ → List Cell → Type 0) (r : List ℕ) (c : Cell) → IsUnique reads → IsEmpty reads r → Holds reads r c → ⊥
holds_none reads r c unique empty (cells, read, inside) =
    let P : List Cell → Type 0 = λ ds. Contains ds c in
    let there = subst P (unique (sealed_part r) cells [] read empty) inside in
    let h = there.1 in omega arith

-- records of empty buckets hold no blocks
empty_content : (reads : List ℕ → List Cell → Type 0) (records : ℕ → List ℕ) (depth : ℕ) → IsUnique reads → ((n : ℕ) → n < node_count depth → IsEmpty reads (records n)) → HasContent reads depth records [] no_blocks
empty_content reads records depth unique empty = record {
  readable = λ n within. ([], empty n within);
  on_own_path = λ n c within inside. absurd (holds_none reads (records n) c unique (empty n within) inside);
  once_in_tree = λ n m c d within within2 inside inside2 same. absurd (holds_none reads (records n) c unique (empty n within) inside);
  once_in_stash = λ i j d lt within. absurd (omega arith);
  once_in_all = λ n c d within inside stashed. absurd (holds_none reads (records n) c unique (empty n within) inside);
  from_tree = λ n c within inside. absurd (holds_none reads (records n) c unique (empty n within) inside);
  from_stash = λ c stashed. absurd (let h = stashed.1 in omega arith);
  held = λ address there. absurd (let f : false ≡ true = there in cc);
}

get_or-zeros : (n i : ℕ) → (let z : ℕ = 0 in get_or (replicate n z) i z ≡ z)
get_or-zeros zero i = refl
get_or-zeros (suc n) zero = refl
get_or-zeros (suc n) (suc i) = get_or-zeros n i

-- the empty bucket's bytes
bytes-empty : (s : Sizes) → IsBytes (spelling s [])
unfolding spelling
bytes-empty s i = omega (arith, get_or-zeros ((s.slots - 0) * (8 + s.block_bytes)) i)

length-empty : (s : Sizes) → length (spelling s []) ≡ bucket_len s
unfolding spelling
length-empty s = length-replicate {A = ℕ} ((s.slots - 0) * (8 + s.block_bytes)) 0 ∙ ap (λ (n : ℕ). n * (8 + s.block_bytes)) (let e : s.slots - 0 ≡ s.slots = omega arith in e)

empty_bucket : (s : Sizes) (i : ℕ) → IsBucketOf s i []
empty_bucket s i = record { within = omega arith; rising = λ j k d lt h. absurd (omega arith); blocks = λ k d h. absurd (omega arith) }

length-sealed : (s : Sizes) (overhead : ℕ) (sealed : List ℕ) → length sealed ≡ overhead + length (spelling s []) → length sealed + 64 ≡ record_len_of s overhead
unfolding record_len_of
length-sealed s overhead sealed longer = omega (arith, longer, length-empty s)

-- how a sealer seals the empty bucket
abbrev seal_empty : Cipher → Sizes → ℕ → List ℕ
seal_empty cipher d n = cipher.sealing n (spelling d [])

-- the sealed empty bucket is as long as a record has room for, and reads as empty
formed : (cipher : Cipher) (d : Sizes) (i nonce : ℕ) → IsDevice d → IsCipher cipher → nonce + node_count (depth_of d i) ≤ 2 ^ 64
    → (let t : State = record { number = i; root = sha256 (root_record (seal_empty cipher d) (depth_of d i) nonce); stash = [] } in
    IsFormat cipher d nonce t (shape_body i (depth_of d i) (record_len_of d cipher.overhead) ∷ puts (seal_empty cipher d) i (depth_of d i) nonce 0))
unfolding spot
formed cipher d i nonce of law fits =
    let depth = depth_of d i in
    let len = record_len_of d cipher.overhead in
    let seal = seal_empty cipher d in
    let reads = Reads cipher.opening d i in
    let here : IsAt depth nonce 0 depth nonce = refl in
    let records = records_of seal depth nonce in
    let whole = grown reads seal len depth nonce depth nonce 0
    (λ x. length-sealed d cipher.overhead (seal x) (law.longer x (spelling d [])))
    (λ x low high. record { plain = spelling d []; opens = law.undoes x (spelling d []) (omega arith) (bytes-empty d); spelled = record { bucket = empty_bucket d i; spelled = refl } })
    here in
    let S : List ℕ → Type 0 = λ root. IsStored depth len root records in
    record {
      records = records;
      bodies_are = ap (λ (bodies : List (List ℕ)). shape_body i depth len ∷ bodies) (puts_are seal i depth nonce depth nonce 0 here);
      sealed = λ j lt. sealed_are seal depth nonce depth nonce 0 here j lt;
      empty = record {
        stands = subst S (ap sha256 (record_is seal depth nonce 0 depth nonce here)) (grown_stands (IsEmpty reads) records len depth whole);
        holds = empty_content reads records depth (reads_uniquely cipher.opening d i of) (all_grown (IsEmpty reads) records len depth whole);
      };
    }

-- the messages and the result of a formatting
pub made : {K : Type 0} (putting : K → List ℕ → K → Type 0) (from next to : K) (cipher : Cipher) (d : Sizes) (i depth len nonce : ℕ) (shape root : List ℕ)
    → IsDevice d → depth ≡ depth_of d i → len ≡ record_len_of d cipher.overhead → IsCipher cipher
    → nonce + node_count (depth_of d i) ≤ 2 ^ 64 → shape ≡ shape_body i depth len → putting from shape next → PutsAll putting next (puts (seal_empty cipher d) i depth nonce 0) to
    → root ≡ sha256 (root_record (seal_empty cipher d) depth nonce)
    → (bodies : List (List ℕ)) × PutsAll putting from bodies to × (let t : State = record { number = i; root = root; stash = [] } in IsFormat cipher d nonce t bodies)
made putting from next to cipher d i depth len nonce shape root of depth_is len_is law fits shape_is first others root_is =
    let seal = seal_empty cipher d in
    let bodies = shape_body i (depth_of d i) (record_len_of d cipher.overhead) ∷ puts seal i (depth_of d i) nonce 0 in
    let body_is : shape ≡ shape_body i (depth_of d i) (record_len_of d cipher.overhead) = shape_is ∙ ap (λ (x : ℕ). shape_body i x len) depth_is ∙ ap (λ (x : ℕ). shape_body i (depth_of d i) x) len_is in
    let P = λ (x : ℕ). PutsAll putting next (puts seal i x nonce 0) to in
    let F = λ (x : List ℕ). putting from x next in
    let R = λ (x : List ℕ). let t : State = record { number = i; root = x; stash = [] } in IsFormat cipher d nonce t bodies in (
      bodies,
      (next, subst F body_is first, subst P depth_is others),
      subst R (sym (root_is ∙ ap (λ (x : ℕ). sha256 (root_record seal x nonce)) depth_is)) (formed cipher d i nonce of law fits),
    )

-- a beginning of a formatting's messages
pub begun : (cipher : Cipher) (d : Sizes) (i nonce : ℕ) (xs : List (List ℕ)) → IsDevice d → IsCipher cipher
    → nonce + node_count (depth_of d i) ≤ 2 ^ 64 → IsStartOf (shape_body i (depth_of d i) (record_len_of d cipher.overhead) ∷ puts (seal_empty cipher d) i (depth_of d i) nonce 0) xs
    → IsBegun cipher d nonce i xs
begun cipher d i nonce xs of law fits starts =
    let root = sha256 (root_record (seal_empty cipher d) (depth_of d i) nonce) in
    let F = λ (bodies : List (List ℕ)). let t : State = record { number = i; root = root; stash = [] } in IsFormat cipher d nonce t bodies in
    (starts.0, root, subst F (sym starts.1) (formed cipher d i nonce of law fits))

-- two facts about the same answer
pub both : {T E : Type 0} (r : Result T E) (P : T → Type 0) (Q : Type 0) (R : T → Type 0) → IfOk r P → OnOk r Q → ((x : T) → P x → Q → R x) → IfOk r R
both (Ok x) P Q R p q f = f x p q
both (Err e) P Q R p q f = tt
