-- The preparation of an access, in terms of what its lists contain.
use Rattle.std.proofs.Common.{◌≡◌, ◌≢◌, ◌↔◌, ◌⊎◌, ◌||◌, ℕ, ◌<◌, Bool, true, false, List, [], ◌++◌, length, map, get_or, Option, Some, None, is_some, All, AllPairs, Bor, Vec, Global, Contains, inl, inr, refl, sym, ap, subst, ◌∙◌, arith}
use Rattle.std.proofs.lemmas.List.{get_or-map, length-map}
use Rattle.std.proofs.lemmas.List.Elements.{Contains-get_or, Contains-append_right}
use Rattle.std.proofs.lemmas.List.Sorted.{Contains-permutation, IsPermutation-sym}
use Rattle.oram_geometry.specs.declared.Sizes.{Sizes}
use Rattle.oram_hash.specs.Path.{Path}
use Rattle.oram_bucket.specs.Cell.{Cell, IsRising}
use Rattle.oram_bucket.specs.Bucket.{IsBlockOf, IsBucketOf}
use Rattle.oram_stash.specs.Blocks.{block_at}
use Rattle.oram_stash.specs.Eviction.{IsEviction, all_listed}
use Rattle.oram_stash.proofs.SortedBlocks.{same_rising}
use Rattle.oram_stash.proofs.Unique.{same_block}
use Rattle.oram_tree.specs.Access.{IsNear, IsInBucket, IsReadable, IsLookup, IsWaiting, content_in}
use Rattle.oram_tree.proofs.Gathered.{block_at-address, block_at-contains, block_at-none}
use Rattle.oram_tree.proofs.Rewrites.{content_of_own, content_of_other, list_is_bucket}
use Rattle.oram_tree.proofs.Sealed.{lent}

-- of the near blocks, only the accessed one can have the address of a block of the stash
pub near_apart : (reads : List ℕ → List Cell → Type 0) (p : Path) (stash gathered near : List Cell) (cell : Cell) → IsReadable reads p stash → ((d : Cell) → Contains gathered d ↔ IsInBucket reads p d) → IsWaiting (Contains gathered) cell near
    → (c d : Cell) → Contains stash c → Contains near d → c.address ≡ d.address → c.address ≡ cell.address
near_apart reads p stash gathered near cell readable fetched waits c d here there same = elim ((waits d).0 there) [
  | inl is ↦ same ∙ ap (λ (b : Cell). b.address) is
  | inr (old, other) ↦ let at = (fetched d).0 old in absurd (readable.once_in_all at.0 d c at.1 at.2 here (sym same))
]

-- the blocks that wait are the accessed one and the other near ones
pub waiting_all : (reads : List ℕ → List Cell → Type 0) (p : Path) (stash gathered near waiting : List Cell) (cell : Cell) → ((d : Cell) → Contains gathered d ↔ IsInBucket reads p d) → IsWaiting (Contains gathered) cell near
    → ((d : Cell) → Contains waiting d ↔ ((Contains stash d × (d.address ≢ cell.address)) ⊎ Contains near d)) → IsWaiting (IsNear reads p stash) cell waiting
waiting_all reads p stash gathered near waiting cell fetched waits both d = (
  λ inside. elim ((both d).0 inside) [
    | inl (here, other) ↦ inr (inl here, other)
    | inr there ↦ elim ((waits d).0 there) [
      | inl is ↦ inl is
      | inr (old, other) ↦ inr (inr ((fetched d).0 old), other)
    ]
  ],
  λ from. (both d).1 (elim from [
    | inl is ↦ inr ((waits d).1 (inl is))
    | inr (near_d, other) ↦ elim near_d [
      | inl here ↦ inl (here, other)
      | inr bucket ↦ inr ((waits d).1 (inr ((fetched d).1 bucket, other)))
    ]
  ]),
)

-- the accessed block as the stash has it, or else as the path has it
pub looked_both : (reads : List ℕ → List Cell → Type 0) (p : Path) (stash : List Cell) (len address : ℕ) (found : Bool) (before : List ℕ) → IsLookup (IsInBucket reads p) len address found before
    → IsLookup (IsNear reads p stash) len address (is_some (block_at stash address) || found) (content_in stash address before)
looked_both reads p stash len address found before looked = go (block_at stash address) refl
  where
    go : (o : Option Cell) → block_at stash address ≡ o → IsLookup (IsNear reads p stash) len address (is_some (block_at stash address) || found) (content_in stash address before)
    go (Some b) is =
        let content_is = content_of_own stash address before b is in
        let yes : (is_some (block_at stash address) || found) ≡ true = ap (λ (o : Option Cell). is_some o || found) is in
        record {
          present = λ _. (b, inl (block_at-contains stash address b is), block_at-address stash address b is, sym content_is);
          absent = λ no. absurd (let f : true ≡ false = sym yes ∙ no in cc);
        }
    go None is =
        let content_is = content_of_other stash address before is in
        let same : (is_some (block_at stash address) || found) ≡ found = ap (λ (o : Option Cell). is_some o || found) is in
        record {
          present = λ e. let b = looked.present (sym same ∙ e) in (b.0, inr b.1, b.2, b.3 ∙ sym content_is);
          absent = λ e. let n = looked.absent (sym same ∙ e) in (λ c near. elim near [ inl here ↦ block_at-none stash address c is here | inr there ↦ n.0 c there ], content_is ∙ n.1);
        }

-- the blocks that remain in the stash are the rest of the eviction
pub remaining_is_rest : (stash near waiting rest remaining : List Cell) (stays : List ℕ) (address : ℕ) → IsRising waiting → IsRising rest → IsRising remaining → stays ≡ map (λ b. b.address) rest
    → ((d : Cell) → Contains rest d → Contains waiting d)
    → ((d : Cell) → Contains waiting d ↔ ((Contains stash d × (d.address ≢ address)) ⊎ Contains near d))
    → ((d : Cell) → Contains remaining d ↔ (((Contains stash d × (d.address ≢ address)) ⊎ Contains near d) × Contains stays d.address)) → remaining ≡ rest
remaining_is_rest stash near waiting rest remaining stays address rising_all rising_rest rising_remaining stays_are part both kept =
    let address_of : Cell → ℕ = λ (b : Cell). b.address in
    same_rising remaining rest rising_remaining rising_rest
    (λ d inside.
    let k = (kept d).0 inside in
    let P : List ℕ → Type 0 = λ ns. Contains ns d.address in
    let at = subst P stays_are k.1 in
    let short : at.0 < length rest = rw length-map at at.1 in
    let e = get_or rest at.0 d in
    let there : Contains rest e = Contains-get_or rest at.0 d short in
    let same : e.address ≡ d.address = sym (get_or-map address_of rest at.0 d d.address short) ∙ at.2 in
    let is : e ≡ d = same_block waiting rising_all e d (part e there) ((both d).1 k.0) same in
    let Q : Cell → Type 0 = λ b. Contains rest b in
    subst Q is there)
    (λ d inside.
    let P : List ℕ → Type 0 = λ ns. Contains ns d.address in
    let long : inside.0 < length (map address_of rest) = rw length-map inside.1 in
    let stays_there : Contains (map address_of rest) d.address = (inside.0, long, get_or-map address_of rest inside.0 d d.address inside.1 ∙ ap address_of inside.2) in
    (kept d).1 ((both d).0 (part d inside), subst P (sym stays_are) stays_there))

-- the addresses of a rising list rise
pub addresses_rise : (xs : List Cell) (stays : List ℕ) → IsRising xs → stays ≡ map (λ b. b.address) xs → AllPairs (λ a b. a < b) stays
addresses_rise xs stays rising is =
    let address_of : Cell → ℕ = λ (b : Cell). b.address in
    let any : Cell = record { address = 0; leaf = 0; content = [] } in
    let P : List ℕ → Type 0 = AllPairs (λ a b. a < b) in
    subst P (sym is) (λ i j d lt within.
    let long : j < length xs = rw length-map at within in
    let low = rising i j any lt long in
    omega (arith, get_or-map address_of xs i any d (omega arith), get_or-map address_of xs j any d long))

-- a property of the borrowed blocks
pub lent_all : (P : Cell → Type 0) (xs : List (Bor Cell)) → All P (map (λ (b : Bor Cell). b.now) xs) → All (λ b. P b.now) xs
lent_all P xs all k d lt =
    let now : Bor Cell → Cell = λ (b : Bor Cell). b.now in
    subst P (get_or-map now xs k d d.now lt) (all k d.now (rw length-map lt))

-- the lists of an eviction of borrowed blocks are buckets
pub lists_buckets : (s : Sizes) (i depth leaf : ℕ) (waiting : List Cell) (vs : List (Vec (Bor Cell) Global)) (rest : List Cell) → IsEviction depth s.slots leaf waiting (lent vs) rest → All (IsBlockOf s i) waiting
    → All (λ (v : Vec (Bor Cell) Global). IsBucketOf s i (map (λ (b : Bor Cell). b.now) v.items)) vs
lists_buckets s i depth leaf waiting vs rest e all k v lt =
    let P : List Cell → Type 0 = IsBucketOf s i in
    subst P (get_or-map (λ (v : Vec (Bor Cell) Global). map (λ (b : Bor Cell). b.now) v.items) vs k v [] lt) (list_is_bucket s i depth leaf waiting (lent vs) rest e all k)

-- the same lookup under other names
pub same_lookup : (near : Cell → Type 0) (len address : ℕ) (found reported : Bool) (before data_reported : List ℕ) → reported ≡ found → data_reported ≡ before → IsLookup near len address found before → IsLookup near len address reported data_reported
same_lookup near len address found reported before data_reported same same_data looked =
    let P : Bool → Type 0 = λ f. IsLookup near len address f before in
    let Q : List ℕ → Type 0 = λ b. IsLookup near len address reported b in
    subst Q (sym same_data) (subst P (sym same) looked)

-- a block of the rest waited
pub rest_waits : (waiting : List Cell) (lists : List (List Cell)) (rest : List Cell) (depth slots leaf : ℕ) → IsEviction depth slots leaf waiting lists rest → (d : Cell) → Contains rest d → Contains waiting d
rest_waits waiting lists rest depth slots leaf e d inside =
    Contains-permutation (all_listed lists ++ rest) waiting d (IsPermutation-sym waiting (all_listed lists ++ rest) e.placement.each_once) (Contains-append_right (all_listed lists) rest d inside)
