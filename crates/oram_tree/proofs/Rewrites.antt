-- The steps of an access, put together.
use Rattle.std.proofs.Common.{◌≡◌, ◌≢◌, ◌↔◌, ℕ, ◌+◌, ◌*◌, ◌^◌, ◌<◌, ◌≤◌, take, drop, Bool, true, false, List, ◌∷◌, ◌++◌, length, get_or, Option, Some, None, is_some, All, Contains, inl, inr, refl, sym, ap, subst, ◌∙◌, arith}
use Rattle.std.proofs.lemmas.List.{length-replicate, length-append, length-take, length-drop, append_cancel_left}
use Rattle.std.proofs.lemmas.List.Elements.{Contains-get_or}
use Rattle.std.proofs.lemmas.List.Sorted.{All-permutation, Contains-permutation, IsPermutation-sym}
use Rattle.std.specs.List.Sorted.{IsPermutation}
use Rattle.std.specs.Option.{option_map_or}
use Rattle.std.specs.Int.{w32, to_be_bytes}
use Rattle.oram_geometry.specs.declared.Sizes.{Sizes}
use Rattle.oram_geometry.specs.Sizes.{IsDevice, blocks_in, depth_of, record_len_of}
use Rattle.oram_geometry.proofs.Nodes.{node_on-injective}
use Rattle.oram_hash.specs.Path.{Path, path_of, with_bytes, record_at}
use Rattle.oram_hash.specs.Record.{sealed_part}
use Rattle.oram_hash.specs.Tree.{IsPathOf}
use Rattle.oram_hash.specs.Rebuild.{StandsRebuilt}
use Rattle.oram_bucket.specs.Cell.{Cell, IsRising}
use Rattle.oram_bucket.specs.Bucket.{IsBlockOf, IsBucketOf}
use Rattle.oram_bucket.specs.Cipher.{Cipher}
use Rattle.oram_bucket.specs.SealedBlocks.{Reads}
use Rattle.oram_stash.specs.Blocks.{block_at}
use Rattle.oram_stash.specs.Eviction.{IsEviction, listed, all_listed}
use Rattle.oram_stash.proofs.Tight.{All-of_list, All-of_rest}
use Rattle.oram_stash.proofs.SortedBlocks.{Contains-cases, Contains-first, Contains-later}
use Rattle.oram_tree.specs.declared.edits.Edit.{Edit}
use Rattle.oram_tree.specs.declared.edits.Edit.TheVariants.{Keep, Replace, Entry}
use Rattle.oram_tree.specs.declared.faults.TreeFault.{TreeFault}
use Rattle.oram_tree.specs.declared.faults.TreeFault.TheVariants.{Unreadable, OutOfMemory}
use Rattle.oram_tree.specs.Content.{Map, HasContent}
use Rattle.oram_tree.specs.State.{State, IsStoredWith}
use Rattle.oram_tree.specs.Edits.{edited_content, edited_block, with_entry, IsEditOf, HasRoomFor}
use Rattle.oram_tree.specs.Access.{IsAtOrAbsent, IsNear, IsReadable, IsLookup, IsWaiting, Rewriting, content_in, IsRewritten, IsUpdate, part_at, reads_in, sealed_at}
use Rattle.oram_tree.proofs.Content.{reads_uniquely, Before, IsBefore, After, is_readable, reported_by, access_content}
use Rattle.oram_tree.proofs.Evicted.{evicted}
use Rattle.oram_tree.proofs.Gathered.{found_at}

-- a changed block is added to the others
pub waits_from : (old after new : List Cell) (b c : Cell) → b ≡ c → IsPermutation (b ∷ after) new → ((d : Cell) → Contains after d ↔ (Contains old d × (d.address ≢ c.address))) → IsWaiting (Contains old) c new
waits_from old after new b c same moved others d = (
  λ inside. elim (Contains-cases b after d (Contains-permutation new (b ∷ after) d (IsPermutation-sym (b ∷ after) new moved) inside)) [
    | inl is ↦ inl (is ∙ same)
    | inr stayed ↦ inr ((others d).0 stayed)
  ],
  λ from. Contains-permutation (b ∷ after) new d moved (elim from [
    | inl is ↦ let P : Cell → Type 0 = λ e. Contains (b ∷ after) e in subst P (same ∙ sym is) (Contains-first b after)
    | inr stays ↦ Contains-later b after d ((others d).1 stays)
  ]),
)

-- once an address is taken it is not found
pub not_twice : (old after : List Cell) (address : ℕ) → ((d : Cell) → Contains after d ↔ (Contains old d × (d.address ≢ address))) → (let o = block_at after address in is_some o ≡ true) → ⊥
not_twice old after address others found = let d = found_at after address found in ((others d.0).0 d.1).1 d.2

pub lookup_near : (near : Cell → Type 0) (gathered : List Cell) (len address : ℕ) (found : Bool) (before : List ℕ) → ((d : Cell) → Contains gathered d ↔ near d) → IsLookup (Contains gathered) len address found before → IsLookup near len address found before
lookup_near near gathered len address found before same looked = record {
  present = λ e. let b = looked.present e in (b.0, (same b.0).0 b.1, b.2, b.3);
  absent = λ e. let n = looked.absent e in (λ c there. n.0 c ((same c).1 there), n.1);
}

-- data that is looked up is as long as a block
pub before_len : (near : Cell → Type 0) (len address : ℕ) (found : Bool) (before : List ℕ) → IsLookup near len address found before → ((d : Cell) → near d → length d.content ≡ len) → length before ≡ len
before_len near len address true before looked whole = let b = looked.present refl in ap length (sym b.3) ∙ whole b.0 b.1
before_len near len address false before looked whole = let n = looked.absent refl in ap length n.1 ∙ length-replicate len 0

length-with_entry : (bytes : List ℕ) (j value : ℕ) → 4 * j + 4 ≤ length bytes → length (with_entry bytes j value) ≡ length bytes
unfolding with_entry
length-with_entry bytes j value fits =
    let front = take (4 * j) bytes in
    let back = drop (4 * j + 4) bytes in
    let four : length (to_be_bytes w32 value) ≡ 4 = refl in
    omega (arith, length-append (front ++ to_be_bytes w32 value) back, length-append front (to_be_bytes w32 value), length-take (4 * j) bytes, length-drop (4 * j + 4) bytes, four)

-- a block has room for an edit of its tree
pub room_for : (s : Sizes) (i : ℕ) (e : Edit) → IsEditOf s i e → HasRoomFor s.block_bytes e
room_for s i Keep fits = tt
room_for s i (Replace bytes) fits = fits
room_for s i (Entry j value) fits = let within = fits.1 in omega arith

edited_len : (len : ℕ) (e : Edit) (before : List ℕ) → HasRoomFor len e → length before ≡ len → length (edited_content e before) ≡ len
edited_len len Keep before fits whole = whole
edited_len len (Replace bytes) before fits whole = fits
edited_len len (Entry j value) before fits whole = length-with_entry before j value (omega (arith, fits, whole)) ∙ whole

-- the changed block can be in the tree
pub changed_block : (near : Cell → Type 0) (s : Sizes) (i address leaf : ℕ) (e : Edit) (found : Bool) (before : List ℕ) → address < blocks_in s i → leaf < 2 ^ depth_of s i → IsEditOf s i e
    → IsLookup near s.block_bytes address found before → ((d : Cell) → near d → IsBlockOf s i d) → IsBlockOf s i (edited_block address leaf e before)
changed_block near s i address leaf e found before address_in leaf_in fits looked blocks = record {
  address_in = address_in;
  leaf_in = leaf_in;
  whole = edited_len s.block_bytes e before (room_for s i e fits) (before_len near s.block_bytes address found before looked (λ d there. (blocks d there).whole));
}

-- the blocks that wait can be in the tree
pub waiting_blocks : (near : Cell → Type 0) (s : Sizes) (i : ℕ) (c : Cell) (waiting : List Cell) → IsBlockOf s i c → ((d : Cell) → near d → IsBlockOf s i d) → IsWaiting near c waiting → All (IsBlockOf s i) waiting
waiting_blocks near s i c waiting changed blocks waits k d lt =
    elim ((waits (get_or waiting k d)).0 (Contains-get_or waiting k d lt)) [
      | inl is ↦ let P : Cell → Type 0 = IsBlockOf s i in subst P (sym is) changed
      | inr (there, other) ↦ blocks (get_or waiting k d) there
    ]

-- an eviction's lists are buckets, and the blocks of its rest can be in the tree
pub list_is_bucket : (s : Sizes) (i depth leaf : ℕ) (waiting : List Cell) (lists : List (List Cell)) (rest : List Cell) → IsEviction depth s.slots leaf waiting lists rest → All (IsBlockOf s i) waiting → (l : ℕ) → IsBucketOf s i (listed lists l)
list_is_bucket s i depth leaf waiting lists rest e blocks l = record {
  within = e.placement.within l;
  rising = e.greedy.rising l;
  blocks = All-of_list (IsBlockOf s i) lists rest l (All-permutation (IsBlockOf s i) waiting (all_listed lists ++ rest) e.placement.each_once blocks);
}

pub rest_blocks : (s : Sizes) (i depth leaf : ℕ) (waiting : List Cell) (lists : List (List Cell)) (rest : List Cell) → IsEviction depth s.slots leaf waiting lists rest → All (IsBlockOf s i) waiting → All (IsBlockOf s i) rest
rest_blocks s i depth leaf waiting lists rest e blocks = All-of_rest (IsBlockOf s i) lists rest (All-permutation (IsBlockOf s i) waiting (all_listed lists ++ rest) e.placement.each_once blocks)

-- the lists, sealed and written to the path
pub rewritten : (w : Rewriting) (depth leaf : ℕ) (q : Path) (stash waiting : List Cell) (c : Cell) (lists : List (List Cell)) (rest : List Cell) (parts : List (List ℕ))
    → w.path.depth ≡ depth → w.path.leaf ≡ leaf → IsRising waiting → IsWaiting (IsNear (reads_in w) w.path stash) c waiting → IsEviction depth w.device.slots leaf waiting lists rest
    → ((level : ℕ) → level ≤ w.path.depth → sealed_part (record_at q level) ≡ part_at parts level)
    → ((level : ℕ) → level < length lists → part_at parts level ≡ sealed_at w level (listed lists level))
    → ((level : ℕ) → level < length lists → reads_in w (part_at parts level) (listed lists level))
    → IsRewritten w stash q c rest
rewritten w depth leaf q stash waiting c lists rest parts depth_is leaf_is rising waits e written exact opens =
    record {
      waiting = waiting;
      lists = lists;
      rising = rising;
      waits = waits;
      evicted = rw (depth_is, leaf_is) e;
      sealed = λ level h. written level h ∙ exact level (omega (arith, e.placement.levels));
      read_back = λ level h. let P : List ℕ → Type 0 = λ part. reads_in w part (listed lists level) in subst P (sym (written level h)) (opens level (omega (arith, e.placement.levels)));
    }

-- a stored tree, with the depth and the lengths of a path
record IsPathIn (p : Path) (d : Sizes) (i overhead leaf : ℕ) : Type 0 where
  depth_is : p.depth ≡ depth_of d i
  len_is : p.record_len ≡ record_len_of d overhead
  leaf_is : p.leaf ≡ leaf
  fits : p.leaf < 2 ^ p.depth

path_in : (p : Path) (d : Sizes) (i overhead leaf : ℕ) → p ≡ path_of d i leaf overhead p.bytes → leaf < 2 ^ depth_of d i → IsPathIn p d i overhead leaf
path_in p d i overhead leaf e fits =
    let depth_is : p.depth ≡ depth_of d i = ap (λ (x : Path). x.depth) e in
    let leaf_is : p.leaf ≡ leaf = ap (λ (x : Path). x.leaf) e in
    record {
      depth_is = depth_is;
      len_is = ap (λ (x : Path). x.record_len) e;
      leaf_is = leaf_is;
      fits = omega (arith, leaf_is, ap (λ (x : ℕ). 2 ^ x) depth_is, fits);
    }

held_by : (opening : List ℕ → Option (List ℕ)) (overhead leaf : ℕ) (d : Sizes) (p : Path) (t : State) (records : ℕ → List ℕ) (content : Map) → IsPathIn p d t.number overhead leaf → IsStoredWith opening overhead d t records content
    → HasContent (Reads opening d t.number) p.depth records t.stash content
held_by opening overhead leaf d p t records content in_tree stored = rw in_tree.depth_is stored.holds

-- a stored tree's path is readable
pub readable_before : (opening : List ℕ → Option (List ℕ)) (overhead leaf : ℕ) (d : Sizes) (p : Path) (t : State) (records : ℕ → List ℕ) (content : Map) → p ≡ path_of d t.number leaf overhead p.bytes → leaf < 2 ^ depth_of d t.number
    → IsStoredWith opening overhead d t records content → IsPathOf records p → IsReadable (Reads opening d t.number) p t.stash
readable_before opening overhead leaf d p t records content e fits stored path =
    let in_tree = path_in p d t.number overhead leaf e fits in
    is_readable (Reads opening d t.number) (record { p = p; old = records; stash = t.stash; content = content })
    (record { fits = in_tree.fits; held = held_by opening overhead leaf d p t records content in_tree stored; path = path })
    (λ i k ih kh same. node_on-injective p.depth p.leaf i k ih kh same)

-- what an access does to the map
pub updated : (cipher : Cipher) (nonce leaf : ℕ) (d : Sizes) (p : Path) (bytes : List ℕ) (t : State) (root : List ℕ) (rest : List Cell)
    (records : ℕ → List ℕ) (content : Map) (c : Cell) (found : Bool) (before : List ℕ) → IsDevice d → p ≡ path_of d t.number leaf cipher.overhead p.bytes → leaf < 2 ^ depth_of d t.number
    → IsStoredWith cipher.opening cipher.overhead d t records content → IsPathOf records p → IsAtOrAbsent content c.address leaf
    → IsLookup (IsNear (Reads cipher.opening d t.number) p t.stash) d.block_bytes c.address found before
    → IsRewritten (record { device = d; tree = t.number; cipher = cipher; path = p; nonce = nonce }) t.stash (with_bytes p bytes) c rest → StandsRebuilt p bytes root
    → (let after : State = record { number = t.number; root = root; stash = rest } in IsUpdate (record { device = d; cipher = cipher; path = p; written = with_bytes p bytes; records = records; content = content; block = c; found = found; before = before; after = after }))
updated cipher nonce leaf d p bytes t root rest records content c found before of e fits stored path named looked w stands =
    let opening = cipher.opening in
    let overhead = cipher.overhead in
    let reads = Reads opening d t.number in
    let in_tree = path_in p d t.number overhead leaf e fits in
    let named_here : IsAtOrAbsent content c.address p.leaf = λ entry there. named entry there ∙ sym in_tree.leaf_is in
    let x : Before = record { p = p; old = records; stash = t.stash; content = content } in
    let b : IsBefore reads x = record { fits = in_tree.fits; held = held_by opening overhead leaf d p t records content in_tree stored; path = path } in
    let reported = reported_by reads x b c.address d.block_bytes found before named_here looked (content c.address) refl in
    record {
      reported = reported.0;
      data_reported = reported.1;
      updated = λ new replaced.
          let y : After = record { q = with_bytes p bytes; new = new; c = c; waiting = w.waiting; lists = w.lists; rest = rest } in
          let held = access_content reads x y (reads_uniquely opening d t.number of) b (record {
            named = named_here;
            replaced = replaced;
            waits = w.waits;
            evicted = evicted p.depth d.slots p.leaf w.waiting w.lists rest w.rising w.evicted;
            rest_rising = w.evicted.rising;
            stored = w.read_back;
          }) in
          let stood = stands t.root records new (rw (in_tree.depth_is, in_tree.len_is) stored.stands) path replaced in
          record { stands = rw (in_tree.depth_is, in_tree.len_is) at stood; holds = rw in_tree.depth_is at held };
    }

-- of two faults, one that isn't the first is the second
pub only_memory : (f : TreeFault) → (let u : TreeFault = Unreadable in f ≡ u → ⊥) → f ≡ OutOfMemory
only_memory Unreadable other = absurd (other refl)
only_memory OutOfMemory other = refl

-- a fact on a tree's number and stash, at equal ones
pub moved : (Q : ℕ → List Cell → Type 0) (n m : ℕ) (xs ys : List Cell) → n ≡ m → xs ≡ ys → Q n xs → Q m ys
moved Q n m xs ys number stash fact = subst (Q m) stash (let P : ℕ → Type 0 = λ k. Q k xs in subst P number fact)

-- a vector has gained only one list
pub gained_is : (old new records gained : List ℕ) → new ≡ old ++ records → new ≡ old ++ gained → records ≡ gained
gained_is old new records gained here there = append_cancel_left old records gained (sym here ∙ there)

-- the data of the stash's block, or other data if the stash doesn't have the block
pub content_of_own : (stash : List Cell) (address : ℕ) (other : List ℕ) (b : Cell) → block_at stash address ≡ Some b → content_in stash address other ≡ b.content
content_of_own stash address other b is = ap (λ o. option_map_or (λ (c : Cell). c.content) o other) is

pub content_of_other : (stash : List Cell) (address : ℕ) (other : List ℕ) → block_at stash address ≡ None → content_in stash address other ≡ other
content_of_other stash address other is = ap (λ o. option_map_or (λ (c : Cell). c.content) o other) is
