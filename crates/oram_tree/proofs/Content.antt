-- What a tree holds after an access.
use Rattle.std.proofs.Common.{◌≡◌, ◌≢◌, ℕ, ◌+◌, ◌^◌, ◌<◌, ◌≤◌, ◌⊎◌, inl, inr, refl, sym, arith, ap, subst, ◌∙◌, List, Option, Some, None, is_some, IsSome, Contains, Bool, true, false, nat_eq}
use Rattle.std.proofs.lemmas.Bool.{cases_eq}
use Rattle.std.proofs.lemmas.Bool.Decides.{Decides-eqb, eqb_tells}
use Rattle.std.proofs.Math.Nat.{pow-le-pow_right}
use Rattle.oram_geometry.specs.Path.{node_on, IsOffPath}
use Rattle.oram_tree.specs.Content.{Entry, Map, entry_of, Holds, IsOnPath, node_count, HasContent, put}
use Rattle.oram_tree.specs.Access.{IsAtOrAbsent, IsNear, IsReadable, IsLookup, IsWaiting, content_or_zeros}
use Rattle.oram_geometry.proofs.Nodes.{on_or_off, node_on-leaf, node_on-inner}
use Rattle.oram_hash.specs.Record.{sealed_part}
use Rattle.oram_hash.specs.Path.{Path, record_at, node_at}
use Rattle.oram_hash.specs.Tree.{IsPathOf, IsReplaced}
use Rattle.oram_geometry.specs.declared.Sizes.{Sizes}
use Rattle.oram_geometry.specs.Sizes.{IsDevice}
use Rattle.oram_bucket.specs.Cell.{Cell, IsRising}
use Rattle.oram_bucket.specs.SealedBlocks.{Reads}
use Rattle.oram_bucket.proofs.UniqueEncoding.{reads_once}
use Rattle.oram_stash.specs.Eviction.{listed}
use Rattle.oram_tree.proofs.Evicted.{IsEvicted}

pub put-same : (content : Map) (address a : ℕ) (e : Entry) → a ≡ address → put content address e a ≡ Some e
put-same content address a e same = let t : nat_eq a address ≡ true = (Decides-eqb a address).1 same in rw t refl

pub put-other : (content : Map) (address a : ℕ) (e : Entry) → a ≢ address → put content address e a ≡ content a
put-other content address a e other = let t : nat_eq a address ≡ false = elim (eqb_tells a address) [ inl (test, same) ↦ absurd (other same) | inr (test, differs) ↦ test ] in rw t refl

pub node_within : (p : Path) (level : ℕ) → p.leaf < 2 ^ p.depth → level ≤ p.depth → node_at p level < node_count p.depth
node_within p level fits h =
    elim (cases_eq level p.depth) [
      | inl e ↦ omega (arith, (node_on-leaf p.depth p.leaf fits).1, ap (node_on p.depth p.leaf) e)
      | inr less ↦
          let more : 2 ^ p.depth ≤ 2 ^ (p.depth + 1) = pow-le-pow_right (omega arith) (omega arith) in
          omega (arith, node_on-inner p.depth p.leaf level fits (omega arith))
    ]

-- sealed bytes read as at most one list
abbrev pub IsUnique : (List ℕ → List Cell → Type 0) → Type 0
IsUnique reads = (sealed : List ℕ) (xs ys : List Cell) → reads sealed xs → reads sealed ys → xs ≡ ys

pub reads_uniquely : (opening : List ℕ → Option (List ℕ)) (d : Sizes) (i : ℕ) → IsDevice d → IsUnique (Reads opening d i)
reads_uniquely opening d i of sealed xs ys x y = reads_once opening d i sealed xs ys of x y

-- before an access: a stored tree with its path, and what it and the stash hold
pub record Before : Type 0 where
  pub p : Path
  pub old : ℕ → List ℕ
  pub stash : List Cell
  pub content : Map

pub record IsBefore (reads : List ℕ → List Cell → Type 0) (x : Before) : Type 0 where
  pub fits : x.p.leaf < 2 ^ x.p.depth
  pub held : HasContent reads x.p.depth x.old x.stash x.content
  pub path : IsPathOf x.old x.p

-- a block in the path's bucket is in the node's bucket
in_node : (reads : List ℕ → List Cell → Type 0) (x : Before) → IsBefore reads x → (level : ℕ) (d : Cell) → level ≤ x.p.depth → Holds reads (record_at x.p level) d → Holds reads (x.old (node_at x.p level)) d
in_node reads x b level d h there = let P : List ℕ → Type 0 = λ r. Holds reads r d in subst P (b.path level h) there

in_path : (reads : List ℕ → List Cell → Type 0) (x : Before) → IsBefore reads x → (level n : ℕ) (d : Cell) → level ≤ x.p.depth → n ≡ node_at x.p level → Holds reads (x.old n) d → Holds reads (record_at x.p level) d
in_path reads x b level n d h at there = let P : List ℕ → Type 0 = λ r. Holds reads r d in subst P (ap x.old at ∙ sym (b.path level h)) there

-- the path and the stash are readable
pub is_readable : (reads : List ℕ → List Cell → Type 0) (x : Before) → IsBefore reads x → ((i k : ℕ) → i ≤ x.p.depth → k ≤ x.p.depth → node_at x.p i ≡ node_at x.p k → i ≡ k) → IsReadable reads x.p x.stash
is_readable reads x b one =
    record {
      readable = λ level h. let r = b.held.readable (node_at x.p level) (node_within x.p level b.fits h) in
          (r.0, let P : List ℕ → Type 0 = λ s. reads (sealed_part s) r.0 in subst P (sym (b.path level h)) r.1);
      once_on_path = λ i k c d ih kh here there same. one i k ih kh
          (b.held.once_in_tree (node_at x.p i) (node_at x.p k) c d (node_within x.p i b.fits ih) (node_within x.p k b.fits kh) (in_node reads x b i c ih here) (in_node reads x b k d kh there) same);
      once_in_all = λ i c d ih here stashed. b.held.once_in_all (node_at x.p i) c d (node_within x.p i b.fits ih) (in_node reads x b i c ih here) stashed;
    }

-- the map has a near block at the block's address
pub near_entry : (reads : List ℕ → List Cell → Type 0) (x : Before) → IsBefore reads x → (d : Cell) → IsNear reads x.p x.stash d → x.content d.address ≡ Some (entry_of d)
near_entry reads x b d (inl stashed) = b.held.from_stash d stashed
near_entry reads x b d (inr (level, h, there)) = b.held.from_tree (node_at x.p level) d (node_within x.p level b.fits h) (in_node reads x b level d h there)

-- if an address is on this path or absent, and the map has it, one of the near blocks has it
pub near_if_there : (reads : List ℕ → List Cell → Type 0) (x : Before) → IsBefore reads x → (address : ℕ) → IsAtOrAbsent x.content address x.p.leaf → (e : Entry) → x.content address ≡ Some e
    → (d : Cell) × IsNear reads x.p x.stash d × (d.address ≡ address)
near_if_there reads x b address named e there =
    elim (b.held.held address (let P : Option Entry → Type 0 = λ o. IsSome o in subst P (sym there) refl)) [
      | inl (d, same, stashed) ↦ (d, inl stashed, same)
      | inr (d, n, same, within, inside) ↦
          let entry : x.content address ≡ Some (entry_of d) = ap x.content (sym same) ∙ b.held.from_tree n d within inside in
          let leaf : d.leaf ≡ x.p.leaf = named (entry_of d) entry in
          let on = b.held.on_own_path n d within inside in
          let at : n ≡ node_at x.p on.0 = on.2 ∙ ap (λ (y : ℕ). node_on x.p.depth y on.0) leaf in
          (d, inr (on.0, on.1, in_path reads x b on.0 n d on.1 at inside), same)
    ]

-- a lookup among the near blocks finds what the map has
pub reported_by : (reads : List ℕ → List Cell → Type 0) (x : Before) → IsBefore reads x → (address len : ℕ) (found : Bool) (before : List ℕ) → IsAtOrAbsent x.content address x.p.leaf
    → IsLookup (IsNear reads x.p x.stash) len address found before → (o : Option Entry) → x.content address ≡ o → (found ≡ is_some o) × (before ≡ content_or_zeros len o)
reported_by reads x b address len true before named looked o at =
    let there = looked.present refl in
    let entry : o ≡ Some (entry_of there.0) = sym at ∙ ap x.content (sym there.2) ∙ near_entry reads x b there.0 there.1 in
    rw entry (refl, sym there.3)
reported_by reads x b address len false before named looked None at = (refl, (looked.absent refl).1)
reported_by reads x b address len false before named looked (Some e) at =
    let there = near_if_there reads x b address named e at in absurd ((looked.absent refl).0 there.0 there.1 there.2)

-- an access
pub record After : Type 0 where
  pub q : Path
  pub new : ℕ → List ℕ
  pub c : Cell
  pub waiting : List Cell
  pub lists : List (List Cell)
  pub rest : List Cell

pub record IsAfter (reads : List ℕ → List Cell → Type 0) (x : Before) (y : After) : Type 0 where
  pub named : IsAtOrAbsent x.content y.c.address x.p.leaf
  pub replaced : IsReplaced x.p y.q x.old y.new
  pub waits : IsWaiting (IsNear reads x.p x.stash) y.c y.waiting
  pub evicted : IsEvicted x.p.depth x.p.leaf y.waiting y.lists y.rest
  pub rest_rising : IsRising y.rest
  pub stored : (level : ℕ) → level ≤ x.p.depth → reads (sealed_part (record_at y.q level)) (listed y.lists level)

-- a block off the path doesn't have the address of the accessed block, of a near block, or of one that waits
off_named : (reads : List ℕ → List Cell → Type 0) (x : Before) (y : After) → IsBefore reads x → IsAfter reads x y → (n : ℕ) (d : Cell) → (n < node_count x.p.depth) → IsOffPath x.p.depth x.p.leaf n → Holds reads (x.old n) d → d.address ≢ y.c.address
off_named reads x y b a n d within off inside same =
    let entry : x.content y.c.address ≡ Some (entry_of d) = ap x.content (sym same) ∙ b.held.from_tree n d within inside in
    let leaf : d.leaf ≡ x.p.leaf = a.named (entry_of d) entry in
    let on = b.held.on_own_path n d within inside in
    off on.0 on.1 (on.2 ∙ ap (λ (z : ℕ). node_on x.p.depth z on.0) leaf)

off_near : (reads : List ℕ → List Cell → Type 0) (x : Before) → IsBefore reads x → (n : ℕ) (d e : Cell) → (n < node_count x.p.depth) → IsOffPath x.p.depth x.p.leaf n → Holds reads (x.old n) d → IsNear reads x.p x.stash e → d.address ≢ e.address
off_near reads x b n d e within off inside (inl stashed) same = b.held.once_in_all n d e within inside stashed same
off_near reads x b n d e within off inside (inr (level, h, there)) same =
    off level h (b.held.once_in_tree n (node_at x.p level) d e within (node_within x.p level b.fits h) inside (in_node reads x b level e h there) same)

off_waiting : (reads : List ℕ → List Cell → Type 0) (x : Before) (y : After) → IsBefore reads x → IsAfter reads x y → (n : ℕ) (d e : Cell) → (n < node_count x.p.depth) → IsOffPath x.p.depth x.p.leaf n → Holds reads (x.old n) d → Contains y.waiting e → d.address ≢ e.address
off_waiting reads x y b a n d e within off inside waits =
    elim ((a.waits e).0 waits) [
      | inl is ↦ λ same. off_named reads x y b a n d within off inside (same ∙ ap (λ (z : Cell). z.address) is)
      | inr (near, other) ↦ off_near reads x b n d e within off inside near
    ]

-- the new map has a block that waits at the block's address
waiting_entry : (reads : List ℕ → List Cell → Type 0) (x : Before) (y : After) → IsBefore reads x → IsAfter reads x y → (d : Cell) → Contains y.waiting d → put x.content y.c.address (entry_of y.c) d.address ≡ Some (entry_of d)
waiting_entry reads x y b a d waits =
    elim ((a.waits d).0 waits) [
      | inl e ↦ put-same x.content y.c.address d.address (entry_of y.c) (ap (λ (z : Cell). z.address) e) ∙ ap (λ (z : Cell). Some (entry_of z)) (sym e)
      | inr (near, other) ↦ put-other x.content y.c.address d.address (entry_of y.c) other ∙ near_entry reads x b d near
    ]

-- after the access, the blocks of a node of the path are those of its list
in_list : (reads : List ℕ → List Cell → Type 0) (x : Before) (y : After) → IsUnique reads → IsAfter reads x y → (level n : ℕ) (d : Cell) → level ≤ x.p.depth → n ≡ node_at x.p level → Holds reads (y.new n) d → Contains (listed y.lists level) d
in_list reads x y unique a level n d h at (cells, read, inside) =
    let r : y.new n ≡ record_at y.q level = ap y.new at ∙ a.replaced.on_path level h in
    let P : List ℕ → Type 0 = λ s. reads (sealed_part s) cells in
    let Q : List Cell → Type 0 = λ ds. Contains ds d in
    subst Q (unique (sealed_part (record_at y.q level)) cells (listed y.lists level) (subst P r read) (a.stored level h)) inside

from_list : (reads : List ℕ → List Cell → Type 0) (x : Before) (y : After) → IsAfter reads x y → (level : ℕ) (d : Cell) → level ≤ x.p.depth → Contains (listed y.lists level) d → Holds reads (y.new (node_at x.p level)) d
from_list reads x y a level d h inside =
    let P : List ℕ → Type 0 = λ s. reads (sealed_part s) (listed y.lists level) in
    (listed y.lists level, subst P (sym (a.replaced.on_path level h)) (a.stored level h), inside)

-- the blocks of a node off the path stay there
kept : (reads : List ℕ → List Cell → Type 0) (x : Before) (y : After) → IsAfter reads x y → (n : ℕ) (d : Cell) → IsOffPath x.p.depth x.p.leaf n → Holds reads (y.new n) d → Holds reads (x.old n) d
kept reads x y a n d apart inside = let P : List ℕ → Type 0 = λ r. Holds reads r d in subst P (a.replaced.off_path n apart) inside

stays : (reads : List ℕ → List Cell → Type 0) (x : Before) (y : After) → IsAfter reads x y → (n : ℕ) (d : Cell) → IsOffPath x.p.depth x.p.leaf n → Holds reads (x.old n) d → Holds reads (y.new n) d
stays reads x y a n d apart inside = let P : List ℕ → Type 0 = λ r. Holds reads r d in subst P (sym (a.replaced.off_path n apart)) inside

-- the place of a block that waited, after the access
placed : (reads : List ℕ → List Cell → Type 0) (x : Before) (y : After) → IsBefore reads x → IsAfter reads x y → (d : Cell) → Contains y.waiting d
    → ((e : Cell) × (e.address ≡ d.address) × Contains y.rest e) ⊎ ((e : Cell) × (n : ℕ) × (e.address ≡ d.address) × (n < node_count x.p.depth) × Holds reads (y.new n) e)
placed reads x y b a d waits =
    elim (a.evicted.somewhere d waits) [
      | inl (level, h, inside) ↦ inr (d, node_at x.p level, refl, node_within x.p level b.fits h, from_list reads x y a level d h inside)
      | inr inside ↦ inl (d, refl, inside)
    ]

-- after an access, the new tree and the rest hold the map with this address changed
pub access_content : (reads : List ℕ → List Cell → Type 0) (x : Before) (y : After) → IsUnique reads → IsBefore reads x → IsAfter reads x y → HasContent reads x.p.depth y.new y.rest (put x.content y.c.address (entry_of y.c))
access_content reads x y unique b a =
    record {
      readable = λ n within. elim (on_or_off x.p.depth x.p.leaf n) [
        | inl (level, h, at) ↦
            let r : y.new n ≡ record_at y.q level = ap y.new at ∙ a.replaced.on_path level h in
            let P : List ℕ → Type 0 = λ s. reads (sealed_part s) (listed y.lists level) in
            (listed y.lists level, subst P (sym r) (a.stored level h))
        | inr apart ↦
            let was = b.held.readable n within in
            let P : List ℕ → Type 0 = λ s. reads (sealed_part s) was.0 in
            (was.0, subst P (sym (a.replaced.off_path n apart)) was.1)
      ];
      on_own_path = λ n d within inside. elim (on_or_off x.p.depth x.p.leaf n) [
        | inl (level, h, at) ↦ let P : ℕ → Type 0 = IsOnPath x.p.depth d.leaf in subst P (sym at) (a.evicted.on_own_path level d h (in_list reads x y unique a level n d h at inside))
        | inr apart ↦ b.held.on_own_path n d within (kept reads x y a n d apart inside)
      ];
      once_in_tree = λ n m d e nh mh di ei same. elim (on_or_off x.p.depth x.p.leaf n) [
        | inl (i, ih, ie) ↦ elim (on_or_off x.p.depth x.p.leaf m) [
          | inl (k, kh, ke) ↦ ie ∙ ap (node_at x.p) (a.evicted.once_in_lists i k d e (in_list reads x y unique a i n d ih ie di) (in_list reads x y unique a k m e kh ke ei) same) ∙ sym ke
          | inr apart ↦ absurd (off_waiting reads x y b a m e d mh apart (kept reads x y a m e apart ei) (a.evicted.from_lists i d (in_list reads x y unique a i n d ih ie di)) (sym same))
        ]
        | inr apart ↦ elim (on_or_off x.p.depth x.p.leaf m) [
          | inl (k, kh, ke) ↦ absurd (off_waiting reads x y b a n d e nh apart (kept reads x y a n d apart di) (a.evicted.from_lists k e (in_list reads x y unique a k m e kh ke ei)) same)
          | inr apart2 ↦ b.held.once_in_tree n m d e nh mh (kept reads x y a n d apart di) (kept reads x y a m e apart2 ei) same
        ]
      ];
      once_in_stash = a.rest_rising;
      once_in_all = λ n d e nh di ei. elim (on_or_off x.p.depth x.p.leaf n) [
        | inl (i, ih, ie) ↦ a.evicted.once_in_all i d e (in_list reads x y unique a i n d ih ie di) ei
        | inr apart ↦ off_waiting reads x y b a n d e nh apart (kept reads x y a n d apart di) (a.evicted.from_rest e ei)
      ];
      from_tree = λ n d within inside. elim (on_or_off x.p.depth x.p.leaf n) [
        | inl (level, h, at) ↦ waiting_entry reads x y b a d (a.evicted.from_lists level d (in_list reads x y unique a level n d h at inside))
        | inr apart ↦
            put-other x.content y.c.address d.address (entry_of y.c) (off_named reads x y b a n d within apart (kept reads x y a n d apart inside))
            ∙ b.held.from_tree n d within (kept reads x y a n d apart inside)
      ];
      from_stash = λ d inside. waiting_entry reads x y b a d (a.evicted.from_rest d inside);
      held = λ address there. elim (cases_eq address y.c.address) [
        | inl same ↦ rw same (placed reads x y b a y.c ((a.waits y.c).1 (inl refl)))
        | inr other ↦
            let was : IsSome (x.content address) = let P : Option Entry → Type 0 = λ o. IsSome o in subst P (put-other x.content y.c.address address (entry_of y.c) other) there in
            elim (b.held.held address was) [
              | inl (d, same, stashed) ↦ rw (sym same) (placed reads x y b a d ((a.waits d).1 (inr (inl stashed, λ e. other (sym same ∙ e)))))
              | inr (d, n, same, within, inside) ↦ elim (on_or_off x.p.depth x.p.leaf n) [
                | inl (level, h, at) ↦ rw (sym same) (placed reads x y b a d ((a.waits d).1 (inr (inr (level, h, in_path reads x b level n d h at inside), λ e. other (sym same ∙ e)))))
                | inr apart ↦ inr (d, n, same, within, stays reads x y a n d apart inside)
              ]
            ]
      ];
    }
