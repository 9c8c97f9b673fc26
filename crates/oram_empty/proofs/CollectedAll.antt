-- After all messages of a formatting the collection has its digests and the records of the near nodes.
use Rattle.std.proofs.Common.{◌≡◌, ◌≢◌, ℕ, ◌+◌, ◌-◌, ◌*◌, ◌^◌, ◌<◌, ◌≤◌, Bool, true, false, if◌then◌else◌, List, [], ◌∷◌, length, get_or, drop, slice_index_or, inl, inr, refl, ap, sym, ◌∙◌, subst, arith}
use Rattle.std.specs.List.{flat_map}
use Rattle.std.proofs.lemmas.Bool.{cases_eq, cases_order}
use Rattle.std.proofs.lemmas.Bool.Decides.{nat_tests}
use Rattle.std.proofs.lemmas.List.{length-drop, length-replicate}
use Rattle.std.proofs.Math.Nat.{mul-le-mul_right}
use Rattle.oram_geometry.specs.declared.Sizes.{Sizes}
use Rattle.oram_geometry.specs.Sizes.{trees_of, depth_of, record_len_of}
use Rattle.oram_geometry.specs.Path.{node_on}
use Rattle.oram_wire.specs.HostMessages.{put_body, shape_body}
use Rattle.oram_tree.specs.Content.{node_count}
use Rattle.oram_tree.specs.Format.{PutsAll}
use Rattle.oram_tree.specs.State.{State as Tree}
use Rattle.oram_semantics.specs.Formatting.{IsTreeMade, AreTreesMade}
use Rattle.oram_semantics.specs.Scheme.{Scheme}
use Rattle.oram_semantics.proofs.Bounds.{depth_small, some_trees}
use Rattle.oram_semantics.proofs.Formatting.{each_joined, some_joined}
use Rattle.oram_semantics.proofs.PostOrder.{Each, Some1, each_put, some_put}
use Rattle.oram_semantics.specs.State.{no_tree}
use Rattle.oram_empty.specs.EmptyRecords.{empty_record}
use Rattle.oram_empty.specs.KeptDigests.{children_in, digests_part, upper_below, upper_count, piece, digests_len}
use Rattle.oram_empty.specs.Collecting.{Collection, Collects, blank, is_near, is_upper, near_nodes, collected, with_piece}
use Rattle.oram_empty.specs.Laws.{CollectionsHaveTheFormatting}
use Rattle.oram_empty.proofs.Counts.{upper_end, upper_node, node_upto, node_count-few, pow_few, within_tree}
use Rattle.oram_empty.proofs.Fixed.{formats_put}
use Rattle.oram_empty.proofs.Pieces.{piece-with_same, piece-with_other, length-with_piece}

-- the digests of two upper nodes are different pieces
upper_apart : (d : Sizes) (i j k m : ℕ) → k < upper_count (depth_of d i) → m < upper_count (depth_of d j) → upper_below d i + k ≡ upper_below d j + m → (i ≡ j) × (k ≡ m)
upper_apart d i j k m small few e = elim (cases_order i j) [
  | inl same ↦ (same, omega (arith, ap (upper_below d) same))
  | inr apart ↦ elim apart [
    | inl below ↦ absurd (omega (arith, upper_end d i j below))
    | inr above ↦ absurd (omega (arith, upper_end d j i above))
  ]
]

-- a collection of a device, with room for all digests and records
record IsFor (d : Sizes) (len near : ℕ) (s : Collection) : Type 0 where
  device_is : s.device ≡ d
  len_is : s.record_len ≡ len
  near_is : s.near ≡ near
  digests_whole : length s.digests ≡ digests_len d
  records_whole : length s.records ≡ near_nodes near * len

last_put : (t n : ℕ) (r : List ℕ) → drop 6 (put_body t n r) ≡ r
last_put t n r = refl

-- a PUT whose record hasn't the right length is no PUT of a record
put_ignored : (s to : Collection) (j k : ℕ) (r : List ℕ) → length r ≢ s.record_len → Collects s (put_body j k r) to → to ≡ s
put_ignored s to j k r wrong n = n.other (λ t m q small long is. wrong (ap (λ (b : List ℕ). length (drop 6 b)) is ∙ long))

shape_ignored : (s to : Collection) (j depth len : ℕ) → Collects s (shape_body j depth len) to → to ≡ s
shape_ignored s to j depth len n = n.other (λ t m q small long is. let four : 4 ≡ 3 = ap (λ (b : List ℕ). get_or b 0 0) is in absurd (omega arith))

is_upper-is : (d : Sizes) (tree node : ℕ) → tree < trees_of d → node < upper_count (depth_of d tree) → is_upper d tree node ≡ true
is_upper-is d tree node a b = grind (arith, nat_tests)

is_upper-tells : (d : Sizes) (tree node : ℕ) → is_upper d tree node ≡ true → (tree < trees_of d) × (node < upper_count (depth_of d tree))
is_upper-tells d tree node e = (grind (arith, nat_tests), grind (arith, nat_tests))

is_near-tells : (near tree node : ℕ) → is_near near tree node ≡ true → (tree ≡ 0) × (node < near_nodes near)
is_near-tells near tree node e = (grind (arith, nat_tests), grind (arith, nat_tests))

is_near-is : (near node : ℕ) → node < near_nodes near → is_near near 0 node ≡ true
is_near-is near node a = grind (arith, nat_tests)

-- whichever way a choice goes
if_both : (P : List ℕ → Type 0) (b : Bool) (x y : List ℕ) → (b ≡ true → P x) → (b ≡ false → P y) → P (if b then x else y)
if_both P true x y on off = on refl
if_both P false x y on off = off refl

-- the collected digests after another record was collected
abbrev digests_after : Sizes → List ℕ → ℕ → ℕ → List ℕ → List ℕ
digests_after d digests j k r = if is_upper d j k then with_piece 64 digests (upper_below d j + k) (digests_part r) else digests

length-digests_part : (r : List ℕ) → 64 ≤ length r → length (digests_part r) ≡ 64
length-digests_part r long = omega (arith, length-drop (length r - 64) r)

upper_fits : (d : Sizes) (digests : List ℕ) (j k : ℕ) → length digests ≡ digests_len d → j < trees_of d → k < upper_count (depth_of d j) → (upper_below d j + k) * 64 + 64 ≤ length digests
upper_fits d digests j k whole tree node = omega (arith, upper_end d j (trees_of d) tree)

module _ (d : Sizes) (digests r : List ℕ) (j k : ℕ) (whole : length digests ≡ digests_len d) (long : 64 ≤ length r) where
  length-digests_after : length (digests_after d digests j k r) ≡ digests_len d
  length-digests_after =
      let L : List ℕ → Type 0 = λ t. length t ≡ digests_len d in
      if_both L (is_upper d j k) (with_piece 64 digests (upper_below d j + k) (digests_part r)) digests
      (λ on. let has = is_upper-tells d j k on in length-with_piece 64 (upper_below d j + k) digests (digests_part r) (upper_fits d digests j k whole has.0 has.1) (length-digests_part r long) ∙ whole)
      (λ off. whole)

  digests_keep : (t n : ℕ) (x : List ℕ) → n < upper_count (depth_of d t) → (j ≡ t → k ≡ n → digests_part r ≡ x) → piece 64 digests (upper_below d t + n) ≡ x
      → piece 64 (digests_after d digests j k r) (upper_below d t + n) ≡ x
  digests_keep t n x node right was =
      let P : List ℕ → Type 0 = λ bytes. piece 64 bytes (upper_below d t + n) ≡ x in
      if_both P (is_upper d j k) (with_piece 64 digests (upper_below d j + k) (digests_part r)) digests
      (λ on.
      let has = is_upper-tells d j k on in
      let fits = upper_fits d digests j k whole has.0 has.1 in
      let len = length-digests_part r long in
      elim (cases_eq (upper_below d t + n) (upper_below d j + k)) [
        | inl same ↦
            let one = upper_apart d j t k n has.1 node (sym same) in
            ap (piece 64 (with_piece 64 digests (upper_below d j + k) (digests_part r))) same
            ∙ piece-with_same 64 (upper_below d j + k) digests (digests_part r) fits len ∙ right one.0 one.1
        | inr apart ↦ piece-with_other 64 (upper_below d j + k) (upper_below d t + n) digests (digests_part r) apart fits len ∙ was
      ])
      (λ off. was)

  digests_set : j < trees_of d → k < upper_count (depth_of d j) → piece 64 (digests_after d digests j k r) (upper_below d j + k) ≡ digests_part r
  digests_set tree node =
      ap (λ (b : Bool). piece 64 (if b then with_piece 64 digests (upper_below d j + k) (digests_part r) else digests) (upper_below d j + k)) (is_upper-is d j k tree node)
      ∙ piece-with_same 64 (upper_below d j + k) digests (digests_part r) (upper_fits d digests j k whole tree node) (length-digests_part r long)

-- the collected records after another record was collected
abbrev records_after : ℕ → ℕ → List ℕ → ℕ → ℕ → List ℕ → List ℕ
records_after len near records j k r = if is_near near j k then with_piece len records k r else records

near_fits : (len near n : ℕ) (records : List ℕ) → length records ≡ near_nodes near * len → n < near_nodes near → n * len + len ≤ length records
near_fits len near n records whole h = omega (arith, mul-le-mul_right len (let e : n + 1 ≤ near_nodes near = omega arith in e), (let e : (n + 1) * len ≡ n * len + len = omega arith in e))

module _ (len near : ℕ) (records r : List ℕ) (j k : ℕ) (whole : length records ≡ near_nodes near * len) (long : length r ≡ len) where
  length-records_after : length (records_after len near records j k r) ≡ near_nodes near * len
  length-records_after =
      let L : List ℕ → Type 0 = λ t. length t ≡ near_nodes near * len in
      if_both L (is_near near j k) (with_piece len records k r) records
      (λ on. let has = is_near-tells near j k on in length-with_piece len k records r (near_fits len near k records whole has.1) long ∙ whole)
      (λ off. whole)

  records_keep : (n : ℕ) (x : List ℕ) → (j ≡ 0 → k ≡ n → r ≡ x) → piece len records n ≡ x → piece len (records_after len near records j k r) n ≡ x
  records_keep n x right was =
      let P : List ℕ → Type 0 = λ bytes. piece len bytes n ≡ x in
      if_both P (is_near near j k) (with_piece len records k r) records
      (λ on.
      let has = is_near-tells near j k on in
      let fits = near_fits len near k records whole has.1 in
      elim (cases_eq n k) [
        | inl same ↦ ap (piece len (with_piece len records k r)) same ∙ piece-with_same len k records r fits long ∙ right has.0 (sym same)
        | inr apart ↦ piece-with_other len k n records r apart fits long ∙ was
      ])
      (λ off. was)

  records_set : j ≡ 0 → k < near_nodes near → piece len (records_after len near records j k r) k ≡ r
  records_set first node =
      ap (λ (i : ℕ). piece len (records_after len near records i k r) k) first
      ∙ ap (λ (b : Bool). piece len (if b then with_piece len records k r else records) k) (is_near-is near k node)
      ∙ piece-with_same len k records r (near_fits len near k records whole node) long

module _ (d : Sizes) (len near : ℕ) (room : 64 ≤ len) where
  -- the collection stays one of the device
  stays : (s : Collection) (j k : ℕ) (r : List ℕ) → IsFor d len near s → length r ≡ len → IsFor d len near (collected s j k r)
  stays s j k r f long = record {
    device_is = f.device_is;
    len_is = f.len_is;
    near_is = f.near_is;
    digests_whole = ap (λ (e : Sizes). length (digests_after e s.digests j k r)) f.device_is ∙ length-digests_after d s.digests r j k f.digests_whole (omega arith);
    records_whole = ap (λ (l : ℕ). length (records_after l s.near s.records j k r)) f.len_is ∙ ap (λ (n : ℕ). length (records_after len n s.records j k r)) f.near_is
        ∙ length-records_after len near s.records r j k f.records_whole long;
  }

  -- a message keeps a property of the collection, and a message sets it
  Keeps : (Collection → Type 0) → List ℕ → Type 0
  Keeps P body = (s to : Collection) → IsFor d len near s → Collects s body to → IsFor d len near to × (P s → P to)

  Sets : (Collection → Type 0) → List ℕ → Type 0
  Sets P body = (s to : Collection) → IsFor d len near s → Collects s body to → P to

  -- a property that some message sets and each keeps holds after all
  kept_all : (P : Collection → Type 0) (bodies : List (List ℕ)) (from to : Collection) → Each (Keeps P) bodies → IsFor d len near from → PutsAll Collects from bodies to → IsFor d len near to × (P from → P to)
  unfolding Keeps
  kept_all P [] from to each f puts = (subst (IsFor d len near) puts f, λ p. subst P puts p)
  kept_all P (body ∷ bodies) from to each f puts =
      let one = each.0 from puts.0 f puts.1 in
      let rest = kept_all P bodies puts.0 to each.1 one.0 puts.2 in
      (rest.0, λ p. rest.1 (one.1 p))

  set_once : (P : Collection → Type 0) (bodies : List (List ℕ)) (from to : Collection) → Each (Keeps P) bodies → Some1 (Sets P) bodies → IsFor d len near from → PutsAll Collects from bodies to → P to
  unfolding Keeps Sets
  set_once P [] from to each some f puts = absurd some
  set_once P (body ∷ bodies) from to each (inl here) f puts =
      let one = each.0 from puts.0 f puts.1 in
      (kept_all P bodies puts.0 to each.1 one.0 puts.2).1 (here from puts.0 f puts.1)
  set_once P (body ∷ bodies) from to each (inr later) f puts =
      let one = each.0 from puts.0 f puts.1 in
      set_once P bodies puts.0 to each.1 later one.0 puts.2

  shape_keeps : (P : Collection → Type 0) (j depth size : ℕ) → Keeps P (shape_body j depth size)
  unfolding Keeps
  shape_keeps P j depth size s to f n =
      let same = sym (shape_ignored s to j depth size n) in
      (subst (IsFor d len near) same f, λ p. subst P same p)

  -- a PUT keeps a property if the collecting of its record does
  put_keeps : (P : Collection → Type 0) (j k : ℕ) (r : List ℕ) → k < 2 ^ 32 → ((s : Collection) → IsFor d len near s → length r ≡ len → P s → P (collected s j k r)) → Keeps P (put_body j k r)
  unfolding Keeps
  put_keeps P j k r small step s to f n = elim (cases_eq (length r) s.record_len) [
    | inl long ↦
        let same = sym (n.put j k r small long refl) in
        (subst (IsFor d len near) same (stays s j k r f (long ∙ f.len_is)), λ p. subst P same (step s f (long ∙ f.len_is) p))
    | inr wrong ↦
        let same = sym (put_ignored s to j k r wrong n) in
        (subst (IsFor d len near) same f, λ p. subst P same p)
  ]

  put_sets : (P : Collection → Type 0) (j k : ℕ) (r : List ℕ) → k < 2 ^ 32 → length r ≡ len → ((s : Collection) → IsFor d len near s → P (collected s j k r)) → Sets P (put_body j k r)
  unfolding Sets
  put_sets P j k r small long step s to f n = subst P (sym (n.put j k r small (long ∙ sym f.len_is) refl)) (step s f)

-- the messages of a formatting: a SHAPE and PUTs for each tree

module _ (v : Scheme) (near : ℕ) (room : 64 ≤ record_len_of v.device v.cipher.overhead) where
  abbrev len_of : ℕ
  len_of = record_len_of v.device v.cipher.overhead

  -- each message of tree j keeps what the collecting of each record of tree j keeps
  each_of : (P : Collection → Type 0) (j : ℕ) (tree : Tree) (bodies : List (List ℕ)) (is : IsTreeMade v j tree bodies)
      → ((k : ℕ) (s : Collection) → IsFor v.device len_of near s → length (is.made.records k) ≡ len_of → P s → P (collected s tree.number k (is.made.records k)))
      → Each (Keeps v.device len_of near room P) bodies
  each_of P j tree bodies is step =
      let m = is.made in
      let n = tree.number in
      subst (Each (Keeps v.device len_of near room P)) (sym m.bodies_are) (
        shape_keeps v.device len_of near room P n (depth_of v.device n) (record_len_of v.device v.cipher.overhead),
        each_put (Keeps v.device len_of near room P) (λ k. put_body n k (m.records k)) (depth_of v.device n) (depth_small v.device n) (λ k small. put_keeps v.device len_of near room P n k (m.records k) small (step k)),
      )

  -- some message of tree j sets what the collecting of its record of node k sets
  some_of : (P : Collection → Type 0) (j : ℕ) (tree : Tree) (bodies : List (List ℕ)) (is : IsTreeMade v j tree bodies) (k : ℕ) → k < node_count (depth_of v.device j)
      → ((s : Collection) → IsFor v.device len_of near s → length (is.made.records k) ≡ len_of → P (collected s tree.number k (is.made.records k)))
      → Some1 (Sets v.device len_of near room P) bodies
  some_of P j tree bodies is k within step =
      let m = is.made in
      let n = tree.number in
      let node : k < node_count (depth_of v.device n) = subst (λ (i : ℕ). k < node_count (depth_of v.device i)) (sym is.number) within in
      let small : k < 2 ^ 32 = omega (arith, node_count-few (depth_of v.device j) (depth_small v.device j)) in
      subst (Some1 (Sets v.device len_of near room P)) (sym m.bodies_are)
      (inr (some_put (Sets v.device len_of near room P) (λ q. put_body n q (m.records q)) (depth_of v.device n) k node
      (put_sets v.device len_of near room P n k (m.records k) small (m.empty.stands.lengths k node) (λ s f. step s f (m.empty.stands.lengths k node)))))

  all_of : (P : Collection → Type 0) (t : ℕ) (trees : List Tree) (messages : List (List ℕ)) (from to : Collection) (a : AreTreesMade v (trees_of v.device) trees messages) → t < trees_of v.device
      → ((j : ℕ) (below : j < trees_of v.device) (k : ℕ) (s : Collection) → IsFor v.device len_of near s → length ((a.each j below).made.records k) ≡ len_of → P s → P (collected s (slice_index_or trees j no_tree).number k ((a.each j below).made.records k)))
      → (k : ℕ) → k < node_count (depth_of v.device t)
      → ((below : t < trees_of v.device) (s : Collection) → IsFor v.device len_of near s → length ((a.each t below).made.records k) ≡ len_of → P (collected s (slice_index_or trees t no_tree).number k ((a.each t below).made.records k)))
      → IsFor v.device len_of near from → PutsAll Collects from messages to → P to
  all_of P t trees messages from to a tree keeps k node sets f puts =
      let each : Each (Keeps v.device len_of near room P) (flat_map (λ part. part) a.parts) = each_joined (Keeps v.device len_of near room P) a.parts
      (λ j few. let below : j < trees_of v.device = omega (arith, a.parts_count) in each_of P j (slice_index_or trees j no_tree) (slice_index_or a.parts j []) (a.each j below) (keeps j below)) in
      let some : Some1 (Sets v.device len_of near room P) (flat_map (λ part. part) a.parts) = some_joined (Sets v.device len_of near room P) a.parts t (omega (arith, a.parts_count))
      (some_of P t (slice_index_or trees t no_tree) (slice_index_or a.parts t []) (a.each t tree) k node (sets tree)) in
      set_once v.device len_of near room P messages from to (subst (Each (Keeps v.device len_of near room P)) (sym a.joined) each) (subst (Some1 (Sets v.device len_of near room P)) (sym a.joined) some) f puts

blank_for : (d : Sizes) (overhead near : ℕ) → IsFor d (record_len_of d overhead) near (blank d overhead near)
blank_for d overhead near = record { device_is = refl; len_is = refl; near_is = refl; digests_whole = length-replicate (digests_len d) 0; records_whole = length-replicate (near_nodes near * record_len_of d overhead) 0 }

room_for : (d : Sizes) (overhead : ℕ) → 64 ≤ record_len_of d overhead
unfolding record_len_of
room_for d overhead = omega arith

-- the record that a tree's formatting has for the node at a level of a leaf's path
record_at_node : (v : Scheme) (j t leaf level k : ℕ) (tree : Tree) (bodies : List (List ℕ)) (is : IsTreeMade v j tree bodies) → tree.number ≡ t → leaf < 2 ^ depth_of v.device t → level ≤ depth_of v.device t
    → k ≡ node_on (depth_of v.device t) leaf level → is.made.records k ≡ empty_record v.cipher v.device t leaf level
record_at_node v j t leaf level k tree bodies is here leaf_in within at =
    let same : j ≡ t = sym is.number ∙ here in
    let At : ℕ → Type 0 = λ n. leaf < 2 ^ depth_of v.device n → level ≤ depth_of v.device n → k ≡ node_on (depth_of v.device n) leaf level → is.made.records k ≡ empty_record v.cipher v.device n leaf level in
    let all : At j = λ l w e. ap is.made.records e ∙ formats_put v j tree bodies is leaf level l w in
    subst At same all leaf_in within at

digests_collected : (v : Scheme) (trees : List Tree) (messages : List (List ℕ)) (near : ℕ) (s : Collection) → AreTreesMade v (trees_of v.device) trees messages → PutsAll Collects (blank v.device v.cipher.overhead near) messages s
    → (t leaf level : ℕ) → t < trees_of v.device → leaf < 2 ^ depth_of v.device t → level + 3 < depth_of v.device t
    → children_in v.device s.digests t (node_on (depth_of v.device t) leaf level) ≡ digests_part (empty_record v.cipher v.device t leaf level)
digests_collected v trees messages near s a puts t leaf level tree leaf_in low =
    let d = v.device in
    let len = record_len_of d v.cipher.overhead in
    let room = room_for d v.cipher.overhead in
    let n = node_on (depth_of d t) leaf level in
    let x = digests_part (empty_record v.cipher d t leaf level) in
    let P : Collection → Type 0 = λ q. piece 64 q.digests (upper_below d t + n) ≡ x in
    let node = upper_node (depth_of d t) leaf level leaf_in low in
    all_of v near room P t trees messages (blank d v.cipher.overhead near) s a tree
    (λ j below k q f long was.
    let m = (a.each j below).made in
    let number = (slice_index_or trees j no_tree).number in
    ap (λ (e : Sizes). piece 64 (digests_after e q.digests number k (m.records k)) (upper_below d t + n)) f.device_is
    ∙ digests_keep d q.digests (m.records k) number k f.digests_whole (omega arith) t n x node
    (λ here at. ap digests_part (record_at_node v j t leaf level k (slice_index_or trees j no_tree) (slice_index_or a.parts j []) (a.each j below) here leaf_in (omega arith) at)) was)
    n (within_tree (depth_of d t) leaf level leaf_in (omega arith))
    (λ below q f whole.
    let m = (a.each t below).made in
    let number = (slice_index_or trees t no_tree).number in
    let is = record_at_node v t t leaf level n (slice_index_or trees t no_tree) (slice_index_or a.parts t []) (a.each t below) (a.each t below).number leaf_in (omega arith) refl in
    let here : number ≡ t = (a.each t below).number in
    let long : 64 ≤ length (m.records n) = omega arith in
    ap (λ (e : Sizes). piece 64 (digests_after e q.digests number n (m.records n)) (upper_below d t + n)) f.device_is
    ∙ ap (λ (i : ℕ). piece 64 (digests_after d q.digests i n (m.records n)) (upper_below d t + n)) here
    ∙ digests_set d q.digests (m.records n) t n f.digests_whole long tree node ∙ ap digests_part is)
    (blank_for d v.cipher.overhead near) puts

-- a near node is one of the first nodes
near_node : (depth leaf level near : ℕ) → leaf < 2 ^ depth → near ≤ depth → level < near → node_on depth leaf level < near_nodes near
near_node depth leaf level near fits most h = omega (arith, node_upto depth leaf level fits (omega arith), pow_few (level + 1) near (omega arith))

records_collected : (v : Scheme) (trees : List Tree) (messages : List (List ℕ)) (near : ℕ) (s : Collection) → near ≤ depth_of v.device 0 → AreTreesMade v (trees_of v.device) trees messages → PutsAll Collects (blank v.device v.cipher.overhead near) messages s
    → (leaf level : ℕ) → leaf < 2 ^ depth_of v.device 0 → level < near
    → piece (record_len_of v.device v.cipher.overhead) s.records (node_on (depth_of v.device 0) leaf level) ≡ empty_record v.cipher v.device 0 leaf level
records_collected v trees messages near s most a puts leaf level leaf_in below_near =
    let d = v.device in
    let len = record_len_of d v.cipher.overhead in
    let room = room_for d v.cipher.overhead in
    let n = node_on (depth_of d 0) leaf level in
    let x = empty_record v.cipher d 0 leaf level in
    let P : Collection → Type 0 = λ q. piece len q.records n ≡ x in
    let node = near_node (depth_of d 0) leaf level near leaf_in most below_near in
    all_of v near room P 0 trees messages (blank d v.cipher.overhead near) s a (some_trees d)
    (λ j below k q f long was.
    let m = (a.each j below).made in
    let number = (slice_index_or trees j no_tree).number in
    ap (λ (l : ℕ). piece len (records_after l q.near q.records number k (m.records k)) n) f.len_is
    ∙ ap (λ (w : ℕ). piece len (records_after len w q.records number k (m.records k)) n) f.near_is
    ∙ records_keep len near q.records (m.records k) number k f.records_whole long n x
    (λ here at. record_at_node v j 0 leaf level k (slice_index_or trees j no_tree) (slice_index_or a.parts j []) (a.each j below) here leaf_in (omega arith) at) was)
    n (within_tree (depth_of d 0) leaf level leaf_in (omega arith))
    (λ below q f long.
    let m = (a.each 0 below).made in
    let number = (slice_index_or trees 0 no_tree).number in
    ap (λ (l : ℕ). piece len (records_after l q.near q.records number n (m.records n)) n) f.len_is
    ∙ ap (λ (w : ℕ). piece len (records_after len w q.records number n (m.records n)) n) f.near_is
    ∙ records_set len near q.records (m.records n) number n f.records_whole long (a.each 0 below).number node
    ∙ record_at_node v 0 0 leaf level n (slice_index_or trees 0 no_tree) (slice_index_or a.parts 0 []) (a.each 0 below) (a.each 0 below).number leaf_in (omega arith) refl)
    (blank_for d v.cipher.overhead near) puts

-- after all messages the collection is still one of the device
still_for : (v : Scheme) (trees : List Tree) (messages : List (List ℕ)) (near : ℕ) (s : Collection) → AreTreesMade v (trees_of v.device) trees messages → PutsAll Collects (blank v.device v.cipher.overhead near) messages s
    → IsFor v.device (record_len_of v.device v.cipher.overhead) near s
still_for v trees messages near s a puts =
    let d = v.device in
    let len = record_len_of d v.cipher.overhead in
    let room = room_for d v.cipher.overhead in
    let P : Collection → Type 0 = IsFor d len near in
    let each : Each (Keeps d len near room P) (flat_map (λ part. part) a.parts) = each_joined (Keeps d len near room P) a.parts
    (λ j few. let below : j < trees_of d = omega (arith, a.parts_count) in each_of v near room P j (slice_index_or trees j no_tree) (slice_index_or a.parts j []) (a.each j below)
    (λ k q f long was. stays d len near room q (slice_index_or trees j no_tree).number k ((a.each j below).made.records k) f long)) in
    (kept_all d len near room P messages (blank d v.cipher.overhead near) s (subst (Each (Keeps d len near room P)) (sym a.joined) each) (blank_for d v.cipher.overhead near) puts).0

pub collections_have : CollectionsHaveTheFormatting
collections_have v trees messages near s most a puts =
    let d = v.device in
    let f = still_for v trees messages near s a puts in
    record {
      device_is = f.device_is;
      near_is = f.near_is;
      digests_whole = f.digests_whole;
      records_whole = f.records_whole;
      digests = record { each = digests_collected v trees messages near s a puts };
      records = λ leaf level leaf_in below. records_collected v trees messages near s most a puts leaf level leaf_in below;
    }
