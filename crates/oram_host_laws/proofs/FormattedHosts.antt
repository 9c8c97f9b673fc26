-- A host is formatted: it takes each message, unless it has no room, and then it keeps each tree whole.
use Rattle.std.proofs.Common.{◌≡◌, ◌⊎◌, ℕ, ◌+◌, ◌-◌, ◌*◌, ◌^◌, ◌<◌, ◌≤◌, List, [], ◌∷◌, ◌++◌, length, map, slice_index_or, append_assoc, Option, Some, None, unwrap_or, refl, ap, sym, ◌∙◌, subst, arith, inl, inr, zero, suc}
use Rattle.std.specs.Prelude.{MatchOption}
use Rattle.std.specs.List.{flat_map}
use Rattle.std.proofs.Math.Nat.{pow-le-pow_right, mul-le-mul_left}
use Rattle.std.proofs.lemmas.Nat.{pow-add, pow_pos, mul-le}
use Rattle.std.proofs.lemmas.List.{append-nil}
use Rattle.std.proofs.lemmas.Bool.{cases_eq}
use Rattle.oram_geometry.specs.Sizes.{IsDevice, trees_of, depth_of, record_len_of}
use Rattle.oram_wire.specs.HostMessages.{put_body, shape_body}
use Rattle.oram_wire.specs.declared.host_messages.HostRequest.TheVariants as request
use Rattle.oram_wire.specs.declared.host_messages.HostAnswer.{HostAnswer}
use Rattle.oram_wire.specs.declared.host_messages.HostAnswer.TheVariants.{Done, Payload, Refused}
use Rattle.oram_host.specs.declared.refusals.HostRefusal.{HostRefusal}
use Rattle.oram_host.specs.declared.refusals.HostRefusal.TheVariants.{NoShape, BadLeaf, BadNode, BadLength, ShapeTaken, Missing, BadOp, OutOfMemory}
use Rattle.oram_host.specs.Answers.{Answers, IsPut, IsShaped}
use Rattle.oram_host.specs.Host.{Host, IsShape, Kept, record_of, tree_at}
use Rattle.oram_host.specs.Refusals.{RefusesPut, RefusesShape, code_of}
use Rattle.oram_tree.specs.Content.{node_count}
use Rattle.oram_tree.specs.Faults.{format_fault}
use Rattle.oram_tree.specs.Format.{PutsAll, IsBrokenOff, post_order}
use Rattle.oram_tree.specs.declared.faults.FormatFault.{FormatFault}
use Rattle.oram_tree.specs.declared.faults.FormatFault.TheVariants as formatting
use Rattle.oram_wire.specs.declared.sinks.SinkFault.{SinkFault}
use Rattle.oram_wire.specs.declared.sinks.SinkFault.TheVariants as sinking
use Rattle.oram_tree.specs.State.{State as Tree}
use Rattle.oram_semantics.specs.Scheme.{Scheme, record_len}
use Rattle.oram_semantics.specs.Formatting.{IsTreeMade, AreTreesMade, IsFormatted, IsFormatBegun}
use Rattle.oram_semantics.specs.Progress.{Setting, sent, records_of}
use Rattle.oram_semantics.specs.State.{no_tree}
use Rattle.oram_semantics.proofs.Bounds.{depth_small}
use Rattle.oram_semantics.proofs.PostOrder.{Each, Some1, each_append, each_put, some_put, order_cut, order_leaf}
use Rattle.oram_semantics.proofs.Formatting.{each_joined, some_joined, left_there}
use Rattle.oram_host.specs.Service.{Serves, fault_by}
use Rattle.oram_host_laws.specs.Honest.{Refusing, Takes, KeepsAll}
use Rattle.oram_host_laws.proofs.Handed.{kept_same, IsFull}

-- a host takes the shape of each tree

module _ (v : Scheme) (device : IsDevice v.device) (light : v.cipher.overhead ≤ 64) where
  record_small : (record_len v ≤ 32960) × (0 < record_len v)
  unfolding record_len_of
  record_small =
      let buckets : v.device.slots * (8 + v.device.block_bytes) ≤ 8 * 4104 =
      mul-le v.device.slots (8 + v.device.block_bytes) 8 4104 device.few_slots (omega (arith, device.few_bytes)) in
      (omega arith, omega arith)

  pub shape_fits : (i : ℕ) → IsShape (depth_of v.device i) (record_len v)
  shape_fits i =
      let path : (depth_of v.device i + 1) * record_len v ≤ 25 * 32960 =
      mul-le (depth_of v.device i + 1) (record_len v) 25 32960 (omega (arith, depth_small v.device i)) record_small.0 in
      record { deep = depth_small v.device i; long = record_small.1; fits = omega arith }

-- the host has the shape of tree i
pub record HasShape (v : Scheme) (i : ℕ) (host : Host) : Type 0 where
  pub kept : Kept
  pub there : tree_at host i ≡ Some kept
  pub depth : kept.depth ≡ depth_of v.device i
  pub record_len : kept.record_len ≡ record_len v

-- the host has the shapes of the trees before tree n, and of no others
pub record HasShapes (v : Scheme) (n : ℕ) (host : Host) : Type 0 where
  pub shaped : (i : ℕ) → i < n → HasShape v i host
  pub free : (i : ℕ) → n ≤ i → tree_at host i ≡ None

-- the body puts a record of a tree before tree n
pub record IsPutBelow (v : Scheme) (n : ℕ) (body : List ℕ) : Type 0 where
  pub tree : ℕ
  pub node : ℕ
  pub bytes : List ℕ
  pub below : tree < n
  pub inside : node < node_count (depth_of v.device tree)
  pub whole : length bytes ≡ record_len v
  pub is : body ≡ put_body tree node bytes

-- bodies that follow when n trees have their shape, and after which m have: each is the shape of the next tree, or a
-- record
abbrev pub Grows : Scheme → ℕ → List (List ℕ) → ℕ → Type 0
Grows v n [] m = n ≡ m
Grows v n (b ∷ bs) m =
    ((b ≡ shape_body n (depth_of v.device n) (record_len v)) × Grows v (n + 1) bs m) ⊎ (IsPutBelow v n b × Grows v n bs m)

-- one body

some_none : {X : Type 0} (o : Option X) (x : X) → o ≡ Some x → o ≡ None → ⊥
some_none o x some none = let both : Some x ≡ None = sym some ∙ none in absurd (let no_way : ⊥ = cc in no_way)

shape_room : (depth len : ℕ) (why : HostRefusal) → IsShape depth len → RefusesShape None depth len why → code_of why ≡ 8
shape_room depth len NoShape fits r = absurd r
shape_room depth len BadLeaf fits r = absurd r
shape_room depth len BadNode fits r = absurd r
shape_room depth len BadLength fits r = absurd (r fits)
shape_room depth len ShapeTaken fits r = absurd (r.1 refl)
shape_room depth len Missing fits r = absurd r
shape_room depth len BadOp fits r = absurd r
shape_room depth len OutOfMemory fits r = refl

put_room : (kept : Kept) (node : ℕ) (bytes : List ℕ) (why : HostRefusal) → node < 2 ^ (kept.depth + 1) - 1
    → length bytes ≡ kept.record_len → RefusesPut kept node bytes why → code_of why ≡ 8
put_room kept node bytes NoShape inside whole r = absurd r
put_room kept node bytes BadLeaf inside whole r = absurd r
put_room kept node bytes BadNode inside whole r = absurd (omega arith)
put_room kept node bytes BadLength inside whole r = absurd (r.1 whole)
put_room kept node bytes ShapeTaken inside whole r = absurd r
put_room kept node bytes Missing inside whole r = absurd r
put_room kept node bytes BadOp inside whole r = absurd r
put_room kept node bytes OutOfMemory inside whole r = refl

-- the body was carried out, and this many trees have their shape; or there was no room
abbrev pub Taken : Scheme → ℕ → Host → HostAnswer → Host → Type 0
Taken v n host answer after = ((answer ≡ Done) × HasShapes v n after) ⊎ IsFull host answer after

shapes_more : (v : Scheme) (n : ℕ) (host after : Host) → HasShapes v n host
    → IsShaped host n (depth_of v.device n) (record_len v) after → HasShapes v (n + 1) after
shapes_more v n host after h is = record {
  shaped = λ i below. elim (cases_eq i n) [
    | inl same ↦
        subst (λ (k : ℕ). HasShape v k after) (sym same)
        (record { kept = record { depth = depth_of v.device n; record_len = record_len v; records = [] }; there = is.keeps.here; depth = refl; record_len = refl })
    | inr other ↦
        let old : HasShape v i host = h.shaped i (omega arith) in
        record { kept = old.kept; there = is.keeps.others i other ∙ old.there; depth = old.depth; record_len = old.record_len }
  ];
  free = λ i above. is.keeps.others i (λ e. absurd (omega arith)) ∙ h.free i (omega arith);
}

shape_answered : (v : Scheme) (n : ℕ) (host after : Host) (answer : HostAnswer) → IsShape (depth_of v.device n) (record_len v)
    → HasShapes v n host → Answers host (request.Shape n (depth_of v.device n) (record_len v)) answer after
    → Taken v (n + 1) host answer after
shape_answered v n host after (Payload bytes) fits h is = absurd is
shape_answered v n host after (Refused code) fits h is =
    let free : RefusesShape None (depth_of v.device n) (record_len v) is.0 =
    subst (λ (o : Option Kept). RefusesShape o (depth_of v.device n) (record_len v) is.0) (h.free n (omega arith)) is.2 in
    inr (record { refused = ap Refused (is.1 ∙ shape_room (depth_of v.device n) (record_len v) is.0 fits free); unchanged = is.3 })
shape_answered v n host after Done fits h is = inl (refl, shapes_more v n host after h is)

shape_handed : (v : Scheme) (n : ℕ) (body : List ℕ) (host after : Host) (answer : HostAnswer)
    → IsShape (depth_of v.device n) (record_len v) → HasShapes v n host
    → body ≡ shape_body n (depth_of v.device n) (record_len v) → Serves host body answer after
    → Taken v (n + 1) host answer after
shape_handed v n body host after answer fits h is serves =
    let small : record_len v < 2 ^ 32 =
    let some : 1 * record_len v ≤ (depth_of v.device n + 1) * record_len v = mul-le 1 (record_len v) (depth_of v.device n + 1) (record_len v) (omega arith) (omega arith) in
    omega (arith, fits.fits) in
    shape_answered v n host after answer fits h (serves.request (request.Shape n (depth_of v.device n) (record_len v)) small is)

shapes_kept : (v : Scheme) (n tree node : ℕ) (bytes : List ℕ) (host after : Host) → tree < n → HasShapes v n host
    → IsPut host tree node bytes after → HasShapes v n after
shapes_kept v n tree node bytes host after below h is = record {
  shaped = λ i inside. elim (cases_eq i tree) [
    | inl same ↦
        let old : HasShape v tree host = h.shaped tree below in
        let alike : is.kept ≡ old.kept = kept_same (tree_at host tree) is.kept old.kept is.shaped old.there in
        subst (λ (k : ℕ). HasShape v k after) (sym same)
        (record { kept = is.changed; there = is.keeps.here; depth = is.puts.depth ∙ ap (λ (k : Kept). k.depth) alike ∙ old.depth; record_len = is.puts.record_len ∙ ap (λ (k : Kept). k.record_len) alike ∙ old.record_len })
    | inr other ↦
        let old : HasShape v i host = h.shaped i inside in
        record { kept = old.kept; there = is.keeps.others i other ∙ old.there; depth = old.depth; record_len = old.record_len }
  ];
  free = λ i above. is.keeps.others i (λ e. absurd (omega arith)) ∙ h.free i above;
}

put_answered : (v : Scheme) (n : ℕ) (body : List ℕ) (p : IsPutBelow v n body) (host after : Host) (answer : HostAnswer)
    → HasShapes v n host → Answers host (request.Put p.tree p.node p.bytes) answer after → Taken v n host answer after
put_answered v n body p host after (Payload bytes) h is = absurd is
put_answered v n body p host after (Refused code) h is =
    let old : HasShape v p.tree host = h.shaped p.tree p.below in
    let r : RefusesPut old.kept p.node p.bytes is.0 =
    subst (λ (o : Option Kept). MatchOption o (is.0 ≡ NoShape) (λ kept. RefusesPut kept p.node p.bytes is.0)) old.there is.2 in
    let inside : p.node < 2 ^ (old.kept.depth + 1) - 1 = subst (λ (k : ℕ). p.node < 2 ^ (k + 1) - 1) (sym old.depth) p.inside in
    inr (record { refused = ap Refused (is.1 ∙ put_room old.kept p.node p.bytes is.0 inside (p.whole ∙ sym old.record_len) r); unchanged = is.3 })
put_answered v n body p host after Done h is = inl (refl, shapes_kept v n p.tree p.node p.bytes host after p.below h is)

nodes_few : (depth : ℕ) → depth ≤ 24 → node_count depth < 2 ^ 32
nodes_few depth few =
    let most : 2 ^ depth ≤ 2 ^ 24 = pow-le-pow_right {n = 2} (omega arith) {i = depth} {j = 24} few in
    omega (arith, pow-add 2 depth 1)

put_handed : (v : Scheme) (n : ℕ) (body : List ℕ) (host after : Host) (answer : HostAnswer) → HasShapes v n host
    → IsPutBelow v n body → Serves host body answer after → Taken v n host answer after
put_handed v n body host after answer h p serves =
    let small : node_count (depth_of v.device p.tree) < 2 ^ 32 = nodes_few (depth_of v.device p.tree) (depth_small v.device p.tree) in
    put_answered v n body p host after answer h (serves.request (request.Put p.tree p.node p.bytes) (omega (arith, p.inside)) p.is)

-- bodies one after the other

refused_not : (host after : Host) → IsFull host Done after → ⊥
refused_not host after is = absurd (let both : Done ≡ Refused 8 = is.refused in let no_way : ⊥ = cc in no_way)

taken_by : (v : Scheme) (n : ℕ) (host after : Host) → Taken v n host Done after → HasShapes v n after
taken_by v n host after (inl done) = done.1
taken_by v n host after (inr full) = absurd (refused_not host after full)

-- if some bodies were carried out, the remaining ones follow
pub record Midway (v : Scheme) (rest : List (List ℕ)) (m : ℕ) (host : Host) : Type 0 where
  pub count : ℕ
  pub shapes : HasShapes v count host
  pub left : Grows v count rest m

pub midway : (v : Scheme) (n m : ℕ) (taken rest : List (List ℕ)) (from to : Host) → ((i : ℕ) → IsShape (depth_of v.device i) (record_len v))
    → HasShapes v n from → Grows v n (taken ++ rest) m → PutsAll Takes from taken to → Midway v rest m to
midway v n m [] rest from to fits h grows e = record { count = n; shapes = subst (HasShapes v n) e h; left = grows }
midway v n m (body ∷ taken) rest from to fits h (inl shape) puts =
    midway v (n + 1) m taken rest puts.0 to fits (taken_by v (n + 1) from puts.0 (shape_handed v n body from puts.0 Done (fits n) h shape.0 puts.1)) shape.1 puts.2
midway v n m (body ∷ taken) rest from to fits h (inr put) puts =
    midway v n m taken rest puts.0 to fits (taken_by v n from puts.0 (put_handed v n body from puts.0 Done h put.0 puts.1)) put.1 puts.2

next_taken : (v : Scheme) (n m : ℕ) (body : List ℕ) (rest : List (List ℕ)) (host after : Host) (answer : HostAnswer)
    → ((i : ℕ) → IsShape (depth_of v.device i) (record_len v)) → HasShapes v n host → Grows v n (body ∷ rest) m
    → Serves host body answer after → (answer ≡ Done) ⊎ IsFull host answer after
next_taken v n m body rest host after answer fits h (inl shape) serves = elim (shape_handed v n body host after answer (fits n) h shape.0 serves) [ inl done ↦ inl done.0 | inr full ↦ inr full ]
next_taken v n m body rest host after answer fits h (inr put) serves = elim (put_handed v n body host after answer h put.0 serves) [ inl done ↦ inl done.0 | inr full ↦ inr full ]

-- the messages of a formatting are bodies of this kind

-- a property of each node of a tree
each_within : (P : List ℕ → Type 0) (f : ℕ → List ℕ) (h n m : ℕ) → (n + 2) * 2 ^ h ≤ m + 1
    → ((k : ℕ) → k < m → P (f k)) → Each P (map f (post_order h n))
each_within P f zero n m most all = subst (Each P) (sym (order_leaf f n)) (all n (omega arith), tt)
each_within P f (suc k) n m most all =
    let two : 2 ^ suc k ≡ 2 ^ k * 2 = (let z : suc k ≡ k + 1 = omega arith in ap (λ (j : ℕ). 2 ^ j) z) ∙ pow-add 2 k 1 in
    let whole : (n + 2) * (2 ^ k * 2) ≤ m + 1 = subst (λ (p : ℕ). (n + 2) * p ≤ m + 1) two most in
    let some : 1 ≤ 2 ^ k * 2 = omega (arith, pow_pos k) in
    let top : (n + 2) * 1 ≤ (n + 2) * (2 ^ k * 2) = mul-le-mul_left (n + 2) some in
    subst (Each P) (sym (order_cut f k n))
    (each_append P (map f (post_order k (2 * n + 1))) (map f (post_order k (2 * n + 2)) ++ f n ∷ []) (each_within P f k (2 * n + 1) m (omega arith) all)
    (each_append P (map f (post_order k (2 * n + 2))) (f n ∷ []) (each_within P f k (2 * n + 2) m (omega arith) all) (all n (omega arith), tt)))

puts_grow : (v : Scheme) (n : ℕ) (bodies : List (List ℕ)) → Each (IsPutBelow v n) bodies → Grows v n bodies n
puts_grow v n [] each = refl
puts_grow v n (b ∷ bodies) each = inr (each.0, puts_grow v n bodies each.1)

grows_append : (v : Scheme) (n k m : ℕ) (xs ys : List (List ℕ)) → Grows v n xs k → Grows v k ys m → Grows v n (xs ++ ys) m
grows_append v n k m [] ys e later = subst (λ (j : ℕ). Grows v j ys m) (sym e) later
grows_append v n k m (x ∷ xs) ys (inl shape) later = inl (shape.0, grows_append v (n + 1) k m xs ys shape.1 later)
grows_append v n k m (x ∷ xs) ys (inr put) later = inr (put.0, grows_append v n k m xs ys put.1 later)

tree_grows : (v : Scheme) (i : ℕ) (tree : Tree) (bodies : List (List ℕ)) → IsTreeMade v i tree bodies → Grows v i bodies (i + 1)
tree_grows v i tree bodies made =
    let is = made.made in
    let j : ℕ = tree.number in
    subst (λ (k : ℕ). Grows v k bodies (k + 1)) made.number
    (subst (λ (bs : List (List ℕ)). Grows v j bs (j + 1)) (sym is.bodies_are)
    (inl (
      refl,
      puts_grow v (j + 1) (map (λ n. put_body j n (is.records n)) (post_order (depth_of v.device j) 0))
          (each_within (IsPutBelow v (j + 1)) (λ n. put_body j n (is.records n)) (depth_of v.device j) 0 (node_count (depth_of v.device j))
          (omega (arith, pow-add 2 (depth_of v.device j) 1, pow_pos (depth_of v.device j)))
          (λ k small. record { tree = j; node = k; bytes = is.records k; below = omega arith; inside = small; whole = is.empty.stands.lengths k small; is = refl })),
    )))

parts_grow : (v : Scheme) (trees : List Tree) (parts : List (List (List ℕ))) (i : ℕ)
    → ((k : ℕ) → k < length parts → IsTreeMade v (i + k) (slice_index_or trees (i + k) no_tree) (slice_index_or parts k []))
    → Grows v i (flat_map (λ part. part) parts) (i + length parts)
parts_grow v trees [] i made = omega arith
parts_grow v trees (part ∷ parts) i made =
    let here : i + 0 ≡ i = omega arith in
    let first : IsTreeMade v i (slice_index_or trees i no_tree) part =
    subst (λ (k : ℕ). IsTreeMade v k (slice_index_or trees k no_tree) part) here (made 0 (omega arith)) in
    let total : i + 1 + length parts ≡ i + length (part ∷ parts) = omega arith in
    grows_append v i (i + 1) (i + length (part ∷ parts)) part (flat_map (λ part. part) parts) (tree_grows v i (slice_index_or trees i no_tree) part first)
    (subst (Grows v (i + 1) (flat_map (λ part. part) parts)) total (parts_grow v trees parts (i + 1) (λ k below.
    subst (λ (j : ℕ). IsTreeMade v j (slice_index_or trees j no_tree) (slice_index_or parts k [])) (let z : i + suc k ≡ i + 1 + k = omega arith in z) (made (suc k) (omega arith)))))

all_grow : (v : Scheme) (n : ℕ) (trees : List Tree) (messages : List (List ℕ)) → AreTreesMade v n trees messages → Grows v 0 messages n
all_grow v n trees messages made =
    subst (λ (ms : List (List ℕ)). Grows v 0 ms n) (sym made.joined)
    (subst (Grows v 0 (flat_map (λ part. part) made.parts)) (let z : 0 + length made.parts ≡ n = omega (arith, made.parts_count) in z)
    (parts_grow v trees made.parts 0 (λ k below.
    subst (λ (j : ℕ). IsTreeMade v j (slice_index_or trees j no_tree) (slice_index_or made.parts k [])) (let z : k ≡ 0 + k = omega arith in z) (made.each k (omega (arith, made.parts_count))))))

-- the records that the host keeps then

-- the host keeps this record at node n of tree i
pub record HasRecord (i n : ℕ) (r : List ℕ) (host : Host) : Type 0 where
  pub kept : Kept
  pub there : tree_at host i ≡ Some kept
  pub here : record_of kept n ≡ Some r

-- if a host carries the body out, this record stays there, or is put there
abbrev Spares : ℕ → ℕ → List ℕ → List ℕ → Type 0
Spares i n r body = (host after : Host) → Takes host body after → HasRecord i n r host → HasRecord i n r after

abbrev Brings : ℕ → ℕ → List ℕ → List ℕ → Type 0
Brings i n r body = (host after : Host) → Takes host body after → HasRecord i n r after

spared : (i n : ℕ) (r : List ℕ) (bodies : List (List ℕ)) (from to : Host) → Each (Spares i n r) bodies
    → PutsAll Takes from bodies to → HasRecord i n r from → HasRecord i n r to
spared i n r [] from to each e h = subst (HasRecord i n r) e h
spared i n r (b ∷ bodies) from to each puts h =
    spared i n r bodies puts.0 to each.1 puts.2 (each.0 from puts.0 puts.1 h)

brought : (i n : ℕ) (r : List ℕ) (bodies : List (List ℕ)) (from to : Host) → Each (Spares i n r) bodies
    → Some1 (Brings i n r) bodies → PutsAll Takes from bodies to → HasRecord i n r to
brought i n r [] from to each some puts = absurd some
brought i n r (b ∷ bodies) from to each (inl here) puts = spared i n r bodies puts.0 to each.1 puts.2 (here from puts.0 puts.1)
brought i n r (b ∷ bodies) from to each (inr later) puts = brought i n r bodies puts.0 to each.1 later puts.2

shape_spares : (v : Scheme) (i n j : ℕ) (r : List ℕ) → IsShape (depth_of v.device j) (record_len v)
    → Spares i n r (shape_body j (depth_of v.device j) (record_len v))
shape_spares v i n j r fits host after takes h =
    let small : record_len v < 2 ^ 32 =
    let some : 1 * record_len v ≤ (depth_of v.device j + 1) * record_len v = mul-le 1 (record_len v) (depth_of v.device j + 1) (record_len v) (omega arith) (omega arith) in
    omega (arith, fits.fits) in
    let is : IsShaped host j (depth_of v.device j) (record_len v) after = takes.request (request.Shape j (depth_of v.device j) (record_len v)) small refl in
    record {
      kept = h.kept;
      there = is.keeps.others i (λ e. absurd (some_none (tree_at host i) h.kept h.there (ap (tree_at host) e ∙ is.free))) ∙ h.there;
      here = h.here;
    }

put_spares : (i n j k : ℕ) (r bytes : List ℕ) → k < 2 ^ 32 → (j ≡ i → k ≡ n → bytes ≡ r) → Spares i n r (put_body j k bytes)
put_spares i n j k r bytes small same host after takes h =
    let is : IsPut host j k bytes after = takes.request (request.Put j k bytes) small refl in
    elim (cases_eq i j) [
      | inr other ↦ record { kept = h.kept; there = is.keeps.others i other ∙ h.there; here = h.here }
      | inl tree ↦
          let alike : is.kept ≡ h.kept = kept_same (tree_at host i) is.kept h.kept (ap (tree_at host) tree ∙ is.shaped) h.there in
          record {
            kept = is.changed;
            there = ap (tree_at after) tree ∙ is.keeps.here;
            here = elim (cases_eq n k) [
              | inl node ↦ ap (record_of is.changed) node ∙ is.puts.put ∙ ap (λ (x : List ℕ). Some x) (same (sym tree) (sym node))
              | inr beside ↦ is.puts.others n beside ∙ ap (λ (q : Kept). record_of q n) alike ∙ h.here
            ];
          }
    ]

put_brings : (i n : ℕ) (r : List ℕ) → n < 2 ^ 32 → Brings i n r (put_body i n r)
put_brings i n r small host after takes =
    let is : IsPut host i n r after = takes.request (request.Put i n r) small refl in
    record { kept = is.changed; there = is.keeps.here; here = is.puts.put }

module _ (v : Scheme) (fits : (j : ℕ) → IsShape (depth_of v.device j) (record_len v)) where
  part_spares : (j i n : ℕ) (r : List ℕ) (tree : Tree) (bodies : List (List ℕ)) (made : IsTreeMade v j tree bodies)
      → (j ≡ i → made.made.records n ≡ r) → Each (Spares i n r) bodies
  part_spares j i n r tree bodies made is =
      let m = made.made in
      let t : ℕ = tree.number in
      subst (Each (Spares i n r)) (sym m.bodies_are) (
        shape_spares v i n t r (fits t),
        each_put (Spares i n r) (λ q. put_body t q (m.records q)) (depth_of v.device t) (depth_small v.device t)
            (λ q small. put_spares i n t q r (m.records q) small (λ e f. ap m.records f ∙ is (sym made.number ∙ e))),
      )

  part_brings : (i n : ℕ) (tree : Tree) (bodies : List (List ℕ)) (made : IsTreeMade v i tree bodies)
      → n < node_count (depth_of v.device i) → Some1 (Brings i n (made.made.records n)) bodies
  part_brings i n tree bodies made below =
      let m = made.made in
      let t : ℕ = tree.number in
      let small : n < 2 ^ 32 = omega (arith, nodes_few (depth_of v.device i) (depth_small v.device i)) in
      subst (Some1 (Brings i n (m.records n))) (sym m.bodies_are)
      (inr (some_put (Brings i n (m.records n)) (λ q. put_body t q (m.records q)) (depth_of v.device t) n (subst (λ (q : ℕ). n < node_count (depth_of v.device q)) (sym made.number) below)
      (subst (λ (q : ℕ). Brings i n (m.records n) (put_body q n (m.records n))) (sym made.number) (put_brings i n (m.records n) small))))

  -- each record of the formatting
  record_stands : (count : ℕ) (trees : List Tree) (messages : List (List ℕ)) (made : AreTreesMade v count trees messages)
      (from to : Host) → PutsAll Takes from messages to → (i n : ℕ) (below : i < count) → n < node_count (depth_of v.device i)
      → HasRecord i n ((made.each i below).made.records n) to
  record_stands count trees messages made from to puts i n below small =
      let r : List ℕ = (made.each i below).made.records n in
      let tree : ℕ → Tree = λ k. slice_index_or trees k no_tree in
      let part : ℕ → List (List ℕ) = λ k. slice_index_or made.parts k [] in
      let few : length made.parts ≡ count = made.parts_count in
      brought i n r (flat_map (λ p. p) made.parts) from to
      (each_joined (Spares i n r) made.parts (λ k inside. elim (cases_eq k i) [
        | inl same ↦ subst (λ (j : ℕ). Each (Spares i n r) (part j)) (sym same) (part_spares i i n r (tree i) (part i) (made.each i below) (λ e. refl))
        | inr other ↦ part_spares k i n r (tree k) (part k) (made.each k (omega arith)) (λ e. absurd (other e))
      ]))
      (some_joined (Brings i n r) made.parts i (omega arith) (part_brings i n (tree i) (part i) (made.each i below) small))
      (subst (λ (ms : List (List ℕ)). PutsAll Takes from ms to) made.joined puts)

no_shapes : (v : Scheme) → HasShapes v 0 []
no_shapes v = record { shaped = λ i below. absurd (omega arith); free = λ i above. refl }

-- what the host keeps once it has taken all messages
all_shapes : (v : Scheme) (n : ℕ) (bodies : List (List ℕ)) (to : Host) → ((j : ℕ) → IsShape (depth_of v.device j) (record_len v))
    → Grows v 0 bodies n → PutsAll Takes [] bodies to → HasShapes v n to
all_shapes v n bodies to fits grows puts =
    let m : Midway v [] n to = midway v 0 n bodies [] [] to fits (no_shapes v) (subst (λ (bs : List (List ℕ)). Grows v 0 bs n) (sym (append-nil bodies)) grows) puts in
    subst (λ (k : ℕ). HasShapes v k to) m.left m.shapes

-- A host that took all messages of a formatting keeps each tree as they have left it,
pub formatted_kept : (v : Setting) (trees : List Tree) (host : Host) → IsDevice v.scheme.device → v.scheme.cipher.overhead ≤ 64
    → IsFormatted v trees → PutsAll Takes [] v.format host → KeepsAll v.scheme (records_of v []) host
unfolding sent
formatted_kept v trees host device light made puts i below =
    let fits : (j : ℕ) → IsShape (depth_of v.scheme.device j) (record_len v.scheme) = shape_fits v.scheme device light in
    let h : HasShape v.scheme i host = (all_shapes v.scheme (trees_of v.scheme.device) v.format host fits (all_grow v.scheme (trees_of v.scheme.device) trees v.format made) puts).shaped i below in
    record {
      kept = h.kept;
      there = h.there;
      depth = h.depth;
      record_len = h.record_len;
      each = λ n small.
          let r = record_stands v.scheme fits (trees_of v.scheme.device) trees v.format made [] host puts i n below small in
          ap (λ (q : Kept). record_of q n) (kept_same (tree_at host i) h.kept r.kept h.there r.there) ∙ r.here
          ∙ ap (λ (x : List ℕ). Some x) (sym (left_there v.scheme (trees_of v.scheme.device) trees v.format made i n below small));
    }

-- and it carries out each of them, unless it has no room.
pub format_taken : (v : Scheme) (taken : List (List ℕ)) (body : List ℕ) (host after : Host) (answer : HostAnswer)
    → IsDevice v.device → v.cipher.overhead ≤ 64 → IsFormatBegun v (taken ++ body ∷ []) → PutsAll Takes [] taken host
    → Serves host body answer after → (answer ≡ Done) ⊎ IsFull host answer after
format_taken v taken body host after answer device light begun puts serves =
    let fits : (j : ℕ) → IsShape (depth_of v.device j) (record_len v) = shape_fits v device light in
    let grows : Grows v 0 (taken ++ body ∷ begun.0) (trees_of v.device) =
    subst (λ (ms : List (List ℕ)). Grows v 0 ms (trees_of v.device)) (append_assoc taken (body ∷ []) begun.0)
    (all_grow v (trees_of v.device) begun.1 ((taken ++ body ∷ []) ++ begun.0) begun.2) in
    let m : Midway v (body ∷ begun.0) (trees_of v.device) host = midway v 0 (trees_of v.device) taken (body ∷ begun.0) [] host fits (no_shapes v) grows puts in
    next_taken v m.count (trees_of v.device) body begun.0 host after answer fits m.shapes m.left serves

room_alone : (answer : HostAnswer) (why : SinkFault) (host after : Host) → (answer ≡ Done) ⊎ IsFull host answer after
    → fault_by answer ≡ Some why → format_fault why ≡ formatting.OutOfMemory
room_alone answer why host after (inl done) is = absurd (some_none (fault_by answer) why is (ap fault_by done))
room_alone answer why host after (inr full) is = ap format_fault (why_is why (sym is ∙ ap fault_by full.refused))
  where
    why_is : (w : SinkFault) → Some w ≡ Some sinking.OutOfMemory → w ≡ sinking.OutOfMemory
    why_is w e = ap (λ (o : Option SinkFault). unwrap_or o sinking.OutOfMemory) e

-- So the formatting of a new server can be broken off only because memory runs out.
pub broken_off_for_room : (v : Scheme) (fault : FormatFault) (to : Host) → IsDevice v.device → v.cipher.overhead ≤ 64
    → IsBrokenOff Takes Refusing (IsFormatBegun v) [] fault to → fault ≡ formatting.OutOfMemory
broken_off_for_room v fault to device light broken = elim broken.ended [
  | inl elsewhere ↦ elsewhere.0
  | inr refused ↦
      let by = refused.refused in
      refused.reported ∙ room_alone by.0 refused.why broken.mid to (format_taken v broken.taken refused.body broken.mid to by.0 device light refused.begun broken.puts by.1) by.2
]
