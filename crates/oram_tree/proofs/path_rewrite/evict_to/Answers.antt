use Rattle.std.proofs.Common.{◌≡◌, ℕ, List, Bor, Vec, Global, All, map, sym, ap, subst, ◌∙◌}
use Rattle.std.proofs.lemmas.Simd.{map-map}
use Rattle.oram_geometry.specs.Sizes.{depth_of}
use Rattle.oram_hash.specs.Path.{Path}
use Rattle.oram_bucket.specs.Cell.{Cell}
use Rattle.oram_bucket.specs.Bucket.{IsBlockOf, IsBucketOf}
use Rattle.oram_stash.specs.Eviction.{IsEviction}
use Rattle.oram_tree.specs.Access.{IsAppended}
use Rattle.oram_tree.proofs.Sealed.{lent}
use Rattle.oram_tree.proofs.Prepared.{lent_all, lists_buckets}
use Rattle.oram_tree.proofs.path_rewrite.evict_to.Goals as goal

-- the eviction, in terms of the names that the code gives to the lists and the rest
placed_so : (waiting : List Cell) (deep slots leaf : ℕ) (vs ws : List (Vec (Bor Cell) Global)) (rest left : List (Bor Cell)) → vs ≡ ws → rest ≡ left → IsEviction deep slots leaf waiting (lent ws) (map (λ (b : Bor Cell). b.now) left)
    → IsEviction deep slots leaf waiting (lent vs) (map (λ (b : Bor Cell). b.now) rest)
placed_so waiting deep slots leaf vs ws rest left lists_are rest_is e =
    let P : List (Vec (Bor Cell) Global) → Type 0 = λ us. IsEviction deep slots leaf waiting (lent us) (map (λ (b : Bor Cell). b.now) left) in
    let Q : List (Bor Cell) → Type 0 = λ us. IsEviction deep slots leaf waiting (lent vs) (map (λ (b : Bor Cell). b.now) us) in
    subst Q (sym rest_is) (subst P (sym lists_are) e)

pub place-requires-clause-leaves_in : goal.place-requires-clause-leaves_in
place-requires-clause-leaves_in g c k d lt = (lent_all (IsBlockOf c.args.device.now c.args.tree) c.args.waiting.items c.requires.blocks k d lt).leaf_in

pub append_path-requires-clause-buckets : goal.append_path-requires-clause-buckets
append_path-requires-clause-buckets g c =
    let now : Bor Cell → Cell = λ (b : Bor Cell). b.now in
    let P : List (Vec (Bor Cell) Global) → Type 0 = All (λ (v : Vec (Bor Cell) Global). IsBucketOf c.args.device.now c.args.tree (map now v.items)) in
    subst P (sym (c.deref-2.ensures.value ∙ ap (λ (v : Vec (Vec (Bor Cell) Global) Global). v.items) c.in_ok-lists.lists-is)) (lists_buckets c.args.device.now c.args.tree (depth_of c.args.device.now c.args.tree) c.args.leaf (map now c.args.waiting.items) c.in_ok-lists.lists.items (map now c.in_ok-lists.rest.items) (placed_so (map now c.args.waiting.items) (depth_of c.args.device.now c.args.tree) c.args.device.now.slots c.args.leaf c.in_ok-lists.lists.items c.in_ok-lists.field-0.lists.items c.in_ok-lists.rest.items c.in_ok-lists.field-0.rest.items (sym (ap (λ (v : Vec (Vec (Bor Cell) Global) Global). v.items) c.in_ok-lists.lists-is)) (sym (ap (λ (v : Vec (Bor Cell) Global). v.items) c.in_ok-lists.rest-is)) c.in_ok-lists.ensures) c.requires.blocks)

pub returns-clause-evicted : goal.returns-clause-evicted
returns-clause-evicted g c =
    let now : Bor Cell → Cell = λ (b : Bor Cell). b.now in
    let address_of : Cell → ℕ = λ (b : Cell). b.address in
    let waiting : List Cell = map now c.args.waiting.items in
    let lists : List (List Cell) = lent c.in_ok-lists.lists.items in
    let rest : List Cell = map now c.in_ok-lists.rest.items in
    let E : ℕ → ℕ → Type 0 = λ n x. IsEviction n c.args.device.now.slots x waiting lists rest in
    let deep : ℕ = depth_of c.args.device.now c.args.tree in
    let depth_is : c.args.path.now.depth ≡ deep = ap (λ (p : Path). p.depth) c.requires.path in
    let leaf_is : c.args.path.now.leaf ≡ c.args.leaf = ap (λ (p : Path). p.leaf) c.requires.path in
    let A : List (Vec (Bor Cell) Global) → Type 0 = λ vs. IsAppended (record { device = c.args.device.now; tree = c.args.tree; cipher = g.S.Sealer.cipher c.args.sealer.now; path = c.args.path.now; nonce = c.args.nonce }) (lent vs) c.args.out.now.items c.append_path.new.out.items c.in_ok-root.root in
    let P : ℕ → Type 0 = λ n. E n c.args.path.now.leaf in
    let Q : ℕ → Type 0 = E deep in (
      lists,
      rest,
      subst P (sym depth_is) (subst Q (sym leaf_is) (placed_so (map now c.args.waiting.items) (depth_of c.args.device.now c.args.tree) c.args.device.now.slots c.args.leaf c.in_ok-lists.lists.items c.in_ok-lists.field-0.lists.items c.in_ok-lists.rest.items c.in_ok-lists.field-0.rest.items (sym (ap (λ (v : Vec (Vec (Bor Cell) Global) Global). v.items) c.in_ok-lists.lists-is)) (sym (ap (λ (v : Vec (Bor Cell) Global). v.items) c.in_ok-lists.rest-is)) c.in_ok-lists.ensures)),
      c.in_ok-stays.ensures ∙ ap (map (λ (b : Bor Cell). b.now.address)) (c.deref.ensures.value ∙ ap (λ (v : Vec (Bor Cell) Global). v.items) c.in_ok-lists.rest-is) ∙ sym (map-map address_of now c.in_ok-lists.rest.items),
      subst A (c.deref-2.ensures.value ∙ ap (λ (v : Vec (Vec (Bor Cell) Global) Global). v.items) c.in_ok-lists.lists-is) c.in_ok-root.ensures.appended,
    )
