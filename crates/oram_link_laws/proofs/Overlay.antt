-- A path with the records of STOREs laid over it is the path that is fetched after them.
use Rattle.std.proofs.Common.{◌≡◌, ◌≢◌, ℕ, ◌+◌, ◌-◌, ◌*◌, ◌/◌, ◌^◌, ◌<◌, ◌≤◌, arith, List, [], ◌∷◌, Option, Some, unwrap_or, refl, sym, ap, ◌∙◌, subst, inl, inr}
use Rattle.std.proofs.lemmas.Bool.{cases_order}
use Rattle.std.proofs.lemmas.Nat.{pow_pos, pow-add, shr_below}
use Rattle.std.proofs.Math.Nat.{pow-le-pow_right}
use Rattle.oram_host.specs.Answers.{IsFetched, IsStored}
use Rattle.oram_host.specs.Host.{Host, Kept, record_of, tree_at}
use Rattle.oram_host.specs.Path.{IsPath, StoresPath, node_on, record_at}
use Rattle.oram_link_laws.specs.Overlay.{IsLaidOver, LaidOverIsFetchedLater, LaysAllOver, LaysOver, TreePath, fetched_path}
use Rattle.oram_link_laws.specs.ResentStores.{AreStores, IsStore, TakesEach}
use Rattle.oram_link_laws.proofs.ResentStores.{found_or_not, is_stored}

-- the node of a path at a level has one of the level's numbers
node_bounds : (depth leaf level : ℕ) → leaf < 2 ^ depth → level ≤ depth
    → (2 ^ level - 1 ≤ node_on depth leaf level) × (node_on depth leaf level < 2 ^ level - 1 + 2 ^ level)
unfolding node_on
node_bounds depth leaf level fits low =
    let whole : 2 ^ depth ≡ 2 ^ (level + (depth - level)) = ap (λ (k : ℕ). 2 ^ k) (let e : depth ≡ level + (depth - level) = omega (arith, low) in e) in
    let below : leaf / 2 ^ (depth - level) < 2 ^ level = shr_below leaf level (depth - level) (omega (arith, fits, whole)) in
    (omega arith, omega (arith, below))

higher : (i j n m : ℕ) → i < j → n < 2 ^ i - 1 + 2 ^ i → 2 ^ j - 1 ≤ m → n ≢ m
higher i j n m below top bottom e =
    let twice : 2 ^ (i + 1) ≡ 2 ^ i * 2 = pow-add 2 i 1 in
    let most : 2 ^ (i + 1) ≤ 2 ^ j = pow-le-pow_right (omega arith) (omega (arith, below)) in
    omega (arith, pow_pos i, twice, most, top, bottom, e)

pub one_level : (depth a b i j : ℕ) → a < 2 ^ depth → b < 2 ^ depth → i ≤ depth → j ≤ depth → node_on depth a i ≡ node_on depth b j → i ≡ j
one_level depth a b i j a_in b_in i_low j_low e =
    let at_i = node_bounds depth a i a_in i_low in
    let at_j = node_bounds depth b j b_in j_low in
    elim (cases_order i j) [
      | inl same ↦ same
      | inr (inl below) ↦ absurd (higher i j (node_on depth a i) (node_on depth b j) below at_i.1 at_j.0 e)
      | inr (inr above) ↦ absurd (higher j i (node_on depth b j) (node_on depth a i) above at_j.1 at_i.0 (sym e))
    ]

one_kept : (a b : Kept) → Some a ≡ Some b → a ≡ b
one_kept a b e = ap (λ (o : Option Kept). unwrap_or o a) e

-- the path after one STORE to its tree
path_after : (old new : Kept) (tree leaf other : ℕ) (records bytes laid : List ℕ) → leaf < 2 ^ old.depth → IsPath old leaf bytes → StoresPath old other records new
    → IsLaidOver (record { tree = tree; depth = old.depth; record_len = old.record_len; leaf = leaf }) other records bytes laid → IsPath new leaf laid
path_after old new tree leaf other records bytes laid leaf_in path stores over =
    let d : ℕ = old.depth in
    let len : ℕ = old.record_len in
    let each : (level : ℕ) → level ≤ old.depth → record_of new (node_on old.depth leaf level) ≡ Some (record_at old.record_len laid level) =
    λ level low. elim (found_or_not (node_on old.depth other) (node_on old.depth leaf level) old.depth) [
      | inl there ↦
          let same : level ≡ there.0 = one_level old.depth leaf other level there.0 leaf_in stores.leaf_in low there.1 there.2 in
          let here : node_on old.depth leaf level ≡ node_on old.depth other level = there.2 ∙ ap (node_on old.depth other) (sym same) in
          let P : ℕ → Type 0 = λ x. level ≤ x in
          ap (record_of new) here
          ∙ ap (λ (x : ℕ). record_of new (node_on x other level)) (sym stores.depth)
          ∙ stores.path.each level (subst P (sym stores.depth) low)
          ∙ ap (λ (l : ℕ). Some (record_at l records level)) stores.record_len
          ∙ ap (λ (x : List ℕ). Some x) (sym (over.shared level low here))
      | inr none ↦
          stores.others (node_on old.depth leaf level) none ∙ path.each level low
          ∙ ap (λ (x : List ℕ). Some x) (sym (over.others level low (none level low)))
    ] in
    record {
      whole = over.whole ∙ ap (λ (x : ℕ). (x + 1) * old.record_len) (sym stores.depth) ∙ ap (λ (l : ℕ). (new.depth + 1) * l) (sym stores.record_len);
      each = λ level low.
          let P : ℕ → Type 0 = λ x. level ≤ x in
          ap (λ (x : ℕ). record_of new (node_on x leaf level)) stores.depth ∙ each level (subst P stores.depth low)
          ∙ ap (λ (l : ℕ). Some (record_at l laid level)) (sym stores.record_len);
    }

-- the path was fetched
record FetchedAs (host : Host) (p : TreePath) (bytes : List ℕ) : Type 0 where
  fetched : IsFetched host p.tree p.leaf bytes
  deep : fetched.kept.depth ≡ p.depth
  long : fetched.kept.record_len ≡ p.record_len

fetched_after : (old new : Host) (p : TreePath) (bytes laid : List ℕ) (body : List ℕ) (s : IsStore body) → FetchedAs old p bytes
    → IsStored old s.tree s.leaf s.records new → LaysOver p s bytes laid → FetchedAs new p laid
fetched_after old new p bytes laid body s f k (inl over) =
    let was : tree_at old s.tree ≡ Some f.fetched.kept = ap (tree_at old) over.0 ∙ f.fetched.shaped in
    let same : k.kept ≡ f.fetched.kept = one_kept k.kept f.fetched.kept (sym k.shaped ∙ was) in
    let stores : StoresPath f.fetched.kept s.leaf s.records k.stored = subst (λ (x : Kept). StoresPath x s.leaf s.records k.stored) same k.stores in
    let Q : ℕ → Type 0 = λ d. IsLaidOver (record p { depth = d }) s.leaf s.records bytes laid in
    let R : ℕ → Type 0 = λ l. IsLaidOver (record p { depth = f.fetched.kept.depth; record_len = l }) s.leaf s.records bytes laid in
    let laid_over = subst R (sym f.long) (subst Q (sym f.deep) over.1) in
    let P : ℕ → Type 0 = λ d. p.leaf < 2 ^ d in
    record {
      fetched = record {
        kept = k.stored;
        shaped = ap (tree_at new) (sym over.0) ∙ k.keeps.here;
        leaf_in = subst P (sym stores.depth) f.fetched.leaf_in;
        path = path_after f.fetched.kept k.stored p.tree p.leaf s.leaf s.records bytes laid f.fetched.leaf_in f.fetched.path stores laid_over;
      };
      deep = stores.depth ∙ f.deep;
      long = stores.record_len ∙ f.long;
    }
fetched_after old new p bytes laid body s f k (inr other) =
    let P : List ℕ → Type 0 = λ xs. FetchedAs new p xs in
    subst P (sym other.1) (record {
      fetched = record {
        kept = f.fetched.kept;
        shaped = k.keeps.others p.tree (λ e. other.0 (sym e)) ∙ f.fetched.shaped;
        leaf_in = f.fetched.leaf_in;
        path = f.fetched.path;
      };
      deep = f.deep;
      long = f.long;
    })

fetched_later : (bodies : List (List ℕ)) (are : AreStores bodies) (host after : Host) (p : TreePath) (bytes laid : List ℕ)
    → FetchedAs host p bytes → TakesEach host bodies after → LaysAllOver p bodies are bytes laid → FetchedAs after p laid
fetched_later [] are host after p bytes laid f to over =
    subst (λ (h : Host). FetchedAs h p laid) to (subst (λ (xs : List ℕ). FetchedAs host p xs) over f)
fetched_later (body ∷ bodies) are host after p bytes laid f to over =
    fetched_later bodies are.1 to.0 after p over.0 laid
    (fetched_after host to.0 p bytes over.0 body are.0 f (is_stored host to.0 body are.0 to.1) over.1) to.2 over.2

pub laid_over_is_fetched_later : LaidOverIsFetchedLater
laid_over_is_fetched_later host after tree leaf bytes new bodies are fetched to over =
    (fetched_later bodies are host after (fetched_path fetched) bytes new
    (record { fetched = fetched; deep = refl; long = refl }) to over).fetched
