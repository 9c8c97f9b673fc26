-- A host that has carried out a STORE: the new records are put in front of the others.
use Rattle.std.proofs.Common.{◌≡◌, ◌≢◌, ℕ, zero, suc, ◌+◌, ◌-◌, ◌*◌, ◌^◌, ◌<◌, ◌≤◌, arith, true, false, List, [], ◌∷◌, ◌++◌, length, take, drop, Option, Some, None, refl, sym, ap, ◌∙◌, subst, inl, inr}
use Rattle.std.specs.Prelude.{nat_le}
use Rattle.std.specs.Int.{w32, to_be_bytes, from_be_bytes}
use Rattle.std.specs.Option.{option_map}
use Rattle.std.proofs.lemmas.Bool.{cases_eq, le-leb}
use Rattle.std.proofs.lemmas.List.{drop_at, length-append, take_at}
use Rattle.std.proofs.lemmas.Nat.{from_be_bytes-to_be_bytes_4}
use Rattle.oram_wire.specs.HostMessages.{request_body, store_body}
use Rattle.oram_wire.specs.HostBodies.{HasNumbers, IsMisfit}
use Rattle.oram_wire.specs.declared.host_messages.HostRequest.{HostRequest}
use Rattle.oram_wire.specs.declared.host_messages.HostRequest.TheVariants.{Fetch, Put, Shape, Store}
use Rattle.oram_wire.specs.declared.host_messages.HostAnswer.TheVariants.{Done}
use Rattle.oram_host.specs.Answers.{Answers, IsStored}
use Rattle.oram_host.specs.Host.{Host, Kept, tree_at}
use Rattle.oram_host.specs.Path.{node_on, record_at}
use Rattle.oram_host.specs.Swaps.{shape_at}
use Rattle.oram_host.proofs.Nodes.{node_on-rises}
use Rattle.oram_host_laws.specs.Honest.{Takes}
use Rattle.oram_link_laws.specs.ResentStores.{AreStores, IsStore, ResentStoresGoThrough, TakesEach}
use Rattle.oram_link_laws.proofs.ResentStores.{HasShapes, begun_shapes, is_stored, kept_shape, shapes_after, some_pair}
use Rattle.oram_link_laws.proofs.Same.{look, look_self, look_past, shape_opened}

look_here : {X : Type 0} (n : ℕ) (e : ℕ × X) (es : List (ℕ × X)) → e.0 ≡ n → look n (e ∷ es) ≡ Some e.1
look_here n e es same = ap (λ (k : ℕ). look k (e ∷ es)) (sym same) ∙ look_self e es

nodes_apart : (depth leaf i j : ℕ) → i < j → j ≤ depth → node_on depth leaf j ≢ node_on depth leaf i
nodes_apart depth leaf i j below low e =
    let k : i + (j - i - 1) + 1 ≡ j = omega (arith, below) in
    let rises : node_on depth leaf i < node_on depth leaf (i + (j - i - 1) + 1) = node_on-rises depth leaf i (j - i - 1) (omega (arith, below, low)) in
    let P : ℕ → Type 0 = λ x. node_on depth leaf i < node_on depth leaf x in
    omega (arith, subst P k rises, e)

module _ (depth leaf len : ℕ) (bytes : List ℕ) (old : List (ℕ × List ℕ)) where
  abbrev pub entry : ℕ → ℕ × List ℕ
  entry level = (node_on depth leaf level, record_at len bytes level)

  -- the records of the path's nodes down to a level, in front of the others
  abbrev pub put_path : ℕ → List (ℕ × List ℕ)
  put_path zero = entry 0 ∷ old
  put_path (suc m) = entry (suc m) ∷ put_path m

  look_on : (m level : ℕ) → level ≤ m → m ≤ depth → look (node_on depth leaf level) (put_path m) ≡ Some (record_at len bytes level)
  look_on zero level low deep =
      let none : level ≡ 0 = omega (arith, low) in
      look_here (node_on depth leaf level) (entry 0) old (ap (node_on depth leaf) (sym none)) ∙ ap (λ (l : ℕ). Some (record_at len bytes l)) (sym none)
  look_on (suc m) level low deep = elim (cases_eq level (suc m)) [
    | inl last ↦
        look_here (node_on depth leaf level) (entry (suc m)) (put_path m) (ap (node_on depth leaf) (sym last)) ∙ ap (λ (l : ℕ). Some (record_at len bytes l)) (sym last)
    | inr before ↦
        look_past (node_on depth leaf level) (entry (suc m)) (put_path m) (nodes_apart depth leaf level (suc m) (omega (arith, low, before)) deep)
        ∙ look_on m level (omega (arith, low, before)) (omega (arith, deep))
  ]

  look_off : (m n : ℕ) → ((level : ℕ) → level ≤ m → n ≢ node_on depth leaf level) → look n (put_path m) ≡ look n old
  look_off zero n off = look_past n (entry 0) old (λ e. off 0 (omega arith) (sym e))
  look_off (suc m) n off =
      look_past n (entry (suc m)) (put_path m) (λ e. off (suc m) (omega arith) (sym e))
      ∙ look_off m n (λ level low. off level (omega (arith, low)))

abbrev pub stored_kept : Kept → ℕ → List ℕ → Kept
stored_kept kept leaf bytes = record { depth = kept.depth; record_len = kept.record_len; records = put_path kept.depth leaf kept.record_len bytes kept.records kept.depth }

abbrev pub stored_host : Host → ℕ → Kept → Host
stored_host host tree kept = (tree, kept) ∷ host

pub is_stored_so : (host : Host) (tree leaf : ℕ) (bytes : List ℕ) (kept : Kept) → tree_at host tree ≡ Some kept → leaf < 2 ^ kept.depth
    → length bytes ≡ (kept.depth + 1) * kept.record_len → IsStored host tree leaf bytes (stored_host host tree (stored_kept kept leaf bytes))
is_stored_so host tree leaf bytes kept shaped leaf_in whole =
    let e : ℕ × Kept = (tree, stored_kept kept leaf bytes) in
    record {
      kept = kept;
      stored = stored_kept kept leaf bytes;
      shaped = shaped;
      stores = record {
        depth = refl;
        record_len = refl;
        leaf_in = leaf_in;
        path = record {
          whole = whole;
          each = λ level low. look_on kept.depth leaf kept.record_len bytes kept.records kept.depth level low (omega arith);
        };
        others = λ n off. look_off kept.depth leaf kept.record_len bytes kept.records kept.depth n off;
      };
      keeps = record {
        here = look_here tree e host refl;
        others = λ other apart. look_past other e host (λ same. apart (sym same));
      };
    }

abbrev pub first : List ℕ → ℕ
first [] = 0
first (x ∷ xs) = x

-- no other request has the body of a STORE
only_store : (host after : Host) (tree leaf : ℕ) (records : List ℕ) → leaf < 2 ^ 32 → IsStored host tree leaf records after
    → (message : HostRequest) → HasNumbers message → store_body tree leaf records ≡ request_body message → Answers host message Done after
only_store host after tree leaf records fits is (Fetch t l) numbers e = absurd (let two : 2 ≡ 1 = ap first e in omega arith)
only_store host after tree leaf records fits is (Put t n bytes) numbers e = absurd (let two : 2 ≡ 3 = ap first e in omega arith)
only_store host after tree leaf records fits is (Shape t d l) numbers e = absurd (let two : 2 ≡ 4 = ap first e in omega arith)
only_store host after tree leaf records fits is (Store t l r) numbers e =
    let same_tree : tree ≡ t = ap (λ (b : List ℕ). first (drop 1 b)) e in
    let behind : to_be_bytes w32 leaf ++ records ≡ to_be_bytes w32 l ++ r = ap (λ (b : List ℕ). drop 2 b) e in
    let number : to_be_bytes w32 leaf ≡ to_be_bytes w32 l = sym (take_at (to_be_bytes w32 leaf) records 4 refl) ∙ ap (take 4) behind ∙ take_at (to_be_bytes w32 l) r 4 refl in
    let same_leaf : leaf ≡ l = sym (from_be_bytes-to_be_bytes_4 leaf fits) ∙ ap (from_be_bytes w32) number ∙ from_be_bytes-to_be_bytes_4 l numbers in
    let same_records : records ≡ r = sym (drop_at (to_be_bytes w32 leaf) records 4 refl) ∙ ap (drop 4) behind ∙ drop_at (to_be_bytes w32 l) r 4 refl in
    subst (λ (x : ℕ). IsStored host x l r after) same_tree
    (subst (λ (x : ℕ). IsStored host tree x r after) same_leaf (subst (λ (x : List ℕ). IsStored host tree leaf x after) same_records is))

six_bytes : (tree leaf : ℕ) (records : List ℕ) → length (store_body tree leaf records) ≡ 6 + length records
six_bytes tree leaf records = omega (arith, length-append (to_be_bytes w32 leaf) records)

no_misfit : (tree leaf : ℕ) (records : List ℕ) → IsMisfit (store_body tree leaf records) → ⊥
no_misfit tree leaf records misfit =
    let long : nat_le 6 (length (store_body tree leaf records)) ≡ true = le-leb 6 (length (store_body tree leaf records)) (omega (arith, six_bytes tree leaf records)) in
    let both : true ≡ false = sym long ∙ misfit.1 in cc

pub serves_so : (host after : Host) (body : List ℕ) (s : IsStore body) → IsStored host s.tree s.leaf s.records after → Takes host body after
serves_so host after body s is =
    let takes : Takes host (store_body s.tree s.leaf s.records) after =
    record {
      request = only_store host after s.tree s.leaf s.records s.fits is;
      op = λ e. absurd cc;
      misfit = λ m. absurd (no_misfit s.tree s.leaf s.records m);
    } in
    subst (λ (b : List ℕ). Takes host b after) (sym s.named) takes

-- a tree that has this shape is kept
shaped_by : (o : Option Kept) (depth len : ℕ) → option_map {T = Kept} {U = ℕ × ℕ} (λ k. (k.depth, k.record_len)) o ≡ Some (depth, len)
    → (kept : Kept) × (o ≡ Some kept) × (depth ≡ kept.depth) × (len ≡ kept.record_len)
shaped_by None depth len e = absurd cc
shaped_by (Some kept) depth len e =
    let same : (depth, len) ≡ (kept.depth, kept.record_len) = some_pair _ _ (sym e) in
    (kept, refl, ap (λ (s : ℕ × ℕ). s.0) same, ap (λ (s : ℕ × ℕ). s.1) same)

module _ (shapes : ℕ → Option (ℕ × ℕ)) where
  goes_through : (bodies : List (List ℕ)) (are : AreStores bodies) (a once b : Host) → HasShapes shapes a → HasShapes shapes b → TakesEach a bodies once
      → (again : Host) × TakesEach b bodies again
  goes_through [] are a once b has_a has_b to = (b, refl)
  goes_through (body ∷ bodies) are a once b has_a has_b to =
      let s : IsStore body = are.0 in
      let k = is_stored a to.0 body s to.1 in
      let of_a : shapes s.tree ≡ Some (k.kept.depth, k.kept.record_len) = kept_shape shapes a s.tree k.kept has_a k.shaped in
      let there = shaped_by (tree_at b s.tree) k.kept.depth k.kept.record_len (sym (shape_opened b s.tree) ∙ has_b s.tree ∙ of_a) in
      let P : ℕ → Type 0 = λ d. s.leaf < 2 ^ d in
      let whole : length s.records ≡ (there.0.depth + 1) * there.0.record_len =
      k.stores.path.whole ∙ ap (λ (d : ℕ). (d + 1) * k.stored.record_len) (k.stores.depth ∙ there.2)
      ∙ ap (λ (l : ℕ). (there.0.depth + 1) * l) (k.stores.record_len ∙ there.3) in
      let next : Host = stored_host b s.tree (stored_kept there.0 s.leaf s.records) in
      let takes : Takes b body next =
      serves_so b next body s (is_stored_so b s.tree s.leaf s.records there.0 there.1 (subst P there.2 k.stores.leaf_in) whole) in
      let rest = goes_through bodies are.1 to.0 once next (shapes_after shapes a to.0 body s has_a to.1) (shapes_after shapes b next body s has_b takes) to.2 in
      (rest.0, (next, takes, rest.1))

pub resent_stores_go_through : ResentStoresGoThrough
resent_stores_go_through host once part begun rest are to_once to_part =
    goes_through (shape_at host) (begun ++ rest) are host once part (λ t. refl) (begun_shapes (shape_at host) begun rest are host part (λ t. refl) to_part) to_once
