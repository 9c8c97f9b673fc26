-- The records of a path, one after the other.
use Rattle.std.proofs.Common.{◌≡◌, ◌≢◌, ℕ, ◌<◌, ◌≤◌, ◌+◌, ◌-◌, ◌*◌, ◌^◌, List, [], ◌∷◌, ◌++◌, length, take, drop, slice_get, get_or, All, Some, refl, ap, ◌∙◌, sym, arith, append_assoc, length-append, inl, inr}
use Rattle.std.specs.BTreeMap.{BTreeMap, IsOrdered, Updates, get, is_at}
use Rattle.std.specs.Map.{lookup}
use Rattle.std.specs.Ordering.{nat_cmp}
use Rattle.std.proofs.lemmas.Bool.{cases_eq}
use Rattle.std.proofs.lemmas.List.{drop_at, drop-append-le, get_or_at, get_or-take, length-drop, length-take, length_push, take_all, take_at, take-append-le, take-take}
use Rattle.std.proofs.lemmas.Option.{get_or_from_slice_get, slice_get-get_or}
use Rattle.std.proofs.Math.Nat.{add-mul, mul-le-mul_right}
use Rattle.oram_host.specs.Host.{Kept, record_of}
use Rattle.oram_host.specs.Path.{StoresPath, node_on, record_at}
use Rattle.oram_host.specs.Trees.{IsRecord, kept_by, records_in}
use Rattle.oram_host.specs.declared.trees.Tree.{Tree}
use Rattle.oram_host.proofs.Nodes.{node_on-injective}
use Rattle.oram_host.proofs.Records.{not_at, record_kept, record_there}

pub step_is : (n len : ℕ) → (n + 1) * len ≡ n * len + len
step_is n len = add-mul n 1 len ∙ (let e : n * len + 1 * len ≡ n * len + len = omega arith in e)

length-record_at : (len : ℕ) (bytes : List ℕ) (level levels : ℕ) → length bytes ≡ levels * len → level < levels → length (record_at len bytes level) ≡ len
length-record_at len bytes level levels whole below =
    let end : (level + 1) * len ≤ levels * len = mul-le-mul_right len (omega arith) in
    let step = step_is level len in
    length-take ((level + 1) * len - level * len) (drop (level * len) bytes) ∙ (omega (arith, length-drop (level * len) bytes))

record_at-append : (len : ℕ) (bytes more : List ℕ) (level levels : ℕ) → length bytes ≡ levels * len → level < levels → record_at len (bytes ++ more) level ≡ record_at len bytes level
record_at-append len bytes more level levels whole below =
    let end : (level + 1) * len ≤ levels * len = mul-le-mul_right len (omega arith) in
    let step = step_is level len in
    ap (take ((level + 1) * len - level * len)) (drop-append-le (level * len) bytes more (omega arith))
    ∙ take-append-le ((level + 1) * len - level * len) (drop (level * len) bytes) more (omega (arith, length-drop (level * len) bytes))

record_at-last : (len : ℕ) (bytes record_bytes : List ℕ) (level : ℕ) → length bytes ≡ level * len → length record_bytes ≡ len → record_at len (bytes ++ record_bytes) level ≡ record_bytes
record_at-last len bytes record_bytes level whole long =
    let step = step_is level len in
    ap (take ((level + 1) * len - level * len)) (drop_at bytes record_bytes (level * len) whole) ∙ take_all ((level + 1) * len - level * len) record_bytes (omega arith)

-- one more record of a path
pub path_more : (kept : Kept) (depth leaf len level : ℕ) (bytes record_bytes : List ℕ) → length bytes ≡ level * len → length record_bytes ≡ len → record_of kept (node_on depth leaf level) ≡ Some record_bytes
    → ((k : ℕ) → k < level → record_of kept (node_on depth leaf k) ≡ Some (record_at len bytes k))
    → (k : ℕ) → k < level + 1 → record_of kept (node_on depth leaf k) ≡ Some (record_at len (bytes ++ record_bytes) k)
path_more kept depth leaf len level bytes record_bytes whole long found each k h =
    elim (cases_eq k level) [
      | inl same ↦ ap (λ (n : ℕ). record_of kept (node_on depth leaf n)) same ∙ found ∙ ap (λ (r : List ℕ). Some r) (sym (ap (record_at len (bytes ++ record_bytes)) same ∙ record_at-last len bytes record_bytes level whole long))
      | inr other ↦ each k (omega arith) ∙ ap (λ (r : List ℕ). Some r) (sym (record_at-append len bytes record_bytes k level whole (omega arith)))
    ]

pub length_more : (len level : ℕ) (bytes record_bytes : List ℕ) → length bytes ≡ level * len → length record_bytes ≡ len → length bytes + length record_bytes ≡ (level + 1) * len
length_more len level bytes record_bytes whole long = omega (arith, step_is level len)

-- more bytes are appended to those after a front
pub more_behind : (front bytes more new : List ℕ) → bytes ≡ front ++ drop (length front) bytes → new ≡ bytes ++ more
    → (drop (length front) new ≡ drop (length front) bytes ++ more) × (new ≡ front ++ drop (length front) new)
more_behind front bytes more new behind grown =
    let long : length front ≤ length bytes = omega (arith, ap length behind, length-append front (drop (length front) bytes)) in
    let rest : drop (length front) new ≡ drop (length front) bytes ++ more = ap (drop (length front)) grown ∙ drop-append-le (length front) bytes more long in (
      rest,
      grown ∙ ap (λ (xs : List ℕ). xs ++ more) behind ∙ append_assoc front (drop (length front) bytes) more ∙ ap (λ (xs : List ℕ). front ++ xs) (sym rest),
    )

-- the copies that are left, and the one that was taken off the end
pub popped : (all copies rest : List (List ℕ)) (copy : List ℕ) → copies ≡ take (length copies) all → copies ≡ rest ++ copy ∷ []
    → (rest ≡ take (length rest) all) × (slice_get all (length rest) ≡ Some copy) × (length copies ≡ length rest + 1)
popped all copies rest copy front split =
    let n = length rest in
    let count : length copies ≡ n + 1 = ap length split ∙ length_push rest copy in
    let within : n < length all = omega (arith, ap length front, length-take (length copies) all) in
    let taken : take n copies ≡ take n all = ap (take n) front ∙ take-take n (length copies) all (omega arith) in
    let here : get_or copies n [] ≡ get_or all n [] = ap (λ (xs : List (List ℕ)). get_or xs n []) front ∙ get_or-take (length copies) all n [] (omega arith) in
    let last : get_or copies n [] ≡ copy = ap (λ (xs : List (List ℕ)). get_or xs n []) split ∙ get_or_at rest copy [] [] n refl in (
      sym (take_at rest (copy ∷ []) n refl) ∙ ap (take n) (sym split) ∙ taken,
      slice_get-get_or all n [] within ∙ ap (λ (r : List ℕ). Some r) (sym here ∙ last),
      count,
    )

-- a record of the path was replaced
pub replaced_more : (old new : BTreeMap ℕ (List ℕ)) (all : List (List ℕ)) (copy : List ℕ) (depth leaf n node : ℕ) → node ≡ node_on depth leaf n → n ≤ depth → Updates nat_cmp old new node (Some copy) → slice_get all n ≡ Some copy
    → ((level : ℕ) → n + 1 ≤ level → level ≤ depth → get nat_cmp old (node_on depth leaf level) ≡ slice_get all level)
    → (level : ℕ) → n ≤ level → level ≤ depth → get nat_cmp new (node_on depth leaf level) ≡ slice_get all level
replaced_more old new all copy depth leaf n node at fits updates found before level above below =
    elim (cases_eq level n) [
      | inl same ↦ ap (λ (l : ℕ). get nat_cmp new (node_on depth leaf l)) same ∙ ap (get nat_cmp new) (sym at) ∙ updates.1 ∙ sym found ∙ ap (slice_get all) (sym same)
      | inr other ↦
          let apart : node_on depth leaf level ≢ node = λ e. other (node_on-injective depth leaf level n below fits (e ∙ at)) in
          updates.2 (node_on depth leaf level) (not_at node (node_on depth leaf level) apart) ∙ before level (omega arith) below
    ]

-- the copies of a path's records are records
pub are_records : (len levels : ℕ) (bytes : List ℕ) (copies : List (List ℕ)) → length bytes ≡ levels * len → length copies ≡ levels → ((level : ℕ) → level < levels → slice_get copies level ≡ Some (record_at len bytes level)) → All (IsRecord len) copies
are_records len levels bytes copies whole count each k d h =
    let here : get_or copies k d ≡ record_at len bytes k = get_or_from_slice_get copies k (record_at len bytes k) d (each k (omega arith)) in
    inr (ap length here ∙ length-record_at len bytes k levels whole (omega arith))

-- the records of a path are stored
pub stores_path : (old new : Tree) (mid : BTreeMap ℕ (List ℕ)) (leaf : ℕ) (bytes : List ℕ) (copies : List (List ℕ)) → IsOrdered nat_cmp mid → IsOrdered nat_cmp new.records → new.depth ≡ old.depth → new.record_len ≡ old.record_len
    → leaf < 2 ^ old.depth → length bytes ≡ (old.depth + 1) * old.record_len → 0 < old.record_len
    → ((level : ℕ) → level ≤ old.depth → get nat_cmp new.records (node_on old.depth leaf level) ≡ slice_get copies level)
    → ((level : ℕ) → level < old.depth + 1 → slice_get copies level ≡ Some (record_at old.record_len bytes level))
    → ((node : ℕ) → ((level : ℕ) → level ≤ old.depth → node ≢ node_on old.depth leaf level) → get nat_cmp new.records node ≡ get nat_cmp mid node)
    → records_in mid ≡ records_in old.records → StoresPath (kept_by old) leaf bytes (kept_by new)
stores_path old new mid leaf bytes copies mid_ordered new_ordered depth len leaf_in whole long path each others same =
    let between : Tree = record { depth = old.depth; record_len = old.record_len; records = mid } in
    record {
      depth = depth;
      record_len = len;
      leaf_in = leaf_in;
      path = record {
        whole = whole ∙ ap (λ (d : ℕ). (d + 1) * old.record_len) (sym depth) ∙ ap (λ (l : ℕ). (new.depth + 1) * l) (sym len);
        each = λ level h.
            let within : level ≤ old.depth = omega arith in
            let found : get nat_cmp new.records (node_on old.depth leaf level) ≡ Some (record_at old.record_len bytes level) = path level within ∙ each level (omega arith) in
            let there = record_there new (node_on old.depth leaf level) (record_at old.record_len bytes level) new_ordered found (omega (arith, length-record_at old.record_len bytes level (old.depth + 1) whole (omega arith))) in
            ap (λ (d : ℕ). record_of (kept_by new) (node_on d leaf level)) depth ∙ there ∙ ap (λ (l : ℕ). Some (record_at l bytes level)) (sym len);
      };
      others = λ node off. record_kept between new node mid_ordered new_ordered (others node off) ∙ ap (lookup (is_at (nat_cmp node))) same;
    }
