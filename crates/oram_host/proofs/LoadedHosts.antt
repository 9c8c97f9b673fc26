-- What trees in memory keep, as a host, and a map that is one entry longer.
use Rattle.std.proofs.Common.{◌≡◌, ℕ, ◌+◌, ◌-◌, ◌^◌, ◌<◌, ◌≤◌, inl, inr, Bool, true, false, cond, List, [], ◌∷◌, ◌++◌, length, filter, map, All, refl, ap, subst, sym, ◌∙◌, arith}
use Rattle.std.specs.List.{AllByRecursion, flat_map}
use Rattle.std.specs.Map.{keys_of, values_of}
use Rattle.std.specs.BTreeMap.{BTreeMap, insert_entry}
use Rattle.std.specs.Ordering.{nat_cmp}
use Rattle.std.proofs.lemmas.Bool.{lt-ltb, ltb-true}
use Rattle.std.proofs.lemmas.List.{append-nil, append_assoc, map_push}
use Rattle.std.proofs.lemmas.List.Concat.{flat_map-append}
use Rattle.std.proofs.lemmas.List.Elements.{All-from_recursion, recursion_from_All}
use Rattle.oram_host.specs.declared.trees.Tree.{Tree}
use Rattle.oram_host.specs.Host.{Host, IsHost, IsKept, IsKeptTree, IsRecordOf, Kept, RisesFrom}
use Rattle.oram_host.specs.Trees.{AreNodes, AreTrees, IsRecord, IsTree, host_of, is_there, kept_by}
use Rattle.oram_host.proofs.RisingEntries.{RisesFrom-filter, RisesFrom-values, insert_entry-last, least_after, least_after-values, rises_before, rises_from_sorted, rises_next}

-- ---- one more entry

pub all_push : {X : Type 0} (P : X → Type 0) (xs : List X) (x : X) → AllByRecursion P xs → P x → AllByRecursion P (xs ++ x ∷ [])
all_push P [] x all h = (h, tt)
all_push P (y ∷ xs) x all h = (all.0, all_push P xs x all.1 h)

pub flat_map-push : {X : Type 0} (f : X → List ℕ) (xs : List X) (x : X) → flat_map f (xs ++ x ∷ []) ≡ flat_map f xs ++ f x
flat_map-push f xs x = flat_map-append f xs (x ∷ []) ∙ ap (λ (t : List ℕ). flat_map f xs ++ t) (append-nil (f x))

pub grown : {X : Type 0} (old new : BTreeMap ℕ X) (number : ℕ) (x : X) → new.entries ≡ insert_entry nat_cmp old.entries number x → RisesFrom 0 old.entries → least_after 0 old.entries ≤ number → new.entries ≡ old.entries ++ (number, x) ∷ []
grown old new number x inserted rises above = inserted ∙ insert_entry-last old.entries 0 number x rises above

-- ---- a tree

there_or_room : (record_len : ℕ) (bytes : List ℕ) → IsRecord record_len bytes → 0 < length bytes → length bytes ≡ record_len
there_or_room record_len bytes (inl none) there = absurd (omega (arith, ap length none))
there_or_room record_len bytes (inr whole) there = whole

one_kept : (nodes record_len : ℕ) (b : Bool) (e : ℕ × List ℕ) (es : List (ℕ × List ℕ)) → b ≡ is_there e.1 → e.0 < nodes → IsRecord record_len e.1 → AllByRecursion (IsRecordOf nodes record_len) es
    → AllByRecursion (IsRecordOf nodes record_len) (cond b (e ∷ es) es)
one_kept nodes record_len true e es there node fits all = (record { node = node; whole = there_or_room record_len e.1 fits (ltb-true 0 (length e.1) (sym there)) }, all)
one_kept nodes record_len false e es there node fits all = all

records_kept : (nodes record_len : ℕ) (es : List (ℕ × List ℕ)) → AllByRecursion (λ node. node < nodes) (keys_of es) → AllByRecursion (IsRecord record_len) (values_of es)
    → AllByRecursion (IsRecordOf nodes record_len) (filter (λ e. is_there e.1) es)
records_kept nodes record_len [] within fits = tt
records_kept nodes record_len (e ∷ es) within fits = one_kept nodes record_len (is_there e.1) e (filter (λ x. is_there x.1) es) refl within.0 fits.0 (records_kept nodes record_len es within.1 fits.1)

pub is_kept : (tree : Tree) → IsTree tree → IsKept (kept_by tree)
is_kept tree h =
    let nodes = 2 ^ (tree.depth + 1) - 1 in
    record {
      shape = h.shape;
      rising = RisesFrom-filter (λ e. is_there e.1) tree.records.entries 0 (rises_from_sorted tree.records.entries h.ordered);
      each = records_kept nodes tree.record_len tree.records.entries (recursion_from_All (λ node. node < nodes) (keys_of tree.records.entries) h.nodes)
          (recursion_from_All (IsRecord tree.record_len) (values_of tree.records.entries) h.whole);
    }

-- ---- a host

trees_kept : (es : List (ℕ × Tree)) → AllByRecursion (λ number. number < 256) (keys_of es) → AllByRecursion IsTree (values_of es) → AllByRecursion IsKeptTree (map {B = ℕ × Kept} (λ e. (e.0, kept_by e.1)) es)
trees_kept [] numbers trees = tt
trees_kept (e ∷ es) numbers trees = (record { number = numbers.0; kept = is_kept e.1 trees.0 }, trees_kept es numbers.1 trees.1)

pub is_host : (trees : BTreeMap ℕ Tree) → AreTrees trees → IsHost (host_of trees)
is_host trees h = record {
  rising = RisesFrom-values kept_by trees.entries 0 (rises_from_sorted trees.entries h.ordered);
  each = trees_kept trees.entries (recursion_from_All (λ number. number < 256) (keys_of trees.entries) h.numbers) (recursion_from_All IsTree (values_of trees.entries) h.each);
}

pub host_grown : (old new : BTreeMap ℕ Tree) (number : ℕ) (tree : Tree) → new.entries ≡ insert_entry nat_cmp old.entries number tree → AreTrees old → least_after 0 (host_of old) ≤ number
    → host_of new ≡ host_of old ++ (number, kept_by tree) ∷ []
host_grown old new number tree inserted trees above =
    let least : least_after 0 (host_of old) ≡ least_after 0 old.entries = least_after-values kept_by old.entries 0 in
    let longer = grown old new number tree inserted (rises_from_sorted old.entries trees.ordered) (omega (arith, least)) in
    ap (λ (es : List (ℕ × Tree)). map {B = ℕ × Kept} (λ e. (e.0, kept_by e.1)) es) longer ∙ map_push {Y = ℕ × Kept} (λ e. (e.0, kept_by e.1)) old.entries (number, tree)

-- ---- records that were read, each of them there

keep_there : (b : Bool) (e : ℕ × List ℕ) (es kept : List (ℕ × List ℕ)) → b ≡ true → kept ≡ es → cond b (e ∷ kept) kept ≡ e ∷ es
keep_there true e es kept there same = ap (λ (xs : List (ℕ × List ℕ)). e ∷ xs) same
keep_there false e es kept there same = absurd cc

pub all_there : (nodes record_len : ℕ) (es : List (ℕ × List ℕ)) → 0 < record_len → AllByRecursion (IsRecordOf nodes record_len) es → filter (λ e. is_there e.1) es ≡ es
all_there nodes record_len [] long all = refl
all_there nodes record_len (e ∷ es) long all =
    keep_there (is_there e.1) e es (filter (λ x. is_there x.1) es) (lt-ltb 0 (length e.1) (omega (arith, all.0.whole))) (all_there nodes record_len es long all.1)

node_each : (nodes record_len : ℕ) (es : List (ℕ × List ℕ)) → AllByRecursion (IsRecordOf nodes record_len) es → AllByRecursion (λ node. node < nodes) (keys_of es)
node_each nodes record_len [] all = tt
node_each nodes record_len (e ∷ es) all = (all.0.node, node_each nodes record_len es all.1)

whole_each : (nodes record_len : ℕ) (es : List (ℕ × List ℕ)) → AllByRecursion (IsRecordOf nodes record_len) es → AllByRecursion (IsRecord record_len) (values_of es)
whole_each nodes record_len [] all = tt
whole_each nodes record_len (e ∷ es) all = (inr all.0.whole, whole_each nodes record_len es all.1)

pub are_nodes : (depth record_len : ℕ) (es : List (ℕ × List ℕ)) → AllByRecursion (IsRecordOf (2 ^ (depth + 1) - 1) record_len) es → AreNodes depth (keys_of es)
are_nodes depth record_len es all =
    let nodes = 2 ^ (depth + 1) - 1 in
    All-from_recursion (λ node. node < nodes) (keys_of es) (node_each nodes record_len es all)

pub are_whole : (nodes record_len : ℕ) (es : List (ℕ × List ℕ)) → AllByRecursion (IsRecordOf nodes record_len) es → All (IsRecord record_len) (values_of es)
are_whole nodes record_len es all = All-from_recursion (IsRecord record_len) (values_of es) (whole_each nodes record_len es all)

-- ---- a copy

-- one more entry is copied
pub copied_more : {X : Type 0} (old new : BTreeMap ℕ X) (left rest all : List (ℕ × X)) (number : ℕ) (x copy : X) → left ≡ (number, x) ∷ rest → copy ≡ x → new.entries ≡ insert_entry nat_cmp old.entries number copy → RisesFrom 0 all
    → old.entries ++ left ≡ all → new.entries ++ rest ≡ all
copied_more {X} old new left rest all number x copy split same inserted rises so_far =
    let next : old.entries ++ (number, x) ∷ rest ≡ all = ap (λ (es : List (ℕ × X)). old.entries ++ es) (sym split) ∙ so_far in
    let P : List (ℕ × X) → Type 0 = λ es. RisesFrom 0 es in
    let here : RisesFrom 0 (old.entries ++ (number, x) ∷ rest) = subst P (sym next) rises in
    let longer = grown old new number copy inserted (rises_before old.entries ((number, x) ∷ rest) 0 here) (rises_next old.entries rest 0 number x here) in
    ap (λ (es : List (ℕ × X)). es ++ rest) longer ∙ append_assoc old.entries ((number, copy) ∷ []) rest ∙ ap (λ (y : X). old.entries ++ (number, y) ∷ rest) same ∙ next

-- what trees keep, by number
abbrev pub kept_trees : List (ℕ × Tree) → Host
kept_trees trees = map {B = ℕ × Kept} (λ e. (e.0, kept_by e.1)) trees

-- one more tree is copied
pub host_copied_more : (old new : BTreeMap ℕ Tree) (left rest : List (ℕ × Tree)) (all : Host) (number : ℕ) (tree copy : Tree) → left ≡ (number, tree) ∷ rest → kept_by copy ≡ kept_by tree → new.entries ≡ insert_entry nat_cmp old.entries number copy
    → AreTrees old → RisesFrom 0 all → host_of old ++ kept_trees left ≡ all → host_of new ++ kept_trees rest ≡ all
host_copied_more old new left rest all number tree copy split same inserted trees rises so_far =
    let next : host_of old ++ (number, kept_by tree) ∷ kept_trees rest ≡ all = ap (λ (es : List (ℕ × Tree)). host_of old ++ kept_trees es) (sym split) ∙ so_far in
    let P : Host → Type 0 = λ host. RisesFrom 0 host in
    let here : RisesFrom 0 (host_of old ++ (number, kept_by tree) ∷ kept_trees rest) = subst P (sym next) rises in
    let longer = host_grown old new number copy inserted trees (rises_next (host_of old) (kept_trees rest) 0 number (kept_by tree) here) in
    ap (λ (host : Host). host ++ kept_trees rest) longer ∙ append_assoc (host_of old) ((number, kept_by copy) ∷ []) (kept_trees rest)
    ∙ ap (λ (k : Kept). host_of old ++ (number, k) ∷ kept_trees rest) same ∙ next
