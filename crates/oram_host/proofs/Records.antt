-- The records of a tree, by its map of records and of room for records.
use Rattle.std.proofs.Common.{◌≡◌, ◌≢◌, ℕ, ◌<◌, Bool, true, false, cond, List, [], ◌∷◌, length, filter, Option, Some, None, ◌↔◌, ◌+◌, ◌-◌, ◌^◌, IsSome, All, refl, ap, subst, ◌∙◌, sym, arith, inl, inr}
use Rattle.std.specs.Map.{keys_of, lookup, values_of}
use Rattle.std.specs.BTreeMap.{BTreeMap, IsOrdered, Updates, get, insert_entry, is_at, keys, values}
use Rattle.std.specs.Ordering.{is_eq, match_ordering, nat_cmp}
use Rattle.std.specs.declared.cmp.Ordering.{Ordering}
use Rattle.std.specs.declared.cmp.Ordering.TheVariants.{Less, Equal, Greater}
use Rattle.std.specs.Cmp.{nat_cmp_is}
use Rattle.std.proofs.lemmas.Bool.{cases_order, le-ltb, lt-ltb}
use Rattle.std.proofs.lemmas.Cmp.{eq_by_cmp_equiv, nat_cmp_total}
use Rattle.std.proofs.lemmas.Map.Views.{All-keys-insert_entry, All-values-insert_entry}
use Rattle.std.proofs.lemmas.Map.Entries.{lookup-filter-values, option_filter}
use Rattle.std.proofs.lemmas.Map.Keys.{IsDistinct-from_sorted}
use Rattle.oram_host.specs.Host.{record_of}
use Rattle.oram_host.specs.Path.{PutsRecord}
use Rattle.oram_host.specs.Trees.{AreNodes, IsRecord, is_there, kept_by}
use Rattle.oram_host.specs.declared.trees.Tree.{Tree}

-- the record of a node, by what the map has there
pub record_of-kept : (tree : Tree) (node : ℕ) → IsOrdered nat_cmp tree.records → record_of (kept_by tree) node ≡ option_filter is_there (get nat_cmp tree.records node)
record_of-kept tree node ordered = lookup-filter-values (eq_by_cmp_equiv nat_cmp_total) is_there node tree.records.entries (IsDistinct-from_sorted nat_cmp (keys tree.records) ordered)

room_step : (o : Ordering) (node : ℕ) (e : ℕ × List ℕ) (es more : List (ℕ × List ℕ)) → cond (is_eq o) (Some e.1) (lookup (is_at (nat_cmp node)) es) ≡ None
    → (lookup (is_at (nat_cmp node)) es ≡ None → filter (λ x. is_there x.1) more ≡ filter (λ x. is_there x.1) es)
    → filter (λ x. is_there x.1) (match_ordering o ((node, []) ∷ e ∷ es) ((e.0, []) ∷ es) (e ∷ more)) ≡ filter (λ x. is_there x.1) (e ∷ es)
room_step Less node e es more none same = refl
room_step Equal node e es more none same = absurd cc
room_step Greater node e es more none same = ap (λ (xs : List (ℕ × List ℕ)). cond (is_there e.1) (e ∷ xs) xs) (same none)

-- room for a record isn't a record
pub records-insert_room : (node : ℕ) (es : List (ℕ × List ℕ)) → lookup (is_at (nat_cmp node)) es ≡ None → filter (λ x. is_there x.1) (insert_entry nat_cmp es node []) ≡ filter (λ x. is_there x.1) es
records-insert_room node [] none = refl
records-insert_room node (e ∷ es) none = room_step (nat_cmp node e.0) node e es (insert_entry nat_cmp es node []) none (records-insert_room node es)

pub record_there : (tree : Tree) (node : ℕ) (bytes : List ℕ) → IsOrdered nat_cmp tree.records → get nat_cmp tree.records node ≡ Some bytes → 0 < length bytes → record_of (kept_by tree) node ≡ Some bytes
record_there tree node bytes ordered found long =
    record_of-kept tree node ordered ∙ ap (option_filter is_there) found ∙ ap (λ (b : Bool). cond b (Some bytes) None) (lt-ltb 0 (length bytes) long)

pub record_hollow : (tree : Tree) (node : ℕ) (bytes : List ℕ) → IsOrdered nat_cmp tree.records → get nat_cmp tree.records node ≡ Some bytes → length bytes ≡ 0 → record_of (kept_by tree) node ≡ None
record_hollow tree node bytes ordered found none =
    record_of-kept tree node ordered ∙ ap (option_filter is_there) found ∙ ap (λ (b : Bool). cond b (Some bytes) None) (le-ltb 0 (length bytes) (omega arith))

pub record_absent : (tree : Tree) (node : ℕ) → IsOrdered nat_cmp tree.records → get nat_cmp tree.records node ≡ None → record_of (kept_by tree) node ≡ None
record_absent tree node ordered none = record_of-kept tree node ordered ∙ ap (option_filter is_there) none

pub not_at : (a b : ℕ) → b ≢ a → is_at (nat_cmp a) b ≡ false
not_at a b ne =
    elim (cases_order a b) [
      | inl same ↦ absurd (ne (sym same))
      | inr apart ↦ elim apart [
        | inl below ↦ ap is_eq (sym (nat_cmp_is a b Less below))
        | inr above ↦ ap is_eq (sym (nat_cmp_is a b Greater above))
      ]
    ]

-- a node that was not written has the record that it had
pub record_kept : (old new : Tree) (node : ℕ) → IsOrdered nat_cmp old.records → IsOrdered nat_cmp new.records → get nat_cmp new.records node ≡ get nat_cmp old.records node → record_of (kept_by new) node ≡ record_of (kept_by old) node
record_kept old new node old_ordered new_ordered same = record_of-kept new node new_ordered ∙ ap (option_filter is_there) same ∙ sym (record_of-kept old node old_ordered)

-- one record is put
pub puts_record : (old new : Tree) (node : ℕ) (bytes : List ℕ) → IsOrdered nat_cmp old.records → IsOrdered nat_cmp new.records → new.depth ≡ old.depth → new.record_len ≡ old.record_len → node < 2 ^ (old.depth + 1) - 1
    → length bytes ≡ old.record_len → 0 < old.record_len → Updates nat_cmp old.records new.records node (Some bytes) → PutsRecord (kept_by old) node bytes (kept_by new)
puts_record old new node bytes old_ordered new_ordered depth len node_in whole long updates = record {
  depth = depth;
  record_len = len;
  node_in = node_in;
  whole = whole;
  put = record_there new node bytes new_ordered updates.1 (omega arith);
  others = λ other ne. record_kept old new other old_ordered new_ordered (updates.2 other (not_at node other ne));
}

IsSome_cond : (b : Bool) (x y : Option (List ℕ)) → IsSome x → IsSome y → IsSome (cond b x y)
IsSome_cond true x y h k = h
IsSome_cond false x y h k = k

-- what was in the map is still there, after one thing was added
pub still_some : (old new : BTreeMap ℕ (List ℕ)) (node q : ℕ) (bytes : List ℕ) → Updates nat_cmp old new node (Some bytes) → IsSome (get nat_cmp old q) → IsSome (get nat_cmp new q)
still_some old new node q bytes updates some = rw (updates.0 q) (IsSome_cond (is_at (nat_cmp node) q) (Some bytes) (get nat_cmp old q) refl some)

-- after a record was written, the nodes are still in the tree, and the lengths are right
pub nodes-insert : (depth node : ℕ) (bytes : List ℕ) (old new : BTreeMap ℕ (List ℕ)) → new.entries ≡ insert_entry nat_cmp old.entries node bytes → node < 2 ^ (depth + 1) - 1 → AreNodes depth (keys old) → AreNodes depth (keys new)
nodes-insert depth node bytes old new entries within h =
    let P : List (ℕ × List ℕ) → Type 0 = λ es. AreNodes depth (keys_of es) in
    subst P (sym entries) (All-keys-insert_entry nat_cmp node bytes (λ k. k < 2 ^ (depth + 1) - 1) old.entries h within)

pub whole-insert : (record_len node : ℕ) (bytes : List ℕ) (old new : BTreeMap ℕ (List ℕ)) → new.entries ≡ insert_entry nat_cmp old.entries node bytes → IsRecord record_len bytes → All (IsRecord record_len) (values old) → All (IsRecord record_len) (values new)
whole-insert record_len node bytes old new entries fits h =
    let P : List (ℕ × List ℕ) → Type 0 = λ es. All (IsRecord record_len) (values_of es) in
    subst P (sym entries) (All-values-insert_entry nat_cmp node bytes (IsRecord record_len) old.entries h fits)

pub not_empty_from : (bytes : List ℕ) (b : Bool) → ((b ≡ true) ↔ (bytes ≡ [])) → b ≡ false → 0 < length bytes
not_empty_from [] b iff e = let t : true ≡ false = sym (iff.1 refl) ∙ e in absurd cc
not_empty_from (x ∷ bytes) b iff e = omega arith

pub empty_from : (bytes : List ℕ) (b : Bool) → ((b ≡ true) ↔ (bytes ≡ [])) → b ≡ true → length bytes ≡ 0
empty_from bytes b iff e = ap length (iff.0 e)
