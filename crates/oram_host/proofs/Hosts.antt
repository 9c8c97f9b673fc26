-- A host after one of its trees has changed.
use Rattle.std.proofs.Common.{◌≡◌, ◌≢◌, ℕ, ◌+◌, ◌-◌, ◌<◌, ◌^◌, filter, Bool, true, false, cond, IsSome, List, [], ◌∷◌, map, All, Option, Some, None, Result, Ok, Err, MatchResult, OnErr, refl, ap, subst, ◌∙◌, sym}
use Rattle.std.specs.Prelude.{MatchOption}
use Rattle.std.specs.Option.{option_map}
use Rattle.std.specs.BTreeMap.{BTreeMap, IsOrdered, Updates, WritesThrough, get, insert_entry, is_at}
use Rattle.std.specs.Map.{keys_of, lookup, set_value, values_of}
use Rattle.std.proofs.lemmas.List.Elements.{All-nil}
use Rattle.std.specs.Ordering.{nat_cmp}
use Rattle.std.proofs.lemmas.Map.Made.{lookup-map_values}
use Rattle.std.proofs.lemmas.Map.Views.{All-keys-insert_entry, All-values-insert_entry, All-values-set_value}
use Rattle.oram_wire.specs.declared.host_messages.HostRequest.TheVariants as request
use Rattle.oram_host.specs.declared.refusals.HostRefusal.{HostRefusal}
use Rattle.oram_host.specs.declared.refusals.HostRefusal.TheVariants.{NoShape}
use Rattle.oram_host.specs.declared.trees.Tree.{Tree}
use Rattle.oram_host.specs.Answers.{IsFetched, IsPut, IsShaped, IsStored, Keeps}
use Rattle.oram_host.specs.Host.{Host, IsShape, Kept, tree_at}
use Rattle.oram_host.specs.Path.{FitsAnswer, IsBehind, IsPath, PutsRecord, StoresPath}
use Rattle.oram_host.specs.Refusals.{Refuses, RefusesFetch, RefusesPut, RefusesStore}
use Rattle.oram_host.specs.Trees.{AreNodes, AreTrees, IsRecord, IsTree, host_of, is_there, kept_by}
use Rattle.oram_host.proofs.Records.{not_at}

pub tree_at-host_of : (trees : BTreeMap ℕ Tree) (n : ℕ) → tree_at (host_of trees) n ≡ option_map kept_by (get nat_cmp trees n)
tree_at-host_of trees n = lookup-map_values kept_by (is_at (nat_cmp n)) trees.entries

pub tree_absent : (trees : BTreeMap ℕ Tree) (host : Host) (n : ℕ) → host_of trees ≡ host → get nat_cmp trees n ≡ None → tree_at host n ≡ None
tree_absent trees host n view none = ap (λ (h : Host). tree_at h n) (sym view) ∙ tree_at-host_of trees n ∙ ap (option_map kept_by) none

pub tree_there : (trees : BTreeMap ℕ Tree) (host : Host) (n : ℕ) (tree : Tree) → host_of trees ≡ host → get nat_cmp trees n ≡ Some tree → tree_at host n ≡ Some (kept_by tree)
tree_there trees host n tree view found = ap (λ (h : Host). tree_at h n) (sym view) ∙ tree_at-host_of trees n ∙ ap (option_map kept_by) found

-- a host that has no such tree
pub no_shape : (kept : Option Kept) (why : HostRefusal) (P : Kept → Type 0) → kept ≡ None → MatchOption kept (why ≡ why) P
no_shape None why P none = refl
no_shape (Some k) why P none = absurd cc

with_shape : (kept : Option Kept) (k : Kept) (A : Type 0) (P : Kept → Type 0) → kept ≡ Some k → P k → MatchOption kept A P
with_shape None k A P e p = absurd cc
with_shape (Some x) k A P e p = let same : k ≡ x = cc in subst P same p

pub fetched : {T : Type 0} (items : T → List ℕ) (front : List ℕ) (host : Host) (tree leaf : ℕ) (kept : Kept) (r : Result T HostRefusal) → tree_at host tree ≡ Some kept
    → MatchResult r (λ v. (leaf < 2 ^ kept.depth) × IsBehind front (λ bytes. IsPath kept leaf bytes × FitsAnswer bytes) (items v)) (λ why. RefusesFetch kept leaf why)
    → MatchResult r (λ v. IsBehind front (λ bytes. IsFetched host tree leaf bytes × FitsAnswer bytes) (items v)) (Refuses host (request.Fetch tree leaf))
fetched items front host tree leaf kept (Ok v) shaped h = (h.1.0, h.1.1, (record { kept = kept; shaped = shaped; leaf_in = h.0; path = h.1.2.0 }, h.1.2.1))
fetched items front host tree leaf kept (Err why) shaped h = with_shape (tree_at host tree) kept (why ≡ NoShape) (λ k. RefusesFetch k leaf why) shaped h

-- what the host keeps after a tree has changed in place
pub keeps_written : (old new : BTreeMap ℕ Tree) (before after : Host) (n : ℕ) (tree : Tree) → host_of old ≡ before → host_of new ≡ after → IsSome (get nat_cmp old n) → WritesThrough nat_cmp (nat_cmp n) old tree new → Keeps before n (kept_by tree) after
keeps_written old new before after n tree old_view new_view some h =
    let updates = h.3 some in
    record {
      here = tree_there new after n tree new_view updates.1;
      others = λ other ne. ap (λ (x : Host). tree_at x other) (sym new_view) ∙ tree_at-host_of new other ∙ ap (option_map kept_by) (updates.2 other (not_at n other ne)) ∙ sym (tree_at-host_of old other)
          ∙ ap (λ (x : Host). tree_at x other) old_view;
    }

cases_found : (b : Bool) (x old : Tree) (rest : Option Tree) → cond b (Some x) rest ≡ Some old → (cond b (Some x) None ≡ cond b (Some old) None) × (b ≡ false → rest ≡ Some old)
cases_found true x old rest e = (e, λ f. absurd cc)
cases_found false x old rest e = (refl, λ f. e)

step_same : (b : Bool) (e : ℕ × Tree) (es more : List (ℕ × Tree)) (old tree : Tree) → kept_by tree ≡ kept_by old → cond b (Some e.1) None ≡ cond b (Some old) None
    → (b ≡ false → map {B = ℕ × Kept} (λ x. (x.0, kept_by x.1)) more ≡ map {B = ℕ × Kept} (λ x. (x.0, kept_by x.1)) es)
    → map {B = ℕ × Kept} (λ x. (x.0, kept_by x.1)) (cond b ((e.0, tree) ∷ es) (e ∷ more)) ≡ map {B = ℕ × Kept} (λ x. (x.0, kept_by x.1)) (e ∷ es)
step_same true e es more old tree same found rest =
    let here : e.1 ≡ old = cc in
    ap (λ (k : Kept). (e.0, k) ∷ map {B = ℕ × Kept} (λ x. (x.0, kept_by x.1)) es) (same ∙ ap kept_by (sym here))
step_same false e es more old tree same found rest = ap (λ (h : Host). (e.0, kept_by e.1) ∷ h) (rest refl)

-- if a tree keeps the same records, the host is as it was
same_written : (test : ℕ → Bool) (es : List (ℕ × Tree)) (old tree : Tree) → lookup test es ≡ Some old → kept_by tree ≡ kept_by old
    → map {B = ℕ × Kept} (λ x. (x.0, kept_by x.1)) (set_value test es tree) ≡ map {B = ℕ × Kept} (λ x. (x.0, kept_by x.1)) es
same_written test [] old tree found same = refl
same_written test (e ∷ es) old tree found same =
    let c = cases_found (test e.0) e.1 old (lookup test es) found in
    step_same (test e.0) e es (set_value test es tree) old tree same c.0 (λ f. same_written test es old tree (c.1 f) same)

pub same_host : (old new : BTreeMap ℕ Tree) (before after : Host) (n : ℕ) (tree changed : Tree) → host_of old ≡ before → host_of new ≡ after → get nat_cmp old n ≡ Some tree → WritesThrough nat_cmp (nat_cmp n) old changed new → kept_by changed ≡ kept_by tree → after ≡ before
same_host old new before after n tree changed old_view new_view found h same =
    sym new_view ∙ ap (λ (es : List (ℕ × Tree)). map {B = ℕ × Kept} (λ x. (x.0, kept_by x.1)) es) h.0 ∙ same_written (is_at (nat_cmp n)) old.entries tree changed found same ∙ old_view

-- a tree was written in place
pub trees_written : (old new : BTreeMap ℕ Tree) (n : ℕ) (tree : Tree) → AreTrees old → WritesThrough nat_cmp (nat_cmp n) old tree new → IsTree tree → AreTrees new
trees_written old new n tree trees h good =
    let P : List (ℕ × Tree) → Type 0 = λ es. All IsTree (values_of es) in
    let Q : List ℕ → Type 0 = λ ns. All (λ number. number < 256) ns in
    record { ordered = h.4; each = subst P (sym h.0) (All-values-set_value (is_at (nat_cmp n)) IsTree old.entries tree trees.each good); numbers = subst Q (sym h.1) trees.numbers }

pub stored : {T : Type 0} (old new : Host) (tree leaf : ℕ) (records : List ℕ) (kept changed : Kept) (r : Result T HostRefusal) → tree_at old tree ≡ Some kept → Keeps old tree changed new → (changed ≡ kept → new ≡ old)
    → MatchResult r (λ _. StoresPath kept leaf records changed) (λ why. RefusesStore kept leaf records why) → OnErr r (changed ≡ kept)
    → MatchResult r (λ _. IsStored old tree leaf records new) (λ why. Refuses old (request.Store tree leaf records) why × (new ≡ old))
stored old new tree leaf records kept changed (Ok x) shaped keeps unchanged h err = record { kept = kept; stored = changed; shaped = shaped; stores = h; keeps = keeps }
stored old new tree leaf records kept changed (Err why) shaped keeps unchanged h err =
    (with_shape (tree_at old tree) kept (why ≡ NoShape) (λ k. RefusesStore k leaf records why) shaped h, unchanged err)

pub was_put : {T : Type 0} (old new : Host) (tree node : ℕ) (bytes : List ℕ) (kept changed : Kept) (r : Result T HostRefusal) → tree_at old tree ≡ Some kept → Keeps old tree changed new → (changed ≡ kept → new ≡ old)
    → MatchResult r (λ _. PutsRecord kept node bytes changed) (λ why. RefusesPut kept node bytes why) → OnErr r (changed ≡ kept)
    → MatchResult r (λ _. IsPut old tree node bytes new) (λ why. Refuses old (request.Put tree node bytes) why × (new ≡ old))
was_put old new tree node bytes kept changed (Ok x) shaped keeps unchanged h err = record { kept = kept; changed = changed; shaped = shaped; puts = h; keeps = keeps }
was_put old new tree node bytes kept changed (Err why) shaped keeps unchanged h err =
    (with_shape (tree_at old tree) kept (why ≡ NoShape) (λ k. RefusesPut k node bytes why) shaped h, unchanged err)

-- a tree was added
pub keeps_added : (old new : BTreeMap ℕ Tree) (before after : Host) (n : ℕ) (tree : Tree) → host_of old ≡ before → host_of new ≡ after → Updates nat_cmp old new n (Some tree) → Keeps before n (kept_by tree) after
keeps_added old new before after n tree old_view new_view updates = record {
  here = tree_there new after n tree new_view updates.1;
  others = λ other ne. ap (λ (x : Host). tree_at x other) (sym new_view) ∙ tree_at-host_of new other ∙ ap (option_map kept_by) (updates.2 other (not_at n other ne)) ∙ sym (tree_at-host_of old other)
      ∙ ap (λ (x : Host). tree_at x other) old_view;
}

pub trees_added : (old new : BTreeMap ℕ Tree) (n : ℕ) (tree : Tree) → AreTrees old → new.entries ≡ insert_entry nat_cmp old.entries n tree → IsOrdered nat_cmp new → IsTree tree → n < 256 → AreTrees new
trees_added old new n tree trees entries ordered good number =
    let P : List (ℕ × Tree) → Type 0 = λ es. All IsTree (values_of es) in
    let Q : List (ℕ × Tree) → Type 0 = λ es. All (λ k. k < 256) (keys_of es) in
    record {
      ordered = ordered;
      each = subst P (sym entries) (All-values-insert_entry nat_cmp n tree IsTree old.entries trees.each good);
      numbers = subst Q (sym entries) (All-keys-insert_entry nat_cmp n tree (λ k. k < 256) old.entries trees.numbers number);
    }

pub not_absent : (trees : BTreeMap ℕ Tree) (host : Host) (n : ℕ) → host_of trees ≡ host → IsSome (get nat_cmp trees n) → tree_at host n ≢ None
not_absent trees host n view some none = some_none (get nat_cmp trees n) some (sym (tree_at-host_of trees n) ∙ ap (λ (h : Host). tree_at h n) view ∙ none)
  where
    some_none : (o : Option Tree) → IsSome o → option_map kept_by o ≡ None → ⊥
    some_none None s e = absurd cc
    some_none (Some t) s e = absurd cc

-- a tree without records
pub bare_tree : (depth record_len : ℕ) (records : BTreeMap ℕ (List ℕ)) → IsShape depth record_len → records.entries ≡ [] → IsOrdered nat_cmp records → IsTree (record { depth = depth; record_len = record_len; records = records })
bare_tree depth record_len records shape empty ordered =
    let P : List (ℕ × List ℕ) → Type 0 = λ es. AreNodes depth (keys_of es) in
    let Q : List (ℕ × List ℕ) → Type 0 = λ es. All (IsRecord record_len) (values_of es) in
    record { shape = shape; ordered = ordered; nodes = subst P (sym empty) (All-nil (λ node. node < 2 ^ (depth + 1) - 1)); whole = subst Q (sym empty) (All-nil (IsRecord record_len)) }

pub kept_bare : (depth record_len : ℕ) (records : BTreeMap ℕ (List ℕ)) → records.entries ≡ []
    → (let bare : Kept = record { depth = depth; record_len = record_len; records = [] } in kept_by (record { depth = depth; record_len = record_len; records = records }) ≡ bare)
kept_bare depth record_len records empty = ap (λ (es : List (ℕ × List ℕ)). record { depth = depth; record_len = record_len; records = filter (λ e. is_there e.1) es }) empty

-- a tree that has a shape and no records was added
pub shaped : (old new : BTreeMap ℕ Tree) (before after : Host) (n depth record_len : ℕ) (records : BTreeMap ℕ (List ℕ)) → host_of old ≡ before → host_of new ≡ after → IsShape depth record_len → get nat_cmp old n ≡ None → records.entries ≡ []
    → Updates nat_cmp old new n (Some (record { depth = depth; record_len = record_len; records = records })) → IsShaped before n depth record_len after
shaped old new before after n depth record_len records old_view new_view shape none empty updates =
    let P : Kept → Type 0 = λ k. Keeps before n k after in
    record {
      shape = shape;
      free = tree_absent old before n old_view none;
      keeps = subst P (kept_bare depth record_len records empty) (keeps_added old new before after n (record { depth = depth; record_len = record_len; records = records }) old_view new_view updates);
    }
