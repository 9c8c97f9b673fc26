-- Exchanging records.
use Rattle.std.proofs.Common.{◌≡◌, ◌≢◌, ℕ, ◌<◌, ◌≤◌, ◌^◌, ◌⊎◌, Bool, true, false, cond, inl, inr, List, [], length, All, Option, Some, None, IsSome, IfSome, refl, ap, subst, sym, ◌∙◌, arith}
use Rattle.std.specs.Option.{option_and_then, option_map}
use Rattle.std.specs.BTreeMap.{BTreeMap, Updates, WritesThrough, get, is_at}
use Rattle.std.specs.Ordering.{nat_cmp}
use Rattle.std.proofs.lemmas.Bool.{cases_eq, lt-ltb}
use Rattle.std.proofs.lemmas.Map.Entries.{option_filter}
use Rattle.std.proofs.lemmas.Map.Views.{All-values-set_value, IfSome-lookup_from_All}
use Rattle.std.specs.Map.{values_of}
use Rattle.oram_host.specs.declared.trees.Tree.{Tree}
use Rattle.oram_host.specs.Host.{Host, IsHost, Kept, record_of, tree_at}
use Rattle.oram_host.specs.Swaps.{IsSwapped, LacksPair, shape_at, stored_at}
use Rattle.oram_host.specs.Trees.{AreNodes, AreTrees, IsExchanged, IsRecord, IsThere, IsTree, host_of, is_there, kept_by, shape_in, slot_at}
use Rattle.oram_host.proofs.Flipped.{record_kept_at, tree_kept_at}
use Rattle.oram_host.proofs.Hosts.{tree_at-host_of}
use Rattle.oram_host.proofs.LoadedHosts.{is_host}
use Rattle.oram_host.proofs.ReadImages.{nodes_fit}
use Rattle.oram_host.proofs.Records.{not_at, record_of-kept}

some_is : {X : Type 0} (x y : X) → Some x ≡ Some y → x ≡ y
some_is x y e = cc

-- each tree of a host is sound
tree_is : (trees : BTreeMap ℕ Tree) (t : ℕ) (kept : Tree) → AreTrees trees → get nat_cmp trees t ≡ Some kept → IsTree kept
tree_is trees t kept h found =
    let P : Option Tree → Type 0 = λ o. IfSome o IsTree in
    subst P found (IfSome-lookup_from_All IsTree (is_at (nat_cmp t)) trees.entries h.each)

pub slot_at-found : (trees : BTreeMap ℕ Tree) (t n : ℕ) (kept : Tree) → get nat_cmp trees t ≡ Some kept → slot_at trees t n ≡ get nat_cmp kept.records n
unfolding slot_at
slot_at-found trees t n kept found = ap (option_and_then (λ x. get nat_cmp x.records n)) found

slot_at-absent : (trees : BTreeMap ℕ Tree) (t n : ℕ) → get nat_cmp trees t ≡ None → slot_at trees t n ≡ None
unfolding slot_at
slot_at-absent trees t n none = ap (option_and_then (λ x. get nat_cmp x.records n)) none

slot_at-same : (old new : BTreeMap ℕ Tree) (t n : ℕ) → get nat_cmp new t ≡ get nat_cmp old t → slot_at new t n ≡ slot_at old t n
unfolding slot_at
slot_at-same old new t n same = ap (option_and_then (λ x. get nat_cmp x.records n)) same

pub shape_in-found : (trees : BTreeMap ℕ Tree) (t : ℕ) (kept : Tree) → get nat_cmp trees t ≡ Some kept → shape_in trees t ≡ Some (kept.depth, kept.record_len)
unfolding shape_in
shape_in-found trees t kept found = ap (option_map (λ x. (x.depth, x.record_len))) found

shape_in-same : (old new : BTreeMap ℕ Tree) (t : ℕ) → get nat_cmp new t ≡ get nat_cmp old t → shape_in new t ≡ shape_in old t
unfolding shape_in
shape_in-same old new t same = ap (option_map (λ x. (x.depth, x.record_len))) same

-- the record that a host has in a slot
slot_record : (o : Option Tree) (n : ℕ) → ((kept : Tree) → o ≡ Some kept → IsTree kept)
    → option_and_then (λ (k : Kept). record_of k n) (option_map kept_by o) ≡ option_filter is_there (option_and_then (λ (x : Tree). get nat_cmp x.records n) o)
slot_record None n are = refl
slot_record (Some kept) n are = record_of-kept kept n (are kept refl).ordered

pub stored_at-slot : (trees : BTreeMap ℕ Tree) (t n : ℕ) → AreTrees trees → stored_at (host_of trees) t n ≡ option_filter is_there (slot_at trees t n)
unfolding stored_at slot_at
stored_at-slot trees t n h =
    ap (option_and_then (λ (k : Kept). record_of k n)) (tree_at-host_of trees t) ∙ slot_record (get nat_cmp trees t) n (λ kept found. tree_is trees t kept h found)

shape_kept : (o : Option Tree) → option_map {T = Kept} {U = ℕ × ℕ} (λ k. (k.depth, k.record_len)) (option_map kept_by o) ≡ option_map {T = Tree} {U = ℕ × ℕ} (λ x. (x.depth, x.record_len)) o
shape_kept None = refl
shape_kept (Some kept) = refl

shape_at-host_of : (trees : BTreeMap ℕ Tree) (t : ℕ) → shape_at (host_of trees) t ≡ shape_in trees t
unfolding shape_at shape_in
shape_at-host_of trees t = ap (option_map (λ (k : Kept). (k.depth, k.record_len))) (tree_at-host_of trees t) ∙ shape_kept (get nat_cmp trees t)

filtered : (o : Option (List ℕ)) (bytes : List ℕ) → option_filter is_there o ≡ Some bytes → o ≡ Some bytes
filtered None bytes e = absurd cc
filtered (Some x) bytes e = kept_or_not (is_there x) x bytes e
  where
    kept_or_not : (b : Bool) (x bytes : List ℕ) → cond b (Some x) None ≡ Some bytes → Some x ≡ Some bytes
    kept_or_not true x bytes e = e
    kept_or_not false x bytes e = absurd cc

-- a record that a tree has satisfies `IsThere`
pub is_there_at : (trees : BTreeMap ℕ Tree) (t n : ℕ) (kept : Tree) (bytes : List ℕ) → AreTrees trees → get nat_cmp trees t ≡ Some kept → record_of (kept_by kept) n ≡ Some bytes → length bytes ≡ kept.record_len
    → IsThere trees t n kept.record_len
is_there_at trees t n kept bytes h found stored long =
    let tree = tree_is trees t kept h found in
    let here : get nat_cmp kept.records n ≡ Some bytes = filtered (get nat_cmp kept.records n) bytes (sym (record_of-kept kept n tree.ordered) ∙ stored) in
    let slot = slot_at-found trees t n kept found ∙ here in
    record {
      bytes = bytes;
      long = long;
      some = tree.shape.long;
      slot = slot;
      stored = stored_at-slot trees t n h ∙ ap (option_filter is_there) slot ∙ ap (λ (b : Bool). cond b (Some bytes) None) (lt-ltb 0 (length bytes) (omega (arith, long, tree.shape.long)));
      shaped = λ shape e. let same = some_is (kept.depth, kept.record_len) shape (sym (shape_in-found trees t kept found) ∙ e) in ap (λ (s : ℕ × ℕ). s.1) (sym same);
    }

pub not_stored : (trees : BTreeMap ℕ Tree) (t n : ℕ) (kept : Tree) → AreTrees trees → get nat_cmp trees t ≡ Some kept → record_of (kept_by kept) n ≡ None → stored_at (host_of trees) t n ≡ None
not_stored trees t n kept h found none =
    let tree = tree_is trees t kept h found in
    stored_at-slot trees t n h ∙ ap (option_filter is_there) (slot_at-found trees t n kept found) ∙ sym (record_of-kept kept n tree.ordered) ∙ none

pub no_tree : (trees : BTreeMap ℕ Tree) (t n : ℕ) → AreTrees trees → get nat_cmp trees t ≡ None → stored_at (host_of trees) t n ≡ None
no_tree trees t n h none = stored_at-slot trees t n h ∙ ap (option_filter is_there) (slot_at-absent trees t n none)

pub no_slot : (trees : BTreeMap ℕ Tree) (t n : ℕ) → IsSome (slot_at trees t n) → get nat_cmp trees t ≢ None
no_slot trees t n some none = none_some (slot_at trees t n) (slot_at-absent trees t n none) some
  where
    none_some : (o : Option (List ℕ)) → o ≡ None → IsSome o → ⊥
    none_some None e h = absurd cc
    none_some (Some x) e h = cc

-- a tree after other bytes were put at one of its nodes
pub tree_given : (tree : Tree) (new : BTreeMap ℕ (List ℕ)) (node : ℕ) (bytes : List ℕ) → IsTree tree → WritesThrough nat_cmp (nat_cmp node) tree.records bytes new → IsRecord tree.record_len bytes
    → IsTree (record { depth = tree.depth; record_len = tree.record_len; records = new })
tree_given tree new node bytes h written fits =
    let N : List ℕ → Type 0 = λ ks. AreNodes tree.depth ks in
    let W : List (ℕ × List ℕ) → Type 0 = λ es. All (IsRecord tree.record_len) (values_of es) in
    record {
      shape = h.shape;
      ordered = written.4;
      nodes = subst N (sym written.1) h.nodes;
      whole = subst W (sym written.0) (All-values-set_value (is_at (nat_cmp node)) (IsRecord tree.record_len) tree.records.entries bytes h.whole fits);
    }

-- one exchange within its tree
pub exchanged : (old new : BTreeMap ℕ Tree) (t n : ℕ) (tree changed : Tree) (bytes : List ℕ) → get nat_cmp old t ≡ Some tree → WritesThrough nat_cmp (nat_cmp t) old changed new
    → Updates nat_cmp tree.records changed.records n (Some bytes) → changed.depth ≡ tree.depth → changed.record_len ≡ tree.record_len → IsExchanged old t n bytes new
exchanged old new t n tree changed bytes found written updates depth len =
    let some : IsSome (get nat_cmp old t) = rw found refl in
    let up = written.3 some in
    record {
      here = slot_at-found new t n changed up.1 ∙ updates.1;
      others = λ t' n' apart. elim (cases_eq t' t) [
        | inl same ↦
            ap (λ (x : ℕ). slot_at new x n') same ∙ slot_at-found new t n' changed up.1 ∙ updates.2 n' (not_at n n' (apart same))
            ∙ sym (slot_at-found old t n' tree found) ∙ ap (λ (x : ℕ). slot_at old x n') (sym same)
        | inr other ↦ slot_at-same old new t' n' (up.2 t' (not_at t t' other))
      ];
      shapes = λ t'. elim (cases_eq t' t) [
        | inl same ↦
            ap (shape_in new) same ∙ shape_in-found new t changed up.1 ∙ ap (λ (d : ℕ). Some (d, changed.record_len)) depth ∙ ap (λ (l : ℕ). Some (tree.depth, l)) len
            ∙ sym (shape_in-found old t tree found) ∙ ap (shape_in old) (sym same)
        | inr other ↦ shape_in-same old new t' (up.2 t' (not_at t t' other))
      ];
    }

-- the facts for the second and the third exchange
pub second_there : (t0 t1 : BTreeMap ℕ Tree) (ta na tb nb len : ℕ) (bytes : List ℕ) → (tb ≡ ta → nb ≢ na) → IsThere t0 tb nb len → IsExchanged t0 ta na bytes t1 → IsSome (slot_at t1 tb nb)
second_there t0 t1 ta na tb nb len bytes apart b x1 = rw (x1.others tb nb apart ∙ b.slot) refl

pub third_there : (t1 t2 : BTreeMap ℕ Tree) (ta na tb nb : ℕ) (first second : List ℕ) → (tb ≡ ta → nb ≢ na) → slot_at t1 ta na ≡ Some first → IsExchanged t1 tb nb second t2 → IsSome (slot_at t2 ta na)
third_there t1 t2 ta na tb nb first second apart here x2 = rw (x2.others ta na (λ e f. apart (sym e) (sym f)) ∙ here) refl

pub taken_first : (t0 : BTreeMap ℕ Tree) (ta na len : ℕ) (held : List ℕ) → (a : IsThere t0 ta na len) → slot_at t0 ta na ≡ Some held → held ≡ a.bytes
taken_first t0 ta na len held a e = some_is held a.bytes (sym e ∙ a.slot)

pub taken_second : (t0 t1 : BTreeMap ℕ Tree) (ta na tb nb len : ℕ) (bytes held : List ℕ) → (tb ≡ ta → nb ≢ na) → (b : IsThere t0 tb nb len) → IsExchanged t0 ta na bytes t1
    → slot_at t1 tb nb ≡ Some held → held ≡ b.bytes
taken_second t0 t1 ta na tb nb len bytes held apart b x1 e = some_is held b.bytes (sym e ∙ x1.others tb nb apart ∙ b.slot)

-- three exchanges swap two records
pub swapped : (t0 t1 t2 t3 : BTreeMap ℕ Tree) (ta na tb nb len_a len_b : ℕ) (one two : List ℕ) → AreTrees t0 → AreTrees t3 → (tb ≡ ta → nb ≢ na)
    → (a : IsThere t0 ta na len_a) (b : IsThere t0 tb nb len_b) → len_a ≡ len_b → one ≡ a.bytes → two ≡ b.bytes
    → IsExchanged t0 ta na [] t1 → IsExchanged t1 tb nb one t2 → IsExchanged t2 ta na two t3
    → IsSwapped (host_of t0) ta na tb nb (host_of t3)
swapped t0 t1 t2 t3 ta na tb nb len_a len_b one two h0 h3 apart a b lens is_one is_two x1 x2 x3 =
    let seen : (t n : ℕ) (bytes : List ℕ) → slot_at t3 t n ≡ Some bytes → 0 < length bytes → stored_at (host_of t3) t n ≡ Some bytes =
    λ t n bytes slot pos. stored_at-slot t3 t n h3 ∙ ap (option_filter is_there) slot ∙ ap (λ (x : Bool). cond x (Some bytes) None) (lt-ltb 0 (length bytes) pos) in
    record {
      a = a.bytes;
      b = b.bytes;
      was_a = a.stored;
      was_b = b.stored;
      alike = a.long ∙ lens ∙ sym b.long;
      is_a = seen ta na b.bytes (x3.here ∙ ap (λ (xs : List ℕ). Some xs) is_two) (omega (arith, b.long, b.some));
      is_b = seen tb nb a.bytes (x3.others tb nb apart ∙ x2.here ∙ ap (λ (xs : List ℕ). Some xs) is_one) (omega (arith, a.long, a.some));
      others = λ t n not_a not_b. stored_at-slot t3 t n h3 ∙ ap (option_filter is_there) (x3.others t n not_a ∙ x2.others t n not_b ∙ x1.others t n not_a) ∙ sym (stored_at-slot t0 t n h0);
      shapes = λ t. shape_at-host_of t3 t ∙ x3.shapes t ∙ x2.shapes t ∙ x1.shapes t ∙ sym (shape_at-host_of t0 t);
    }

pub lacks_first : (host : Host) (ta na tb nb : ℕ) → stored_at host ta na ≡ None → LacksPair host ta na tb nb
lacks_first host ta na tb nb none = λ a b is_a is_b alike. absurd (some_none a (sym is_a ∙ none))
  where
    some_none : (x : List ℕ) → Some x ≢ None
    some_none x e = cc

pub lacks_second : (host : Host) (ta na tb nb : ℕ) → stored_at host tb nb ≡ None → LacksPair host ta na tb nb
lacks_second host ta na tb nb none = λ a b is_a is_b alike. absurd (some_none b (sym is_b ∙ none))
  where
    some_none : (x : List ℕ) → Some x ≢ None
    some_none x e = cc

opened : (host : Host) (tree node : ℕ) → stored_at host tree node ≡ option_and_then (λ (k : Kept). record_of k node) (tree_at host tree)
unfolding stored_at
opened host tree node = refl

-- a host has no tree past its last, and no node past a tree's last
pub nothing_past : (trees : BTreeMap ℕ Tree) (host : Host) (tree node : ℕ) → AreTrees trees → host_of trees ≡ host → (256 ≤ tree) ⊎ (2 ^ 32 ≤ node) → stored_at host tree node ≡ None
nothing_past trees host tree node h view past = by_cases (stored_at host tree node) refl
  where
    is : IsHost host
    is = subst IsHost view (is_host trees h)

    by_kept : (kept : Option Kept) → tree_at host tree ≡ kept → (bytes : List ℕ) → option_and_then (λ (k : Kept). record_of k node) kept ≡ Some bytes → ⊥
    by_kept None shaped bytes e = absurd cc
    by_kept (Some kept) shaped bytes e =
        let at = tree_kept_at host tree kept is shaped in
        let here = record_kept_at kept node bytes at.kept e in
        elim past [
          | inl tree_past ↦ omega (arith, at.number)
          | inr node_past ↦ omega (arith, here.node, nodes_fit kept.depth at.kept.shape.deep)
        ]

    by_cases : (o : Option (List ℕ)) → stored_at host tree node ≡ o → stored_at host tree node ≡ None
    by_cases None e = e
    by_cases (Some bytes) e = absurd (by_kept (tree_at host tree) refl bytes (sym (opened host tree node) ∙ e))
