-- A record in which one bit was flipped.
use Rattle.std.proofs.Common.{◌≡◌, ℕ, ◌+◌, ◌-◌, ◌^◌, ◌<◌, inr, Bool, true, false, cond, List, [], ◌∷◌, length, Option, Some, None, IsSome, All, refl, ap, subst, sym, ◌∙◌}
use Rattle.std.specs.Prelude.{MatchBool}
use Rattle.std.specs.List.{AllByRecursion}
use Rattle.std.specs.Map.{lookup, values_of}
use Rattle.std.specs.BTreeMap.{BTreeMap, WritesThrough, get, is_at}
use Rattle.std.specs.Ordering.{is_eq, nat_cmp}
use Rattle.std.specs.declared.cmp.Ordering.{Ordering}
use Rattle.std.specs.declared.cmp.Ordering.TheVariants.{Less, Equal, Greater}
use Rattle.std.proofs.Math.ListN.{length-set}
use Rattle.std.proofs.lemmas.Cmp.{ranked}
use Rattle.std.proofs.lemmas.Map.Views.{All-values-set_value}
use Rattle.oram_host.specs.declared.trees.Tree.{Tree}
use Rattle.oram_host.specs.Answers.{Keeps}
use Rattle.oram_host.specs.Flips.{FlipsByte, IsByteless, IsFlipped, LacksByte, flipped}
use Rattle.oram_host.specs.Host.{Host, IsHost, IsKept, IsKeptTree, IsRecordOf, Kept, record_of, tree_at}
use Rattle.oram_host.specs.Trees.{AreNodes, IsRecord, IsTree, is_there, kept_by}
use Rattle.oram_host.proofs.LoadedHosts.{is_kept}
use Rattle.oram_host.proofs.Records.{puts_record, record_of-kept}

found_step : {X : Type 0} (P : ℕ × X → Type 0) (o : Ordering) (number : ℕ) (e : ℕ × X) (x : X) (rest : Option X) → o ≡ nat_cmp number e.0 → P e → (rest ≡ Some x → P (number, x))
    → cond (is_eq o) (Some e.1) rest ≡ Some x → P (number, x)
found_step P Less number e x rest o_is here there found = there found
found_step {X} P Equal number e x rest o_is here there found =
    let same : number ≡ e.0 = ranked number e.0 Equal o_is in
    let value : e.1 ≡ x = cc in
    let Q : ℕ → Type 0 = λ n. P (n, x) in
    let R : X → Type 0 = λ y. P (e.0, y) in
    subst Q (sym same) (subst R value here)
found_step P Greater number e x rest o_is here there found = there found

-- what holds of each entry holds of the one that is found
found : {X : Type 0} (P : ℕ × X → Type 0) (es : List (ℕ × X)) (number : ℕ) (x : X) → AllByRecursion P es → lookup (is_at (nat_cmp number)) es ≡ Some x → P (number, x)
found P [] number x all there = absurd cc
found P (e ∷ es) number x all there = found_step P (nat_cmp number e.0) number e x (lookup (is_at (nat_cmp number)) es) refl all.0 (λ h. found P es number x all.1 h) there

pub tree_kept_at : (host : Host) (tree : ℕ) (kept : Kept) → IsHost host → tree_at host tree ≡ Some kept → IsKeptTree (tree, kept)
tree_kept_at host tree kept h shaped = found IsKeptTree host tree kept h.each shaped

pub record_kept_at : (kept : Kept) (node : ℕ) (bytes : List ℕ) → IsKept kept → record_of kept node ≡ Some bytes → IsRecordOf (2 ^ (kept.depth + 1) - 1) kept.record_len (node, bytes)
record_kept_at kept node bytes h stored =
    let nodes = 2 ^ (kept.depth + 1) - 1 in
    found (IsRecordOf nodes kept.record_len) kept.records node bytes h.each stored

one_record : (b : Bool) (bytes stored : List ℕ) → cond b (Some bytes) None ≡ Some stored → stored ≡ bytes
one_record true bytes stored e = cc
one_record false bytes stored e = absurd cc

-- a record that is stored is the one in the map
pub record_in_map : (tree : Tree) (node : ℕ) (bytes stored : List ℕ) → IsTree tree → get nat_cmp tree.records node ≡ Some bytes → record_of (kept_by tree) node ≡ Some stored → stored ≡ bytes
record_in_map tree node bytes stored h there e =
    let kept : record_of (kept_by tree) node ≡ cond (is_there bytes) (Some bytes) None = record_of-kept tree node h.ordered ∙ rw there refl in
    one_record (is_there bytes) bytes stored (sym kept ∙ e)

pub length-flipped : (bytes : List ℕ) (offset : ℕ) → length (flipped bytes offset) ≡ length bytes
length-flipped bytes offset = simp length-set

-- a record of the map was written
pub tree_written : (tree : Tree) (new : BTreeMap ℕ (List ℕ)) (node : ℕ) (bytes : List ℕ) → IsTree tree → WritesThrough nat_cmp (nat_cmp node) tree.records bytes new → length bytes ≡ tree.record_len
    → IsTree (record { depth = tree.depth; record_len = tree.record_len; records = new })
tree_written tree new node bytes h written whole =
    let N : List ℕ → Type 0 = λ ks. AreNodes tree.depth ks in
    let W : List (ℕ × List ℕ) → Type 0 = λ es. All (IsRecord tree.record_len) (values_of es) in
    record {
      shape = h.shape;
      ordered = written.4;
      nodes = subst N (sym written.1) h.nodes;
      whole = subst W (sym written.0) (All-values-set_value (is_at (nat_cmp node)) (IsRecord tree.record_len) tree.records.entries bytes h.whole (inr whole));
    }

pub flips_byte : (tree : Tree) (new : BTreeMap ℕ (List ℕ)) (node offset : ℕ) (bytes stored : List ℕ) → IsTree tree → get nat_cmp tree.records node ≡ Some bytes
    → record_of (kept_by tree) node ≡ Some stored → offset < length stored → WritesThrough nat_cmp (nat_cmp node) tree.records (flipped bytes offset) new
    → (let changed : Tree = record { depth = tree.depth; record_len = tree.record_len; records = new } in IsTree changed × FlipsByte (kept_by tree) node offset (kept_by changed))
flips_byte tree new node offset bytes stored h there e within written =
    let changed : Tree = record { depth = tree.depth; record_len = tree.record_len; records = new } in
    let at = record_kept_at (kept_by tree) node stored (is_kept tree h) e in
    let same : stored ≡ bytes = record_in_map tree node bytes stored h there e in
    let whole : length (flipped bytes offset) ≡ tree.record_len = length-flipped bytes offset ∙ ap length (sym same) ∙ at.whole in
    let some : IsSome (get nat_cmp tree.records node) = rw there refl in
    let P : List ℕ → Type 0 = λ xs. (record_of (kept_by tree) node ≡ Some xs) × (offset < length xs) in
    let here : P bytes = subst P same (e, within) in (
      tree_written tree new node (flipped bytes offset) h written whole,
      (bytes, here.0, here.1, puts_record tree changed node (flipped bytes offset) h.ordered written.4 refl refl at.node whole h.shape.long (written.3 some)),
    )

-- ---- a host

lacks_byte : (host : Host) (tree node offset : ℕ) (kept : Kept) → tree_at host tree ≡ Some kept → LacksByte kept node offset → IsByteless host tree node offset
lacks_byte host tree node offset kept shaped lacks other other_shaped =
    let same : kept ≡ other = cc in
    let P : Kept → Type 0 = λ k. LacksByte k node offset in
    subst P same lacks

pub was_flipped : (b : Bool) (old new : Host) (tree node offset : ℕ) (kept changed : Kept) → tree_at old tree ≡ Some kept → Keeps old tree changed new → (changed ≡ kept → new ≡ old)
    → MatchBool b (FlipsByte kept node offset changed) (LacksByte kept node offset) → (b ≡ false → changed ≡ kept)
    → MatchBool b (IsFlipped old tree node offset new) (IsByteless old tree node offset × (new ≡ old))
was_flipped true old new tree node offset kept changed shaped keeps unchanged h same =
    record { kept = kept; bytes = h.0; shaped = shaped; stored = h.1; within = h.2; put = record { kept = kept; changed = changed; shaped = shaped; puts = h.3; keeps = keeps } }
was_flipped false old new tree node offset kept changed shaped keeps unchanged h same = (lacks_byte old tree node offset kept shaped h, unchanged (same refl))
