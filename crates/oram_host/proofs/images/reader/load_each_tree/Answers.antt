use Rattle.std.proofs.Common.{◌≡◌, ◌∷◌, [], ◌++◌, ◌<◌, ◌^◌, ◌≤◌, ◌+◌, ℕ, List, Err, length, ap, subst, sym, ◌∙◌, append_assoc, length-append, rules, arith}
use Rattle.std.specs.Int.{w32, to_be_bytes}
use Rattle.std.specs.Io.KnownBytes.{Consumes}
use Rattle.std.specs.List.{flat_map}
use Rattle.std.proofs.KnownBytes.{Consumes-trans}
use Rattle.std.proofs.lemmas.Result.{err_from_is_err_and}
use Rattle.oram_host.specs.declared.images.ImageFault.TheVariants.{Content}
use Rattle.oram_host.specs.declared.trees.Tree.{Tree}
use Rattle.oram_host.specs.Host.{IsKeptTree}
use Rattle.oram_host.specs.Image.{tree_text}
use Rattle.oram_host.specs.ImageReader.{next_entries, next_number, next_tree}
use Rattle.oram_host.specs.Trees.{host_of, kept_by}
use Rattle.oram_host.proofs.Hosts.{trees_added}
use Rattle.oram_host.proofs.LoadedHosts.{flat_map-push, host_grown, is_host}
use Rattle.oram_host.proofs.FieldReads.{entries_fail, entries_first, fails_after, fails_first, fails_here, too_many}
use Rattle.oram_host.proofs.ReadImages.{tree_again}
use Rattle.oram_host.proofs.RisingEntries.{least_after, least_after-push}
use Rattle.oram_host.proofs.Transfers.{taken_twice}
use Rattle.oram_host.proofs.images.reader.load_each_tree.Goals as goal

pub returns-in_err-count-clause-fault : goal.returns-in_err-count-clause-fault
returns-in_err-count-clause-fault g c =
    let p = err_from_is_err_and c.from_residual.result c.from_residual.ensures.1 in
    let why = c.in_err-count.field-0.0 in
    rw (p.1, p.2) (fails_first why _ next_number (next_entries 256 next_tree) (λ text e. entries_first 256 next_tree text why e) c.in_err-count.ensures.fault)

pub returns-then-count-gt-MOST_TREES-clause-fault : goal.returns-then-count-gt-MOST_TREES-clause-fault
returns-then-count-gt-MOST_TREES-clause-fault g c =
    let count : ℕ = c.in_ok-count.count in
    let fits : count < 2 ^ 32 = search rules in
    fails_here Content _ _ (to_be_bytes w32 count) (next_entries 256 next_tree) c.in_ok-count.ensures.ok (λ rest. too_many 256 next_tree count rest fits (omega arith))

pub returns-in_err-number-clause-fault : goal.returns-in_err-number-clause-fault
returns-in_err-number-clause-fault g c =
    let p = err_from_is_err_and c.from_residual-in_err-number.result c.from_residual-in_err-number.ensures.1 in
    let why = c.in_err-number.field-0.0 in
    let count : ℕ = c.in_ok-count.count in
    let fits : count < 2 ^ 32 = search rules in
    let inv = c.loop.invariant in
    let host = host_of c.loop.trees in
    let kept = is_host c.loop.trees inv.trees in
    let few : count ≤ 256 = omega arith in
    let more : length host < count = omega (arith, c.loop-test.true, inv.many) in
    rw (p.1, p.2) (fails_after why _ _ (to_be_bytes w32 count ++ flat_map tree_text host) (next_tree c.loop.least) (next_entries 256 next_tree) inv.taken
    (λ rest e. entries_fail 256 next_tree tree_text IsKeptTree tree_again host count rest why fits few kept.rising kept.each more (subst (λ (least : ℕ). next_tree least rest ≡ Err why) inv.next e))
    c.in_err-number.ensures.fault)

pub loop-preserved : goal.loop-preserved
loop-preserved g c =
    let inv = c.loop.invariant in
    let host = host_of c.loop.trees in
    let kept = is_host c.loop.trees inv.trees in
    let number : ℕ = c.in_ok-number.number in
    let tree : Tree = c.in_ok-number.tree in
    let count : ℕ = c.in_ok-count.count in
    let above : least_after 0 host ≤ number = omega (arith, inv.next, c.in_ok-number.ensures.rises) in
    let new = c.insert.new.self in
    let longer : host_of new ≡ host ++ (number, kept_by tree) ∷ [] = host_grown c.loop.trees new number tree c.in_ok-insert.ensures.entries inv.trees above in
    let text : (to_be_bytes w32 count ++ flat_map tree_text host) ++ tree_text (number, kept_by tree) ≡ to_be_bytes w32 count ++ flat_map tree_text (host_of new) =
    append_assoc (to_be_bytes w32 count) (flat_map tree_text host) (tree_text (number, kept_by tree))
    ∙ ap (λ (t : List ℕ). to_be_bytes w32 count ++ t) (sym (flat_map-push tree_text host (number, kept_by tree)) ∙ ap (flat_map tree_text) (sym longer)) in
    record {
      taken = subst (Consumes _ _) text (Consumes-trans _ _ _ _ _ inv.taken c.in_ok-number.ensures.ok);
      many = ap length longer ∙ length-append host ((number, kept_by tree) ∷ []) ∙ ap (λ (n : ℕ). n + 1) inv.many;
      next = ap (λ (n : ℕ). n + 1) c.from-least.ensures ∙ sym (ap (least_after 0) longer ∙ least_after-push host 0 number (kept_by tree));
      trees = trees_added c.loop.trees new number tree inv.trees c.in_ok-insert.ensures.entries c.insert.ensures.ordered c.in_ok-number.ensures.tree (search rules);
    }

pub returns-in_err-number-clause-consumed : goal.returns-in_err-number-clause-consumed
returns-in_err-number-clause-consumed g c = taken_twice _ _ _ (_, c.loop.invariant.taken) c.load_tree.ensures.consumed

pub returns-in_err-insert-clause-consumed : goal.returns-in_err-insert-clause-consumed
returns-in_err-insert-clause-consumed g c = taken_twice _ _ _ (_, c.loop.invariant.taken) c.load_tree.ensures.consumed

pub returns-clause-consumed : goal.returns-clause-consumed
returns-clause-consumed g c = (_, c.loop.invariant.taken)
