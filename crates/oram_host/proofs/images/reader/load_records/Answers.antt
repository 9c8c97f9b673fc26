use Rattle.std.proofs.Common.{◌≡◌, ◌∷◌, [], ◌++◌, ◌<◌, ◌^◌, ◌≤◌, ◌+◌, ℕ, List, Err, length, ap, subst, sym, ◌∙◌, append_assoc, length-append, rules, arith}
use Rattle.std.specs.Int.{w32, to_be_bytes}
use Rattle.std.specs.Io.KnownBytes.{Consumes}
use Rattle.std.specs.List.{AllByRecursion, flat_map}
use Rattle.std.proofs.KnownBytes.{Consumes-trans}
use Rattle.std.proofs.lemmas.Result.{err_from_is_err_and}
use Rattle.oram_host.specs.declared.images.ImageFault.TheVariants.{Content}
use Rattle.oram_host.specs.Host.{IsRecordOf, RisesFrom}
use Rattle.oram_host.specs.Image.{record_text}
use Rattle.oram_host.specs.ImageReader.{next_entries, next_number, next_record}
use Rattle.oram_host.proofs.LoadedHosts.{all_push, flat_map-push, grown}
use Rattle.oram_host.proofs.FieldReads.{entries_fail, entries_first, fails_after, fails_first, fails_here, too_many}
use Rattle.oram_host.proofs.ReadImages.{record_again}
use Rattle.oram_host.proofs.RisingEntries.{RisesFrom-push, least_after, least_after-push}
use Rattle.oram_host.proofs.Transfers.{taken_twice}
use Rattle.oram_host.proofs.images.reader.load_records.Goals as goal

pub returns-in_err-count-clause-fault : goal.returns-in_err-count-clause-fault
returns-in_err-count-clause-fault g c =
    let p = err_from_is_err_and c.from_residual.result c.from_residual.ensures.1 in
    let why = c.in_err-count.field-0.0 in
    let nodes = c.args.nodes in
    let next = next_record nodes c.args.record_len in
    rw (p.1, p.2) (fails_first why _ next_number (next_entries nodes next) (λ text e. entries_first nodes next text why e) c.in_err-count.ensures.fault)

pub returns-then-count-nodes-clause-fault : goal.returns-then-count-nodes-clause-fault
returns-then-count-nodes-clause-fault g c =
    let nodes = c.args.nodes in
    let next = next_record nodes c.args.record_len in
    let count : ℕ = c.in_ok-count.count in
    let fits : count < 2 ^ 32 = search rules in
    fails_here Content _ _ (to_be_bytes w32 count) (next_entries nodes next) c.in_ok-count.ensures.ok (λ rest. too_many nodes next count rest fits c.if-count-nodes.true)

pub returns-in_err-node-clause-fault : goal.returns-in_err-node-clause-fault
returns-in_err-node-clause-fault g c =
    let p = err_from_is_err_and c.from_residual-in_err-node.result c.from_residual-in_err-node.ensures.1 in
    let why = c.in_err-node.field-0.0 in
    let nodes = c.args.nodes in
    let record_len = c.args.record_len in
    let next = next_record nodes record_len in
    let count : ℕ = c.in_ok-count.count in
    let fits : count < 2 ^ 32 = search rules in
    let inv = c.loop.invariant in
    let es = c.loop.records.entries in
    let more : length es < count = omega (arith, c.loop-test.true) in
    rw (p.1, p.2) (fails_after why _ _ (to_be_bytes w32 count ++ flat_map record_text es) (next c.loop.least) (next_entries nodes next) inv.taken
    (λ rest e. entries_fail nodes next record_text (IsRecordOf nodes record_len) (record_again nodes record_len (omega arith)) es count rest why fits c.if-count-nodes.false inv.rises inv.each more
    (subst (λ (least : ℕ). next_record nodes record_len least rest ≡ Err why) inv.next e)) c.in_err-node.ensures.fault)

pub loop-preserved : goal.loop-preserved
loop-preserved g c =
    let inv = c.loop.invariant in
    let es = c.loop.records.entries in
    let node : ℕ = c.in_ok-node.node in
    let bytes : List ℕ = c.in_ok-node.bytes in
    let count : ℕ = c.in_ok-count.count in
    let above : least_after 0 es ≤ node = omega (arith, inv.next, c.in_ok-node.ensures.rises) in
    let longer : c.insert.new.self.entries ≡ es ++ (node, bytes) ∷ [] = grown c.loop.records c.insert.new.self node bytes c.in_ok-insert.ensures.entries inv.rises above in
    let text : (to_be_bytes w32 count ++ flat_map record_text es) ++ record_text (node, bytes) ≡ to_be_bytes w32 count ++ flat_map record_text c.insert.new.self.entries =
    append_assoc (to_be_bytes w32 count) (flat_map record_text es) (record_text (node, bytes))
    ∙ ap (λ (t : List ℕ). to_be_bytes w32 count ++ t) (sym (flat_map-push record_text es (node, bytes)) ∙ ap (flat_map record_text) (sym longer)) in
    let Rises : List (ℕ × List ℕ) → Type 0 = λ xs. RisesFrom 0 xs in
    let All : List (ℕ × List ℕ) → Type 0 = λ xs. AllByRecursion (IsRecordOf c.args.nodes c.args.record_len) xs in
    record {
      taken = subst (Consumes _ _) text (Consumes-trans _ _ _ _ _ inv.taken c.in_ok-node.ensures.ok);
      many = ap length longer ∙ length-append es ((node, bytes) ∷ []) ∙ ap (λ (n : ℕ). n + 1) inv.many;
      rises = subst Rises (sym longer) (RisesFrom-push es 0 node bytes inv.rises above);
      next = sym (ap (least_after 0) longer ∙ least_after-push es 0 node bytes);
      each = subst All (sym longer) (all_push (IsRecordOf c.args.nodes c.args.record_len) es (node, bytes) inv.each c.in_ok-node.ensures.record);
      ordered = c.insert.ensures.ordered;
    }

pub returns-in_err-node-clause-consumed : goal.returns-in_err-node-clause-consumed
returns-in_err-node-clause-consumed g c = taken_twice _ _ _ (_, c.loop.invariant.taken) c.load_record.ensures.consumed

pub returns-in_err-insert-clause-consumed : goal.returns-in_err-insert-clause-consumed
returns-in_err-insert-clause-consumed g c = taken_twice _ _ _ (_, c.loop.invariant.taken) c.load_record.ensures.consumed

pub returns-clause-consumed : goal.returns-clause-consumed
returns-clause-consumed g c = (_, c.loop.invariant.taken)
