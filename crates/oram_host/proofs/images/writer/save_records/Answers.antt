use Rattle.std.proofs.Common.{◌≡◌, ◌∷◌, ◌++◌, ◌<◌, ◌∙◌, [], ap, filter, sym, length, ℕ, List, rules}
use Rattle.std.specs.List.{flat_map}
use Rattle.std.specs.Map.Iter.{deref_pair}
use Rattle.std.proofs.KnownBytes.{Appends-nil, Appends-trans}
use Rattle.std.proofs.lemmas.Map.Iter.{rest_more}
use Rattle.oram_host.specs.Image.{record_text}
use Rattle.oram_host.specs.Transfers.{Begins}
use Rattle.oram_host.specs.Trees.{is_there, records_in}
use Rattle.oram_host.proofs.ImageTexts.{record_more}
use Rattle.oram_host.proofs.Records.{not_empty_from}
use Rattle.oram_host.proofs.Transfers.{begun, begun_next}
use Rattle.oram_host.proofs.images.writer.save_records.Goals as goal

pub loop-node-init : goal.loop-node-init
loop-node-init g c =
    let begun : c.into_iter-node-iterator.result ≡ c.args.records.now.entries = search rules in
    ([], Appends-nil _, ap (λ (es : List (ℕ × List ℕ)). flat_map record_text (filter (λ e. is_there e.1) es)) begun)

pub loop-node-preserved-in-Continue-1 : goal.loop-node-preserved-in-Continue-1
loop-node-preserved-in-Continue-1 g c =
    let inv = c.loop-node.invariant in
    let node = c.in-Some.node.now in
    let bytes = c.in-Some.bytes.now in
    let split : c.loop-node.node-iterator ≡ (node, bytes) ∷ c.next.new.self = rest_more (deref_pair {K = ℕ} {X = List ℕ}) c.loop-node.node-iterator c.next.new.self c.next.result (c.in-Some.node, c.in-Some.bytes) c.in-Some.is c.next.ensures.steps in
    let long : 0 < length bytes = not_empty_from bytes c.is_empty.result (search rules) (search rules) in
    let before = ap (λ (es : List (ℕ × List ℕ)). inv.0 ++ flat_map record_text (filter (λ e. is_there e.1) es)) split in
    (inv.0 ++ record_text (node, bytes), Appends-trans _ _ _ _ _ inv.1 (search rules), record_more inv.0 (node, bytes) c.next.new.self _ long (sym before ∙ inv.2))

pub returns-in_err-save_record-clause-begun : goal.returns-in_err-save_record-clause-begun
returns-in_err-save_record-clause-begun g c =
    let inv = c.loop-node.invariant in
    let node = c.in-Some.node.now in
    let bytes = c.in-Some.bytes.now in
    let split : c.loop-node.node-iterator ≡ (node, bytes) ∷ c.next.new.self = rest_more (deref_pair {K = ℕ} {X = List ℕ}) c.loop-node.node-iterator c.next.new.self c.next.result (c.in-Some.node, c.in-Some.bytes) c.in-Some.is c.next.ensures.steps in
    let long : 0 < length bytes = not_empty_from bytes c.is_empty.result (search rules) (search rules) in
    let before = ap (λ (es : List (ℕ × List ℕ)). inv.0 ++ flat_map record_text (filter (λ e. is_there e.1) es)) split in
    let piece : Begins (g.W.Write.contents c.loop-node.writer) (g.W.Write.contents c.save_record.new.writer) (record_text (node, bytes)) = (c.save_record.ensures.begun.0, search rules) in
    begun_next _ _ _ inv.0 (record_text (node, bytes)) (flat_map record_text (filter (λ e. is_there e.1) c.next.new.self)) (flat_map record_text (records_in c.args.records.now)) inv.1 piece
    (record_more inv.0 (node, bytes) c.next.new.self _ long (sym before ∙ inv.2))

pub returns-clause-begun : goal.returns-clause-begun
returns-clause-begun g c =
    let inv = c.loop-node.invariant in
    begun _ _ inv.0 (flat_map record_text (filter (λ e. is_there e.1) c.loop-node.node-iterator)) (flat_map record_text (records_in c.args.records.now)) inv.1 inv.2
