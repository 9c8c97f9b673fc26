use Rattle.std.proofs.Common.{◌≡◌, ◌++◌, [], ℕ, List, Some, true, refl, ap, sym, ◌∙◌, append_assoc, append-nil, length-append, arith, rules}
use Rattle.oram_host.proofs.Paths.{length_more}
use Rattle.oram_layout.specs.Records.{record_in}
use Rattle.oram_layout.proofs.Contents.{content_is}
use Rattle.oram_redo.specs.Content.{Content}
use Rattle.oram_redo.specs.declared.file_pair.FileKind.TheVariants.{Records}
use Rattle.oram_store.specs.Batches.{records_of_tree}
use Rattle.oram_store.proofs.Crashes.{calls_residual, runs_none, runs_then}
use Rattle.oram_store.proofs.Levels.{read_more}
use Rattle.oram_store.proofs.Sound.{reads_nothing, reads_then}
use Rattle.oram_store.proofs.cells.read_levels.Goals as goal

pub loop-count-init : goal.loop-count-init
loop-count-init g c = record {
  rest = [];
  grown = sym (append-nil c.args.bytes.now.items);
  whole = omega arith;
  reads = reads_nothing g.F.FilePair.model c.args.file.now (g.met.F.FilePair.only_now c.args.file.now.files);
  runs = runs_none g.F.FilePair.model c.args.file.now;
  same = refl;
  running = λ some. absurd (omega arith);
  each = λ honest k below. absurd (omega arith);
}

pub loop-count-preserved : goal.loop-count-preserved
loop-count-preserved g c =
    let inv = c.loop-count.invariant in
    let mid = c.loop-count.file in
    let call = c.read_record.ensures in
    let len : ℕ = c.args.tree.now.shape.record_len in
    let model = g.F.FilePair.model in
    let same : model.seen mid.files Records ≡ model.seen c.args.file.now.files Records = content_is (model.seen c.args.file.now.files Records) (model.seen mid.files Records) (inv.reads.nothing.seen_same Records) in
    let found : c.in_ok-read_record.field-0 ≡ true = search rules in
    let onto = c.in_ok-read_record.ensures.found in
    record {
      rest = inv.rest ++ onto.more;
      grown = onto.grown ∙ ap (λ (xs : List ℕ). xs ++ onto.more) inv.grown ∙ append_assoc c.args.bytes.now.items inv.rest onto.more;
      whole = length-append inv.rest onto.more ∙ length_more len c.loop-count.count inv.rest onto.more inv.whole onto.long;
      reads = reads_then model c.args.file.now mid c.read_record.new.file inv.reads call.reads;
      runs = runs_then model c.args.file.now mid c.read_record.new.file inv.runs call.calls.runs;
      same = c.in_ok-read_record.ensures.calls.goes_on ∙ inv.same;
      running = λ some. c.in_ok-read_record.ensures.running;
      each = λ honest. let was = call.calls.runs.after.honest honest in
          read_more (records_of_tree c.args.tree.now (model.seen c.args.file.now.files Records)) 0 c.args.tree.now.shape.depth c.args.leaf c.args.first len c.loop-count.count c.node_at-node.result inv.rest onto.more inv.whole onto.long
          c.node_at-node.ensures.place (ap (λ (x : Content). record_in (Some c.args.tree.now) c.node_at-node.result x) (sym same) ∙ onto.is (found, honest)) (inv.each was);
    }

pub returns-in_err-read_record-clause-calls : goal.returns-in_err-read_record-clause-calls
returns-in_err-read_record-clause-calls g c =
    calls_residual g.F.FilePair.model c.from_residual.result c.in_err-read_record.field-0.0 c.args.file.now c.loop-count.file c.read_record.new.file
    c.from_residual.ensures.1 c.loop-count.invariant.runs c.loop-count.invariant.same c.in_err-read_record.ensures.calls
