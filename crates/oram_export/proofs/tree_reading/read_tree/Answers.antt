use Rattle.std.proofs.Common.{◌≡◌, ◌+◌, ◌-◌, ◌*◌, ◌<◌, List, min, Ok, Err, arith, ap, sym, ◌∙◌, refl, subst, length}
use Rattle.std.specs.List.{FoldsTo}
use Rattle.oram_rounds.specs.Batches.{BatchOutcome, texts}
use Rattle.oram_rounds.proofs.Tries.{on_err}
use Rattle.oram_scan.specs.Laws.{Row}
use Rattle.oram_export.specs.Reading.{IsRead, sound_in}
use Rattle.oram_export.specs.Requests.{AsksNext, IsRequests, batch_count}
use Rattle.oram_export.specs.Stages.{IsFurther}
use Rattle.oram_export.specs.declared.batches.Requests.{Requests}
use Rattle.oram_export.proofs.Asked.{requests_fit}
use Rattle.oram_export.proofs.WholeTrees.{next_answered, next_carried, nothing_read, one_batch_more, requests_to, stopped_ahead, stopped_here, whole_read}
use Rattle.oram_export.proofs.tree_reading.read_tree.Goals as goal

pub ask_next-requires : goal.ask_next-requires
ask_next-requires g c =
    let tree = c.args.tree.now in
    record { requests = subst IsRequests (sym c.requests_of-requests.ensures) (requests_fit tree.tree tree.depth tree.record_len c.requires.depth c.requires.short) }

pub batch_count-index-end-requires : goal.batch_count-index-end-requires
batch_count-index-end-requires g c =
    let tree = c.args.tree.now in
    subst IsRequests (sym c.requests_of-requests.ensures) (requests_fit tree.tree tree.depth tree.record_len c.requires.depth c.requires.short)

pub ask_next-requires-in-loop-index : goal.ask_next-requires-in-loop-index
ask_next-requires-in-loop-index g c =
    let tree = c.args.tree.now in
    record { requests = subst IsRequests (sym c.requests_of-requests.ensures) (requests_fit tree.tree tree.depth tree.record_len c.requires.depth c.requires.short) }

pub loop-index-init : goal.loop-index-init
loop-index-init g c =
    let asks = g.B.PipelinedLink.asks in
    let bodies = texts c.in_ok-bodies.bodies.items in
    record {
      link = c.args.link.now;
      read = nothing_read g.B.BatchLink.batches (g.V.RecordVisitor.sees c.args.visitor.now) c.args.tree.now c.args.link.now c.args.target.now c.in_ok-progress.progress c.requires.depth c.requires.long
          c.in_ok-progress.ensures.scan c.in_ok-progress.ensures.findings;
      ahead = subst (λ (r : Requests). AsksNext asks r 0 c.args.link.now bodies c.ask_next.new.link) c.requests_of-requests.ensures c.in_ok-bodies.ensures.ok;
    }

pub returns-in_err-answers-clause-err : goal.returns-in_err-answers-clause-err
returns-in_err-answers-clause-err g c =
    let batches = g.B.BatchLink.batches in
    let asks = g.B.PipelinedLink.asks in
    let sees = g.V.RecordVisitor.sees c.args.visitor.now in
    let tree = c.args.tree.now in
    let k = c.loop-index.index in
    let end : c.batch_count-index-end.result ≡ batch_count (requests_to tree) = c.batch_count-index-end.ensures ∙ ap batch_count c.requests_of-requests.ensures in
    let below : k < batch_count (requests_to tree) = let test = c.loop-index-test.true in omega (arith, test, end) in
    let sent = texts c.deref.result.now in
    let bodies = texts c.loop-index.bodies.items in
    let same : sent ≡ bodies = ap texts c.deref.ensures.value in
    let o : BatchOutcome = Err c.in_err-answers.field-0.0 in
    let carried = next_carried batches tree asks sees c.args.link.now c.args.target.now k c.loop-index.progress bodies c.loop-index.link c.answers.new.self c.loop-index.target sent o
    c.loop-index.invariant below same c.in_err-answers.ensures in
    on_err c.from_residual-in_err-answers.result (stopped_here batches tree asks c.args.link.now (k + 1) c.answers.new.self c.answers.new.self carried (omega (arith, below)) refl)

pub returns-in_err-bodies-2-clause-err : goal.returns-in_err-bodies-2-clause-err
returns-in_err-bodies-2-clause-err g c =
    let batches = g.B.BatchLink.batches in
    let asks = g.B.PipelinedLink.asks in
    let sees = g.V.RecordVisitor.sees c.args.visitor.now in
    let tree = c.args.tree.now in
    let k = c.loop-index.index in
    let end : c.batch_count-index-end.result ≡ batch_count (requests_to tree) = c.batch_count-index-end.ensures ∙ ap batch_count c.requests_of-requests.ensures in
    let below : k < batch_count (requests_to tree) = let test = c.loop-index-test.true in omega (arith, test, end) in
    let sent = texts c.deref.result.now in
    let bodies = texts c.loop-index.bodies.items in
    let same : sent ≡ bodies = ap texts c.deref.ensures.value in
    let o : BatchOutcome = Ok (texts c.in_ok-answers.answers.items) in
    let carried = next_carried batches tree asks sees c.args.link.now c.args.target.now k c.loop-index.progress bodies c.loop-index.link c.answers.new.self c.loop-index.target sent o
    c.loop-index.invariant below same c.in_ok-answers.ensures in
    on_err c.from_residual-in_err-bodies-2.result
    (stopped_here batches tree asks c.args.link.now (k + 1) c.answers.new.self c.ask_next-in-loop-index.new.link carried (omega (arith, below)) c.in_err-bodies-2.ensures.err)

pub returns-in_err-take_answers-clause-err : goal.returns-in_err-take_answers-clause-err
returns-in_err-take_answers-clause-err g c =
    let batches = g.B.BatchLink.batches in
    let asks = g.B.PipelinedLink.asks in
    let sees = g.V.RecordVisitor.sees c.args.visitor.now in
    let tree = c.args.tree.now in
    let k = c.loop-index.index in
    let end : c.batch_count-index-end.result ≡ batch_count (requests_to tree) = c.batch_count-index-end.ensures ∙ ap batch_count c.requests_of-requests.ensures in
    let below : k < batch_count (requests_to tree) = let test = c.loop-index-test.true in omega (arith, test, end) in
    let sent = texts c.deref.result.now in
    let bodies = texts c.loop-index.bodies.items in
    let same : sent ≡ bodies = ap texts c.deref.ensures.value in
    let o : BatchOutcome = Ok (texts c.in_ok-answers.answers.items) in
    let carried = next_carried batches tree asks sees c.args.link.now c.args.target.now k c.loop-index.progress bodies c.loop-index.link c.answers.new.self c.loop-index.target sent o
    c.loop-index.invariant below same c.in_ok-answers.ensures in
    let more = texts c.in_ok-bodies-2.bodies.items in
    let ahead = subst (λ (r : Requests). AsksNext asks r (k + 1) c.answers.new.self more c.ask_next-in-loop-index.new.link) c.requests_of-requests.ensures c.in_ok-bodies-2.ensures.ok in
    on_err c.from_residual-in_err-take_answers.result
    (stopped_ahead batches tree asks c.args.link.now (k + 1) c.answers.new.self c.ask_next-in-loop-index.new.link more carried (omega (arith, below)) ahead)

pub loop-index-preserved : goal.loop-index-preserved
loop-index-preserved g c =
    let batches = g.B.BatchLink.batches in
    let asks = g.B.PipelinedLink.asks in
    let sees = g.V.RecordVisitor.sees c.args.visitor.now in
    let tree = c.args.tree.now in
    let k = c.loop-index.index in
    let end : c.batch_count-index-end.result ≡ batch_count (requests_to tree) = c.batch_count-index-end.ensures ∙ ap batch_count c.requests_of-requests.ensures in
    let below : k < batch_count (requests_to tree) = let test = c.loop-index-test.true in omega (arith, test, end) in
    let sent = texts c.deref.result.now in
    let bodies = texts c.loop-index.bodies.items in
    let same : sent ≡ bodies = ap texts c.deref.ensures.value in
    let answers = texts c.in_ok-answers.answers.items in
    let o : BatchOutcome = Ok answers in
    let before = c.loop-index.invariant in
    let next = next_answered batches tree asks sees c.args.link.now c.args.target.now k c.loop-index.progress bodies c.loop-index.link c.answers.new.self c.loop-index.target sent o
    before below same c.in_ok-answers.ensures in
    let asked = c.requests_of-requests.ensures in
    let more = texts c.in_ok-bodies-2.bodies.items in
    let fit = requests_fit tree.tree tree.depth tree.record_len c.requires.depth c.requires.short in
    let count = (g.met.B.BatchLink.are_batches before.link c.answers.new.self sent o next.1.0 next.1.1).0 in
    let further = subst (λ (r : Requests). IsFurther c.loop-index.progress c.take_answers.new.progress (min (length answers * r.most) (r.nodes - c.loop-index.progress.scan.node))) asked c.in_ok-take_answers.ensures.next in
    record {
      link = c.answers.new.self;
      read = one_batch_more batches sees tree c.args.link.now c.args.target.now k c.loop-index.progress c.take_answers.new.progress before.link c.answers.new.self c.loop-index.target c.take_answers.new.target
          sent answers before.read fit.some below next.0 count next.1 c.in_ok-take_answers.ensures.ok further;
      ahead = subst (λ (r : Requests). AsksNext asks r (k + 1) c.answers.new.self more c.ask_next-in-loop-index.new.link) asked c.in_ok-bodies-2.ensures.ok;
    }

pub returns-clause-ok : goal.returns-clause-ok
returns-clause-ok g c =
    let batches = g.B.BatchLink.batches in
    let asks = g.B.PipelinedLink.asks in
    let sees = g.V.RecordVisitor.sees c.args.visitor.now in
    let tree = c.args.tree.now in
    let k = c.loop-index.index in
    let before = c.loop-index.invariant in
    let end : c.batch_count-index-end.result ≡ batch_count (requests_to tree) = c.batch_count-index-end.ensures ∙ ap batch_count c.requests_of-requests.ensures in
    let fit = requests_fit tree.tree tree.depth tree.record_len c.requires.depth c.requires.short in
    let all : k ≡ batch_count (requests_to tree) = let test = c.loop-index-test.false in let within = c.loop-index.auto.index-end in omega (arith, test, within, end) in
    let last : c.loop-index.link ≡ before.link = before.ahead.none (omega (arith, all)) in
    subst (λ m. (rows : List Row) × IsRead batches tree c.args.link.now rows c.loop-index.progress.findings m × FoldsTo sees c.args.target.now (sound_in rows) c.loop-index.target) (sym last)
    (whole_read batches sees tree c.args.link.now c.args.target.now k c.loop-index.progress before.link c.loop-index.target fit.some all before.read)
