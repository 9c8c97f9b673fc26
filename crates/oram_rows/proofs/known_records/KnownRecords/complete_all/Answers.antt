use Rattle.std.proofs.Common.{◌+◌, ◌++◌, ◌∷◌, [], ℕ, ap, sym, ◌∙◌, length-append}
use Rattle.oram_rounds.specs.Batches.{texts}
use Rattle.oram_near.specs.EmptyRecords.{made_with}
use Rattle.oram_rows.specs.Rows.{client_of}
use Rattle.oram_rows.proofs.CompletedAll.{one_more}
use Rattle.oram_rows.proofs.known_records.KnownRecords.complete_all.Goals as goal

pub loop-answer-preserved : goal.loop-answer-preserved
loop-answer-preserved g c =
    let client = client_of (made_with g.E.EmptyRecords.record_at) c.args.self.now in
    let before = c.loop-answer.yielded in
    record {
      count = c.in_ok-push.ensures.len ∙ ap (λ (n : ℕ). n + 1) c.loop-answer.invariant.count ∙ sym (length-append before (c.in-Some.answer ∷ []));
      completed = one_more client (texts c.args.first.now ++ texts c.args.last.now) before c.loop-answer.given.items c.push.new.self.items c.in-Some.answer c.in_ok-complete.field-0 c.body_at-body.result.now
          c.len-in-loop-answer.result (c.len-in-loop-answer.ensures ∙ c.loop-answer.invariant.count) c.loop-answer.invariant.completed c.body_at-body.ensures c.in_ok-complete.ensures c.in_ok-push.ensures.items;
    }
