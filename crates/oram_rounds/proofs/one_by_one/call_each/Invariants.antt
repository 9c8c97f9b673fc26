use Rattle.std.proofs.Common.{◌≡◌, length, take}
use Rattle.oram_link_laws.specs.Runs.{LinkRun}
use Rattle.oram_rounds.specs.Batches.{answered, texts}
use Rattle.oram_rounds.proofs.one_by_one.call_each.Given as goal

abbrev pub invariant-loop-body : goal.invariant-loop-body
invariant-loop-body g l = record {
  count : length (texts l.answers.items) ≡ length (take l.body-index (texts l.bodies));
  ran : LinkRun g.L.Link.calls l.initial.link (answered (take l.body-index (texts l.bodies)) (texts l.answers.items)) l.link;
}
