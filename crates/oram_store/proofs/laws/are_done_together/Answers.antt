use Rattle.std.proofs.Common.{◌≡◌, ℕ, true, [], ◌∷◌, sym, ◌∙◌, arith}
use Rattle.std.specs.Prelude.{◌==◌}
use Rattle.std.proofs.lemmas.Bool.Decides.{nat_tests}
use Rattle.oram_store.specs.FirstAnswers.{AnswersFirst}
use Rattle.oram_store.specs.GroupRuns.{both_done}
use Rattle.oram_wire.specs.HostMessages.{request_body}
use Rattle.oram_wire.specs.declared.host_messages.HostAnswer.TheVariants as answer
use Rattle.oram_store.proofs.FirstGroup.{are_requests, as_group, both_answered, both_found, is_answered}
use Rattle.oram_store.proofs.GroupRuns.{in_turn}
use Rattle.oram_store.proofs.laws.are_done_together.Given as given
use Rattle.oram_store.proofs.laws.are_done_together.Goals as goal
use Rattle.oram_store.proofs.laws.are_done_together.Goals.{then-count-eq2, else-count-eq2}

is_two : (n : ℕ) → (n == 2) ≡ true → n ≡ 2
is_two n e = grind (arith, nat_tests)

both : (g : given.Over) (c : goal.After-array_drop-bodies-2 g) → c.if-count-eq2.result ≡ true
    → AnswersFirst g.F.FilePair.model (request_body c.args.first.now ∷ request_body c.args.second.now ∷ []) answer.Done c.args.store.now c.answer_group.new.self
both g c done = elim c.if-count-eq2.branch [
  | then-count-eq2 w ↦ (
      let said = c.in_ok-count.ensures.ok in
      both_answered g.F.FilePair.model c.args.first.now c.args.second.now c.requires.0 c.requires.1 c.args.store.now c.answer_group.new.self
      c.in_ok-encode.field-0.items c.in_ok-encode-2.field-0.items c.in_ok-count.count c.in_ok-count.answer.items said.0
      c.in_ok-encode.ensures c.in_ok-encode-2.ensures w.if-count-eq2.true
      (sym w.deref.ensures.value ∙ w.is_done.ensures.0 (sym w.result-is ∙ done)) said.1 said.2 said.3)
  | else-count-eq2 w ↦ absurd (w.if-count-eq2.false (is_two c.in_ok-count.count (sym w.result-is ∙ done)))
]

pub returns-clause-run : goal.returns-clause-run
returns-clause-run g c done honest sound =
    let model = g.F.FilePair.model in
    let first = c.args.first.now in
    let second = c.args.second.now in
    let requests = are_requests model first second c.requires.0 c.requires.1 c.args.store.now c.answer_group.new.self in
    let answered = is_answered model first second c.requires.0 c.requires.1 c.args.store.now c.answer_group.new.self (both g c done) c.answer_group.ensures.runs in
    record {
      requests = requests;
      answered = answered;
      sound = sound;
      in_turn = in_turn model g.met.F.FilePair.only_now g.met.F.FilePair.counts_now g.met.F.FilePair.whole (both_done first second) c.args.store.now c.answer_group.new.self requests answered honest sound;
    }

pub returns-clause-found : goal.returns-clause-found
returns-clause-found g c done honest sound blank left now =
    let model = g.F.FilePair.model in
    let first = c.args.first.now in
    let second = c.args.second.now in
    let together = as_group model first second c.requires.0 c.requires.1 c.args.store.now c.answer_group.new.self answer.Done (both g c done) in
    both_found model first second c.requires.0 c.requires.1 c.args.store.now c.answer_group.new.self together honest sound blank left now
