use Rattle.std.proofs.Common.{◌≡◌, inl, inr, ℕ, List, All, length, refl, sym, ap, ◌∙◌, subst, arith}
use Rattle.std.proofs.lemmas.Result.{on_ok_weaker, MatchResult-weaker}
use Rattle.std.specs.Io.KnownBytes.{Appends}
use Rattle.oram_nbd.specs.Operations.{IsPlaced, IsWithin}
use Rattle.oram_nbd.specs.Streams.{IsBegunText}
use Rattle.oram_nbd.specs.declared.faults.DiskFault.TheVariants.{Failed, Interrupted, OutOfMemory, Stopped}
use Rattle.oram_nbd.specs.declared.faults.NbdError.TheVariants.{Io, NoMemory, Shutdown}
use Rattle.oram_nbd.specs.declared.operations.Operation.{Operation}
use Rattle.oram_nbd.proofs.Gathered.{all_answered, all_begun, all_refused, all_placed, all_within, answered_requests, at_size, begun_at_size, collected_as, many_given, refused_at_rest, refused_requests, text_answered, text_refused}
use Rattle.oram_nbd.proofs.Beside.{weaker}
use Rattle.oram_nbd.proofs.transmission.carry_out_batch.Goals as goal

pub returns-then-not-is_any_accepted-clause-ok : goal.returns-then-not-is_any_accepted-clause-ok
returns-then-not-is_any_accepted-clause-ok g c =
    let n = c.args.sizes.size in
    let reqs = c.args.batch.now.requests.items in
    let ops = c.args.batch.now.operations.items in
    on_ok_weaker c.put_refusals.result (λ wrote arrived collected. (
      refused_requests n arrived c.uncalled_error.result,
      at_size c.requires.size (refused_at_rest n c.args.disk.now arrived c.uncalled_error.result (λ may_lie world bytes h. c.blocks-blocks.ensures.held may_lie world bytes h ∙ sym c.requires.size) c.uncalled_error.ensures.honest c.uncalled_error.ensures.error collected.all),
      subst (Appends (g.W.Write.contents c.args.writer.now) (g.W.Write.contents c.put_refusals.new.writer)) (text_refused n arrived c.uncalled_error.result reqs _ collected.same c.deref-then-not-is_any_accepted.ensures.value) wrote,
    )) c.put_refusals.ensures.ok

pub returns-then-not-is_any_accepted-clause-err : goal.returns-then-not-is_any_accepted-clause-err
returns-then-not-is_any_accepted-clause-err g c =
    let n = c.args.sizes.size in
    let reqs = c.args.batch.now.requests.items in
    let ops = c.args.batch.now.operations.items in
    MatchResult-weaker c.put_refusals.result c.put_refusals.ensures.err (λ x h. tt) (λ f wrote arrived collected. inl (
      wrote.0,
      (
        refused_requests n arrived c.uncalled_error.result,
        at_size c.requires.size (refused_at_rest n c.args.disk.now arrived c.uncalled_error.result (λ may_lie world bytes h. c.blocks-blocks.ensures.held may_lie world bytes h ∙ sym c.requires.size) c.uncalled_error.ensures.honest c.uncalled_error.ensures.error collected.all),
        subst (IsBegunText (g.W.Write.contents c.args.writer.now) (g.W.Write.contents c.put_refusals.new.writer)) (text_refused n arrived c.uncalled_error.result reqs _ collected.same c.deref-then-not-is_any_accepted.ensures.value) wrote.1,
      ),
    ))

pub carry_out_all-requires-clause-within : goal.carry_out_all-requires-clause-within
carry_out_all-requires-clause-within g c =
    let k = c.requires.collected in
    subst (λ (size : ℕ). All (IsWithin size) c.deref-2.result.now) c.requires.size
    (subst (λ (os : List Operation). All (IsWithin c.args.sizes.size) os) (sym c.deref-2.ensures.value) (all_within c.args.sizes.size k.0 _ k.1.served))

pub carry_out_all-requires-clause-placed : goal.carry_out_all-requires-clause-placed
carry_out_all-requires-clause-placed g c =
    let k = c.requires.collected in
    subst (λ (os : List Operation). All IsPlaced os) (sym c.deref-2.ensures.value) (all_placed c.args.sizes.size k.0 _ k.1.served)

pub put_answers-requires : goal.put_answers-requires
put_answers-requires g c =
    let k = c.requires.collected in
    ap length c.deref-in-Ok-2.ensures.value
    ∙ many_given c.args.sizes.size k.0 _ c.deref-2.result.now c.in-Ok.given.items (collected_as _ k.0 _ _ _ c.deref-2.ensures.value k.1) c.in-Ok.ensures.len ∙ sym (ap length c.deref-in-Ok.ensures.value)

pub returns-in-Ok-clause-ok : goal.returns-in-Ok-clause-ok
returns-in-Ok-clause-ok g c =
    let n = c.args.sizes.size in
    let reqs = c.args.batch.now.requests.items in
    let ops = c.args.batch.now.operations.items in
    on_ok_weaker c.put_answers.result (λ wrote arrived collected. (
      answered_requests n arrived c.in-Ok.given.items,
      at_size c.requires.size (all_answered n c.args.disk.now c.carry_out_all.new.disk arrived (λ may_lie world bytes h. c.blocks-blocks.ensures.held may_lie world bytes h ∙ sym c.requires.size) reqs c.deref-2.result.now
          c.in-Ok.given.items (collected_as n arrived reqs ops _ c.deref-2.ensures.value collected) c.in-Ok.ensures.len c.in-Ok.ensures.refused (weaker c.in-Ok.ensures.goes (λ may_lie world old new h step. (step.0.0, step.0.1, step.2))) c.in-Ok.ensures.asks),
      subst (Appends (g.W.Write.contents c.args.writer.now) (g.W.Write.contents c.put_answers.new.writer)) (text_answered n arrived reqs _ c.in-Ok.given.items _ collected.same c.deref-in-Ok.ensures.value c.deref-in-Ok-2.ensures.value) wrote,
    )) c.put_answers.ensures.ok

pub returns-in-Ok-clause-err : goal.returns-in-Ok-clause-err
returns-in-Ok-clause-err g c =
    let n = c.args.sizes.size in
    let reqs = c.args.batch.now.requests.items in
    let ops = c.args.batch.now.operations.items in
    MatchResult-weaker c.put_answers.result c.put_answers.ensures.err (λ x h. tt) (λ f wrote arrived collected. inl (
      wrote.0,
      (
        answered_requests n arrived c.in-Ok.given.items,
        at_size c.requires.size (all_answered n c.args.disk.now c.carry_out_all.new.disk arrived (λ may_lie world bytes h. c.blocks-blocks.ensures.held may_lie world bytes h ∙ sym c.requires.size) reqs c.deref-2.result.now
            c.in-Ok.given.items (collected_as n arrived reqs ops _ c.deref-2.ensures.value collected) c.in-Ok.ensures.len c.in-Ok.ensures.refused (weaker c.in-Ok.ensures.goes (λ may_lie world old new h step. (step.0.0, step.0.1, step.2))) c.in-Ok.ensures.asks),
        subst (IsBegunText (g.W.Write.contents c.args.writer.now) (g.W.Write.contents c.put_answers.new.writer)) (text_answered n arrived reqs _ c.in-Ok.given.items _ collected.same c.deref-in-Ok.ensures.value c.deref-in-Ok-2.ensures.value) wrote.1,
      ),
    ))

pub returns-in-Err-Failed-clause-ok : goal.returns-in-Err-Failed-clause-ok
returns-in-Err-Failed-clause-ok g c =
    let some = c.if-not-is_any_accepted.ensures.yes (grind arith) in
    let n = c.args.sizes.size in
    let reqs = c.args.batch.now.requests.items in
    let ops = c.args.batch.now.operations.items in
    on_ok_weaker c.put_refusals-in-Err-Failed.result (λ wrote arrived collected. (
      refused_requests n arrived Io,
      at_size c.requires.size (all_refused n c.args.disk.now c.carry_out_all.new.disk arrived (λ may_lie world bytes h. c.blocks-blocks.ensures.held may_lie world bytes h ∙ sym c.requires.size) reqs c.deref-2.result.now
          Io (collected_as n arrived reqs ops _ c.deref-2.ensures.value collected) (inl refl) (λ f. refl) (λ io. c.in-Err-Failed.ensures.call.has_failed cc) some.0 some.1 some.2 (sym c.deref.ensures.value ∙ some.3) some.4 (weaker c.in-Err-Failed.ensures.goes (λ may_lie world old new h step. ((step.0, step.2), λ io. step.1 cc)))),
      subst (Appends (g.W.Write.contents c.args.writer.now) (g.W.Write.contents c.put_refusals-in-Err-Failed.new.writer)) (text_refused n arrived Io reqs _ collected.same c.deref-in-Err-Failed.ensures.value) wrote,
    )) c.put_refusals-in-Err-Failed.ensures.ok

pub returns-in-Err-Failed-clause-err : goal.returns-in-Err-Failed-clause-err
returns-in-Err-Failed-clause-err g c =
    let some = c.if-not-is_any_accepted.ensures.yes (grind arith) in
    let n = c.args.sizes.size in
    let reqs = c.args.batch.now.requests.items in
    let ops = c.args.batch.now.operations.items in
    MatchResult-weaker c.put_refusals-in-Err-Failed.result c.put_refusals-in-Err-Failed.ensures.err (λ x h. tt) (λ f wrote arrived collected. inl (
      wrote.0,
      (
        refused_requests n arrived Io,
        at_size c.requires.size (all_refused n c.args.disk.now c.carry_out_all.new.disk arrived (λ may_lie world bytes h. c.blocks-blocks.ensures.held may_lie world bytes h ∙ sym c.requires.size) reqs c.deref-2.result.now
            Io (collected_as n arrived reqs ops _ c.deref-2.ensures.value collected) (inl refl) (λ f. refl) (λ io. c.in-Err-Failed.ensures.call.has_failed cc) some.0 some.1 some.2 (sym c.deref.ensures.value ∙ some.3) some.4 (weaker c.in-Err-Failed.ensures.goes (λ may_lie world old new h step. ((step.0, step.2), λ io. step.1 cc)))),
        subst (IsBegunText (g.W.Write.contents c.args.writer.now) (g.W.Write.contents c.put_refusals-in-Err-Failed.new.writer)) (text_refused n arrived Io reqs _ collected.same c.deref-in-Err-Failed.ensures.value) wrote.1,
      ),
    ))

pub returns-in-Err-OutOfMemory-clause-ok : goal.returns-in-Err-OutOfMemory-clause-ok
returns-in-Err-OutOfMemory-clause-ok g c =
    let some = c.if-not-is_any_accepted.ensures.yes (grind arith) in
    let n = c.args.sizes.size in
    let reqs = c.args.batch.now.requests.items in
    let ops = c.args.batch.now.operations.items in
    on_ok_weaker c.put_refusals-in-Err-OutOfMemory.result (λ wrote arrived collected. (
      refused_requests n arrived NoMemory,
      at_size c.requires.size (all_refused n c.args.disk.now c.carry_out_all.new.disk arrived (λ may_lie world bytes h. c.blocks-blocks.ensures.held may_lie world bytes h ∙ sym c.requires.size) reqs c.deref-2.result.now
          NoMemory (collected_as n arrived reqs ops _ c.deref-2.ensures.value collected) (inr (inl refl)) (λ f. let lied = c.in-Err-OutOfMemory.ensures.told f in absurd cc) (λ io. absurd cc) some.0 some.1 some.2 (sym c.deref.ensures.value ∙ some.3) some.4 (weaker c.in-Err-OutOfMemory.ensures.goes (λ may_lie world old new h step. ((step.0, step.2), λ io. cc)))),
      subst (Appends (g.W.Write.contents c.args.writer.now) (g.W.Write.contents c.put_refusals-in-Err-OutOfMemory.new.writer)) (text_refused n arrived NoMemory reqs _ collected.same c.deref-in-Err-OutOfMemory.ensures.value) wrote,
    )) c.put_refusals-in-Err-OutOfMemory.ensures.ok

pub returns-in-Err-OutOfMemory-clause-err : goal.returns-in-Err-OutOfMemory-clause-err
returns-in-Err-OutOfMemory-clause-err g c =
    let some = c.if-not-is_any_accepted.ensures.yes (grind arith) in
    let n = c.args.sizes.size in
    let reqs = c.args.batch.now.requests.items in
    let ops = c.args.batch.now.operations.items in
    MatchResult-weaker c.put_refusals-in-Err-OutOfMemory.result c.put_refusals-in-Err-OutOfMemory.ensures.err (λ x h. tt) (λ f wrote arrived collected. inl (
      wrote.0,
      (
        refused_requests n arrived NoMemory,
        at_size c.requires.size (all_refused n c.args.disk.now c.carry_out_all.new.disk arrived (λ may_lie world bytes h. c.blocks-blocks.ensures.held may_lie world bytes h ∙ sym c.requires.size) reqs c.deref-2.result.now
            NoMemory (collected_as n arrived reqs ops _ c.deref-2.ensures.value collected) (inr (inl refl)) (λ f. let lied = c.in-Err-OutOfMemory.ensures.told f in absurd cc) (λ io. absurd cc) some.0 some.1 some.2 (sym c.deref.ensures.value ∙ some.3) some.4 (weaker c.in-Err-OutOfMemory.ensures.goes (λ may_lie world old new h step. ((step.0, step.2), λ io. cc)))),
        subst (IsBegunText (g.W.Write.contents c.args.writer.now) (g.W.Write.contents c.put_refusals-in-Err-OutOfMemory.new.writer)) (text_refused n arrived NoMemory reqs _ collected.same c.deref-in-Err-OutOfMemory.ensures.value) wrote.1,
      ),
    ))

pub returns-in-Err-Interrupted-clause-ok : goal.returns-in-Err-Interrupted-clause-ok
returns-in-Err-Interrupted-clause-ok g c =
    let some = c.if-not-is_any_accepted.ensures.yes (grind arith) in
    let n = c.args.sizes.size in
    let reqs = c.args.batch.now.requests.items in
    let ops = c.args.batch.now.operations.items in
    on_ok_weaker c.put_refusals-in-Err-Interrupted.result (λ wrote arrived collected. (
      refused_requests n arrived Shutdown,
      at_size c.requires.size (all_refused n c.args.disk.now c.carry_out_all.new.disk arrived (λ may_lie world bytes h. c.blocks-blocks.ensures.held may_lie world bytes h ∙ sym c.requires.size) reqs c.deref-2.result.now
          Shutdown (collected_as n arrived reqs ops _ c.deref-2.ensures.value collected) (inr (inr refl)) (λ f. let lied = c.in-Err-Interrupted.ensures.told f in absurd cc) (λ io. absurd cc) some.0 some.1 some.2 (sym c.deref.ensures.value ∙ some.3) some.4 (weaker c.in-Err-Interrupted.ensures.goes (λ may_lie world old new h step. ((step.0, step.2), λ io. cc)))),
      subst (Appends (g.W.Write.contents c.args.writer.now) (g.W.Write.contents c.put_refusals-in-Err-Interrupted.new.writer)) (text_refused n arrived Shutdown reqs _ collected.same c.deref-in-Err-Interrupted.ensures.value) wrote,
    )) c.put_refusals-in-Err-Interrupted.ensures.ok

pub returns-in-Err-Interrupted-clause-err : goal.returns-in-Err-Interrupted-clause-err
returns-in-Err-Interrupted-clause-err g c =
    let some = c.if-not-is_any_accepted.ensures.yes (grind arith) in
    let n = c.args.sizes.size in
    let reqs = c.args.batch.now.requests.items in
    let ops = c.args.batch.now.operations.items in
    MatchResult-weaker c.put_refusals-in-Err-Interrupted.result c.put_refusals-in-Err-Interrupted.ensures.err (λ x h. tt) (λ f wrote arrived collected. inl (
      wrote.0,
      (
        refused_requests n arrived Shutdown,
        at_size c.requires.size (all_refused n c.args.disk.now c.carry_out_all.new.disk arrived (λ may_lie world bytes h. c.blocks-blocks.ensures.held may_lie world bytes h ∙ sym c.requires.size) reqs c.deref-2.result.now
            Shutdown (collected_as n arrived reqs ops _ c.deref-2.ensures.value collected) (inr (inr refl)) (λ f. let lied = c.in-Err-Interrupted.ensures.told f in absurd cc) (λ io. absurd cc) some.0 some.1 some.2 (sym c.deref.ensures.value ∙ some.3) some.4 (weaker c.in-Err-Interrupted.ensures.goes (λ may_lie world old new h step. ((step.0, step.2), λ io. cc)))),
        subst (IsBegunText (g.W.Write.contents c.args.writer.now) (g.W.Write.contents c.put_refusals-in-Err-Interrupted.new.writer)) (text_refused n arrived Shutdown reqs _ collected.same c.deref-in-Err-Interrupted.ensures.value) wrote.1,
      ),
    ))

pub returns-in-Err-Stopped-clause-err : goal.returns-in-Err-Stopped-clause-err
returns-in-Err-Stopped-clause-err g c = λ arrived collected.
    let n = c.args.sizes.size in
    let reqs = c.args.batch.now.requests.items in
    let ops = c.args.batch.now.operations.items in
    let some = c.if-not-is_any_accepted.ensures.yes (grind arith) in
    inr (
      refl,
      (
        begun_at_size c.requires.size (all_begun n c.args.disk.now c.carry_out_all.new.disk arrived (λ may_lie world bytes h. c.blocks-blocks.ensures.held may_lie world bytes h ∙ sym c.requires.size) reqs c.deref-2.result.now
            (collected_as n arrived reqs ops _ c.deref-2.ensures.value collected) (λ f. let lied = c.in-Err-Stopped.ensures.told f in absurd cc) some.0 some.1 some.2 (sym c.deref.ensures.value ∙ some.3) some.4 (weaker c.in-Err-Stopped.ensures.goes (λ may_lie world old new h step. (step.0, step.2)))),
        refl,
      ),
    )
