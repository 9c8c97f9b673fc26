use Rattle.std.proofs.Common.{append-nil, ◌≡◌, ◌<◌, ◌+◌, ℕ, [], ◌∷◌, ◌++◌, List, true, false, nat_lt, length, length-append, Err, refl, sym, ap, ◌∙◌, subst, arith, inl, inr}
use Rattle.std.proofs.lemmas.List.Elements.{All-append}
use Rattle.std.proofs.lemmas.Result.{err_from_is_err_and}
use Rattle.std.specs.List.{All, AllByRecursion}
use Rattle.oram_geometry.specs.declared.Sizes.{Sizes}
use Rattle.oram_semantics.specs.Scheme.{Scheme}
use Rattle.oram_semantics.specs.State.{status_in}
use Rattle.oram_semantics.specs.declared.events.Reply.{Reply}
use Rattle.oram_core.specs.Core.{scheme_of}
use Rattle.oram_core.specs.PlainSteps.{done}
use Rattle.oram_session.specs.CoreWork.{answers_left}
use Rattle.oram_semantics.specs.declared.events.Event.TheVariants.{Reopen, Retry}
use Rattle.oram_semantics.specs.declared.events.Submission.{Submission}
use Rattle.oram_session.specs.Exchanges.{IsCutOff, IsSent, Runs}
use Rattle.oram_session.proofs.Honesty.{waits_by}
use Rattle.oram_session.proofs.CoreSteps.{left_heard, same_scheme, same_trans}
use Rattle.oram_session.proofs.Resumed.{HasBody, heard_bodies, heard_count, heard_going, some_at_work}
use Rattle.oram_rounds.specs.Arrivals.{IsAnsweredHere}
use Rattle.oram_rounds.specs.PathMessages.{IsPathFetch}
use Rattle.oram_rounds.specs.Rounds.{IsCounted, Round}
use Rattle.oram_rounds.proofs.FailedReplies.{IsOfFailed, heard_failures, still_of_failed}
use Rattle.oram_rounds.proofs.Meanwhile.{Along, AlongUntilCut, Unmoved, along_arrives, along_cut, along_heard, along_sent, one_message, sent_same, stall_silent, until_cut}
use Rattle.oram_rounds.proofs.Talk.{lost_talks, reopened_talks}
use Rattle.oram_rounds.proofs.exchanges.work_along.Goals as goal

pub returns-then-not-answers-clause-ok : goal.returns-then-not-answers-clause-ok
returns-then-not-answers-clause-ok g c =
    let v = scheme_of g.S.Sealer.cipher c.args.core.now in
    along_arrives v g.B.BatchLink.batches g.B.BatchLink.streams c.args.core.now.state c.args.link.now c.args.arrivals.now c.loop-message.replies.items c.loop-message.arrivals c.answers.new.arrivals
    c.loop-message.core.state c.loop-message.link c.answers.new.self c.loop-message.invariant.along c.answers.ensures.arriving

pub returns-in_err-reopen-in-Err-Stalled-clause-noted : goal.returns-in_err-reopen-in-Err-Stalled-clause-noted
returns-in_err-reopen-in-Err-Stalled-clause-noted g c = λ table noted. c.reopen.ensures.noted table (c.deliver.ensures.noted table (c.loop-message.invariant.noted table noted))

pub returns-in-Err-Stalled-clause-noted : goal.returns-in-Err-Stalled-clause-noted
returns-in-Err-Stalled-clause-noted g c = λ table noted. c.reopen.ensures.noted table (c.deliver.ensures.noted table (c.loop-message.invariant.noted table noted))

pub returns-in_err-append-clause-noted : goal.returns-in_err-append-clause-noted
returns-in_err-append-clause-noted g c = λ table noted. c.deliver.ensures.noted table (c.loop-message.invariant.noted table noted)

pub returns-in_err-reopen-in-Err-Stalled-clause-err : goal.returns-in_err-reopen-in-Err-Stalled-clause-err
returns-in_err-reopen-in-Err-Stalled-clause-err g c =
    let now = c.loop-message in
    let batches = g.B.BatchLink.batches in
    let v = scheme_of g.S.Sealer.cipher c.args.core.now in
    let same = same_scheme g.S.Sealer.cipher c.args.core.now now.core now.invariant.kept in
    let item = c.in-Some.ensures.item in
    let message : c.as_slice.result.now ≡ now.core.state.message = elim now.invariant.going [
      | inl a ↦ c.as_slice.ensures ∙ one_message c.deref.result.now c.in-Some.message.now now.core.state.message item.1 (c.deref.ensures.value ∙ a.sends)
      | inr b ↦ absurd (let none : true ≡ false = item.0 ∙ ap (λ (xs : List (List ℕ)). nat_lt 0 (length xs)) (c.deref.ensures.value ∙ b.2) in cc)
    ] in
    let here : IsAnsweredHere c.answers.new.self c.as_slice.result.now = c.answers.ensures.here c.if-not-answers.false in
    let along = along_arrives v batches g.B.BatchLink.streams c.args.core.now.state c.args.link.now c.args.arrivals.now now.replies.items now.arrivals c.answers.new.arrivals now.core.state now.link c.answers.new.self
    now.invariant.along c.answers.ensures.arriving in
    let after = c.deliver.new.core in
    let kept = same_trans c.args.core.now now.core after now.invariant.kept c.deliver.ensures.kept in
    let w = c.in-Err-Stalled.ensures.stalled (ap Err c.in-Err-Stalled.field-0-is) in
    let sent = subst (λ (u : Scheme). IsSent u (IsCounted batches) 0 (now.core.state, c.answers.new.self) w.0 (after.state, c.deliver.new.link)) same w.1 in
    let waits = waits_by now.core.state (status_in now.core.state) w.0.message refl sent.message in
    let along_now = along_sent v batches g.B.BatchLink.streams c.args.core.now.state c.args.link.now c.args.arrivals.now now.replies.items c.answers.new.arrivals now.core.state after.state c.answers.new.self c.deliver.new.link
    along c.as_slice.result.now here w.0 (waits.1 ∙ sym message) sent in
    let p = err_from_is_err_and c.from_residual.result c.from_residual.ensures.1 in
    let run = subst (λ (u : Scheme). Runs u after.state (Reopen ∷ []) [] c.reopen.new.core.state) (same_scheme g.S.Sealer.cipher c.args.core.now after kept) c.in_err-reopen-in-Err-Stalled.ensures.err in
    let heard = along_heard v batches g.B.BatchLink.streams c.args.core.now.state c.args.link.now c.args.arrivals.now (now.replies.items ++ w.0.replies) c.answers.new.arrivals after.state c.reopen.new.core.state c.deliver.new.link
    along_now (λ q. (lost_talks batches v after.state c.reopen.new.core.state q run).1) in
    rw p.1 (until_cut v batches g.B.BatchLink.streams c.args.core.now.state c.args.link.now c.args.arrivals.now (now.replies.items ++ w.0.replies) c.answers.new.arrivals c.reopen.new.core.state c.deliver.new.link heard)

pub returns-in-Err-Stalled-clause-ok : goal.returns-in-Err-Stalled-clause-ok
returns-in-Err-Stalled-clause-ok g c =
    let now = c.loop-message in
    let batches = g.B.BatchLink.batches in
    let v = scheme_of g.S.Sealer.cipher c.args.core.now in
    let same = same_scheme g.S.Sealer.cipher c.args.core.now now.core now.invariant.kept in
    let item = c.in-Some.ensures.item in
    let message : c.as_slice.result.now ≡ now.core.state.message = elim now.invariant.going [
      | inl a ↦ c.as_slice.ensures ∙ one_message c.deref.result.now c.in-Some.message.now now.core.state.message item.1 (c.deref.ensures.value ∙ a.sends)
      | inr b ↦ absurd (let none : true ≡ false = item.0 ∙ ap (λ (xs : List (List ℕ)). nat_lt 0 (length xs)) (c.deref.ensures.value ∙ b.2) in cc)
    ] in
    let here : IsAnsweredHere c.answers.new.self c.as_slice.result.now = c.answers.ensures.here c.if-not-answers.false in
    let along = along_arrives v batches g.B.BatchLink.streams c.args.core.now.state c.args.link.now c.args.arrivals.now now.replies.items now.arrivals c.answers.new.arrivals now.core.state now.link c.answers.new.self
    now.invariant.along c.answers.ensures.arriving in
    let after = c.deliver.new.core in
    let kept = same_trans c.args.core.now now.core after now.invariant.kept c.deliver.ensures.kept in
    let w = c.in-Err-Stalled.ensures.stalled (ap Err c.in-Err-Stalled.field-0-is) in
    let sent = subst (λ (u : Scheme). IsSent u (IsCounted batches) 0 (now.core.state, c.answers.new.self) w.0 (after.state, c.deliver.new.link)) same w.1 in
    let waits = waits_by now.core.state (status_in now.core.state) w.0.message refl sent.message in
    let along_now = along_sent v batches g.B.BatchLink.streams c.args.core.now.state c.args.link.now c.args.arrivals.now now.replies.items c.answers.new.arrivals now.core.state after.state c.answers.new.self c.deliver.new.link
    along c.as_slice.result.now here w.0 (waits.1 ∙ sym message) sent in
    let silent = stall_silent (IsCounted batches) v now.core.state after.state c.answers.new.self c.deliver.new.link w.0 waits.0 sent w.2.1 in
    let run = subst (λ (u : Scheme). Runs u after.state (Reopen ∷ Retry ∷ []) [] c.reopen.new.core.state) (same_scheme g.S.Sealer.cipher c.args.core.now after kept) c.in_ok-reopen-in-Err-Stalled.ensures.ok in
    let heard = along_heard v batches g.B.BatchLink.streams c.args.core.now.state c.args.link.now c.args.arrivals.now (now.replies.items ++ w.0.replies) c.answers.new.arrivals after.state c.reopen.new.core.state c.deliver.new.link
    along_now (λ q. (reopened_talks batches v after.state c.reopen.new.core.state q run).2) in
    subst (λ (rs : List Reply). Along v batches g.B.BatchLink.streams c.args.core.now.state c.args.link.now c.args.arrivals.now rs c.answers.new.arrivals c.reopen.new.core.state c.deliver.new.link)
    (ap (λ (rs : List Reply). now.replies.items ++ rs) silent.0 ∙ append-nil now.replies.items) heard

pub returns-in-Err-Stalled-clause-count : goal.returns-in-Err-Stalled-clause-count
returns-in-Err-Stalled-clause-count g c =
    let now = c.loop-message in
    let batches = g.B.BatchLink.batches in
    let v = scheme_of g.S.Sealer.cipher c.args.core.now in
    let same = same_scheme g.S.Sealer.cipher c.args.core.now now.core now.invariant.kept in
    let after = c.deliver.new.core in
    let w = c.in-Err-Stalled.ensures.stalled (ap Err c.in-Err-Stalled.field-0-is) in
    let sent = subst (λ (u : Scheme). IsSent u (IsCounted batches) 0 (now.core.state, c.answers.new.self) w.0 (after.state, c.deliver.new.link)) same w.1 in
    let waits = waits_by now.core.state (status_in now.core.state) w.0.message refl sent.message in
    let silent = stall_silent (IsCounted batches) v now.core.state after.state c.answers.new.self c.deliver.new.link w.0 waits.0 sent w.2.1 in
    ap (λ (q : List Submission). length now.replies.items + length q) (c.in_ok-reopen-in-Err-Stalled.ensures.queue ∙ silent.1) ∙ now.invariant.count

pub returns-in_err-append-clause-err : goal.returns-in_err-append-clause-err
returns-in_err-append-clause-err g c =
    let now = c.loop-message in
    let batches = g.B.BatchLink.batches in
    let v = scheme_of g.S.Sealer.cipher c.args.core.now in
    let same = same_scheme g.S.Sealer.cipher c.args.core.now now.core now.invariant.kept in
    let item = c.in-Some.ensures.item in
    let message : c.as_slice.result.now ≡ now.core.state.message = elim now.invariant.going [
      | inl a ↦ c.as_slice.ensures ∙ one_message c.deref.result.now c.in-Some.message.now now.core.state.message item.1 (c.deref.ensures.value ∙ a.sends)
      | inr b ↦ absurd (let none : true ≡ false = item.0 ∙ ap (λ (xs : List (List ℕ)). nat_lt 0 (length xs)) (c.deref.ensures.value ∙ b.2) in cc)
    ] in
    let here : IsAnsweredHere c.answers.new.self c.as_slice.result.now = c.answers.ensures.here c.if-not-answers.false in
    let along = along_arrives v batches g.B.BatchLink.streams c.args.core.now.state c.args.link.now c.args.arrivals.now now.replies.items now.arrivals c.answers.new.arrivals now.core.state now.link c.answers.new.self
    now.invariant.along c.answers.ensures.arriving in
    let after = c.deliver.new.core in
    let kept = same_trans c.args.core.now now.core after now.invariant.kept c.deliver.ensures.kept in
    let w = c.in-Ok.ensures.ok in
    let sent = subst (λ (u : Scheme). IsSent u (IsCounted batches) 0 (now.core.state, c.answers.new.self) w.0 (after.state, c.deliver.new.link)) same w.1 in
    let waits = waits_by now.core.state (status_in now.core.state) w.0.message refl sent.message in
    let along_now = along_sent v batches g.B.BatchLink.streams c.args.core.now.state c.args.link.now c.args.arrivals.now now.replies.items c.answers.new.arrivals now.core.state after.state c.answers.new.self c.deliver.new.link
    along c.as_slice.result.now here w.0 (waits.1 ∙ sym message) sent in
    let p = err_from_is_err_and c.from_residual-in_err-append.result c.from_residual-in_err-append.ensures.1 in
    rw p.1 (until_cut v batches g.B.BatchLink.streams c.args.core.now.state c.args.link.now c.args.arrivals.now (now.replies.items ++ w.0.replies) c.answers.new.arrivals after.state c.deliver.new.link along_now)

pub returns-in-Err : goal.returns-in-Err
returns-in-Err g c =
    let now = c.loop-message in
    let batches = g.B.BatchLink.batches in
    let v = scheme_of g.S.Sealer.cipher c.args.core.now in
    let same = same_scheme g.S.Sealer.cipher c.args.core.now now.core now.invariant.kept in
    let item = c.in-Some.ensures.item in
    let message : c.as_slice.result.now ≡ now.core.state.message = elim now.invariant.going [
      | inl a ↦ c.as_slice.ensures ∙ one_message c.deref.result.now c.in-Some.message.now now.core.state.message item.1 (c.deref.ensures.value ∙ a.sends)
      | inr b ↦ absurd (let none : true ≡ false = item.0 ∙ ap (λ (xs : List (List ℕ)). nat_lt 0 (length xs)) (c.deref.ensures.value ∙ b.2) in cc)
    ] in
    let here : IsAnsweredHere c.answers.new.self c.as_slice.result.now = c.answers.ensures.here c.if-not-answers.false in
    let along = along_arrives v batches g.B.BatchLink.streams c.args.core.now.state c.args.link.now c.args.arrivals.now now.replies.items now.arrivals c.answers.new.arrivals now.core.state now.link c.answers.new.self
    now.invariant.along c.answers.ensures.arriving in
    let after = c.deliver.new.core in
    let kept = same_trans c.args.core.now now.core after now.invariant.kept c.deliver.ensures.kept in
    let there : Unmoved c.answers.new.self c.deliver.new.link × AlongUntilCut v batches g.B.BatchLink.streams c.args.core.now.state c.args.link.now c.args.arrivals.now c.answers.new.arrivals after.state c.deliver.new.link =
    elim c.in-Err.ensures.fault [
      | inl stalled ↦
          let w = c.in-Err.ensures.stalled (ap Err stalled) in
          let sent = subst (λ (u : Scheme). IsSent u (IsCounted batches) 0 (now.core.state, c.answers.new.self) w.0 (after.state, c.deliver.new.link)) same w.1 in
          let waits = waits_by now.core.state (status_in now.core.state) w.0.message refl sent.message in
          let along_now = along_sent v batches g.B.BatchLink.streams c.args.core.now.state c.args.link.now c.args.arrivals.now now.replies.items c.answers.new.arrivals now.core.state after.state c.answers.new.self c.deliver.new.link
          along c.as_slice.result.now here w.0 (waits.1 ∙ sym message) sent in (
            sent_same batches c.answers.new.self c.deliver.new.link c.as_slice.result.now here c.answers.new.self.inner [] [] v now.core.state after.state w.0 (waits.1 ∙ sym message) sent.link sent.few,
            until_cut v batches g.B.BatchLink.streams c.args.core.now.state c.args.link.now c.args.arrivals.now (now.replies.items ++ w.0.replies) c.answers.new.arrivals after.state c.deliver.new.link along_now,
          )
      | inr memory ↦
          let w = c.in-Err.ensures.memory (ap Err memory) in
          let cut = subst (λ (u : Scheme). IsCutOff u (IsCounted batches) 0 (now.core.state, c.answers.new.self) w.0 (after.state, c.deliver.new.link)) same w.1 in
          let waits = waits_by now.core.state (status_in now.core.state) w.0.message refl cut.message in (
            sent_same batches c.answers.new.self c.deliver.new.link c.as_slice.result.now here c.answers.new.self.inner [] [] v now.core.state after.state w.0 (waits.1 ∙ sym message) cut.link cut.few,
            along_cut v batches g.B.BatchLink.streams c.args.core.now.state c.args.link.now c.args.arrivals.now now.replies.items c.answers.new.arrivals now.core.state after.state c.answers.new.self c.deliver.new.link
                along c.as_slice.result.now here w.0 (waits.1 ∙ sym message) cut,
          )
    ] in
    record {
      kept = kept;
      noted = λ table noted. c.deliver.ensures.noted table (now.invariant.noted table noted);
      paths = subst (λ (d : Sizes). AllByRecursion (IsPathFetch d) c.answers.new.arrivals.due) (sym (ap (λ (r : Round _). r.device) there.0 ∙ ap (λ (r : Round _). r.device) c.answers.ensures.same)) c.answers.ensures.due;
      ok = tt;
      err = there.1;
      going = tt;
      count = tt;
      block = tt;
      failed = tt;
      fault = refl;
    }

pub loop-message-smaller : goal.loop-message-smaller
loop-message-smaller g c =
    let now = c.loop-message in
    let same = same_scheme g.S.Sealer.cipher c.args.core.now now.core now.invariant.kept in
    let after = c.deliver.new.core in
    let u = scheme_of g.S.Sealer.cipher now.core in
    let w = c.in-Ok.ensures.ok in
    let waits = waits_by now.core.state (status_in now.core.state) w.0.message refl w.1.message in
    let left = some_at_work now.core.state.failure now.core.state.queue now.core.state.lost waits.0 in
    let fewer = left_heard u now.core.state (done c.in-Ok.heard after.state) (omega arith) c.in-Ok.ensures.heard in
    subst (λ (d : Sizes). answers_left d after.state < answers_left now.core.device now.core.state) (sym c.deliver.ensures.kept.0) fewer

pub loop-message-preserved : goal.loop-message-preserved
loop-message-preserved g c =
    let now = c.loop-message in
    let batches = g.B.BatchLink.batches in
    let v = scheme_of g.S.Sealer.cipher c.args.core.now in
    let same = same_scheme g.S.Sealer.cipher c.args.core.now now.core now.invariant.kept in
    let item = c.in-Some.ensures.item in
    let message : c.as_slice.result.now ≡ now.core.state.message = elim now.invariant.going [
      | inl a ↦ c.as_slice.ensures ∙ one_message c.deref.result.now c.in-Some.message.now now.core.state.message item.1 (c.deref.ensures.value ∙ a.sends)
      | inr b ↦ absurd (let none : true ≡ false = item.0 ∙ ap (λ (xs : List (List ℕ)). nat_lt 0 (length xs)) (c.deref.ensures.value ∙ b.2) in cc)
    ] in
    let here : IsAnsweredHere c.answers.new.self c.as_slice.result.now = c.answers.ensures.here c.if-not-answers.false in
    let along = along_arrives v batches g.B.BatchLink.streams c.args.core.now.state c.args.link.now c.args.arrivals.now now.replies.items now.arrivals c.answers.new.arrivals now.core.state now.link c.answers.new.self
    now.invariant.along c.answers.ensures.arriving in
    let after = c.deliver.new.core in
    let kept = same_trans c.args.core.now now.core after now.invariant.kept c.deliver.ensures.kept in
    let u = scheme_of g.S.Sealer.cipher now.core in
    let w = c.in-Ok.ensures.ok in
    let sent = subst (λ (u : Scheme). IsSent u (IsCounted batches) 0 (now.core.state, c.answers.new.self) w.0 (after.state, c.deliver.new.link)) same w.1 in
    let waits = waits_by now.core.state (status_in now.core.state) w.0.message refl sent.message in
    let along_now = along_sent v batches g.B.BatchLink.streams c.args.core.now.state c.args.link.now c.args.arrivals.now now.replies.items c.answers.new.arrivals now.core.state after.state c.answers.new.self c.deliver.new.link
    along c.as_slice.result.now here w.0 (waits.1 ∙ sym message) sent in
    let there = sent_same batches c.answers.new.self c.deliver.new.link c.as_slice.result.now here c.answers.new.self.inner [] [] v now.core.state after.state w.0 (waits.1 ∙ sym message) sent.link sent.few in
    let heard = c.in-Ok.ensures.heard in
    let replies = c.in-Ok.heard.replies.items in
    let all : now.replies.items ++ w.0.replies ≡ c.append.new.self.items = ap (λ (rs : List Reply). now.replies.items ++ rs) w.3 ∙ sym c.in_ok-append.ensures.items in
    record {
      kept = kept;
      noted = λ table noted. c.deliver.ensures.noted table (now.invariant.noted table noted);
      paths = subst (λ (d : Sizes). AllByRecursion (IsPathFetch d) c.answers.new.arrivals.due) (sym (ap (λ (r : Round _). r.device) there ∙ ap (λ (r : Round _). r.device) c.answers.ensures.same)) c.answers.ensures.due;
      going = elim (heard_going u now.core.state (done c.in-Ok.heard after.state) waits.0 heard) [ inl a ↦ inl (record { waits = a.0; sends = a.1; none = c.in_ok-append.ensures.other_items }) | inr a ↦ inr (a.0, a.1, a.2) ];
      block = subst (All (HasBody c.args.core.now.device)) (sym c.in_ok-append.ensures.items)
          (All-append (HasBody c.args.core.now.device) now.replies.items replies now.invariant.block
          (subst (λ (d : Sizes). All (HasBody d) replies) now.invariant.kept.0 (heard_bodies u now.core.state (done c.in-Ok.heard after.state) heard)));
      count =
          let joined = ap length c.in_ok-append.ensures.items ∙ length-append now.replies.items replies in
          let left = heard_count u now.core.state (done c.in-Ok.heard after.state) heard in
          let before = now.invariant.count in
          omega arith;
      failed = subst (All (IsOfFailed after.state)) (sym c.in_ok-append.ensures.items)
          (All-append (IsOfFailed after.state) now.replies.items replies (still_of_failed now.core.state after.state now.replies.items waits.0 now.invariant.failed)
          (heard_failures u now.core.state (done c.in-Ok.heard after.state) heard));
      along = subst (λ (rs : List Reply). Along v batches g.B.BatchLink.streams c.args.core.now.state c.args.link.now c.args.arrivals.now rs c.answers.new.arrivals after.state c.deliver.new.link) all along_now;
    }
