use Rattle.std.proofs.Common.{rules, ◌≡◌, ◌++◌, List, sym, subst, inl, inr}
use Rattle.std.proofs.lemmas.List.Elements.{All-append}
use Rattle.std.proofs.lemmas.Result.{err_from_is_err_and}
use Rattle.std.specs.List.{All}
use Rattle.oram_geometry.specs.declared.Sizes.{Sizes}
use Rattle.oram_semantics.specs.Progress.Status.{Waiting}
use Rattle.oram_semantics.specs.Scheme.{Scheme}
use Rattle.oram_semantics.specs.State.{status_in}
use Rattle.oram_semantics.specs.declared.events.Reply.{Reply}
use Rattle.oram_core.specs.Core.{scheme_of}
use Rattle.oram_session.proofs.CoreSteps.{same_scheme}
use Rattle.oram_session.proofs.Resumed.{HasBody}
use Rattle.oram_rounds.specs.Arrivals.{Awaited, GoesAheadAndTalks, WasBegun}
use Rattle.oram_rounds.specs.Batches.{texts}
use Rattle.oram_rounds.specs.Process.{HasTalked}
use Rattle.oram_rounds.specs.Rounds.{Round}
use Rattle.oram_rounds.proofs.Begun.{goes_more, settled_cut, settled_talks}
use Rattle.oram_rounds.proofs.FailedReplies.{IsOfFailed, still_of_failed}
use Rattle.oram_rounds.proofs.Meanwhile.{Along, AlongUntilCut}
use Rattle.oram_rounds.proofs.exchanges.carry_out_begun.Goals as goal

pub returns-in_err-reaction-clause-err : goal.returns-in_err-reaction-clause-err
returns-in_err-reaction-clause-err g c =
    let batches = g.B.BatchLink.batches in
    let v = scheme_of g.S.Sealer.cipher c.args.core.now in
    let w = c.work_along-worked in
    let p = err_from_is_err_and c.from_residual.result c.from_residual.ensures.1 in
    rw p.1 (λ l begun.
    settled_cut v batches g.B.BatchLink.streams l c.args.link.now w.new.link c.settle.new.self (texts c.args.fetches.items) c.requires.some c.requires.paths begun c.args.core.now.state w.new.core.state w.new.arrivals
    c.settle.ensures (subst (λ (a : Awaited). AlongUntilCut v batches g.B.BatchLink.streams c.args.core.now.state c.args.link.now a w.new.arrivals w.new.core.state w.new.link) c.of-arrivals.ensures c.in_err-reaction.ensures.err))

pub returns-then-is_empty-clause-ok : goal.returns-then-is_empty-clause-ok
returns-then-is_empty-clause-ok g c =
    let batches = g.B.BatchLink.batches in
    let v = scheme_of g.S.Sealer.cipher c.args.core.now in
    let w = c.work_along-worked in
    let settled : (l : Round _) → WasBegun g.B.BatchLink.streams l (texts c.args.fetches.items) c.args.link.now
    → GoesAheadAndTalks v batches (c.args.core.now.state, l) (texts c.args.fetches.items) w.new.replies.items (w.new.core.state, c.settle.new.self) = λ l begun.
    settled_talks v batches g.B.BatchLink.streams l c.args.link.now w.new.link c.settle.new.self (texts c.args.fetches.items) c.requires.some c.requires.paths begun c.args.core.now.state w.new.core.state
    w.new.arrivals c.settle.ensures w.new.replies.items (subst (λ (a : Awaited). Along v batches g.B.BatchLink.streams c.args.core.now.state c.args.link.now a w.new.replies.items w.new.arrivals w.new.core.state w.new.link) c.of-arrivals.ensures c.in_ok-reaction.ensures.ok) in
    settled

pub returns-in_err-last-clause-noted : goal.returns-in_err-last-clause-noted
returns-in_err-last-clause-noted g c = λ table noted. c.carry_out_all.ensures.noted table (c.work_along-worked.ensures.noted table noted)

pub returns-in_err-append-clause-noted : goal.returns-in_err-append-clause-noted
returns-in_err-append-clause-noted g c = λ table noted. c.carry_out_all.ensures.noted table (c.work_along-worked.ensures.noted table noted)

pub returns-clause-noted : goal.returns-clause-noted
returns-clause-noted g c = λ table noted. c.carry_out_all.ensures.noted table (c.work_along-worked.ensures.noted table noted)

pub returns-in_err-last-clause-err : goal.returns-in_err-last-clause-err
returns-in_err-last-clause-err g c =
    let batches = g.B.BatchLink.batches in
    let v = scheme_of g.S.Sealer.cipher c.args.core.now in
    let w = c.work_along-worked in
    let settled : (l : Round _) → WasBegun g.B.BatchLink.streams l (texts c.args.fetches.items) c.args.link.now
    → GoesAheadAndTalks v batches (c.args.core.now.state, l) (texts c.args.fetches.items) w.new.replies.items (w.new.core.state, c.settle.new.self) = λ l begun.
    settled_talks v batches g.B.BatchLink.streams l c.args.link.now w.new.link c.settle.new.self (texts c.args.fetches.items) c.requires.some c.requires.paths begun c.args.core.now.state w.new.core.state
    w.new.arrivals c.settle.ensures w.new.replies.items (subst (λ (a : Awaited). Along v batches g.B.BatchLink.streams c.args.core.now.state c.args.link.now a w.new.replies.items w.new.arrivals w.new.core.state w.new.link) c.of-arrivals.ensures c.in_ok-reaction.ensures.ok) in
    let same = same_scheme g.S.Sealer.cipher c.args.core.now w.new.core w.ensures.kept in
    let p = err_from_is_err_and c.from_residual-in_err-last.result c.from_residual-in_err-last.ensures.1 in
    let last = c.in_err-last.ensures.err in
    let talked = subst (λ (u : Scheme). HasTalked u batches (w.new.core.state, c.settle.new.self) last.0 (c.carry_out_all.new.core.state, c.carry_out_all.new.link)) same last.1 in
    rw p.1 (λ l begun. (w.new.replies.items ++ last.0, goes_more v batches _ _ _ (texts c.args.fetches.items) w.new.replies.items last.0 (settled l begun) talked))

pub returns-in_err-append-clause-err : goal.returns-in_err-append-clause-err
returns-in_err-append-clause-err g c =
    let batches = g.B.BatchLink.batches in
    let v = scheme_of g.S.Sealer.cipher c.args.core.now in
    let w = c.work_along-worked in
    let settled : (l : Round _) → WasBegun g.B.BatchLink.streams l (texts c.args.fetches.items) c.args.link.now
    → GoesAheadAndTalks v batches (c.args.core.now.state, l) (texts c.args.fetches.items) w.new.replies.items (w.new.core.state, c.settle.new.self) = λ l begun.
    settled_talks v batches g.B.BatchLink.streams l c.args.link.now w.new.link c.settle.new.self (texts c.args.fetches.items) c.requires.some c.requires.paths begun c.args.core.now.state w.new.core.state
    w.new.arrivals c.settle.ensures w.new.replies.items (subst (λ (a : Awaited). Along v batches g.B.BatchLink.streams c.args.core.now.state c.args.link.now a w.new.replies.items w.new.arrivals w.new.core.state w.new.link) c.of-arrivals.ensures c.in_ok-reaction.ensures.ok) in
    let same = same_scheme g.S.Sealer.cipher c.args.core.now w.new.core w.ensures.kept in
    let p = err_from_is_err_and c.from_residual-in_err-append.result c.from_residual-in_err-append.ensures.1 in
    let talked = subst (λ (u : Scheme). HasTalked u batches (w.new.core.state, c.settle.new.self) c.in_ok-last.last.items (c.carry_out_all.new.core.state, c.carry_out_all.new.link)) same c.in_ok-last.ensures.ok in
    rw p.1 (λ l begun. (w.new.replies.items ++ c.in_ok-last.last.items, goes_more v batches _ _ _ (texts c.args.fetches.items) w.new.replies.items c.in_ok-last.last.items (settled l begun) talked))

pub returns-clause-ok : goal.returns-clause-ok
returns-clause-ok g c =
    let batches = g.B.BatchLink.batches in
    let v = scheme_of g.S.Sealer.cipher c.args.core.now in
    let w = c.work_along-worked in
    let settled : (l : Round _) → WasBegun g.B.BatchLink.streams l (texts c.args.fetches.items) c.args.link.now
    → GoesAheadAndTalks v batches (c.args.core.now.state, l) (texts c.args.fetches.items) w.new.replies.items (w.new.core.state, c.settle.new.self) = λ l begun.
    settled_talks v batches g.B.BatchLink.streams l c.args.link.now w.new.link c.settle.new.self (texts c.args.fetches.items) c.requires.some c.requires.paths begun c.args.core.now.state w.new.core.state
    w.new.arrivals c.settle.ensures w.new.replies.items (subst (λ (a : Awaited). Along v batches g.B.BatchLink.streams c.args.core.now.state c.args.link.now a w.new.replies.items w.new.arrivals w.new.core.state w.new.link) c.of-arrivals.ensures c.in_ok-reaction.ensures.ok) in
    let same = same_scheme g.S.Sealer.cipher c.args.core.now w.new.core w.ensures.kept in
    let talked = subst (λ (u : Scheme). HasTalked u batches (w.new.core.state, c.settle.new.self) c.in_ok-last.last.items (c.carry_out_all.new.core.state, c.carry_out_all.new.link)) same c.in_ok-last.ensures.ok in
    λ l begun. subst (λ (rs : List Reply). GoesAheadAndTalks v batches (c.args.core.now.state, l) (texts c.args.fetches.items) rs (c.carry_out_all.new.core.state, c.carry_out_all.new.link)) (sym c.in_ok-append.ensures.items)
    (goes_more v batches _ _ _ (texts c.args.fetches.items) w.new.replies.items c.in_ok-last.last.items (settled l begun) talked)

pub returns-clause-block : goal.returns-clause-block
returns-clause-block g c =
    let w = c.work_along-worked in
    subst (All (HasBody c.args.core.now.device)) (sym c.in_ok-append.ensures.items)
    (All-append (HasBody c.args.core.now.device) w.new.replies.items c.in_ok-last.last.items c.in_ok-reaction.ensures.block
    (subst (λ (d : Sizes). All (HasBody d) c.in_ok-last.last.items) w.ensures.kept.0 c.in_ok-last.ensures.block))

pub returns-clause-failed : goal.returns-clause-failed
returns-clause-failed g c =
    let w = c.work_along-worked in
    let waits : status_in w.new.core.state ≡ Waiting = elim c.in_ok-reaction.ensures.going [ inl u ↦ u.waits | inr b ↦ absurd (search (rules, b.2, c.is_empty.ensures, c.if-is_empty.false)) ] in
    subst (All (IsOfFailed c.carry_out_all.new.core.state)) (sym c.in_ok-append.ensures.items)
    (All-append (IsOfFailed c.carry_out_all.new.core.state) w.new.replies.items c.in_ok-last.last.items
    (still_of_failed w.new.core.state c.carry_out_all.new.core.state w.new.replies.items waits c.in_ok-reaction.ensures.failed) c.in_ok-last.ensures.failed)
