use Rattle.std.proofs.Common.{◌≡◌, Err, false, true, refl, sym, ap, ◌∙◌, subst, inl, inr, length}
use Rattle.std.proofs.lemmas.Result.{err_from_is_err_and}
use Rattle.oram_semantics.specs.Scheme.{Scheme}
use Rattle.oram_session.specs.Exchanges.{IsSent, IsCutOff, AllSentFrom}
use Rattle.oram_session.specs.Resumption.{first_retries, retries_now}
use Rattle.oram_session.specs.Turns.{most_retries}
use Rattle.oram_host.specs.declared.serve_fault.ServeFault.TheVariants.{Stalled, OutOfMemory}
use Rattle.oram_session.proofs.CoreSteps.{same_scheme}
use Rattle.oram_session.proofs.Turned.{err_is}
use Rattle.oram_session.proofs.recovery.resume.Goals as goal

-- an idle or failed core

pub returns-then-has_no_work-clause-count : goal.returns-then-has_no_work-clause-count
returns-then-has_no_work-clause-count g c = λ going. absurd (going (sym c.has_no_work.ensures ∙ c.if-has_no_work.true))

pub returns-then-has_no_work-clause-ok : goal.returns-then-has_no_work-clause-ok
returns-then-has_no_work-clause-ok g c = λ going. absurd (going (sym c.has_no_work.ensures ∙ c.if-has_no_work.true))

-- any other core

pub reopen-requires : goal.reopen-requires
reopen-requires g c = λ no_work. let e : false ≡ true = sym c.if-has_no_work.false ∙ c.has_no_work.ensures ∙ no_work in cc

pub returns-in_err-reaction-clause-none : goal.returns-in_err-reaction-clause-none
returns-in_err-reaction-clause-none g c = λ no_work. let e : false ≡ true = sym c.if-has_no_work.false ∙ c.has_no_work.ensures ∙ no_work in absurd cc

pub returns-in_err-reaction-clause-memory : goal.returns-in_err-reaction-clause-memory
returns-in_err-reaction-clause-memory g c = λ e. inl (c.in_err-reaction.ensures.err, refl)

pub returns-in_err-exchange_all-clause-none : goal.returns-in_err-exchange_all-clause-none
returns-in_err-exchange_all-clause-none g c = λ no_work. let e : false ≡ true = sym c.if-has_no_work.false ∙ c.has_no_work.ensures ∙ no_work in absurd cc

pub returns-in_err-exchange_all-clause-stalled : goal.returns-in_err-exchange_all-clause-stalled
returns-in_err-exchange_all-clause-stalled g c = λ e.
    let p = err_from_is_err_and c.from_residual-in_err-exchange_all.result c.from_residual-in_err-exchange_all.ensures.1 in
    let h : c.in_err-exchange_all.field-0.0 ≡ Stalled = err_is _ _ _ _ p.1 p.2 e in
    let w = c.in_err-exchange_all.ensures.stalled (ap Err h) in
    let same = same_scheme g.S.Sealer.cipher c.args.core.now c.reopen.new.core c.reopen.ensures.kept in
    record {
      sendings = w.0;
      mid = w.1;
      went = record {
        reopened = c.reopen.new.core.state;
        resumes = c.in_ok-reaction.ensures.ok;
        sent = subst (λ (u : Scheme). AllSentFrom u g.L.Link.calls first_retries most_retries (c.reopen.new.core.state, c.args.link.now) w.0 w.1) same w.3;
      };
      last = w.2;
      tried = subst (λ (u : Scheme). IsSent u g.L.Link.calls (retries_now w.0) w.1 w.2 (c.exchange_all.new.core.state, c.exchange_all.new.link)) same w.4;
      stuck = w.5;
    }

pub returns-in_err-exchange_all-clause-left : goal.returns-in_err-exchange_all-clause-left
returns-in_err-exchange_all-clause-left g c = λ e.
    let p = err_from_is_err_and c.from_residual-in_err-exchange_all.result c.from_residual-in_err-exchange_all.ensures.1 in
    let h : c.in_err-exchange_all.field-0.0 ≡ Stalled = err_is _ _ _ _ p.1 p.2 e in
    c.in_err-exchange_all.ensures.left (ap Err h)

pub returns-in_err-exchange_all-clause-memory : goal.returns-in_err-exchange_all-clause-memory
returns-in_err-exchange_all-clause-memory g c = λ e.
    let p = err_from_is_err_and c.from_residual-in_err-exchange_all.result c.from_residual-in_err-exchange_all.ensures.1 in
    let h : c.in_err-exchange_all.field-0.0 ≡ OutOfMemory = err_is _ _ _ _ p.1 p.2 e in
    let w = c.in_err-exchange_all.ensures.memory (ap Err h) in
    let same = same_scheme g.S.Sealer.cipher c.args.core.now c.reopen.new.core c.reopen.ensures.kept in
    inr (record {
      sendings = w.0;
      mid = w.1;
      went = record {
        reopened = c.reopen.new.core.state;
        resumes = c.in_ok-reaction.ensures.ok;
        sent = subst (λ (u : Scheme). AllSentFrom u g.L.Link.calls first_retries most_retries (c.reopen.new.core.state, c.args.link.now) w.0 w.1) same w.3;
      };
      last = w.2;
      cut = subst (λ (u : Scheme). IsCutOff u g.L.Link.calls (retries_now w.0) w.1 w.2 (c.exchange_all.new.core.state, c.exchange_all.new.link)) same w.4;
    })

pub returns-clause-none : goal.returns-clause-none
returns-clause-none g c = λ no_work. let e : false ≡ true = sym c.if-has_no_work.false ∙ c.has_no_work.ensures ∙ no_work in absurd cc

pub returns-clause-ok : goal.returns-clause-ok
returns-clause-ok g c = λ _.
    let w = c.in_ok-exchange_all.ensures.ok in
    let same = same_scheme g.S.Sealer.cipher c.args.core.now c.reopen.new.core c.reopen.ensures.kept in (
      w.0,
      w.1 ∙ ap length c.in_ok-reaction.ensures.queue ∙ sym c.waiting-waiting.ensures,
      record {
        reopened = c.reopen.new.core.state;
        resumes = c.in_ok-reaction.ensures.ok;
        sent = subst (λ (u : Scheme). AllSentFrom u g.L.Link.calls first_retries most_retries (c.reopen.new.core.state, c.args.link.now) w.0 (c.exchange_all.new.core.state, c.exchange_all.new.link)) same w.3;
      },
    )
