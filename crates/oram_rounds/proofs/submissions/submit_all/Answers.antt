use Rattle.std.proofs.Common.{◌≡◌, ◌∙◌, [], ◌∷◌, ◌++◌, ◌*◌, List, length, count_by, rules, sym, subst}
use Rattle.std.proofs.lemmas.Result.{err_from_is_err_and}
use Rattle.oram_geometry.specs.Sizes.{trees_of}
use Rattle.oram_semantics.specs.Run.{is_accepted}
use Rattle.oram_semantics.specs.declared.events.Note.{Note}
use Rattle.oram_core.specs.Core.{scheme_of}
use Rattle.oram_session.proofs.CoreSteps.{same_trans}
use Rattle.oram_rounds.proofs.AllSubmitted.{HasSubmitted, HasBegun, submitted_more, begun_more, count_more, first_or_same}
use Rattle.oram_rounds.proofs.submissions.submit_all.Goals as goal

pub returns-in_err-push-clause-err : goal.returns-in_err-push-clause-err
returns-in_err-push-clause-err g c =
    let p = err_from_is_err_and c.from_residual-in_err-push.result c.from_residual-in_err-push.ensures.1 in
    let k = c.loop-command.invariant in
    let size : 2 * c.from-count.result ≡ 2 * trees_of c.args.core.now.device = search rules in
    let next : c.loop-command.command-iterator.rest.items ≡ c.in-Some.command ∷ c.next.new.self.rest.items = search rules in
    let more = submitted_more g.S.Sealer.cipher c.args.core.now c.loop-command.core c.args.session c.in-Some.command (g.T.Tape.words c.loop-command.tape) _ c.in_ok-reaction.reaction
    c.submit_next.new.core.state k.kept c.in_ok-reaction.ensures.ok _ _ _ _ _ k.tape size next k.submitted in
    rw p.1 (more.submitted, c.next.new.self.rest.items, more.in_order, more.chain)

pub loop-command-preserved : goal.loop-command-preserved
loop-command-preserved g c =
    let k = c.loop-command.invariant in
    let start = c.args.core.now in
    let now = c.loop-command.core in
    let after = c.submit_next.new.core in
    let v = scheme_of g.S.Sealer.cipher start in
    let words = g.T.Tape.words c.args.tape.now in
    let later = g.T.Tape.words c.loop-command.tape in
    let r = c.in_ok-reaction.reaction in
    let rest = c.next.new.self.rest.items in
    let step = c.in_ok-reaction.ensures.ok in
    let size : 2 * c.from-count.result ≡ 2 * trees_of start.device = search rules in
    let next : c.loop-command.command-iterator.rest.items ≡ c.in-Some.command ∷ rest = search rules in
    let noted : c.loop-command.notes.items ++ r.note ∷ [] ≡ c.push.new.self.items = sym c.in_ok-push.ensures.items in
    record {
      kept = same_trans start now after k.kept c.submit_next.ensures.kept;
      noted = λ table noted. c.submit_next.ensures.noted table (k.noted table noted);
      quiet = c.submit_next.ensures.quiet ∙ k.quiet;
      tape = c.submit_next.ensures.tape ∙ k.tape;
      submitted = subst (λ (ns : List Note). HasSubmitted v words c.args.session c.args.commands.items rest start.state ns after.state) noted
          (submitted_more g.S.Sealer.cipher start now c.args.session c.in-Some.command later _ r after.state k.kept step words _ _ _ _ k.tape size next k.submitted);
      count = subst (λ (ns : List Note). length after.state.queue ≡ count_by is_accepted ns) noted
          (count_more g.S.Sealer.cipher start now c.args.session c.in-Some.command later _ r after.state k.kept step c.loop-command.notes.items k.count);
      begun = subst (λ (ns : List Note). HasBegun start.state c.first_accepted-begun.result (count_by is_accepted ns) after.state) noted
          (begun_more g.S.Sealer.cipher start now c.args.session c.in-Some.command later _ r after.state k.kept step c.loop-command.notes.items c.loop-command.begun _ c.device.ensures.sound c.requires
          c.first_accepted-begun.ensures k.begun);
    }

pub returns-in_err-reaction-clause-noted : goal.returns-in_err-reaction-clause-noted
returns-in_err-reaction-clause-noted g c = λ table noted. c.submit_next.ensures.noted table (c.loop-command.invariant.noted table noted)

pub returns-in_err-push-clause-noted : goal.returns-in_err-push-clause-noted
returns-in_err-push-clause-noted g c = λ table noted. c.submit_next.ensures.noted table (c.loop-command.invariant.noted table noted)

pub returns-clause-first : goal.returns-clause-first
returns-clause-first g c =
    let k = c.loop-command.invariant in
    first_or_same c.args.core.now c.loop-command.core c.loop-command.begun _ k.kept k.quiet k.begun
