use Rattle.std.proofs.Common.{◌≡◌, ◌⊎◌, ℕ, List, true, false, sym, ◌∙◌, subst}
use Rattle.std.specs.Global.{Vec}
use Rattle.oram_core.specs.Core.{scheme_of}
use Rattle.oram_link_laws.specs.Runs.{Exchange}
use Rattle.oram_rounds.specs.Batches.{texts}
use Rattle.oram_rounds.specs.Rounds.{WentAhead}
use Rattle.oram_rounds.proofs.Begun.{if_err, if_ok, not_begun_talks}
use Rattle.oram_rounds.proofs.exchanges.carry_out_ahead.Goals as goal

pub returns-clause-ok : goal.returns-clause-ok
returns-clause-ok g c =
    let batches = g.B.BatchLink.batches in
    let v = scheme_of g.S.Sealer.cipher c.args.core.now in
    let fetches = texts c.args.fetches.items in
    let l = c.args.link.now in
    let m = c.begin_ahead.new.self in
    let n = c.go_ahead.new.self in
    let not = subst (λ (all : List (Vec ℕ)). (m ≡ l) ⊎ ((before : List Exchange) × WentAhead batches l (texts all) before m)) c.deref.ensures.value
    (c.begin_ahead.ensures.broken (λ yes. absurd (let both : true ≡ false = sym yes ∙ c.if-begin_ahead.false in cc))) in
    let sent = c.go_ahead.ensures in
    if_ok c.carry_out_all.result _ _
    (λ replies talked. not_begun_talks v batches c.args.core.now.state c.carry_out_all.new.core.state l m n c.carry_out_all.new.link fetches sent.0 replies.items c.requires.next not sent.1 talked) c.carry_out_all.ensures.ok

pub returns-clause-err : goal.returns-clause-err
returns-clause-err g c =
    let batches = g.B.BatchLink.batches in
    let v = scheme_of g.S.Sealer.cipher c.args.core.now in
    let fetches = texts c.args.fetches.items in
    let l = c.args.link.now in
    let m = c.begin_ahead.new.self in
    let n = c.go_ahead.new.self in
    let not = subst (λ (all : List (Vec ℕ)). (m ≡ l) ⊎ ((before : List Exchange) × WentAhead batches l (texts all) before m)) c.deref.ensures.value
    (c.begin_ahead.ensures.broken (λ yes. absurd (let both : true ≡ false = sym yes ∙ c.if-begin_ahead.false in cc))) in
    let sent = c.go_ahead.ensures in
    if_err c.carry_out_all.result _ _
    (λ last. (last.0, not_begun_talks v batches c.args.core.now.state c.carry_out_all.new.core.state l m n c.carry_out_all.new.link fetches sent.0 last.0 c.requires.next not sent.1 last.1)) c.carry_out_all.ensures.err
