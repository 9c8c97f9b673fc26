use Rattle.std.proofs.Common.{◌≡◌, ◌++◌, List, [], ℕ, ◌+◌, arith, length, ap, ◌∙◌, sym, subst, refl, length-append}
use Rattle.std.proofs.lemmas.List.{map-append}
use Rattle.std.proofs.lemmas.Result.{err_from_is_err_and}
use Rattle.std.specs.Global.{Vec}
use Rattle.oram_link_laws.specs.Runs.{LinkRun, bodies_of}
use Rattle.oram_rounds.specs.Batches.{answered, texts}
use Rattle.oram_rounds.proofs.Tries.{HasTried, among_whole, answered_tried, both_run, more_tried}
use Rattle.oram_rounds.proofs.one_by_one.OneByOneBatchLink.call_all.Goals as goal

pub returns-in_err-answers : goal.returns-in_err-answers
returns-in_err-answers g c =
    let p = err_from_is_err_and c.from_residual.result c.from_residual.ensures.1 in
    let tried = c.in_err-answers.ensures.err in
    (tried.0, (tried.1, rw p.1 (among_whole (bodies_of tried.0) (texts c.args.first.now) (texts c.args.last.now) tried.2)))

pub returns-in_err-later : goal.returns-in_err-later
returns-in_err-later g c =
    let p = err_from_is_err_and c.from_residual-in_err-later.result c.from_residual-in_err-later.ensures.1 in
    let tried : HasTried g.L.Link.calls (texts c.args.first.now ++ texts c.args.last.now) c.args.self.now.link c.call_each-2.new.link =
    more_tried g.L.Link.calls (texts c.args.first.now) (texts c.args.last.now) (texts c.in_ok-answers.answers.items) c.args.self.now.link c.call_each.new.link c.call_each-2.new.link
    c.in_ok-answers.ensures.ok c.in_err-later.ensures.err in
    (tried.0, (tried.1, rw p.1 tried.2))

pub returns-in_err-append : goal.returns-in_err-append
returns-in_err-append g c =
    let p = err_from_is_err_and c.from_residual-in_err-append.result c.from_residual-in_err-append.ensures.1 in
    let later = answered_tried g.L.Link.calls (texts c.args.last.now) (texts c.in_ok-later.later.items) c.call_each.new.link c.call_each-2.new.link c.in_ok-later.ensures.ok in
    let tried : HasTried g.L.Link.calls (texts c.args.first.now ++ texts c.args.last.now) c.args.self.now.link c.call_each-2.new.link =
    more_tried g.L.Link.calls (texts c.args.first.now) (texts c.args.last.now) (texts c.in_ok-answers.answers.items) c.args.self.now.link c.call_each.new.link c.call_each-2.new.link
    c.in_ok-answers.ensures.ok later in
    (tried.0, (tried.1, rw p.1 tried.2))

pub returns : goal.returns
returns g c =
    let first = texts c.args.first.now in
    let last = texts c.args.last.now in
    let answers = c.in_ok-answers.answers.items in
    let later = c.in_ok-later.later.items in
    let given : List (List ℕ) = texts c.append.new.self.items in
    let joined : given ≡ texts answers ++ texts later = ap texts c.in_ok-append.ensures.items ∙ map-append (λ (v : Vec ℕ). v.items) answers later in
    let count : length (texts answers) ≡ length first = c.in_ok-answers.ensures.count in
    let count_later : length (texts later) ≡ length last = c.in_ok-later.ensures.count in
    let ran : LinkRun g.L.Link.calls c.args.self.now.link (answered (first ++ last) (texts answers ++ texts later)) c.call_each-2.new.link =
    both_run g.L.Link.calls first (texts answers) last (texts later) c.args.self.now.link c.call_each.new.link c.call_each-2.new.link count c.in_ok-answers.ensures.ok c.in_ok-later.ensures.ok in
    let long : length given ≡ length (first ++ last) =
    ap length joined ∙ length-append (texts answers) (texts later) ∙ (let all : length (texts answers) + length (texts later) ≡ length first + length last = omega (arith, count, count_later) in all)
    ∙ sym (length-append first last) in
    (answered (first ++ last) given, (subst (λ (as' : List (List ℕ)). LinkRun g.L.Link.calls c.args.self.now.link (answered (first ++ last) as') c.call_each-2.new.link) (sym joined) ran, (long, [], tt, refl)))
