use Rattle.std.proofs.Common.{sym, ◌∙◌, subst, arith}
use Rattle.oram_rounds.specs.PathMessages.{IsPathFetch}
use Rattle.oram_rounds.proofs.Texts.{all_at, all_next, all_whole}
use Rattle.oram_rounds.proofs.path_messages.are_path_fetches.Goals as goal

pub returns-then-not-is_path_fetch : goal.returns-then-not-is_path_fetch
returns-then-not-is_path_fetch c = (
  λ e. absurd cc,
  λ are.
      let all = c.args.bodies.now in
      let one = all_at (IsPathFetch c.args.device.now) all c.loop-body.body-index c.body-item.result c.loop-body-test.true c.body-item.is are in
      let here = subst (IsPathFetch c.args.device.now) (sym c.deref.ensures.value) one in
      absurd (let both = sym c.if-not-is_path_fetch.true ∙ c.is_path_fetch.ensures.1 here in cc),
)

pub loop-body-preserved : goal.loop-body-preserved
loop-body-preserved c =
    let all = c.args.bodies.now in
    let here = subst (IsPathFetch c.args.device.now) c.deref.ensures.value (c.is_path_fetch.ensures.0 c.if-not-is_path_fetch.false) in
    all_next (IsPathFetch c.args.device.now) all c.loop-body.body-index c.body-item.result c.loop-body-test.true c.body-item.is c.loop-body.invariant here

pub returns : goal.returns
returns c = (
  λ e. all_whole (IsPathFetch c.args.device.now) c.args.bodies.now c.loop-body.body-index (omega (arith, c.loop-body-test.false)) c.loop-body.invariant,
  λ are. cc,
)
