use Rattle.std.proofs.Common.{sym, ◌∙◌, subst, arith}
use Rattle.oram_rounds.specs.PathMessages.{IsPathStore}
use Rattle.oram_rounds.proofs.Texts.{all_at, all_next, all_whole}
use Rattle.oram_rounds.proofs.path_messages.are_path_stores.Goals as goal

pub returns-then-not-is_path_store : goal.returns-then-not-is_path_store
returns-then-not-is_path_store c = (
  λ e. absurd cc,
  λ are.
      let all = c.args.bodies.now in
      let one = all_at (IsPathStore c.args.device.now c.args.record_len) all c.loop-body.body-index c.body-item.result c.loop-body-test.true c.body-item.is are in
      let here = subst (IsPathStore c.args.device.now c.args.record_len) (sym c.deref.ensures.value) one in
      absurd (let both = sym c.if-not-is_path_store.true ∙ c.is_path_store.ensures.1 here in cc),
)

pub loop-body-preserved : goal.loop-body-preserved
loop-body-preserved c =
    let all = c.args.bodies.now in
    let here = subst (IsPathStore c.args.device.now c.args.record_len) c.deref.ensures.value (c.is_path_store.ensures.0 c.if-not-is_path_store.false) in
    all_next (IsPathStore c.args.device.now c.args.record_len) all c.loop-body.body-index c.body-item.result c.loop-body-test.true c.body-item.is c.loop-body.invariant here

pub returns : goal.returns
returns c = (
  λ e. all_whole (IsPathStore c.args.device.now c.args.record_len) c.args.bodies.now c.loop-body.body-index (omega (arith, c.loop-body-test.false)) c.loop-body.invariant,
  λ are. cc,
)
