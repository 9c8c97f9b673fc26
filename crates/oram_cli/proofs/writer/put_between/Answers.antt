use Rattle.std.proofs.Common.{◌++◌, refl}
use Rattle.oram_host.proofs.Transfers.{begun_first, begun_last}
use Rattle.oram_cli.proofs.writer.put_between.Goals as goal

pub returns-in_err-put_both-clause-begun : goal.returns-in_err-put_both-clause-begun
returns-in_err-put_both-clause-begun g c = begun_first _ _ (c.args.front.now ++ c.args.text.now) c.args.rest.now _ c.put_both.ensures.begun refl

pub returns-clause-begun : goal.returns-clause-begun
returns-clause-begun g c = begun_last _ _ _ (c.args.front.now ++ c.args.text.now) c.args.rest.now c.in_ok-put_both.ensures.ok c.put.ensures.begun
