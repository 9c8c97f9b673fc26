use Rattle.std.proofs.Common.{◌++◌}
use Rattle.std.proofs.KnownBytes.{Appends-kept}
use Rattle.std.proofs.lemmas.Result.{MatchResult-weaker}
use Rattle.oram_nbd.proofs.Pieces.{begun_all}
use Rattle.oram_nbd.proofs.streams.send.Goals as goal

pub returns-clause-err : goal.returns-clause-err
returns-clause-err g c =
    MatchResult-weaker c.flush.result c.flush.ensures.err (λ x h. tt) (λ f is. (is, begun_all _ _ (c.args.head.now ++ c.args.rest.now) (Appends-kept _ _ _ _ c.in_ok-put.ensures.ok c.flush.ensures.keeps)))
