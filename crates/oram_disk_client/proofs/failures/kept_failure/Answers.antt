use Rattle.std.proofs.Common.{ℕ, List, inl, subst, ◌∙◌}
use Rattle.std.proofs.lemmas.Result.{MatchResult-weaker}
use Rattle.oram_client.specs.NamedFiles.{IsFailedCall}
use Rattle.oram_disk_client.proofs.failures.kept_failure.Goals as goal

pub returns-clause-err : goal.returns-clause-err
returns-clause-err g c =
    let name = c.as_str.ensures.value ∙ c.in_ok-name.ensures in
    MatchResult-weaker c.read_if_there.result c.read_if_there.ensures.err (λ x h. tt)
    (λ f failed. inl (subst (λ (bytes : List ℕ). IsFailedCall (g.N.NamedFiles.unread c.args.files.now) bytes f) name failed))
