use Rattle.std.proofs.lemmas.Result.{err_from_is_err_and}
use Rattle.oram_host.specs.Trees.{host_of}
use Rattle.oram_host.proofs.LoadedHosts.{is_host}
use Rattle.oram_host.proofs.ReadImages.{no_fault, one_host}
use Rattle.oram_host.proofs.server.Server.load_image.Goals as goal

pub returns-in_err-trees-clause-saved : goal.returns-in_err-trees-clause-saved
returns-in_err-trees-clause-saved g c = λ host host_is held.
    let p = err_from_is_err_and c.from_residual.result c.from_residual.ensures.1 in
    rw (p.1, p.2) (no_fault c.in_err-trees.field-0.0 _ host host_is held c.in_err-trees.ensures.fault)

pub returns-clause-host : goal.returns-clause-host
returns-clause-host g c = is_host c.in_ok-trees.trees c.in_ok-trees.ensures.trees

pub returns-clause-saved : goal.returns-clause-saved
returns-clause-saved g c = λ host host_is held.
    let trees = c.in_ok-trees.trees in
    one_host _ _ (host_of trees) host c.in_ok-trees.ensures.ok c.in_ok-trees.ensures.end (is_host trees c.in_ok-trees.ensures.trees) host_is held
