use Rattle.std.proofs.Common.{◌++◌, ap, sym}
use Rattle.std.proofs.lemmas.Result.{err_from_is_err_and}
use Rattle.oram_tree.proofs.Tree.access.Goals as goal

-- a vector that was empty holds exactly what it gained
pub returns-clause-updates : goal.returns-clause-updates
returns-clause-updates g c records content stored path named =
    c.in_ok-before.ensures.updates records content stored path named c.access_to.new.out.items
    (ap (λ bytes. bytes ++ c.access_to.new.out.items) (sym c.new-records.ensures.items))

pub returns-in_err-before-clause-updates : goal.returns-in_err-before-clause-updates
returns-in_err-before-clause-updates g c records content stored path named =
    let memory = c.in_err-before.ensures.updates records content stored path named in
    let p = err_from_is_err_and c.from_residual.result c.from_residual.ensures.1 in
    rw p.1 (cc (p.2, memory))
