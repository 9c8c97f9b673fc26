use Rattle.std.proofs.Common.{ℕ, List, sym, subst}
use Rattle.std.proofs.lemmas.Result.{err_from_is_err_and}
use Rattle.oram_redo.specs.Content.{Has, put}
use Rattle.oram_redo.specs.declared.file_pair.FileKind.TheVariants.{Records}
use Rattle.oram_redo.proofs.Bytes.{has-put}
use Rattle.oram_redo.proofs.Outcomes.{if_ok_none}
use Rattle.oram_store.proofs.Recovery.{not_read, not_recovered, not_trees, opens_on}
use Rattle.oram_store.proofs.creation.recover_trees.Goals as goal

pub returns-in_err-redo-clause-err : goal.returns-in_err-redo-clause-err
returns-in_err-redo-clause-err g c =
    let p = err_from_is_err_and c.from_residual.result c.from_residual.ensures.1 in
    rw (p.1, p.2) (not_recovered g.F.FilePair.model
    c.in_err-redo.field-0.0 c.args.files.now c.recover.new.files c.in_err-redo.ensures.errors c.recover.ensures.after c.recover.ensures.any_moment
    (λ honest is. c.in_err-redo.ensures.damaged honest (cc is)) (λ is. c.in_err-redo.ensures.failed (cc is)))

pub returns-in_err-entries-clause-any_moment : goal.returns-in_err-entries-clause-any_moment
returns-in_err-entries-clause-any_moment g c honest =
    opens_on g.F.FilePair.model c.args.files.now c.recover.new.files c.read_entries.new.files
    (c.recover.ensures.any_moment (c.read_entries.ensures.after.honest honest)) c.read_entries.ensures.nothing_written (g.met.F.FilePair.counts_now c.recover.new.files)

pub returns-in_err-entries-clause-err : goal.returns-in_err-entries-clause-err
returns-in_err-entries-clause-err g c =
    let p = err_from_is_err_and c.from_residual-in_err-entries.result c.from_residual-in_err-entries.ensures.1 in
    rw (p.1, p.2) (not_read g.F.FilePair.model
    c.in_err-entries.field-0.0 c.args.files.now c.recover.new.files c.read_entries.new.files c.in_err-entries.ensures.errors c.recover.ensures.after c.read_entries.ensures.after
    (returns-in_err-entries-clause-any_moment g c) (λ is. c.in_err-entries.ensures.failed (cc is)))

pub returns-in_err-trees-clause-any_moment : goal.returns-in_err-trees-clause-any_moment
returns-in_err-trees-clause-any_moment g c honest =
    opens_on g.F.FilePair.model c.args.files.now c.recover.new.files c.read_entries.new.files
    (c.recover.ensures.any_moment (c.read_entries.ensures.after.honest honest)) c.read_entries.ensures.nothing_written (g.met.F.FilePair.counts_now c.recover.new.files)

pub returns-in_err-trees-clause-err : goal.returns-in_err-trees-clause-err
returns-in_err-trees-clause-err g c =
    let p = err_from_is_err_and c.from_residual-in_err-trees.result c.from_residual-in_err-trees.ensures.1 in
    rw (p.1, p.2) (not_trees g.F.FilePair.model
    c.in_err-trees.field-0.0 c.deref.result.now c.args.files.now c.recover.new.files c.read_entries.new.files c.recover.ensures.after c.read_entries.ensures.after
    (returns-in_err-trees-clause-any_moment g c) c.in_ok-redo.ensures.records (λ honest. subst (λ (bytes : List ℕ). Has bytes 4096 (g.F.FilePair.model.seen c.recover.new.files Records)) (sym c.deref.ensures.value) (c.in_ok-entries.ensures.entries honest))
    (λ is. c.in_err-trees.ensures.damaged (cc is)))

pub returns-clause-all : goal.returns-clause-all
returns-clause-all g c = (c.in_ok-trees.ensures.trees (put c.deref.result.now 4096 (λ i. 0)) (has-put c.deref.result.now 4096 (λ i. 0))).all

pub returns-clause-any_moment : goal.returns-clause-any_moment
returns-clause-any_moment g c honest =
    opens_on g.F.FilePair.model c.args.files.now c.recover.new.files c.read_entries.new.files
    (c.recover.ensures.any_moment (c.read_entries.ensures.after.honest honest)) c.read_entries.ensures.nothing_written (g.met.F.FilePair.counts_now c.recover.new.files)

pub returns-in_err-redo-clause-opened : goal.returns-in_err-redo-clause-opened
returns-in_err-redo-clause-opened g c = if_ok_none c.from_residual.result _ c.from_residual.ensures.0

pub returns-in_err-redo-clause-bounds : goal.returns-in_err-redo-clause-bounds
returns-in_err-redo-clause-bounds g c = if_ok_none c.from_residual.result _ c.from_residual.ensures.0

pub returns-in_err-redo-clause-all : goal.returns-in_err-redo-clause-all
returns-in_err-redo-clause-all g c = if_ok_none c.from_residual.result _ c.from_residual.ensures.0

pub returns-in_err-entries-clause-opened : goal.returns-in_err-entries-clause-opened
returns-in_err-entries-clause-opened g c = if_ok_none c.from_residual-in_err-entries.result _ c.from_residual-in_err-entries.ensures.0

pub returns-in_err-entries-clause-bounds : goal.returns-in_err-entries-clause-bounds
returns-in_err-entries-clause-bounds g c = if_ok_none c.from_residual-in_err-entries.result _ c.from_residual-in_err-entries.ensures.0

pub returns-in_err-entries-clause-all : goal.returns-in_err-entries-clause-all
returns-in_err-entries-clause-all g c = if_ok_none c.from_residual-in_err-entries.result _ c.from_residual-in_err-entries.ensures.0

pub returns-in_err-trees-clause-opened : goal.returns-in_err-trees-clause-opened
returns-in_err-trees-clause-opened g c = if_ok_none c.from_residual-in_err-trees.result _ c.from_residual-in_err-trees.ensures.0

pub returns-in_err-trees-clause-bounds : goal.returns-in_err-trees-clause-bounds
returns-in_err-trees-clause-bounds g c = if_ok_none c.from_residual-in_err-trees.result _ c.from_residual-in_err-trees.ensures.0

pub returns-in_err-trees-clause-all : goal.returns-in_err-trees-clause-all
returns-in_err-trees-clause-all g c = if_ok_none c.from_residual-in_err-trees.result _ c.from_residual-in_err-trees.ensures.0

pub returns-in_err-redo-clause-after : goal.returns-in_err-redo-clause-after
returns-in_err-redo-clause-after g c = c.recover.ensures.after
