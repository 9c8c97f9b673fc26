use Rattle.std.proofs.Common.{◌++◌}
use Rattle.std.specs.Prelude.{codes}
use Rattle.std.specs.Int.{w32, to_be_bytes}
use Rattle.std.proofs.KnownBytes.{Consumes-trans}
use Rattle.std.proofs.lemmas.Result.{err_from_is_err_and}
use Rattle.oram_host.specs.Image.{image}
use Rattle.oram_host.specs.ImageReader.{after_end, after_letters, after_version, host_in, next_entries, next_tree}
use Rattle.oram_host.specs.Trees.{host_of}
use Rattle.oram_host.proofs.LoadedHosts.{is_host}
use Rattle.oram_host.proofs.FieldReads.{fails_after, fails_first}
use Rattle.oram_host.proofs.ReadImages.{host_first, host_longer, host_trees, host_version}
use Rattle.oram_host.proofs.Transfers.{taken_twice}
use Rattle.oram_host.proofs.images.reader.load_trees.Goals as goal

pub returns-in_err-read_letters-clause-fault : goal.returns-in_err-read_letters-clause-fault
returns-in_err-read_letters-clause-fault g c =
    let p = err_from_is_err_and c.from_residual.result c.from_residual.ensures.1 in
    let why = c.in_err-read_letters.field-0.0 in
    rw (p.1, p.2) (fails_first why _ after_letters host_in (λ text e. host_first text why e) c.in_err-read_letters.ensures.fault)

pub returns-in_err-read_version-clause-fault : goal.returns-in_err-read_version-clause-fault
returns-in_err-read_version-clause-fault g c =
    let p = err_from_is_err_and c.from_residual-in_err-read_version.result c.from_residual-in_err-read_version.ensures.1 in
    let why = c.in_err-read_version.field-0.0 in
    rw (p.1, p.2) (fails_after why _ _ (codes "ORAMHOST") after_version host_in c.in_ok-read_letters.ensures.ok (λ rest e. host_version rest why e) c.in_err-read_version.ensures.fault)

pub returns-in_err-trees-clause-fault : goal.returns-in_err-trees-clause-fault
returns-in_err-trees-clause-fault g c =
    let p = err_from_is_err_and c.from_residual-in_err-trees.result c.from_residual-in_err-trees.ensures.1 in
    let why = c.in_err-trees.field-0.0 in
    rw (p.1, p.2) (fails_after why _ _ (codes "ORAMHOST" ++ to_be_bytes w32 1) (next_entries 256 next_tree) host_in (Consumes-trans _ _ _ _ _ c.in_ok-read_letters.ensures.ok c.in_ok-read_version.ensures.ok)
    (λ rest e. host_trees rest why e) c.in_err-trees.ensures.fault)

pub returns-in_err-read_end-clause-fault : goal.returns-in_err-read_end-clause-fault
returns-in_err-read_end-clause-fault g c =
    let p = err_from_is_err_and c.from_residual-in_err-read_end.result c.from_residual-in_err-read_end.ensures.1 in
    let why = c.in_err-read_end.field-0.0 in
    let host = host_of c.in_ok-trees.trees in
    let head = Consumes-trans _ _ _ (codes "ORAMHOST") (to_be_bytes w32 1) c.in_ok-read_letters.ensures.ok c.in_ok-read_version.ensures.ok in
    rw (p.1, p.2) (fails_after why _ _ (image host) after_end host_in (Consumes-trans _ _ _ _ _ head c.in_ok-trees.ensures.ok)
    (λ rest e. host_longer host rest why (is_host c.in_ok-trees.trees c.in_ok-trees.ensures.trees) e) c.in_err-read_end.ensures.fault)

pub returns-in_err-read_version-clause-consumed : goal.returns-in_err-read_version-clause-consumed
returns-in_err-read_version-clause-consumed g c = taken_twice _ _ _ c.read_letters.ensures.consumed c.read_version.ensures.consumed

pub returns-in_err-trees-clause-consumed : goal.returns-in_err-trees-clause-consumed
returns-in_err-trees-clause-consumed g c = taken_twice _ _ _ (taken_twice _ _ _ c.read_letters.ensures.consumed c.read_version.ensures.consumed) c.load_each_tree.ensures.consumed

pub returns-in_err-read_end-clause-consumed : goal.returns-in_err-read_end-clause-consumed
returns-in_err-read_end-clause-consumed g c = taken_twice _ _ _ (taken_twice _ _ _ (taken_twice _ _ _ c.read_letters.ensures.consumed c.read_version.ensures.consumed) c.load_each_tree.ensures.consumed) c.read_end.ensures.consumed

pub returns-clause-consumed : goal.returns-clause-consumed
returns-clause-consumed g c = taken_twice _ _ _ (taken_twice _ _ _ (taken_twice _ _ _ c.read_letters.ensures.consumed c.read_version.ensures.consumed) c.load_each_tree.ensures.consumed) c.read_end.ensures.consumed
