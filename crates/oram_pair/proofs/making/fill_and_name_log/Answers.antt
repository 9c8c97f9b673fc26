use Rattle.oram_pair.specs.declared.names.PairName.TheVariants.{NewFile, NewLog}
use Rattle.oram_pair.proofs.Makings.{deeds_of, filled_by, filled_on, on_err_holds, ours_by}
use Rattle.oram_pair.proofs.making.fill_and_name_log.Goals as goal

pub returns-in_err-clear-clause-ours : goal.returns-in_err-clear-clause-ours
returns-in_err-clear-clause-ours g c =
    on_err_holds c.from_residual-in_err-clear.result _ (c.clear.ensures.others NewLog (λ is. absurd cc) (ours_by NewLog _ _ _ c.fill.ensures.noted (λ is. let e = deeds_of _ _ is in absurd cc) c.requires.ours))

pub returns-in_err-clear-clause-file : goal.returns-in_err-clear-clause-file
returns-in_err-clear-clause-file g c = c.clear.ensures.others NewFile (λ is. absurd cc) (ours_by NewFile _ _ _ c.fill.ensures.noted (λ is. let e = deeds_of _ _ is in absurd cc) c.requires.file)

pub name_log-requires-clause-filled : goal.name_log-requires-clause-filled
name_log-requires-clause-filled g c = filled_on _ _ c.clear.ensures.grows (filled_by _ _ c.in_ok-files.ensures.noted c.requires.held)

pub name_log-requires-clause-ours : goal.name_log-requires-clause-ours
name_log-requires-clause-ours g c = c.clear.ensures.others NewLog (λ is. absurd cc) (ours_by NewLog _ _ _ c.fill.ensures.noted (λ is. let e = deeds_of _ _ is in absurd cc) c.requires.ours)

pub returns-in_err-name_log-clause-file : goal.returns-in_err-name_log-clause-file
returns-in_err-name_log-clause-file g c =
    c.name_log.ensures.file (c.clear.ensures.others NewFile (λ is. absurd cc) (ours_by NewFile _ _ _ c.fill.ensures.noted (λ is. let e = deeds_of _ _ is in absurd cc) c.requires.file))

pub returns-clause-file : goal.returns-clause-file
returns-clause-file g c =
    c.name_log.ensures.file (c.clear.ensures.others NewFile (λ is. absurd cc) (ours_by NewFile _ _ _ c.fill.ensures.noted (λ is. let e = deeds_of _ _ is in absurd cc) c.requires.file))
