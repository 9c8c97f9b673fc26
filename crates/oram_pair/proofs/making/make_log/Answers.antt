use Rattle.oram_pair.specs.declared.names.PairName.TheVariants.{NewFile}
use Rattle.oram_pair.proofs.Makings.{deeds_of, grows_by, grows_on, grows_once, held_on, ours_by}
use Rattle.oram_pair.proofs.making.make_log.Goals as goal

pub returns-in_err-clear-clause-ours : goal.returns-in_err-clear-clause-ours
returns-in_err-clear-clause-ours g c =
    c.clear.ensures.others NewFile (λ is. absurd cc) (ours_by NewFile _ _ _ c.in_ok-look.ensures.noted (λ is. let e = deeds_of _ _ is in absurd cc) c.requires.ours)

pub returns-in_err-log-clause-ours : goal.returns-in_err-log-clause-ours
returns-in_err-log-clause-ours g c =
    ours_by NewFile _ _ _ c.make.ensures (λ is. let e = deeds_of _ _ is in absurd cc)
    (c.clear.ensures.others NewFile (λ is. absurd cc) (ours_by NewFile _ _ _ c.in_ok-look.ensures.noted (λ is. let e = deeds_of _ _ is in absurd cc) c.requires.ours))

pub fill_and_name_log-requires-clause-held : goal.fill_and_name_log-requires-clause-held
fill_and_name_log-requires-clause-held g c =
    held_on _ _ (grows_by _ _ _ _ c.make.ensures (grows_on _ _ _ (grows_once _ _ _ c.in_ok-look.ensures.noted) c.clear.ensures.grows)) c.requires.held

pub fill_and_name_log-requires-clause-file : goal.fill_and_name_log-requires-clause-file
fill_and_name_log-requires-clause-file g c =
    ours_by NewFile _ _ _ c.make.ensures (λ is. let e = deeds_of _ _ is in absurd cc)
    (c.clear.ensures.others NewFile (λ is. absurd cc) (ours_by NewFile _ _ _ c.in_ok-look.ensures.noted (λ is. let e = deeds_of _ _ is in absurd cc) c.requires.ours))
