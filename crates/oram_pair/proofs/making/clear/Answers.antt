use Rattle.oram_pair.proofs.Makings.{grows_none, grows_once, grows_twice}
use Rattle.oram_pair.proofs.making.clear.Goals as goal

pub returns-in_err-look-clause-grows : goal.returns-in_err-look-clause-grows
returns-in_err-look-clause-grows c = grows_none _ _ c.in_err-look.ensures.err

pub returns-in_err-take-in-Leftover-clause-grows : goal.returns-in_err-take-in-Leftover-clause-grows
returns-in_err-take-in-Leftover-clause-grows c = grows_twice _ _ _ _ _ c.in_ok-look.ensures.noted c.take.ensures

pub returns-in-Nothing-clause-grows : goal.returns-in-Nothing-clause-grows
returns-in-Nothing-clause-grows c = grows_once _ _ _ c.in_ok-look.ensures.noted

pub returns-in_ok-take-in-Leftover-clause-grows : goal.returns-in_ok-take-in-Leftover-clause-grows
returns-in_ok-take-in-Leftover-clause-grows c = grows_twice _ _ _ _ _ c.in_ok-look.ensures.noted c.take.ensures

pub returns-in-Another-clause-grows : goal.returns-in-Another-clause-grows
returns-in-Another-clause-grows c = grows_once _ _ _ c.in_ok-look.ensures.noted
