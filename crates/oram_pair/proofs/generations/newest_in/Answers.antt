use Rattle.oram_pair.proofs.GenerationFields.{is_said, newest_if, none_said}
use Rattle.oram_pair.proofs.generations.newest_in.Goals as goal

pub returns-clause-newest : goal.returns-clause-newest
returns-clause-newest c =
    let letters = c.args.letters.now in
    let identity = c.args.identity.now in
    let front = c.args.front.now in
    newest_if letters identity front c.number_in.result c.number_in-2.result c.newest_of.result (is_said letters identity front 32 c.number_in.result c.number_in.ensures.sound c.number_in.ensures.spoilt)
    (is_said letters identity front 48 c.number_in-2.result c.number_in-2.ensures.sound c.number_in-2.ensures.spoilt) c.newest_of.ensures.some

pub returns-clause-none : goal.returns-clause-none
returns-clause-none c =
    let letters = c.args.letters.now in
    let identity = c.args.identity.now in
    let front = c.args.front.now in
    none_said letters identity front c.number_in.result c.number_in-2.result c.newest_of.result (is_said letters identity front 32 c.number_in.result c.number_in.ensures.sound c.number_in.ensures.spoilt)
    (is_said letters identity front 48 c.number_in-2.result c.number_in-2.ensures.sound c.number_in-2.ensures.spoilt) c.newest_of.ensures.none
