use Rattle.std.proofs.Common.{subst, sym, List}
use Rattle.oram_redo.specs.Calls.{calls_of}
use Rattle.oram_redo.specs.Note.{Call}
use Rattle.oram_redo.specs.System.{TouchedNothing}
use Rattle.oram_redo.specs.declared.file_pair.FileKind.TheVariants.{Log}
use Rattle.oram_redo.proofs.Touched.{touched_length, touched_none}
use Rattle.oram_redo.proofs.growth.grow.Goals as goal

pub returns-then-more-eq0 : goal.returns-then-more-eq0
returns-then-more-eq0 c first file at n = touched_none first file at n (calls_of c.args.files.now)

pub returns-in_default : goal.returns-in_default
returns-in_default c = subst (λ (l : List Call). TouchedNothing (calls_of c.args.files.now) l) (sym c.in_default.ensures.err) (λ first file at n. touched_none first file at n (calls_of c.args.files.now))

pub returns : goal.returns
returns c = touched_length (calls_of c.args.files.now) (calls_of c.len.new.self) Log c.in-Ok.len c.in-Ok.ensures.noted
