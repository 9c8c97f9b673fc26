use Rattle.std.proofs.Common.{List, subst, sym}
use Rattle.oram_redo.specs.Calls.{calls_of}
use Rattle.oram_redo.specs.Fronts.{front_writes_of}
use Rattle.oram_redo.specs.Note.{Call}
use Rattle.oram_redo.specs.System.{TouchedNothing}
use Rattle.oram_redo.proofs.FrontWrites.{log_written, on_ok_then, records_written}
use Rattle.oram_redo.proofs.Touched.{touched_none}
use Rattle.oram_redo.proofs.system.write_with_length.Goals as goal

pub returns-in_err-write_front-clause-nothing : goal.returns-in_err-write_front-clause-nothing
returns-in_err-write_front-clause-nothing c =
    subst (λ (l : List Call). TouchedNothing (calls_of c.args.files.now) l) (sym c.write_front.ensures.calls) (λ first file at n. touched_none first file at n (calls_of c.args.files.now))

pub returns-in-Records-clause-written : goal.returns-in-Records-clause-written
returns-in-Records-clause-written c =
    on_ok_then c.say_length.result _ _ (λ said.
    records_written c.args.file c.args.at c.args.bytes.now (calls_of c.args.files.now) (calls_of c.write_front.new.files) (calls_of c.say_length.new.files) (front_writes_of c.args.files.now) (front_writes_of c.write_front.new.files) (front_writes_of c.say_length.new.files) c.in-Records.is c.write_front.ensures.calls c.in_ok-write_front.ensures.written said) c.say_length.ensures.said

pub returns-in-Records-clause-nothing : goal.returns-in-Records-clause-nothing
returns-in-Records-clause-nothing c = subst (λ (l : List Call). TouchedNothing l (calls_of c.say_length.new.files)) c.write_front.ensures.calls c.say_length.ensures.nothing

pub returns-in-Log-clause-written : goal.returns-in-Log-clause-written
returns-in-Log-clause-written c = log_written c.args.file c.args.at c.args.bytes.now (calls_of c.args.files.now) (calls_of c.write_front.new.files) (front_writes_of c.args.files.now) (front_writes_of c.write_front.new.files) c.in-Log.is c.in_ok-write_front.ensures.written

pub returns-in-Log-clause-nothing : goal.returns-in-Log-clause-nothing
returns-in-Log-clause-nothing c =
    subst (λ (l : List Call). TouchedNothing (calls_of c.args.files.now) l) (sym c.write_front.ensures.calls) (λ first file at n. touched_none first file at n (calls_of c.args.files.now))
