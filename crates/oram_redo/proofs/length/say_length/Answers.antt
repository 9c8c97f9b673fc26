use Rattle.std.proofs.Common.{◌∙◌, List, subst, sym}
use Rattle.oram_redo.specs.Calls.{calls_of}
use Rattle.oram_redo.specs.Fronts.{front_writes_of}
use Rattle.oram_redo.specs.Note.{Call}
use Rattle.oram_redo.specs.System.{TouchedNothing}
use Rattle.oram_redo.specs.declared.file_pair.FileKind.TheVariants.{Records}
use Rattle.oram_redo.proofs.FrontWrites.{on_ok_then, says_last}
use Rattle.oram_redo.proofs.Touched.{touched_length, touched_none}
use Rattle.oram_redo.proofs.length.say_length.Goals as goal

pub returns-in_err-len-clause-nothing : goal.returns-in_err-len-clause-nothing
returns-in_err-len-clause-nothing c =
    subst (λ (l : List Call). TouchedNothing (calls_of c.args.files.now) l) (sym c.in_err-len.ensures.err) (λ first file at n. touched_none first file at n (calls_of c.args.files.now))

pub returns-in-Err-clause-nothing : goal.returns-in-Err-clause-nothing
returns-in-Err-clause-nothing c = touched_length (calls_of c.args.files.now) (calls_of c.write_front.new.files) Records c.in_ok-len.len (c.write_front.ensures.calls ∙ c.in_ok-len.ensures.noted)

pub returns-in_default-clause-nothing : goal.returns-in_default-clause-nothing
returns-in_default-clause-nothing c = touched_length (calls_of c.args.files.now) (calls_of c.write_front.new.files) Records c.in_ok-len.len (c.write_front.ensures.calls ∙ c.in_ok-len.ensures.noted)

pub returns-in_default-2-clause-said : goal.returns-in_default-2-clause-said
returns-in_default-2-clause-said c =
    on_ok_then c.write_front.result _ _ (λ written.
    says_last (calls_of c.args.files.now) (calls_of c.write_front.new.files) (front_writes_of c.args.files.now) (front_writes_of c.len.new.self) (front_writes_of c.write_front.new.files) c.in_ok-len.len c.field_of.result (c.write_front.ensures.calls ∙ c.in_ok-len.ensures.noted) c.len.ensures.fronts c.field_of.ensures written) c.write_front.ensures.written

pub returns-in_default-2-clause-nothing : goal.returns-in_default-2-clause-nothing
returns-in_default-2-clause-nothing c = touched_length (calls_of c.args.files.now) (calls_of c.write_front.new.files) Records c.in_ok-len.len (c.write_front.ensures.calls ∙ c.in_ok-len.ensures.noted)
