use Rattle.std.proofs.Common.{List, [], ◌∷◌, true, false, Ok, subst, sym, refl, ◌∙◌, ap, arith}
use Rattle.oram_redo.specs.NamedLog.{calls_on}
use Rattle.oram_redo.specs.Note.{Call}
use Rattle.oram_redo.specs.Renewal.{IsRenewed, NeverLosesEntries}
use Rattle.oram_redo.specs.declared.file_pair.FileKind.TheVariants.{Log}
use Rattle.oram_redo.proofs.Renewals.{folder_never, folder_renewed, renamed_never, unnamed_left, unnamed_never, unnamed_then}
use Rattle.oram_redo.proofs.renewal.renew_log.Goals as goal

pub returns-in-Err-clause-any_moment : goal.returns-in-Err-clause-any_moment
returns-in-Err-clause-any_moment c = unnamed_never c.args.bounds (calls_on c.make_copy.new.named) c.in-Err.ensures.unnamed

pub returns-in-Err-clause-refused : goal.returns-in-Err-clause-refused
returns-in-Err-clause-refused c _ = unnamed_left (calls_on c.make_copy.new.named) c.in-Err.ensures.unnamed

pub returns-in-Err-2-clause-any_moment : goal.returns-in-Err-2-clause-any_moment
returns-in-Err-2-clause-any_moment c = unnamed_never c.args.bounds (calls_on c.make_copy.new.named) c.in-Err-2.ensures.unnamed

pub returns-in_err-rename-clause-any_moment : goal.returns-in_err-rename-clause-any_moment
returns-in_err-rename-clause-any_moment c =
    let made = c.in-Ok.ensures in
    subst (λ (l : List Call). NeverLosesEntries c.args.bounds l) (sym c.in_err-rename.ensures.err)
    (renamed_never c.args.bounds (calls_on c.make_copy.new.named) c.requires.room made.unnamed made.done made.synced made.copy false)

pub returns-then-not-branch-clause-any_moment : goal.returns-then-not-branch-clause-any_moment
returns-then-not-branch-clause-any_moment c =
    unnamed_never c.args.bounds (calls_on c.rename.new.self)
    (unnamed_then 7 false (calls_on c.make_copy.new.named) (calls_on c.rename.new.self) (λ is. omega (arith, is)) c.in-Ok.ensures.unnamed (c.in_ok-rename.ensures.refused (ap Ok c.if-not-branch.true)))

pub returns-then-not-branch-clause-refused : goal.returns-then-not-branch-clause-refused
returns-then-not-branch-clause-refused c _ =
    unnamed_left (calls_on c.rename.new.self)
    (unnamed_then 7 false (calls_on c.make_copy.new.named) (calls_on c.rename.new.self) (λ is. omega (arith, is)) c.in-Ok.ensures.unnamed (c.in_ok-rename.ensures.refused (ap Ok c.if-not-branch.true)))

pub returns-in_err-sync-clause-any_moment :
    goal.returns-in_err-sync-clause-any_moment
returns-in_err-sync-clause-any_moment c =
    let made = c.in-Ok.ensures in
    subst (λ (l : List Call). NeverLosesEntries c.args.bounds l) (sym (c.in_err-sync.ensures.folder refl ∙ ap (λ (l : List Call). record { kind = 6; file = Log; at = 0; is_ok = false; bytes = [] } ∷ l) (c.in_ok-rename.ensures.noted (ap Ok c.if-not-branch.false))))
    (folder_never c.args.bounds (calls_on c.make_copy.new.named) c.requires.room made.unnamed made.done made.synced made.copy true false)

pub returns-clause-any_moment : goal.returns-clause-any_moment
returns-clause-any_moment c =
    let made = c.in-Ok.ensures in
    subst (λ (l : List Call). NeverLosesEntries c.args.bounds l) (sym (c.in_ok-sync.ensures.folder refl ∙ ap (λ (l : List Call). record { kind = 6; file = Log; at = 0; is_ok = true; bytes = [] } ∷ l) (c.in_ok-rename.ensures.noted (ap Ok c.if-not-branch.false))))
    (folder_never c.args.bounds (calls_on c.make_copy.new.named) c.requires.room made.unnamed made.done made.synced made.copy true true)

pub returns-clause-renewed : goal.returns-clause-renewed
returns-clause-renewed c _ =
    let made = c.in-Ok.ensures in
    subst (λ (l : List Call). IsRenewed c.args.bounds l) (sym (c.in_ok-sync.ensures.folder refl ∙ ap (λ (l : List Call). record { kind = 6; file = Log; at = 0; is_ok = true; bytes = [] } ∷ l) (c.in_ok-rename.ensures.noted (ap Ok c.if-not-branch.false))))
    (folder_renewed c.args.bounds (calls_on c.make_copy.new.named) c.requires.room made.unnamed made.done made.synced made.copy true refl)
