use Rattle.std.proofs.Common.{Bool, Err, Ok, Result, Some, ◌∙◌}
use Rattle.std.specs.Prelude.{IfOk}
use Rattle.oram_layout.specs.Trees.{shape_at, sizes_of}
use Rattle.oram_store.proofs.Crashes.{runs_then}
use Rattle.oram_store.proofs.Lives.{path_found, shape_given}
use Rattle.oram_redo.proofs.Outcomes.{if_ok_none}
use Rattle.oram_store.proofs.laws.is_stored.Goals as goal

-- four facts about an outcome lead to a fifth
if_ok_by : {E : Type 0} (result : Result Bool E) (A B C D P : Bool → Type 0) → ((x : Bool) → A x → B x → C x → D x → P x) → IfOk result A → IfOk result B → IfOk result C → IfOk result D → IfOk result P
if_ok_by (Ok x) A B C D P leads a b c d = leads x a b c d
if_ok_by (Err e) A B C D P leads a b c d = tt

pub returns-in_err-is_done-clause-found : goal.returns-in_err-is_done-clause-found
returns-in_err-is_done-clause-found g c = if_ok_none c.from_residual.result _ c.from_residual.ensures.0

pub returns-in_err-is_done-clause-runs : goal.returns-in_err-is_done-clause-runs
returns-in_err-is_done-clause-runs g c = c.is_done.ensures.runs

pub returns-then-not-branch-clause-runs : goal.returns-then-not-branch-clause-runs
returns-then-not-branch-clause-runs g c = c.is_done.ensures.runs

pub returns-clause-found : goal.returns-clause-found
returns-clause-found g c =
    let shaped = c.is_done.new.store in
    let shape_done = c.if-not-branch.false in
    let shape_responds = c.in_ok-is_done.ensures.responds shape_done in
    let goes_on = c.in_ok-is_done.ensures.goes_on shape_done in
    let call = c.is_done-2.ensures in
    if_ok_by c.is_done-2.result _ _ _ _ _
    (λ done responds stored_goes_on committed serves is honest sound none left now.
    let shape_served = c.in_ok-is_done.ensures.serves shape_done (call.runs.after.honest honest) sound in
    let served = serves is honest (shape_served.sound goes_on) in
    path_found g.F.FilePair.model shaped c.is_done-2.new.store c.args.tree (sizes_of c.args.shape) c.args.leaf c.args.records
    (λ tree node. shape_served.records goes_on tree node ∙ none tree node)
    (shape_responds.1 c.args.tree ∙ shape_given (Some (sizes_of c.args.shape)) (shape_at c.args.store.now.trees c.args.tree) c.args.tree)
    (responds is).1 (served.records (stored_goes_on is)) (committed is tt) (served.sound (stored_goes_on is)) left now)
    call.responds call.goes_on call.committed call.serves

pub returns-clause-runs : goal.returns-clause-runs
returns-clause-runs g c = runs_then g.F.FilePair.model c.args.store.now.file c.is_done.new.store.file c.is_done-2.new.store.file c.is_done.ensures.runs c.is_done-2.ensures.runs
