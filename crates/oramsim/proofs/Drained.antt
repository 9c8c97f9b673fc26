-- One more answer of a drain.
use Rattle.std.proofs.Common.{◌≡◌, ◌≢◌, ℕ, true, false, List, [], ◌∷◌, ◌++◌, Option, Some, None, refl, ◌∙◌}
use Rattle.std.specs.Prelude.{is_some}
use Rattle.std.specs.List.{FoldsTo}
use Rattle.std.proofs.lemmas.Fn.{FoldsTo-push}
use Rattle.oram_semantics.specs.Run.{Shown}
use Rattle.oram_semantics.specs.State.{State}
use Rattle.oramsim.specs.Script.{IsAnswered, IsDrained, Running}
use Rattle.oramsim.specs.Correspondence.{RunsOn, IsFaithful}
use Rattle.oramsim.specs.declared.machine.Machine.{Machine}
use Rattle.oramsim.proofs.Turns.{tells_more}

pub none_left : (o : Option (List ℕ)) → is_some o ≡ false → o ≡ None
none_left None e = refl
none_left (Some m) e = cc

pub some_there : (o p : Option (List ℕ)) → is_some o ≡ true → o ≡ p → p ≢ None
some_there None p e same = cc
some_there (Some m) p e same = λ none. let both : Some m ≡ None = same ∙ none in cc

pub drained_more : (r mid later : Running) (s : State) (m n : Machine) (old between new : Option (List ℕ)) (xs : List Shown) (x : Shown) → FoldsTo IsDrained r xs mid → RunsOn r mid m old between
    → is_some m.outstanding ≡ true → IsAnswered mid x later → RunsOn mid later n between new → (IsFaithful r s → IsFaithful later n.core.state)
    → (xs' : List Shown) × (last : Running) × FoldsTo IsDrained r xs' last × RunsOn r last n old new × (IsFaithful r s → IsFaithful last n.core.state)
drained_more r mid later s m n old between new xs x folds gone some answered next faithful = (
  xs ++ x ∷ [],
  later,
  FoldsTo-push IsDrained r xs mid x later folds (some_there m.outstanding mid.message some gone.0.message, answered),
  (next.0, tells_more _ _ _ old between new gone.1 next.1),
  faithful,
)
