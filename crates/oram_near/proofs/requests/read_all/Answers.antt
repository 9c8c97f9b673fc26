use Rattle.std.proofs.Common.{◌≡◌, ◌++◌, ◌⊎◌, List, ℕ, inl, inr}
use Rattle.std.proofs.lemmas.Result.{err_from_is_err_and}
use Rattle.oram_geometry.specs.declared.Sizes.{Sizes}
use Rattle.oram_session.specs.declared.link.LinkFault.{LinkFault}
use Rattle.oram_session.specs.declared.link.LinkFault.TheVariants.{Closed, OutOfMemory}
use Rattle.oram_rounds.specs.Batches.{texts}
use Rattle.oram_near.specs.NearCalls.{ArePathBodies, IsPathBody}
use Rattle.oram_near.proofs.RequestLists.{all_first, all_second}
use Rattle.oram_near.proofs.requests.read_all.Goals as goal

-- a body that is no such message is one of the first bodies or of the last
fault_first : (d : Sizes) (len : ℕ) (fault : LinkFault) (first last : List (List ℕ)) → (fault ≡ OutOfMemory) ⊎ ((fault ≡ Closed) × ¬ ArePathBodies d len first)
    → (fault ≡ OutOfMemory) ⊎ ((fault ≡ Closed) × ¬ ArePathBodies d len (first ++ last))
fault_first d len fault first last (inl memory) = inl memory
fault_first d len fault first last (inr closed) = inr (closed.0, λ are. closed.1 (all_first (IsPathBody d len) first last are))

fault_last : (d : Sizes) (len : ℕ) (fault : LinkFault) (first last : List (List ℕ)) → (fault ≡ OutOfMemory) ⊎ ((fault ≡ Closed) × ¬ ArePathBodies d len last)
    → (fault ≡ OutOfMemory) ⊎ ((fault ≡ Closed) × ¬ ArePathBodies d len (first ++ last))
fault_last d len fault first last (inl memory) = inl memory
fault_last d len fault first last (inr closed) = inr (closed.0, λ are. closed.1 (all_second (IsPathBody d len) first last are))

pub returns-in_err-requests : goal.returns-in_err-requests
returns-in_err-requests c =
    let p = err_from_is_err_and c.from_residual.result c.from_residual.ensures.1 in
    rw (p.1, p.2) (fault_first c.args.device.now c.args.record_len c.in_err-requests.field-0.0 (texts c.args.first.now) (texts c.args.last.now) c.in_err-requests.ensures)

pub returns-in_err-more : goal.returns-in_err-more
returns-in_err-more c =
    let p = err_from_is_err_and c.from_residual-in_err-more.result c.from_residual-in_err-more.ensures.1 in
    rw (p.1, p.2) (fault_last c.args.device.now c.args.record_len c.in_err-more.field-0.0 (texts c.args.first.now) (texts c.args.last.now) c.in_err-more.ensures)
