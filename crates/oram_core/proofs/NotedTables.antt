-- What a core has noted of its table.
use Rattle.std.proofs.Common.{◌≡◌, ℕ, List, [], refl, sym, subst}
use Rattle.oram_core.specs.Changes.{DifferAtMost, nothing_noted}
use Rattle.oram_core.specs.Core.{CoreValue, IsNotedSince}

-- a table differs from itself nowhere
pub same_table : (blocks table : List ℕ) → DifferAtMost blocks table table
same_table blocks table = record { long = refl; others = λ i none. refl }

-- a core that has forgotten its changes, and the table that it had then
pub none_changed : {S : Type 0} (old new : CoreValue S) (table : List ℕ) → new ≡ record old { noted = nothing_noted } → table ≡ old.state.table → IsNotedSince table new
none_changed old new table is same =
    subst (λ (u : CoreValue _). IsNotedSince table u) (sym is)
    (λ exact. subst (λ (t : List ℕ). DifferAtMost [] t old.state.table) (sym same) (same_table [] old.state.table))
