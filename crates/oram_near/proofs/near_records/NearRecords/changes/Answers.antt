use Rattle.std.proofs.Common.{List, ℕ, sym, subst}
use Rattle.oram_near.specs.Near.{AreNoted, AreTold, DifferAtMost, Near, TellsOf}
use Rattle.oram_near.specs.declared.near_changes.NearChanges.{NearChanges}
use Rattle.oram_near.specs.declared.near_changes.NearChanges.TheVariants.{Any, Nodes}
use Rattle.oram_near.proofs.near_records.NearRecords.changes.Goals as goal

-- what is told is all that is noted
told : (changes : NearChanges) (near : Near) → TellsOf near.noted changes → (old : List ℕ) → AreNoted old near → AreTold changes old near
told Any near just old are = tt
told (Nodes nodes) near just old are = subst (λ (n : List ℕ). DifferAtMost near.record_len n old near.bytes) (sym just.1) (are just.0)

pub returns-clause-enough : goal.returns-clause-enough
returns-clause-enough c =
    told c.told.result c.args.self.now (subst (λ (near : Near). TellsOf near.noted c.told.result) c.self.view_is c.told.ensures)
