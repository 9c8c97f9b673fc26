-- A link for whole paths tells of each near record that differs from those that were kept, once STOREs are laid over them.
use Rattle.std.proofs.Common.{◌≡◌, ℕ, List, ap, subst, sym}
use Rattle.oram_near.specs.Near.{AreNoted, Near, nothing_noted}
use Rattle.oram_near.specs.NearCalls.{NearValue, TakesUnsure}
use Rattle.oram_near.specs.NotedRecords.{batch_noted, counted_anew}

-- near records with these bytes, whose changes were forgotten
pub noted_at_first : (made forgotten : Near) (bytes : List ℕ) → bytes ≡ made.bytes → forgotten ≡ record made { noted = nothing_noted } → AreNoted bytes forgotten
noted_at_first made forgotten bytes same is = subst (AreNoted bytes) (sym is) (counted_anew made bytes same)

pub noted_behind_stores : {B E : Type 0} (l m : NearValue B E) (stores : List (List ℕ)) (bytes : List ℕ) → AreNoted bytes l.near → TakesUnsure l stores m → AreNoted bytes m.near
noted_behind_stores l m stores bytes noted takes = batch_noted l.device bytes takes.requests l.near m.near takes.stored noted
