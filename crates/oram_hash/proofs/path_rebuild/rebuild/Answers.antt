use Rattle.std.proofs.Common.{◌≡◌, ◌++◌, ℕ, List, map, length, take, drop, sym, subst, arith, Vec, Global}
use Rattle.std.proofs.lemmas.List.{take_at}
use Rattle.oram_hash.specs.Rebuild.{IsJoined, IsRebuilt, StandsRebuilt}
use Rattle.oram_hash.proofs.path_rebuild.rebuild.Goals as goal

-- a buffer that is overwritten completely holds exactly the new bytes
written_over : (n : ℕ) (written was : List ℕ) → length written ≡ n → take n (written ++ drop (length written) was) ≡ written
written_over n written was len = take_at written (drop (length written) was) n len

pub relink-root-requires : goal.relink-root-requires
relink-root-requires c = let P : List ℕ → Type 0 = IsJoined c.args.path.now (map (λ (x : Vec ℕ Global). x.items) c.args.sealed.now) in (map (λ (x : Vec ℕ Global). x.items) c.args.sealed.now, subst P (sym c.deref_mut.ensures.value) c.in_ok-records.ensures)

pub returns-clause-rebuilt : goal.returns-clause-rebuilt
returns-clause-rebuilt c =
    let parts = map (λ (x : Vec ℕ Global). x.items) c.args.sealed.now in
    let joined : IsJoined c.args.path.now parts c.deref_mut.result.now = let P : List ℕ → Type 0 = IsJoined c.args.path.now parts in subst P (sym c.deref_mut.ensures.value) c.in_ok-records.ensures in
    let P : List ℕ → Type 0 = λ bytes. IsRebuilt c.args.path.now parts bytes c.relink-root.result in
    subst P (sym (written_over c.in_ok-records.records.len c.relink-root.new.records c.in_ok-records.records.items (omega (arith, c.relink-root.auto.records)))) (c.relink-root.ensures.rebuilt parts joined)

pub returns-clause-stands : goal.returns-clause-stands
returns-clause-stands c =
    let P : List ℕ → Type 0 = λ bytes. StandsRebuilt c.args.path.now bytes c.relink-root.result in
    subst P (sym (written_over c.in_ok-records.records.len c.relink-root.new.records c.in_ok-records.records.items (omega (arith, c.relink-root.auto.records)))) c.relink-root.ensures.stands
