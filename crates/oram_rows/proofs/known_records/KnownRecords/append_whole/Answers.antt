use Rattle.std.proofs.Common.{◌≡◌, ◌++◌, ℕ, List, Result, Ok, Err, OnOk, if◌then◌else◌, ap, ◌∙◌, refl}
use Rattle.std.specs.Prelude.{Some, None}
use Rattle.std.specs.Result.{is_ok}
use Rattle.std.specs.Option.{option_copied}
use Rattle.std.proofs.lemmas.Bool.{iff_false}
use Rattle.std.proofs.lemmas.Result.{on_ok_weaker}
use Rattle.oram_near.specs.EmptyRecords.{made_with}
use Rattle.oram_near.specs.Near.{near_record}
use Rattle.oram_rows.proofs.WholeRows.{far_row, near_row}
use Rattle.oram_rows.proofs.known_records.KnownRecords.append_whole.Goals as goal

-- what an extension appends
ok_items : {T E : Type 0} (r : Result T E) (new one other : List ℕ) → new ≡ (if is_ok r then one else other) → OnOk r (new ≡ one)
ok_items (Ok x) new one other e = e
ok_items (Err x) new one other e = tt

pub returns-then-is_near : goal.returns-then-is_near
returns-then-is_near g c =
    let k = c.args.self.now in
    let near = c.is_near.ensures.0 c.if-is_near.true in
    on_ok_weaker c.extend_from_slice.result
    (λ is. (
      near_record k.near c.args.node,
      is ∙ ap (λ (r : List ℕ). c.args.out.now.items ++ r) c.near_record.ensures.value,
      near_row (made_with g.E.EmptyRecords.record_at) k c.args.tree c.args.node (option_copied c.args.row) near.0 near.1,
    )) (ok_items c.extend_from_slice.result _ _ _ c.extend_from_slice.ensures.items)

pub returns-in-Some : goal.returns-in-Some
returns-in-Some g c =
    let k = c.args.self.now in
    let r = c.in-Some.stored.now in
    let whole = far_row (made_with g.E.EmptyRecords.record_at) k c.args.tree c.args.node (Some r) r (iff_false c.is_near.ensures c.if-is_near.false) (λ leaf level leaf_in within there. refl) in
    on_ok_weaker c.extend_from_slice-in-Some.result (λ is. (r, is, rw c.in-Some.is whole)) (ok_items c.extend_from_slice-in-Some.result _ _ _ c.extend_from_slice-in-Some.ensures.items)

pub returns-in-None : goal.returns-in-None
returns-in-None g c =
    let k = c.args.self.now in
    on_ok_weaker c.append_made.result
    (λ h. (h.0, h.1, rw c.in-None.is (far_row (made_with g.E.EmptyRecords.record_at) k c.args.tree c.args.node None h.0 (iff_false c.is_near.ensures c.if-is_near.false) h.2))) c.append_made.ensures
