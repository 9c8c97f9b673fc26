use Rattle.std.proofs.Common.{◌≡◌, ◌<◌, ◌++◌, ℕ, List, OnOk, ap, sym, ◌∙◌, subst}
use Rattle.std.proofs.lemmas.Result.{on_ok_weaker}
use Rattle.oram_geometry.specs.declared.Sizes.{Sizes}
use Rattle.oram_geometry.specs.Sizes.{trees_of}
use Rattle.oram_near.specs.EmptyRecords.{AreEmptyRecords, made_with}
use Rattle.oram_near.specs.Near.{rest_of}
use Rattle.oram_rows.specs.Rows.{IsMadeRow, KnownValue, client_of}
use Rattle.oram_rows.proofs.WholeRows.{made_row}
use Rattle.oram_rows.proofs.known_records.KnownRecords.append_made.Goals as goal

pub returns : goal.returns
returns g c =
    let i = c.self.inside in
    let inv = c.self.invariant in
    let record_at = g.E.EmptyRecords.record_at in
    let leaf = c.place_of-leaf.result.leaf in
    let level = c.place_of-leaf.result.level in
    let k : KnownValue _ = record { empty = record { maker = i.empty; rest = rest_of i.near }; device = i.device; near = i.near } in
    let tree_in : c.args.tree < trees_of i.device = subst (λ (k' : KnownValue _). c.args.tree < trees_of k'.device) (sym c.self.view_is) c.requires.tree in
    let are : AreEmptyRecords i.device (g.E.EmptyRecords.record_len i.empty) (record_at i.empty (rest_of i.near)) =
    subst (λ (d : Sizes). AreEmptyRecords d (g.E.EmptyRecords.record_len i.empty) (record_at i.empty (rest_of i.near))) inv.0 (g.met.E.EmptyRecords.are_empty_records i.empty (rest_of i.near) inv.3) in
    let made : IsMadeRow (client_of (made_with record_at) k) c.args.tree c.args.node (record_at i.empty (rest_of i.near) c.args.tree leaf level) =
    made_row (client_of (made_with record_at) k) (g.E.EmptyRecords.record_len i.empty) c.args.tree leaf level c.args.node are tree_in c.place_of-leaf.ensures.leaf c.place_of-leaf.ensures.level c.place_of-leaf.ensures.there in
    subst (λ (k' : KnownValue _). OnOk c.append_record.result ((x : List ℕ) × (c.append_record.new.out.items ≡ c.args.out.now.items ++ x) × IsMadeRow (client_of (made_with record_at) k') c.args.tree c.args.node x)) c.self.view_is
    (on_ok_weaker c.append_record.result
    (λ is. (record_at i.empty (rest_of i.near) c.args.tree leaf level, is ∙ ap (λ (rest : List ℕ). c.args.out.now.items ++ record_at i.empty rest c.args.tree leaf level) c.rest.ensures, made)) c.append_record.ensures)
