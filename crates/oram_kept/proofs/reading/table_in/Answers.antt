use Rattle.std.proofs.Common.{◌≡◌, ℕ, List, ◌++◌, ◌-◌, ◌*◌, ◌<◌, ap, ◌∙◌, arith}
use Rattle.std.specs.Prelude.{min}
use Rattle.std.proofs.lemmas.Grind.{flat_map-append}
use Rattle.oram_kept.specs.Layout.{pages_for}
use Rattle.oram_kept.specs.Text.{number_bytes, table_bytes}
use Rattle.oram_kept.proofs.ReadPages.{one_read, read_long}
use Rattle.oram_kept.proofs.Tables.{length-numbers}
use Rattle.oram_kept.proofs.reading.table_in.Goals as goal

pub push_numbers-requires : goal.push_numbers-requires
push_numbers-requires c = (min (c.args.count - c.loop-index.index * 254) 254, omega (arith, c.in-Some.ensures.long))

pub loop-index-preserved : goal.loop-index-preserved
loop-index-preserved c =
    let old : List ℕ = c.loop-index.table.items in
    let within : c.loop-index.index < pages_for (4 * c.args.count) = omega (arith, c.loop-index-test.true, c.pages_for-index-end.ensures) in
    let added = c.in_ok-push_numbers.ensures in
    let grown : table_bytes c.push_numbers.new.table.items ≡ table_bytes old ++ c.in-Some.bytes.now =
    ap table_bytes added.1 ∙ flat_map-append number_bytes old added.0 ∙ ap (λ (l : List ℕ). table_bytes old ++ l) added.2 in
    one_read c.args.pages.now (4 * c.args.count) c.loop-index.index (table_bytes old) c.in-Some.bytes.now (table_bytes c.push_numbers.new.table.items) within c.loop-index.invariant c.in-Some.ensures.long grown
    c.in-Some.ensures.found

pub returns-clause-long : goal.returns-clause-long
returns-clause-long c =
    let table : List ℕ = c.loop-index.table.items in
    omega (
      arith,
      length-numbers table,
      read_long c.args.pages.now (4 * c.args.count) c.loop-index.index (table_bytes table) c.loop-index.invariant (omega (arith, c.loop-index-test.false, c.pages_for-index-end.ensures)),
    )
