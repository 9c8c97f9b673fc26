use Rattle.std.proofs.Common.{◌≡◌, ◌∙◌, ℕ, ◌<◌, ◌^◌, List, length, sym, ap, ap₂, subst, arith, length-append, Option, Ok, Vec, Global}
use Rattle.std.specs.Prelude.{All, IfSome}
use Rattle.oram_kept.specs.Layout.{HasPages, HasTable, after_at, before_at, check_of, eight_bytes}
use Rattle.oram_kept.specs.Reading.{Says, parts_around, records_place}
use Rattle.oram_kept.specs.Text.{Parts, table_bytes}
use Rattle.oram_kept.specs.declared.reading.Around.{Around}
use Rattle.oram_redo.specs.Content.{Content, Has}
use Rattle.oram_redo.proofs.Bytes.{has_one}
use Rattle.oram_kept.proofs.Heads.{eight_one, head_is}
use Rattle.oram_kept.proofs.ReadPages.{has_after, has_before, length_of_table, same_records_place}
use Rattle.oram_kept.proofs.reading.text_in.Goals as goal

-- the table isn't read
pub returns-in_default-clause-none : goal.returns-in_default-clause-none
returns-in_default-clause-none c none content has p says holds = c.in_ok-table.ensures.none (ap Ok c.in_default.is) content has.table_at (table_bytes p.table) (length_of_table p c.args.head.now says) holds.table

-- the records aren't read
pub returns-in_default-records_in-clause-none : goal.returns-in_default-records_in-clause-none
returns-in_default-records_in-clause-none c none content has p says holds =
    c.records_in.ensures.none c.in_default-records_in.is (records_place c.args.head.now) content has.records_at p.records says.records
    (subst (λ (start : ℕ). HasPages p.records start content) (sym (same_records_place c.args.head.now p says)) holds.records)

pub returns-then-check_of-head-clause-none : goal.returns-then-check_of-head-clause-none
returns-then-check_of-head-clause-none c none content has p says holds =
    let head = c.args.head.now in
    let before : List ℕ = c.split_at.result.0.now in
    let after : List ℕ = c.split_at.result.1.now in
    let cut = c.split_at.ensures.by_index.0 in
    let first : length before ≡ head.before = c.split_at.ensures.front_len in
    let last : length after ≡ head.after = omega (arith, ap length cut, length-append before after, first, c.requires.texts) in
    let before_is : p.before ≡ before = has_one p.before before (before_at p) content (says.before ∙ sym first) holds.before (has_before head p says before after c.args.texts.now cut content has.texts_at) in
    let after_is : p.after ≡ after =
    has_one p.after after (after_at p) content (says.after ∙ sym last) holds.after (has_after head p says before after c.args.texts.now cut content has.texts_at (says.before ∙ sym first)) in
    let same : eight_bytes c.check_of.result ≡ eight_bytes head.check =
    ap eight_bytes (c.check_of.ensures.value ∙ ap₂ check_of (sym before_is) (sym after_is)) ∙ says.check in
    c.if-check_of-head.true (eight_one c.check_of.result head.check (omega (arith, c.check_of.ensures.small)) c.requires.small same)

pub returns-clause-found : goal.returns-clause-found
returns-clause-found c =
    let head = c.args.head.now in
    let before : List ℕ = c.split_at.result.0.now in
    let after : List ℕ = c.split_at.result.1.now in
    let cut = c.split_at.ensures.by_index.0 in
    let first : length before ≡ head.before = c.split_at.ensures.front_len in
    let last : length after ≡ head.after = omega (arith, ap length cut, length-append before after, first, c.requires.texts) in
    let table : List ℕ = c.in-Some.table.items in
    let records : List ℕ = c.in-Some-records_in.records.items in
    let long : length table ≡ head.table = subst (λ (read : Option (Vec ℕ Global)). IfSome read (λ t. length t.items ≡ head.table)) c.in-Some.is c.in_ok-table.ensures.long in
    let around : Around = record { before = c.in_ok-to_vec.field-0; after = c.in_ok-to_vec-2.field-0 } in
    let p : Parts = parts_around table records around in
    let before_is : p.before ≡ before = c.in_ok-to_vec.ensures.items_if_clones_equal (λ x y e. e) in
    let after_is : p.after ≡ after = c.in_ok-to_vec-2.ensures.items_if_clones_equal (λ x y e. e) in
    let checked : check_of before after ≡ head.check = sym c.check_of.ensures.value ∙ c.if-check_of-head.false in
    let says : Says head p = record {
      before = ap length before_is ∙ first;
      table = long;
      after = ap length after_is ∙ last;
      records = c.in-Some-records_in.ensures.long;
      check = ap₂ (λ (a b : List ℕ). eight_bytes (check_of a b)) before_is after_is ∙ ap eight_bytes checked;
    } in (
      says,
      λ content has_head has. record {
        room = record {
          before = omega (arith, says.before, c.requires.room.before);
          table = omega (arith, long, c.requires.room.table);
          after = omega (arith, says.after, c.requires.room.after);
          records = omega (arith, says.records, c.requires.room.records);
          numbers = subst (λ (l : List ℕ). All (λ n. n < 2 ^ 32) l) c.deref.ensures.value c.fit.ensures;
        };
        head = subst (λ (l : List ℕ). Has l 4096 content) (sym (head_is head p says)) has_head;
        table = subst (λ (read : Option (Vec ℕ Global)). IfSome read (λ t. (d : Content) → Has c.args.table_pages.now 8192 d → HasTable t.items d)) c.in-Some.is c.in_ok-table.ensures.found content has.table_at;
        records = subst (λ (start : ℕ). HasPages records start content) (same_records_place head p says) (c.in-Some-records_in.ensures.found (records_place head) content has.records_at);
        before = subst (λ (l : List ℕ). Has l (before_at p) content) (sym before_is) (has_before head p says before after c.args.texts.now cut content has.texts_at);
        after = subst (λ (l : List ℕ). Has l (after_at p) content) (sym after_is) (has_after head p says before after c.args.texts.now cut content has.texts_at (ap length before_is));
      },
    )
