use Rattle.std.proofs.Common.{◌≡◌, ◌++◌, ◌∷◌, [], ℕ, List, arith, ap, sym, ◌∙◌, subst}
use Rattle.std.specs.Option.{option_copied}
use Rattle.oram_near.specs.EmptyRecords.{made_with}
use Rattle.oram_rows.specs.Rows.{client_of}
use Rattle.oram_rows.proofs.Numbers.{node_fits}
use Rattle.oram_rows.proofs.RowTexts.{IsLong}
use Rattle.oram_rows.proofs.WholeRows.{HasGone, all_gone, no_row, none_gone, nothing_left, one_more, something_left, split_is, too_long}
use Rattle.oram_rows.proofs.known_records.KnownRecords.whole_answer.Goals as goal

pub loop-at-init : goal.loop-at-init
loop-at-init g c =
    let client = client_of (made_with g.E.EmptyRecords.record_at) c.args.self.now in
    let first = c.in_ok-push.ensures.items ∙ ap (λ (xs : List ℕ). xs ++ 128 ∷ []) c.in_ok-whole.ensures.items in
    subst (λ (w : List ℕ). HasGone client c.args.request 0 c.in-Some.text.now c.in-Some.text.now w) (sym first) (none_gone client c.args.request c.in-Some.text.now)

pub returns-in_default-split_row : goal.returns-in_default-split_row
returns-in_default-split_row g c =
    let client = client_of (made_with g.E.EmptyRecords.record_at) c.args.self.now in
    no_row client c.args.request c.loop-at.at c.args.answer.now c.in-Some.text.now c.loop-at.rest.now c.loop-at.whole.items c.loop-at.invariant c.in-Some.ensures c.loop-at-test.true
    (λ row behind long. c.split_row.ensures.none c.in_default-split_row.is row behind (subst (λ (n : ℕ). IsLong n row) (sym c.record_len-record_len.ensures.value) long))

pub overflow_add-request : goal.overflow_add-request
overflow_add-request g c = omega (arith, node_fits c.args.self.now.device c.args.self.now.near.record_len c.args.request c.loop-at.at c.requires c.loop-at-test.true)

pub loop-at-preserved : goal.loop-at-preserved
loop-at-preserved g c =
    let client = client_of (made_with g.E.EmptyRecords.record_at) c.args.self.now in
    let row = option_copied c.in-Some-split_row.row in
    let split = split_is c.record_len-record_len.result c.loop-at.rest.now c.in-Some-split_row.behind.now c.in-Some-split_row.row c.in-Some-split_row.ensures.some in
    let added = c.in_ok-append_row.ensures in
    one_more client c.args.request c.loop-at.at c.in-Some.text.now c.loop-at.rest.now c.in-Some-split_row.behind.now c.loop-at.whole.items c.append_row.new.out.items row added.0 c.loop-at.invariant
    (subst (λ (n : ℕ). IsLong n row) c.record_len-record_len.ensures.value split.0) split.1 added.2 added.1

pub returns-then-is_empty : goal.returns-then-is_empty
returns-then-is_empty g c =
    let client = client_of (made_with g.E.EmptyRecords.record_at) c.args.self.now in
    let end : c.loop-at.at ≡ c.args.request.count = omega (arith, c.loop-at-test.false, c.loop-at.auto.at-end) in
    let none = nothing_left c.loop-at.rest.now c.is_empty.result c.is_empty.ensures c.if-is_empty.true in
    all_gone client c.args.request c.args.answer.now c.in-Some.text.now c.loop-at.whole.items
    (subst (λ (rest : List ℕ). HasGone client c.args.request c.args.request.count c.in-Some.text.now rest c.loop-at.whole.items) none
    (subst (λ (n : ℕ). HasGone client c.args.request n c.in-Some.text.now c.loop-at.rest.now c.loop-at.whole.items) end c.loop-at.invariant)) c.in-Some.ensures

pub returns-else-is_empty : goal.returns-else-is_empty
returns-else-is_empty g c =
    let client = client_of (made_with g.E.EmptyRecords.record_at) c.args.self.now in
    let end : c.loop-at.at ≡ c.args.request.count = omega (arith, c.loop-at-test.false, c.loop-at.auto.at-end) in
    let some = something_left c.loop-at.rest.now c.is_empty.result c.is_empty.ensures c.if-is_empty.false in
    too_long client c.args.request c.args.answer.now c.in-Some.text.now c.loop-at.rest.now c.loop-at.whole.items
    (subst (λ (n : ℕ). HasGone client c.args.request n c.in-Some.text.now c.loop-at.rest.now c.loop-at.whole.items) end c.loop-at.invariant) c.in-Some.ensures some
