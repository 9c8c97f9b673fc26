use Rattle.std.proofs.Common.{◌≡◌, ◌++◌, ◌<◌, ◌^◌, List, ℕ, ap, length, refl, subst, sym, ◌∙◌}
use Rattle.std.specs.Prelude.{All}
use Rattle.oram_state.specs.StateBytes.{with_table}
use Rattle.oram_kept.specs.Reading.{parts_around}
use Rattle.oram_kept.specs.Text.{Parts}
use Rattle.oram_keeper.specs.Process.{IsTextOf}
use Rattle.oram_keeper.proofs.Texts.{text_is}
use Rattle.oram_keeper.proofs.pair_keeper.PairKeeper.open.Goals as goal

pub returns-clause-text : goal.returns-clause-text
returns-clause-text g c =
    let around = c.in_ok-texts.text.around in
    let table : List ℕ = c.in_ok-texts.texts.kept.table in
    let records : List ℕ = c.in_ok-texts.texts.kept.records in
    let title : List ℕ = c.in_ok-title.title.items in
    let rest : List ℕ = c.split_at.result.1.now in
    let p : Parts = parts_around table records around in
    let copied : title ≡ c.split_at.result.0.now = c.in_ok-title.ensures.items_if_clones_equal (λ x y e. e) in
    let before : around.before.items ≡ title ++ rest = sym c.deref.ensures.value ∙ c.split_at.ensures.by_index.0 ∙ ap (λ (l : List ℕ). l ++ rest) (sym copied) in
    let process : c.in_ok-process_text.field-0.items ≡ with_table rest table around.after.items =
    c.in_ok-process_text.ensures ∙ (λ i. with_table rest ((c.deref-numbers.ensures.value ∙ c.in_ok-texts.ensures.table) i) (c.deref-2.ensures.value i)) in
    let whole : c.in_ok-process_text.field-0.items ++ c.in_ok-texts.text.records.items ≡ with_table rest table around.after.items ++ records = (λ i. process i ++ c.in_ok-texts.ensures.records i) in
    let is : IsTextOf title (c.in_ok-process_text.field-0.items ++ c.in_ok-texts.text.records.items) p =
    text_is title rest table around.after.items records p (λ i. record { before = before i; table = table; after = around.after.items; records = records }) ∙ ap (λ (l : List ℕ). title ++ l) (sym whole) in
    (p, c.in_ok-texts.ensures.texts, is, c.in_ok-texts.ensures.found)

pub returns-clause-table : goal.returns-clause-table
returns-clause-table g c =
    let around = c.in_ok-texts.text.around in
    let table : List ℕ = c.in_ok-texts.texts.kept.table in
    let rest : List ℕ = c.split_at.result.1.now in
    let read = c.in_ok-texts.ensures.table in (
      parts_around table c.in_ok-texts.texts.kept.records around,
      record {
        before = rest;
        text = c.in_ok-process_text.ensures ∙ (λ i. with_table rest ((c.deref-numbers.ensures.value ∙ read) i) (c.deref-2.ensures.value i));
        place = refl;
        count = ap length (sym (c.deref-numbers.ensures.value ∙ read));
        records = c.in_ok-texts.ensures.records;
        numbers = subst (λ (l : List ℕ). All (λ n. n < 2 ^ 32) l) (c.deref-numbers.ensures.value ∙ read) c.fit.ensures;
      },
      refl,
    )
