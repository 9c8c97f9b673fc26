use Rattle.std.proofs.Common.{◌≡◌, List, ℕ, get_or, sym, ap, ◌∙◌, subst}
use Rattle.std.specs.Global.{Vec}
use Rattle.std.specs.Vec.{with_items}
use Rattle.std.proofs.lemmas.List.{with_items_is}
use Rattle.oram_rounds.specs.Batches.{texts}
use Rattle.oram_rounds.specs.Overlay.{IsOverlaid}
use Rattle.oram_rounds.specs.PathMessages.{IsPathFetch}
use Rattle.oram_rounds.proofs.LaidAnswers.{one_laid}
use Rattle.oram_rounds.proofs.Texts.{all_at}
use Rattle.oram_rounds.proofs.answers.lay_over_each.Goals as goal

pub unreachable-requires : goal.unreachable-requires
unreachable-requires c =
    let path = all_at (IsPathFetch c.args.device.now) c.args.fetches.now c.loop-i.i c.index-fetches-i.result c.loop-i-test.true c.index-fetches-i.is c.requires.paths in
    c.in_default.ensures (subst (IsPathFetch c.args.device.now) (sym c.deref.ensures.value) path)

pub loop-i-preserved : goal.loop-i-preserved
loop-i-preserved c =
    let d = c.args.device.now in
    let len = c.args.record_len in
    let stores = texts c.args.stores.now in
    let f : IsPathFetch d c.index-fetches-i.result.items = record {
      tree = c.in-Some.tree;
      leaf = c.in-Some.leaf;
      tree_in = c.in-Some.ensures.0;
      leaf_in = c.in-Some.ensures.1;
      named = sym c.deref.ensures.value ∙ c.in-Some.ensures.2;
    } in
    let v = get_or c.loop-i.answers c.loop-i.i c.index-answers-i.result in
    let y : Vec ℕ = with_items v c.lay_over.new.answer in
    let is : y.items ≡ c.lay_over.new.answer = with_items_is v c.lay_over.new.answer (c.lay_over.auto.answer ∙ c.deref_mut.ensures.len) in
    let over = subst (λ (b : List ℕ). IsOverlaid d len c.in-Some.tree c.in-Some.leaf stores b c.lay_over.new.answer)
    (c.deref_mut.ensures.value ∙ sym (ap (λ (v : Vec ℕ). v.items) c.index-answers-i.is)) c.lay_over.ensures in
    let laid = one_laid d len stores c.args.fetches.now c.args.answers.now c.loop-i.answers c.loop-i.i c.index-fetches-i.result c.index-answers-i.result y c.loop-i-test.true
    c.requires.count (c.loop-i.auto.answers ∙ c.requires.count) c.index-fetches-i.is c.index-answers-i.is c.loop-i.invariant.left c.loop-i.invariant.laid (f, subst (λ (b : List ℕ). IsOverlaid d len c.in-Some.tree c.in-Some.leaf stores c.index-answers-i.result.items b) (sym is) over) in
    record { laid = laid.0; left = laid.1 }
