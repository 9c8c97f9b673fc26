use Rattle.std.proofs.Common.{◌≡◌, ◌++◌, ◌<◌, ◌^◌, List, ℕ, length, take, ap, sym, ◌∙◌, subst}
use Rattle.std.specs.Int.{w64, to_be_bytes}
use Rattle.std.specs.List.{flat_map}
use Rattle.oram_rounds.specs.Batches.{texts}
use Rattle.oram_rounds.specs.Files.{sized_text}
use Rattle.oram_rounds.proofs.Texts.{take_next, written_more}
use Rattle.oram_rounds.proofs.KeptText.{AreShort, short_more}
use Rattle.oram_rounds.proofs.kept_file.push_stores.Goals as goal

pub loop-store-preserved : goal.loop-store-preserved
loop-store-preserved c =
    let all = c.args.stores.now in
    let i = c.loop-store.store-index in
    let x = c.store-item.result in
    let new = c.push_sized.new.text.items in
    let more : new ≡ c.loop-store.text.items ++ sized_text x.items = c.in_ok-push_sized.ensures.written ∙ ap (λ (b : List ℕ). c.loop-store.text.items ++ sized_text b) c.deref.ensures.value in
    record {
      written = subst (λ (bodies : List (List ℕ)). new ≡ c.args.text.now.items ++ (to_be_bytes w64 (length all) ++ flat_map sized_text bodies))
          (sym (take_next all i x c.loop-store-test.true c.store-item.is))
          (written_more c.args.text.now.items (to_be_bytes w64 (length all)) (take i (texts all)) x.items c.loop-store.text.items new c.loop-store.invariant.written more);
      short = subst AreShort (sym (take_next all i x c.loop-store-test.true c.store-item.is))
          (short_more (take i (texts all)) x.items c.loop-store.invariant.short (subst (λ (b : List ℕ). length b < 2 ^ 64) c.deref.ensures.value c.in_ok-push_sized.ensures.short));
    }
