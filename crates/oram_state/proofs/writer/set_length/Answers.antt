use Rattle.std.proofs.Common.{◌≡◌, ◌++◌, List, ℕ, take, drop, ap, ◌∙◌}
use Rattle.std.proofs.lemmas.List.{drop-drop}
use Rattle.oram_state.specs.StateBytes.{long}
use Rattle.oram_state.proofs.writer.set_length.Goals as goal

pub returns : goal.returns
unfolding long
returns c =
    let xs = c.args.file.now in
    let h : c.copy_from_slice.new.self ≡ long c.args.len = c.copy_from_slice.ensures.after ∙ c.to_be_bytes.ensures in
    ap (λ (x : List ℕ). take 12 xs ++ (x ++ drop 8 (drop 12 xs))) h ∙ ap (λ (x : List ℕ). take 12 xs ++ (long c.args.len ++ x)) (drop-drop 8 12 xs)
