use Rattle.std.proofs.Common.{◌≡◌, ◌+◌, ◌-◌, ◌*◌, ℕ, List, [], ◌++◌, take, drop, ap, sym, ◌∙◌, append_assoc, arith}
use Rattle.std.proofs.lemmas.List.{drop-drop, drop-take}
use Rattle.std.specs.Int.{w32, to_be_bytes}
use borrow.Rule.Slice.PartMut.{put_mid}
use Rattle.oram_tree.specs.Edits.{with_entry}
use Rattle.oram_tree.proofs.edits.write_entry.Goals as goal

with_entry-put : (bytes : List ℕ) (j value : ℕ) → with_entry bytes j value ≡ put_mid (4 * j) 4 bytes (to_be_bytes w32 value)
unfolding with_entry
with_entry-put bytes j value =
    append_assoc (take (4 * j) bytes) (to_be_bytes w32 value) (drop (4 * j + 4) bytes)
    ∙ ap (λ (xs : List ℕ). take (4 * j) bytes ++ (to_be_bytes w32 value ++ xs)) (sym (drop-drop 4 (4 * j) bytes))

pub returns : goal.returns
returns c =
    let four : 4 * c.args.index + 4 - 4 * c.args.index ≡ 4 = omega arith in
    let part = drop (4 * c.args.index) c.args.content.now in
    let none : drop 4 (take (4 * c.args.index + 4 - 4 * c.args.index) part) ≡ [] = ap (λ (k : ℕ). drop 4 (take k part)) four ∙ drop-take 4 0 part in
    let written : c.write_u32.new.buf ≡ to_be_bytes w32 c.args.value = c.write_u32.ensures ∙ ap (λ (xs : List ℕ). to_be_bytes w32 c.args.value ++ xs) none in
    ap (λ (k : ℕ). put_mid (4 * c.args.index) k c.args.content.now c.write_u32.new.buf) four
    ∙ ap (put_mid (4 * c.args.index) 4 c.args.content.now) written
    ∙ sym (with_entry-put c.args.content.now c.args.index c.args.value)
