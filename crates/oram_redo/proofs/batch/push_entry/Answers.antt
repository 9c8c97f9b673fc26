use Rattle.std.proofs.Common.{◌≡◌, ℕ, List, [], ◌∷◌, ◌++◌, ◌-◌, length, take, drop, sym, ap, ◌∙◌, append_assoc}
use Rattle.std.proofs.lemmas.List.{drop_at, take_rest}
use Rattle.oram_redo.specs.Batch.{patch_of}
use Rattle.oram_redo.specs.Log.{check_bytes, entry_text, place_bytes, length_bytes}
use Rattle.oram_redo.proofs.Logs.{place_bytes_are, length_bytes_are}
use Rattle.oram_redo.proofs.batch.push_entry.Goals as goal

regroup : (a pb lb bs : List ℕ) → (((a ++ 255 ∷ []) ++ pb) ++ lb) ++ bs ≡ (a ++ 255 ∷ []) ++ ((pb ++ lb) ++ bs)
regroup a pb lb bs = simp append_assoc

spelled : (a text check : List ℕ) → ((a ++ 255 ∷ []) ++ text) ++ check ≡ a ++ (255 ∷ (text ++ check))
spelled a text check = simp append_assoc

pub returns : goal.returns
returns c =
    let p = c.args.patch.now in
    let a : List ℕ = c.args.body.now.items in
    let text : List ℕ = entry_text (patch_of p) in
    let one = c.in_ok-push.ensures.items in
    let two = c.in_ok-extend_from_slice.ensures.items in
    let three = c.in_ok-extend_from_slice-2.ensures.items in
    let four = c.in_ok-extend_from_slice-3.ensures.items in
    let place = c.to_le_bytes.ensures ∙ place_bytes_are p.at in
    let len = c.to_le_bytes-2.ensures ∙ length_bytes_are (length p.bytes.now) in
    let grouped = regroup a (place_bytes p.at) (length_bytes (length p.bytes.now)) p.bytes.now in
    let written : c.extend_from_slice-3.new.self.items ≡ (a ++ 255 ∷ []) ++ text = cc (one, two, three, four, place, len, grouped) in
    let start : length (a ++ 255 ∷ []) ≡ c.len-start.result = ap length (sym one) ∙ sym c.push.new.self.ok.0 ∙ sym c.len-start.ensures in
    let whole : c.deref.result.now ≡ (a ++ 255 ∷ []) ++ text = c.deref.ensures.value ∙ written in
    let said : take (length c.deref.result.now - c.len-start.result) (drop c.len-start.result c.deref.result.now) ≡ text =
    take_rest c.deref.result.now c.len-start.result ∙ ap (λ (l : List ℕ). drop c.len-start.result l) whole ∙ drop_at (a ++ 255 ∷ []) text c.len-start.result start in
    c.in_ok-extend_from_slice-4.ensures.items ∙ ap (λ (l : List ℕ). c.extend_from_slice-3.new.self.items ++ l) (c.check_of-check.ensures ∙ ap check_bytes said)
    ∙ ap (λ (l : List ℕ). l ++ check_bytes text) written ∙ spelled a text (check_bytes text)
