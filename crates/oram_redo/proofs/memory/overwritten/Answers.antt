use Rattle.oram_redo.proofs.Outcomes.{if_ok_none}
use Rattle.std.proofs.Common.{rules, ◌≡◌, ◌≤◌, ◌+◌, ◌-◌, ℕ, List, ◌++◌, take, drop, replicate, length, ap, ◌∙◌, arith}
use Rattle.std.proofs.lemmas.List.{take_rest}
use Rattle.oram_redo.specs.Memory.{byte_of}
use Rattle.oram_redo.proofs.Memories.{front_of, overwritten_is, overwritten_end}
use Rattle.oram_redo.proofs.memory.overwritten.Goals as goal

pub returns-then-end-old : goal.returns-then-end-old
returns-then-end-old c i =
    let copied : c.in_ok-new.new.items ≡ c.args.old.now = search rules in
    let front : c.resize.new.self.items ≡ front_of c.args.at c.args.old.now =
    c.in_ok-resize.ensures.items ∙ ap (λ (n : ℕ). take c.args.at c.in_ok-new.new.items ++ replicate (c.args.at - n) 0) c.in_ok-new.ensures.len
    ∙ ap (λ (l : List ℕ). take c.args.at l ++ replicate (c.args.at - length c.args.old.now) 0) copied in
    let short : length c.args.old.now ≤ c.args.at + length c.args.bytes.now = omega (arith, c.if-end-old.true, c.len-end.ensures, c.in_ok-extend_from_slice.ensures.len, c.in_ok-resize.ensures.len) in
    ap (λ (l : List ℕ). byte_of l i) (c.in_ok-extend_from_slice.ensures.items ∙ ap (λ (l : List ℕ). l ++ c.args.bytes.now) front) ∙ overwritten_end c.args.old.now c.args.bytes.now c.args.at i short

pub returns : goal.returns
returns c i =
    let copied : c.in_ok-new.new.items ≡ c.args.old.now = search rules in
    let front : c.resize.new.self.items ≡ front_of c.args.at c.args.old.now =
    c.in_ok-resize.ensures.items ∙ ap (λ (n : ℕ). take c.args.at c.in_ok-new.new.items ++ replicate (c.args.at - n) 0) c.in_ok-new.ensures.len
    ∙ ap (λ (l : List ℕ). take c.args.at l ++ replicate (c.args.at - length c.args.old.now) 0) copied in
    let whole : c.extend_from_slice.new.self.items ≡ front_of c.args.at c.args.old.now ++ c.args.bytes.now = c.in_ok-extend_from_slice.ensures.items ∙ ap (λ (l : List ℕ). l ++ c.args.bytes.now) front in
    let end : c.len-end.result ≡ c.args.at + length c.args.bytes.now = omega (arith, c.len-end.ensures, c.in_ok-extend_from_slice.ensures.len, c.in_ok-resize.ensures.len) in
    ap (λ (l : List ℕ). byte_of l i) (
    c.in_ok-extend_from_slice-2.ensures.items ∙ ap (λ (l : List ℕ). c.extend_from_slice.new.self.items ++ l) (take_rest c.args.old.now c.len-end.result)
    ∙ ap (λ (l : List ℕ). l ++ drop c.len-end.result c.args.old.now) whole ∙ ap (λ (n : ℕ). front_of c.args.at c.args.old.now ++ c.args.bytes.now ++ drop n c.args.old.now) end
    ) ∙ overwritten_is c.args.old.now c.args.bytes.now c.args.at i

pub returns-in_err-new : goal.returns-in_err-new
returns-in_err-new c = if_ok_none c.from_residual.result _ c.from_residual.ensures.0

pub returns-in_err-resize : goal.returns-in_err-resize
returns-in_err-resize c = if_ok_none c.from_residual-in_err-resize.result _ c.from_residual-in_err-resize.ensures.0

pub returns-in_err-extend_from_slice : goal.returns-in_err-extend_from_slice
returns-in_err-extend_from_slice c = if_ok_none c.from_residual-in_err-extend_from_slice.result _ c.from_residual-in_err-extend_from_slice.ensures.0

pub returns-in_err-extend_from_slice-2 : goal.returns-in_err-extend_from_slice-2
returns-in_err-extend_from_slice-2 c = if_ok_none c.from_residual-in_err-extend_from_slice-2.result _ c.from_residual-in_err-extend_from_slice-2.ensures.0
