use Rattle.std.proofs.Common.{◌≡◌, ℕ, [], ◌+◌, ◌*◌, ◌%◌, ◌^◌, ◌≤◌, length, take, drop, refl, ap, ◌∙◌, arith}
use Rattle.std.proofs.lemmas.List.{length-take-le, length-drop}
use Rattle.oram_bucket.specs.Keystream.{xored_from}
use Rattle.oram_bucket.proofs.KeystreamLemmas.{generator_at, IsXored, is_xored, joined, quarters}
use Rattle.oram_bucket.proofs.chacha.xored_run.Goals as goal

-- the four blocks, one after another
record Blocks (c : goal.After-xored_block-4) : Type 0 where
  first : IsXored c.args.generator.now.key c.args.generator.now.stream (4 * c.args.place) (take 64 c.args.run.now) c.xored_block.result c.xored_block.new.generator
  second : IsXored c.args.generator.now.key c.args.generator.now.stream (4 * c.args.place + 1) (take 64 (drop 64 c.args.run.now)) c.xored_block-2.result c.xored_block-2.new.generator
  third : IsXored c.args.generator.now.key c.args.generator.now.stream (4 * c.args.place + 1 + 1) (take 64 (drop 128 c.args.run.now)) c.xored_block-3.result c.xored_block-3.new.generator
  fourth : IsXored c.args.generator.now.key c.args.generator.now.stream (4 * c.args.place + 1 + 1 + 1) (take 64 (drop 192 c.args.run.now)) c.xored_block-4.result c.xored_block-4.new.generator

long : (c : goal.After-xored_block-4) → length c.args.run.now ≡ 256
long c = c.told-run

first_part : (c : goal.After-xored_block-4) → length (take 64 c.args.run.now) ≡ 64
first_part c = length-take-le 64 c.args.run.now (omega (arith, long c))

part : (c : goal.After-xored_block-4) (n : ℕ) → n + 64 ≤ 256 → length (take 64 (drop n c.args.run.now)) ≡ 64
part c n h = length-take-le 64 (drop n c.args.run.now) (omega (arith, length-drop n c.args.run.now, long c))

blocks : (c : goal.After-xored_block-4) → Blocks c
blocks c =
    let key = c.args.generator.now.key in
    let nonce = c.args.generator.now.stream in
    let i = 4 * c.args.place in
    let run = c.args.run.now in
    let start : 64 * c.args.place % 2 ^ 68 ≡ 16 * i = omega (arith, c.requires) in
    let first = is_xored key nonce i (take 64 run) _ _ _ (omega (arith, c.requires)) (first_part c) (c.set_word_pos.ensures ∙ ap (generator_at key nonce) start) c.xored_block.ensures.value c.xored_block.ensures.later in
    let second = is_xored key nonce (i + 1) (take 64 (drop 64 run)) _ _ _ (omega (arith, c.requires)) (part c 64 (omega arith)) first.later c.xored_block-2.ensures.value c.xored_block-2.ensures.later in
    let third = is_xored key nonce (i + 1 + 1) (take 64 (drop 128 run)) _ _ _ (omega (arith, c.requires)) (part c 128 (omega arith)) second.later c.xored_block-3.ensures.value c.xored_block-3.ensures.later in
    let fourth = is_xored key nonce (i + 1 + 1 + 1) (take 64 (drop 192 run)) _ _ _ (omega (arith, c.requires)) (part c 192 (omega arith)) third.later c.xored_block-4.ensures.value c.xored_block-4.ensures.later in
    record { first = first; second = second; third = third; fourth = fourth }

pub returns-clause-value : goal.returns-clause-value
returns-clause-value c =
    let key = c.args.generator.now.key in
    let nonce = c.args.generator.now.stream in
    let i = 4 * c.args.place in
    let run = c.args.run.now in
    let b = blocks c in
    let place : 64 * i ≡ 256 * c.args.place = omega arith in
    joined key nonce i (take 64 run) _ _ _ (first_part c) b.first.value
    (joined key nonce (i + 1) (take 64 (drop 64 run)) _ _ _ (part c 64 (omega arith)) b.second.value
    (joined key nonce (i + 1 + 1) (take 64 (drop 128 run)) _ _ _ (part c 128 (omega arith)) b.third.value
    (joined key nonce (i + 1 + 1 + 1) (take 64 (drop 192 run)) _ [] [] (part c 192 (omega arith)) b.fourth.value refl)))
    ∙ ap (xored_from key nonce (64 * i)) (quarters run (long c)) ∙ ap (λ (m : ℕ). xored_from key nonce m run) place

pub returns-clause-later : goal.returns-clause-later
returns-clause-later c =
    let place : 16 * (4 * c.args.place + 1 + 1 + 1 + 1) ≡ 64 * (c.args.place + 1) = omega arith in
    (blocks c).fourth.later ∙ ap (generator_at c.args.generator.now.key c.args.generator.now.stream) place
