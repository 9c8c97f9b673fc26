use Rattle.std.proofs.Common.{◌≡◌, ◌≤◌, ◌+◌, ◌++◌, ◌*◌, ◌/◌, length, refl, ℕ, List, arith, drop, ap, ◌∙◌, get_or, [], Result, Ok, Err}
use Rattle.std.specs.Prelude.{OnOk, if◌then◌else◌}
use Rattle.std.specs.Result.{is_ok}
use Rattle.rand_chacha.specs.ChaCha.{ChaCha, key_of}
use Rattle.oram_bucket.specs.Keystream.{xored_from}
use Rattle.oram_bucket.proofs.KeystreamLemmas.{run_more, run_long, front_of, rest_more, get_or-first_chunks}
use Rattle.oram_bucket.proofs.chacha.append_xored.Goals as goal

-- if the generator belongs to the key and the nonce, the bytes are XORed with their keystream
xored_by : (key generator_key : List ℕ) (nonce stream k at : ℕ) (run xored : List ℕ) → generator_key ≡ key → stream ≡ nonce → at ≡ k
    → xored ≡ xored_from generator_key stream (256 * at) run → xored ≡ xored_from key nonce (256 * k) run
xored_by key generator_key nonce stream k at run xored same_key same_nonce same_place value =
    value ∙ ap (λ (w : List ℕ). xored_from w stream (256 * at) run) same_key ∙ ap (λ (n : ℕ). xored_from key n (256 * at) run) same_nonce
    ∙ ap (λ (m : ℕ). xored_from key nonce (256 * m) run) same_place

if_appended : {E : Type 0} {items more all : List ℕ} (less : List ℕ) (result : Result Unit E) → items ≡ (if is_ok result then more else less) → more ≡ all → OnOk result (items ≡ all)
if_appended less (Ok u) is whole = is ∙ whole
if_appended less (Err e) is whole = tt

pub loop-place-preserved : goal.loop-place-preserved
loop-place-preserved c =
    let i = c.loop-place.place in
    let key = key_of c.args.key in
    let bytes = c.args.bytes.now in
    let before = c.loop-place.invariant in
    let fits : 256 * (i + 1) ≤ length bytes = omega (arith, c.as_chunks.ensures.front_len, c.loop-place-test.true) in
    let run = ap (λ (bs : List (List ℕ)). get_or bs i []) c.as_chunks.ensures.front ∙ get_or-first_chunks 256 (length bytes / 256) i bytes [] (omega (arith, c.as_chunks.ensures.front_len, c.loop-place-test.true)) in
    let xored = xored_by key _ c.args.nonce _ i _ _ c.as_flattened.result.now before.key before.stream refl (c.as_flattened.ensures.value ∙ c.xored_run-xored.ensures.value) in
    let long = run_long key c.args.nonce i bytes _ _ fits run xored in
    record {
      so_far = ap (λ (r : List ℕ). r ++ xored_from key c.args.nonce (256 * (i + 1)) (drop (256 * (i + 1)) bytes)) c.in_ok-extend_from_slice.ensures.items
          ∙ run_more key c.args.nonce i bytes _ _ _ _ fits before.so_far run xored;
      key = ap (λ (g : ChaCha). g.key) c.xored_run-xored.ensures.later ∙ before.key;
      stream = ap (λ (g : ChaCha). g.stream) c.xored_run-xored.ensures.later ∙ before.stream;
      grown = omega (arith, c.in_ok-extend_from_slice.ensures.len, before.grown, long);
      room = omega (arith, c.in_ok-extend_from_slice.ensures.capacity, before.room);
    }

pub returns-clause-ok : goal.returns-clause-ok
returns-clause-ok c =
    let i = c.loop-place.place in
    let key = key_of c.args.key in
    let bytes = c.args.bytes.now in
    let before = c.loop-place.invariant in
    let count : length bytes / 256 ≡ i = omega (arith, c.as_chunks.ensures.front_len, c.loop-place-test.false) in
    let place : length c.as_chunks.result.0.now ≡ i = c.as_chunks.ensures.front_len ∙ count in
    let start : length bytes / 256 * 256 ≡ 256 * i = omega (arith, count) in
    let rest = c.as_chunks.ensures.back ∙ ap (λ (m : ℕ). drop m bytes) start in
    let xored = xored_by key _ c.args.nonce _ i _ _ c.as_flattened-2.result.now before.key before.stream place (c.as_flattened-2.ensures.value ∙ c.xored_run-xored-2.ensures.value) in
    if_appended _ c.extend_from_slice-2.result c.extend_from_slice-2.ensures.items (rest_more key c.args.nonce i bytes c.loop-place.out.items _ _ _ c.as_flattened-2.result.now rest before.so_far xored (front_of c.as_chunks.result.1.now _ _ c.copy_from_slice.ensures.after))
