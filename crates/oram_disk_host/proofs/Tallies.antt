-- The tally of some messages, and of one more.
use Rattle.std.proofs.Common.{◌≡◌, ℕ, ◌+◌, ◌*◌, ◌-◌, ◌^◌, ◌≤◌, List, [], ◌∷◌, ◌++◌, length, ap, ◌∙◌, arith, length-append}
use Rattle.oram_disk_host.specs.Tallies.{Counts, capped, frame_len, frames_len}
use Rattle.oram_disk_host.specs.declared.tally.Tally.{Tally}

-- a sum that has stopped stays there
capped_more : (n m : ℕ) → capped (capped n + m) ≡ capped (n + m)
capped_more n m = omega arith

frames_len-push : (bodies : List (List ℕ)) (body : List ℕ) → frames_len (bodies ++ body ∷ []) ≡ frames_len bodies + frame_len body
frames_len-push [] body = omega arith
frames_len-push (first ∷ bodies) body = omega (arith, frames_len-push bodies body)

pub counts_none : (tally : Tally) (answer : List ℕ) → tally.messages ≤ 2 ^ 64 - 1 → tally.received ≤ 2 ^ 64 - 1 → tally.sent ≤ 2 ^ 64 - 1 → Counts tally [] answer tally
counts_none tally answer few short small = record { messages = omega arith; received = omega arith; sent = omega arith }

pub counts_more : (before mid after : Tally) (bodies : List (List ℕ)) (body answer : List ℕ) → Counts before bodies answer mid → Counts mid (body ∷ []) answer after → Counts before (bodies ++ body ∷ []) answer after
counts_more before mid after bodies body answer first then = record {
  messages = then.messages ∙ ap (λ (n : ℕ). capped (n + 1)) first.messages ∙ capped_more (before.messages + length bodies) 1
      ∙ ap capped (let e : before.messages + length bodies + 1 ≡ before.messages + length (bodies ++ body ∷ []) = omega (arith, length-append bodies (body ∷ [])) in e);
  received = then.received ∙ ap (λ (n : ℕ). capped (n + frames_len (body ∷ []))) first.received ∙ capped_more (before.received + frames_len bodies) (frames_len (body ∷ []))
      ∙ ap capped (let e : before.received + frames_len bodies + frames_len (body ∷ []) ≡ before.received + frames_len (bodies ++ body ∷ []) = omega (arith, frames_len-push bodies body) in e);
  sent = then.sent ∙ ap (λ (n : ℕ). capped (n + 1 * frame_len answer)) first.sent ∙ capped_more (before.sent + length bodies * frame_len answer) (1 * frame_len answer)
      ∙ ap capped (let e : before.sent + length bodies * frame_len answer + 1 * frame_len answer ≡ before.sent + length (bodies ++ body ∷ []) * frame_len answer = grow bodies body in e);
}
  where
    grow : (bodies : List (List ℕ)) (body : List ℕ) → before.sent + length bodies * frame_len answer + 1 * frame_len answer ≡ before.sent + length (bodies ++ body ∷ []) * frame_len answer
    grow bodies body =
        let long : length (bodies ++ body ∷ []) ≡ length bodies + 1 = length-append bodies (body ∷ []) in
        let spread : (length bodies + 1) * frame_len answer ≡ length bodies * frame_len answer + 1 * frame_len answer = omega arith in
        omega (arith, spread, ap (λ (n : ℕ). n * frame_len answer) long)
