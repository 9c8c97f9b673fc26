use Rattle.std.proofs.Common.{◌≡◌, ◌≢◌, ◌∷◌, [], length, slice_index, refl, ap, sym, ◌∙◌, arith, rules}
use Rattle.std.proofs.lemmas.Grind.{common_steps}
use Rattle.oram_semantics.proofs.Outcomes.{no_room_is, refused_is}
use Rattle.oram_core.specs.Core.{scheme_of}
use Rattle.oram_core.proofs.AnswerVerdicts.{IsRefused, refused_so, not_refused, other_means, empty_means, payload_means}
use Rattle.oram_core.proofs.Judged.{refused_tells, other_tells, empty_tells, payload_tells}
use Rattle.oram_core.proofs.machine.Core.verdict.Goals as goal

pub returns-in-8-clause-means : goal.returns-in-8-clause-means
returns-in-8-clause-means g c = λ w fits apart.
    let r : IsRefused c.args.bytes.now c.in-Some.code = refused_so c.args.bytes.now c.in-Some.code (sym c.refusal_in.ensures ∙ c.in-Some.is) in
    no_room_is _ w.records _ c.args.bytes.now (r.is ∙ ap (λ k. 129 ∷ k ∷ []) c.in-8.is)

pub returns-in-8-clause-no_room : goal.returns-in-8-clause-no_room
returns-in-8-clause-no_room g c =
    let r : IsRefused c.args.bytes.now c.in-Some.code = refused_so c.args.bytes.now c.in-Some.code (sym c.refusal_in.ensures ∙ c.in-Some.is) in
    (λ same. r.is ∙ ap (λ k. 129 ∷ k ∷ []) c.in-8.is, λ is. refl)

pub returns-in_default-code-clause-means : goal.returns-in_default-code-clause-means
returns-in_default-code-clause-means g c = λ w fits apart.
    let r : IsRefused c.args.bytes.now c.in-Some.code = refused_so c.args.bytes.now c.in-Some.code (sym c.refusal_in.ensures ∙ c.in-Some.is) in
    refused_is _ w.records _ c.args.bytes.now c.in-Some.code r.is r.low (omega arith)

pub returns-in_default-code-clause-no_room : goal.returns-in_default-code-clause-no_room
returns-in_default-code-clause-no_room g c =
    let r : IsRefused c.args.bytes.now c.in-Some.code = refused_so c.args.bytes.now c.in-Some.code (sym c.refusal_in.ensures ∙ c.in-Some.is) in
    (λ bad. cc, λ is. absurd (let eight : c.in-Some.code ≡ 8 = ap (λ xs. slice_index xs 1) (sym r.is ∙ is) in omega arith))

pub returns-then-is_empty-clause-means : goal.returns-then-is_empty-clause-means
returns-then-is_empty-clause-means g c = λ w fits apart.
    let empty : length c.args.bytes.now ≡ 0 = first_of (search rules, grind (arith, common_steps)) in
    empty_means (scheme_of g.S.Sealer.cipher c.args.self.now) c.args.self.now.state w c.args.bytes.now (sym c.refusal_in.ensures ∙ c.in_default.is) empty

pub returns-then-is_empty-clause-no_room : goal.returns-then-is_empty-clause-no_room
returns-then-is_empty-clause-no_room g c = (λ bad. cc, λ is. absurd ((not_refused c.args.bytes.now (sym c.refusal_in.ensures ∙ c.in_default.is)).room is))

pub returns-then-bytes-clause-means : goal.returns-then-bytes-clause-means
returns-then-bytes-clause-means g c = λ w fits apart.
    let first : slice_index c.args.bytes.now 0 ≢ 128 = λ same. omega arith in
    other_means (scheme_of g.S.Sealer.cipher c.args.self.now) c.args.self.now.state w c.args.bytes.now (sym c.refusal_in.ensures ∙ c.in_default.is) first

pub returns-then-bytes-clause-no_room : goal.returns-then-bytes-clause-no_room
returns-then-bytes-clause-no_room g c = (λ bad. cc, λ is. absurd ((not_refused c.args.bytes.now (sym c.refusal_in.ensures ∙ c.in_default.is)).room is))

pub returns-clause-means : goal.returns-clause-means
returns-clause-means g c =
    payload_means (scheme_of g.S.Sealer.cipher c.args.self.now) c.args.self.now.state c.args.bytes.now _ c.payload_verdict.result c.payload_verdict.ensures.means (first_of (search rules, grind (arith, common_steps))) c.if-bytes.false

pub returns-clause-no_room : goal.returns-clause-no_room
returns-clause-no_room g c = (
  λ same. absurd (c.payload_verdict.ensures.room same),
  λ is. absurd (let first : slice_index c.args.bytes.now 0 ≡ 129 = ap (λ xs. slice_index xs 0) is in omega arith),
)

pub returns-in-8-clause-tells : goal.returns-in-8-clause-tells
returns-in-8-clause-tells g c =
    let r : IsRefused c.args.bytes.now c.in-Some.code = refused_so c.args.bytes.now c.in-Some.code (sym c.refusal_in.ensures ∙ c.in-Some.is) in
    r.is ∙ ap (λ k. 129 ∷ k ∷ []) c.in-8.is

pub returns-in_default-code-clause-tells : goal.returns-in_default-code-clause-tells
returns-in_default-code-clause-tells g c =
    refused_tells (scheme_of g.S.Sealer.cipher c.args.self.now) c.args.self.now.state c.args.bytes.now c.in-Some.code (sym c.refusal_in.ensures ∙ c.in-Some.is) (λ is. omega arith)

pub returns-then-is_empty-clause-tells : goal.returns-then-is_empty-clause-tells
returns-then-is_empty-clause-tells g c =
    let empty : length c.args.bytes.now ≡ 0 = first_of (search rules, grind (arith, common_steps)) in
    empty_tells (scheme_of g.S.Sealer.cipher c.args.self.now) c.args.self.now.state c.args.bytes.now (sym c.refusal_in.ensures ∙ c.in_default.is) empty

pub returns-then-bytes-clause-tells : goal.returns-then-bytes-clause-tells
returns-then-bytes-clause-tells g c =
    let first : slice_index c.args.bytes.now 0 ≢ 128 = λ same. omega arith in
    other_tells (scheme_of g.S.Sealer.cipher c.args.self.now) c.args.self.now.state c.args.bytes.now (sym c.refusal_in.ensures ∙ c.in_default.is) first

pub returns-clause-tells : goal.returns-clause-tells
returns-clause-tells g c =
    payload_tells (scheme_of g.S.Sealer.cipher c.args.self.now) c.args.self.now.state c.args.bytes.now _ c.payload_verdict.result c.payload_verdict.ensures.tells (first_of (search rules, grind (arith, common_steps))) c.if-bytes.false
