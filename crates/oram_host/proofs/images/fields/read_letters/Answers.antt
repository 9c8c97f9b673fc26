use Rattle.std.proofs.Common.{◌≡◌, ◌≢◌, ◌++◌, ◌<◌, ◌∙◌, List, ℕ, length, take, ap, Err, sym, rules, arith, take_all}
use Rattle.std.specs.Prelude.{codes}
use Rattle.std.proofs.KnownBytes.{Consumes-whole}
use Rattle.std.proofs.lemmas.List.{length-take, take_at}
use Rattle.std.specs.Cmp.Lexicographic.{other_text}
use Rattle.oram_host.specs.declared.images.ImageFault.TheVariants.{Magic}
use Rattle.oram_host.specs.ImageReader.{after_letters}
use Rattle.oram_host.proofs.FieldReads.{fails_here, other_letters}
use Rattle.oram_host.proofs.images.fields.read_letters.Goals as goal
use Rattle.oram_host.proofs.images.fields.read_letters.Goals.{then-branch-lt8-via-then-branch-lt8, then-branch-lt8-via-else-branch-lt8+then-ne}

pub returns-then-branch-lt8-clause-fault : goal.returns-then-branch-lt8-clause-fault
returns-then-branch-lt8-clause-fault g c =
    let n = c.in_ok-fill.field-0 in
    let buf = c.fill.new.buf in
    let eight : length buf ≡ 8 = search rules in
    elim c.then-branch-lt8.branch [
      | then-branch-lt8-via-then-branch-lt8 w ↦ (
          let short : n < 8 = w.if-branch-lt8.true in
          let cut = take n buf in
          let other : take 8 cut ≢ codes "ORAMHOST" = λ e. omega (arith, ap length e, length-take 8 cut, length-take n buf) in
          Consumes-whole _ _ cut (λ text. after_letters text ≡ Err Magic) c.in_ok-fill.ensures.ok (c.in_ok-fill.ensures.end (omega arith)) (other_letters cut other))
      | then-branch-lt8-via-else-branch-lt8+then-ne w ↦ (
          let all : take n buf ≡ buf = take_all n buf (omega arith) in
          let unlike : buf ≢ codes "ORAMHOST" = other_text buf (codes "ORAMHOST") (search rules) in
          fails_here Magic _ _ (take n buf) after_letters c.in_ok-fill.ensures.ok
          (λ rest. other_letters (take n buf ++ rest) (λ e. unlike (sym (take_at buf rest 8 eight) ∙ ap (λ (xs : List ℕ). take 8 (xs ++ rest)) (sym all) ∙ e))))
    ]
