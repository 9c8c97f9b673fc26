use Rattle.std.proofs.Common.{Err, Ok, Result}
use Rattle.std.specs.Prelude.{IfErr, IfOk}
use Rattle.oram_store.proofs.Openings.{loses_nothing}
use Rattle.oram_store.proofs.laws.opening_loses_nothing.Goals as goal

ok_leads : {T E : Type 0} (result : Result T E) (P Q : T → Type 0) → ((x : T) → P x → Q x) → IfOk result P → IfOk result Q
ok_leads (Ok x) P Q leads holds = leads x holds
ok_leads (Err e) P Q leads holds = tt

err_leads : {T E : Type 0} (result : Result T E) (P Q : E → Type 0) → ((e : E) → P e → Q e) → IfErr result P → IfErr result Q
err_leads (Ok x) P Q leads holds = tt
err_leads (Err e) P Q leads holds = leads e holds

pub returns-clause-opened : goal.returns-clause-opened
returns-clause-opened g c =
    ok_leads c.over.result _ _ (λ store alike honest. loses_nothing g.F.FilePair.model c.args.files store.file.files (alike honest)) c.over.ensures.any_moment

pub returns-clause-not_opened : goal.returns-clause-not_opened
returns-clause-not_opened g c =
    err_leads c.over.result _ _ (λ why said. (said.0, said.1, λ honest. loses_nothing g.F.FilePair.model c.args.files said.0 (said.1.any_moment honest))) c.over.ensures.err
