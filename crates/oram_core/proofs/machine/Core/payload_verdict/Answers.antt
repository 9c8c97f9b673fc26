use Rattle.std.proofs.Common.{◌≡◌, ◌<◌, ◌%◌, length, subst, arith, rules}
use Rattle.std.proofs.lemmas.Grind.{common_steps}
use Rattle.oram_core.specs.Core.{CoreValue, IsSound, scheme_of}
use Rattle.oram_core.proofs.AnswerVerdicts.{stored_means, longer_means}
use Rattle.oram_core.proofs.Judged.{stored_tells, longer_tells}
use Rattle.oram_core.proofs.machine.Core.payload_verdict.Goals as goal

pub returns-then-self-eq0-clause-means : goal.returns-then-self-eq0-clause-means
returns-then-self-eq0-clause-means g c = c.path_verdict.ensures.means

pub returns-then-is_empty-clause-means : goal.returns-then-is_empty-clause-means
returns-then-is_empty-clause-means g c = λ w fits apart.
    let now = c.args.self.now in
    let sound = subst (λ (u : CoreValue g.row.S.Denot). IsSound u.device (g.S.Sealer.cipher u.sealer).overhead u.state) c.self.view_is c.self.invariant in
    let odd : now.state.entry_number % 2 ≡ 1 = subst (λ (u : CoreValue g.row.S.Denot). u.state.entry_number % 2 ≡ 1) c.self.view_is (omega arith) in
    let none : length c.args.records.now ≡ 0 = first_of (search rules, grind (arith, common_steps)) in
    stored_means (scheme_of g.S.Sealer.cipher now) now.state w c.args.records.now sound c.requires odd none

pub returns-then-self-eq0-clause-tells : goal.returns-then-self-eq0-clause-tells
returns-then-self-eq0-clause-tells g c = c.path_verdict.ensures.tells

pub returns-then-is_empty-clause-tells : goal.returns-then-is_empty-clause-tells
returns-then-is_empty-clause-tells g c =
    let now = c.args.self.now in
    let odd : now.state.entry_number % 2 ≡ 1 = subst (λ (u : CoreValue g.row.S.Denot). u.state.entry_number % 2 ≡ 1) c.self.view_is (omega arith) in
    let none : length c.args.records.now ≡ 0 = first_of (search rules, grind (arith, common_steps)) in
    stored_tells (scheme_of g.S.Sealer.cipher now) now.state c.args.records.now odd none

pub returns-clause-means : goal.returns-clause-means
returns-clause-means g c = λ w fits apart.
    let now = c.args.self.now in
    let sound = subst (λ (u : CoreValue g.row.S.Denot). IsSound u.device (g.S.Sealer.cipher u.sealer).overhead u.state) c.self.view_is c.self.invariant in
    let odd : now.state.entry_number % 2 ≡ 1 = subst (λ (u : CoreValue g.row.S.Denot). u.state.entry_number % 2 ≡ 1) c.self.view_is (omega arith) in
    let some : 0 < length c.args.records.now = first_of (search rules, grind (arith, common_steps)) in
    longer_means (scheme_of g.S.Sealer.cipher now) now.state w c.args.records.now sound c.requires odd some

pub returns-clause-tells : goal.returns-clause-tells
returns-clause-tells g c =
    let now = c.args.self.now in
    let odd : now.state.entry_number % 2 ≡ 1 = subst (λ (u : CoreValue g.row.S.Denot). u.state.entry_number % 2 ≡ 1) c.self.view_is (omega arith) in
    let some : 0 < length c.args.records.now = first_of (search rules, grind (arith, common_steps)) in
    longer_tells (scheme_of g.S.Sealer.cipher now) now.state c.args.records.now odd some
