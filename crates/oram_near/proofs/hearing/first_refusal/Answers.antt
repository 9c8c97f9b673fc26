use Rattle.std.proofs.Common.{ℕ, [], ◌∷◌, Option, subst}
use Rattle.std.specs.Global.{Vec}
use Rattle.oram_near.specs.NearCalls.{IsRefusal}
use Rattle.oram_near.specs.NearStreams.{bytes_of}
use Rattle.oram_near.proofs.RequestLists.{refusal_behind, refusal_left}
use Rattle.oram_near.proofs.hearing.first_refusal.Goals as goal

pub returns-in-Some : goal.returns-in-Some
returns-in-Some c = λ heard is.
    refusal_left heard (c.args.answer.items ∷ []) c.in-Some.first.items (subst (λ (o : Option (Vec ℕ)). IsRefusal heard (bytes_of o)) c.in-Some.is is)

pub returns-in-None : goal.returns-in-None
returns-in-None c = λ heard is.
    refusal_behind heard (c.args.answer.items ∷ []) (bytes_of c.refusal_of.result) (subst (λ (o : Option (Vec ℕ)). IsRefusal heard (bytes_of o)) c.in-None.is is) c.refusal_of.ensures
