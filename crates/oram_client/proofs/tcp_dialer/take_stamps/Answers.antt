use Rattle.std.proofs.Common.{◌≡◌, ℕ, List, ◌++◌, Option, Result, Ok, Err, MatchResult, ap, ◌∙◌, subst}
use Rattle.std.specs.Global.{Vec}
use Rattle.std.specs.Option.{option_to_list}
use Rattle.std.specs.Prelude.{IfErr, OnOk}
use Rattle.oram_wire.specs.HostMessages.{done_answer}
use Rattle.oram_client.specs.Stamped.{ArePutFor}
use Rattle.oram_client.specs.declared.dialer.Trouble.{Trouble}
use Rattle.oram_client.proofs.TakenStamps.{apart}
use Rattle.oram_client.proofs.tcp_dialer.take_stamps.Goals as goal

-- what both clauses say together
both : {A : Type 0} (r : Result A Trouble) (begun done b d : List ℕ) → b ≡ begun → d ≡ done → OnOk r ((b ≡ done_answer) × (d ≡ done_answer)) → IfErr r (λ trouble. ArePutFor b d trouble)
    → MatchResult r (λ put. (begun ≡ done_answer) × (done ≡ done_answer)) (λ trouble. ArePutFor begun done trouble)
both (Ok put) begun done b d same_b same_d ok err = subst (λ (x : List ℕ). (x ≡ done_answer) × (done ≡ done_answer)) same_b (subst (λ (y : List ℕ). (b ≡ done_answer) × (y ≡ done_answer)) same_d ok)
both (Err trouble) begun done b d same_b same_d ok err = subst (λ (x : List ℕ). ArePutFor x done trouble) same_b (subst (λ (y : List ℕ). ArePutFor b y trouble) same_d err)

pub returns : goal.returns
returns c =
    let begun = c.remove-begun.result in
    let done = c.in-Some.done in
    record {
      begun = begun.items;
      done = done.items;
      all = apart c.args.answers.now.items c.remove-begun.new.self.items c.pop.new.self.items begun done c.requires c.remove-begun.ensures.items c.remove-begun.ensures.value
          (c.pop.ensures.items ∙ ap (λ (o : Option (Vec ℕ)). c.pop.new.self.items ++ option_to_list o) c.in-Some.is);
      puts = both c.are_put.result begun.items done.items c.deref.result.now c.deref-2.result.now c.deref.ensures.value c.deref-2.ensures.value c.are_put.ensures.ok c.are_put.ensures.err;
    }
