use Rattle.oram_stamps.proofs.law.older_states_are_refused.Goals as goal

pub returns : goal.returns
returns c = λ k host new. ((λ allowed. new allowed.0 allowed.2.begun_since allowed.2.begun_at), λ later. record { new = new; later = later })
