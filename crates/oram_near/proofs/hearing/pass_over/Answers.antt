use Rattle.std.proofs.Common.{◌≡◌, ℕ, true, false, List, ◌++◌, Option, Ok, Err, Result, sym, ◌∙◌}
use Rattle.std.specs.Global.{Vec}
use Rattle.std.specs.Result.{is_err}
use Rattle.oram_session.specs.declared.link.LinkFault.{LinkFault}
use Rattle.oram_link_laws.specs.Runs.{Exchange}
use Rattle.oram_rounds.specs.Batches.{BatchOutcome, texts}
use Rattle.oram_rounds.specs.Law.{AreBatches}
use Rattle.oram_rounds.specs.Streams.{EndsAsBatch}
use Rattle.oram_near.specs.NearStreams.{Hears, PassesOver, bytes_of, heard_of}
use Rattle.oram_near.proofs.HeardAnswers.{passes_fault, passes_over}
use Rattle.oram_near.proofs.hearing.pass_over.Goals as goal

module _ {B : Type 0} (batches : B → List (List ℕ) → BatchOutcome → List Exchange → B → Type 0) (streams : B → List (List ℕ) → List (List ℕ) → B → Type 0) (fetches stores : List (List ℕ)) where
  on_fault : (k m : B) (r : Result (Option (Vec ℕ)) LinkFault) → is_err r ≡ true → Hears batches streams k fetches (heard_of r) m → PassesOver batches streams k (fetches ++ stores) m
  on_fault k m (Ok refusal) is heard = absurd cc
  on_fault k m (Err fault) is heard = passes_fault batches streams k m fetches stores fault heard

  on_answers : AreBatches batches → EndsAsBatch batches streams → (k m n : B) (r last : Result (Option (Vec ℕ)) LinkFault) → is_err r ≡ false → Hears batches streams k fetches (heard_of r) m
      → Hears batches streams m stores (heard_of last) n → PassesOver batches streams k (fetches ++ stores) n
  on_answers are ends k m n (Ok refusal) last is heard later = passes_over batches streams are ends k m n fetches stores (bytes_of refusal) (heard_of last) heard later
  on_answers are ends k m n (Err fault) last is heard later = absurd cc

pub returns-then-is_err : goal.returns-then-is_err
returns-then-is_err g c =
    on_fault g.B.BatchLink.batches g.B.BatchLink.streams (texts c.args.fetches.now) (texts c.args.stores.now) c.args.link.now c.hear.new.link c.hear.result (sym c.is_err.ensures.value ∙ c.if-is_err.true) c.hear.ensures

pub returns : goal.returns
returns g c =
    on_answers g.B.BatchLink.batches g.B.BatchLink.streams (texts c.args.fetches.now) (texts c.args.stores.now) g.met.B.BatchLink.are_batches g.met.B.BatchLink.ends_as_batch
    c.args.link.now c.hear.new.link c.hear-heard.new.link c.hear.result c.hear-heard.result (sym c.is_err.ensures.value ∙ c.if-is_err.false) c.hear.ensures c.hear-heard.ensures
