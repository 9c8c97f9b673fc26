use Rattle.std.proofs.Common.{map}
use Rattle.std.specs.Option.{option_copied}
use Rattle.oram_rounds.specs.Batches.{texts}
use Rattle.oram_near.specs.NearCalls.{store_answers}
use Rattle.oram_near.specs.PathRequests.{request_of}
use Rattle.oram_near.proofs.RequestLists.{refusal_behind, refusal_left}
use Rattle.oram_near.proofs.answers.refusal_in.Goals as goal

pub returns-in-Some : goal.returns-in-Some
returns-in-Some c =
    refusal_left (texts c.args.acks.now) (store_answers (map request_of c.args.requests.now) (texts c.args.answers.now)) c.in-Some.refusal.now c.in-Some.ensures

pub returns-in-None : goal.returns-in-None
returns-in-None c =
    refusal_behind (texts c.args.acks.now) (store_answers (map request_of c.args.requests.now) (texts c.args.answers.now)) (option_copied c.refused_store.result) c.in-None.ensures c.refused_store.ensures
