use Rattle.oram_store.proofs.GroupRuns.{honest_before, in_turn, sound_after}
use Rattle.oram_store.proofs.Reopened.{found_again}
use Rattle.oram_store.proofs.laws.answered_is_found_again.Goals as goal

pub returns : goal.returns
returns g c first others at new again left are more said then running honest sound since opened =
    let model = g.F.FilePair.model in
    let turn = in_turn model g.met.F.FilePair.only_now g.met.F.FilePair.counts_now g.met.F.FilePair.whole in
    let was_honest = honest_before model others at new then honest in
    let before = turn first c.args.store.now at are said was_honest sound in
    let mid_sound = sound_after model first c.args.store.now at are said was_honest sound running in
    let after = turn others at new more then honest mid_sound in
    found_again model first others c.args.store.now at new again left said running before after since opened
