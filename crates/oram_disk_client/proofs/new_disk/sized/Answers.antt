use Rattle.oram_disk_client.proofs.new_disk.sized.Goals as goal

pub returns-clause-said : goal.returns-clause-said
returns-clause-said c = (c.in_ok-size.size, c.in_ok-size.ensures.some, c.in_ok-whole.ensures.least.0, c.in_ok-whole.ensures.least.1)
