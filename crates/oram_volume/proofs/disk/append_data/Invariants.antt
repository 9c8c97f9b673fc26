use Rattle.std.proofs.Common.{◌≡◌, ◌++◌, take}
use Rattle.std.specs.List.{flat_map}
use Rattle.oram_volume.specs.DiskCalls.{data_of}
use Rattle.oram_volume.proofs.disk.append_data.Given as goal

abbrev pub invariant-loop-reply : goal.invariant-loop-reply
invariant-loop-reply l = l.out.items ≡ l.fn.out.items ++ flat_map (λ reply. data_of reply.body) (take l.reply-index l.replies)
