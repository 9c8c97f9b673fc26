use Rattle.std.proofs.Common.{◌≡◌, true, false}
use Rattle.oram_summary.proofs.StashText.{AreBlocks, stash_found, stash_only}
use Rattle.oram_summary.proofs.stash.read_stash.Goals as goal

pub returns-then-not-are_stash-clause-only : goal.returns-then-not-are_stash-clause-only
returns-then-not-are_stash-clause-only c = λ cells stash.
    let read : AreBlocks c.args.device.now c.args.count c.block_bytes.result c.in_ok-read.read.items c.deref.result.now c.args.bytes.now c.in_ok-read.behind.now = record {
      bytes_of_block = c.block_bytes.ensures.value;
      same = c.deref.ensures.value;
      text = c.in_ok-read.ensures.text;
      counted = c.in_ok-read.ensures.count;
      whole = c.in_ok-read.ensures.whole;
      fit = c.in_ok-read.ensures.fit;
    } in
    let found = stash_only c.args.device.now c.args.count c.block_bytes.result c.in_ok-read.read.items c.deref.result.now c.args.bytes.now c.in_ok-read.behind.now read c.requires.device cells stash in
    let yes : c.are_stash.result ≡ true = c.are_stash.ensures.1 found.1 in
    let no : c.are_stash.result ≡ false = c.if-not-are_stash.true in
    cc

pub returns-clause-ok : goal.returns-clause-ok
returns-clause-ok c =
    let read : AreBlocks c.args.device.now c.args.count c.block_bytes.result c.in_ok-read.read.items c.deref.result.now c.args.bytes.now c.in_ok-read.behind.now = record {
      bytes_of_block = c.block_bytes.ensures.value;
      same = c.deref.ensures.value;
      text = c.in_ok-read.ensures.text;
      counted = c.in_ok-read.ensures.count;
      whole = c.in_ok-read.ensures.whole;
      fit = c.in_ok-read.ensures.fit;
    } in
    stash_found c.args.device.now c.args.count c.block_bytes.result c.in_ok-read.read.items c.deref.result.now c.args.bytes.now c.in_ok-read.behind.now read
    c.requires.count c.requires.long (c.are_stash.ensures.0 c.if-not-are_stash.false)

pub returns-clause-only : goal.returns-clause-only
returns-clause-only c = λ cells stash.
    let read : AreBlocks c.args.device.now c.args.count c.block_bytes.result c.in_ok-read.read.items c.deref.result.now c.args.bytes.now c.in_ok-read.behind.now = record {
      bytes_of_block = c.block_bytes.ensures.value;
      same = c.deref.ensures.value;
      text = c.in_ok-read.ensures.text;
      counted = c.in_ok-read.ensures.count;
      whole = c.in_ok-read.ensures.whole;
      fit = c.in_ok-read.ensures.fit;
    } in
    (stash_only c.args.device.now c.args.count c.block_bytes.result c.in_ok-read.read.items c.deref.result.now c.args.bytes.now c.in_ok-read.behind.now read c.requires.device cells stash).0
