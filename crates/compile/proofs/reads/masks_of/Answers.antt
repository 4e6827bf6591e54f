use Rattle.std.proofs.Common.{◌<◌, length, ◌∙◌, arith, length-set}
use Rattle.compile.proofs.ReadsLaws.{reading_more}
use Rattle.compile.proofs.reads.masks_of.Goals as goal

pub loop-k-preserved : goal.loop-k-preserved
loop-k-preserved c =
    let inv = c.loop-k.invariant in
    let inside : c.loop-k.k < length c.loop-k.masks = omega (arith, inv.long, c.requires.0, c.loop-k-test.true) in
    record {
      long = length-set c.loop-k.masks c.loop-k.k c.mask_from.result ∙ inv.long;
      reads = reading_more c.args.parts.now c.requires.1 c.loop-k.k c.loop-k.masks c.mask_from.result inside inv.reads c.mask_from.ensures;
    }
