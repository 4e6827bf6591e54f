use Rattle.std.proofs.Common.{subst, ◌∙◌}
use Rattle.std.proofs.lemmas.List.{length-take-le}
use Rattle.compile.specs.Compiling.{Builds}
use Rattle.compile.proofs.CompilingLaws.{builds_longer, taken_zeros}
use Rattle.compile.proofs.compile.build.Goals as goal

pub explore-requires-clause-store : goal.explore-requires-clause-store
explore-requires-clause-store c = (length-take-le 255 c.args.positions.now c.requires.store.0, λ k. taken_zeros 255 c.args.positions.now k c.requires.store.1)

pub returns : goal.returns
returns c =
    let made = subst (λ ps. Builds c.args.signals.inputs c.args.signals.outputs ps c.args.root c.explore.new.positions c.explore.result) c.of.ensures c.explore.ensures in
    builds_longer c.args.signals.inputs c.args.signals.outputs c.args.parts.now c.args.root 255 c.args.positions.now c.explore.new.positions c.explore.result (c.explore.auto.positions ∙ length-take-le 255 c.args.positions.now c.requires.store.0) c.requires.store.1 made
