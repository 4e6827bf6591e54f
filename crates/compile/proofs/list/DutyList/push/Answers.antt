use Rattle.std.proofs.Common.{◌+◌, ◌-◌, drop, replicate, sym, ap, ◌∙◌, arith, length-set}
use Rattle.std.proofs.lemmas.List.{drop-set-lt, drop-drop, drop-replicate}
use Rattle.compile.proofs.list.DutyList.push.Goals as goal

pub invariant_of-self : goal.invariant_of-self
invariant_of-self c =
    let n = c.self.inside.len in
    let xs = c.self.inside.sets in
    record {
      few = omega arith;
      long = length-set xs n c.args.set ∙ c.self.invariant.long;
      zeros = drop-set-lt (n + 1) xs n c.args.set (omega arith) ∙ sym (drop-drop 1 n xs) ∙ ap (drop 1) c.self.invariant.zeros ∙ drop-replicate 1 (32 - n) 0 ∙ ap (λ k. replicate k 0) (omega arith);
    }
