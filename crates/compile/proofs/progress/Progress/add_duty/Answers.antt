use Rattle.std.proofs.Common.{◌≡◌, ◌≤◌, cond, length, get_or, Some, None, MatchOption, sym, ap, ◌∙◌, subst, arith}
use Rattle.std.proofs.lemmas.List.{get_or_past}
use Rattle.rules.specs.declared.part.Part.TheVariants.{True}
use Rattle.rules.specs.Sets.{Sets, too_wide, sets, join_and}
use Rattle.rules.specs.Parts.{duty_part}
use Rattle.rules.specs.Progress.{part_after}
use Rattle.compile.specs.Listed.{told}
use Rattle.compile.specs.Known.{Knows}
use Rattle.compile.specs.Progressing.{rule, round}
use Rattle.compile.proofs.GivenLaws.{and_strict}
use Rattle.compile.proofs.ExpandLaws.{after_at, after_stays}
use Rattle.compile.proofs.progress.Progress.add_duty.Goals as goal

-- no part is that duty
pub returns-then-k-self-clause-value : goal.returns-then-k-self-clause-value
returns-then-k-self-clause-value c =
    let o = c.args.self.now.outline in
    let k = duty_part o.parts.now c.args.d in
    let past : length o.parts.now ≤ k = omega (arith, o.outlines.owned c.args.d c.requires, c.if-k-self.true) in
    let none = after_at c.args.self.now k (get_or_past o.parts.now k True past) ∙ sym c.of_true.ensures in
    subst (λ (s : Sets). MatchOption c.add.result (s ≡ too_wide) (λ x. s ≡ sets c.add.new.all)) (sym (ap (join_and (sets c.args.all.now)) none)) c.add.ensures

pub returns-in-None-clause-value : goal.returns-in-None-clause-value
returns-in-None-clause-value c =
    let old = c.args.self.now in
    let new = c.find_after.new.self in
    let k = get_or old.outline.owners c.args.d 0 in
    let is : part_after (rule new) (round new) k ≡ told (get_or new.afters.lists k None) = subst (λ b. Knows (part_after (rule new) (round new) k) (cond b (Some (get_or new.afters.lists k None)) None)) c.find_after.ensures.known (new.afters_right.right k) in
    let wide : part_after (rule old) (round old) (duty_part (rule old) c.args.d) ≡ too_wide =
    ap (part_after (rule old) (round old)) (sym (old.outline.outlines.owned c.args.d c.requires)) ∙ after_stays c.find_after.ensures.stays k ∙ is ∙ ap told (sym c.list.ensures ∙ c.in-None.is) in
    ap (join_and (sets c.args.all.now)) wide ∙ and_strict.right c.args.all.now
