-- Behind the blanks stands the end, a run or a mark.
use Rattle.std.proofs.Common.{◌≡◌, ℕ, Some, subst, take, drop, ◌+◌, ◌-◌, ◌<◌, length, get_or, sym, ap, ◌∙◌, arith}
use Rattle.std.proofs.lemmas.Bool.{cond-true, cond-false, or_left}
use Rattle.std.specs.Char.{is_ascii_lowercase}
use Rattle.words.specs.declared.word.Word.{Word}
use Rattle.words.specs.Words.{mark, width, words_from, says, Comes}
use Rattle.words.proofs.WidthLaws.{run_width, mark_width}
use Rattle.words.proofs.WordLaws.{passed, solid, from_end, from_run, from_mark, comes}
use Rattle.words.proofs.reader.next_word.Goals as goal
use Rattle.words.proofs.reader.next_word.Goals.{then-is_ascii_lowercase, else-is_ascii_lowercase}

pub returns-in_default-clause-comes : goal.returns-in_default-clause-comes
returns-in_default-clause-comes c = λ h.
    let bs = c.args.text.now in
    let i = c.min-start.result in
    let j = i + c.blanks.result in
    let start : i ≡ c.args.from = omega (arith, c.min-start.ensures) in
    let end : j ≡ length bs = grind (arith, c.in_default.ensures) in
    (rw (← start) (passed bs i j (ap (λ n. i + n) c.blanks.ensures.count) ∙ from_end bs j (omega arith)), end)

pub returns-clause-comes : goal.returns-clause-comes
returns-clause-comes c = λ h.
    let bs = c.args.text.now in
    let i = c.min-start.result in
    let j = i + c.blanks.result in
    let start : i ≡ c.args.from = omega (arith, c.min-start.ensures) in
    let here : j < length bs = c.in-Some.ensures.lookup.3.0 in
    let byte : c.in-Some.field-0.now ≡ get_or bs j 0 = c.in-Some.ensures.lookup.3.1 0 in
    let is = ap (λ n. i + n) c.blanks.ensures.count in
    let on : words_from bs c.args.from ≡ words_from bs j = rw (← start) (passed bs i j is) in
    let solid-kind = cond-false _ _ _ (solid bs i j is here) in
    let lower = ap is_ascii_lowercase (sym byte) ∙ sym c.is_ascii_lowercase.ensures.value in
    let Goal = λ (p : Word × ℕ). Comes bs c.args.from (record { word = p.0; at = j; next = p.1 }) in
    elim c.if-is_ascii_lowercase.branch [
      | then-is_ascii_lowercase w ↦ (
          let yes = lower ∙ w.if-is_ascii_lowercase.true in
          let k = j + w.run_length.result in
          let run = from_run bs j here (solid-kind ∙ cond-true _ _ _ yes) (or_left _ _ yes) k (ap (λ n. j + n) w.run_length.ensures.count) in
          subst Goal (sym w.next-is) (comes bs c.args.from j k _ w.spelled_word.result w.spelled_word.ensures (on ∙ run.0)))
      | else-is_ascii_lowercase w ↦ subst Goal (sym w.next-is) (comes bs c.args.from j (j + 1) _ w.mark_word.result (w.mark_word.ensures ∙ ap (λ b. Some (mark b)) byte) (on ∙ from_mark bs j here (solid-kind ∙ cond-false _ _ _ (lower ∙ w.if-is_ascii_lowercase.false))))
    ]

-- the word takes what it says
pub returns-clause-behind : goal.returns-clause-behind
returns-clause-behind c = λ s said.
    let j = c.min-start.result + c.blanks.result in
    let Goal = λ (p : Word × ℕ). says p.0 ≡ Some s → p.1 ≡ j + width s in
    elim c.if-is_ascii_lowercase.branch [
      | then-is_ascii_lowercase w ↦ subst Goal (sym w.next-is) (λ e. let wide : width s ≡ length (take (j + w.run_length.result - j) (drop j c.args.text.now)) = run_width _ w.spelled_word.ensures e in let within = w.run_length.ensures.within in grind (arith, wide, within)) said
      | else-is_ascii_lowercase w ↦ subst Goal (sym w.next-is) (λ e. omega (arith, mark_width c.in-Some.field-0.now w.mark_word.ensures e)) said
    ]
