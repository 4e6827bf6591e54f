-- Rows of calls, one call more at a time.
use Rattle.std.proofs.Common.{◌≡◌, ℕ, suc, ◌+◌, ◌<◌, ◌≤◌, List, [], ◌∷◌, ◌++◌, length, get_or, take, drop, set, Ok, Err, Result, refl, ap, ◌∙◌, append_assoc, arith, length-take}
use Rattle.std.proofs.Math.Seq.{set-append_seam}
use Rattle.std.proofs.lemmas.List.{drop_more}
use Rattle.terms.specs.declared.call.Call.{Call}
use Rattle.terms.specs.declared.call.Reply.{Reply}
use Rattle.terms.specs.declared.call.Standing.{Standing}
use Rattle.terms.specs.declared.call.Step.{Step}
use Rattle.terms.specs.declared.refusal.Refusal.{Refusal}
use Rattle.arena.specs.Arena.{Arena, Sound}
use Rattle.arena.specs.Values.{Values}
use Rattle.arena.specs.Book.{Book}
use Rattle.arena.specs.Tally.{Tally, between, standing, reply, after, tallied, steps, tally}
use Rattle.arena.proofs.RowLaws.{loses_at_most, loses_at_least}
use Rattle.arena.proofs.ControlLaws.{values_proper}
use Rattle.run.specs.declared.run.Run.{Run}
use Rattle.run.specs.declared.stage.Stage.{Stage}
use Rattle.run.specs.Stages.{stage_position, stage_reply, stage_after, standing_at}
use Rattle.run.specs.Promise.{Started, Kept, Replayed}
use Rattle.run.proofs.StageLaws.{stage_of, same_reply, same_stage, same_standing}

pub tallied_more : {a : Arena} (v : Values a) (cs : List Call) (c : Call) (t : Tally) → tallied v (cs ++ c ∷ []) t ≡ after v c (tallied v cs t)
tallied_more v [] c t = refl
tallied_more v (d ∷ cs) c t = tallied_more v cs c (after v d t)

-- a call told, and the standing after it
abbrev pub step_at : {a : Arena} → Values a → Call → Tally → Step
step_at v c t = record { reply = reply v c t; standing = standing v (after v c t) }

pub steps_more : {a : Arena} (v : Values a) (cs : List Call) (c : Call) (t : Tally) → steps v (cs ++ c ∷ []) t ≡ steps v cs t ++ step_at v c (tallied v cs t) ∷ []
steps_more v [] c t = refl
steps_more v (d ∷ cs) c t = ap (λ xs. step_at v d t ∷ xs) (steps_more v cs c (after v d t))

pub steps_long : {a : Arena} (v : Values a) (cs : List Call) (t : Tally) → length (steps v cs t) ≡ length cs
steps_long v [] t = refl
steps_long v (d ∷ cs) t = ap suc (steps_long v cs (after v d t))

-- one entry more in a store
pub store_more : {X : Type 0} (xs ys : List X) (i : ℕ) (y : X) → length xs ≡ i → i < length ys → set (xs ++ drop i ys) i y ≡ (xs ++ y ∷ []) ++ drop (i + 1) ys
store_more xs ys i y e l = grind (arith, drop_more ys i y l, set-append_seam xs (get_or ys i y) (drop (i + 1) ys) y, append_assoc)

-- a run and a store of steps after the first i calls of a row
pub record Reached {a : Arena} (v : Values a) (row : List Call) (before : List Step) (i : ℕ) (st : Stage) (now : List Step) : Type 0 where
  pub stage : st ≡ stage_of a (tally v (take i row))
  pub written : now ≡ steps v (take i row) (between []) ++ drop i before

module _ (a : Arena) (s : Sound a) (v : Values a) (bs : List ℕ) (book : Book a v bs) where
  -- where a run stands after a call
  pub stands_next : (c : Call) (t : Tally) (st next : Stage) (r : Result Standing Refusal) → st ≡ stage_of a t → next ≡ stage_after a bs c st → r ≡ standing_at bs (stage_position next) → r ≡ Ok (standing v (after v c t))
  stands_next c t st next r e f g = cc (same_stage a s v bs book c t, same_standing a s v bs book (after v c t))

  -- one call more
  pub reached_more : (row : List Call) (before : List Step) (i : ℕ) (c : Call) (st next : Stage) (now : List Step) (told : Reply) (stood : Standing) → i < length row → i < length before → take (i + 1) row ≡ take i row ++ c ∷ [] → Reached v row before i st now → next ≡ stage_after a bs c st → told ≡ stage_reply a bs c st → Ok stood ≡ standing_at bs (stage_position next) → Reached v row before (i + 1) next (set now i (record { reply = told; standing = stood }))
  reached_more row before i c st next now told stood lr lb m w f g h =
      let t = tally v (take i row) in
      let d = steps v (take i row) (between []) in
      let long : length d ≡ i = steps_long v (take i row) (between []) ∙ length-take i row ∙ omega arith in
      let replied : told ≡ reply v c t = cc (same_reply a s v bs book c t) in
      let stood_at = stands_next c t st next (Ok stood) w.stage f h in
      let step : ◌≡◌ {A = Step} (record { reply = told; standing = stood }) (step_at v c t) = cc in
      record {
        stage = cc (same_stage a s v bs book c t, tallied_more v (take i row) c (between []));
        written = cc (w.written, store_more d before i (step_at v c t) long lb, steps_more v (take i row) c (between []));
      }

  -- a whole row is kept
  pub reached_all : (row : List Call) (before : List Step) (i : ℕ) (st : Stage) (now : List Step) (r : Result Standing Refusal) → i ≡ length row → take i row ≡ row → Reached v row before i st now → r ≡ standing_at bs (stage_position st) → (end : Standing) × (r ≡ Ok end) × Kept a v row before now end
  reached_all row before i st now r n t w g = (
    standing v (tally v row),
    cc (same_standing a s v bs book (tally v row)),
    record {
      told = cc;
      ended = refl;
      follows = λ j. loses_at_most s v (take j row);
      spoils = λ j. loses_at_least s v (take j row);
      proper = values_proper s v;
    },
  )

-- a run that was not made writes nothing
pub not_made : (a : Arena) (bs : List ℕ) (row : List Call) (before : List Step) (e : Refusal) → length row ≤ length before → Started a bs (Err e) → Replayed a bs row before before (Err e)
not_made a bs row before e l w = record {
  short = λ m. absurd (omega arith);
  none = λ _ z. (let h = w.none z in cc, refl);
  other = λ _ z n. (let h = w.other z n in cc, refl);
  kept = λ _ v book. let h = w.made (v, book) in cc;
}

-- a run that was made keeps the row
pub made_kept : (a : Arena) (bs : List ℕ) (row : List Call) (before now : List Step) (x : Run) (r : Result Standing Refusal) → length row ≤ length before → Started a bs (Ok x) → ((v : Values a) → Book a v bs → (end : Standing) × (r ≡ Ok end) × Kept a v row before now end) → Replayed a bs row before now r
made_kept a bs row before now x r l w k = record {
  short = λ m. absurd (omega arith);
  none = λ _ z. let h = w.none z in (cc, cc);
  other = λ _ z n. let h = w.other z n in (cc, cc);
  kept = λ _. k;
}
