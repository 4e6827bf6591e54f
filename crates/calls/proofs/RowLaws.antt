-- Rows of calls in numbers, one call more at a time.
use Rattle.std.proofs.Common.{◌≡◌, ℕ, suc, ◌+◌, ◌<◌, ◌≤◌, List, [], ◌∷◌, ◌++◌, length, get_or, take, drop, set, Some, None, Ok, Err, Option, Result, Bool, false, refl, sym, ap, ◌∙◌, append_assoc, arith, length-append}
use Rattle.std.specs.Prelude.{is_none}
use Rattle.std.specs.List.{position_or_len}
use Rattle.std.proofs.lemmas.List.Sums.{fails_before_first}
use Rattle.std.proofs.lemmas.Bool.Decides.{nat_tests}
use Rattle.terms.specs.declared.refusal.Refusal.{Refusal}
use Rattle.terms.specs.declared.call.Call.{Call}
use Rattle.terms.specs.declared.call.Step.{Step}
use Rattle.arena.specs.Arena.{Arena, Sound}
use Rattle.arena.specs.Values.{Values}
use Rattle.arena.specs.Book.{Book}
use Rattle.arena.specs.Tally.{Tally, between, reply, steps, tally}
use Rattle.arena.proofs.RowLaws.{loses_at_most, loses_at_least}
use Rattle.arena.proofs.ControlLaws.{values_proper}
use Rattle.run.specs.declared.run.Run.{Run}
use Rattle.run.specs.declared.stage.Stage.{Stage}
use Rattle.run.specs.Promise.{Started}
use Rattle.run.specs.Stages.{stage_reply, stage_after}
use Rattle.run.proofs.StageLaws.{stage_of, same_reply, same_stage}
use Rattle.run.proofs.StepLaws.{tallied_more, step_at, steps_more, steps_long, store_more, stands_next}
use Rattle.calls.specs.declared.code.CallCode.{CallCode}
use Rattle.calls.specs.declared.code.Answer.{Answer}
use Rattle.calls.specs.Codes.{call_of, as_list, calls_of, answer_of, answers_of}
use Rattle.calls.specs.Rows.{strange_at, answer_at, answer_with, Answered, Promised, RowReplayed}

-- one call more in a row
calls_more : (xs : List CallCode) (x : CallCode) (c : Call) → call_of x ≡ Some c → calls_of (xs ++ x ∷ []) ≡ calls_of xs ++ c ∷ []
calls_more [] x c e = ap (λ o. as_list o ++ []) e
calls_more (y ∷ ys) x c e = ap (λ zs. as_list (call_of y) ++ zs) (calls_more ys x c e) ∙ sym (append_assoc (as_list (call_of y)) (calls_of ys) (c ∷ []))

-- one answer more
answers_more : (ss : List Step) (s : Step) → answers_of (ss ++ s ∷ []) ≡ answers_of ss ++ answer_of s ∷ []
answers_more [] s = refl
answers_more (t ∷ ts) s = ap (λ xs. answer_of t ∷ xs) (answers_more ts s)

answers_long : (ss : List Step) → length (answers_of ss) ≡ length ss
answers_long [] = refl
answers_long (s ∷ ss) = ap suc (answers_long ss)

-- a run and a store of answers after the first i calls of a row
pub record Reached {a : Arena} (v : Values a) (row : List CallCode) (before : List Answer) (i : ℕ) (st : Stage) (now : List Answer) : Type 0 where
  pub counted : length (calls_of (take i row)) ≡ i
  pub stage : st ≡ stage_of a (tally v (calls_of (take i row)))
  pub written : now ≡ answers_of (steps v (calls_of (take i row)) (between [])) ++ drop i before

module _ (a : Arena) (s : Sound a) (v : Values a) (bs : List ℕ) (book : Book a v bs) where
  -- an answer is the tally's
  pub answer_is : (c : Call) (t : Tally) (st : Stage) → st ≡ stage_of a t → answer_at a bs c st ≡ Ok (answer_of (step_at v c t))
  answer_is c t st e =
      let replied : stage_reply a bs c st ≡ reply v c t = cc (same_reply a s v bs book c t) in
      let stood = stands_next a s v bs book c t st (stage_after a bs c st) _ e refl refl in
      (λ j. answer_with (replied j) (stood j))

  -- one call more
  pub reached_more : (row : List CallCode) (before : List Answer) (i : ℕ) (x : CallCode) (c : Call) (st next : Stage) (now : List Answer) (answer : Answer) → i < length row → i < length before → take (i + 1) row ≡ take i row ++ x ∷ [] → call_of x ≡ Some c → Reached v row before i st now → next ≡ stage_after a bs c st → Ok answer ≡ answer_at a bs c st → Reached v row before (i + 1) next (set now i answer)
  reached_more row before i x c st next now answer lr lb m e w f g =
      let calls = calls_of (take i row) in
      let t = tally v calls in
      let d = steps v calls (between []) in
      let more : calls_of (take (i + 1) row) ≡ calls ++ c ∷ [] = ap calls_of m ∙ calls_more (take i row) x c e in
      let long : length (answers_of d) ≡ i = answers_long d ∙ steps_long v calls (between []) ∙ w.counted in
      let told : answer ≡ answer_of (step_at v c t) = let h = answer_is c t st w.stage in cc in
      record {
        counted = ap length more ∙ length-append calls (c ∷ []) ∙ ap (λ n. n + 1) w.counted;
        stage = cc (same_stage a s v bs book c t, tallied_more v calls c (between []));
        written = cc (w.written, store_more (answers_of d) before i answer long lb, steps_more v calls c (between []), answers_more d (step_at v c t));
      }

-- what is left of an option that is no Some
pub no_some : {X : Type 0} (o : Option X) → ((x : X) → o ≡ Some x → ⊥) → o ≡ None
no_some None f = refl
no_some (Some x) f = absurd (f x refl)

-- no result is both
pub not_both : {X E : Type 0} {r : Result X E} {x : X} {e : E} → r ≡ Ok x → r ≡ Err e → ⊥
not_both h k = absurd cc

some_of : {X : Type 0} (o : Option X) → is_none o ≡ false → (x : X) × (o ≡ Some x)
some_of None e = absurd cc
some_of (Some x) e = (x, refl)

-- a row with nothing strange has a call at each place
pub call_there : (row : List CallCode) (i : ℕ) (d : CallCode) → strange_at row ≡ None → i < length row → (c : Call) × (call_of (get_or row i d) ≡ Some c)
call_there row i d e l =
    let p : CallCode → Bool = λ c. is_none (call_of c) in
    let all : length row ≤ position_or_len p row = grind (arith, nat_tests) in
    some_of (call_of (get_or row i d)) (fails_before_first p row i d (omega arith))

-- all calls of a row are answered
pub reached_all : {a : Arena} (v : Values a) (row : List CallCode) (before : List Answer) (i : ℕ) (st : Stage) (now : List Answer) → i ≡ length row → take i row ≡ row → Reached v row before i st now → Answered v row before now
reached_all v row before i st now n t w = cc (w.written)

-- what a run keeps
pub promised : {a : Arena} → Sound a → (v : Values a) (calls : List Call) → Promised v calls
promised s v calls = record {
  follows = λ j. loses_at_most s v (take j calls);
  spoils = λ j. loses_at_least s v (take j calls);
  proper = values_proper s v;
}

-- a run that was not made writes nothing
pub not_made : (a : Arena) (bs : List ℕ) (row : List CallCode) (before : List Answer) (e : Refusal) → length row ≤ length before → strange_at row ≡ None → Started a bs (Err e) → RowReplayed a bs row before before (Err e)
not_made a bs row before e l u w = record {
  short = λ m. absurd (omega arith);
  strange = λ k _ h. absurd cc;
  none = λ _ _ z. (let h = w.none z in cc, refl);
  other = λ _ _ z n. (let h = w.other z n in cc, refl);
  kept = λ _ _ v book. let h = w.made (v, book) in absurd cc;
}

-- a run that was made answers the row
pub made_kept : (a : Arena) (bs : List ℕ) (row : List CallCode) (before now : List Answer) (x : Run) (r : Result ℕ Refusal) → length row ≤ length before → strange_at row ≡ None → Started a bs (Ok x) → ((v : Values a) → Book a v bs → (r ≡ Ok (length row)) × Answered v row before now × Promised v (calls_of row)) → RowReplayed a bs row before now r
made_kept a bs row before now x r l u w k = record {
  short = λ m. absurd (omega arith);
  strange = λ j _ h. absurd cc;
  none = λ _ _ z. let h = w.none z in absurd cc;
  other = λ _ _ z n. let h = w.other z n in absurd cc;
  kept = λ _ _. k;
}
