-- With the game's book, each call of a run is told and leaves what the tally says.
use Rattle.std.proofs.Common.{◌≡◌, ℕ, ◌^◌, ◌≤◌, true, cond, eqb, ltb, List, Ok, Err, sym, refl, ap, ◌∙◌, arith}
use Rattle.std.proofs.lemmas.Bool.Decides.{nat_tests}
use Rattle.terms.specs.declared.call.Call.{Call}
use Rattle.terms.specs.declared.call.Call.TheVariants.{Open, Set, Close, Abandon, AskPosition, AskCount, AskSpoiling}
use Rattle.terms.specs.declared.refusal.Refusal.TheVariants.{OutOfRange, RunLost}
use Rattle.arena.specs.Arena.{Arena, Place, Sound}
use Rattle.arena.specs.Values.{Values}
use Rattle.arena.specs.Book.{Book}
use Rattle.arena.specs.Tally.{Tally, between, during, closed, leads, place, position_of, standing, reply, after}
use Rattle.arena.proofs.RowLaws.{leads_more, leads_within}
use Rattle.book.proofs.ToldLaws.{not_lost, lost_count, lost_spoiling, flag_is, told_count_is, told_spoiling_is, told_answer_is}
use Rattle.run.specs.declared.stage.Stage.{Stage}
use Rattle.run.specs.declared.stage.Stage.TheVariants.{Between, Opened}
use Rattle.run.specs.Calls.{readable, asked, position_at, count_at, spoiling_at, opening_at}
use Rattle.run.specs.Stages.{stage_position, stage_reply, stage_after, standing_at}

-- the stage that a tally stands for
abbrev pub stage_of : Arena → Tally → Stage
stage_of a (between rs) = Between (record { position = leads a a.start rs })
stage_of a (during rs x y) = Opened (record { origin = leads a a.start rs; input = x; output = y })

stage_at : (a : Arena) (t : Tally) → stage_position (stage_of a t) ≡ place a t
stage_at a (between rs) = refl
stage_at a (during rs x y) = refl

module _ (a : Arena) (s : Sound a) (v : Values a) (bs : List ℕ) (book : Book a v bs) where
  is_readable : (p : ℕ) → Place a p → readable bs p ≡ true
  is_readable p i =
      let flag = flag_is a s v bs book p i in
      let held = not_lost a s v bs book p i in
      let long = book.long in grind (arith, nat_tests)

  -- a question is served
  asked_told : {X : Type 0} (p : ℕ) (lost there x : X) → p ≤ a.size → (p ≡ 0 → lost ≡ x) → (Place a p → there ≡ x) → asked bs p lost there ≡ Ok x
  asked_told {X} p lost there x l f g = grind (arith, nat_tests, is_readable)

  position_told : (p : ℕ) → p ≤ a.size → position_at bs p ≡ Ok (position_of p)
  position_told p l = grind (arith, nat_tests, is_readable)

  count_told_at : (p : ℕ) → p ≤ a.size → count_at bs p ≡ Ok (v.count p)
  count_told_at p l = asked_told p _ _ (v.count p) l (λ e. sym (ap v.count e ∙ lost_count a s v bs book)) (told_count_is a s v bs book p)

  spoiling_told_at : (p : ℕ) → p ≤ a.size → spoiling_at bs p ≡ Ok (v.spoiling p)
  spoiling_told_at p l = asked_told p _ _ (v.spoiling p) l (λ e. sym (ap v.spoiling e ∙ lost_spoiling a s v bs book)) (told_spoiling_is a s v bs book p)

  -- an opening is answered as the tally has it
  opening_told : (p x : ℕ) → p ≤ a.size → opening_at a bs p x ≡ cond (eqb p 0) (Err RunLost) (cond (ltb x (2 ^ a.inputs)) (Ok (v.answer p x)) (Err OutOfRange))
  opening_told p x l = grind (arith, nat_tests, is_readable, told_answer_is a s v bs book p x)

  within : (t : Tally) → place a t ≤ a.size
  within t = leads_within a s _ (closed t) s.sized.start_high

  -- what a call is told
  pub same_reply : (c : Call) (t : Tally) → stage_reply a bs c (stage_of a t) ≡ reply v c t
  same_reply (Open x) (between rs) = let e = opening_told (leads a a.start rs) x (within (between rs)) in grind arith
  same_reply (Open x) (during rs z y) = refl
  same_reply (Set y) (between rs) = refl
  same_reply (Set y) (during rs x z) = refl
  same_reply Close (between rs) = refl
  same_reply Close (during rs x y) = refl
  same_reply Abandon (between rs) = refl
  same_reply Abandon (during rs x y) = refl
  same_reply AskPosition t = cc (stage_at a t, position_told (place a t) (within t))
  same_reply AskCount t = cc (stage_at a t, count_told_at (place a t) (within t))
  same_reply AskSpoiling t = cc (stage_at a t, spoiling_told_at (place a t) (within t))

  -- and what it leaves
  pub same_stage : (c : Call) (t : Tally) → stage_after a bs c (stage_of a t) ≡ stage_of a (after v c t)
  same_stage (Open x) (between rs) = let e = opening_told (leads a a.start rs) x (within (between rs)) in grind arith
  same_stage (Open x) (during rs z y) = refl
  same_stage (Set y) (between rs) = refl
  same_stage (Set y) (during rs x z) = grind arith
  same_stage Close (between rs) = refl
  same_stage Close (during rs x y) = cc (leads_more a a.start rs (record { input = x; output = y }))
  same_stage Abandon (between rs) = refl
  same_stage Abandon (during rs x y) = refl
  same_stage AskPosition t = refl
  same_stage AskCount t = refl
  same_stage AskSpoiling t = refl

  -- where the run then stands
  pub same_standing : (t : Tally) → standing_at bs (stage_position (stage_of a t)) ≡ Ok (standing v t)
  same_standing t = cc (stage_at a t, position_told (place a t) (within t), count_told_at (place a t) (within t))
