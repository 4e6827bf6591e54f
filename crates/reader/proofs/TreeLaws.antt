-- Words have one tree: a machine over the words that computes it.
use Rattle.std.proofs.Common.{◌≡◌, ℕ, true, false, List, [], ◌∷◌, Some, None, Option, sym, refl, ap, ◌∙◌}
use Rattle.words.specs.Words.{Said, X', G', R', and', or', not', open', close', true', false', name'}
use Rattle.rules.specs.declared.part.Signal.{Signal}
use Rattle.rules.specs.Rule.{Rule, always, never, literal, next, release, both, either}
use Rattle.reader.specs.Grammar.{Names, Sort, rule, choice, join, unit, Derives, rule_choice, rule_release, choice_join, choice_or, join_unit, join_and, unit_true, unit_false, unit_name, unit_not, unit_next, unit_always, unit_group, Reads}

-- what becomes of a tree
abbrev pub Into : Type 0
Into = Rule → Rule

abbrev pub same : Into
same t = t

-- what becomes of a unit, of the join and of the choice, in each rule around
pub data Around : Type 0 where
  top : Around
  in_rule : Into → Into → Into → Around → Around

pub data Stand : Type 0 where
  due : Into → Into → Into → Around → Stand
  named : Into → Into → Into → Around → Stand
  done : Rule → Into → Into → Around → Stand
  lost : Stand

abbrev pub if_known : Option Signal → (Signal → Stand) → Stand
if_known (Some s) f = f s
if_known None f = lost

abbrev pub closed : Rule → Around → Stand
closed t top = lost
closed t (in_rule c o r k) = done (c t) o r k

abbrev pub goes : Names → Stand → Said → Stand
goes known (due c o r k) true' = done (c always) o r k
goes known (due c o r k) false' = done (c never) o r k
goes known (due c o r k) (name' x) = if_known (known x) (λ s. done (c (literal s true)) o r k)
goes known (due c o r k) not' = named c o r k
goes known (due c o r k) X' = due (λ t. c (next t)) o r k
goes known (due c o r k) G' = due (λ t. c (release never t)) o r k
goes known (due c o r k) open' = due same same same (in_rule c o r k)
goes known (due c o r k) w = lost
goes known (named c o r k) (name' x) = if_known (known x) (λ s. done (c (literal s false)) o r k)
goes known (named c o r k) w = lost
goes known (done t o r k) and' = due (both t) o r k
goes known (done t o r k) or' = due same (either (o t)) r k
goes known (done t o r k) R' = due same same (λ u. r (release (o t) u)) k
goes known (done t o r k) close' = closed (r (o t)) k
goes known (done t o r k) w = lost
goes known lost w = lost

abbrev pub goes_all : Names → Stand → List Said → Stand
goes_all known s [] = s
goes_all known s (w ∷ ws) = goes_all known (goes known s w) ws

module _ (known : Names) where
  -- where a part of a sort leads
  abbrev Leads : Sort → List Said → Rule → List Said → Type 0
  Leads unit ws t rest = (c o r : Into) (k : Around) → goes_all known (due c o r k) ws ≡ goes_all known (done (c t) o r k) rest
  Leads join ws t rest = (o r : Into) (k : Around) → goes_all known (due same o r k) ws ≡ goes_all known (done t o r k) rest
  Leads choice ws t rest = (r : Into) (k : Around) → (u : Rule) × (o : Into) × (o u ≡ t) × (goes_all known (due same same r k) ws ≡ goes_all known (done u o r k) rest)
  Leads rule ws t rest = (r : Into) (k : Around) → (u : Rule) × (o : Into) × (q : Into) × (q (o u) ≡ r t) × (goes_all known (due same same r k) ws ≡ goes_all known (done u o q k) rest)

  leads : {s : Sort} {n : ℕ} {ws : List Said} {t : Rule} {rest : List Said} → Derives known s n ws t rest → Leads s ws t rest
  leads (rule_choice d) = λ r k. let h = leads d r k in (h.0, h.1, r, ap r h.2, h.3)
  leads (rule_release {u = v} d e) = λ r k.
      let h = leads d r k in
      let i = leads e (λ x. r (release (h.1 h.0) x)) k in
      (i.0, i.1, i.2, i.3 ∙ ap (λ x. r (release x v)) h.2, h.3 ∙ i.4)
  leads (choice_join {t = t} d) = λ r k. (t, same, refl, leads d same r k)
  leads (choice_or {u = v} d e) = λ r k.
      let h = leads d r k in
      (v, either (h.1 h.0), ap (λ x. either x v) h.2, h.3 ∙ leads e (either (h.1 h.0)) r k)
  leads (join_unit d) = λ o r k. leads d same o r k
  leads (join_and {t = t} d e) = λ o r k. leads d o r k ∙ leads e (both t) o r k
  leads unit_true = λ c o r k. refl
  leads unit_false = λ c o r k. refl
  leads (unit_name h) = λ c o r k. rw h
  leads (unit_not h) = λ c o r k. rw h
  leads (unit_next d) = λ c o r k. leads d (λ t. c (next t)) o r k
  leads (unit_always d) = λ c o r k. leads d (λ t. c (release never t)) o r k
  leads (unit_group {rest = rest} {t = t} d) = λ c o r k. let h = leads d same (in_rule c o r k) in h.4 ∙ ap (λ x. goes_all known (done (c x) o r k) rest) h.3

  -- the tree that is complete
  abbrev pub tree : Stand → Rule
  tree (due c o r k) = always
  tree (named c o r k) = always
  tree (done t o r k) = r (o t)
  tree lost = always

  pub tree_is : {n : ℕ} {ws : List Said} {t : Rule} → Reads known n ws t → t ≡ tree (goes_all known (due same same same top) ws)
  tree_is {ws = ws} d = let h = leads d same top in sym (ap tree h.4 ∙ h.3)

  pub tree_one : (n : ℕ) (ws : List Said) (t u : Rule) → Reads known n ws t → Reads known n ws u → t ≡ u
  tree_one n ws t u d e = tree_is d ∙ sym (tree_is e)
