-- What two texts come to, from what each comes to.
use Rattle.std.proofs.Common.{◌≡◌, ℕ, ◌≤◌, List, [], length, Ok, Err, Result, MatchResult, IsErrAnd, sym, ◌∙◌, subst, ap₂, arith}
use Rattle.terms.specs.declared.refusal.Refusal.{Refusal}
use Rattle.terms.specs.Refusals as refusals
use Rattle.words.specs.declared.name.Name.{Name}
use Rattle.words.specs.declared.signals.Signals as counts
use Rattle.words.specs.Words.{Said}
use Rattle.words.specs.Names.{HoldsNames}
use Rattle.words.specs.Signals as signals
use Rattle.words.specs.Signals.{Answer, served, refused, Fault, Outcome, Gives, Leaves}
use Rattle.rules.specs.declared.part.Part.{Part}
use Rattle.reader.specs.declared.texts.Text.TheVariants.{Signals, Rule}
use Rattle.reader.specs.declared.texts.Texts.{Texts}
use Rattle.reader.specs.declared.texts.Misread.{Misread}
use Rattle.reader.specs.declared.read.Reading.{Reading}
use Rattle.reader.specs.Names.{known}
use Rattle.reader.specs.Faults.{refusal}
use Rattle.reader.specs.Texts.{RuleText, Served, ReadRule}
use Rattle.reader.specs.Both.{Roomy, ZeroParts, Both, signals_refused, rule_refused, both_served}

-- with room for the names, no text is refused for its store
fault_low : {ws : List Said} {w : Said} {k : ℕ} → Fault ws w k → k ≡ 13 → ⊥
fault_low signals.strange e = omega arith
fault_low f e = omega arith

roomy_low : (room : ℕ) (text : List ℕ) (k p : ℕ) → 8 ≤ room → Outcome room text (refused k p) → k ≡ 13 → ⊥
roomy_low room text k p r (signals.store_short h) e = omega arith
roomy_low room text k p r (signals.word_wrong b w q rest f ws g t) e = fault_low t.0 e
roomy_low room text k p r o e = omega arith

-- what the call for a signals text promises
abbrev pub Came : List Name → List ℕ → Result counts.Signals Refusal → List Name → Type 0
Came names text r names' = (a : Answer) × Outcome (length names) text a × Gives r a × Leaves names a names'

-- a result that is `Ok` behind a `map_err` was so before
ok_was : (s : Result counts.Signals Refusal) (x : counts.Signals) → MatchResult s (λ y. ◌≡◌ {A = Result counts.Signals Misread} (Ok x) (Ok y)) (λ e. ⊥) → s ≡ Ok x
ok_was (Ok y) x h = cc
ok_was (Err e) x h = absurd h

-- so the call promised what it does of an `Ok`
came_ok : (names : List Name) (text : List ℕ) (stored : List Name) (r : Result counts.Signals Refusal) (s : counts.Signals) → MatchResult r (λ y. ◌≡◌ {A = Result counts.Signals Misread} (Ok s) (Ok y)) (λ e. ⊥) → Came names text r stored → Came names text (Ok s) stored
came_ok names text stored r s was came = subst (λ z. Came names text z stored) (ok_was r s was) came

module _ {names : List Name} {parts : List Part} {text rule : List ℕ} (roomy : Roomy names parts) where
  signals_wrong : (e : Refusal) (names' : List Name) (parts' : List Part) → Came names text (Err e) names' → ZeroParts parts' → Both names parts text rule (Err (record { text = Signals; refusal = e })) names' parts'
  signals_wrong e names' parts' (served ins outs, o, g, l) z = absurd g
  signals_wrong e names' parts' (refused k p, o, g, l) z =
      signals_refused roomy (subst (λ n. Outcome (length names) text (refused n (refusals.place e))) (sym g.0) (subst (λ n. Outcome (length names) text (refused k n)) (sym g.1) o)) (l.1 (roomy_low (length names) text k p roomy.0 o)) z

  -- behind a `?` on a signals text that is refused
  pub signals_exit : (s : Result counts.Signals Refusal) {names' : List Name} {parts' : List Part} → Came names text s names' → ZeroParts parts' → (m : Misread) (P : Refusal → Type 0)
      → MatchResult s (λ x. ◌≡◌ {A = Result counts.Signals Misread} (Err m) (Ok x)) P → ((e : Refusal) → P e → m ≡ record { text = Signals; refusal = e })
      → (r : Result Texts Misread) → IsErrAnd r (λ y. y ≡ m) → Both names parts text rule r names' parts'
  signals_exit (Ok x) came z m P h w r q = cc
  signals_exit (Err e) came z m P h w (Ok x) q = absurd q
  signals_exit (Err e) {names'} {parts'} came z m P h w (Err y) q = subst (λ n. Both names parts text rule (Err n) names' parts') (sym (q ∙ w e h)) (signals_wrong e names' parts' came z)

  module _ (found : Result counts.Signals Refusal) (s : counts.Signals) {stored : List Name} (was : MatchResult found (λ y. ◌≡◌ {A = Result counts.Signals Misread} (Ok s) (Ok y)) (λ e. ⊥)) (came : Came names text found stored) where
    pub rule_wrong : {e : Refusal} {names' : List Name} {parts' : List Part} → ReadRule (known stored s.inputs s.outputs) rule parts' (Err e) → HoldsNames [] names' → Both names parts text rule (Err (record { text = Rule; refusal = e })) names' parts'
    rule_wrong {e} {names'} {parts'} h z = go (came_ok names text stored found s was came)
      where
        go : Came names text (Ok s) stored → Both names parts text rule (Err (record { text = Rule; refusal = e })) names' parts'
        go (served ins outs, o, g, l) = rule_refused roomy o l (subst (λ f. RuleText f rule (refusal (refusals.number e) (refusals.place e))) (ap₂ (known stored) g.0 g.1) h.0) z h.1
        go (refused k p, o, g, l) = absurd g

    pub all_served : {r : Reading} {parts' : List Part} → ReadRule (known stored s.inputs s.outputs) rule parts' (Ok r) → Both names parts text rule (Ok (record { signals = s; rule = r })) stored parts'
    all_served {r} {parts'} h = go (came_ok names text stored found s was came)
      where
        go : Came names text (Ok s) stored → Both names parts text rule (Ok (record { signals = s; rule = r })) stored parts'
        go (served ins outs, o, g, l) = both_served roomy o l g.0 g.1 (subst (λ f. Served f rule parts' r) (ap₂ (known stored) g.0 g.1) h)
        go (refused k p, o, g, l) = absurd g
