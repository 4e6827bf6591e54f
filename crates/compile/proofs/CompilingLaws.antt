-- From what two texts say to what compiling them comes to.
use Rattle.std.proofs.Common.{◌≡◌, ℕ, ◌+◌, ◌-◌, ◌<◌, ◌≤◌, Bool, true, false, leb, ◌↔◌, List, [], ◌++◌, length, get_or, take, drop, replicate, inl, inr, Some, Ok, Err, Result, sym, ap, ◌∙◌, subst, arith}
use lib.ListN.{length-replicate}
use lib.Seq.{take-append-le, take-length}
use Rattle.std.proofs.lemmas.List.{get_or-take, get_or_past, get_or_append_left, get_or-append_right, get_or-drop, length-take}
use Rattle.std.proofs.lemmas.Bool.{and_from, le-leb, cases_lt}
use Rattle.terms.specs.declared.refusal.Refusal.{Refusal}
use Rattle.arena.specs.Arena.{Arena}
use Rattle.arena.specs.Tally.{leads}
use Rattle.words.specs.declared.name.Name.{Name}
use Rattle.words.specs.Signals.{Outcome, served, reads}
use Rattle.rules.specs.declared.part.Part.{Part}
use Rattle.rules.specs.declared.part.Part.TheVariants.{True}
use Rattle.rules.specs.Rule.{Rule, Fails}
use Rattle.rules.specs.Sets.{too_wide, sets}
use Rattle.rules.specs.Parts.{part, Falls, duty_number}
use Rattle.rules.specs.Table.{parts_of}
use Rattle.rules.specs.Progress.{list_of}
use Rattle.rules.specs.Explore.{Compiled, lost_start, wide_at, too_large, positions, rounds, start, explore, compiled}
use Rattle.rules.specs.Game.{game}
use Rattle.rules.proofs.FailLaws.{fails_right}
use Rattle.rules.proofs.GameLaws.{game_right}
use Rattle.rules.proofs.ReachLaws.{positions_right}
use Rattle.rules.proofs.TableLaws.{parts_good}
use Rattle.reader.specs.declared.texts.Texts.{Texts}
use Rattle.reader.specs.Texts.{Small}
use Rattle.reader.specs.Both.{Both, both_served}
use Rattle.compile.specs.declared.position.Position.{Position}
use Rattle.compile.specs.Positions.{unused, reason, Charted}
use Rattle.compile.specs.TableGame.{arena_in}
use Rattle.compile.specs.Compiling.{built, Builds, ReadsAs, Promise, Served}
use Rattle.compile.specs.declared.compiled.Compiled.{Compiled as Numbers}
use Rattle.compile.proofs.ChartLaws.{chart_longer}
use Rattle.compile.proofs.TableGameLaws.{charted_game}

-- ---- building

module _ (i o : ℕ) (ps : List Part) (k : ℕ) where
  pub built_wide : list_of ps k ≡ too_wide → built i o ps k ≡ wide_at 0
  unfolding explore
  built_wide e = ap (λ s. explore 256 ps (rounds i o) 0 (start s)) e

  pub built_lost : (xs : List ℕ) → list_of ps k ≡ sets xs → xs ≡ [] → built i o ps k ≡ lost_start
  unfolding explore
  built_lost xs e none = ap (λ s. explore 256 ps (rounds i o) 0 (start s)) (e ∙ ap sets none)

-- what stands in front of zeros in a longer store
front_zeros : (n : ℕ) (store after : List Position) (k : ℕ) → length after ≡ n → ((j : ℕ) → get_or store j unused ≡ unused) → get_or (after ++ drop n store) k unused ≡ get_or after k unused
front_zeros n store after k long zeros = elim (cases_lt k n) [
  | inl h ↦ get_or_append_left after (drop n store) unused k (omega arith)
  | inr h ↦
      get_or-append_right after (drop n store) n k unused long h
      ∙ get_or-drop n store (k - n) unused
      ∙ zeros (n + (k - n))
      ∙ sym (get_or_past after k unused (omega arith))
]

pub builds_longer : (i o : ℕ) (ps : List Part) (k n : ℕ) (store after : List Position) (r : Result ℕ Refusal) → length after ≡ n → ((j : ℕ) → get_or store j unused ≡ unused) → Builds i o ps k after r → Builds i o ps k (after ++ drop n store) r
builds_longer i o ps k n store after (Ok m) long zeros (found, is, size, chart) = (found, is, size, chart_longer i o ps found after (drop n store) (λ j. front_zeros n store after j long zeros) chart)
builds_longer i o ps k n store after (Err e) long zeros h = h

pub taken_zeros : (n : ℕ) (store : List Position) (k : ℕ) → ((j : ℕ) → get_or store j unused ≡ unused) → get_or (take n store) k unused ≡ unused
taken_zeros n store k zeros = elim (cases_lt k n) [
  | inl h ↦ get_or-take n store k unused h ∙ zeros k
  | inr h ↦ get_or_past (take n store) k unused (omega (arith, length-take n store))
]

-- a rule that fits compiles by exploring from the list of its own part
pub compiled_built : (i o : ℕ) (f : Rule) → Small f → compiled i o f ≡ built i o (parts_of f).table (parts_of f).number
unfolding compiled
compiled_built i o f small =
    let ps = (parts_of f).table in
    let run = built i o ps (parts_of f).number in
    let fits = and_from (leb (length ps) 64) (leb (duty_number ps (length ps)) 32) (le-leb _ 64 small.parts) (le-leb _ 32 small.duties) in
    ap (λ (b : Bool). elim b as (λ x. Compiled) [ true ↦ run | false ↦ too_large ]) fits

-- ---- what two texts say

-- both texts are served: the rule that they say, and what the stores and the numbers then are
pub record BothSay (names : List Name) (signals rule : List ℕ) (t : Texts) (names' : List Name) (parts' : List Part) : Type 0 where
  pub ins : List (List ℕ)
  pub outs : List (List ℕ)
  pub says : Rule
  pub reads_as : ReadsAs (length names) signals rule names' ins outs says
  pub inputs_are : t.signals.inputs ≡ length ins
  pub outputs_are : t.signals.outputs ≡ length outs
  pub few_in : length ins ≤ 4
  pub few_out : length outs ≤ 4
  pub small : Small says
  pub falls : (k : ℕ) → Falls k (part (parts_of says).table k)
  pub root_is : t.rule.root ≡ (parts_of says).number
  pub root_in : (parts_of says).number < length (parts_of says).table
  pub parts_are : parts' ≡ (parts_of says).table ++ replicate (length parts' - length (parts_of says).table) True
  pub front_is : take t.rule.parts parts' ≡ (parts_of says).table

few_signals : (room : ℕ) (text : List ℕ) (ins outs : List (List ℕ)) → Outcome room text (served ins outs) → (length ins ≤ 4) × (length outs ≤ 4)
few_signals room text ins outs (reads f ws s) = (s.few_in, s.few_out)

front_of : (n : ℕ) (xs zs : List Part) → n ≡ length xs → take n (xs ++ zs) ≡ xs
front_of n xs zs e =
    ap (λ k. take k (xs ++ zs)) e ∙ take-append-le (length xs) xs zs (omega arith) ∙ take-length xs

pub both_say : (names : List Name) (parts : List Part) (signals rule : List ℕ) (t : Texts) (names' : List Name) (parts' : List Part)
    → Both names parts signals rule (Ok t) names' parts' → BothSay names signals rule t names' parts'
both_say names parts signals rule t names' parts' (both_served {ins} {outs} roomy o l a b s) =
    let few = few_signals (length names) signals ins outs o in
    let table = (parts_of s.said_rule).table in
    record {
      ins = ins;
      outs = outs;
      says = s.said_rule;
      reads_as = record { named = o; stored_names = l; said = s.is };
      inputs_are = a;
      outputs_are = b;
      few_in = few.0;
      few_out = few.1;
      small = s.small;
      falls = s.formed.falls;
      root_is = s.root_is;
      root_in = (parts_good [] s.said_rule (λ k. tt)).inside;
      parts_are = s.store_is;
      front_is = ap (take t.rule.parts) s.store_is ∙ front_of t.rule.parts table _ s.parts_are;
    }

-- ---- the promise

pub promised : (i o : ℕ) (f : Rule) (found : List (List ℕ)) (store : List Position) → i ≤ 4 → o ≤ 4 → compiled i o f ≡ positions found → Charted i o (parts_of f).table found store
    → Promise i o f found (arena_in (record { inputs = i; outputs = o; positions = length found }) store)
promised i o f found store a b e c =
    let arena = arena_in (record { inputs = i; outputs = o; positions = length found }) store in
    let is : arena ≡ game i o f = charted_game i o f found store a b e c in
    record {
      is_game = is;
      reached = positions_right i o f found e;
      lost = λ rs l. subst (λ (g : Arena). (leads g g.start rs ≡ 0) ↔ Fails f rs 0) (sym is) (game_right i o f found e rs l);
      negated = λ rs. fails_right f rs 0;
    }

-- ---- the outcomes

-- equal entries, however long the store is
pub all_equal : {A : Type 0} (a : A) (n : ℕ) (xs : List A) → xs ≡ replicate n a → xs ≡ replicate (length xs) a
all_equal a n xs e = e ∙ ap (λ k. replicate k a) (sym (ap length e ∙ length-replicate n a))

module _ (names : List Name) (signals rule : List ℕ) (t : Texts) (names' : List Name) (parts' : List Part) (store : List Position) (b : BothSay names signals rule t names' parts') where
  -- what building comes to, told by the rule
  built_said : (r : Result ℕ Refusal) → Builds t.signals.inputs t.signals.outputs (take t.rule.parts parts') t.rule.root store r
      → Builds (length b.ins) (length b.outs) (parts_of b.says).table (parts_of b.says).number store r
  built_said r h =
      subst (λ i. Builds i (length b.outs) (parts_of b.says).table (parts_of b.says).number store r) b.inputs_are
      (subst (λ o. Builds t.signals.inputs o (parts_of b.says).table (parts_of b.says).number store r) b.outputs_are
      (subst (λ ps. Builds t.signals.inputs t.signals.outputs ps (parts_of b.says).number store r) b.front_is
      (subst (λ k. Builds t.signals.inputs t.signals.outputs (take t.rule.parts parts') k store r) b.root_is h)))

  pub built_refused : (e : Refusal) → Builds t.signals.inputs t.signals.outputs (take t.rule.parts parts') t.rule.root store (Err e)
      → reason (compiled (length b.ins) (length b.outs) b.says) ≡ Some e
  built_refused e h = ap reason (compiled_built (length b.ins) (length b.outs) b.says b.small) ∙ built_said (Err e) h

  pub built_served : (n : ℕ) → Builds t.signals.inputs t.signals.outputs (take t.rule.parts parts') t.rule.root store (Ok n)
      → Served (length names) signals rule (record { inputs = t.signals.inputs; outputs = t.signals.outputs; positions = n }) names' parts' store
  built_served n h = go (built_said (Ok n) h)
    where
      i : ℕ
      i = length b.ins

      o : ℕ
      o = length b.outs

      go : Builds i o (parts_of b.says).table (parts_of b.says).number store (Ok n)
          → Served (length names) signals rule (record { inputs = t.signals.inputs; outputs = t.signals.outputs; positions = n }) names' parts' store
      go (found, is, size, chart) =
          let whole : compiled i o b.says ≡ positions found = compiled_built i o b.says b.small ∙ is in
          let given : Numbers = record { inputs = t.signals.inputs; outputs = t.signals.outputs; positions = n } in
          let meant : Numbers = record { inputs = i; outputs = o; positions = length found } in
          let same : given ≡ meant = λ j. record { inputs = b.inputs_are j; outputs = b.outputs_are j; positions = size j } in
          record {
            ins = b.ins;
            outs = b.outs;
            says = b.says;
            reads = b.reads_as;
            parts_are = b.parts_are;
            found = found;
            compiles = whole;
            numbers = same;
            charted = chart;
            promise = subst (λ c. Promise i o b.says found (arena_in c store)) (sym same) (promised i o b.says found store b.few_in b.few_out whole chart);
          }
