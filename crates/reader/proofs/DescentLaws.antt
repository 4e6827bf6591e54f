-- The steps of the reader, over what its calls give.
use Rattle.std.proofs.Common.{◌≡◌, ℕ, suc, ◌<◌, ◌≤◌, true, false, List, [], ◌∷◌, ◌++◌, map, length, Some, None, Ok, Err, Option, Result, IsErrAnd, sym, refl, ap, ◌∙◌, subst, subst₂, append_assoc, arith}
use Rattle.terms.specs.declared.refusal.Refusal.{Refusal}
use Rattle.terms.specs.declared.refusal.Refusal.TheVariants.{TooDeep}
use Rattle.terms.specs.Refusals as refusals
use Rattle.words.specs.declared.word.Word.{Word}
use Rattle.words.specs.declared.word.Word.TheVariants.{Next, Always, Release, And, Or, Not, Open, Close, True, False, Name, End}
use Rattle.words.specs.declared.word.Token.{Token}
use Rattle.words.specs.Words.{Said, X', G', R', and', or', not', open', close', name', at, said, words_from}
use Rattle.rules.specs.declared.part.Part.{Part}
use Rattle.rules.specs.declared.part.Part.TheVariants as part
use Rattle.rules.specs.Rule.{Rule, never, literal, next, release, both, either}
use Rattle.rules.specs.Table.{enter, parts_on}
use Rattle.reader.specs.declared.descent.Source.{Source}
use Rattle.reader.specs.declared.descent.Found.{Found}
use Rattle.reader.specs.Grammar.{Names, Sort, rule, choice, join, unit, Derives, rule_release, choice_or, join_and, unit_name, unit_not, unit_next, unit_always, unit_group}
use Rattle.reader.specs.Allowed.{State, due, named, done, stops, run}
use Rattle.reader.specs.Entries.{Numbered, one_side, two_sides, EntersPart, Enters}
use Rattle.reader.specs.Scan as scan
use Rattle.words.specs.Words.{says as told}
use Rattle.reader.specs.Scan.{UnlessEnd, Moves, Peek}
use Rattle.reader.specs.Steps.{text_of, names_of, saids, first_place, Passed, Stops, number_of, Refuses, Past, Ends, Gives, Wrong, Comes, LiteralComes, NotComes, CloseComes}
use Rattle.reader.proofs.PassLaws.{passes}
use Rattle.reader.proofs.ScanLaws.{some_one}
use Rattle.reader.proofs.EntryLaws.{leaf_enters, one_enters, two_enter}

-- which word says this, where a part of a rule may go on with it
abbrev Back : Said → Word → Type 0
Back R' w = w ≡ Release
Back and' w = w ≡ And
Back or' w = w ≡ Or
Back s w = Unit {0}

back : (w : Word) (s : Said) → told w ≡ Some s → Back s w
back Release s e = subst (λ z. Back z Release) (some_one e) refl
back And s e = subst (λ z. Back z And) (some_one e) refl
back Or s e = subst (λ z. Back z Or) (some_one e) refl
back End s e = cc
back w s e = subst (λ z. Back z w) (some_one e) tt

head_one : {s u : Said} {ws ms : List Said} → ◌≡◌ {A = List Said} (s ∷ ws) (u ∷ ms) → s ≡ u
head_one e = cc

-- the words begin with this word, or end
abbrev Heads : Option Said → List Said → List Said → Type 0
Heads (Some s) ws ms = ws ≡ s ∷ ms
Heads None ws ms = ws ≡ []

module _ {text : List ℕ} {p : ℕ} {t : Token} where
  heads : Peek text p t → Heads (told t.word) (saids text p) (saids text t.next)
  heads (scan.word s e h) = subst (λ o. Heads o (saids text p) (saids text t.next)) (sym e) (ap (map said) h)
  heads (scan.end e h a) = subst (λ w. Heads (told w) (saids text p) (saids text t.next)) (sym e) (ap (map said) h)

  -- the word that is heard
  pub heard : {s : Said} → Peek text p t → told t.word ≡ Some s → words_from text p ≡ at s t.at ∷ words_from text t.next
  heard (scan.word u e h) i = h ∙ ap (λ z. at z t.at ∷ words_from text t.next) (some_one (sym e ∙ i))
  heard (scan.end e h a) i = cc (ap told (sym e) ∙ i)

  pub says : {s : Said} → Peek text p t → told t.word ≡ Some s → saids text p ≡ s ∷ saids text t.next
  says k i = ap (map said) (heard k i)

  pub past_one : {s : Said} → Peek text p t → Moves (length text) p t → told t.word ≡ Some s → Passed text p t.next
  past_one {s} k m i =
      let b : p ≤ t.at = subst (λ o. UnlessEnd o (p ≤ t.at)) i m.behind in
      let l : t.at < t.next = subst (λ o. UnlessEnd o (t.at < t.next)) i m.grows in
      record { on = omega (arith, b); within = m.within; words = at s t.at ∷ []; are = heard k i }

  first : (ms : List Said) (s : Said) → Peek text p t → saids text p ≡ s ∷ ms → told t.word ≡ Some s
  first ms s (scan.word u e h) i = e ∙ ap Some (head_one (sym (ap (map said) h) ∙ i))
  first ms s (scan.end e h a) i = cc (sym (ap (map said) h) ∙ i)

  -- a word that is not this one does not go on with it
  pub past_and : Peek text p t → (t.word ≡ And → ⊥) → Past and' (saids text p)
  past_and k h ms e = h (back t.word and' (first ms and' k e))

  pub past_or : Peek text p t → (t.word ≡ Or → ⊥) → Past or' (saids text p)
  past_or k h ms e = h (back t.word or' (first ms or' k e))

  pub past_release : Peek text p t → (t.word ≡ Release → ⊥) → Past R' (saids text p)
  past_release k h ms e = h (back t.word R' (first ms R' k e))

  placed : Peek text p t → t.at ≡ first_place (words_from text p) (length text)
  placed (scan.word s e h) = sym (ap (λ ws. first_place ws (length text)) h)
  placed (scan.end e h a) = a ∙ sym (ap (λ ws. first_place ws (length text)) h)

  -- the table refuses this word
  pub stops_at : {known : Names} {s : State} {e : Refusal} {k : ℕ} → Peek text p t → run known s (saids text p) ≡ stops k (saids text p) → refusals.number e ≡ k → refusals.place e ≡ t.at → Stops known s text p e
  stops_at pk h n a = record { from = p; words = []; are = refl; stop = h ∙ ap (λ z. stops z (saids text p)) (sym n); place_is = a ∙ placed pk }

pub then : {text : List ℕ} {p q r : ℕ} → Passed text p q → Passed text q r → Passed text p r
then {text} {r = r} a b = record {
  on = omega (arith, a.on, b.on);
  within = b.within;
  words = a.words ++ b.words;
  are = a.are ∙ ap (λ ws. a.words ++ ws) b.are ∙ sym (append_assoc a.words b.words (words_from text r));
}

-- the table refuses later
pub stops_later : {known : Names} {s u : State} {text : List ℕ} {p q : ℕ} {e : Refusal} → Passed text p q → run known s (saids text p) ≡ run known u (saids text q) → Stops known u text q e → Stops known s text p e
stops_later {text = text} a h b = record {
  from = b.from;
  words = a.words ++ b.words;
  are = a.are ∙ ap (λ ws. a.words ++ ws) b.are ∙ sym (append_assoc a.words b.words (words_from text b.from));
  stop = h ∙ b.stop;
  place_is = b.place_is;
}

-- a part of a rule that is a larger part too
pub wider : {text : List ℕ} {D E : Rule → List Said → Type 0} {p : ℕ} {table after : List Part} {r : Found} → ((f : Rule) (ms : List Said) → D f ms → E f ms) → Gives text D p table after r → Gives text E p table after r
wider {r = r} w g = record { said_rule = g.said_rule; derives = w g.said_rule _ g.derives; passed = g.passed; entered = g.entered }

module _ (known : Names) where
  -- a word that begins no unit is refused where one is due
  bad_due : (w : Word) (ws ms : List Said) (n b : ℕ) (os : List ℕ) → Heads (told w) ws ms → (w ≡ True → ⊥) → (w ≡ False → ⊥) → ((x : _) → w ≡ Name x → ⊥) → (w ≡ Not → ⊥) → (w ≡ Next → ⊥) → (w ≡ Always → ⊥) → (w ≡ Open → ⊥) → run known (due n b os) ws ≡ stops (number_of w) ws
  bad_due Next ws ms n b os h t f m g x' g' o = absurd (x' refl)
  bad_due Always ws ms n b os h t f m g x' g' o = absurd (g' refl)
  bad_due Not ws ms n b os h t f m g x' g' o = absurd (g refl)
  bad_due Open ws ms n b os h t f m g x' g' o = absurd (o refl)
  bad_due True ws ms n b os h t f m g x' g' o = absurd (t refl)
  bad_due False ws ms n b os h t f m g x' g' o = absurd (f refl)
  bad_due (Name x) ws ms n b os h t f m g x' g' o = absurd (m x refl)
  bad_due w ws ms n b os h t f m g x' g' o = rw h

  -- a word that is no name is refused behind a `!`
  bad_named : (w : Word) (ws ms : List Said) (b : ℕ) (os : List ℕ) → Heads (told w) ws ms → ((x : _) → w ≡ Name x → ⊥) → run known (named b os) ws ≡ stops (number_of w) ws
  bad_named (Name x) ws ms b os h m = absurd (m x refl)
  bad_named w ws ms b os h m = rw h

  -- a word that closes no bracket is refused behind a rule in brackets
  bad_inside : (w : Word) (ws ms : List Said) (m b : ℕ) (os : List ℕ) → Heads (told w) ws ms → Ends rule ws → (w ≡ Close → ⊥) → run known (done m (b ∷ os)) ws ≡ stops (number_of w) ws
  bad_inside Release ws ms m b os h e c = absurd (e.2 _ h)
  bad_inside And ws ms m b os h e c = absurd (e.0 _ h)
  bad_inside Or ws ms m b os h e c = absurd (e.1 _ h)
  bad_inside Close ws ms m b os h e c = absurd (c refl)
  bad_inside w ws ms m b os h e c = rw h

  -- a word behind the whole rule is refused
  bad_end : (w : Word) (ws ms : List Said) (m : ℕ) → Heads (told w) ws ms → Ends rule ws → (w ≡ End → ⊥) → run known (done m []) ws ≡ stops (number_of w) ws
  bad_end Release ws ms m h e c = absurd (e.2 _ h)
  bad_end And ws ms m h e c = absurd (e.0 _ h)
  bad_end Or ws ms m h e c = absurd (e.1 _ h)
  bad_end End ws ms m h e c = absurd (c refl)
  bad_end w ws ms m h e c = rw h

module _ (src : Source) where
  -- a unit of one word
  pub leaf_comes : {table after : List Part} {s : Said} {p : ℕ} {t : Token} {n : ℕ} {number : Option ℕ} (f : Rule) (x : Part) → Peek (text_of src) p t → Moves (length (text_of src)) p t → told t.word ≡ Some s
      → ((ws : List Said) → Derives (names_of src) unit n (s ∷ ws) f ws) → parts_on table f ≡ enter table x
      → Numbered after number (enter table x) → Comes src unit n p table after (Ok (record { number = number; at = t.next }))
  leaf_comes {table} {t = t} {n = n} f x k m i d is e = (
    record {
      said_rule = f;
      derives = subst (λ ws. Derives (names_of src) unit n ws f (saids (text_of src) t.next)) (sym (says k i)) (d (saids (text_of src) t.next));
      passed = past_one k m i;
      entered = leaf_enters table f x is e;
    },
    tt,
  )

  unknown_due : (n b : ℕ) (os : List ℕ) (x : List ℕ) (ms : List Said) → names_of src x ≡ None → run (names_of src) (due n b os) (name' x ∷ ms) ≡ stops 5 (name' x ∷ ms)
  unknown_due n b os x ms e = rw (e, run)

  unknown_named : (b : ℕ) (os : List ℕ) (x : List ℕ) (ms : List Said) → names_of src x ≡ None → run (names_of src) (named b os) (name' x ∷ ms) ≡ stops 5 (name' x ∷ ms)
  unknown_named b os x ms e = rw (e, run)

  module _ {p : ℕ} {t : Token} (k : Peek (text_of src) p t) (m : Moves (length (text_of src)) p t) where
    -- where the table stops at this very word
    here : {s : Said} {u : State} {e : Refusal} (j : ℕ) → told t.word ≡ Some s → ((ms : List Said) → run (names_of src) u (s ∷ ms) ≡ stops j (s ∷ ms)) → refusals.number e ≡ j → refusals.place e ≡ t.at → Stops (names_of src) u (text_of src) p e
    here {u = u} j i h =
        let y = says k i in
        stops_at k (ap (run (names_of src) u) y ∙ h (saids (text_of src) t.next) ∙ ap (stops j) (sym y))

    -- a name
    pub name_comes : (table after : List Part) (n : ℕ) {x : List ℕ} → told t.word ≡ Some (name' x) → (r : Result Found Refusal)
        → LiteralComes src x true t table after r → Comes src unit n p table after r
    name_comes table after n i (Ok r) h = (
      record {
        said_rule = literal h.0 true;
        derives = subst₂ (λ ws rest. Derives (names_of src) unit n ws (literal h.0 true) rest) (sym (says k i)) (ap (saids (text_of src)) (sym h.2)) (unit_name h.1);
        passed = subst (Passed (text_of src) p) (sym h.2) (past_one k m i);
        entered = h.3;
      },
      tt,
    )
    name_comes table after n {x} i (Err e) h = λ b os. here 5 i (λ ms. unknown_due n b os x ms h.0) (ap refusals.number h.1) (ap refusals.place h.1)

    -- the name behind a `!`
    pub named_comes : (table after : List Part) {x : List ℕ} → told t.word ≡ Some (name' x) → (r : Result Found Refusal)
        → LiteralComes src x false t table after r → NotComes src p table after r
    named_comes table after i (Ok r) h = λ n. record {
      said_rule = literal h.0 false;
      derives = subst₂ (λ ws rest. Derives (names_of src) unit n (not' ∷ ws) (literal h.0 false) rest) (sym (says k i)) (ap (saids (text_of src)) (sym h.2)) (unit_not h.1);
      passed = subst (Passed (text_of src) p) (sym h.2) (past_one k m i);
      entered = h.3;
    }
    named_comes table after {x} i (Err e) h = λ b os. here 5 i (λ ms. unknown_named b os x ms h.0) (ap refusals.number h.1) (ap refusals.place h.1)

    pub unnamed : {e : Refusal} → Refuses t.word t.at e → ((x : _) → t.word ≡ Name x → ⊥) → (b : ℕ) (os : List ℕ) → Stops (names_of src) (named b os) (text_of src) p e
    unnamed h x b os = stops_at k (bad_named (names_of src) t.word _ _ b os (heads k) x) h.number_is h.place_is

    -- a `!` and what is behind it
    pub not_comes : (table after : List Part) (n : ℕ) → told t.word ≡ Some not' → (r : Result Found Refusal) → NotComes src t.next table after r → Comes src unit n p table after r
    not_comes table after n i (Ok r) h =
        let g = h n in (
          record {
            said_rule = g.said_rule;
            derives = subst (λ ws. Derives (names_of src) unit n ws g.said_rule (saids (text_of src) r.at)) (sym (says k i)) g.derives;
            passed = then (past_one k m i) g.passed;
            entered = g.entered;
          },
          tt,
        )
    not_comes table after n i (Err e) h = λ b os. stops_later (past_one k m i) (ap (run (names_of src) (due n b os)) (says k i)) (h b os)

    -- a word that begins no unit
    pub no_unit : {n : ℕ} {e : Refusal} → Refuses t.word t.at e → (t.word ≡ True → ⊥) → (t.word ≡ False → ⊥) → ((x : _) → t.word ≡ Name x → ⊥) → (t.word ≡ Not → ⊥) → (t.word ≡ Next → ⊥) → (t.word ≡ Always → ⊥) → (t.word ≡ Open → ⊥)
        → Wrong (names_of src) unit n (text_of src) p e
    no_unit {n} h a b' c d e' f g b os = stops_at k (bad_due (names_of src) t.word _ _ n b os (heads k) a b' c d e' f g) h.number_is h.place_is

    -- a word that takes a level, and none is left
    pub too_deep : {s : Said} {e : Refusal} {n : ℕ} → told t.word ≡ Some s → ((b : ℕ) (os : List ℕ) (ms : List Said) → run (names_of src) (due 0 b os) (s ∷ ms) ≡ stops 8 (s ∷ ms)) → n ≡ 0 → e ≡ TooDeep t.at → Wrong (names_of src) unit n (text_of src) p e
    too_deep {s} i h z x b os = here 8 i (λ ms. subst (λ j. run (names_of src) (due j b os) (s ∷ ms) ≡ stops 8 (s ∷ ms)) (sym z) (h b os ms)) (ap refusals.number x) (ap refusals.place x)

    -- what is inside a word that takes a level is refused
    pub level_wrong : {s : Said} {e : Refusal} {n j : ℕ} (u : ℕ → List ℕ → State) → told t.word ≡ Some s → n ≡ suc j → ((b : ℕ) (os : List ℕ) (ms : List Said) → run (names_of src) (due (suc j) b os) (s ∷ ms) ≡ run (names_of src) (u b os) ms)
        → ((b : ℕ) (os : List ℕ) → Stops (names_of src) (u b os) (text_of src) t.next e) → Wrong (names_of src) unit n (text_of src) p e
    level_wrong {j = j} u i z h g b os =
        stops_later (past_one k m i)
        (ap (λ d. run (names_of src) (due d b os) (saids (text_of src) p)) z ∙ ap (run (names_of src) (due (suc j) b os)) (says k i) ∙ h b os _)
        (g b os)

    -- X and a unit
    pub next_comes : {table s after : List Part} {number : Option ℕ} {n j : ℕ} {q : Found} → told t.word ≡ Some X' → n ≡ suc j
        → Gives (text_of src) (Derives (names_of src) unit j (saids (text_of src) t.next)) t.next table s q
        → EntersPart s (one_side part.Next q.number) after number → Comes src unit n p table after (Ok (record { number = number; at = q.at }))
    unfolding parts_on
    next_comes {q = q} i z g e = (
      record {
        said_rule = next g.said_rule;
        derives = subst₂ (λ d ws. Derives (names_of src) unit d ws (next g.said_rule) (saids (text_of src) q.at)) (sym z) (sym (says k i)) (unit_next g.derives);
        passed = then (past_one k m i) g.passed;
        entered = one_enters _ g.said_rule (next g.said_rule) part.Next (λ ps. refl) g.entered e;
      },
      tt,
    )

    -- G and a unit
    pub always_comes : {table s₀ s after : List Part} {never_number number : Option ℕ} {n j : ℕ} {q : Found} → told t.word ≡ Some G' → n ≡ suc j
        → Numbered s₀ never_number (enter table part.False)
        → Gives (text_of src) (Derives (names_of src) unit j (saids (text_of src) t.next)) t.next s₀ s q
        → EntersPart s (two_sides part.Release never_number q.number) after number → Comes src unit n p table after (Ok (record { number = number; at = q.at }))
    unfolding parts_on
    always_comes {table} {q = q} i z e₀ g e = (
      record {
        said_rule = release never g.said_rule;
        derives = subst₂ (λ d ws. Derives (names_of src) unit d ws (release never g.said_rule) (saids (text_of src) q.at)) (sym z) (sym (says k i)) (unit_always g.derives);
        passed = then (past_one k m i) g.passed;
        entered = two_enter table never g.said_rule part.Release (release never g.said_rule) (λ ps. refl) (leaf_enters table never part.False refl e₀) g.entered e;
      },
      tt,
    )

    -- a rule in brackets
    pub group_comes : {table after : List Part} {n j : ℕ} {q : Found} → told t.word ≡ Some open' → n ≡ suc j
        → Comes src rule j t.next table after (Ok q) → (r : Result Found Refusal) → CloseComes src q r → Comes src unit n p table after r
    group_comes {table} {after} {j = j} i z g (Ok r) h = (
      record {
        said_rule = g.0.said_rule;
        derives = subst₂ (λ d ws. Derives (names_of src) unit d ws g.0.said_rule (saids (text_of src) r.at)) (sym z) (sym (says k i))
            (unit_group (subst (Derives (names_of src) rule j (saids (text_of src) t.next) g.0.said_rule) h.0 g.0.derives));
        passed = then (past_one k m i) (then g.0.passed h.1);
        entered = subst (Enters table g.0.said_rule after) (sym h.2) g.0.entered;
      },
      tt,
    )
    group_comes {j = j} i z g (Err e) h = λ b os.
        let y = passes (names_of src) g.0.derives in
        stops_later (then (past_one k m i) g.0.passed)
        (ap (λ d. run (names_of src) (due d b os) (saids (text_of src) p)) z ∙ ap (run (names_of src) (due (suc j) b os)) (says k i) ∙ y.1 (b ∷ os))
        (h g.1 y.0 b os)

  module _ (f : Found) {t : Token} (k : Peek (text_of src) f.at t) (m : Moves (length (text_of src)) f.at t) where
    -- the bracket behind a rule, and any other word
    pub bracket : told t.word ≡ Some close' → CloseComes src f (Ok (record { number = f.number; at = t.next }))
    bracket i = (says k i, past_one k m i, refl)

    pub no_bracket : {e : Refusal} → Refuses t.word t.at e → (t.word ≡ Close → ⊥) → CloseComes src f (Err e)
    no_bracket h c ends j b os = stops_at k (bad_inside (names_of src) t.word _ _ j b os (heads k) ends c) h.number_is h.place_is

    -- behind the whole rule a word is refused
    pub no_end : {e : Refusal} → Refuses t.word t.at e → (t.word ≡ End → ⊥) → Ends rule (saids (text_of src) f.at) → (j : ℕ) → Stops (names_of src) (done j []) (text_of src) f.at e
    no_end h c ends j = stops_at k (bad_end (names_of src) t.word _ _ j (heads k) ends c) h.number_is h.place_is

    -- a join with one unit more
    pub join_more : {ws : List Said} {p : ℕ} {table s s₁ after : List Part} {number : Option ℕ} {n : ℕ} {q : Found} → told t.word ≡ Some and' → Gives (text_of src) (Derives (names_of src) join n ws) p table s f
        → Gives (text_of src) (Derives (names_of src) unit n (saids (text_of src) t.next)) t.next s s₁ q
        → EntersPart s₁ (two_sides part.Both f.number q.number) after number
        → Gives (text_of src) (Derives (names_of src) join n ws) p table after (record { number = number; at = q.at })
    unfolding parts_on
    join_more {ws} {n = n} i g h e = record {
      said_rule = both g.said_rule h.said_rule;
      derives = join_and (subst (Derives (names_of src) join n ws g.said_rule) (says k i) g.derives) h.derives;
      passed = then g.passed (then (past_one k m i) h.passed);
      entered = two_enter _ g.said_rule h.said_rule part.Both (both g.said_rule h.said_rule) (λ ps. refl) g.entered h.entered e;
    }

    pub join_wrong : {p : ℕ} {table s : List Part} {e : Refusal} {n : ℕ} → told t.word ≡ Some and' → Gives (text_of src) (Derives (names_of src) join n (saids (text_of src) p)) p table s f
        → Wrong (names_of src) unit n (text_of src) t.next e → Wrong (names_of src) join n (text_of src) p e
    join_wrong {n = n} i g h os =
        stops_later (then g.passed (past_one k m i))
        (passes (names_of src) g.derives os ∙ ap (run (names_of src) (done n os)) (says k i))
        (h n os)

    -- a choice with one join more
    pub choice_more : {ws : List Said} {p : ℕ} {table s s₁ after : List Part} {number : Option ℕ} {n : ℕ} {q : Found} → told t.word ≡ Some or' → Gives (text_of src) (Derives (names_of src) choice n ws) p table s f
        → Gives (text_of src) (Derives (names_of src) join n (saids (text_of src) t.next)) t.next s s₁ q
        → EntersPart s₁ (two_sides part.Either f.number q.number) after number
        → Gives (text_of src) (Derives (names_of src) choice n ws) p table after (record { number = number; at = q.at })
    unfolding parts_on
    choice_more {ws} {n = n} i g h e = record {
      said_rule = either g.said_rule h.said_rule;
      derives = choice_or (subst (Derives (names_of src) choice n ws g.said_rule) (says k i) g.derives) h.derives;
      passed = then g.passed (then (past_one k m i) h.passed);
      entered = two_enter _ g.said_rule h.said_rule part.Either (either g.said_rule h.said_rule) (λ ps. refl) g.entered h.entered e;
    }

    pub choice_wrong : {p : ℕ} {table s : List Part} {e : Refusal} {n : ℕ} → told t.word ≡ Some or' → Gives (text_of src) (Derives (names_of src) choice n (saids (text_of src) p)) p table s f
        → Wrong (names_of src) join n (text_of src) t.next e → Wrong (names_of src) choice n (text_of src) p e
    choice_wrong {n = n} i g h os =
        stops_later (then g.passed (past_one k m i))
        (passes (names_of src) g.derives os ∙ ap (run (names_of src) (done n os)) (says k i))
        (h os)

    -- a choice, `R` and a rule
    pub release_comes : {p : ℕ} {table s s₁ after : List Part} {number : Option ℕ} {n j : ℕ} {q : Found} → told t.word ≡ Some R' → n ≡ suc j → Gives (text_of src) (Derives (names_of src) choice n (saids (text_of src) p)) p table s f
        → Comes src rule j t.next s s₁ (Ok q)
        → EntersPart s₁ (two_sides part.Release f.number q.number) after number
        → Comes src rule n p table after (Ok (record { number = number; at = q.at }))
    unfolding parts_on
    release_comes {p} {q = q} i z g h e = (
      record {
        said_rule = release g.said_rule h.0.said_rule;
        derives = subst (λ d. Derives (names_of src) rule d (saids (text_of src) p) (release g.said_rule h.0.said_rule) (saids (text_of src) q.at)) (sym z)
            (rule_release (subst₂ (λ d ms. Derives (names_of src) choice d (saids (text_of src) p) g.said_rule ms) z (says k i) g.derives) h.0.derives);
        passed = then g.passed (then (past_one k m i) h.0.passed);
        entered = two_enter _ g.said_rule h.0.said_rule part.Release (release g.said_rule h.0.said_rule) (λ ps. refl) g.entered h.0.entered e;
      },
      h.1,
    )

    pub release_wrong : {p : ℕ} {table s : List Part} {e : Refusal} {n j : ℕ} → told t.word ≡ Some R' → n ≡ suc j → Gives (text_of src) (Derives (names_of src) choice n (saids (text_of src) p)) p table s f
        → Wrong (names_of src) rule j (text_of src) t.next e → Wrong (names_of src) rule n (text_of src) p e
    release_wrong {j = j} i z g h os =
        stops_later (then g.passed (past_one k m i))
        (passes (names_of src) g.derives os ∙ ap (λ d. run (names_of src) (done d os) (saids (text_of src) f.at)) z ∙ ap (run (names_of src) (done (suc j) os)) (says k i))
        (h os)

    pub release_deep : {p : ℕ} {table s : List Part} {e : Refusal} {n : ℕ} → told t.word ≡ Some R' → n ≡ 0 → e ≡ TooDeep t.at → Gives (text_of src) (Derives (names_of src) choice n (saids (text_of src) p)) p table s f
        → Wrong (names_of src) rule n (text_of src) p e
    release_deep i z x g os =
        let y = says k i in
        stops_later g.passed (passes (names_of src) g.derives os)
        (stops_at k (ap (λ d. run (names_of src) (done d os) (saids (text_of src) f.at)) z ∙ ap (run (names_of src) (done 0 os)) y ∙ ap (stops 8) (sym y)) (ap refusals.number x) (ap refusals.place x))

  -- what a `?` returns
  pub exits : (sort : Sort) (n p : ℕ) (table after : List Part) (r : Result Found Refusal) (x : Refusal) → IsErrAnd r (λ y. y ≡ x) → Wrong (names_of src) sort n (text_of src) p x → Comes src sort n p table after r
  exits sort n p table after (Ok r) x h w = absurd h
  exits sort n p table after (Err y) x h w = subst (Wrong (names_of src) sort n (text_of src) p) (sym h) w
