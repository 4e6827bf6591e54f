-- What the reader keeps from word to word, and what its answer says of the text.
use Rattle.std.proofs.Common.{◌≡◌, ℕ, ◌≤◌, true, false, List, [], ◌∷◌, ◌++◌, map, length, is_err, Some, Ok, Err, Result, sym, refl, ap, ◌∙◌, subst, subst₂, inl, append_assoc, append-nil, arith}
use Rattle.std.specs.List.{AllByRecursion}
use Rattle.std.proofs.lemmas.List.{map-append}
use Rattle.terms.specs.declared.refusal.Refusal.{Refusal}
use Rattle.terms.specs.Refusals as refusals
use Rattle.words.specs.declared.name.Name.{Name}
use Rattle.words.specs.declared.signals.Reader.{Reader}
use Rattle.words.specs.declared.signals.Signals.{Signals}
use Rattle.words.specs.declared.word.Token.{Token}
use Rattle.words.specs.declared.word.Word.TheVariants.{End}
use Rattle.words.specs.Words.{Said, out', name', Placed, at, said, Words, words_from, says, Comes}
use Rattle.words.specs.Names.{HoldsNames}
use Rattle.words.specs.Signals.{In, IsSignals, Begins, Told, Answer, served, refused, Fits, Outcome, store_short, text_long, reads, word_wrong, end_wrong, Gives, Leaves, Written, Read, Fault, strange}
use Rattle.words.specs.Steps.{Step, sorted, by_stage, finished}
use Rattle.words.proofs.WordLaws.{first_said, end_said, words_all}
use Rattle.words.proofs.PlainLaws.{Plain, Plainly, words_plain, from_plain}
use Rattle.words.proofs.SignalLaws.{in_right, all_in, all_from, all_names, IsName, not_out, outcome_one}
use Rattle.words.proofs.StepLaws.{Stand, before, inputs, outputs, words_of, names_of, reader_at, Sound, stand_begins, Moves, Agrees, step_agrees, output_read}

-- the reader r has read the words before the place i, and the store holds their names
pub record Reading (text : List ℕ) (r : Reader) (i : ℕ) (store : List Name) : Type 0 where
  pub stand : Stand
  pub sound : Sound stand
  pub is : r ≡ reader_at stand
  pub past : List Placed
  pub split : words_from text 0 ≡ past ++ words_from text i
  pub words : map said past ≡ words_of stand
  pub holds : HoldsNames (names_of stand) store

pub start : (text : List ℕ) (store : List Name) → HoldsNames [] store → Reading text (reader_at before) 0 store
start text store h = record {
  stand = before;
  sound = record { few = tt; short = tt; apart = tt; plain = tt };
  is = refl;
  past = [];
  split = refl;
  words = refl;
  holds = h;
}

module _ {text : List ℕ} {r : Reader} {i : ℕ} {store : List Name} (so : Reading text r i store) where
  module _ (roomy : 8 ≤ length store) (t : Token) (on : ¬ (t.word ≡ End)) (comes : Comes text i t) where
    -- what the token says
    heard : (w : Said) × (says t.word ≡ Some w) × (words_from text i ≡ at w t.at ∷ words_from text t.next)
    heard = first_said text i t.at t.next t.word on comes

    agrees : Agrees so.stand heard.0 t.at (by_stage r.stage r store t.at (sorted (says t.word)))
    agrees =
        subst₂ (λ z o. Agrees so.stand heard.0 t.at (by_stage z.stage z store t.at (sorted o))) (sym so.is) (sym heard.1)
        (step_agrees store t.at so.stand so.sound roomy so.holds heard.0 (from_plain text i heard.0 t.at (words_from text t.next) heard.2))

    onward : words_from text 0 ≡ so.past ++ (at heard.0 t.at ∷ words_from text t.next)
    onward = so.split ∙ ap (λ l. so.past ++ l) heard.2

    -- a word that is taken is read
    pub taken : {s : Reader} {after : List Name} → ◌≡◌ {A = Step} (Ok s, after) (by_stage r.stage r store t.at (sorted (says t.word))) → Reading text s t.next after
    taken {s} {after} e =
        let m : Moves so.stand heard.0 s after = subst (Agrees so.stand heard.0 t.at) (sym e) agrees in
        record {
          stand = m.to;
          sound = m.sound;
          is = m.is;
          past = so.past ++ (at heard.0 t.at ∷ []);
          split = onward ∙ sym (append_assoc so.past (at heard.0 t.at ∷ []) (words_from text t.next));
          words = map-append said so.past (at heard.0 t.at ∷ []) ∙ ap (λ l. l ++ (heard.0 ∷ [])) so.words ∙ sym m.words;
          holds = m.holds;
        }

    -- a word that is refused is the first that is wrong
    pub wrong : {room : ℕ} → Fits room text → {e : Refusal} {after : List Name} → ◌≡◌ {A = Step} (Err e, after) (by_stage r.stage r store t.at (sorted (says t.word))) → Read room text (Err e) after
    wrong fits {e} is =
        let f : Told (words_of so.stand) heard.0 (refusals.number e) × (refusals.place e ≡ t.at) = subst (Agrees so.stand heard.0 t.at) (sym is) agrees in
        record {
          answer = refused (refusals.number e) t.at;
          outcome = word_wrong so.past heard.0 t.at (words_from text t.next) fits (subst (Words 0 text) onward (words_all text)) (subst Begins (sym so.words) (stand_begins so.stand so.sound)) (subst (λ l. Told l heard.0 (refusals.number e)) (sym so.words) f.0);
          gives = (refl, f.1);
          written = tt;
        }

  -- behind `in` and inputs no signals text is complete
  unfinished : (xs ins outs : List (List ℕ)) → ¬ IsSignals (words_of (inputs xs)) ins outs
  unfinished xs ins outs s =
      let e = s.says in
      let same : map name' xs ≡ map name' ins ++ (out' ∷ map name' outs) = cc in
      let i : IsName out' = all_in out' IsName (map name' xs) (all_names xs) (subst (In out') (sym same) (in_right out' (map name' ins) (out' ∷ map name' outs) (inl refl))) in
      not_out i.1

  unbegun : (ins outs : List (List ℕ)) → ¬ IsSignals [] ins outs
  unbegun ins outs s = let e = s.says in cc

  module _ {room : ℕ} (fits : Fits room text) (end : words_from text i ≡ []) where
    whole : Words 0 text so.past
    whole = subst (Words 0 text) (so.split ∙ ap (λ l. so.past ++ l) end ∙ append-nil so.past) (words_all text)

    cut : ((ins outs : List (List ℕ)) → ¬ IsSignals (words_of so.stand) ins outs) → Outcome room text (refused 3 (length text))
    cut h = end_wrong fits whole (subst Begins (sym so.words) (stand_begins so.stand so.sound)) (λ ins outs s. h ins outs (subst (λ l. IsSignals l ins outs) so.words s))

    abbrev Ends : Stand → Type 0
    Ends s = so.stand ≡ s → Read room text (finished (reader_at s) (length text)) store

    -- what the reader says at the end
    at_end : Read room text (finished r (length text)) store
    at_end = subst (λ z. Read room text (finished z (length text)) store) (sym so.is) (go so.stand refl)
      where
        go : (s : Stand) → Ends s
        go before e = record { answer = refused 3 (length text); outcome = cut (λ ins outs s. unbegun ins outs (subst (λ z. IsSignals (words_of z) ins outs) e s)); gives = (refl, refl); written = tt }
        go (inputs xs) e = record { answer = refused 3 (length text); outcome = cut (λ ins outs s. unfinished xs ins outs (subst (λ z. IsSignals (words_of z) ins outs) e s)); gives = (refl, refl); written = tt }
        go (outputs xs ys) e =
            let o : Sound (outputs xs ys) = subst Sound e so.sound in
            record {
              answer = served xs ys;
              outcome = reads fits whole (record { says = so.words ∙ ap words_of e; few_in = o.few.0; few_out = o.few.1; short = o.short; apart = o.apart });
              gives = (refl, refl);
              written = subst (λ z. HoldsNames (names_of z) store) e so.holds;
            }

  -- what is answered at the token of the end
  pub ended : {room : ℕ} → Fits room text → (t : Token) → t.word ≡ End → Comes text i t → Read room text (finished r t.at) store
  ended {room} fits t is comes =
      let e = end_said text i t.at t.next t.word is comes in
      subst (λ n. Read room text (finished r n) store) (sym e.1) (at_end fits e.0)

-- ---- the whole call

-- the lowest fault of a word is none of a store
low_number : (ws : List Said) {w : Said} {k : ℕ} → Fault ws w k → k ≤ 6
low_number ws strange = omega arith
low_number ws f = omega arith

module _ (room : ℕ) (text : List ℕ) where
  not_store : Fits room text → {k p : ℕ} → Outcome room text (refused k p) → k ≡ 13 → ⊥
  not_store f (store_short h) e = omega (arith, f.roomy)
  not_store f (text_long h i) e = omega arith
  not_store f (word_wrong a w p r g y b t) e = omega (arith, low_number (map said a) t.0)
  not_store f (end_wrong g y b n) e = omega arith

  module _ (store after : List Name) where
    -- what a call promises of its result
    pub record Promised (r : Result Signals Refusal) : Type 0 where
      pub outcome : (a : Answer) × Outcome room text a × Gives r a × Leaves store a after
      pub only : (a : Answer) → Outcome room text a → Gives r a × Leaves store a after

    -- the one answer is what is promised
    pub one_answer : (r : Result Signals Refusal) (a : Answer) → Outcome room text a → Gives r a → Leaves store a after → Promised r
    one_answer r a o g l = record {
      outcome = (a, o, g, l);
      only = λ b i. subst (λ z. Gives r z × Leaves store z after) (outcome_one room text o i) (g, l);
    }

    -- a store that is cleared behind a refusal
    pub cleared : Fits room text → {n : ℕ} (r : Result Signals Refusal) (mid : List Name) → Read n text r mid → n ≡ room → is_err r ≡ true → HoldsNames [] after → Promised r
    cleared f r mid so is h e = let o = subst (λ n. Outcome n text so.answer) is so.outcome in one_answer r so.answer o so.gives (go r so.answer o so.gives h)
      where
        go : (r : Result Signals Refusal) (a : Answer) → Outcome room text a → Gives r a → is_err r ≡ true → Leaves store a after
        go (Ok s) a o g h = cc
        go (Err d) (served ins outs) o g h = absurd g
        go (Err d) (refused k p) o g h = (λ z. absurd (not_store f o z), λ z. e)

    -- a store with the names of a text that is served
    pub kept : {n : ℕ} (r : Result Signals Refusal) → Read n text r after → n ≡ room → is_err r ≡ false → Promised r
    kept r so is h = one_answer r so.answer (subst (λ n. Outcome n text so.answer) is so.outcome) so.gives (go r so.answer so.gives so.written h)
      where
        go : (r : Result Signals Refusal) (a : Answer) → Gives r a → Written a after → is_err r ≡ false → Leaves store a after
        go (Ok s) (served ins outs) g w h = w
        go (Ok s) (refused k p) g w h = absurd g
        go (Err d) a g w h = cc

-- the names of a text that is served have no zero byte
pub served_plain : (room : ℕ) (text : List ℕ) (ins outs : List (List ℕ)) → Outcome room text (served ins outs) → AllByRecursion Plain (ins ++ outs)
served_plain room text ins outs (reads {ws = ws} f w s) =
    all_from (ins ++ outs) (λ x i. all_in (name' x) Plainly (map said ws) (words_plain w) (subst (In (name' x)) (sym s.says) (output_read ins outs x i)) x refl)
