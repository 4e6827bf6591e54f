-- The reader's table agrees with what a signals text is: a word that it takes goes on with a good beginning, and a word
-- that it refuses has the number as its lowest fault.
use Rattle.std.proofs.Common.{◌≡◌, ℕ, ◌+◌, ◌<◌, ◌≤◌, ◌⊎◌, List, [], ◌∷◌, ◌++◌, map, length, Ok, Err, Result, sym, refl, ap, ◌∙◌, subst, inl, inr, ⊎_elim, append_assoc, append-nil, arith}
use Rattle.std.specs.List.{AllByRecursion}
use Rattle.std.proofs.ByRecursion.{All-push}
use Rattle.std.proofs.lemmas.List.{map-append, length-append, length_push}
use Rattle.terms.specs.declared.refusal.Refusal.{Refusal}
use Rattle.terms.specs.Refusals as refusals
use Rattle.words.specs.declared.name.Name.{Name}
use Rattle.words.specs.declared.signals.Stage.TheVariants.{Before, Inputs, Outputs}
use Rattle.words.specs.declared.signals.Reader.{Reader}
use Rattle.words.specs.Words.{Said, in', out', name', strange'}
use Rattle.words.specs.Names.{HoldsNames}
use Rattle.words.specs.Signals.{In, Distinct, listed, Begins, Formed, Fault, strange, misplaced, long, repeated, fifth, Told}
use Rattle.words.specs.Steps.{Sort, begins, turns, other, called, odd, sort, Step, with_input, with_output, by_stage}
use Rattle.words.proofs.PlainLaws.{Plain}
use Rattle.words.proofs.NameLaws.{Entry, bad, many, new, entry}
use Rattle.words.proofs.SignalLaws.{in_left, in_right, in_cases, in_names, in_map, names, names_map, names_listed, distinct_push, not_in, not_out, GoesIn, formed_first, formed_in, formed_out}

-- ---- where a reader stands: before `in`, behind some inputs, or behind all inputs and some outputs

pub data Stand : Type 0 where
  before : Stand
  inputs : List (List ℕ) → Stand
  outputs : List (List ℕ) → List (List ℕ) → Stand

-- the words read
abbrev pub words_of : Stand → List Said
words_of before = []
words_of (inputs xs) = in' ∷ map name' xs
words_of (outputs xs ys) = listed xs ys

-- the names read
abbrev pub names_of : Stand → List (List ℕ)
names_of before = []
names_of (inputs xs) = xs
names_of (outputs xs ys) = xs ++ ys

abbrev pub reader_at : Stand → Reader
reader_at before = record { stage = Before; read = record { inputs = 0; outputs = 0 } }
reader_at (inputs xs) = record { stage = Inputs; read = record { inputs = length xs; outputs = 0 } }
reader_at (outputs xs ys) = record { stage = Outputs; read = record { inputs = length xs; outputs = length ys } }

abbrev pub Few : Stand → Type 0
Few before = Unit {0}
Few (inputs xs) = length xs ≤ 4
Few (outputs xs ys) = (length xs ≤ 4) × (length ys ≤ 4)

pub record Sound (s : Stand) : Type 0 where
  pub few : Few s
  pub short : AllByRecursion (λ x. length x ≤ 8) (names_of s)
  pub apart : Distinct (names_of s)
  pub plain : AllByRecursion Plain (names_of s)

-- the names read are those among the words read
names_read : (s : Stand) → names (words_of s) ≡ names_of s
names_read before = refl
names_read (inputs xs) = names_map xs
names_read (outputs xs ys) = names_listed xs ys

-- what was read can begin a signals text
pub stand_begins : (s : Stand) → Sound s → Begins (words_of s)
stand_begins before o = (in' ∷ out' ∷ [], [], [], record { says = refl; few_in = omega arith; few_out = omega arith; short = tt; apart = tt })
stand_begins (inputs xs) o = (
  out' ∷ [],
  xs,
  [],
  record {
    says = refl;
    few_in = o.few;
    few_out = omega arith;
    short = subst (AllByRecursion (λ x. length x ≤ 8)) (sym (append-nil xs)) o.short;
    apart = subst Distinct (sym (append-nil xs)) o.apart;
  },
)
stand_begins (outputs xs ys) o = (
  [],
  xs,
  ys,
  record {
    says = append-nil (listed xs ys);
    few_in = o.few.0;
    few_out = o.few.1;
    short = o.short;
    apart = o.apart;
  },
)

-- ---- the lowest fault

abbrev Even : Sort → Type 0
Even odd = ⊥
Even s = Unit {0}

module _ (ws : List Said) where
  low2 : {w : Said} {j : ℕ} → Fault ws w j → 2 ≤ j
  low2 strange = omega arith
  low2 f = omega arith

  low3 : {w : Said} {j : ℕ} → Fault ws w j → Even (sort w) → 3 ≤ j
  low3 strange n = absurd n
  low3 f n = omega arith

  module _ (x : List ℕ) (formed : Formed (ws ++ (name' x ∷ []))) where
    low4 : {j : ℕ} → Fault ws (name' x) j → 4 ≤ j
    low4 (misplaced h) = absurd (h formed)
    low4 f = omega arith

    low6 : {j : ℕ} → Fault ws (name' x) j → length x ≤ 8 → (In (name' x) ws → ⊥) → 6 ≤ j
    low6 (misplaced h) s n = absurd (h formed)
    low6 (long h) s n = absurd (omega arith)
    low6 (repeated h) s n = absurd (n h)
    low6 (fifth b f h i) s n = omega arith

-- ---- one step

-- a reader that took the word w, and the store then
pub record Moves (s : Stand) (w : Said) (r : Reader) (store : List Name) : Type 0 where
  pub to : Stand
  pub sound : Sound to
  pub is : r ≡ reader_at to
  pub words : words_of to ≡ words_of s ++ (w ∷ [])
  pub holds : HoldsNames (names_of to) store

abbrev pub Agrees : Stand → Said → ℕ → Step → Type 0
Agrees s w p (Ok r, store) = Moves s w r store
Agrees s w p (Err e, store) = Told (words_of s) w (refusals.number e) × (refusals.place e ≡ p)

abbrev IsOther : Sort → Type 0
IsOther other = Unit {0}
IsOther s = ⊥

-- a word of another sort is neither `in`, `out` nor a name
other_not : (v w : Said) → sort w ≡ other → w ≡ v → IsOther (sort v)
other_not v w h e = subst IsOther (sym h ∙ ap sort e) tt

other_stays : (w : Said) → sort w ≡ other → GoesIn w → ⊥
other_stays w h (inl e) = other_not out' w h e
other_stays w h (inr i) = other_not (name' i.0) w h i.1

misplaced_told : (s : Stand) (w : Said) → Even (sort w) → ¬ Formed (words_of s ++ (w ∷ [])) → Told (words_of s) w 3
misplaced_told s w n h = (misplaced h, λ j f. low3 (words_of s) f n)

other_told : (s : Stand) (w : Said) → sort w ≡ other → Told (words_of s) w 3
other_told s w h = misplaced_told s w (subst Even (sym h) tt) (at s)
  where
    at : (s : Stand) → ¬ Formed (words_of s ++ (w ∷ []))
    at before f = other_not in' w h (formed_first w f)
    at (inputs xs) f = other_stays w h (formed_in xs w f)
    at (outputs xs ys) f = other_stays w h (inr (formed_out xs ys w f))

-- a name of an input or an output is among the words
pub output_read : (xs ys : List (List ℕ)) (x : List ℕ) → In x (xs ++ ys) → In (name' x) (listed xs ys)
output_read xs ys x i =
    inr (⊎_elim (λ h. in_left (name' x) (map name' xs) (out' ∷ map name' ys) (in_map x xs h)) (λ h. in_right (name' x) (map name' xs) (out' ∷ map name' ys) (inr (in_map x ys h))) (in_cases x xs ys i))

module _ (names : List Name) (p : ℕ) where
  abbrev At : Stand → Sort → Step
  At s t = by_stage (reader_at s).stage (reader_at s) names p t

  other_agrees : (s : Stand) (w : Said) → sort w ≡ other → Agrees s w p (At s other)
  other_agrees before w o = (other_told before w o, refl)
  other_agrees (inputs xs) w o = (other_told (inputs xs) w o, refl)
  other_agrees (outputs xs ys) w o = (other_told (outputs xs ys) w o, refl)

  odd_agrees : (s : Stand) (c : ℕ) → Agrees s (strange' c) p (At s odd)
  odd_agrees before c = ((strange, λ j f. low2 [] f), refl)
  odd_agrees (inputs xs) c = ((strange, λ j f. low2 (words_of (inputs xs)) f), refl)
  odd_agrees (outputs xs ys) c = ((strange, λ j f. low2 (words_of (outputs xs ys)) f), refl)

  begins_agrees : (s : Stand) → Sound s → HoldsNames (names_of s) names → Agrees s in' p (At s begins)
  begins_agrees before o h = record { to = inputs []; sound = record { few = omega arith; short = tt; apart = tt; plain = tt }; is = refl; words = refl; holds = h }
  begins_agrees (inputs xs) o h = (misplaced_told (inputs xs) in' tt (λ f. in_goes (formed_in xs in' f)), refl)
    where
      in_goes : GoesIn in' → ⊥
      in_goes (inl e) = cc
      in_goes (inr i) = not_in i.1
  begins_agrees (outputs xs ys) o h = (misplaced_told (outputs xs ys) in' tt (λ f. not_in (formed_out xs ys in' f).1), refl)

  turns_agrees : (s : Stand) → Sound s → HoldsNames (names_of s) names → Agrees s out' p (At s turns)
  turns_agrees before o h = (misplaced_told before out' tt (λ f. out_in (formed_first out' f)), refl)
    where
      out_in : ◌≡◌ {A = Said} out' in' → ⊥
      out_in e = cc
  turns_agrees (inputs xs) o h =
      let all = append-nil xs in
      record {
        to = outputs xs [];
        sound = record {
          few = (o.few, omega arith);
          short = subst (AllByRecursion (λ x. length x ≤ 8)) (sym all) o.short;
          apart = subst Distinct (sym all) o.apart;
          plain = subst (AllByRecursion Plain) (sym all) o.plain;
        };
        is = refl;
        words = refl;
        holds = subst (λ l. HoldsNames l names) (sym all) h;
      }
  turns_agrees (outputs xs ys) o h = (misplaced_told (outputs xs ys) out' tt (λ f. not_out (formed_out xs ys out' f).1), refl)

  -- a name in its place is well formed
  name_in : (xs : List (List ℕ)) (x : List ℕ) → words_of (inputs (xs ++ (x ∷ []))) ≡ words_of (inputs xs) ++ (name' x ∷ [])
  name_in xs x = ap (λ l. in' ∷ l) (map-append name' xs (x ∷ []))

  name_out : (xs ys : List (List ℕ)) (x : List ℕ) → listed xs (ys ++ (x ∷ [])) ≡ listed xs ys ++ (name' x ∷ [])
  name_out xs ys x =
      ap (λ l. in' ∷ (map name' xs ++ (out' ∷ l))) (map-append name' ys (x ∷ [])) ∙ ap (λ l. in' ∷ l) (sym (append_assoc (map name' xs) (out' ∷ map name' ys) (name' x ∷ [])))

  formed_name_in : (xs : List (List ℕ)) (x : List ℕ) → Formed (words_of (inputs xs) ++ (name' x ∷ []))
  formed_name_in xs x = (out' ∷ [], xs ++ (x ∷ []), [], ap (λ l. l ++ (out' ∷ [])) (sym (name_in xs x)))

  formed_name_out : (xs ys : List (List ℕ)) (x : List ℕ) → Formed (listed xs ys ++ (name' x ∷ []))
  formed_name_out xs ys x = ([], xs, ys ++ (x ∷ []), append-nil (listed xs ys ++ (name' x ∷ [])) ∙ sym (name_out xs ys x))

  -- a name is among the words read where it is among the names read
  read_before : (s : Stand) (x : List ℕ) → In (name' x) (words_of s) → In x (names_of s)
  read_before s x i = subst (In x) (names_read s) (in_names x (words_of s) i)

  input_read : (xs : List (List ℕ)) (x : List ℕ) → In x xs → In (name' x) (words_of (inputs xs))
  input_read xs x i = inr (in_map x xs i)

  bad_told : (s : Stand) (x : List ℕ) → Formed (words_of s ++ (name' x ∷ [])) → (In x (names_of s) → In (name' x) (words_of s)) → (8 < length x) ⊎ In x (names_of s) → Told (words_of s) (name' x) 4
  bad_told s x f read (inl h) = (long h, λ j g. low4 (words_of s) x f g)
  bad_told s x f read (inr i) = (repeated (read i), λ j g. low4 (words_of s) x f g)

  input_agrees : (xs : List (List ℕ)) (x : List ℕ) → Sound (inputs xs) → Plain x → {t : Result ℕ Refusal × List Name} → Entry xs x (length xs) p t → Agrees (inputs xs) (name' x) p (with_input (reader_at (inputs xs)) t)
  input_agrees xs x o q (bad h) = (bad_told (inputs xs) x (formed_name_in xs x) (input_read xs x) h, refl)
  input_agrees xs x o q (many short fresh n) =
      ((fifth (in' ∷ []) xs refl (omega (arith, o.few)), λ j g. low6 (words_of (inputs xs)) x (formed_name_in xs x) g short (λ i. fresh (read_before (inputs xs) x i))), refl)
  input_agrees xs x o q (new short fresh n h) = record {
    to = inputs (xs ++ (x ∷ []));
    sound = record {
      few = omega (arith, length_push xs x);
      short = All-push (λ y. length y ≤ 8) xs x o.short short;
      apart = distinct_push x xs o.apart fresh;
      plain = All-push Plain xs x o.plain q;
    };
    is = ap (λ m. let r : Reader = record { stage = Inputs; read = record { inputs = m; outputs = 0 } } in r) (sym (length_push xs x));
    words = name_in xs x;
    holds = h;
  }

  output_agrees : (xs ys : List (List ℕ)) (x : List ℕ) → Sound (outputs xs ys) → Plain x → {t : Result ℕ Refusal × List Name} → Entry (xs ++ ys) x (length ys) p t → Agrees (outputs xs ys) (name' x) p (with_output (reader_at (outputs xs ys)) t)
  output_agrees xs ys x o q (bad h) = (bad_told (outputs xs ys) x (formed_name_out xs ys x) (output_read xs ys x) h, refl)
  output_agrees xs ys x o q (many short fresh n) =
      let four : listed xs ys ≡ (in' ∷ (map name' xs ++ (out' ∷ []))) ++ map name' ys = ap (λ l. in' ∷ l) (sym (append_assoc (map name' xs) (out' ∷ []) (map name' ys))) in
      ((fifth (in' ∷ (map name' xs ++ (out' ∷ []))) ys four (omega (arith, o.few.1)), λ j g. low6 (listed xs ys) x (formed_name_out xs ys x) g short (λ i. fresh (read_before (outputs xs ys) x i))), refl)
  output_agrees xs ys x o q (new {store = store} short fresh n h) =
      let all : (xs ++ ys) ++ (x ∷ []) ≡ xs ++ (ys ++ (x ∷ [])) = append_assoc xs ys (x ∷ []) in
      record {
        to = outputs xs (ys ++ (x ∷ []));
        sound = record {
          few = (o.few.0, omega (arith, length_push ys x));
          short = subst (AllByRecursion (λ y. length y ≤ 8)) all (All-push (λ y. length y ≤ 8) (xs ++ ys) x o.short short);
          apart = subst Distinct all (distinct_push x (xs ++ ys) o.apart fresh);
          plain = subst (AllByRecursion Plain) all (All-push Plain (xs ++ ys) x o.plain q);
        };
        is = ap (λ m. let r : Reader = record { stage = Outputs; read = record { inputs = length xs; outputs = m } } in r) (sym (length_push ys x));
        words = name_out xs ys x;
        holds = subst (λ l. HoldsNames l store) all h;
      }

  called_agrees : (s : Stand) (x : List ℕ) → Sound s → 8 ≤ length names → HoldsNames (names_of s) names → Plain x → Agrees s (name' x) p (At s (called x))
  called_agrees before x o room h q = (misplaced_told before (name' x) tt (λ f. not_in (sym (formed_first (name' x) f))), refl)
  called_agrees (inputs xs) x o room h q =
      input_agrees xs x o q (entry xs names h x (length xs + 0) (length xs) p (omega arith) q o.plain (λ l. omega arith))
  called_agrees (outputs xs ys) x o room h q =
      output_agrees xs ys x o q (entry (xs ++ ys) names h x (length xs + length ys) (length ys) p (sym (length-append xs ys)) q o.plain (λ l. omega (arith, o.few.0)))

  -- the step that the table takes at a word
  pub step_agrees : (s : Stand) → Sound s → 8 ≤ length names → HoldsNames (names_of s) names → (w : Said) → ((x : List ℕ) → w ≡ name' x → Plain x) → Agrees s w p (At s (sort w))
  step_agrees s o room h in' q = begins_agrees s o h
  step_agrees s o room h out' q = turns_agrees s o h
  step_agrees s o room h (name' x) q = called_agrees s x o room h (q x refl)
  step_agrees s o room h (strange' c) q = odd_agrees s c
  step_agrees s o room h w q = other_agrees s w refl
