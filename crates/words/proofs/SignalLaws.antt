-- What can begin a signals text, and that a text comes to one thing only.
use Rattle.std.proofs.Common.{◌≡◌, ℕ, ◌<◌, ◌≤◌, ◌⊎◌, List, [], ◌∷◌, ◌++◌, map, length, sym, refl, ap, ◌∙◌, subst, ap₂, subst₂, inl, inr, ⊎_elim, append_assoc, append-nil, arith}
use Rattle.std.specs.List.{AllByRecursion}
use Rattle.std.proofs.lemmas.List.{map-append, length-append, length-map}
use Rattle.std.proofs.ByRecursion.{All-append}
use Rattle.words.specs.Words.{Said, in', out', name', strange', Placed, at, said, Words}
use Rattle.words.specs.Signals.{In, Distinct, listed, IsSignals, Begins, Formed, Fault, strange, misplaced, long, repeated, fifth, Told, Answer, served, refused, Outcome, store_short, text_long, reads, word_wrong, end_wrong}
use Rattle.words.proofs.WordLaws.{words_one}

-- ---- members

module _ {A : Type 0} (x : A) where
  pub in_left : (xs ys : List A) → In x xs → In x (xs ++ ys)
  in_left [] ys i = absurd i
  in_left (y ∷ xs) ys (inl e) = inl e
  in_left (y ∷ xs) ys (inr i) = inr (in_left xs ys i)

  pub in_right : (xs ys : List A) → In x ys → In x (xs ++ ys)
  in_right [] ys i = i
  in_right (y ∷ xs) ys i = inr (in_right xs ys i)

  pub in_cases : (xs ys : List A) → In x (xs ++ ys) → In x xs ⊎ In x ys
  in_cases [] ys i = inr i
  in_cases (y ∷ xs) ys (inl e) = inl (inl e)
  in_cases (y ∷ xs) ys (inr i) = ⊎_elim (λ h. inl (inr h)) inr (in_cases xs ys i)

  pub all_in : (P : A → Type 0) (xs : List A) → AllByRecursion P xs → In x xs → P x
  all_in P [] a i = absurd i
  all_in P (y ∷ xs) a (inl e) = subst P (sym e) a.0
  all_in P (y ∷ xs) a (inr i) = all_in P xs a.1 i

  pub distinct_twice : (xs ys : List A) → Distinct (xs ++ (x ∷ ys)) → In x xs → ⊥
  distinct_twice [] ys d i = i
  distinct_twice (y ∷ xs) ys d (inl e) = d.0 (in_same xs ys (sym e))
    where
      in_same : (zs ws : List A) → y ≡ x → In y (zs ++ (x ∷ ws))
      in_same [] ws h = inl h
      in_same (z ∷ zs) ws h = inr (in_same zs ws h)
  distinct_twice (y ∷ xs) ys d (inr i) = distinct_twice xs ys d.1 i

pub distinct_push : {A : Type 0} (x : A) (xs : List A) → Distinct xs → (In x xs → ⊥) → Distinct (xs ++ (x ∷ []))
distinct_push x [] d h = (λ i. i, tt)
distinct_push x (y ∷ xs) d h =
    (λ i. ⊎_elim d.0 (λ j. ⊎_elim (λ e. h (inl (sym e))) (λ n. n) j) (in_cases y xs (x ∷ []) i), distinct_push x xs d.1 (λ i. h (inr i)))

pub all_from : {A : Type 0} {P : A → Type 0} (xs : List A) → ((x : A) → In x xs → P x) → AllByRecursion P xs
all_from [] h = tt
all_from (x ∷ xs) h = (h x (inl refl), all_from xs (λ y i. h y (inr i)))

-- ---- the names among words

abbrev one : Said → List (List ℕ)
one (name' x) = x ∷ []
one w = []

abbrev pub names : List Said → List (List ℕ)
names [] = []
names (w ∷ ws) = one w ++ names ws

names_append : (vs ws : List Said) → names (vs ++ ws) ≡ names vs ++ names ws
names_append [] ws = refl
names_append (v ∷ vs) ws = ap (λ l. one v ++ l) (names_append vs ws) ∙ sym (append_assoc (one v) (names vs) (names ws))

pub names_map : (xs : List (List ℕ)) → names (map name' xs) ≡ xs
names_map [] = refl
names_map (x ∷ xs) = ap (λ l. x ∷ l) (names_map xs)

pub names_listed : (ins outs : List (List ℕ)) → names (listed ins outs) ≡ ins ++ outs
names_listed ins outs = names_append (map name' ins) (out' ∷ map name' outs) ∙ ap₂ (λ a b. a ++ b) (names_map ins) (names_map outs)

pub in_names : (x : List ℕ) (ws : List Said) → In (name' x) ws → In x (names ws)
in_names x [] i = absurd i
in_names x (w ∷ ws) (inl e) = subst (λ v. In x (one v ++ names ws)) e (inl refl)
in_names x (w ∷ ws) (inr i) = in_right x (one w) (names ws) (in_names x ws i)

pub in_map : (x : List ℕ) (xs : List (List ℕ)) → In x xs → In (name' x) (map name' xs)
in_map x [] i = absurd i
in_map x (y ∷ xs) (inl e) = inl (ap name' e)
in_map x (y ∷ xs) (inr i) = inr (in_map x xs i)

-- ---- which words a signals text has

-- a name
abbrev pub IsName : Said → Type 0
IsName w = (x : List ℕ) × (w ≡ name' x)

-- a name, or `out`
abbrev pub GoesIn : Said → Type 0
GoesIn w = (w ≡ out') ⊎ IsName w

-- a name, `in` or `out`
abbrev Allowed : Said → Type 0
Allowed w = (w ≡ in') ⊎ GoesIn w

pub all_names : (xs : List (List ℕ)) → AllByRecursion IsName (map name' xs)
all_names [] = tt
all_names (x ∷ xs) = ((x, refl), all_names xs)

all_allowed : (xs : List (List ℕ)) → AllByRecursion Allowed (map name' xs)
all_allowed [] = tt
all_allowed (x ∷ xs) = (inr (inr (x, refl)), all_allowed xs)

listed_allowed : (ins outs : List (List ℕ)) → AllByRecursion Allowed (listed ins outs)
listed_allowed ins outs = (inl refl, All-append Allowed (map name' ins) (out' ∷ map name' outs) (all_allowed ins) (inr (inl refl), all_allowed outs))

-- in and out are no names
pub not_in : {x : List ℕ} → ◌≡◌ {A = Said} in' (name' x) → ⊥
not_in e = cc

pub not_out : {x : List ℕ} → ◌≡◌ {A = Said} out' (name' x) → ⊥
not_out e = cc

strange_not : (c : ℕ) → Allowed (strange' c) → ⊥
strange_not c (inl e) = cc
strange_not c (inr (inl e)) = cc
strange_not c (inr (inr i)) = let e = i.1 in cc

-- behind `in` and names comes a name or `out`
next_in : (xs ins outs : List (List ℕ)) (w : Said) (rest : List Said) → map name' xs ++ (w ∷ rest) ≡ map name' ins ++ (out' ∷ map name' outs) → GoesIn w
next_in [] [] outs w rest e = inl (cc)
next_in [] (i ∷ ins) outs w rest e = inr (i, (cc))
next_in (x ∷ xs) [] outs w rest e = cc
next_in (x ∷ xs) (i ∷ ins) outs w rest e = next_in xs ins outs w rest (cc)

-- behind `out` and names comes a name
next_out : (xs ys ins outs : List (List ℕ)) (w : Said) (rest : List Said) → map name' xs ++ (out' ∷ (map name' ys ++ (w ∷ rest))) ≡ map name' ins ++ (out' ∷ map name' outs) → IsName w
next_out [] ys [] outs w rest e =
    let same : map name' ys ++ (w ∷ rest) ≡ map name' outs = cc in
    all_in w IsName (map name' outs) (all_names outs) (subst (In w) same (in_right w (map name' ys) (w ∷ rest) (inl refl)))
next_out [] ys (i ∷ ins) outs w rest e = cc
next_out (x ∷ xs) ys [] outs w rest e = cc
next_out (x ∷ xs) ys (i ∷ ins) outs w rest e = next_out xs ys ins outs w rest (cc)

pub formed_first : (w : Said) → Formed (w ∷ []) → w ≡ in'
formed_first w f = let e = f.3 in cc

pub formed_in : (xs : List (List ℕ)) (w : Said) → Formed ((in' ∷ map name' xs) ++ (w ∷ [])) → GoesIn w
formed_in xs w f =
    let e : in' ∷ ((map name' xs ++ (w ∷ [])) ++ f.0) ≡ listed f.1 f.2 = f.3 in
    let a = append_assoc (map name' xs) (w ∷ []) f.0 in
    next_in xs f.1 f.2 w f.0 (cc)

pub formed_out : (xs ys : List (List ℕ)) (w : Said) → Formed (listed xs ys ++ (w ∷ [])) → IsName w
formed_out xs ys w f =
    let e : in' ∷ (((map name' xs ++ (out' ∷ map name' ys)) ++ (w ∷ [])) ++ f.0) ≡ listed f.1 f.2 = f.3 in
    let a = append_assoc (map name' xs ++ (out' ∷ map name' ys)) (w ∷ []) f.0 in
    let b = append_assoc (map name' xs) (out' ∷ map name' ys) (w ∷ f.0) in
    next_out xs ys f.1 f.2 w f.0 (cc)

-- ---- five names in a row are too many

run_out : (ins outs five : List (List ℕ)) (rest : List Said) → map name' ins ++ (out' ∷ map name' outs) ≡ map name' five ++ rest → length five ≤ length ins
run_out ins outs [] rest e = omega arith
run_out [] outs (x ∷ five) rest e = cc
run_out (i ∷ ins) outs (x ∷ five) rest e = let same : map name' ins ++ (out' ∷ map name' outs) ≡ map name' five ++ rest = cc in omega (arith, run_out ins outs five rest same)

later : (ins outs : List (List ℕ)) (before : List Said) (five : List (List ℕ)) (rest : List Said) → map name' ins ++ (out' ∷ map name' outs) ≡ before ++ (map name' five ++ rest) → (length five ≤ length ins) ⊎ (length five ≤ length outs)
later ins outs [] five rest e = inl (run_out ins outs five rest e)
later [] outs (b ∷ before) five rest e =
    let same : map name' outs ≡ before ++ (map name' five ++ rest) = cc in
    inr (omega (arith, ap length same, length-map outs name', length-map five name', length-append before (map name' five ++ rest), length-append (map name' five) rest))
later (i ∷ ins) outs (b ∷ before) five rest e =
    let same : map name' ins ++ (out' ∷ map name' outs) ≡ before ++ (map name' five ++ rest) = cc in
    ⊎_elim (λ h. inl (omega arith)) inr (later ins outs before five rest same)

in_row : (ins outs : List (List ℕ)) (before : List Said) (five : List (List ℕ)) (rest : List Said) → 0 < length five → listed ins outs ≡ before ++ (map name' five ++ rest) → (length five ≤ length ins) ⊎ (length five ≤ length outs)
in_row ins outs [] [] rest h e = absurd (omega arith)
in_row ins outs [] (x ∷ five) rest h e = cc
in_row ins outs (b ∷ before) five rest h e = later ins outs before five rest (cc)

-- ---- a word with a fault begins no signals text

-- a word is one of those that it stands among
among : (ws : List Said) (w : Said) (rest : List Said) → In w ((ws ++ (w ∷ [])) ++ rest)
among ws w rest = in_left w (ws ++ (w ∷ [])) rest (in_right w ws (w ∷ []) (inl refl))

pub fault_stops : (ws : List Said) {w : Said} {k : ℕ} → Fault ws w k → ¬ Begins (ws ++ (w ∷ []))
fault_stops ws (strange {c = c}) b =
    strange_not c (all_in (strange' c) Allowed (listed b.1 b.2) (listed_allowed b.1 b.2) (subst (In (strange' c)) b.3.says (among ws (strange' c) b.0)))
fault_stops ws (misplaced h) b = h (b.0, b.1, b.2, b.3.says)
fault_stops ws (long {x = x} h) b =
    let i = in_names x (listed b.1 b.2) (subst (In (name' x)) b.3.says (among ws (name' x) b.0)) in
    let few : length x ≤ 8 = all_in x (λ y. length y ≤ 8) (b.1 ++ b.2) b.3.short (subst (In x) (names_listed b.1 b.2) i) in
    omega arith
fault_stops ws (repeated {x = x} i) b =
    let e : names ws ++ (x ∷ names b.0) ≡ b.1 ++ b.2 =
    sym (names_append ws (name' x ∷ b.0)) ∙ ap names (sym (append_assoc ws (name' x ∷ []) b.0) ∙ b.3.says) ∙ names_listed b.1 b.2 in
    distinct_twice x (names ws) (names b.0) (subst Distinct (sym e) b.3.apart) (in_names x ws i)
fault_stops ws (fifth {x = x} before four is n) b =
    let five = four ++ (x ∷ []) in
    let a = ap (λ l. (l ++ (name' x ∷ [])) ++ b.0) is in
    let e : listed b.1 b.2 ≡ before ++ (map name' five ++ b.0) =
    sym b.3.says ∙ a ∙ ap (λ l. l ++ b.0) (append_assoc before (map name' four) (name' x ∷ [])) ∙ append_assoc before (map name' four ++ (name' x ∷ [])) b.0 ∙ ap (λ l. before ++ (l ++ b.0)) (sym (map-append name' four (x ∷ []))) in
    let m = length-append four (x ∷ []) in
    let few = b.3.few_in in
    let few' = b.3.few_out in
    ⊎_elim (λ h. omega (arith, h, m, few)) (λ h. omega (arith, h, m, few')) (in_row b.1 b.2 before five b.0 (omega (arith, m)) e)

-- ---- one outcome

pub begins_part : (a b : List Said) → Begins (a ++ b) → Begins a
begins_part a b h = (b ++ h.0, h.1, h.2, subst (λ l. IsSignals l h.1 h.2) (append_assoc a b h.0) h.3)

-- a signals text begins itself
pub whole_begins : (ws : List Said) (ins outs : List (List ℕ)) → IsSignals ws ins outs → Begins ws
whole_begins ws ins outs h = ([], ins, outs, subst (λ l. IsSignals l ins outs) (sym (append-nil ws)) h)

map_one : (xs ys : List (List ℕ)) → map name' xs ≡ map name' ys → xs ≡ ys
map_one xs ys e = sym (names_map xs) ∙ ap names e ∙ names_map ys

split_one : (ins ins' outs outs' : List (List ℕ)) → map name' ins ++ (out' ∷ map name' outs) ≡ map name' ins' ++ (out' ∷ map name' outs') → (ins ≡ ins') × (outs ≡ outs')
split_one [] [] outs outs' e = (refl, map_one outs outs' (cc))
split_one [] (i ∷ ins') outs outs' e = cc
split_one (i ∷ ins) [] outs outs' e = cc
split_one (i ∷ ins) (j ∷ ins') outs outs' e =
    let same : map name' ins ++ (out' ∷ map name' outs) ≡ map name' ins' ++ (out' ∷ map name' outs') = cc in
    let h = split_one ins ins' outs outs' same in
    let p = h.0 in
    (cc, h.1)

pub listed_one : (ins ins' outs outs' : List (List ℕ)) → listed ins outs ≡ listed ins' outs' → (ins ≡ ins') × (outs ≡ outs')
listed_one ins ins' outs outs' e = split_one ins ins' outs outs' (cc)

-- two places in one list: the same, or one behind the other
data Places {A : Type 0} (a : List A) (v : A) (b : List A) (w : A) : Type 0 where
  equal : a ≡ b → v ≡ w → Places a v b w
  sooner : (m : List A) → b ≡ (a ++ (v ∷ [])) ++ m → Places a v b w
  after : (m : List A) → a ≡ (b ++ (w ∷ [])) ++ m → Places a v b w

places_cons : {A : Type 0} (x : A) (a : List A) (v : A) (b : List A) (w : A) → Places a v b w → Places (x ∷ a) v (x ∷ b) w
places_cons x a v b w (equal p q) = equal (ap (λ l. x ∷ l) p) q
places_cons x a v b w (sooner m p) = sooner m (ap (λ l. x ∷ l) p)
places_cons x a v b w (after m p) = after m (ap (λ l. x ∷ l) p)

places : {A : Type 0} (a : List A) (v : A) (c : List A) (b : List A) (w : A) (d : List A) → a ++ (v ∷ c) ≡ b ++ (w ∷ d) → Places a v b w
places [] v c [] w d e = equal refl (cc)
places [] v c (y ∷ b) w d e = sooner b (cc)
places (x ∷ a) v c [] w d e = after a (cc)
places (x ∷ a) v c (y ∷ b) w d e =
    let tails : a ++ (v ∷ c) ≡ b ++ (w ∷ d) = cc in
    let heads : x ≡ y = cc in
    subst (λ z. Places (x ∷ a) v (z ∷ b) w) heads (places_cons x a v b w (places a v c b w d tails))

-- a fault cannot stand within words that begin a signals text
no_fault_within : (a : List Placed) (w : Said) (p : ℕ) (m : List Placed) {k : ℕ} → Fault (map said a) w k → ¬ Begins (map said ((a ++ (at w p ∷ [])) ++ m))
no_fault_within a w p m f b =
    fault_stops (map said a) f (begins_part (map said a ++ (w ∷ [])) (map said m) (subst Begins (map-append said (a ++ (at w p ∷ [])) m ∙ ap (λ l. l ++ map said m) (map-append said a (at w p ∷ []))) b))

split_again : (a : List Placed) (v : Placed) (b : List Placed) → a ++ (v ∷ b) ≡ (a ++ (v ∷ [])) ++ b
split_again a v b = sym (append_assoc a (v ∷ []) b)

abbrev said_of : Placed → Said
said_of (at w p) = w

abbrev place_of : Placed → ℕ
place_of (at w p) = p

module _ (room : ℕ) (text : List ℕ) where
  served_wrong : {ws : List Placed} {ins outs : List (List ℕ)} (before : List Placed) (w : Said) (p : ℕ) (rest : List Placed) {k : ℕ} → Words 0 text ws → IsSignals (map said ws) ins outs → Words 0 text (before ++ (at w p ∷ rest)) → Fault (map said before) w k → ⊥
  served_wrong {ws} {ins} {outs} before w p rest x s y f =
      let e : ws ≡ (before ++ (at w p ∷ [])) ++ rest = words_one x y ∙ split_again before (at w p) rest in
      no_fault_within before w p rest f (subst (λ l. Begins (map said l)) e (whole_begins (map said ws) ins outs s))

  end_word : {ws : List Placed} (before : List Placed) (w : Said) (p : ℕ) (rest : List Placed) {k : ℕ} → Words 0 text ws → Begins (map said ws) → Words 0 text (before ++ (at w p ∷ rest)) → Fault (map said before) w k → ⊥
  end_word before w p rest x b y f = no_fault_within before w p rest f (subst (λ l. Begins (map said l)) (words_one x y ∙ split_again before (at w p) rest) b)

  two_words : (a : List Placed) (v : Said) (p : ℕ) (c : List Placed) (b : List Placed) (w : Said) (q : ℕ) (d : List Placed) {j k : ℕ} → Words 0 text (a ++ (at v p ∷ c)) → Begins (map said a) → Told (map said a) v j → Words 0 text (b ++ (at w q ∷ d)) → Begins (map said b) → Told (map said b) w k → ◌≡◌ {A = Answer} (refused j p) (refused k q)
  two_words a v p c b w q d {j} {k} x ba ta y bb tb = go (places a (at v p) c b (at w q) d (words_one x y))
    where
      go : Places a (at v p) b (at w q) → ◌≡◌ {A = Answer} (refused j p) (refused k q)
      go (equal e f) =
          let t : Told (map said b) w j = subst₂ (λ l s. Told (map said l) s j) e (ap said_of f) ta in
          let one : j ≤ k = t.1 k tb.0 in
          let two : k ≤ j = tb.1 j t.0 in
          ap₂ refused (omega arith) (ap place_of f)
      go (sooner m e) = absurd (no_fault_within a v p m ta.0 (subst (λ l. Begins (map said l)) e bb))
      go (after m e) = absurd (no_fault_within b w q m tb.0 (subst (λ l. Begins (map said l)) e ba))

  -- a text comes to one thing only
  pub outcome_one : {a b : Answer} → Outcome room text a → Outcome room text b → a ≡ b
  outcome_one (store_short h) (store_short i) = refl
  outcome_one (store_short h) (text_long i j) = absurd (omega arith)
  outcome_one (store_short h) (reads i j l) = absurd (omega (arith, i.roomy))
  outcome_one (store_short h) (word_wrong a w p r i j l m) = absurd (omega (arith, i.roomy))
  outcome_one (store_short h) (end_wrong i j l m) = absurd (omega (arith, i.roomy))
  outcome_one (text_long h n) (store_short i) = absurd (omega arith)
  outcome_one (text_long h n) (text_long i j) = refl
  outcome_one (text_long h n) (reads i j l) = absurd (omega (arith, i.short))
  outcome_one (text_long h n) (word_wrong a w p r i j l m) = absurd (omega (arith, i.short))
  outcome_one (text_long h n) (end_wrong i j l m) = absurd (omega (arith, i.short))
  outcome_one (reads f x s) (store_short i) = absurd (omega (arith, f.roomy))
  outcome_one (reads f x s) (text_long i j) = absurd (omega (arith, f.short))
  outcome_one (reads {ins = ins} {outs = outs} f x s) (reads {ins = ins'} {outs = outs'} g y t) =
      let e = listed_one ins ins' outs outs' (sym s.says ∙ ap (map said) (words_one x y) ∙ t.says) in
      ap₂ served e.0 e.1
  outcome_one (reads f x s) (word_wrong a w p r g y b t) = absurd (served_wrong a w p r x s y t.0)
  outcome_one (reads {ins = ins} {outs = outs} f x s) (end_wrong g y b n) = absurd (n ins outs (subst (λ l. IsSignals (map said l) ins outs) (words_one x y) s))
  outcome_one (word_wrong a w p r f x b t) (store_short i) = absurd (omega (arith, f.roomy))
  outcome_one (word_wrong a w p r f x b t) (text_long i j) = absurd (omega (arith, f.short))
  outcome_one (word_wrong a w p r f x b t) (reads g y s) = absurd (served_wrong a w p r y s x t.0)
  outcome_one (word_wrong a v p c f x ba ta) (word_wrong b w q d g y bb tb) = two_words a v p c b w q d x ba ta y bb tb
  outcome_one (word_wrong a w p r f x b t) (end_wrong g y bb n) = absurd (end_word a w p r y bb x t.0)
  outcome_one (end_wrong f x b n) (store_short i) = absurd (omega (arith, f.roomy))
  outcome_one (end_wrong f x b n) (text_long i j) = absurd (omega (arith, f.short))
  outcome_one (end_wrong f x b n) (reads {ins = ins} {outs = outs} g y s) = absurd (n ins outs (subst (λ l. IsSignals (map said l) ins outs) (words_one y x) s))
  outcome_one (end_wrong f x b n) (word_wrong a w p r g y bb t) = absurd (end_word a w p r x b y t.0)
  outcome_one (end_wrong f x b n) (end_wrong g y bb m) = refl
