-- A store of positions with a move more, and with all of them.
use Rattle.std.proofs.Common.{◌≡◌, ℕ, suc, ◌+◌, ◌*◌, ◌^◌, ◌<◌, ◌≤◌, max, true, false, cond, ◌||◌, eqb, ltb, ◌≢◌, ◌⊎◌, List, [], ◌∷◌, ◌++◌, length, get_or, set, replicate, sym, refl, ap, ◌∙◌, subst, ap₂, subst₂, inl, inr, arith}
use Rattle.std.proofs.lemmas.List.{length-set, get_or-set_same, get_or-set_other, get_or-replicate, get_or_past, length-replicate, get_or_default, ext_get_or}
use Rattle.std.proofs.lemmas.Bool.{cond-true, cond-false, cond_both, lt-ltb, le-ltb, ltb-true, eq-eqb, ne_eqb, cases_lt, cases_eq, cases_Bool, both_ways}
use Rattle.arena.specs.Tally.{Played}
use Rattle.rules.specs.declared.part.Part.{Part}
use Rattle.rules.specs.Sets.{Sets, too_wide, sets}
use Rattle.rules.specs.Progress.{list_after}
use Rattle.terms.specs.Lists.{same_list}
use Rattle.rules.specs.Explore.{positions, among, met, lists}
use Rattle.rules.specs.Game.{number_from, position}
use Rattle.rules.proofs.CompileLaws.{Is, Grows, among_front, met_ok}
use Rattle.compile.specs.declared.position.Position.{Position}
use Rattle.compile.specs.Positions.{unused, entry_of, turn_at, Charted}
use Rattle.compile.specs.Charting.{known_in, Numbers, Stored, entered, Entry, with_move, list_next, Round, made, Charting}
use Rattle.compile.proofs.StoreLaws.{known_count, known_at}

-- how many moves a position has
pub made_here : (n p t : ℕ) → made n p t p ≡ t
made_here n p t = cond-false _ n _ (le-ltb p p (omega arith)) ∙ cond-true _ t 0 (eq-eqb p p refl)

made_before : (n p t k : ℕ) → k < p → made n p t k ≡ n
made_before n p t k h = cond-true _ n _ (lt-ltb k p h)

made_behind : (n p t k : ℕ) → p < k → made n p t k ≡ 0
made_behind n p t k h = cond-false _ n _ (le-ltb k p (omega arith)) ∙ cond-false _ t 0 (ne_eqb k p (λ e. omega arith))

made_other : (n p t u k : ℕ) → k ≢ p → made n p t k ≡ made n p u k
made_other n p t u k h = ap (cond (ltb k p) n) (cond-false _ t 0 (ne_eqb k p h) ∙ sym (cond-false _ u 0 (ne_eqb k p h)))

-- a position with all its moves is one of those before the next
made_next : (n p k : ℕ) → made n p n k ≡ made n (p + 1) 0 k
made_next n p k = go (cases_lt k p) (cases_eq k p)
  where
    go : (k < p) ⊎ (p ≤ k) → (k ≡ p) ⊎ (k ≡ p → ⊥) → made n p n k ≡ made n (p + 1) 0 k
    go (inl h) e = made_before n p n k h ∙ sym (made_before n (p + 1) 0 k (omega arith))
    go (inr h) (inl e) = ap (made n p n) e ∙ made_here n p n ∙ sym (made_before n (p + 1) 0 k (omega arith))
    go (inr h) (inr e) =
        made_behind n p n k (omega arith)
        ∙ sym (cond-false _ n _ (le-ltb k (p + 1) (omega arith)) ∙ cond_both (eqb k (p + 1)) 0 0 (λ z. z ≡ 0) (λ x. refl) (λ x. refl))

zeros_at : (n s : ℕ) → get_or {A = ℕ} (replicate n 0) s 0 ≡ 0
zeros_at n s = go (cases_lt s n)
  where
    go : (s < n) ⊎ (n ≤ s) → get_or {A = ℕ} (replicate n 0) s 0 ≡ 0
    go (inl h) = get_or-replicate n s 0 0 h
    go (inr h) = get_or_past {X = ℕ} (replicate n 0) s 0 (omega (arith, length-replicate {A = ℕ} n 0))

-- the number of a known list stays
number_front : (k : ℕ) (known rest : List (List ℕ)) (s : List ℕ) → among known s ≡ true → number_from (suc k) (known ++ rest) s ≡ number_from (suc k) known s
unfolding number_from
number_front k [] rest s e = absurd (both_ways false refl e)
number_front k (t ∷ ts) rest s e = elim (cases_Bool (same_list t s)) [
  | inl h ↦ cond-true _ (suc k) _ h ∙ sym (cond-true _ (suc k) _ h)
  | inr h ↦ cond-false _ (suc k) _ h ∙ number_front (suc k) ts rest s (subst (λ b. (b || among ts s) ≡ true) h e) ∙ sym (cond-false _ (suc k) _ h)
]

numbers_grow : (a b : List (List ℕ)) (s : Sets) (n : ℕ) → Grows a b → Numbers a s n → Numbers b s n
numbers_grow a b too_wide n g h = h
numbers_grow a b (sets []) n g h = h
numbers_grow a b (sets (x ∷ xs)) n g h =
    subst (λ t. Numbers t (sets (x ∷ xs)) n) (sym g.1) (among_front a g.0 (x ∷ xs) h.0, number_front 0 a g.0 (x ∷ xs) h.0 ∙ h.1)

-- and it is the position
pub numbers_position : (known : List (List ℕ)) (s : Sets) (n : ℕ) → Numbers known s n → n ≡ position known s
unfolding position
numbers_position known too_wide n h = absurd h
numbers_position known (sets []) n h = h
numbers_position known (sets (x ∷ xs)) n h = sym h.1

-- a position with all its places for moves
abbrev Whole : Position → Type 0
Whole e = length e.moves ≡ 256

entry_whole : (l : List ℕ) → Whole (entry_of l)
entry_whole l = length-replicate {A = ℕ} 256 0

-- a store with a list more
module _ (used : ℕ) (l : List ℕ) (n : ℕ) (store : List Position) where
  pub entered_length : length (entered used l n store) ≡ length store
  entered_length = cond_both (ltb used n) (set store used (entry_of l)) store (λ s. length s ≡ length store) (λ e. length-set store used (entry_of l)) (λ e. refl)

  entered_old : (k : ℕ) → k < used → get_or (entered used l n store) k unused ≡ get_or store k unused
  entered_old k h =
      let ne : k ≢ used = λ e. omega arith in
      cond_both (ltb used n) (set store used (entry_of l)) store (λ s. get_or s k unused ≡ get_or store k unused) (λ e. get_or-set_other store used k (entry_of l) unused ne) (λ e. refl)

  entered_new : used < length store → used < n → get_or (entered used l n store) used unused ≡ entry_of l
  entered_new h lt = ap (λ s. get_or s used unused) (cond-true _ _ _ (lt-ltb used n lt)) ∙ get_or-set_same store used (entry_of l) unused h

  entered_rest : (k : ℕ) → max used n ≤ k → n ≤ suc used → get_or (entered used l n store) k unused ≡ get_or store k unused
  entered_rest k h next =
      cond_both (ltb used n) (set store used (entry_of l)) store (λ s. get_or s k unused ≡ get_or store k unused)
      (λ e. let lt = ltb-true used n e in let ne : k ≢ used = λ f. omega arith in get_or-set_other store used k (entry_of l) unused ne)
      (λ e. refl)

-- a store with a move more
module _ (p t n : ℕ) (store : List Position) (lt : p < length store) where
  move_here : get_or (with_move p t n store) p unused ≡ record { list = (get_or store p unused).list; moves = set (get_or store p unused).moves t n }
  move_here = get_or-set_same store p _ unused lt

  move_other : (k : ℕ) → k ≢ p → get_or (with_move p t n store) k unused ≡ get_or store k unused
  move_other k ne = get_or-set_other store p k _ unused ne

  move_list : (k : ℕ) → (get_or (with_move p t n store) k unused).list ≡ (get_or store k unused).list
  move_list k = elim (cases_eq k p) [
    | inl e ↦ ap (λ j. (get_or (with_move p t n store) j unused).list) e ∙ ap (λ x. x.list) move_here ∙ ap (λ j. (get_or store j unused).list) (sym e)
    | inr e ↦ ap (λ x. x.list) (move_other k e)
  ]

  -- a move changes no list
  pub move_known : (used : ℕ) → used ≤ length store → known_in used (with_move p t n store) ≡ known_in used store
  move_known used fits =
      let long : used ≤ length (with_move p t n store) = omega (arith, length-set store p (record { list = (get_or store p unused).list; moves = set (get_or store p unused).moves t n })) in
      let count = known_count used (with_move p t n store) long in
      ext_get_or [] _ _ (count ∙ sym (known_count used store fits))
      (λ k h. let kl : k < used = omega arith in known_at used (with_move p t n store) k long kl ∙ move_list k ∙ sym (known_at used store k fits kl))

-- the list that was made from what was read at p
pub next_is : (o : ℕ) (ps : List Part) (p t : ℕ) (store : List Position) (d : Position) (r : Played) (s : Sets) → p < length store → r ≡ turn_at o t → list_after ps r (sets (get_or store p d).list) ≡ s → list_next o ps p t store ≡ s
next_is o ps p t store d r s lt e is = sym (ap₂ (λ x (y : Position). list_after ps x (sets y.list)) e (get_or_default store p d unused lt)) ∙ is

-- the round of a list that was entered
pub round_from : (o : ℕ) (ps : List Part) (used p t : ℕ) (store after : List Position) (l : List ℕ) (n : ℕ) → Stored used store → p < used → list_next o ps p t store ≡ sets l → Entry used l store after n
    → Round o ps used p t store (with_move p t n after) n
round_from o ps used p t store after l n stored lt leads e =
    let length-is : length after ≡ length store = ap length e.holds ∙ entered_length used l n store in
    let fits : max used n ≤ length after = omega (arith, e.few, stored.room, stored.long) in
    let here : p < length after = omega (arith, stored.room, stored.long) in
    let same = move_known p t n after here (max used n) fits in
    record {
      l = l;
      few = e.few;
      next = e.next;
      is = ap (met (suc p) (known_in used store)) leads ∙ e.is (suc p) ∙ ap positions (sym same);
      number = subst₂ (λ ks s. Numbers ks s n) (sym same) (sym leads) e.number;
      holds = ap (with_move p t n) e.holds;
    }

module _ (n o : ℕ) (ps : List Part) where
  -- one move more
  module _ (used p t : ℕ) (store after : List Position) (m : ℕ) (chart : Charting n o ps used p t store) (lt : p < used) (in-moves : t < 256) (round : Round o ps used p t store after m) where
    abbrev l : List ℕ
    l = round.l

    abbrev mid : List Position
    mid = entered used l m store

    mid_long : length mid ≡ length store
    mid_long = entered_length used l m store

    in_mid : p < length mid
    in_mid = omega (arith, mid_long, chart.stored.room, chart.stored.long)

    at_here : get_or after p unused ≡ record { list = (get_or store p unused).list; moves = set (get_or store p unused).moves t m }
    at_here =
        ap (λ s. get_or s p unused) round.holds ∙ move_here p t m mid in_mid
        ∙ ap (λ (e : Position). let x : Position = record { list = e.list; moves = set e.moves t m } in x) (entered_old used l m store p lt)

    at_other : (k : ℕ) → k ≢ p → get_or after k unused ≡ get_or mid k unused
    at_other k ne = ap (λ s. get_or s k unused) round.holds ∙ move_other p t m mid in_mid k ne

    at_old : (k : ℕ) → k < used → k ≢ p → get_or after k unused ≡ get_or store k unused
    at_old k h ne = at_other k ne ∙ entered_old used l m store k h

    at_new : used < m → get_or after used unused ≡ entry_of l
    at_new h = at_other used (λ e. omega arith) ∙ entered_new used l m store (omega (arith, chart.stored.long, round.few)) h

    at_rest : (k : ℕ) → max used m ≤ k → get_or after k unused ≡ unused
    at_rest k h = at_other k (λ e. omega arith) ∙ entered_rest used l m store k h round.next ∙ chart.rest k (omega arith)

    list_old : (k : ℕ) → k < used → (get_or after k unused).list ≡ (get_or store k unused).list
    list_old k h = elim (cases_eq k p) [
      | inl e ↦ ap (λ j. (get_or after j unused).list) e ∙ ap (λ x. x.list) at_here ∙ ap (λ j. (get_or store j unused).list) (sym e)
      | inr e ↦ ap (λ x. x.list) (at_old k h e)
    ]

    -- the list of the position that is left stays
    pub list_kept : (get_or after p unused).list ≡ (get_or store p unused).list
    list_kept = list_old p lt

    next_old : (k s : ℕ) → k < used → list_next o ps k s store ≡ list_next o ps k s after
    next_old k s h = ap (λ (x : List ℕ). list_after ps (turn_at o s) (sets x)) (sym (list_old k h))

    grows : Grows (known_in used store) (known_in (max used m) after)
    grows =
        let count = known_count used store (omega (arith, chart.stored.room, chart.stored.long)) in
        subst (Grows (known_in used store)) (ap lists round.is) (met_ok (suc p) (known_in used store) (list_next o ps p t store) (omega (arith, chart.stored.room)) (subst Is (sym round.is) tt)).0

    -- what stands at k
    data EntryAt (k : ℕ) : Type 0 where
      left : k ≡ p → EntryAt k
      old : k < used → (k ≡ p → ⊥) → EntryAt k
      new : k ≡ used → used < m → EntryAt k

    entry_at : (k : ℕ) → k < max used m → EntryAt k
    entry_at k h = go (cases_lt k used) (cases_eq k p)
      where
        go : (k < used) ⊎ (used ≤ k) → (k ≡ p) ⊎ (k ≡ p → ⊥) → EntryAt k
        go a (inl e) = left e
        go (inl a) (inr e) = old a e
        go (inr a) (inr e) = new (omega (arith, round.next)) (omega arith)

    whole_more : (k : ℕ) → EntryAt k → Whole (get_or after k unused)
    whole_more k (left e) =
        subst (λ j. Whole (get_or after j unused)) (sym e) (subst Whole (sym at_here) (length-set (get_or store p unused).moves t m ∙ chart.stored.whole p lt))
    whole_more k (old h e) = subst Whole (sym (at_old k h e)) (chart.stored.whole k h)
    whole_more k (new e h) = subst (λ j. Whole (get_or after j unused)) (sym e) (subst Whole (sym (at_new h)) (entry_whole l))

    moves_here : (s : ℕ) → get_or (get_or after p unused).moves s 0 ≡ get_or (set (get_or store p unused).moves t m) s 0
    moves_here s = ap (λ (x : Position). get_or x.moves s 0) at_here

    abbrev MovesAt : ℕ → ℕ → Type 0
    MovesAt k s = Numbers (known_in (max used m) after) (list_next o ps k s after) (get_or (get_or after k unused).moves s 0)

    -- an earlier move stays right
    stays : (k s : ℕ) → k < used → s < made n p t k → get_or (get_or after k unused).moves s 0 ≡ get_or (get_or store k unused).moves s 0 → MovesAt k s
    stays k s h d is =
        subst₂ (Numbers (known_in (max used m) after)) (next_old k s h) (sym is)
        (numbers_grow (known_in used store) (known_in (max used m) after) (list_next o ps k s store) (get_or (get_or store k unused).moves s 0) grows (chart.moves k s h d))

    left_moves : (s : ℕ) → s < t + 1 → MovesAt p s
    left_moves s h = go (cases_eq s t)
      where
        go : (s ≡ t) ⊎ (s ≡ t → ⊥) → MovesAt p s
        go (inl e) =
            let is : get_or (get_or after p unused).moves t 0 ≡ m = moves_here t ∙ get_or-set_same (get_or store p unused).moves t m 0 (omega (arith, chart.stored.whole p lt)) in
            subst (MovesAt p) (sym e) (subst₂ (Numbers (known_in (max used m) after)) (next_old p t lt) (sym is) round.number)
        go (inr e) = stays p s lt (omega (arith, made_here n p t)) (moves_here s ∙ get_or-set_other (get_or store p unused).moves t s m 0 e)

    moves_more : (k s : ℕ) → EntryAt k → s < made n p (t + 1) k → MovesAt k s
    moves_more k s (left e) d = subst (λ j. MovesAt j s) (sym e) (left_moves s (omega (arith, ap (made n p (t + 1)) e, made_here n p (t + 1))))
    moves_more k s (old h e) d = stays k s h (omega (arith, made_other n p t (t + 1) k e)) (ap (λ (x : Position). get_or x.moves s 0) (at_old k h e))
    moves_more k s (new e h) d = absurd (omega (arith, made_behind n p (t + 1) k (omega arith)))

    no_moves_more : (k s : ℕ) → EntryAt k → made n p (t + 1) k ≤ s → get_or (get_or after k unused).moves s 0 ≡ 0
    no_moves_more k s (left e) d =
        let late : t + 1 ≤ s = omega (arith, ap (made n p (t + 1)) e, made_here n p (t + 1)) in
        ap (λ j. get_or (get_or after j unused).moves s 0) e ∙ moves_here s
        ∙ get_or-set_other (get_or store p unused).moves t s m 0 (λ f. omega arith) ∙ chart.no_moves p s lt (omega (arith, made_here n p t))
    no_moves_more k s (old h e) d = ap (λ (x : Position). get_or x.moves s 0) (at_old k h e) ∙ chart.no_moves k s h (omega (arith, made_other n p t (t + 1) k e))
    no_moves_more k s (new e h) d =
        ap (λ j. get_or (get_or after j unused).moves s 0) e ∙ ap (λ (x : Position). get_or x.moves s 0) (at_new h) ∙ zeros_at 256 s

    pub chart_more : Charting n o ps (max used m) p (t + 1) after
    chart_more = record {
      stored = record {
        room = omega (arith, round.few, chart.stored.room);
        long = omega (arith, chart.stored.long, mid_long, ap length round.holds, length-set mid p (record { list = (get_or mid p unused).list; moves = set (get_or mid p unused).moves t m }));
        whole = λ k h. whole_more k (entry_at k h);
      };
      moves = λ k s h d. moves_more k s (entry_at k h) d;
      no_moves = λ k s h d. no_moves_more k s (entry_at k h) d;
      rest = at_rest;
    }

  -- a position with all its moves
  pub chart_next : (used p : ℕ) (store : List Position) → Charting n o ps used p n store → Charting n o ps used (p + 1) 0 store
  chart_next used p store chart = record {
    stored = chart.stored;
    moves = λ k s h d. chart.moves k s h (omega (arith, made_next n p k));
    no_moves = λ k s h d. chart.no_moves k s h (omega (arith, made_next n p k));
    rest = chart.rest;
  }

  -- a zero store with its first list
  pub chart_first : (l : List ℕ) (store : List Position) → length store ≡ 255 → ((k : ℕ) → get_or store k unused ≡ unused) → Charting n o ps 1 0 0 (set store 0 (entry_of l))
  chart_first l store room zeros =
      let at : get_or (set store 0 (entry_of l)) 0 unused ≡ entry_of l = get_or-set_same store 0 (entry_of l) unused (omega arith) in
      let only : (k : ℕ) → k < 1 → get_or (set store 0 (entry_of l)) k unused ≡ entry_of l = λ k h. let e : k ≡ 0 = omega arith in ap (λ j. get_or (set store 0 (entry_of l)) j unused) e ∙ at in
      record {
        stored = record {
          room = omega arith;
          long = length-set store 0 (entry_of l) ∙ room;
          whole = λ k h. subst Whole (sym (only k h)) (entry_whole l);
        };
        moves = λ k s h d. let e : k ≡ 0 = omega arith in absurd (omega (arith, ap (made n 0 0) e, made_here n 0 0));
        no_moves = λ k s h d. ap (λ (x : Position). get_or x.moves s 0) (only k h) ∙ zeros_at 256 s;
        rest = λ k h. get_or-set_other store 0 k (entry_of l) unused (λ e. omega arith) ∙ zeros k;
      }

-- every position has its moves
pub chart_done : (i o : ℕ) (ps : List Part) (used p : ℕ) (store : List Position) → used ≤ p → Charting (2 ^ i * 2 ^ o) o ps used p 0 store → Charted i o ps (known_in used store) store
chart_done i o ps used p store done chart =
    let fits : used ≤ length store = omega (arith, chart.stored.room, chart.stored.long) in
    let count = known_count used store fits in
    let all : (k : ℕ) → k < length (known_in used store) → (k < used) × (made (2 ^ i * 2 ^ o) p 0 k ≡ 2 ^ i * 2 ^ o) = λ k h. (omega arith, made_before (2 ^ i * 2 ^ o) p 0 k (omega arith)) in
    record {
      lists = λ k h. sym (known_at used store k fits (all k h).0);
      moves = λ k t h d.
          numbers_position (known_in used store) (list_next o ps k t store) (get_or (get_or store k unused).moves t 0) (chart.moves k t (all k h).0 (omega (arith, (all k h).1)))
          ∙ ap (λ xs. position (known_in used store) (list_after ps (turn_at o t) (sets xs))) (sym (known_at used store k fits (all k h).0));
      no_moves = λ k t h d. chart.no_moves k t (all k h).0 (omega (arith, (all k h).1));
      rest = λ k h. chart.rest k (omega arith);
    }

-- a store with zeros behind it
pub chart_longer : (i o : ℕ) (ps : List Part) (known : List (List ℕ)) (store rest : List Position) → ((k : ℕ) → get_or (store ++ rest) k unused ≡ get_or store k unused) → Charted i o ps known store → Charted i o ps known (store ++ rest)
chart_longer i o ps known store rest same c = record {
  lists = λ k h. ap (λ (e : Position). e.list) (same k) ∙ c.lists k h;
  moves = λ k t h d. ap (λ (e : Position). get_or e.moves t 0) (same k) ∙ c.moves k t h d;
  no_moves = λ k t h d. ap (λ (e : Position). get_or e.moves t 0) (same k) ∙ c.no_moves k t h d;
  rest = λ k h. same k ∙ c.rest k h;
}
