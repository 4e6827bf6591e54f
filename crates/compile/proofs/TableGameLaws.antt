-- The game of a store that holds a compiled rule is the rule's game.
use Rattle.std.proofs.Common.{◌≡◌, ℕ, zero, suc, ◌-◌, ◌^◌, ◌<◌, ◌≤◌, min, true, false, cond, ◌&&◌, ◌||◌, ltb, leb, List, [], ◌∷◌, length, get_or, sym, ap, ◌∙◌, subst, ap₂, ⊎_elim, arith, pow_mono}
use lib.Arith.{digits_lt, digits_div, digits_mod}
use lib.ListN.{get_or-eq_default}
use Rattle.std.proofs.lemmas.List.{get_or-replicate, length-replicate}
use Rattle.std.proofs.lemmas.Bool.{cases_lt, or_parts, or_cases, ltb-true, cond-true, cond-false, and_from, lt-ltb, le-leb, lt-leb}
use Rattle.arena.specs.Arena.{Arena, Sound, beyond}
use Rattle.arena.specs.Tabled.{fitting}
use Rattle.arena.proofs.RangeLaws.{in_range, range_within}
use Rattle.arena.proofs.TabledLaws.{fitting_from, tabled_sound, inside_fits, offered_all}
use Rattle.arena.specs.Tally.{Played}
use Rattle.rules.specs.declared.part.Part.{Part}
use Rattle.rules.specs.Rule.{Rule}
use Rattle.rules.specs.Sets.{Sets, too_wide, sets}
use Rattle.rules.specs.Table.{parts_of}
use Rattle.rules.specs.Progress.{list_after}
use Rattle.rules.specs.Explore.{positions, compiled, lists, start}
use Rattle.rules.specs.Game.{position, rule_move, game}
use Rattle.rules.proofs.CompileLaws.{Is, Grows, start_of, found}
use Rattle.rules.proofs.GameLaws.{game_sound}
use Rattle.compile.specs.declared.position.Position.{Position}
use Rattle.compile.specs.Positions.{unused, turn_number, turn_at, Charted}
use Rattle.compile.specs.declared.compiled.Compiled.{Compiled}
use Rattle.compile.specs.TableGame.{move_in, arena_in}

-- at most four signals make at most 16 numbers
pub few_numbers : (o : ℕ) → o ≤ 4 → 2 ^ o ≤ 16
few_numbers o l = pow_mono l

-- the unused entry moves nowhere
pub unused_move : (t : ℕ) → get_or unused.moves t 0 ≡ 0
unused_move t = ⊎_elim (λ l. get_or-replicate 256 t 0 0 l) (λ l. get_or-eq_default unused.moves 0 (subst (λ n. n ≤ t) (sym (length-replicate {A = ℕ} 256 0)) l)) (cases_lt t 256)

-- nor does what the store has no entry for
pub no_entry : (o : ℕ) (store : List Position) (p x y : ℕ) → length store ≤ p - 1 → move_in o store p x y ≡ 0
no_entry o store p x y l =
    let e : get_or store (p - 1) unused ≡ unused = get_or-eq_default store unused l in
    ap (λ (q : Position). get_or q.moves (turn_number o x y) 0) e ∙ unused_move (turn_number o x y)

-- a question out of range is answered lost
pub answered_lost : (c : Compiled) (store : List Position) (n i o p x y : ℕ) → n ≡ (arena_in c store).size → i ≡ (arena_in c store).inputs → o ≡ (arena_in c store).outputs
    → (ltb 4 i || (ltb 4 o || beyond n i o p x y)) ≡ true → (arena_in c store).move p x y ≡ 0
answered_lost c store n i o p x y a b d e =
    let s = (tabled_sound c.positions c.inputs c.outputs (move_in c.outputs store)).walks in
    let beyond-is : beyond n i o p x y ≡ true = ⊎_elim
    (λ t. absurd (omega (arith, ltb-true 4 i t, s.few_in)))
    (λ t. ⊎_elim (λ u. absurd (omega (arith, ltb-true 4 o u, s.few_out))) (λ u. u) (or_cases (ltb 4 o) (beyond n i o p x y) t))
    (or_cases (ltb 4 i) (ltb 4 o || beyond n i o p x y) e) in
    let at : beyond (arena_in c store).size (arena_in c store).inputs (arena_in c store).outputs p x y ≡ true = cc in
    cond-true _ 0 _ at

-- a question in range is put to the store
pub record Asked (c : Compiled) (store : List Position) (n o p x y : ℕ) : Type 0 where
  pub few : o ≤ 4
  pub low : 1 ≤ p
  pub input : x < 16
  pub output : y < 2 ^ o
  pub answered : (arena_in c store).move p x y ≡ cond (leb (move_in o store p x y) n) (move_in o store p x y) 0

pub answered_found : (c : Compiled) (store : List Position) (n i o p x y : ℕ) → n ≡ (arena_in c store).size → i ≡ (arena_in c store).inputs → o ≡ (arena_in c store).outputs
    → (ltb 4 i || (ltb 4 o || beyond n i o p x y)) ≡ false → Asked c store n o p x y
answered_found c store n i o p x y a b d e =
    let s = (tabled_sound c.positions c.inputs c.outputs (move_in c.outputs store)).walks in
    let inside : beyond n i o p x y ≡ false = (or_parts (ltb 4 o) (beyond n i o p x y) (or_parts (ltb 4 i) (ltb 4 o || beyond n i o p x y) e).1).1 in
    let at : beyond (arena_in c store).size (arena_in c store).inputs (arena_in c store).outputs p x y ≡ false = cc in
    let fits = inside_fits c.positions c.inputs c.outputs p x y at in
    let n-is : n ≡ c.positions = a ∙ offered_all c.positions c.inputs c.outputs c.positions fits in
    let o_is : o ≡ c.outputs = d ∙ offered_all c.positions c.inputs c.outputs c.outputs fits in
    let w = in_range n i o p x y inside in
    record {
      few = omega (arith, s.few_out);
      low = w.0;
      input = omega (arith, w.2, few_numbers i (omega (arith, s.few_in)));
      output = w.3;
      answered = cond-false _ 0 _ at ∙ ap (λ k. cond (leb (move_in k store p x y) c.positions) (move_in k store p x y) 0) (sym o_is) ∙ ap (λ k. cond (leb (move_in o store p x y) k) (move_in o store p x y) 0) (sym n-is);
    }

-- an answer of the store is the move where it is a position, and else the move is lost
pub asked_within : (c : Compiled) (store : List Position) (n o p x y q : ℕ) → Asked c store n o p x y → q ≡ move_in o store p x y → q ≤ n → q ≡ (arena_in c store).move p x y
asked_within c store n o p x y q w e l = e ∙ sym (w.answered ∙ cond-true _ _ 0 (le-leb _ n (subst (λ k. k ≤ n) e l)))

pub asked_above : (c : Compiled) (store : List Position) (n o p x y q : ℕ) → Asked c store n o p x y → q ≡ move_in o store p x y → n < q → 0 ≡ (arena_in c store).move p x y
asked_above c store n o p x y q w e l = sym (w.answered ∙ cond-false _ _ 0 (lt-leb _ n (subst (λ k. n < k) e l)))

-- the round of a round's number
turn_back : (o x y : ℕ) → y < 2 ^ o → turn_at o (turn_number o x y) ≡ record { input = x; output = y }
turn_back o x y l = ap₂ (λ (a b : ℕ). let r : Played = record { input = a; output = b } in r) (digits_div x l) (digits_mod x l)

-- compiling finds the start
known_some : (s : Sets) (known : List (List ℕ)) → Is (start s) → Grows (lists (start s)) known → 1 ≤ length known
known_some too_wide known h g = absurd h
known_some (sets []) known h g = absurd h
known_some (sets (x ∷ xs)) known h g = omega (arith, ap length g.1)

-- two sound games of the same numbers that agree in range agree everywhere
agree : (a b : Arena) → Sound a → Sound b → a.size ≡ b.size → a.inputs ≡ b.inputs → a.outputs ≡ b.outputs
    → ((q x y : ℕ) → q < b.size → x < 2 ^ b.inputs → y < 2 ^ b.outputs → a.move (suc q) x y ≡ b.move (suc q) x y) → (p x y : ℕ) → a.move p x y ≡ b.move p x y
agree a b s t e f g h zero x y = s.walks.from_lost x y ∙ sym (t.walks.from_lost x y)
agree a b s t e f g h (suc q) x y = ⊎_elim
    (λ l. ⊎_elim
    (λ m. ⊎_elim (λ n. h q x y l m n) (λ n. s.walks.past_output (suc q) x y (subst (λ k. 2 ^ k ≤ y) (sym g) n) ∙ sym (t.walks.past_output (suc q) x y n)) (cases_lt y (2 ^ b.outputs)))
    (λ m. s.walks.past_input (suc q) x y (subst (λ k. 2 ^ k ≤ x) (sym f) m) ∙ sym (t.walks.past_input (suc q) x y m))
    (cases_lt x (2 ^ b.inputs)))
    (λ l. s.sized.past_size (suc q) x y (omega arith) ∙ sym (t.sized.past_size (suc q) x y (omega arith)))
    (cases_lt q b.size)

-- the move in the store is the rule's
stored_move : (i o : ℕ) (ps : List Part) (known : List (List ℕ)) (store : List Position) → Charted i o ps known store → (q x y : ℕ) → q < length known → x < 2 ^ i → y < 2 ^ o
    → move_in o store (suc q) x y ≡ rule_move i o ps known (suc q) x y
unfolding rule_move
stored_move i o ps known store c q x y l m n =
    let back : suc q - 1 ≡ q = omega arith in
    ap (λ k. get_or (get_or store k unused).moves (turn_number o x y) 0) back
    ∙ c.moves q (turn_number o x y) l (digits_lt m n)
    ∙ ap (λ (r : Played). position known (list_after ps r (sets (get_or known q [])))) (turn_back o x y n)
    ∙ sym (cond-true (ltb x (2 ^ i) && ltb y (2 ^ o)) (position known (list_after ps (record { input = x; output = y }) (sets (get_or known q [])))) 0 (and_from (ltb x (2 ^ i)) (ltb y (2 ^ o)) (lt-ltb x (2 ^ i) m) (lt-ltb y (2 ^ o) n)))

-- a store that holds the positions of a rule is the rule's game
pub charted_game : (i o : ℕ) (f : Rule) (known : List (List ℕ)) (store : List Position) → i ≤ 4 → o ≤ 4 → compiled i o f ≡ positions known → Charted i o (parts_of f).table known store
    → arena_in (record { inputs = i; outputs = o; positions = length known }) store ≡ game i o f
unfolding game
charted_game i o f known store a b e c =
    let n = length known in
    let ps = (parts_of f).table in
    let w = found i o f known e in
    let some : 1 ≤ n = known_some (start_of f) known w.first w.grown in
    let fits : fitting n i o ≡ true = fitting_from n i o a b some w.short in
    let numbers : Compiled = record { inputs = i; outputs = o; positions = n } in
    let is : lists (compiled i o f) ≡ known = ap lists e in
    let s : Sound (arena_in numbers store) = tabled_sound n i o (move_in o store) in
    let t : Sound (game i o f) = game_sound i o f a b in
    let size_is : (arena_in numbers store).size ≡ (game i o f).size = offered_all n i o n fits ∙ sym (ap length is) in
    let in_is : (arena_in numbers store).inputs ≡ i = offered_all n i o i fits in
    let out-is : (arena_in numbers store).outputs ≡ o = offered_all n i o o fits in
    let start_is : (arena_in numbers store).start ≡ (game i o f).start = offered_all n i o 1 fits ∙ sym (ap (λ k. min 1 (length k)) is ∙ omega arith) in
    let here : (q x y : ℕ) → q < (game i o f).size → x < 2 ^ i → y < 2 ^ o → (arena_in numbers store).move (suc q) x y ≡ (game i o f).move (suc q) x y = λ q x y l m k.
    let l' : q < n = subst (λ z. q < z) (ap length is) l in
    let v = move_in o store (suc q) x y in
    let v-is : v ≡ rule_move i o ps (lists (compiled i o f)) (suc q) x y = stored_move i o ps known store c q x y l' m k ∙ sym (ap (λ z. rule_move i o ps z (suc q) x y) is) in
    let low : v ≤ n = omega (arith, v-is, t.sized.within (suc q) x y, ap length is) in
    let inside : beyond (arena_in numbers store).size (arena_in numbers store).inputs (arena_in numbers store).outputs (suc q) x y ≡ false =
    range_within (arena_in numbers store).size (arena_in numbers store).inputs (arena_in numbers store).outputs (suc q) x y (omega arith) (omega (arith, size_is, l)) (subst (λ z. x < 2 ^ z) (sym in_is) m) (subst (λ z. y < 2 ^ z) (sym out-is) k) in
    cond-false _ 0 (cond (leb v n) v 0) inside ∙ cond-true (leb v n) v 0 (le-leb v n low) ∙ v-is in
    let moves : (p x y : ℕ) → (arena_in numbers store).move p x y ≡ (game i o f).move p x y = agree (arena_in numbers store) (game i o f) s t size_is in_is out-is here in
    λ j. record { size = size_is j; inputs = in_is j; outputs = out-is j; start = start_is j; move = λ p x y. moves p x y j }
