-- A round that is like an earlier one has its move.
use Rattle.std.proofs.Common.{◌≡◌, ℕ, suc, ◌+◌, ◌*◌, ◌/◌, ◌%◌, ◌^◌, ◌<◌, ◌≤◌, max, List, [], ◌∷◌, length, get_or, sym, refl, ap, ◌∙◌, subst, subst₂, arith, pow_pos, pow_mono, mul-le-mul}
use Rattle.std.proofs.Math.Nat.{div-lt_iff_lt-mul, div-le_self, mod-le, mod-lt}
use lib.Arith.{digits_div, digits_mod}
use lib.Bits.{bit_and, and_le_l}
use Rattle.std.proofs.lemmas.Bool.{cond-true, cond-false, cond_both, le-ltb}
use Rattle.rules.specs.declared.part.Part.{Part}
use Rattle.rules.specs.Sets.{Sets, too_wide, sets}
use Rattle.terms.specs.Lists.{same_list}
use Rattle.rules.specs.Explore.{positions, met}
use Rattle.rules.specs.Game.{number_from}
use Rattle.compile.specs.declared.mask.Mask.{Mask}
use Rattle.compile.specs.declared.position.Position.{Position}
use Rattle.compile.specs.Positions.{unused, turn_number, turn_at}
use Rattle.arena.specs.Tally.{Played}
use Rattle.rules.specs.Rule.{bit}
use Rattle.rules.proofs.BitLaws.{bit_of_and}
use Rattle.compile.specs.Reads.{Alike, Small, Agree}
use Rattle.compile.specs.Charting.{known_in, Numbers, with_move, list_next, Round, Charting}
use Rattle.compile.proofs.ReadsLaws.{agree_shown}
use Rattle.compile.proofs.StoreLaws.{in_store, known_count}
use Rattle.compile.proofs.ChartLaws.{made_here, move_known}

-- the numbers of a round in range
pub round_few : (i o t : ℕ) → i ≤ 4 → o ≤ 4 → t < 2 ^ i * 2 ^ o → (t < 256) × ((t / 2 ^ o < 16) × (t % 2 ^ o < 2 ^ o))
round_few i o t a b l =
    let x : 2 ^ i ≤ 2 ^ 4 = pow_mono a in
    let y : 2 ^ o ≤ 2 ^ 4 = pow_mono b in
    let all : 2 ^ i * 2 ^ o ≤ 2 ^ 4 * 2 ^ 4 = mul-le-mul x y in
    let quotient : t / 2 ^ o < 2 ^ i = (div-lt_iff_lt-mul {k = 2 ^ o} {x = t} {y = 2 ^ i} (pow_pos o)).1 l in
    (omega arith, (omega arith, mod-lt t (pow_pos o)))

-- a round and the one with all signals off that a mask has not
pub shown_agrees : (m : Mask) (o t x y u : ℕ) → t < 256 → x ≡ bit_and (t / 2 ^ o) m.inputs → y ≡ bit_and (t % 2 ^ o) m.outputs → u ≡ turn_number o x y → Agree m (turn_at o t) (turn_at o u)
shown_agrees m o t x y u few e f is =
    let low : y < 2 ^ o = omega (arith, f, and_le_l (t % 2 ^ o) m.outputs, mod-lt t (pow_pos o)) in
    agree_shown m (turn_at o t) (turn_at o u) (omega (arith, div-le_self t (2 ^ o)), omega (arith, mod-le t (2 ^ o)))
    (ap (λ n. n / 2 ^ o) is ∙ digits_div x low ∙ e)
    (ap (λ n. n % 2 ^ o) is ∙ digits_mod x low ∙ f)

number_most : (k : ℕ) (known : List (List ℕ)) (s : List ℕ) → number_from (suc k) known s ≤ k + length known
unfolding number_from
number_most k [] s = omega arith
number_most k (t ∷ ts) s = cond_both (same_list t s) (suc k) (number_from (suc (suc k)) ts s) (λ n. n ≤ k + suc (length ts)) (λ e. omega arith) (λ e. omega (arith, number_most (suc k) ts s))

-- a list with a number is known, or lost: no position comes to those that are known
numbers_few : (known : List (List ℕ)) (s : Sets) (n : ℕ) → Numbers known s n → n ≤ length known
numbers_few known too_wide n h = absurd h
numbers_few known (sets []) n h = omega (arith, h)
numbers_few known (sets (x ∷ xs)) n h = omega (arith, h.1, number_most 0 known (x ∷ xs))

numbers_met : (p : ℕ) (known : List (List ℕ)) (s : Sets) (n : ℕ) → Numbers known s n → met p known s ≡ positions known
numbers_met p known too_wide n h = absurd h
numbers_met p known (sets []) n h = refl
numbers_met p known (sets (x ∷ xs)) n h = cond-true _ _ _ h.0

-- the move of round u, which leads to the list that round t leads to, is the move of round t
pub round_alike : (n o : ℕ) (ps : List Part) (used p t u : ℕ) (store : List Position) (m : ℕ) → Charting n o ps used p t store → p < used → u < t → list_next o ps p u store ≡ list_next o ps p t store
    → m ≡ get_or (get_or store p unused).moves u 0 → (used ≡ max used m) × Round o ps used p t store (with_move p t m store) m
round_alike n o ps used p t u store m chart lt before same is =
    let fits : used ≤ length store = omega (arith, chart.stored.room, chart.stored.long) in
    let known = known_in used store in
    let number : Numbers known (list_next o ps p t store) m = subst₂ (Numbers known) same (sym is) (chart.moves p u lt (omega (arith, made_here n p t))) in
    let few : m ≤ used = omega (arith, numbers_few known (list_next o ps p t store) m number, known_count used store fits) in
    let most : used ≡ max used m = omega arith in
    let stays : known ≡ known_in (max used m) (with_move p t m store) = sym (move_known p t m store (in_store used p store chart.stored lt) used fits) ∙ ap (λ z. known_in z (with_move p t m store)) most in (
      most,
      record {
        l = [];
        few = omega (arith, chart.stored.room);
        next = omega arith;
        is = numbers_met (suc p) known (list_next o ps p t store) m number ∙ ap positions stays;
        number = subst (λ ks. Numbers ks (list_next o ps p t store) m) stays number;
        holds = ap (with_move p t m) (sym (cond-false _ _ _ (le-ltb used m few)));
      },
    )

bit_few : (a k : ℕ) → bit a k ≤ 1
bit_few a k = omega arith

alike_from : (n a b : ℕ) → bit_and a n ≡ bit_and b n → Alike n a b
alike_from n a b same k has = omega (arith, bit_of_and a n k, bit_of_and b n k, ap (λ z. bit z k) same, has, bit_few a k, bit_few b k)

-- rounds that look alike with all other signals off agree
pub hidden : (m : Mask) (r s : Played) → Small r → Small s → bit_and r.input m.inputs ≡ bit_and s.input m.inputs → bit_and r.output m.outputs ≡ bit_and s.output m.outputs → Agree m r s
hidden m r s small tiny x y = record {
  small = (small, tiny);
  input = alike_from m.inputs r.input s.input x;
  output = alike_from m.outputs r.output s.output y;
}
