-- A compiled rule as a game.
use Rattle.std.specs.Prelude.{ℕ, zero, suc, ◌^◌, min, cond, ◌&&◌, List, [], ◌∷◌, length, nat_lt, slice_index_or}
use Rattle.rules.specs.declared.part.Part.{Part}
use Rattle.rules.specs.Rule.{Rule}
use Rattle.rules.specs.Sets.{Sets, too_wide, sets}
use Rattle.rules.specs.Table.{parts_of}
use Rattle.rules.specs.Progress.{list_after}
use Rattle.terms.specs.Lists.{same_list}
use Rattle.rules.specs.Explore.{compiled, lists}
use Rattle.arena.specs.Arena.{Arena}

-- the number of the list s, where these positions number from k; 0 where it is none
unfoldable pub number_from : ℕ → List (List ℕ) → List ℕ → ℕ
number_from k [] s = 0
number_from k (t ∷ ts) s = cond (same_list t s) k (number_from (suc k) ts s)

-- the position of a list; the empty list is lost
unfoldable pub position : List (List ℕ) → Sets → ℕ
unfolding number_from
position known too_wide = 0
position known (sets []) = 0
position known (sets (x ∷ xs)) = number_from 1 known (x ∷ xs)

-- the move from position p by the input x and the output y
unfoldable pub rule_move : ℕ → ℕ → List Part → List (List ℕ) → ℕ → ℕ → ℕ → ℕ
unfolding position list_after
rule_move i o ps known zero x y = 0
rule_move i o ps known (suc q) x y =
    cond (nat_lt x (2 ^ i) && nat_lt y (2 ^ o)) (position known (list_after ps (record { input = x; output = y }) (sets (slice_index_or known q [])))) 0

-- the arena whose positions are the lists found; of size 0 where there are none
unfoldable pub game : ℕ → ℕ → Rule → Arena
unfolding compiled rule_move
game i o f =
    let known = lists (compiled i o f) in
    record { size = length known; inputs = i; outputs = o; start = min 1 (length known); move = rule_move i o (parts_of f).table known }
