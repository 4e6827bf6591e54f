-- What is held: it can be decided, it shrinks with the rounds, and once nothing is dropped nothing ever is.
use Rattle.std.proofs.Common.{ℕ, zero, suc, ◌+◌, ◌^◌, ◌≤◌, Bool, true, false, ◌&&◌, ◌||◌, leb, Decides, refl, suc-add, zero-add, arith}
use native.Mathlib.Decide.{le_ind}
use Rattle.std.proofs.lemmas.Bool.Decides.{nat_tests, Decides-and, Decides-below_and, Decides-below_or}
use Rattle.arena.specs.Arena.{Arena, Place}
use Rattle.arena.specs.Held.{Settled, Answered, Keeps, Held}

-- held, computed
abbrev every_below : ℕ → (ℕ → Bool) → Bool
every_below zero f = true
every_below (suc n) f = f n && every_below n f

abbrev some_below : ℕ → (ℕ → Bool) → Bool
some_below zero f = false
some_below (suc n) f = f n || some_below n f

abbrev keeps : Arena → (ℕ → Bool) → ℕ → Bool
keeps a f p = every_below (2 ^ a.inputs) (λ x. some_below (2 ^ a.outputs) (λ y. f (a.move p x y)))

unfoldable pub held : Arena → ℕ → ℕ → Bool
held a zero p = leb 1 p && leb p a.size
held a (suc k) p = (leb 1 p && leb p a.size) && keeps a (held a k) p

place_decides : (a : Arena) (p : ℕ) → Decides (leb 1 p && leb p a.size) (Place a p)
place_decides a p = grind (arith, nat_tests)

keeps_decides : (a : Arena) (f : ℕ → Bool) (H : ℕ → Type 0) → ((q : ℕ) → Decides (f q) (H q)) → (p : ℕ) → Decides (keeps a f p) (Keeps a H p)
keeps_decides a f H each p =
    Decides-below_and _ (Answered a H p) (λ n. every_below n (λ x. some_below (2 ^ a.outputs) (λ y. f (a.move p x y))))
    (λ x. Decides-below_or _ (λ y. H (a.move p x y)) (λ n. some_below n (λ y. f (a.move p x y))) (λ y. each (a.move p x y)) refl (λ _. refl) (2 ^ a.outputs))
    refl (λ _. refl) (2 ^ a.inputs)

pub held_decides : (a : Arena) (k p : ℕ) → Decides (held a k p) (Held a k p)
unfolding held Held
held_decides a zero p = place_decides a p
held_decides a (suc k) p = Decides-and _ _ (place_decides a p) (keeps_decides a (held a k) (Held a k) (held_decides a k) p)

-- held for k + 1 is held for k
pub held_less : (a : Arena) (k p : ℕ) → Held a (suc k) p → Held a k p
unfolding Held
held_less a zero p h = h.0
held_less a (suc k) p h = (h.0, λ x l. let n = h.1 x l in (n.0, n.1, held_less a k _ n.2))

-- what is held is a position
pub held_place : (a : Arena) (k p : ℕ) → Held a k p → Place a p
unfolding Held
held_place a zero p h = h
held_place a (suc k) p h = h.0

-- held for k rounds is held for fewer
pub held_down : (a : Arena) (j k p : ℕ) → j ≤ k → Held a k p → Held a j p
held_down a j k p l = le_ind {n = j} (λ m. Held a m p → Held a j p) (λ h. h) (λ m _ ih h. ih (held_less a m p h)) k l

-- once no position is dropped, none ever is
settled_next : (a : Arena) (k : ℕ) → Settled a k → Settled a (suc k)
unfolding Held
settled_next a k s p h = (h.0, λ x l. let n = h.1 x l in (n.0, n.1, s _ n.2))

settled_more : (a : Arena) (k : ℕ) → Settled a k → (i : ℕ) → Settled a (i + k)
settled_more a k s zero = rw zero-add s
settled_more a k s (suc i) = rw suc-add (settled_next a (i + k) (settled_more a k s i))

settled_up : (a : Arena) (k : ℕ) → Settled a k → (i p : ℕ) → Held a k p → Held a (i + k) p
settled_up a k s zero p h = rw zero-add h
settled_up a k s (suc i) p h = rw suc-add (settled_more a k s i p (settled_up a k s i p h))

pub settled_stays : (a : Arena) (k : ℕ) → Settled a k → (j p : ℕ) → Held a k p → Held a j p
settled_stays a k s j p h = held_down a j (j + k) p (omega arith) (settled_up a k s j p h)
