-- A list of duty sets in an array, with zeros behind it.
-- Padded: the first n entries of an array are in use. padded: the array of a list. padded_back: it is the only one.
use Rattle.std.specs.Prelude.{◌≡◌, ℕ, ◌-◌, ◌≤◌, List, ◌++◌, length, take, drop, replicate}
use Rattle.std.proofs.Common.{sym, ap, ◌∙◌, arith}
use Rattle.std.proofs.lemmas.List.{length-take-le, take-append-drop}
use Rattle.compile.specs.declared.list.DutyList.TheInside.{Inside}

-- the first n of 32 entries are in use, and zeros stand behind them
pub record Padded (n : ℕ) (xs : List ℕ) : Type 0 where
  pub few : n ≤ 32
  pub long : length xs ≡ 32
  pub zeros : drop n xs ≡ replicate (32 - n) 0

-- a list with zeros behind it
abbrev pub padded : List ℕ → Inside
padded xs = record { len = length xs; sets = xs ++ replicate (32 - length xs) 0 }

pub padded_back : (a : Inside) → Padded a.len a.sets → padded (take a.len a.sets) ≡ a
padded_back a h =
    let few = h.few in
    let long = h.long in
    let front = take a.len a.sets in
    let count : length front ≡ a.len = length-take-le a.len a.sets (omega arith) in
    let back : front ++ replicate (32 - length front) 0 ≡ a.sets = ap (λ n. front ++ replicate (32 - n) 0) count ∙ ap (λ t. front ++ t) (sym h.zeros) ∙ take-append-drop a.len a.sets in
    λ j. record { len = count j; sets = back j }
