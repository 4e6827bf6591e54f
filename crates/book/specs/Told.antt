-- What the bytes of a book tell of a position, whatever bytes they are.
use Rattle.std.specs.Prelude.{ℕ, ◌+◌, cond, List, Some, None, Option, ◌==◌}
use Rattle.terms.specs.declared.count.Count.{Count}
use Rattle.terms.specs.declared.count.Count.TheVariants.{Lost, Limited, Unlimited}
use Rattle.terms.specs.Bytes.{byte, word}
use Rattle.arena.specs.Book.{entry_at}

-- the status flag of the record of p
abbrev pub flag_told : List ℕ → ℕ → ℕ
flag_told bs p = byte bs (entry_at p)

-- the count in the record of p: flag 1 says unlimited
abbrev pub count_told : List ℕ → ℕ → Count
count_told bs p = cond (flag_told bs p == 1) Unlimited (Limited (word bs (entry_at p + 4)))

abbrev pub spoiling_told : List ℕ → ℕ → Option ℕ
spoiling_told bs p = cond (flag_told bs p == 1) None (Some (byte bs (entry_at p + 6)))

abbrev pub answer_told : List ℕ → ℕ → ℕ → ℕ
answer_told bs p x = byte bs (entry_at p + (8 + x))

-- the count where a move leads: 0 is lost
abbrev pub count_in : List ℕ → ℕ → Count
count_in bs q = cond (q == 0) Lost (count_told bs q)
