-- What the steps of reading a diagram keep.
use Rattle.std.specs.Prelude.{◌≡◌, ℕ, suc, ◌+◌, ◌*◌, ◌<◌, ◌≤◌, Bool, true, false, ◌⊎◌, List, [], ◌∷◌, ◌++◌, slice_index_or}
use Rattle.terms.specs.declared.shape.Shape.{Shape}
use Rattle.terms.specs.declared.refusal.Refusal.{Refusal}
use Rattle.terms.specs.declared.refusal.Refusal.TheVariants.{DiagramField}
use Rattle.arena.specs.Diagram.{head_at, next_at, input_of, output_of, Record, RecordRight, First, Path, Chain, Chains, In, Distinct, Repeats, Unrepeated}
use Rattle.terms.specs.Bytes.{word}

-- the refusal of the field at the first place with P
abbrev pub RefusesFirst : (ℕ → Type 0) → Refusal → Type 0
RefusesFirst P e = (k : ℕ) × (e ≡ DiagramField k) × First P k

-- every field of a record that begins below the place k is right
abbrev pub RightBelow : Shape → List ℕ → ℕ → Type 0
RightBelow h bs k = (j : ℕ) → j < k → RecordRight h bs j

-- the marks are those of the records qs
pub record Marks (h : Shape) (marks : List Bool) (qs : List ℕ) : Type 0 where
  pub listed : (r : ℕ) → In r qs → Record h r × (slice_index_or marks r false ≡ true)
  pub marked : (r : ℕ) → Record h r → slice_index_or marks r false ≡ true → In r qs

-- the records along, from the head of p to the place k, are marked beside qs and all are apart
pub record Followed (h : Shape) (bs : List ℕ) (p : ℕ) (qs : List ℕ) (k : ℕ) (marks : List Bool) : Type 0 where
  pub along : List ℕ
  pub path : Path h bs (head_at p) along k
  pub apart : Distinct (qs ++ along)
  pub seen : Marks h marks (qs ++ along)

-- where the chain of p ends, with its records marked beside qs
pub record ChainWhole (h : Shape) (bs : List ℕ) (p : ℕ) (qs : List ℕ) (marks : List Bool) : Type 0 where
  pub records : List ℕ
  pub chain : Chain h bs p records
  pub apart : Distinct (qs ++ records)
  pub seen : Marks h marks (qs ++ records)

-- the index at k is wrong, behind the records qs and some of the chain of p
pub record ChainBroken (h : Shape) (bs : List ℕ) (p : ℕ) (qs : List ℕ) (k : ℕ) : Type 0 where
  pub along : List ℕ
  pub path : Path h bs (head_at p) along k
  pub apart : Distinct (qs ++ along)
  pub wrong : (h.records < word bs k) ⊎ In (word bs k) (qs ++ along)

-- the chains of the positions 1 to p, apart, with their records marked
pub record ChainsWhole (h : Shape) (bs : List ℕ) (p : ℕ) (marks : List Bool) : Type 0 where
  pub records : List ℕ
  pub chains : Chains h bs p records
  pub apart : Distinct records
  pub seen : Marks h marks records

-- an index at k is wrong, behind whole chains
pub record ChainsBroken (h : Shape) (bs : List ℕ) (k : ℕ) : Type 0 where
  pub position : ℕ
  pub more : position < h.size
  pub before : List ℕ
  pub chains : Chains h bs position before
  pub broken : ChainBroken h bs (suc position) before k

-- n is the number of the move of the record r, in rows of 16
pub record MoveNumber (h : Shape) (bs : List ℕ) (r n : ℕ) : Type 0 where
  pub input : input_of h bs r < 16
  pub output : output_of h bs r < 16
  pub is : n ≡ 16 * input_of h bs r + output_of h bs r

-- the marks are those of the moves of the records qs, a row for each input
pub record MovesMarked (h : Shape) (bs : List ℕ) (marks : List Bool) (qs : List ℕ) : Type 0 where
  pub listed : (q : ℕ) → In q qs → slice_index_or marks (16 * input_of h bs q + output_of h bs q) false ≡ true
  pub marked : (x y : ℕ) → x < 16 → y < 16 → slice_index_or marks (16 * x + y) false ≡ true → (q : ℕ) × In q qs × (input_of h bs q ≡ x) × (output_of h bs q ≡ y)

-- the records along, from the head of p to the place k, are for moves of their own, which are marked, and rest are the
-- records from there to the end of the chain
pub record Met (h : Shape) (bs : List ℕ) (p k : ℕ) (marks : List Bool) : Type 0 where
  pub along : List ℕ
  pub path : Path h bs (head_at p) along k
  pub seen : MovesMarked h bs marks along
  pub fresh : Unrepeated h bs along
  pub rest : List ℕ
  pub last : ℕ
  pub ahead : Path h bs k rest last
  pub ends : word bs last ≡ 0

-- the record r of the chain of p repeats one before it, and those before it do not
pub record ChainRepeats (h : Shape) (bs : List ℕ) (p r : ℕ) : Type 0 where
  pub along : List ℕ
  pub path : Path h bs (head_at p) (along ++ r ∷ []) (next_at h r)
  pub fresh : Unrepeated h bs along
  pub repeats : Repeats h bs r along

-- no chain of the positions 1 to p repeats a move
abbrev pub ChainsFresh : Shape → List ℕ → ℕ → Type 0
ChainsFresh h bs p = (q : ℕ) (rs : List ℕ) → 1 ≤ q → q ≤ p → Chain h bs q rs → Unrepeated h bs rs

-- the record r repeats a move, behind chains that do not
pub record ChainsRepeat (h : Shape) (bs : List ℕ) (r : ℕ) : Type 0 where
  pub position : ℕ
  pub more : position < h.size
  pub before : ChainsFresh h bs position
  pub repeats : ChainRepeats h bs (suc position) r
