-- A diagram: where its bytes stand, when they are well formed, why they are refused, and the game that they draw.
-- Chain: a position's records. WellFormed, Refused: the two outcomes of reading.
-- Draws: an arena is the drawn game. drawn: that arena, computed.
use Rattle.std.specs.Prelude.{◌≡◌, ℕ, zero, suc, ◌+◌, ◌-◌, ◌*◌, ◌^◌, ◌<◌, ◌≤◌, Bool, cond, ◌&&◌, ◌≢◌, ◌⊎◌, List, [], ◌∷◌, ◌++◌, length, ◌==◌, nat_le}
use Rattle.terms.specs.declared.shape.Shape.{Shape}
use Rattle.terms.specs.declared.refusal.Refusal.{Refusal}
use Rattle.terms.specs.declared.refusal.Refusal.TheVariants.{DiagramField, DiagramChain, DiagramRepeat}
use Rattle.arena.specs.Arena.{Arena, Place, beyond}
use Rattle.terms.specs.Bytes.{byte, word}

-- ---- where the bytes stand

-- the numbers in the header
abbrev pub shape_of : List ℕ → Shape
shape_of bs = record { inputs = byte bs 0; outputs = byte bs 1; size = byte bs 2; start = byte bs 3; records = word bs 4 }

-- the head of position p, an index of two bytes
abbrev pub head_at : ℕ → ℕ
head_at p = 8 + 2 * (p - 1)

-- record r, eight bytes, and in it the index of the next record
abbrev pub record_at : Shape → ℕ → ℕ
record_at h r = 8 + 2 * h.size + 8 * (r - 1)

abbrev pub next_at : Shape → ℕ → ℕ
next_at h r = record_at h r + 4

abbrev pub input_of : Shape → List ℕ → ℕ → ℕ
input_of h bs r = byte bs (record_at h r)

abbrev pub output_of : Shape → List ℕ → ℕ → ℕ
output_of h bs r = byte bs (record_at h r + 1)

abbrev pub destination_of : Shape → List ℕ → ℕ → ℕ
destination_of h bs r = byte bs (record_at h r + 2)

-- how long the whole is
abbrev pub full_length : Shape → ℕ
full_length h = 8 + 2 * h.size + 8 * h.records

-- records are numbered from 1
abbrev pub Record : Shape → ℕ → Type 0
Record h r = (1 ≤ r) × (r ≤ h.records)

-- ---- fields

-- the header's field that begins at the place k, if one does, is right
pub record HeaderRight (bs : List ℕ) (k : ℕ) : Type 0 where
  pub inputs : k ≡ 0 → (shape_of bs).inputs ≤ 4
  pub outputs : k ≡ 1 → (shape_of bs).outputs ≤ 4
  pub size : k ≡ 2 → 1 ≤ (shape_of bs).size
  pub start : k ≡ 3 → (1 ≤ (shape_of bs).start) × ((shape_of bs).start ≤ (shape_of bs).size)
  pub records : k ≡ 4 → (shape_of bs).records ≤ 4000
  pub alignment : k ≡ 6 → word bs 6 ≡ 0

-- the field of a record, but for its index, that begins at the place k, if one does, is right
pub record RecordRight (h : Shape) (bs : List ℕ) (k : ℕ) : Type 0 where
  pub input : (r : ℕ) → Record h r → k ≡ record_at h r → byte bs k < 2 ^ h.inputs
  pub output : (r : ℕ) → Record h r → k ≡ record_at h r + 1 → byte bs k < 2 ^ h.outputs
  pub destination : (r : ℕ) → Record h r → k ≡ record_at h r + 2 → (1 ≤ byte bs k) × (byte bs k ≤ h.size)
  pub gap : (r : ℕ) → Record h r → k ≡ record_at h r + 3 → byte bs k ≡ 0
  pub tail : (r : ℕ) → Record h r → k ≡ record_at h r + 6 → word bs k ≡ 0

-- the header is whole and right; then the length too; then all fields but the indices
pub record Headed (bs : List ℕ) : Type 0 where
  pub whole : 8 ≤ length bs
  pub right : (k : ℕ) → HeaderRight bs k

pub record Measured (bs : List ℕ) : Type 0 where
  pub headed : Headed bs
  pub long : length bs ≡ full_length (shape_of bs)

pub record Fielded (bs : List ℕ) : Type 0 where
  pub measured : Measured bs
  pub right : (k : ℕ) → RecordRight (shape_of bs) bs k

-- ---- chains

-- from the index at the place k the records rs are reached, one after the other, and then the index at the place j
abbrev pub Path : Shape → List ℕ → ℕ → List ℕ → ℕ → Type 0
Path h bs k [] j = k ≡ j
Path h bs k (r ∷ rs) j = (word bs k ≡ r) × Record h r × Path h bs (next_at h r) rs j

-- rs is the chain of position p: it begins at the position's head, and an index that is 0 ends it
abbrev pub Chain : Shape → List ℕ → ℕ → List ℕ → Type 0
Chain h bs p rs = (j : ℕ) × Path h bs (head_at p) rs j × (word bs j ≡ 0)

-- rs is made of the chains of the positions 1 to p, in turn
abbrev pub Chains : Shape → List ℕ → ℕ → List ℕ → Type 0
Chains h bs zero rs = rs ≡ []
Chains h bs (suc p) rs = (qs : List ℕ) × (ts : List ℕ) × Chains h bs p qs × Chain h bs (suc p) ts × (rs ≡ qs ++ ts)

-- r is one of rs
abbrev pub In : ℕ → List ℕ → Type 0
In r [] = ⊥
In r (q ∷ qs) = (r ≡ q) ⊎ In r qs

-- no number stands twice
abbrev pub Distinct : List ℕ → Type 0
Distinct [] = Unit {0}
Distinct (r ∷ rs) = (In r rs → ⊥) × Distinct rs

-- the chains of all positions share no record, and every record is in one: rs has them all
pub record Linked (bs rs : List ℕ) : Type 0 where
  pub fielded : Fielded bs
  pub chains : Chains (shape_of bs) bs (shape_of bs).size rs
  pub apart : Distinct rs
  pub reached : (r : ℕ) → Record (shape_of bs) r → In r rs

-- the record r is for the same input and output as one of qs
abbrev pub Repeats : Shape → List ℕ → ℕ → List ℕ → Type 0
Repeats h bs r qs = (q : ℕ) × In q qs × (input_of h bs q ≡ input_of h bs r) × (output_of h bs q ≡ output_of h bs r)

-- no record of rs repeats an earlier one
abbrev pub Unrepeated : Shape → List ℕ → List ℕ → Type 0
Unrepeated h bs rs = (qs : List ℕ) (r : ℕ) (ts : List ℕ) → rs ≡ qs ++ r ∷ ts → Repeats h bs r qs → ⊥

pub record WellFormed (bs : List ℕ) : Type 0 where
  pub records : List ℕ
  pub linked : Linked bs records
  pub unrepeated : (p : ℕ) (rs : List ℕ) → 1 ≤ p → p ≤ (shape_of bs).size → Chain (shape_of bs) bs p rs → Unrepeated (shape_of bs) bs rs

-- ---- refusals

-- k is the first number with P
abbrev pub First : (ℕ → Type 0) → ℕ → Type 0
First P k = P k × ((j : ℕ) → j < k → P j → ⊥)

-- a field or the length is wrong: the bytes end in the header, a header field is wrong, the length is not what the
-- header says, or a record's field is wrong; a wrong length is its own place
pub data FieldWrong (bs : List ℕ) (k : ℕ) : Type 0 where
  cut : length bs < 8 → k ≡ length bs → FieldWrong bs k
  header : 8 ≤ length bs → First (λ j. HeaderRight bs j → ⊥) k → FieldWrong bs k
  misfit : Headed bs → length bs ≢ full_length (shape_of bs) → k ≡ length bs → FieldWrong bs k
  field : Measured bs → First (λ j. RecordRight (shape_of bs) bs j → ⊥) k → FieldWrong bs k

-- an index is wrong, the first one in the order of the chains: it stands at k, behind the whole chains of the
-- positions before (the records before) and behind the records along of its own chain, which are all apart; and it
-- names no record, or one of these
pub record IndexWrong (bs : List ℕ) (k : ℕ) : Type 0 where
  pub fielded : Fielded bs
  pub position : ℕ
  pub more : position < (shape_of bs).size
  pub before : List ℕ
  pub along : List ℕ
  pub chains : Chains (shape_of bs) bs position before
  pub path : Path (shape_of bs) bs (head_at (suc position)) along k
  pub apart : Distinct (before ++ along)
  pub wrong : ((shape_of bs).records < word bs k) ⊎ In (word bs k) (before ++ along)

-- all chains are right, and the record at k is the lowest that none of them reaches
pub record Unreached (bs : List ℕ) (k : ℕ) : Type 0 where
  pub fielded : Fielded bs
  pub records : List ℕ
  pub chains : Chains (shape_of bs) bs (shape_of bs).size records
  pub apart : Distinct records
  pub missed : ℕ
  pub first : First (λ r. Record (shape_of bs) r × (In r records → ⊥)) missed
  pub at : k ≡ record_at (shape_of bs) missed

-- all records are in one chain each, and the record at k is the first, in the order of the chains, that repeats
-- another of its chain: those of the positions before do not, nor do those along its own chain
pub record Repeated (bs : List ℕ) (k : ℕ) : Type 0 where
  pub records : List ℕ
  pub linked : Linked bs records
  pub position : ℕ
  pub more : position < (shape_of bs).size
  pub before : (p : ℕ) (rs : List ℕ) → 1 ≤ p → p ≤ position → Chain (shape_of bs) bs p rs → Unrepeated (shape_of bs) bs rs
  pub along : List ℕ
  pub again : ℕ
  pub path : Path (shape_of bs) bs (head_at (suc position)) (along ++ again ∷ []) (next_at (shape_of bs) again)
  pub fresh : Unrepeated (shape_of bs) bs along
  pub repeats : Repeats (shape_of bs) bs again along
  pub at : k ≡ record_at (shape_of bs) again

-- why an image is refused
pub data Refused (bs : List ℕ) (e : Refusal) : Type 0 where
  field : (k : ℕ) → e ≡ DiagramField k → FieldWrong bs k → Refused bs e
  index : (k : ℕ) → e ≡ DiagramChain k → IndexWrong bs k → Refused bs e
  unreached : (k : ℕ) → e ≡ DiagramChain k → Unreached bs k → Refused bs e
  repeated : (k : ℕ) → e ≡ DiagramRepeat k → Repeated bs k → Refused bs e

-- ---- the drawn game

-- a is the game that the image draws: a move is the destination of the record for it in the position's chain, and a
-- move without a record is lost
pub record Draws (bs : List ℕ) (a : Arena) : Type 0 where
  pub size : a.size ≡ (shape_of bs).size
  pub inputs : a.inputs ≡ (shape_of bs).inputs
  pub outputs : a.outputs ≡ (shape_of bs).outputs
  pub start : a.start ≡ (shape_of bs).start
  pub move : (p : ℕ) (rs : List ℕ) (r : ℕ) → Place a p → Chain (shape_of bs) bs p rs → In r rs → a.move p (input_of (shape_of bs) bs r) (output_of (shape_of bs) bs r) ≡ destination_of (shape_of bs) bs r
  pub no_move : (p : ℕ) (rs : List ℕ) (x y : ℕ) → Place a p → Chain (shape_of bs) bs p rs → ((r : ℕ) → In r rs → input_of (shape_of bs) bs r ≡ x → output_of (shape_of bs) bs r ≢ y) → a.move p x y ≡ 0

-- the destination for x and y, from the index at the place k on and within so many records; a destination that is
-- no position is lost
unfoldable pub sought : Shape → List ℕ → ℕ → ℕ → ℕ → ℕ → ℕ
sought h bs zero k x y = 0
sought h bs (suc left) k x y =
    cond (nat_le 1 (word bs k) && nat_le (word bs k) h.records)
    (cond (input_of h bs (word bs k) == x && output_of h bs (word bs k) == y)
    (cond (nat_le (destination_of h bs (word bs k)) h.size) (destination_of h bs (word bs k)) 0)
    (sought h bs left (next_at h (word bs k)) x y))
    0

-- whether the numbers of a header can be a game's
unfoldable pub drawable : Shape → Bool
drawable h = (nat_le h.inputs 4 && nat_le h.outputs 4) && ((nat_le 1 h.start && nat_le h.start h.size) && nat_le h.size 255)

-- a number of the header, or 0 where the header can be no game's
abbrev pub told : Shape → ℕ → ℕ
told h n = cond (drawable h) n 0

-- what a diagram of this header and these bytes means, whatever they are; a header whose numbers can be no game's draws size 0
abbrev pub drawn : Shape → List ℕ → Arena
drawn h bs = record {
  size = told h h.size;
  inputs = told h h.inputs;
  outputs = told h h.outputs;
  start = told h h.start;
  move = λ p x y. cond (beyond (told h h.size) (told h h.inputs) (told h h.outputs) p x y) 0 (sought h bs h.records (head_at p) x y);
}
