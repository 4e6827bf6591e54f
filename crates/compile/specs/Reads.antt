-- Which signals of a round what comes of it reads.
-- none, digit, mask_of, joined, reads_from: the masks of nothing, of a signal, of two things, of a part from its sides.
-- Agree: rounds that are alike in the signals of a mask. Covers: a mask has every signal that is read. Readings: masks of
-- parts. readings_prop: it says that in one way at most, as a fact of a struct must.
use Rattle.std.specs.Prelude.{◌≡◌, ℕ, ◌^◌, ◌<◌, cond, List, length, bit_or, nat_lt, slice_index_or}
use Rattle.std.specs.Coded.{Coded-set, Π_prop, coded_ℕ}
use Rattle.arena.specs.Tally.{Played}
use Rattle.rules.specs.declared.part.Part.{Part}
use Rattle.rules.specs.declared.part.Part.TheVariants.{True, False, Literal, Next, Release, Both, Either}
use Rattle.rules.specs.declared.part.Signal.{Signal}
use Rattle.rules.specs.declared.part.Signal.TheVariants.{Input, Output}
use Rattle.rules.specs.Rule.{bit}
use Rattle.rules.specs.Sets.{Sets}
use Rattle.rules.specs.Progress.{part_after}
use Rattle.compile.specs.declared.mask.Mask.{Mask}
use Rattle.compile.specs.Known.{sets_coded}

abbrev pub none : Mask
none = record { inputs = 0; outputs = 0 }

-- the digit of a signal; a signal past the eighth is never on, so that nothing is read there
abbrev pub digit : ℕ → ℕ
digit k = cond (nat_lt k 8) (2 ^ k) 0

abbrev pub mask_of : Signal → Mask
mask_of (Input k) = record { inputs = digit k; outputs = 0 }
mask_of (Output k) = record { inputs = 0; outputs = digit k }

abbrev pub joined : Mask → Mask → Mask
joined m n = record { inputs = bit_or m.inputs n.inputs; outputs = bit_or m.outputs n.outputs }

-- what a part reads in a round, from what its sides read: an X part waits for the next one
abbrev pub reads_from : (ℕ → Mask) → Part → Mask
reads_from f True = none
reads_from f False = none
reads_from f (Literal s want) = mask_of s
reads_from f (Next a) = none
reads_from f (Release a b) = joined (f a) (f b)
reads_from f (Both a b) = joined (f a) (f b)
reads_from f (Either a b) = joined (f a) (f b)

-- numbers with the same digits where m has ones
abbrev pub Alike : ℕ → ℕ → ℕ → Type 0
Alike m a b = (k : ℕ) → bit m k ≡ 1 → bit a k ≡ bit b k

-- a round whose numbers have eight digits
abbrev pub Small : Played → Type 0
Small r = (r.input < 256) × (r.output < 256)

pub record Agree (m : Mask) (r s : Played) : Type 0 where
  pub small : Small r × Small s
  pub input : Alike m.inputs r.input s.input
  pub output : Alike m.outputs r.output s.output

-- what comes of a round is the same in rounds that agree
abbrev pub Covers : Mask → (Played → Sets) → Type 0
Covers m f = (r s : Played) → Agree m r s → f r ≡ f s

-- the mask of each of the first n parts
abbrev pub Reading : ℕ → List Part → List Mask → Type 0
Reading n ps masks = (k : ℕ) → k < n → Covers (slice_index_or masks k none) (λ r. part_after ps r k)

-- the mask of each part
pub record Readings (ps : List Part) (masks : List Mask) : Type 0 where
  pub long : length masks ≡ 64
  pub reads : Reading (length ps) ps masks

pub readings_prop : (ps : List Part) (masks : List Mask) → IsProp (Readings ps masks)
readings_prop ps masks a b = λ j. record {
  long = Coded-set coded_ℕ (length masks) 64 a.long b.long j;
  reads = Π_prop (λ k. Π_prop (λ h. Π_prop (λ r. Π_prop (λ s. Π_prop (λ g. Coded-set sets_coded (part_after ps r k) (part_after ps s k)))))) a.reads b.reads j;
}
