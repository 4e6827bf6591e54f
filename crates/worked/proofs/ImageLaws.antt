-- The diagram of the examples is well formed: its records in their chains, one by one.
use Rattle.std.proofs.Common.{◌≡◌, ℕ, zero, suc, ◌+◌, ◌<◌, ◌≤◌, List, [], ◌∷◌, ◌≢◌, ◌⊎◌, refl, sym, ap, ap₂, ◌∙◌, subst, inl, inr, leb-true, ltb-true, arith}
use Rattle.std.proofs.lemmas.Bool.{cases_eq}
use Rattle.arena.specs.Arena.{Arena, Place, Sound}
use Rattle.arena.proofs.DiagramLaws.{drawn_sound}
use Rattle.arena.proofs.DrawnLaws.{drawn_draws, draws_once}
use Rattle.terms.specs.Bytes.{byte, word}
use Rattle.terms.specs.declared.shape.Shape.{Shape}
use Rattle.arena.specs.Diagram.{shape_of, record_at, input_of, output_of, Record, HeaderRight, RecordRight, Fielded, Chain, In, Linked, Repeats, Unrepeated, WellFormed, Draws, drawn}
use Rattle.arena.proofs.ChainLaws.{chain_once, unrepeated_none, unrepeated_push}
use Rattle.worked.specs.Worked.{image}

abbrev shape : Shape
shape = shape_of image

-- what holds of records 1, 2 and 3 holds of each
three : (P : ℕ → Type 0) → P 1 → P 2 → P 3 → (r : ℕ) → Record shape r → P r
three P a b c zero i = absurd (let l = i.0 in omega arith)
three P a b c (suc zero) i = a
three P a b c (suc (suc zero)) i = b
three P a b c (suc (suc (suc zero))) i = c
three P a b c (suc (suc (suc (suc r)))) i = absurd (let l : suc (suc (suc (suc r))) ≤ 3 = i.1 in omega arith)

header : (k : ℕ) → HeaderRight image k
header k = record {
  inputs = λ _. leb-true 1 4 refl;
  outputs = λ _. leb-true 1 4 refl;
  size = λ _. leb-true 1 2 refl;
  start = λ _. (leb-true 1 1 refl, leb-true 1 2 refl);
  records = λ _. leb-true 3 4000 refl;
  alignment = λ _. refl;
}

-- a fact of a field stands wherever the field is
at : (P : ℕ → Type 0) (field : ℕ → ℕ) → P (field 1) → P (field 2) → P (field 3) → (k r : ℕ) → Record shape r → k ≡ field r → P k
at P field a b c k r i e = subst P (sym e) (three (λ q. P (field q)) a b c r i)

fields : (k : ℕ) → RecordRight shape image k
fields k = record {
  input = λ r i e. at (λ j. byte image j < 2) (λ q. record_at shape q) (ltb-true 0 2 refl) (ltb-true 1 2 refl) (ltb-true 0 2 refl) k r i e;
  output = λ r i e. at (λ j. byte image j < 2) (λ q. record_at shape q + 1) (ltb-true 0 2 refl) (ltb-true 1 2 refl) (ltb-true 0 2 refl) k r i e;
  destination = λ r i e. at (λ j. (1 ≤ byte image j) × (byte image j ≤ 2)) (λ q. record_at shape q + 2) (leb-true 1 1 refl, leb-true 1 2 refl) (leb-true 1 2 refl, leb-true 2 2 refl) (leb-true 1 1 refl, leb-true 1 2 refl) k r i e;
  gap = λ r i e. at (λ j. byte image j ≡ 0) (λ q. record_at shape q + 3) refl refl refl k r i e;
  tail = λ r i e. at (λ j. word image j ≡ 0) (λ q. record_at shape q + 6) refl refl refl k r i e;
}

fielded : Fielded image
fielded = record {
  measured = record { headed = record { whole = leb-true 8 36 refl; right = header }; long = refl };
  right = fields;
}

record_1 : Record shape 1
record_1 = (leb-true 1 1 refl, leb-true 1 3 refl)

record_2 : Record shape 2
record_2 = (leb-true 1 2 refl, leb-true 2 3 refl)

record_3 : Record shape 3
record_3 = (leb-true 1 3 refl, leb-true 3 3 refl)

first_chain : Chain shape image 1 (1 ∷ 2 ∷ [])
first_chain = (24, (refl, record_1, (refl, record_2, refl)), refl)

second_chain : Chain shape image 2 (3 ∷ [])
second_chain = (32, (refl, record_3, refl), refl)

linked : Linked image (1 ∷ 2 ∷ 3 ∷ [])
linked = record {
  fielded = fielded;
  chains = (1 ∷ 2 ∷ [], 3 ∷ [], ([], 1 ∷ 2 ∷ [], refl, first_chain, refl), second_chain, refl);
  apart = (λ h. elim h [ inl e ↦ omega arith | inr i ↦ elim i [ inl e ↦ omega arith | inr j ↦ absurd j ] ], ((λ h. elim h [ inl e ↦ omega arith | inr j ↦ absurd j ]), ((λ h. h), tt)));
  reached = three (λ r. In r (1 ∷ 2 ∷ 3 ∷ [])) (inl refl) (inr (inl refl)) (inr (inr (inl refl)));
}

-- record 2 is for another input than record 1
fresh : Repeats shape image 2 (1 ∷ []) → ⊥
fresh (q, inl e, input, output) = let same : ◌≡◌ {A = ℕ} 0 1 = ap (λ r. input_of shape image r) (sym e) ∙ input in omega arith
fresh (q, inr i, input, output) = i

unrepeated : (p : ℕ) (rs : List ℕ) → 1 ≤ p → p ≤ 2 → Chain shape image p rs → Unrepeated shape image rs
unrepeated zero rs l m c = absurd (omega arith)
unrepeated (suc zero) rs l m c =
    subst (Unrepeated shape image) (chain_once shape image 1 (1 ∷ 2 ∷ []) rs first_chain c)
    (unrepeated_push shape image (1 ∷ []) 2 (unrepeated_push shape image [] 1 (unrepeated_none shape image) (λ h. h.1)) fresh)
unrepeated (suc (suc zero)) rs l m c =
    subst (Unrepeated shape image) (chain_once shape image 2 (3 ∷ []) rs second_chain c)
    (unrepeated_push shape image [] 3 (unrepeated_none shape image) (λ h. h.1))
unrepeated (suc (suc (suc p))) rs l m c = absurd (omega arith)

pub image_formed : WellFormed image
image_formed = record { records = 1 ∷ 2 ∷ 3 ∷ []; linked = linked; unrepeated = unrepeated }

-- the one game that it draws is the one that is drawn of its bytes
pub image_draws : (a : Arena) → Sound a → Draws image a → a ≡ drawn shape image
image_draws a s d = draws_once image image_formed a (drawn shape image) s (drawn_sound shape image) d (drawn_draws image image_formed (leb-true 2 255 refl))
