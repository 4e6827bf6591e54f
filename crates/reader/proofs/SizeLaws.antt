-- The size of a rule whose parts are entered, and the store that it leaves.
use Rattle.std.proofs.Common.{◌≡◌, ℕ, zero, suc, ◌+◌, ◌-◌, ◌<◌, ◌≤◌, Bool, true, false, cond, List, [], ◌∷◌, ◌++◌, length, get_or, take, drop, replicate, count_by, Some, Ok, Err, Result, IsErrAnd, sym, refl, ap, ◌∙◌, subst, ap₂, arith, length-append}
use Rattle.std.proofs.lemmas.List.{drop-replicate, length-replicate}
use Rattle.std.proofs.lemmas.List.Recursion.{is_count_by}
use Rattle.std.proofs.Math.Seq.{take-append_seam}
use Rattle.terms.specs.declared.refusal.Refusal.{Refusal}
use Rattle.terms.specs.declared.refusal.Refusal.TheVariants.{RuleTooLarge}
use Rattle.terms.specs.Refusals as refusals
use Rattle.rules.specs.declared.part.Part.{Part}
use Rattle.rules.specs.declared.part.Part.TheVariants.{True}
use Rattle.rules.specs.Rule.{Rule}
use Rattle.rules.specs.Parts.{is_duty, duty_number}
use Rattle.rules.specs.Table.{parts_of}
use Rattle.rules.proofs.TableLaws.{parts_right}
use Rattle.reader.specs.declared.read.Reading.{Reading}
use Rattle.reader.specs.Grammar.{Names, Reads}
use Rattle.reader.specs.Faults.{tree, refusal}
use Rattle.reader.specs.Texts.{parts_in, duties_in, Sized, RuleText, Served, TextComes}
use Rattle.reader.specs.Entries as entries
use Rattle.reader.specs.Entries.{Numbered, Enters}
use Rattle.reader.specs.declared.descent.Source.{Source}
use Rattle.reader.specs.Steps.{saids, text_of, names_of}
use Rattle.reader.proofs.TextLaws.{reads_text, large_text}

pub none_duties : (ps : List Part) → duty_number ps 0 ≡ 0
unfolding duty_number
none_duties [] = refl
none_duties (x ∷ ps) = refl

-- one part more
pub duty_more : (ps : List Part) (k : ℕ) → k < length ps → duty_number ps (k + 1) ≡ cond (is_duty (get_or ps k True)) 1 0 + duty_number ps k
unfolding duty_number
duty_more [] k l = absurd (omega arith)
duty_more (x ∷ ps) zero l = ap (λ d. cond (is_duty x) 1 0 + d) (none_duties ps)
duty_more (x ∷ ps) (suc k) l =
    let s : suc k + 1 ≡ suc (k + 1) = omega arith in
    ap (duty_number (x ∷ ps)) s ∙ ap (λ d. cond (is_duty x) 1 0 + d) (duty_more ps k (omega arith)) ∙ omega arith

-- how many parts are duties
one_more : (b : Bool) (n : ℕ) → cond b 1 0 + n ≡ cond b (1 + n) n
one_more true n = refl
one_more false n = omega arith

duties_counted : (ps : List Part) → duty_number ps (length ps) ≡ count_by is_duty ps
unfolding duty_number
duties_counted ps = is_count_by (λ qs. duty_number qs (length qs)) is_duty refl (λ x qs. one_more (is_duty x) (duty_number qs (length qs))) ps

module _ (f : Rule) {table parts : List Part} {root duties : ℕ} (entered : Enters [] f table (Some root)) (all : parts ≡ table) (counted : duties ≡ count_by is_duty parts) where
  -- the table and the root of a rule whose parts were entered
  table_is : Numbered table (Some root) (parts_of f) → (table ≡ (parts_of f).table) × (root ≡ (parts_of f).number)
  table_is (entries.all a n) = (a, cc)
  table_is (entries.over n m) = cc

  duties_are : duties ≡ duties_in f
  duties_are = counted ∙ ap (count_by is_duty) (all ∙ (table_is entered).0) ∙ sym (duties_counted (parts_of f).table)

  -- such a rule fits, or has too many duties
  pub fits : duties ≤ 32 → length table ≤ 64 → Sized table f (Ok (record { parts = length parts; duties = duties; root = root }))
  fits l m =
      let t = table_is entered in
      (record { parts = omega (arith, ap length t.0); duties = omega (arith, duties_are) }, ap length (all ∙ t.0), duties_are, t.1, t.0)

  pub large : 32 < duties → Sized table f (Err RuleTooLarge)
  large l = (λ s. omega (arith, s.duties, duties_are), refl)

-- what is left in the store of a rule that is served: its table, copied over zero entries
pub leaves : {known : Names} {text : List ℕ} {room : ℕ} {table copied parts zeros : List Part} {r : Reading} {f : Rule} → 64 ≤ room → RuleText known text (tree f) → Sized table f (Ok r)
    → copied ≡ parts → parts ≡ table → zeros ≡ replicate room True → Served known text (copied ++ drop (length parts) zeros) r
leaves {room = room} {copied = copied} {parts} {zeros} {f = f} l is s a b z =
    let t : parts ≡ (parts_of f).table = b ∙ s.4 in
    let n : length parts ≡ parts_in f = ap length t in
    let rest : drop (length parts) zeros ≡ replicate (room - parts_in f) True = ap₂ drop n z ∙ drop-replicate (parts_in f) room True in
    let whole : copied ++ drop (length parts) zeros ≡ (parts_of f).table ++ replicate (room - parts_in f) True = ap₂ ◌++◌ (a ∙ t) rest in
    let long : length (copied ++ drop (length parts) zeros) ≡ room = ap length whole ∙ omega (arith, length-append (parts_of f).table (replicate (room - parts_in f) True), length-replicate (room - parts_in f) True, s.0.parts) in
    record {
      said_rule = f;
      is = is;
      small = s.0;
      formed = record { falls = (parts_right f).0; duties = s.0.duties };
      parts_are = s.1;
      duties_are = s.2;
      root_is = s.3;
      store_is = whole ∙ ap (λ m. (parts_of f).table ++ replicate (m - parts_in f) True) (sym long);
    }

-- a store that was cleared is zero
pub zeros : (store : List Part) {after : List Part} → after ≡ replicate (length store) True → after ≡ replicate (length after) True
zeros store e = e ∙ ap (λ n. replicate n True) (sym (ap length e ∙ length-replicate (length store) True))

-- a store that was cleared behind the table of a rule holds it and zero entries
pub cleared : {known : Names} {text : List ℕ} {room : ℕ} {table copied parts after : List Part} (rest : List Part) {r : Reading} {f : Rule} → 64 ≤ room → RuleText known text (tree f) → Sized table f (Ok r)
    → copied ≡ parts → parts ≡ table → length (copied ++ rest) ≡ room → after ≡ take r.parts (copied ++ rest) ++ replicate (length (copied ++ rest) - r.parts) True → Served known text after r
cleared {known} {text} {room} {table} {copied} {parts} {after} rest {r} {f} l is s a b long e =
    let n : r.parts ≡ length parts = s.1 ∙ ap length (sym (b ∙ s.4)) in
    let front : take r.parts (copied ++ rest) ≡ copied = ap (λ k. take k (copied ++ rest)) (n ∙ ap length (sym a)) ∙ take-append_seam copied rest in
    let back : replicate (length (copied ++ rest) - r.parts) True ≡ drop (length parts) (replicate room True) = ap₂ (λ m k. replicate (m - k) True) long n ∙ sym (drop-replicate (length parts) room True) in
    subst (λ x. Served known text x r) (sym (e ∙ ap₂ ◌++◌ front back)) (leaves l is s a b refl)

-- a rule that reads and is not measured is too large
pub too_large : {known : Names} {text : List ℕ} (f : Rule) (e : Refusal) (table : List Part) → length text ≤ 1024 → Reads known 32 (saids text 0) f → Sized table f (Err e) → RuleText known text (refusal (refusals.number e) (refusals.place e))
too_large {known} {text} f e table h d s = subst (λ x. RuleText known text (refusal (refusals.number x) (refusals.place x))) (sym s.1) (large_text known text f h d s.0)

-- a text that is refused
pub refused : (s : Source) (table : List Part) (r : Result Reading Refusal) (x : Refusal) → IsErrAnd r (λ y. y ≡ x) → RuleText (names_of s) (text_of s) (refusal (refusals.number x) (refusals.place x)) → TextComes s table r
refused s table (Ok y) x h w = absurd h
refused s table (Err y) x h w = subst (λ e. RuleText (names_of s) (text_of s) (refusal (refusals.number e) (refusals.place e))) (sym h) w

-- what a text that reads comes to, by the rule's size
pub sized_text : (s : Source) (table : List Part) (f : Rule) → length (text_of s) ≤ 1024 → Reads (names_of s) 32 (saids (text_of s) 0) f → (r : Result Reading Refusal) → Sized table f r → TextComes s table r
sized_text s table f l d (Ok r) z = (f, reads_text (names_of s) (text_of s) f l d z.0, z)
sized_text s table f l d (Err e) z = too_large f e table l d z
