-- The first of the names in use that is the same as the run.
use Rattle.std.proofs.Common.{◌≡◌, ℕ, ◌+◌, ◌<◌, ◌≤◌, ◌⊎◌, List, length, take, Some, None, Option, Bor, sym, ap, ◌∙◌, subst₂, inl, inr, arith, take_all}
use Rattle.std.specs.List.{slice_range}
use Rattle.std.specs.Option.{MatchOption, unwrap_or}
use Rattle.std.proofs.lemmas.Slice.{between_from_start}
use Rattle.register.specs.Places.{First}
use Rattle.words.specs.declared.name.Name.{Name}
use Rattle.words.specs.Names.{same_name}
use Rattle.words.proofs.SoughtLaws.{name_of_some, first_named, named_first}
use Rattle.words.proofs.signals.signal_of.Goals as goal

-- the names in use, or all where there are fewer
in_use : (store : Bor (List Name)) (used : ℕ) (r : Option (Bor (List Name))) → MatchOption r ((used < 0) ⊎ (length store.now < used)) (λ x. (0 ≤ used) × (used ≤ length store.now) × (x.now ≡ slice_range store.now 0 used) × (length x.now + 0 ≡ used)) → (unwrap_or r store).now ≡ take used store.now
in_use store used None (inl h) = absurd (omega arith)
in_use store used None (inr h) = sym (take_all used store.now (omega arith))
in_use store used (Some x) h = h.2 ∙ between_from_start store.now used

pub returns-clause-named : goal.returns-clause-named
returns-clause-named c = λ k.
    let store = c.args.names.now in
    let run = c.args.run.now in
    let used = c.args.signals.inputs + c.args.signals.outputs in
    let r = c.find.result in
    let n = name_of_some run c.in_ok-name.name (sym c.in_ok-name.ensures) in
    let known : c.unwrap_or-known.result.now ≡ take used store =
    ap (λ (b : Bor (List Name)). b.now) c.unwrap_or-known.ensures ∙ in_use c.args.names c.count.result c.get.result c.get.ensures.lookup.0 ∙ ap (λ m. take m store) c.count.ensures in
    let First-of = λ (l : List Name) (z : Name). First same_name z (length l) l k in
    let iff = subst₂ (λ l z. (r ≡ Some k → First-of l z) × (First-of l z → r ≡ Some k)) known n.1 (c.find.ensures.first k) in (
      λ h. first_named store run used k n.0 (iff.0 h),
      λ m. iff.1 (named_first store run used k m),
    )
