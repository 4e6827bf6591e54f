-- Parts that are the same are equal: the laws by which parts are entries of a register.
-- same_true, same_self: the same parts are exactly the equal ones.
use Rattle.std.specs.Prelude.{◌≡◌, ℕ, zero, suc, true, false, ◌&&◌, ◌==◌, refl}
use Rattle.std.proofs.Common.{sym, ap, ◌∙◌}
use Rattle.std.proofs.lemmas.Bool.{and_parts, and_from, eqb-true, eq-eqb}
use Rattle.rules.specs.declared.part.Signal.TheVariants.{Input, Output}
use Rattle.rules.specs.declared.part.Part.{Part}
use Rattle.rules.specs.declared.part.Part.TheVariants.{True, False, Literal, Next, Release, Both, Either}
use Rattle.rules.specs.Table.{kind, left, right, same_part}

-- a part from its three numbers
told : ℕ → ℕ → ℕ → Part
told zero l r = True
told (suc zero) l r = False
told (suc (suc zero)) l r = Literal (Input l) (r == 1)
told (suc (suc (suc zero))) l r = Literal (Output l) (r == 1)
told (suc (suc (suc (suc zero)))) l r = Next l
told (suc (suc (suc (suc (suc zero))))) l r = Release l r
told (suc (suc (suc (suc (suc (suc zero)))))) l r = Both l r
told (suc (suc (suc (suc (suc (suc (suc k))))))) l r = Either l r

told_is : (x : Part) → told (kind x) (left x) (right x) ≡ x
unfolding told
told_is True = refl
told_is False = refl
told_is (Literal (Input k) true) = refl
told_is (Literal (Input k) false) = refl
told_is (Literal (Output k) true) = refl
told_is (Literal (Output k) false) = refl
told_is (Next f) = refl
told_is (Release a b) = refl
told_is (Both f g) = refl
told_is (Either f g) = refl

-- the same parts are the equal ones
pub same_true : (x y : Part) → same_part x y ≡ true → x ≡ y
unfolding same_part
same_true x y e =
    let s = and_parts (kind x == kind y) (left x == left y && right x == right y) e in
    let t = and_parts (left x == left y) (right x == right y) s.1 in
    let k : kind x ≡ kind y = eqb-true (kind x) (kind y) s.0 in
    let l : left x ≡ left y = eqb-true (left x) (left y) t.0 in
    let r : right x ≡ right y = eqb-true (right x) (right y) t.1 in
    sym (told_is x) ∙ ap (λ n. told n (left x) (right x)) k ∙ ap (λ n. told (kind y) n (right x)) l ∙ ap (told (kind y) (left y)) r ∙ told_is y

pub same_self : (x : Part) → same_part x x ≡ true
unfolding same_part
same_self x =
    and_from _ _ (eq-eqb (kind x) (kind x) refl) (and_from _ _ (eq-eqb (left x) (left x) refl) (eq-eqb (right x) (right x) refl))
