-- An image that passes is well formed and drawn, and any other has the one refusal that was found.
use Rattle.std.proofs.Common.{◌≤◌, sym, refl, ap, ◌∙◌, subst, arith}
use Rattle.arena.specs.Diagram.{shape_of, Draws, drawable, drawn}
use Rattle.arena.proofs.DiagramLaws.{drawn_sound}
use Rattle.arena.proofs.DrawnLaws.{drawn_draws, draws_once}
use Rattle.arena.proofs.OutcomeLaws.{well_formed_not_refused}
use Rattle.game.proofs.ReadingLaws.{passed, right_drawable}
use Rattle.game.proofs.diagram.Diagram.read.Goals as goal

pub invariant_of-diagram : goal.invariant_of-diagram
invariant_of-diagram c =
    let f = c.in_ok-shape.ensures in
    let small : (shape_of c.args.bytes.now).size ≤ 255 = omega (arith, c.type_inv.bytes 2) in
    record { few_records = omega (arith, (f.1.measured.headed.right 4).records refl, ap (λ h. h.records) f.0); can_be_drawn = ap drawable f.0 ∙ right_drawable c.args.bytes.now f.1 small; headed = f.0; fielded = f.1 }

pub returns : goal.returns
returns c =
    let bs = c.args.bytes.now in
    let w = c.in_ok-check_moves.ensures in
    let small : (shape_of bs).size ≤ 255 = omega (arith, c.type_inv.bytes 2) in
    record {
      outcome = (w, subst (λ h. Draws bs (drawn h bs)) (sym c.in_ok-shape.ensures.0) (drawn_draws bs w small));
      only = λ a s v. draws_once bs w a (drawn (shape_of bs) bs) s (drawn_sound (shape_of bs) bs) v (drawn_draws bs w small) ∙ ap (λ h. drawn h bs) (sym c.in_ok-shape.ensures.0);
      served = λ _. refl;
      refused = λ e v. well_formed_not_refused bs e w v;
    }

pub returns-in_err-shape : goal.returns-in_err-shape
returns-in_err-shape c = passed c.args.bytes.now _ _ _ _ c.from_residual.ensures.1 c.in_err-shape.ensures

pub returns-in_err-check_chains : goal.returns-in_err-check_chains
returns-in_err-check_chains c = passed c.args.bytes.now _ _ _ _ c.from_residual-in_err-check_chains.ensures.1 c.in_err-check_chains.ensures

pub returns-in_err-check_moves : goal.returns-in_err-check_moves
returns-in_err-check_moves c = passed c.args.bytes.now _ _ _ _ c.from_residual-in_err-check_moves.ensures.1 c.in_err-check_moves.ensures
