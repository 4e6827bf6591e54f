use Rattle.std.proofs.Common.{rules, ◌≡◌, length, replicate, Err, arith}
use Rattle.terms.specs.declared.refusal.Refusal.TheVariants.{StoreTooShort}
use Rattle.reader.specs.declared.texts.Text.TheVariants.{Neither}
use Rattle.rules.specs.declared.part.Part.TheVariants.{True}
use Rattle.compile.specs.Positions.{unused}
use Rattle.compile.specs.Compiling.{Roomy, Compiles, stores_short, text_refused, rule_refused, compiles}
use Rattle.compile.proofs.GivenLaws.{err_is}
use Rattle.compile.proofs.CompilingLaws.{BothSay, both_say, all_equal, built_refused, built_served}
use Rattle.compile.proofs.OutcomeLaws.{only_this}
use Rattle.compile.proofs.compile.compile.Goals as goal
use Rattle.compile.proofs.compile.compile.Goals.{Else-positions-lt-POSITIONS, In_ok-texts, then-names-lt-NAMES-via-then-names-lt-NAMES, then-names-lt-NAMES-via-else-names-lt-NAMES+then-parts-lt-PARTS, then-names-lt-NAMES-via-else-names-lt-NAMES+else-parts-lt-PARTS+then-positions-lt-POSITIONS}

-- the stores have room for what the definitions allow
roomy : (c : Else-positions-lt-POSITIONS) → Roomy c.args.names.now c.args.parts.now c.args.positions.now
roomy c = record { for_names = c.if-names-lt-NAMES.false; for_parts = c.if-parts-lt-PARTS.false; for_positions = c.if-positions-lt-POSITIONS.false }

-- what two texts say that were read
said : (c : In_ok-texts) → BothSay c.args.names.now c.args.named.now c.args.ruled.now c.in_ok-texts.texts c.read.new.names c.read.new.parts
said c = both_say _ c.args.parts.now _ _ _ _ _ c.in_ok-texts.ensures

pub returns-then-names-lt-NAMES : goal.returns-then-names-lt-NAMES
returns-then-names-lt-NAMES c =
    rw c.unplaced.ensures
    (let h : Compiles c.args.names.now c.args.parts.now c.args.positions.now c.args.named.now c.args.ruled.now (Err (record { text = Neither; refusal = StoreTooShort })) c.args.names.now c.args.parts.now c.args.positions.now = stores_short (λ room. elim c.then-names-lt-NAMES.branch [
      | then-names-lt-NAMES-via-then-names-lt-NAMES w ↦ omega (arith, w.if-names-lt-NAMES.true, room.for_names)
      | then-names-lt-NAMES-via-else-names-lt-NAMES+then-parts-lt-PARTS w ↦ omega (arith, w.if-parts-lt-PARTS.true, room.for_parts)
      | then-names-lt-NAMES-via-else-names-lt-NAMES+else-parts-lt-PARTS+then-positions-lt-POSITIONS w ↦ omega (arith, w.if-positions-lt-POSITIONS.true, room.for_positions)
    ]) in
    record { outcome = h; only = only_this h })

pub returns-in_err-texts : goal.returns-in_err-texts
returns-in_err-texts c =
    let store = c.args.positions.now in
    let filled : c.fill.new.self ≡ replicate (length store) unused = search rules in
    rw (err_is _ c.from_residual.ensures.1)
    (let h = text_refused (roomy (goal.at.returns-in_err-texts c).Else-positions-lt-POSITIONS) c.in_err-texts.ensures (all_equal unused (length store) c.fill.new.self filled) in
    record { outcome = h; only = only_this h })

pub build-requires-clause-parts : goal.build-requires-clause-parts
build-requires-clause-parts c =
    let b = said (goal.at.build-requires-clause-parts c).In_ok-texts in
    rw b.front_is (b.small.parts, (b.falls, (b.small.duties, omega (arith, b.root_is, b.root_in))))

pub returns-in-Ok : goal.returns-in-Ok
returns-in-Ok c =
    let g = goal.at.returns-in-Ok c in
    let h = compiles (roomy g.Else-positions-lt-POSITIONS) (built_served _ _ _ _ _ _ c.build.new.positions (said g.In_ok-texts) c.in-Ok.found c.in-Ok.ensures) in
    record { outcome = h; only = only_this h }

pub returns-in-Err : goal.returns-in-Err
returns-in-Err c =
    let g = goal.at.returns-in-Err c in
    let b = said g.In_ok-texts in
    let filled : c.fill-in-Err.new.self ≡ replicate (length c.build.new.positions) unused = search rules in
    rw c.unplaced-in-Err.ensures
    (let h = rule_refused (roomy g.Else-positions-lt-POSITIONS) b.reads_as (built_refused _ _ _ _ _ _ c.build.new.positions b c.in-Err.refusal c.in-Err.ensures)
    c.clear.ensures (all_equal True _ c.clear_parts.new.parts c.clear_parts.ensures) (all_equal unused _ c.fill-in-Err.new.self filled) in
    record { outcome = h; only = only_this h })
