use Rattle.std.proofs.Common.{rules, ◌&&◌, ◌≡◌, ℕ, suc, ◌+◌, ◌<◌, true, false, refl, arith}
use Rattle.std.proofs.lemmas.Bool.{true≢false}
use Rattle.arena.specs.Held.{Held, Settled}
use Rattle.arena.proofs.HeldLaws.{held_place}
use Rattle.book.specs.Ranks.{Amid}
use Rattle.book.proofs.RankLaws.{amid_none, swept}
use Rattle.book.proofs.sweep.Sweeps.sweep.Goals as goal

pub loop-p-init : goal.loop-p-init
loop-p-init g c = (refl, amid_none _ _ _ c.requires.before, (λ _ q l h. absurd (omega (arith, held_place _ c.args.k q h))), λ e. absurd (true≢false e))

pub returns : goal.returns
returns g c =
    let w = swept _ _ c.loop-p.p _ _ (omega arith) c.loop-p.invariant.1 c.loop-p.invariant.2 c.loop-p.invariant.3 in
    record { same = c.loop-p.invariant.0; after = w.0; settled = w.1 }

pub returns-2 : goal.returns-2
returns-2 g c =
    let a = g.G.Game.meaning c.args.self.now.game.now in
    let k = c.args.k in
    let none = c.loop-p.none && c.raise-none.result in
    let amid : Amid a k (c.loop-p.p + 1) c.raise-none.new.self.ranks = search rules in
    let kept : none ≡ true → (q : ℕ) → q < c.loop-p.p + 1 → Held a k q → Held a (suc k) q = search rules in
    let dropped : none ≡ false → Settled a k → ⊥ = search rules in
    let w = swept a k (c.loop-p.p + 1) c.raise-none.new.self.ranks none (omega arith) amid kept dropped in
    record { same = search rules; after = w.0; settled = w.1 }
