-- From the contracts of the calls to what the examples come to.
use Rattle.std.proofs.Common.{◌≡◌, ℕ, ◌≤◌, Bool, cond, List, [], ◌∷◌, ◌++◌, length, take, drop, Ok, Err, Result, MatchResult, refl, sym, ap, ◌∙◌, subst, lt-ltb, le-ltb, leb-true, length-take, take-append-drop, arith}
use Rattle.terms.specs.declared.refusal.Refusal.{Refusal}
use Rattle.terms.specs.declared.refusal.Refusal.TheVariants.{StoreTooShort}
use Rattle.arena.specs.Arena.{Arena, Sound}
use Rattle.arena.specs.Book.{book_length}
use Rattle.arena.specs.Pair.{pair}
use Rattle.arena.proofs.SettleLaws.{in_time}
use Rattle.arena.proofs.PairLaws.{pair_sound}
use Rattle.book.specs.Solving.{Solved, Declined, Cause, none, sweeps, short as no_room}
use Rattle.words.specs.declared.name.Name.{Name}
use Rattle.rules.specs.declared.part.Part.{Part}
use Rattle.rules.specs.Rule.{Rule}
use Rattle.rules.specs.Explore.{compiled, positions}
use Rattle.rules.specs.Game.{game}
use Rattle.rules.proofs.GameLaws.{game_sound}
use Rattle.reader.specs.declared.texts.Misread.{Misread}
use Rattle.compile.specs.declared.position.Position.{Position}
use Rattle.compile.specs.declared.compiled.Compiled.{Compiled as Numbers}
use Rattle.compile.specs.Positions.{reason}
use Rattle.compile.specs.Compiling.{ReadsAs, Roomy, Compiles, stores_short, text_refused, rule_refused, compiles}
use Rattle.compile.proofs.OutcomeLaws.{ap₃, reads_once, refused_says}
use Rattle.worked.specs.declared.example.Example.{Example}
use Rattle.worked.specs.declared.example.Example.TheVariants.{True, False, NextFalse, Guard, Follow, Later, Clash, Release, Paired, Drawn}
use Rattle.worked.specs.Worked.{signals, door_name, lock_name, text, rule, image, comes_to, ruled, Row, book_of, Shows, Says, Compiles as Stood, Works, Gives, SolvesAs, Solves, SolvesPair}
use Rattle.arena.specs.Diagram.{shape_of, drawn, Draws}
use Rattle.worked.proofs.ExampleLaws.{sound_of, stand}
use Rattle.worked.proofs.ImageLaws.{image_draws}

-- ---- compiling

heard : {n : ℕ} {text : List ℕ} {f : Rule} → n ≡ 8 → (says : Says text f) → ReadsAs n signals text says.0 (door_name ∷ []) (lock_name ∷ []) f
heard {n} {text} {f} eight says = subst (λ k. ReadsAs k signals text says.0 (door_name ∷ []) (lock_name ∷ []) f) (sym eight) says.1

pub gives_game : {names n : List Name} {parts p : List Part} {store s : List Position} {text : List ℕ} {c : Numbers} → length names ≡ 8 → Compiles names parts store signals text (Ok c) n p s → Gives text (Ok c) s
gives_game eight (compiles room a) f says =
    let e = reads_once a.reads (heard eight says) in
    let one : compiled 1 1 f ≡ positions a.found = sym (ap₃ (λ u v g. compiled (length u) (length v) g) e.0 e.1 e.2) ∙ a.compiles in
    (ap reason one, a.promise.is_game ∙ ap₃ (λ u v g. game (length u) (length v) g) e.0 e.1 e.2)

pub gives_refusal : {names n : List Name} {parts p : List Part} {store s : List Position} {text : List ℕ} {m : Misread} → length names ≡ 8 → Roomy names parts store → Compiles names parts store signals text (Err m) n p s → Gives text (Err m.refusal) s
gives_refusal eight room (stores_short h) f says = absurd (h room)
gives_refusal eight room (text_refused r b z) f says = absurd (refused_says (r.for_names, r.for_parts) b (heard eight says))
gives_refusal eight room (rule_refused r a e hn zp z) f says =
    let d = reads_once a (heard eight says) in
    sym (ap₃ (λ u v g. reason (compiled (length u) (length v) g)) d.0 d.1 d.2) ∙ e

-- ---- the examples

module _ (a : Arena) (rows : List Row) (before after : List ℕ) (sound : Sound a) (shows : Shows a rows) (same : length after ≡ length before) where
  size_is : book_length a.size ≡ length (book_of rows)
  size_is = sym shows.book.1.long

  sized : 1 ≤ a.size
  sized = shows.book.1.sized

  Left : Bool → Result ℕ Refusal → Type 0
  Left t r = cond t ((r ≡ Err StoreTooShort) × (after ≡ before)) ((r ≡ Ok (length (book_of rows))) × (after ≡ book_of rows ++ drop (length (book_of rows)) before))

  refused : (e : Refusal) → Declined a before after e → Cause a (length before) e → Works (Ok rows) before after (Err e)
  unfolding Left
  refused e d (none i z) = absurd (omega (arith, sized, z))
  refused e d (sweeps i s n) = absurd (n (in_time a sound))
  refused e d (no_room i s t l) = subst (λ b. Left b (Err e)) (sym (lt-ltb (length before) (length (book_of rows)) (omega (arith, l, size_is)))) (ap Err i, d.same)

  -- a game that shows the rows is solved into their book
  pub works : (r : Result ℕ Refusal) → MatchResult r (Solved a before after) (Declined a before after) → Works (Ok rows) before after r
  unfolding Left
  works (Ok len) h =
      let long : len ≡ length (book_of rows) = h.long ∙ size_is in
      let front : take len after ≡ book_of rows = sym (h.only (book_of rows) shows.book) in
      let room : length (book_of rows) ≤ length before = omega (arith, same, ap length front, length-take len after, long) in
      subst (λ b. Left b (Ok len)) (sym (le-ltb (length before) (length (book_of rows)) room))
      (ap Ok long, sym (take-append-drop len after) ∙ ap (λ x. x ++ drop len after) front ∙ ap (λ x. book_of rows ++ x) (h.rest ∙ ap (λ k. drop k before) long))
  works (Err e) h = refused e h h.cause

module _ (before after : List ℕ) (r : Result ℕ Refusal) (same : length after ≡ length before) where
  ruled_works : (e : Example) (o : Result (List Row) Refusal) → Stood e o → Solves (text e) before after r → Works o before after r
  ruled_works e (Ok rows) h s =
      works (ruled e) rows before after (game_sound 1 1 (rule e) (leb-true 1 4 refl) (leb-true 1 4 refl)) h.2 same r (subst (λ o. SolvesAs o (ruled e) before after r) h.1 (s (rule e) h.0))
  ruled_works e (Err x) h s = subst (λ o. SolvesAs o (ruled e) before after r) h.1 (s (rule e) h.0)

  -- the example of a rule
  pub rule_works : (e : Example) → (e ≡ Paired → ⊥) → (e ≡ Drawn → ⊥) → Solves (text e) before after r → Works (comes_to e) before after r
  rule_works True n m s = ruled_works True (comes_to True) (stand True) s
  rule_works False n m s = ruled_works False (comes_to False) (stand False) s
  rule_works NextFalse n m s = ruled_works NextFalse (comes_to NextFalse) (stand NextFalse) s
  rule_works Guard n m s = ruled_works Guard (comes_to Guard) (stand Guard) s
  rule_works Follow n m s = ruled_works Follow (comes_to Follow) (stand Follow) s
  rule_works Later n m s = ruled_works Later (comes_to Later) (stand Later) s
  rule_works Clash n m s = ruled_works Clash (comes_to Clash) (stand Clash) s
  rule_works Release n m s = ruled_works Release (comes_to Release) (stand Release) s
  rule_works Paired n m s = absurd (n refl)
  rule_works Drawn n m s = absurd (m refl)

  -- the pair
  pub pair_works : SolvesPair (text Follow) (text Later) before after r → Works (comes_to Paired) before after r
  unfolding comes_to
  pair_works s =
      works (pair (ruled Follow) (ruled Later)) _ before after (pair_sound (sound_of Follow) (sound_of Later)) (stand Paired) same r (s (rule Follow) (rule Later) (stand Follow).0 (stand Later).0 (stand Follow).1 (stand Later).1)

  -- the diagram
  drawn_as : {rows : List Row} (a : Arena) {b : Arena} → Sound a → b ≡ a → Shows b rows → MatchResult r (Solved a before after) (Declined a before after) → Works (Ok rows) before after r
  drawn_as {rows} a sound e shows = works a rows before after sound (subst (λ x. Shows x rows) e shows) same r

  pub drawn_works : (a : Arena) → Sound a → Draws image a → MatchResult r (Solved a before after) (Declined a before after) → Works (comes_to Drawn) before after r
  unfolding comes_to
  drawn_works a sound d m =
      let same_game : a ≡ drawn (shape_of image) image = image_draws a sound d in
      drawn_as a sound (sym same_game) (stand Drawn).1 m
