-- The examples, by computing: what each text says, and what its game shows.
use Rattle.std.proofs.Common.{refl, leb-true}
use Rattle.arena.specs.Arena.{Sound, beyond}
use Rattle.arena.specs.Diagram.{shape_of, drawable, drawn, sought}
use Rattle.arena.specs.Pair.{joint, product, both, pair}
use Rattle.arena.proofs.DiagramLaws.{drawn_sound}
use Rattle.arena.proofs.PairLaws.{pair_sound}
use Rattle.words.specs.Words.{words_from}
use Rattle.rules.specs.Parts.{duty_number}
use Rattle.rules.specs.Table.{parts_on}
use Rattle.rules.specs.Explore.{compiled}
use Rattle.rules.specs.Game.{game}
use Rattle.rules.proofs.GameLaws.{game_sound}
use Rattle.worked.specs.declared.example.Example.{Example}
use Rattle.worked.specs.declared.example.Example.TheVariants.{True, False, NextFalse, Guard, Follow, Later, Clash, Release, Paired, Drawn}
use Rattle.worked.specs.Worked.{text, rule, image, comes_to, ruled, Says, Stands, Examples}
use Rattle.worked.proofs.CheckLaws.{shows, shown}
use Rattle.worked.proofs.ReadLaws.{said_by}
use Rattle.worked.proofs.ImageLaws.{image_formed}

-- ---- what the texts say

says_true : Says (text True) (rule True)
unfolding text rule words_from parts_on duty_number
says_true = said_by (text True) (rule True) refl refl refl refl

says_false : Says (text False) (rule False)
unfolding text rule words_from parts_on duty_number
says_false = said_by (text False) (rule False) refl refl refl refl

says_nextfalse : Says (text NextFalse) (rule NextFalse)
unfolding text rule words_from parts_on duty_number
says_nextfalse = said_by (text NextFalse) (rule NextFalse) refl refl refl refl

says_guard : Says (text Guard) (rule Guard)
unfolding text rule words_from parts_on duty_number
says_guard = said_by (text Guard) (rule Guard) refl refl refl refl

says_follow : Says (text Follow) (rule Follow)
unfolding text rule words_from parts_on duty_number
says_follow = said_by (text Follow) (rule Follow) refl refl refl refl

says_later : Says (text Later) (rule Later)
unfolding text rule words_from parts_on duty_number
says_later = said_by (text Later) (rule Later) refl refl refl refl

says_clash : Says (text Clash) (rule Clash)
unfolding text rule words_from parts_on duty_number
says_clash = said_by (text Clash) (rule Clash) refl refl refl refl

says_release : Says (text Release) (rule Release)
unfolding text rule words_from parts_on duty_number
says_release = said_by (text Release) (rule Release) refl refl refl refl

-- ---- what the games show

pub sound_of : (e : Example) → Sound (ruled e)
sound_of e = game_sound 1 1 (rule e) (leb-true 1 4 refl) (leb-true 1 4 refl)

stands_true : Stands True
unfolding rule comes_to compiled game shows
stands_true = (says_true, refl, shown (ruled True) (sound_of True) _ refl)

stands_false : Stands False
unfolding rule comes_to compiled
stands_false = (says_false, refl)

stands_nextfalse : Stands NextFalse
unfolding rule comes_to compiled game shows
stands_nextfalse = (says_nextfalse, refl, shown (ruled NextFalse) (sound_of NextFalse) _ refl)

stands_guard : Stands Guard
unfolding rule comes_to compiled game shows
stands_guard = (says_guard, refl, shown (ruled Guard) (sound_of Guard) _ refl)

stands_follow : Stands Follow
unfolding rule comes_to compiled game shows
stands_follow = (says_follow, refl, shown (ruled Follow) (sound_of Follow) _ refl)

stands_later : Stands Later
unfolding rule comes_to compiled game shows
stands_later = (says_later, refl, shown (ruled Later) (sound_of Later) _ refl)

stands_clash : Stands Clash
unfolding rule comes_to compiled game shows
stands_clash = (says_clash, refl, shown (ruled Clash) (sound_of Clash) _ refl)

stands_release : Stands Release
unfolding rule comes_to compiled game shows
stands_release = (says_release, refl, shown (ruled Release) (sound_of Release) _ refl)

stands_paired : Stands Paired
unfolding rule comes_to compiled game shows beyond joint product both
stands_paired = shown (pair (ruled Follow) (ruled Later)) (pair_sound (sound_of Follow) (sound_of Later)) _ refl

stands_drawn : Stands Drawn
unfolding comes_to drawable sought beyond shows
stands_drawn = (image_formed, shown (drawn (shape_of image) image) (drawn_sound (shape_of image) image) _ refl)

-- each example stands
pub stand : Examples
stand True = stands_true
stand False = stands_false
stand NextFalse = stands_nextfalse
stand Guard = stands_guard
stand Follow = stands_follow
stand Later = stands_later
stand Clash = stands_clash
stand Release = stands_release
stand Paired = stands_paired
stand Drawn = stands_drawn
