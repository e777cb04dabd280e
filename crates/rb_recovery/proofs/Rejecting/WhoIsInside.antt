-- Who is inside a conversation, by the place of its level.
use Rattle.std.proofs.Common.{◌≡◌, ℕ, position, Option, Some, None, refl}
use Rattle.std.specs.Option.{is_some}
use Rattle.rb_world.specs.World.{Process, is_inside, is_of}
use Rattle.rb_world.proofs.LevelFacts.{any_level, level_at_place}
use Rattle.rb_world.proofs.Erasing.GoingBack.BreakingKeepsErasure.{not_inside}

inside_at : {S C : Type 0} (c : ℕ) (q : Process S C) (place : Option ℕ) → position (is_of c) q.levels ≡ place → is_inside c q ≡ is_some place
inside_at c q None e = not_inside c q e
inside_at c q (Some j) e = any_level c j q.levels (level_at_place c j q.levels e)

-- a process is inside a conversation exactly if a level of it has a place
pub inside_by_place : {S C : Type 0} (c : ℕ) (q : Process S C) → is_inside c q ≡ is_some (position (is_of c) q.levels)
inside_by_place c q = inside_at c q (position (is_of c) q.levels) refl
