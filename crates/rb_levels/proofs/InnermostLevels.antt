-- The innermost level, and what is known of a level's recovery block.
use Rattle.std.proofs.Common.{◌≡◌, ◌-◌, ℕ, zero, suc, List, [], ◌∷◌, length, map, take, Option, Some, None, option_map, Bor, vec_len, refl, sym, ap, ◌∙◌, arith}
use Rattle.std.proofs.Math.Seq.{take-nil}
use Rattle.std.specs.Option.{option_copied}
use Rattle.std.specs.List.{slice_get}
use Rattle.rb_syntax.specs.declared.statement.Block.{Block}
use Rattle.rb_syntax.specs.declared.statement.Recovery.{Recovery, out-Recovery}
use Rattle.rb_syntax.specs.Plain.{alternates_of, recovery_block}
use Rattle.rb_syntax.proofs.Bridge.{recovery_out}
use Rattle.rb_world.specs.World.{last_of, without_last}
use Rattle.rb_meaning.specs.Groups.{count_alternates}
use Rattle.rb_levels.specs.declared.process.Level.{Level}
use Rattle.rb_levels.specs.Worlds.{facts_with, level_of}

-- the last level stands at the number before their count
last_at : (levels : List Level) (k : ℕ) → suc k ≡ length levels → option_map level_of (slice_get levels k) ≡ last_of (map level_of levels)
last_at [] k e = refl
last_at (level ∷ []) zero e = refl
last_at (level ∷ []) (suc k) e = absurd (omega arith)
last_at (level ∷ other ∷ levels) zero e = absurd (omega arith)
last_at (level ∷ other ∷ levels) (suc k) e = last_at (other ∷ levels) k (omega arith)

last_is : (levels : List Level) → option_map level_of (slice_get levels (length levels - 1)) ≡ last_of (map level_of levels)
last_is [] = refl
last_is (level ∷ levels) = last_at (level ∷ levels) (length (level ∷ levels) - 1) (omega arith)

-- the view of what was lent
viewed : (r : Option (Bor Level)) → option_map (λ level. level_of level.now) r ≡ option_map level_of (option_copied r)
viewed None = refl
viewed (Some level) = refl

-- the level that `last` lends
pub innermost_is : (levels lent : List Level) (r : Option (Bor Level)) → lent ≡ levels → option_copied r ≡ slice_get lent (length lent - 1)
    → option_map (λ level. level_of level.now) r ≡ last_of (map level_of levels)
innermost_is levels lent r same found =
    viewed r ∙ ap (option_map level_of) found ∙ ap (λ xs. option_map level_of (slice_get xs (length xs - 1))) same ∙ last_is levels

-- all levels but the last
without_at : (levels : List Level) (k : ℕ) → suc k ≡ length levels → map level_of (take k levels) ≡ without_last (map level_of levels)
without_at [] k e = absurd (omega arith)
without_at (level ∷ []) zero e = refl
without_at (level ∷ []) (suc k) e = absurd (omega arith)
without_at (level ∷ other ∷ levels) zero e = absurd (omega arith)
without_at (level ∷ other ∷ levels) (suc k) e =
    ap (λ outer. level_of level ∷ outer) (without_at (other ∷ levels) k (omega arith))

-- the levels that `pop` leaves
pub popped_is : (levels left : List Level) (n : ℕ) → length levels ≡ n → left ≡ take (n - 1) levels
    → map level_of left ≡ without_last (map level_of levels)
popped_is [] left n long e = ap (map level_of) (e ∙ take-nil (n - 1))
popped_is (level ∷ levels) left n long e = ap (map level_of) e ∙ without_at (level ∷ levels) (n - 1) (omega arith)

-- as many alternates as its block has
counted : (blocks : List Block) → count_alternates (alternates_of blocks) ≡ length blocks
counted [] = refl
counted (block ∷ blocks) = omega (arith, counted blocks)

facts_alternates : (conversation : Option ℕ) (block : Recovery)
    → (facts_with conversation (recovery_block block)).alternates ≡ length (out-Recovery block).alternates.items
facts_alternates conversation block =
    ap (λ plain. (facts_with conversation plain).alternates) (recovery_out block) ∙ counted (out-Recovery block).alternates.items

pub alternates_there : (conversation : Option ℕ) (block : Recovery) (count : ℕ) → count ≡ vec_len (out-Recovery block).alternates
    → count ≡ (facts_with conversation (recovery_block block)).alternates
alternates_there conversation block count e =
    let all : count ≡ length (out-Recovery block).alternates.items = omega (arith, e, (out-Recovery block).alternates.ok.0) in
    all ∙ sym (facts_alternates conversation block)
