-- What is left of a plain run, turn by turn.
use Rattle.std.proofs.Common.{◌≡◌, ◌<◌, ◌+◌, ℕ, List, ◌∷◌, ◌++◌, length, drop, get_or, option_map, slice_get, Option, Some, None, Result, Ok, Err, refl, sym, ap, ◌∙◌, subst, add-one, drop-cons}
use Rattle.std.specs.Result.{IsErrAnd}
use Rattle.rb_world.specs.World.{with_each}
use Rattle.rb_world.specs.Turn.{Moved, Told, freed, freed_lines, told}
use Rattle.rb_world.specs.Text.{Naming, out_lines}
use Rattle.rb_base.specs.declared.kept.Kept.{Kept}
use Rattle.rb_world.specs.Plain.{PlainEnd, Ended, StuckAt, plain_moves, plain_on, plain_run, plain_told, plain_turned}
use Rattle.rb_world.proofs.ListFacts.{none_some, some_same}
use Rattle.rb_meaning.specs.State.{State}
use Rattle.rb_meaning.specs.Step.{Nothing}
use Rattle.rb_syntax.specs.Tree.{Tree}
use Rattle.rb_meaning.specs.PlainRun.{EntryPoint, PlainWorld}
use Rattle.rb_levels.specs.Worlds.{moved_world, unkept_kind}
use Rattle.rb_plain.specs.Played.{Rehearses, outs_in, played, stuck_in, world_in}
use Rattle.rb_levels.specs.Taken.{TakesTurn}
use Rattle.rb_levels.specs.declared.answer.PlainAnswer.{PlainAnswer}
use Rattle.rb_levels.specs.declared.answer.PlainAnswer.TheVariants.{Stuck, WriteFault, Memory}

-- what is told of a turn changes neither whether the others are stuck, nor the world at the end
pub stuck_told : {S C M : Type 0} (t : ℕ) (one : Told) (end : PlainEnd S C M) → stuck_in (plain_told t one end) ≡ stuck_in end
stuck_told t one (Ended w lines) = refl
stuck_told t one (StuckAt u) = refl

world_told : {S C M : Type 0} (t : ℕ) (one : Told) (end : PlainEnd S C M) → world_in (plain_told t one end) ≡ world_in end
world_told t one (Ended w lines) = refl
world_told t one (StuckAt u) = refl

-- its lines come before theirs
outs_told : {S C M : Type 0} (names : Naming) (t : ℕ) (one : Told) (end : PlainEnd S C M) → stuck_in end ≡ None
    → outs_in names (plain_told t one end) ≡ out_lines names t 0 one.released ++ outs_in names end
outs_told names t one (Ended w lines) e = refl
outs_told names t one (StuckAt u) e = absurd (none_some (sym e))

-- A turn was taken: what is told of it comes before the run of the others from the world after it, once lines are released.
pub record GoesOn (tree : Tree) (t : ℕ) (v : PlainWorld) (all others : PlainEnd State EntryPoint Nothing) : Type 0 where
  pub one : Told
  pub is : all ≡ plain_told t one others
  pub lines : one.released ≡ freed_lines (unkept_kind tree) v

moved_on : (tree : Tree) (t : ℕ) (rest : List Kept) (w v u : PlainWorld) (moved : Option (Moved State EntryPoint Nothing))
    → option_map (λ m. m.world) moved ≡ Some v → u ≡ with_each (freed (unkept_kind tree)) v
    → GoesOn tree t v (plain_on t (plain_turned (unkept_kind tree) w moved) (plain_run (unkept_kind tree) rest)) (played tree rest u)
moved_on tree t rest w v u None e f = absurd (none_some e)
moved_on tree t rest w v u (Some moved) e f =
    let same : moved.world ≡ v = some_same e in
    record {
      one = told (unkept_kind tree) w moved;
      is = ap (λ x. plain_told t (told (unkept_kind tree) w moved) (plain_run (unkept_kind tree) rest x))
          (ap (with_each (freed (unkept_kind tree))) same ∙ sym f);
      lines = ap (freed_lines (unkept_kind tree)) same;
    }

moved_not : (tree : Tree) (t : ℕ) (rest : List Kept) (w : PlainWorld) (moved : Option (Moved State EntryPoint Nothing))
    → option_map (λ m. m.world) moved ≡ None
    → plain_on t (plain_turned (unkept_kind tree) w moved) (plain_run (unkept_kind tree) rest) ≡ StuckAt t
moved_not tree t rest w None e = refl
moved_not tree t rest w (Some moved) e = absurd (none_some (sym e))

-- the next of the turns that are left
next_turn : (turns : List Kept) (i : ℕ) (d : Kept) → i < length turns
    → drop i turns ≡ get_or turns i d ∷ drop (i + 1) turns
next_turn turns i d within =
    drop-cons turns i d within ∙ ap (λ (n : ℕ). get_or turns i d ∷ drop n turns) (sym (add-one i))

module _ (tree : Tree) (turns : List Kept) (i : ℕ) (d : Kept) (within : i < length turns) (w : PlainWorld) where
  abbrev kept : Kept
  kept = get_or turns i d

  -- what is left
  abbrev left : PlainEnd State EntryPoint Nothing
  left = played tree (drop i turns) w

  same_left : left ≡ played tree (kept ∷ drop (i + 1) turns) w
  same_left = ap (λ ts. played tree ts w) (next_turn turns i d within)

  -- the turn was taken
  pub turn_taken : (v u : PlainWorld) → moved_world tree (get_or turns i d) w ≡ Some v → u ≡ with_each (freed (unkept_kind tree)) v
      → GoesOn tree (get_or turns i d).turn v (played tree (drop i turns) w) (played tree (drop (i + 1) turns) u)
  turn_taken v u e f =
      let on = moved_on tree kept.turn (drop (i + 1) turns) w v u
      (plain_moves (unkept_kind tree) kept w (slice_get w.processes kept.process)) e f in
      record { one = on.one; is = same_left ∙ on.is; lines = on.lines }

  -- it is stuck
  turn_stuck : moved_world tree kept w ≡ None → stuck_in left ≡ Some kept.turn
  turn_stuck e =
      ap stuck_in (same_left ∙ moved_not tree kept.turn (drop (i + 1) turns) w
      (plain_moves (unkept_kind tree) kept w (slice_get w.processes kept.process)) e)

  -- what is answered where the turn was not taken
  pub turn_answered : (stuck : Option ℕ) (new : PlainWorld) (answer : PlainAnswer) → stuck ≡ stuck_in (played tree (drop i turns) w)
      → TakesTurn (get_or turns i d).turn (moved_world tree (get_or turns i d) w) new (Err answer) → Rehearses stuck (Err answer)
  turn_answered stuck new (Stuck t) e h = e ∙ turn_stuck h.0 ∙ ap Some (sym h.1)
  turn_answered stuck new WriteFault e h = absurd h
  turn_answered stuck new Memory e h = tt

  -- where no turn is stuck, memory was wanting
  pub turn_wanting : (new : PlainWorld) (answer : PlainAnswer) → stuck_in (played tree (drop i turns) w) ≡ None
      → TakesTurn (get_or turns i d).turn (moved_world tree (get_or turns i d) w) new (Err answer) → answer ≡ Memory
  turn_wanting new (Stuck t) e h = absurd (none_some (sym e ∙ turn_stuck h.0))
  turn_wanting new WriteFault e h = absurd h
  turn_wanting new Memory e h = refl

-- what is answered for an answer of a part
pub rehearsed : (stuck : Option ℕ) (answer : PlainAnswer) (r : Result (Unit {0}) PlainAnswer) → IsErrAnd r (λ x. x ≡ answer)
    → Rehearses stuck (Err answer) → Rehearses stuck r
rehearsed stuck answer (Ok done) h p = absurd h
rehearsed stuck answer (Err x) h p = subst (λ y. Rehearses stuck (Err y)) (sym h) p

module _ {tree : Tree} {t : ℕ} {v : PlainWorld} {all others : PlainEnd State EntryPoint Nothing} (on : GoesOn tree t v all others) where
  pub still_stuck : stuck_in all ≡ stuck_in others
  still_stuck = ap stuck_in on.is ∙ stuck_told t on.one others

  pub still_ends : world_in all ≡ world_in others
  still_ends = ap world_in on.is ∙ world_told t on.one others

  pub outs_next : (names : Naming) → stuck_in all ≡ None
      → outs_in names all ≡ out_lines names t 0 (freed_lines (unkept_kind tree) v) ++ outs_in names others
  outs_next names e =
      ap (outs_in names) on.is ∙ outs_told names t on.one others (sym still_stuck ∙ e)
      ∙ ap (λ lines. out_lines names t 0 lines ++ outs_in names others) on.lines
