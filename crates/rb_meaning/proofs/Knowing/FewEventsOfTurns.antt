-- A turn of a program makes at most 32 rejections, and of at most 64 processes it tells at most 96 events.
use Rattle.std.proofs.Common.{◌≡◌, ◌≤◌, ℕ, ◌+◌, suc, List, [], ◌∷◌, length, refl, ap, arith}
use Rattle.rb_syntax.specs.Tree.{ProcessDeclaration, Tree}
use Rattle.rb_world.specs.Standing.{IsStanding}
use Rattle.rb_world.proofs.Keeping.StandingFacts.{standing}
use Rattle.rb_world.proofs.Members.FewEvents.{IsOfRejections, turn-few, turn-few_rejections}
use Rattle.rb_meaning.specs.Meaning.{opening_states, run_of, tree_kind}
use Rattle.rb_meaning.specs.Laws.{FewEvents, is_rejection, next_turn}

pub length-opening_states : (tree : Tree) (p : ℕ) (processes : List ProcessDeclaration) → length (opening_states tree p processes) ≡ length processes
length-opening_states tree p [] = refl
length-opening_states tree p (process ∷ processes) = ap suc (length-opening_states tree (p + 1) processes)

is_of_rejections : IsOfRejections is_rejection
is_of_rejections = record { errors = λ p cause. refl; completions = λ p. refl }

-- a turn makes at most 32 rejections, and of at most 64 processes it tells at most 96 events
pub few_events : FewEvents
few_events tree turns p =
    let stands : IsStanding (tree_kind tree) (opening_states tree 0 tree.processes) (run_of tree turns).0 =
    standing (tree_kind tree) turns (opening_states tree 0 tree.processes) tt in
    let few : length (next_turn tree turns p).1.events ≤ 32 + length (run_of tree turns).0.processes =
    turn-few (tree_kind tree) (length turns + 1) p (run_of tree turns).0 stands.shallow in (
      turn-few_rejections is_of_rejections (tree_kind tree) (length turns + 1) p (run_of tree turns).0 stands.shallow,
      λ small. omega (arith, few, stands.size.of_processes, length-opening_states tree 0 tree.processes),
    )
