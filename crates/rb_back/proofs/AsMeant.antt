-- The text of a session over the code of an accepted source is that of the meaning.
use Rattle.std.proofs.Common.{◌≡◌, ◌+◌, ◌-◌, ℕ, suc, List, [], ◌∷◌, ◌++◌, length, map, slice_get, take, Option, Some, Result, refl, sym, ap, ◌∙◌, subst, arith}
use Rattle.std.proofs.lemmas.List.{length-map}
use Rattle.std.proofs.lemmas.Simd.{map-map}
use Rattle.rb_outside.specs.Outside.{Faults}
use Rattle.rb_syntax.specs.Tree.{Tree}
use Rattle.rb_trace.specs.Ended.{state_of}
use Rattle.rb_world.specs.Kind.{Membership}
use Rattle.rb_world.specs.Text.{Final, Naming}
use Rattle.rb_world.specs.World.{Process}
use Rattle.rb_meaning.specs.Environment.{global_words}
use Rattle.rb_meaning.specs.Groups.{groups_of}
use Rattle.rb_meaning.specs.Meaning.{final_of, naming_of, run_of, standing}
use Rattle.rb_meaning.specs.State.{State as TreeState}
use Rattle.rb_code.specs.Agreement.Laws.{Agrees, tried}
use Rattle.rb_code.specs.Instructions.Plain.{Code}
use Rattle.rb_code.specs.WordMachine.Turn.{Copy, Standing}
use Rattle.rb_code.specs.WordMachine.WordRun.{variable_words, word_final, word_run}
use Rattle.rb_prepare.proofs.AcceptedSources.{accepted_code_agrees}
use Rattle.rb_run.specs.Sources.{OfItsSource}
use Rattle.rb_script.specs.declared.order.Order.{Order}
use Rattle.rb_script.specs.declared.order.Order.TheVariants.{Forth, Back, Show}
use Rattle.rb_back.specs.declared.showing.Stopped.{Stopped}
use Rattle.rb_back.specs.Laws.{CodeShowsAsMeant}
use Rattle.rb_script.specs.Shown.{all_shown, final_shown, session_text, shown_text, tree_session_text, tree_shown, word_shown}
use Rattle.rb_back.specs.Showing.{Shows}

-- two lists with the same images
same_images : {A B X : Type 0} (f : A → X) (g : B → X) (xs : List A) (ys : List B) → length xs ≡ length ys
    → ((p : ℕ) (x : A) (y : B) → slice_get xs p ≡ Some x → slice_get ys p ≡ Some y → f x ≡ g y) → map f xs ≡ map g ys
same_images f g [] [] long each = refl
same_images f g [] (y ∷ ys) long each = absurd (omega arith)
same_images f g (x ∷ xs) [] long each = absurd (omega arith)
same_images {A} {B} {X} f g (x ∷ xs) (y ∷ ys) long each =
    ap (λ (z : X). z ∷ map f xs) (each 0 x y refl refl)
    ∙ ap (λ (zs : List X). g y ∷ zs) (same_images f g xs ys (omega arith) (λ p a b e h. each (suc p) a b e h))

module _ (tree : Tree) (c : Code) (turns : List ℕ) (agrees : Agrees tree c turns) where
  abbrev by_word : Final
  by_word = word_final c (word_run c (groups_of tree) turns).0

  abbrev by_tree : Final
  by_tree = final_of tree (run_of tree turns).0

  same_statuses : by_word.statuses ≡ by_tree.statuses
  same_statuses =
      same_images standing standing (word_run c (groups_of tree) turns).0.processes (run_of tree turns).0.processes agrees.as_many
      (λ p r q here there.
      let both = agrees.processes p q r there here in
      let levels : length r.levels ≡ length q.levels =
      sym (length-map r.levels tried) ∙ ap length both.levels ∙ length-map q.levels tried in
      λ i. (both.status i, levels i))

  same_words : by_word.words ≡ by_tree.words
  same_words =
      same_images (λ (r : Process Standing Copy). variable_words c r.state) (λ (q : Process TreeState TreeState). global_words q.state.environment)
      (word_run c (groups_of tree) turns).0.processes (run_of tree turns).0.processes agrees.as_many
      (λ p r q here there. (agrees.processes p q r there here).variables)
      ∙ sym (map-map (λ (s : TreeState). global_words s.environment) (λ (q : Process TreeState TreeState). q.state) (run_of tree turns).0.processes)

  pub same_shown : (names : Naming) (position p : ℕ) → final_shown names position p by_word ≡ final_shown names position p by_tree
  same_shown names position p i = shown_text names position p (map state_of (same_statuses i)) (same_words i)

-- the same text wherever the same is shown
same_all : (one other : ℕ → ℕ → List ℕ) → ((position p : ℕ) → one position p ≡ other position p) → (orders : List Order) (position : ℕ)
    → all_shown one position orders ≡ all_shown other position orders
same_all one other same [] position = refl
same_all one other same (Forth n ∷ orders) position = same_all one other same orders (position + n)
same_all one other same (Back n ∷ orders) position = same_all one other same orders (position - n)
same_all one other same (Show p ∷ orders) position =
    ap (λ (text : List ℕ). text ++ all_shown one position orders) (same position p)
    ∙ ap (λ (text : List ℕ). other position p ++ text) (same_all one other same orders position)

pub session_agrees : (tree : Tree) (c : Code) → c.names ≡ naming_of tree → ((turns : List ℕ) → Agrees tree c turns) → (turns : List ℕ)
    (orders : List Order) → session_text c (groups_of tree) turns orders ≡ tree_session_text tree turns orders
session_agrees tree c names agrees turns orders =
    same_all (word_shown c (groups_of tree) turns) (tree_shown tree turns)
    (λ position p.
    ap (λ (one : Naming). final_shown one position p (word_final c (word_run c (groups_of tree) (take position turns)).0)) names
    ∙ same_shown tree c (take position turns) (agrees (take position turns)) (naming_of tree) position p)
    orders 0

pub session_as_meant : (c : Code) (groups : List Membership) (turns : List ℕ) (orders : List Order)
    → OfItsSource c groups (λ tree. session_text c groups turns orders ≡ tree_session_text tree turns orders)
session_as_meant c groups turns orders source tree slots accepted resolved stands same =
    ap (λ (all : List Membership). session_text c all turns orders) same
    ∙ session_agrees tree c stands.names_are (accepted_code_agrees source tree slots c accepted resolved stands) turns orders

-- so what is written
pub shown_as_meant : (c : Code) (groups : List Membership) (turns : List ℕ) (orders : List Order) (w0 w1 : Option (List ℕ)) (f0 f1 : Faults)
    (r : Result (Unit {0}) Stopped) → Shows (session_text c groups turns orders) w0 w1 f0 f1 r
    → OfItsSource c groups (λ tree. Shows (tree_session_text tree turns orders) w0 w1 f0 f1 r)
shown_as_meant c groups turns orders w0 w1 f0 f1 r shows source tree slots accepted resolved stands same =
    subst (λ (text : List ℕ). Shows text w0 w1 f0 f1 r) (session_as_meant c groups turns orders source tree slots accepted resolved stands same) shows

pub code_shows : CodeShowsAsMeant
code_shows source tree slots c accepted resolved stands turns orders =
    session_agrees tree c stands.names_are (accepted_code_agrees source tree slots c accepted resolved stands) turns orders
