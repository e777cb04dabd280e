-- Erasure in text: the lines of a plain run tell what was released, and its values what the states are.
use Rattle.std.proofs.Common.{◌≡◌, ℕ, ◌+◌, List, [], ◌∷◌, ◌++◌, map, codes, decimal, Ok, refl, sym, ap, ap₂, ◌∙◌}
use Rattle.std.specs.List.{flat_map}
use Rattle.std.proofs.lemmas.List.Folds.{flat_map-map}
use Rattle.std.proofs.lemmas.List.Concat.{flat_map-append}
use Rattle.rb_syntax.specs.Tree.{Tree}
use Rattle.rb_world.specs.Turn.{Told}
use Rattle.rb_world.specs.Erased.{Released, numbered, released_from, released_in}
use Rattle.rb_world.specs.Text.{Naming, channel_lines, line_of, out_lines, outs_text, process_word, value_lines, values_text}
use Rattle.rb_meaning.specs.Environment.{global_words}
use Rattle.rb_meaning.specs.State.{State}
use Rattle.rb_meaning.specs.Groups.{channels_of}
use Rattle.rb_meaning.specs.Meaning.{count_sent, count_taken, final_of, naming_of, run_of, survivors}
use Rattle.rb_meaning.specs.PlainRun.{plain_of, plain_text_at}
use Rattle.rb_meaning.specs.Laws.{ErasureInText, IsErased}
use Rattle.rb_meaning.proofs.Trees.TreeErasure.{erasure}

-- the line of what was released
abbrev released_line : Naming → Released → List ℕ
released_line names one = line_of (decimal one.turn ∷ codes "out" ∷ process_word names one.process ∷ one.line ∷ [])

lines_released : (names : Naming) (t p : ℕ) (lists : List (List (List ℕ)))
    → out_lines names t p lists ≡ flat_map (released_line names) (released_from t p lists)
lines_released names t p [] = refl
lines_released names t p (lines ∷ others) =
    let first : List Released = map (λ line. record { turn = t; process = p; line = line }) lines in
    ap₂ (λ (a b : List ℕ). a ++ b)
    (sym (flat_map-map (released_line names) (λ line. record { turn = t; process = p; line = line }) lines))
    (lines_released names t (p + 1) others)
    ∙ sym (flat_map-append (released_line names) first (released_from t (p + 1) others))

outs_released : (names : Naming) (lines : List (ℕ × Told)) → outs_text names lines ≡ flat_map (released_line names) (released_in lines)
outs_released names [] = refl
outs_released names ((t, one) ∷ others) =
    ap₂ (λ (a b : List ℕ). a ++ b) (lines_released names t 0 one.released) (outs_released names others)
    ∙ sym (flat_map-append (released_line names) (released_from t 0 one.released) (released_in others))

-- what the values tell of states
abbrev values_by : Tree → List State → List ℕ
values_by tree states =
    value_lines (naming_of tree).processes (map (λ s. global_words s.environment) states)
    ++ channel_lines (naming_of tree).channels (count_sent states 0 (channels_of tree)) (count_taken states 0 (channels_of tree))

text_of_erased : (tree : Tree) (turns : List ℕ) → IsErased tree turns
    → plain_text_at tree (plain_of tree (survivors (run_of tree turns).0))
    ≡ Ok (outs_text (naming_of tree) (numbered 1 (run_of tree turns).1) ++ values_text (naming_of tree) (final_of tree (run_of tree turns).0))
text_of_erased tree turns erased =
    let names : Naming = naming_of tree in
    ap (plain_text_at tree) erased.ran
    ∙ ap₂ (λ (a b : List ℕ). Ok (a ++ b))
    (outs_released names erased.lines ∙ ap (flat_map (released_line names)) erased.released
    ∙ sym (outs_released names (numbered 1 (run_of tree turns).1)))
    (ap (values_by tree) erased.states)

-- so the text of the plain run is that of what was released, and of the values
pub erasure_in_text : ErasureInText
erasure_in_text tree nested turns = text_of_erased tree turns (erasure tree nested turns)
