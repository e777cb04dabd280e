-- What is written after a survey: worlds that differ in turns used alone have the same text.
use Rattle.std.proofs.Common.{◌≡◌, ℕ, ◌+◌, cond, List, [], ◌∷◌, ◌++◌, codes, Option, Some, None, refl, sym, ap, ap₂, ◌∙◌}
use Rattle.std.specs.Option.{option_map}
use Rattle.rb_world.specs.Kind.{Kind}
use Rattle.rb_world.specs.Text.{Naming, line_of, process_word}
use Rattle.rb_world.specs.World.{Level, Process, last_of}
use Rattle.rb_code.specs.WordMachine.WordKind.{word_kind}
use Rattle.rb_machine.specs.Machine.{Seen}
use Rattle.rb_stuck.specs.Alike.{all_uncounted, uncounted, unused}
use Rattle.rb_stuck.specs.Stuck.{has_ended, line_words, text_of, waiting_text, waiting_words, want_words}
use Rattle.rb_stuck.specs.Survey.{StandsAfter}
use Rattle.rb_stuck.specs.declared.standing.Standing.{Standing}
use Rattle.rb_stuck.specs.declared.standing.Standing.TheVariants.{Ended, Stuck, Open}
use Rattle.rb_stuck.proofs.Still.Uncounted.{last_uncounted}

module _ {S C M : Type 0} (k : Kind S C M) (names : Naming) where
  line_uncounted : (o : Option (Level C)) → line_words names (option_map unused o) ≡ line_words names o
  line_uncounted None = refl
  line_uncounted (Some level) = refl

  words_uncounted : (q : Process S C) → waiting_words k names (uncounted q) ≡ waiting_words k names q
  words_uncounted q =
      ap (λ (words : List (List ℕ)). cond q.at_line (codes "at" ∷ codes "line" ∷ words) (want_words names (k.want q.state)))
      (ap (line_words names) (last_uncounted q.levels) ∙ line_uncounted (last_of q.levels))

  waiting_uncounted : (p : ℕ) (qs : List (Process S C)) → waiting_text k names p (all_uncounted qs) ≡ waiting_text k names p qs
  waiting_uncounted p [] = refl
  waiting_uncounted p (q ∷ qs) =
      ap₂ ◌++◌
      (ap (λ (words : List (List ℕ)). cond (has_ended q) [] (line_of (process_word names p ∷ codes "waits" ∷ words))) (words_uncounted q))
      (waiting_uncounted (p + 1) qs)

  waiting_alike : (qs rs : List (Process S C)) → all_uncounted qs ≡ all_uncounted rs → waiting_text k names 0 qs ≡ waiting_text k names 0 rs
  waiting_alike qs rs e = sym (waiting_uncounted 0 qs) ∙ ap (waiting_text k names 0) e ∙ waiting_uncounted 0 rs

-- what is written of a machine after it was surveyed is what is written of it before
pub text_stands : (old new : Seen) (names : Naming) (standing : Standing) → StandsAfter standing old new
    → text_of (word_kind new.code new.groups) names new.world.processes standing
    ≡ text_of (word_kind old.code old.groups) names old.world.processes standing
text_stands old new names Ended stood = refl
text_stands old new names Open stood = refl
text_stands old new names Stuck stood =
    (λ i. text_of (word_kind (stood.code i) (stood.groups i)) names new.world.processes Stuck)
    ∙ ap (λ (text : List ℕ). codes "stuck\n" ++ text)
    (waiting_alike (word_kind old.code old.groups) names new.world.processes old.world.processes stood.world.processes)
