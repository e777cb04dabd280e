-- Worlds of related kinds stand in the same way.
use Rattle.std.proofs.Common.{◌≡◌, ℕ, ◌+◌, zero, suc, Bool, true, false, ◌&&◌, cond, List, [], ◌∷◌, ◌++◌, codes, length, Option, Some, None, refl, ap, ap₂, ◌∙◌, subst, arith}
use Rattle.std.specs.List.{list_all}
use Rattle.rb_world.specs.Kind.{Facts, Kind}
use Rattle.rb_world.specs.Text.{Naming, line_of, process_word}
use Rattle.rb_world.specs.Turn.{run, turn}
use Rattle.rb_world.specs.World.{Level, Process, World, last_of}
use Rattle.rb_world.proofs.Relating.MarksMeet.{OptionsMeet, SameMark, last_marks}
use Rattle.rb_world.proofs.Relating.ProcessesMeet.{AllMeet, ProcessesMeet, WorldsMeet}
use Rattle.rb_world.proofs.Relating.RunsMeet.{KeepsKnown}
use Rattle.rb_world.proofs.Relating.Simulation.{Shared, Related, Knowing, IsSimulation, copies_of}
use Rattle.rb_world.proofs.Relating.TurnsMeet.{KnowsTurn, turn_meets}
use Rattle.rb_stuck.specs.Stuck.{all_still, conversation_words, has_ended, is_final, is_still, line_words, standing, standing_text, stands_still, text_of, waiting_text, waiting_words, want_words}
use Rattle.rb_stuck.specs.declared.standing.Standing.{Standing}
use Rattle.rb_stuck.specs.declared.standing.Standing.TheVariants.{Ended, Stuck, Open}

-- what is known along a run is known at its end
pub known_at_end : {S C M : Type 0} {k : Kind S C M} {known : Knowing S C M} {holds : ℕ → World S C M → Type 0} → KeepsKnown k known holds
    → (t : ℕ) (turns : List ℕ) (w : World S C M) → holds t w → holds (length turns + t) (run k t turns w).0
known_at_end {holds = holds} along t [] w first = subst (λ n. holds n w) (omega arith) first
known_at_end {k = k} {holds = holds} along t (p ∷ turns) w first =
    subst (λ n. holds n (run k t (p ∷ turns) w).0) (omega arith) (known_at_end along (t + 1) turns (turn k t p w).0 (along.stays t p w first))

-- where both words are told, or neither
either_words : {A : Type 0} (b d : Bool) (x y x' y' : A) → b ≡ d → (b ≡ true → x ≡ x') → (b ≡ false → y ≡ y') → cond b x y ≡ cond d x' y'
either_words true true x y x' y' e one other = one refl
either_words true false x y x' y' e one other = absurd (cc)
either_words false true x y x' y' e one other = absurd (cc)
either_words false false x y x' y' e one other = other refl

module _ {S C M T D N : Type 0} {k : Kind S C M} {l : Kind T D N} {shared : Shared M N} {related : Related S C M T D N} {known : Knowing S C M}
    (laws : IsSimulation k l shared related known) (names : Naming) where
  same_line : (o : Option (Level C)) (o' : Option (Level D)) → OptionsMeet SameMark o o' → line_words names o ≡ line_words names o'
  same_line None None e = refl
  same_line None (Some m) e = absurd e
  same_line (Some l) None e = absurd e
  same_line (Some l) (Some m) e = ap (λ (facts : Facts). conversation_words names facts.conversation) e.facts

  module _ (m : M) (n : N) where
    same_words : (q : Process S C) (r : Process T D) → ProcessesMeet related m n q r → waiting_words k names q ≡ waiting_words l names r
    same_words q r both =
        either_words q.at_line r.at_line (codes "at" ∷ codes "line" ∷ line_words names (last_of q.levels)) (want_words names (k.want q.state))
        (codes "at" ∷ codes "line" ∷ line_words names (last_of r.levels)) (want_words names (l.want r.state)) both.lines
        (λ _. ap (λ (words : List (List ℕ)). codes "at" ∷ codes "line" ∷ words)
        (same_line (last_of q.levels) (last_of r.levels) (last_marks q.levels r.levels both.marks)))
        (λ away. ap (want_words names)
        (laws.want m n (copies_of q.levels) q.state (copies_of r.levels) r.state
        (subst (λ line. related line m n (copies_of q.levels) q.state (copies_of r.levels) r.state) away both.states)))

    same_waiting : (p : ℕ) (qs : List (Process S C)) (rs : List (Process T D)) → AllMeet related m n qs rs
        → waiting_text k names p qs ≡ waiting_text l names p rs
    same_waiting p [] [] e = refl
    same_waiting p [] (r ∷ rs) e = absurd e
    same_waiting p (q ∷ qs) [] e = absurd e
    same_waiting p (q ∷ qs) (r ∷ rs) e =
        ap₂ ◌++◌
        (ap₂ (λ (ended : Bool) (words : List (List ℕ)). cond ended [] (line_of (process_word names p ∷ codes "waits" ∷ words)))
        (ap is_final e.0.statuses) (same_words q r e.0))
        (same_waiting (p + 1) qs rs e.1)

    same_ended : (qs : List (Process S C)) (rs : List (Process T D)) → AllMeet related m n qs rs → list_all has_ended qs ≡ list_all has_ended rs
    same_ended [] [] e = refl
    same_ended [] (r ∷ rs) e = absurd e
    same_ended (q ∷ qs) [] e = absurd e
    same_ended (q ∷ qs) (r ∷ rs) e = ap₂ ◌&&◌ (ap is_final e.0.statuses) (same_ended qs rs e.1)

    same_count : (qs : List (Process S C)) (rs : List (Process T D)) → AllMeet related m n qs rs → length qs ≡ length rs
    same_count [] [] e = refl
    same_count [] (r ∷ rs) e = absurd e
    same_count (q ∷ qs) [] e = absurd e
    same_count (q ∷ qs) (r ∷ rs) e = ap suc (same_count qs rs e.1)

  module _ (t : ℕ) (w : World S C M) (v : World T D N) (knows : (p : ℕ) → KnowsTurn known t p w) (meets : WorldsMeet shared related w v) where
    same_stillness : (p : ℕ) → stands_still k t w p ≡ stands_still l t v p
    same_stillness p = ap (λ told. is_still told.kind) (turn_meets laws t p w v (knows p) meets).same_told

    all_same : (b : ℕ) → all_still k t w b ≡ all_still l t v b
    all_same zero = refl
    all_same (suc b) = ap₂ ◌&&◌ (all_same b) (same_stillness b)

    same_standing : standing k t w ≡ standing l t v
    same_standing =
        ap₂ (λ (ended stuck : Bool). cond ended Ended (cond stuck Stuck Open))
        (same_ended w.memory v.memory w.processes v.processes meets.processes)
        (all_same (length w.processes)
        ∙ ap (all_still l t v) (same_count w.memory v.memory w.processes v.processes meets.processes))

    same_text_of : (s : Standing) → text_of k names w.processes s ≡ text_of l names v.processes s
    same_text_of Ended = refl
    same_text_of Open = refl
    same_text_of Stuck = ap (λ (text : List ℕ). codes "stuck\n" ++ text) (same_waiting w.memory v.memory 0 w.processes v.processes meets.processes)

    -- and so is what is written of it
    pub same_standing_text : standing_text k names t w ≡ standing_text l names t v
    same_standing_text =
        same_text_of (standing k t w) ∙ ap (text_of l names v.processes) same_standing
