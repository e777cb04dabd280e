-- Processes that agree end alike: in their statuses and variables, and in what was sent on each channel and taken from it.
use Rattle.std.proofs.Common.{◌≡◌, ℕ, ℤ, ◌+◌, suc, List, [], ◌∷◌, length, map, option_map, slice_get, Option, Some, None, refl, sym, ap, ap₂, ◌∙◌, subst, arith}
use Rattle.std.proofs.lemmas.Option.{slice_get-map}
use Rattle.rb_syntax.specs.Tree.{Tree}
use Rattle.rb_world.specs.Kind.{Ends}
use Rattle.rb_world.specs.World.{Level, Process, ProcessStatus}
use Rattle.rb_world.specs.Slots.{Slots}
use Rattle.rb_world.proofs.ListFacts.{none_some, some_same}
use Rattle.rb_world.proofs.Relating.MarksMeet.{OptionsMeet, SameMarks, same_length}
use Rattle.rb_world.proofs.Relating.ProcessesMeet.{ProcessesMeet, AllMeet, get_meets}
use Rattle.rb_meaning.specs.Environment.{global_words}
use Rattle.rb_meaning.specs.State.{State}
use Rattle.rb_meaning.specs.Step.{Nothing}
use Rattle.rb_meaning.specs.Groups.{channels_of}
use Rattle.rb_meaning.specs.Meaning.{by_state, count_sent, count_taken, sent_on, standing, taken_on}
use Rattle.rb_code.specs.Instructions.Plain.{Code}
use Rattle.rb_code.specs.Agreement.Laws.{ProcessAgrees, Tried, tried}
use Rattle.rb_code.specs.WordMachine.Turn.{Common, Copy, Standing}
use Rattle.rb_code.specs.WordMachine.WordKind.{sent_by, taken_by}
use Rattle.rb_code.specs.WordMachine.WordRun.{by_standing, counts_sent, counts_taken, variable_words}
use Rattle.rb_code.proofs.WholeRuns.Agreeing.{Meeting, IsAgreeing}
use Rattle.rb_code.proofs.WholeRuns.BothAgree.{Agreed}

-- levels that differ in their copies alone
tried_same : (ls : List (Level State)) (ms : List (Level Copy)) → SameMarks ls ms → map tried ms ≡ map tried ls
tried_same [] [] same = refl
tried_same [] (m ∷ ms) same = absurd same
tried_same (l ∷ ls) [] same = absurd same
tried_same (l ∷ ls) (m ∷ ms) same =
    ap₂ (λ (one : Tried) (others : List Tried). one ∷ others)
    (λ i. record { facts = sym same.0.facts i; alternate = sym same.0.alternate i; used = sym same.0.used i }) (tried_same ls ms same.1)

module _ (tree : Tree) (c : Code) (meets : Meeting) (laws : IsAgreeing tree c meets) (m : Nothing × Slots) (n : Common) where
  abbrev Meet : Process State State → Process Standing Copy → Type 0
  Meet q r = ProcessesMeet (Agreed meets) m n q r

  abbrev pub AllAgree : List (Process State State) → List (Process Standing Copy) → Type 0
  AllAgree qs rs = AllMeet (Agreed meets) m n qs rs

  -- one process
  pub process_agrees : (q : Process State State) (r : Process Standing Copy) → ProcessesMeet (Agreed meets) m n q r → ProcessAgrees c n.links q r
  process_agrees q r both =
      let agree = both.states in
      record {
        status = sym both.statuses;
        at_line = sym both.lines;
        levels = tried_same q.levels r.levels both.marks;
        held = agree.lines;
        variables = laws.variables q.at_line _ q.state _ r.state agree.they_meet;
        sent = λ channel. sym (laws.sent q.at_line _ q.state _ r.state channel agree.they_meet);
        taken = λ channel. sym (laws.taken q.at_line _ q.state _ r.state channel agree.they_meet);
        kept = agree.kept.reach;
      }

  same_agrees : (q : Option (Process State State)) (r : Option (Process Standing Copy)) (a : Process State State) (b : Process Standing Copy)
      → OptionsMeet Meet q r → q ≡ Some a → r ≡ Some b → ProcessAgrees c n.links a b
  same_agrees None r a b both e f = absurd (none_some e)
  same_agrees (Some q) None a b both e f = absurd (none_some f)
  same_agrees (Some q) (Some r) a b both e f =
      subst (λ (x : Process State State). ProcessAgrees c n.links x b) (some_same e)
      (subst (λ (y : Process Standing Copy). ProcessAgrees c n.links q y) (some_same f) (process_agrees q r both))

  -- each of all processes
  pub each_agrees : (qs : List (Process State State)) (rs : List (Process Standing Copy)) → AllAgree qs rs
      → (p : ℕ) (q : Process State State) (r : Process Standing Copy)
      → slice_get qs p ≡ Some q → slice_get rs p ≡ Some r → ProcessAgrees c n.links q r
  each_agrees qs rs all p q r e f = same_agrees (slice_get qs p) (slice_get rs p) q r (get_meets (Agreed meets) m n qs rs p all) e f

  pub same_number : (qs : List (Process State State)) (rs : List (Process Standing Copy)) → AllAgree qs rs → length rs ≡ length qs
  same_number [] [] all = refl
  same_number [] (r ∷ rs) all = absurd all
  same_number (q ∷ qs) [] all = absurd all
  same_number (q ∷ qs) (r ∷ rs) all = ap suc (same_number qs rs all.1)

  pub statuses_same : (qs : List (Process State State)) (rs : List (Process Standing Copy)) → AllAgree qs rs → map standing rs ≡ map standing qs
  statuses_same [] [] all = refl
  statuses_same [] (r ∷ rs) all = absurd all
  statuses_same (q ∷ qs) [] all = absurd all
  statuses_same (q ∷ qs) (r ∷ rs) all =
      ap₂ (λ (one : ProcessStatus × ℕ) (others : List (ProcessStatus × ℕ)). one ∷ others)
      (λ i. (sym all.0.statuses i, sym (same_length q.levels r.levels all.0.marks) i)) (statuses_same qs rs all.1)

  pub words_same : (qs : List (Process State State)) (rs : List (Process Standing Copy)) → AllAgree qs rs
      → map (λ r. variable_words c r.state) rs ≡ map (λ s. global_words s.environment) (map (λ q. q.state) qs)
  words_same [] [] all = refl
  words_same [] (r ∷ rs) all = absurd all
  words_same (q ∷ qs) [] all = absurd all
  words_same (q ∷ qs) (r ∷ rs) all =
      ap₂ (λ (one : List ℤ) (others : List (List ℤ)). one ∷ others)
      (laws.variables q.at_line _ q.state _ r.state all.0.states.they_meet) (words_same qs rs all.1)

  -- how many were sent or taken, by the process at one end
  module _ (by_words : Standing → ℕ) (by_lists : State → ℕ)
      (same : (q : Process State State) (r : Process Standing Copy) → Meet q r → by_words r.state ≡ by_lists q.state) where
    end_same : (q : Option (Process State State)) (r : Option (Process Standing Copy)) → OptionsMeet Meet q r
        → by_standing by_words (option_map (λ z. z.state) r) ≡ by_state by_lists 0 (option_map (λ z. z.state) q)
    end_same None None both = refl
    end_same None (Some r) both = absurd both
    end_same (Some q) None both = absurd both
    end_same (Some q) (Some r) both = same q r both

    pub count_same : (qs : List (Process State State)) (rs : List (Process Standing Copy)) → AllAgree qs rs → (p : ℕ)
        → by_standing by_words (slice_get (map (λ z. z.state) rs) p) ≡ by_state by_lists 0 (slice_get (map (λ z. z.state) qs) p)
    count_same qs rs all p =
        ap (by_standing by_words) (slice_get-map (λ (z : Process Standing Copy). z.state) rs p)
        ∙ end_same (slice_get qs p) (slice_get rs p) (get_meets (Agreed meets) m n qs rs p all)
        ∙ ap (by_state by_lists 0) (sym (slice_get-map (λ (z : Process State State). z.state) qs p))

  -- the channels from number k on
  abbrev StandFrom : ℕ → List Ends → Type 0
  StandFrom k channels = (i j : ℕ) (ends : Ends) → j ≡ k + i → slice_get channels i ≡ Some ends → slice_get c.channels j ≡ Some ends

  sent_there : (k : ℕ) (ends : Ends) → slice_get c.channels k ≡ Some ends → (q : Process State State) (r : Process Standing Copy) → Meet q r
      → sent_by c r.state.process r.state.words k (Some ends) ≡ length (sent_on q.state k)
  sent_there k ends there q r both =
      ap (sent_by c r.state.process r.state.words k) (sym there) ∙ sym (laws.sent q.at_line _ q.state _ r.state k both.states.they_meet)

  taken_there : (k : ℕ) (ends : Ends) → slice_get c.channels k ≡ Some ends → (q : Process State State) (r : Process Standing Copy) → Meet q r
      → taken_by c r.state.process r.state.words k (Some ends) ≡ taken_on q.state k
  taken_there k ends there q r both =
      ap (taken_by c r.state.process r.state.words k) (sym there) ∙ sym (laws.taken q.at_line _ q.state _ r.state k both.states.they_meet)

  module _ (qs : List (Process State State)) (rs : List (Process Standing Copy)) (all : AllAgree qs rs) where
    sent_from : (k : ℕ) (channels : List Ends) → StandFrom k channels
        → counts_sent c (map (λ r. r.state) rs) k channels ≡ count_sent (map (λ q. q.state) qs) k channels
    sent_from k [] at = refl
    sent_from k (ends ∷ channels) at =
        ap₂ ◌∷◌ (count_same (λ u. sent_by c u.process u.words k (Some ends)) (λ s. length (sent_on s k))
        (sent_there k ends (at 0 k ends (omega arith) refl)) qs rs all ends.sender)
        (sent_from (k + 1) channels (λ i j one same there. at (suc i) j one (omega (arith, same)) there))

    taken_from : (k : ℕ) (channels : List Ends) → StandFrom k channels
        → counts_taken c (map (λ r. r.state) rs) k channels ≡ count_taken (map (λ q. q.state) qs) k channels
    taken_from k [] at = refl
    taken_from k (ends ∷ channels) at =
        ap₂ ◌∷◌ (count_same (λ u. taken_by c u.process u.words k (Some ends)) (λ s. taken_on s k)
        (taken_there k ends (at 0 k ends (omega arith) refl)) qs rs all ends.receiver)
        (taken_from (k + 1) channels (λ i j one same there. at (suc i) j one (omega (arith, same)) there))

    all_stand : StandFrom 0 c.channels
    all_stand i j ends same there = subst (λ (k : ℕ). slice_get c.channels k ≡ Some ends) (omega (arith, same)) there

    pub sent_same : c.channels ≡ channels_of tree
        → counts_sent c (map (λ r. r.state) rs) 0 c.channels ≡ count_sent (map (λ q. q.state) qs) 0 (channels_of tree)
    sent_same channels_are = sent_from 0 c.channels all_stand ∙ ap (count_sent (map (λ q. q.state) qs) 0) channels_are

    pub taken_same : c.channels ≡ channels_of tree
        → counts_taken c (map (λ r. r.state) rs) 0 c.channels ≡ count_taken (map (λ q. q.state) qs) 0 (channels_of tree)
    taken_same channels_are = taken_from 0 c.channels all_stand ∙ ap (count_taken (map (λ q. q.state) qs) 0) channels_are
