-- A cursor that rises: one more value is sent on a channel, or taken from it.
use Rattle.std.proofs.Common.{◌≡◌, ◌⊎◌, inl, inr, ◌<◌, ℕ, ◌+◌, ℤ, pos, ◌+ℤ◌, nat_eq, Bool, true, false, List, [], ◌∷◌, ◌++◌, length, option_map, slice_get, slice_set, unwrap_or, Some, refl, sym, ap, ◌∙◌, subst, arith}
use Rattle.std.proofs.lemmas.Bool.{eqb-true, eqb-false}
use Rattle.std.proofs.lemmas.Int.{ints}
use Rattle.rb_world.proofs.ListFacts.{length-end, slice_get-change_at, slice_get-change_other, slice_get-there, some_same}
use Rattle.rb_world.specs.Kind.{Ends}
use Rattle.rb_world.specs.World.{change_at}
use Rattle.rb_syntax.specs.Tree.{Tree}
use Rattle.rb_meaning.specs.State.{State, with_sent, with_taken}
use Rattle.rb_meaning.specs.Meaning.{sent_on, taken_on}
use Rattle.rb_code.specs.Instructions.Plain.{Code}
use Rattle.rb_code.specs.WordMachine.Workspace.{OpenCall, cursor_place, held_place, part_of, word_at}
use Rattle.rb_code.proofs.InWords.Environments.{laid_long}
use Rattle.rb_code.proofs.InWords.Fronts.{cursor_apart, laid_written, word_other, word_set}
use Rattle.rb_code.proofs.Agreeing.StatesMeet.{WordsMeet}
use Rattle.rb_code.proofs.Agreeing.StepOutcomes.{HasCursors, cursor_in_front}

-- process number p is the sender of a channel, or its receiver
pub record IsSender (c : Code) (p : ℕ) (s : State) (channel : ℕ) : Type 0 where
  pub ends : Ends
  pub at : slice_get c.channels channel ≡ Some ends
  pub is : ends.sender ≡ p
  pub within : channel < length s.sent

pub record IsReceiver (c : Code) (p : ℕ) (s : State) (channel : ℕ) : Type 0 where
  pub ends : Ends
  pub at : slice_get c.channels channel ≡ Some ends
  pub is : ends.receiver ≡ p
  pub within : channel < length s.taken

-- one value more
abbrev pub one_sent : ℕ → ℤ → State → State
one_sent channel v s = with_sent (change_at channel (λ values. values ++ v ∷ []) s.sent) s

abbrev pub one_taken : ℕ → State → State
one_taken channel s = with_taken (change_at channel (λ n. n + 1) s.taken) s

-- what was changed at a place that a list has
changed_there : {A : Type 0} (xs : List A) (k : ℕ) (f : A → A) (d : A) → k < length xs
    → unwrap_or (slice_get (change_at k f xs) k) d ≡ f (unwrap_or (slice_get xs k) d)
changed_there xs k f d h =
    let there = slice_get-there xs k h in
    ap (λ o. unwrap_or o d) (slice_get-change_at k f xs ∙ ap (option_map f) there.1) ∙ ap (λ o. f (unwrap_or o d)) (sym there.1)

pub sent_there : (s : State) (channel : ℕ) (v : ℤ) → channel < length s.sent → sent_on (one_sent channel v s) channel ≡ sent_on s channel ++ v ∷ []
sent_there s channel v h = changed_there s.sent channel (λ values. values ++ v ∷ []) [] h

sent_elsewhere : (s : State) (channel other : ℕ) (v : ℤ) → (other ≡ channel → ⊥) → sent_on (one_sent channel v s) other ≡ sent_on s other
sent_elsewhere s channel other v ne = ap (λ o. unwrap_or o []) (slice_get-change_other channel (λ values. values ++ v ∷ []) s.sent other ne)

taken_there : (s : State) (channel : ℕ) → channel < length s.taken → taken_on (one_taken channel s) channel ≡ taken_on s channel + 1
taken_there s channel h = changed_there s.taken channel (λ n. n + 1) 0 h

taken_elsewhere : (s : State) (channel other : ℕ) → (other ≡ channel → ⊥) → taken_on (one_taken channel s) other ≡ taken_on s other
taken_elsewhere s channel other ne = ap (λ o. unwrap_or o 0) (slice_get-change_other channel (λ n. n + 1) s.taken other ne)

risen_to : (w : ℤ) (n : ℕ) → w ≡ pos n → w +ℤ pos 1 ≡ pos (n + 1)
risen_to w n e = ap (λ z. z +ℤ pos 1) e ∙ omega (arith, ints)

module _ (tree : Tree) (c : Code) (p : ℕ) (has : HasCursors c p) (s : State) (all : List ℤ) (calls : List OpenCall)
    (w : WordsMeet tree c p s all calls) where
  -- the words with the cursor of a channel one further
  abbrev pub raised : ℕ → List ℤ
  raised channel = slice_set all (cursor_place (part_of c p) channel) (word_at all (cursor_place (part_of c p) channel) +ℤ pos 1)

  module _ (channel : ℕ) (ends : Ends) (at : slice_get c.channels channel ≡ Some ends) (mine : (ends.sender ≡ p) ⊎ (ends.receiver ≡ p)) where
    raised_there : word_at (raised channel) (cursor_place (part_of c p) channel) ≡ word_at all (cursor_place (part_of c p) channel) +ℤ pos 1
    raised_there =
        let long = laid_long (part_of c p) w.front s.environment all calls w.laid in
        let inside = cursor_in_front c p channel ends has at mine in
        word_set all (cursor_place (part_of c p) channel) _ (omega (arith, long, inside))

    raised_elsewhere : (other : ℕ) → (other ≡ channel → ⊥)
        → word_at (raised channel) (cursor_place (part_of c p) other) ≡ word_at all (cursor_place (part_of c p) other)
    raised_elsewhere other ne =
        word_other all (cursor_place (part_of c p) channel) (cursor_place (part_of c p) other) _
        (cursor_apart (part_of c p) channel other (has.place channel ends at mine) (λ e. ne (sym e)))

    raised_held : word_at (raised channel) held_place ≡ word_at all held_place
    raised_held = word_other all (cursor_place (part_of c p) channel) held_place _ (λ e. absurd (omega (arith, e)))

  -- by whether a channel is the one
  by_channel : (P : ℕ → Type 0) (channel other : ℕ) → P channel → ((other ≡ channel → ⊥) → P other) → P other
  by_channel P channel other here elsewhere = by (nat_eq other channel) refl
    where
      by : (b : Bool) → nat_eq other channel ≡ b → P other
      by true e = subst P (sym (eqb-true other channel e)) here
      by false e = elsewhere (eqb-false other channel e)

  pub words_sent : (channel : ℕ) (v : ℤ) → IsSender c p s channel → WordsMeet tree c p (one_sent channel v s) (raised channel) calls
  words_sent channel v me =
      let mine : (me.ends.sender ≡ p) ⊎ (me.ends.receiver ≡ p) = inl me.is in
      let inside = cursor_in_front c p channel me.ends has me.at mine in
      record {
        front = slice_set w.front (cursor_place (part_of c p) channel) (word_at all (cursor_place (part_of c p) channel) +ℤ pos 1);
        laid = laid_written (part_of c p) w.front s.environment all calls (cursor_place (part_of c p) channel) _ w.laid inside;
        globals = w.globals;
        few = w.few;
        held = raised_held channel me.ends me.at mine ∙ w.held;
        sent = λ other ends at is.
            by_channel (λ x. word_at (raised channel) (cursor_place (part_of c p) x) ≡ pos (length (sent_on (one_sent channel v s) x))) channel other
            (raised_there channel me.ends me.at mine ∙ risen_to _ (length (sent_on s channel)) (w.sent channel me.ends me.at me.is)
            ∙ ap (λ n. pos n) (one_more (sent_on s channel) v ∙ ap length (sym (sent_there s channel v me.within))))
            (λ ne. raised_elsewhere channel me.ends me.at mine other ne ∙ w.sent other ends at is
            ∙ ap (λ xs. pos (length xs)) (sym (sent_elsewhere s channel other v ne)));
        taken = λ other ends at is.
            raised_elsewhere channel me.ends me.at mine other (λ e. not_both other ends at is e) ∙ w.taken other ends at is;
      }
    where
      one_more : (xs : List ℤ) (v : ℤ) → length xs + 1 ≡ length (xs ++ v ∷ [])
      one_more xs v = omega (arith, length-end xs v)

      not_both : (other : ℕ) (ends : Ends) → slice_get c.channels other ≡ Some ends → ends.receiver ≡ p → other ≡ channel → ⊥
      not_both other ends at is e =
          let same : me.ends ≡ ends = some_same (sym me.at ∙ ap (slice_get c.channels) (sym e) ∙ at) in
          has.apart channel me.ends me.at me.is (ap (λ (x : Ends). x.receiver) same ∙ is)

  pub words_taken : (channel : ℕ) → IsReceiver c p s channel → WordsMeet tree c p (one_taken channel s) (raised channel) calls
  words_taken channel me =
      let mine : (me.ends.sender ≡ p) ⊎ (me.ends.receiver ≡ p) = inr me.is in
      let inside = cursor_in_front c p channel me.ends has me.at mine in
      record {
        front = slice_set w.front (cursor_place (part_of c p) channel) (word_at all (cursor_place (part_of c p) channel) +ℤ pos 1);
        laid = laid_written (part_of c p) w.front s.environment all calls (cursor_place (part_of c p) channel) _ w.laid inside;
        globals = w.globals;
        few = w.few;
        held = raised_held channel me.ends me.at mine ∙ w.held;
        sent = λ other ends at is.
            raised_elsewhere channel me.ends me.at mine other (λ e. not_both other ends at is e) ∙ w.sent other ends at is;
        taken = λ other ends at is.
            by_channel (λ x. word_at (raised channel) (cursor_place (part_of c p) x) ≡ pos (taken_on (one_taken channel s) x)) channel other
            (raised_there channel me.ends me.at mine ∙ risen_to _ (taken_on s channel) (w.taken channel me.ends me.at me.is)
            ∙ ap (λ n. pos n) (sym (taken_there s channel me.within)))
            (λ ne. raised_elsewhere channel me.ends me.at mine other ne ∙ w.taken other ends at is
            ∙ ap (λ n. pos n) (sym (taken_elsewhere s channel other ne)));
      }
    where
      not_both : (other : ℕ) (ends : Ends) → slice_get c.channels other ≡ Some ends → ends.sender ≡ p → other ≡ channel → ⊥
      not_both other ends at is e =
          let same : me.ends ≡ ends = some_same (sym me.at ∙ ap (slice_get c.channels) (sym e) ∙ at) in
          has.apart channel me.ends me.at (ap (λ (x : Ends). x.sender) same ∙ is) me.is
