-- Channels: slots that are read and written.
use Rattle.std.proofs.Common.{◌≡◌, ℕ, zero, suc, ◌+◌, ◌<◌, ◌≤◌, ◌%◌, ◌+ℤ◌, ℤ, pos, Option, Some, List, [], ◌∷◌, map, length, refl, ap, sym, ◌∙◌, arith}
use Rattle.std.specs.Prelude.{get_or, slice_get, slice_set}
use Rattle.std.specs.Option.{unwrap_or}
use Rattle.std.proofs.lemmas.List.{length-set}
use Rattle.rb_world.specs.Kind.{Ends}
use Rattle.rb_world.specs.Slots.{Slots, put_slot, size_on, slot_of}
use Rattle.rb_world.specs.World.{change_at}
use Rattle.rb_meaning.specs.Environment.{natural}
use Rattle.rb_cache.specs.Copies.{change_last, joined}
use Rattle.rb_code.specs.Instructions.Plain.{Code}
use Rattle.rb_code.specs.WordMachine.Workspace.{Counting, cursor_place, part_of, word_at}
use Rattle.rb_code.specs.WordMachine.Act.{Going, Outcome, Sight, on_top, put}
use Rattle.rb_recoverable.specs.Contents.{Contents}
use Rattle.rb_proc.specs.Outcomes.{mem}
use Rattle.rb_proc.specs.Sees.{FitSizes}

pub change_there : {A : Type 0} (k : ℕ) (f : A → A) (xs : List A) (d : A) → k < length xs → change_at k f xs ≡ slice_set xs k (f (get_or xs k d))
change_there k f [] d h = absurd (omega arith)
change_there zero f (x ∷ xs) d h = refl
change_there {A} (suc k) f (x ∷ xs) d h = ap (λ (ys : List A). x ∷ ys) (change_there k f xs d (omega arith))

pub change_beyond : {A : Type 0} (k : ℕ) (f : A → A) (xs : List A) → length xs ≤ k → change_at k f xs ≡ xs
change_beyond k f [] h = refl
change_beyond zero f (x ∷ xs) h = absurd (omega arith)
change_beyond {A} (suc k) f (x ∷ xs) h = ap (λ (ys : List A). x ∷ ys) (change_beyond k f xs (omega arith))

-- what lies in a slot
pub slot_there : (channels : List Ends) (slots : Slots) (k n : ℕ) (v : ℤ) → FitSizes (map length slots) channels → k < length slots
    → slice_get (get_or slots k []) (n % length (get_or slots k [])) ≡ Some v → v ≡ slot_of channels slots k n
slot_there channels [] k n v e h s = absurd (omega arith)
slot_there [] (values ∷ slots) k n v e h s = absurd e
slot_there (ends ∷ channels) (values ∷ slots) zero n v e h s =
    sym (ap (λ (o : Option ℤ). unwrap_or o (pos 0)) (ap (λ m. slice_get values (n % m)) (sym e.0) ∙ s))
slot_there (ends ∷ channels) (values ∷ slots) (suc k) n v e h s = slot_there channels slots k n v e.1 (omega arith) s

pub slot_none : (channels : List Ends) (slots : Slots) (k n : ℕ) → length slots ≤ k → pos 0 ≡ slot_of channels slots k n
slot_none channels [] k n h = refl
slot_none channels (values ∷ slots) zero n h = absurd (omega arith)
slot_none [] (values ∷ slots) (suc k) n h = slot_none [] slots k n (omega arith)
slot_none (ends ∷ channels) (values ∷ slots) (suc k) n h = slot_none channels slots k n (omega arith)

-- slots by the size of their channel
pub sized_change : (slots : Slots) (channels : List Ends) (k n : ℕ) (v : ℤ) → FitSizes (map length slots) channels
    → change_at k (λ (values : List ℤ). slice_set values (n % length values) v) slots
    ≡ change_at k (λ (values : List ℤ). slice_set values (n % size_on channels k) v) slots
sized_change [] channels k n v e = refl
sized_change (values ∷ slots) [] k n v e = absurd e
sized_change (values ∷ slots) (ends ∷ channels) zero n v e =
    ap (λ m. slice_set values (n % m) v ∷ slots) e.0
sized_change (values ∷ slots) (ends ∷ channels) (suc k) n v e =
    ap (λ (s : Slots). values ∷ s) (sized_change slots channels k n v e.1)

-- a slot that is written leaves each channel as many
pub lengths_kept : (k : ℕ) (n : List ℤ → ℕ) (v : ℤ) (slots : Slots)
    → map length (change_at k (λ (values : List ℤ). slice_set values (n values) v) slots) ≡ map length slots
lengths_kept k n v [] = refl
lengths_kept zero n v (values ∷ slots) = ap (λ l. l ∷ map length slots) (length-set values (n values) v)
lengths_kept (suc k) n v (values ∷ slots) = ap (λ (ls : List ℕ). length values ∷ ls) (lengths_kept k n v slots)

-- a value is put into a channel
pub put_comes : (c : Code) (see : Sight) (p channel at place : ℕ) (ops rest : List ℤ) (v cursor next : ℤ) (old new : Contents) (before after : Slots)
    (pieces : List (List ℕ)) (counters : List (Option Counting)) → see.process ≡ p → ops ≡ v ∷ rest → place ≡ cursor_place (part_of c p) channel
    → cursor ≡ word_at old.words place → next ≡ cursor +ℤ pos 1
    → new ≡ record old { words = slice_set old.words place next; touched = change_last (joined (place ∷ [])) old.touched }
    → after ≡ put_slot c.channels channel (natural cursor) v before
    → Going (at + 1) rest (mem new pieces counters after)
    ≡ on_top ops (λ w others. Going (at + 1) others (put c see channel w (mem old pieces counters before)))
put_comes c see p channel at place ops rest v cursor next old new before after pieces counters process_is ops_are place_is cursor_is next_is new_is after_is =
    let changed : ℕ → ℤ → Contents =
    λ (k : ℕ) (z : ℤ). record old { words = slice_set old.words k z; touched = change_last (joined (k ∷ [])) old.touched } in
    let goes : Contents → Slots → Outcome = λ (r : Contents) (s : Slots). Going (at + 1) rest (mem r pieces counters s) in
    let slots : ℤ → Slots = λ (z : ℤ). put_slot c.channels channel (natural z) v before in
    ap (λ (r : Contents). goes r after) new_is
    ∙ ap (λ (s : Slots). goes (changed place next) s) after_is
    ∙ ap (λ (z : ℤ). goes (changed place z) (slots cursor)) next_is
    ∙ ap (λ (z : ℤ). goes (changed place (z +ℤ pos 1)) (slots z)) cursor_is
    ∙ ap (λ (k : ℕ). goes (changed k (word_at old.words k +ℤ pos 1)) (slots (word_at old.words k))) place_is
    ∙ ap (λ (q : ℕ). goes (changed (cursor_place (part_of c q) channel) (word_at old.words (cursor_place (part_of c q) channel) +ℤ pos 1))
    (slots (word_at old.words (cursor_place (part_of c q) channel)))) (sym process_is)
    ∙ ap (λ (os : List ℤ). on_top os (λ w others. Going (at + 1) others (put c see channel w (mem old pieces counters before)))) (sym ops_are)
