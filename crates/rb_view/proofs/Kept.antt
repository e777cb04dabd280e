-- What is read of a machine is what is shown of it.
use Rattle.std.proofs.Common.{◌≡◌, ℕ, zero, suc, ◌+◌, ◌-◌, ◌<◌, ◌^◌, ℤ, List, [], ◌∷◌, ◌++◌, length, map, slice_get, take, unwrap_or, Option, Some, None, refl, ap, sym, ◌∙◌, subst, arith}
use Rattle.std.proofs.lemmas.List.{length-map, map_more}
use Rattle.std.proofs.lemmas.Option.{get_or_from_slice_get, slice_get_within}
use Rattle.rb_base.specs.Lines.{belonging}
use Rattle.rb_world.specs.Kind.{Ends}
use Rattle.rb_world.specs.Slots.{Slots, slot_of}
use Rattle.rb_world.specs.World.{Level, Process}
use Rattle.rb_world.proofs.ListFacts.{none_some, slice_get-there, some_same}
use Rattle.rb_code.specs.WordMachine.Turn.{Copy, Standing}
use Rattle.rb_code.specs.Instructions.Plain.{Part}
use Rattle.rb_code.specs.WordMachine.WordRun.{variable_words}
use Rattle.rb_code.specs.WordMachine.Workspace.{part_of}
use Rattle.rb_recoverable.specs.Views.{IsEntryOf, IsViewOf}
use Rattle.rb_recoverable.specs.declared.level_view.LevelView.{LevelView}
use Rattle.rb_machine.specs.Looking.{IsViewOn}
use Rattle.rb_recovery.specs.Reading.{variables_of}
use Rattle.rb_machine.specs.Machine.{Seen}
use Rattle.rb_machine.specs.declared.channel_view.ChannelView.{ChannelView}
use Rattle.rb_changes.specs.Noted.{ProcessNoted, noted_of, process_noted}
use Rattle.rb_changes.specs.Shown.{ChannelShown, ProcessShown, channel_of, channels_shown, last_value, level_shown, process_shown}
use Rattle.rb_picture.specs.Trace.{word_reading}
use Rattle.rb_changes.specs.declared.noted.Numbers.{Numbers}
use Rattle.rb_changes.specs.declared.noted.ProcessWas.{ProcessWas}
use Rattle.rb_view.specs.Noting.{processes_noted, words_long}
use Rattle.rb_view.specs.Steady.{IsSteady, last_in, noted_now, shown_now}
use Rattle.rb_view.proofs.Changed.{image_at}
use Rattle.rb_view.proofs.Shapes.{channel_shown_at, part_there}

-- lists with the same images are as long, and what stands at a number has the same image
pub as_long : {A B C : Type 0} (f : A → C) (g : B → C) (xs : List A) (ys : List B) → map f xs ≡ map g ys → length xs ≡ length ys
as_long f g xs ys e = sym (length-map xs f) ∙ ap length e ∙ length-map ys g

pub same_image : {A B C : Type 0} (f : A → C) (g : B → C) (xs : List A) (ys : List B) (k : ℕ) (x : A) (y : B) → map f xs ≡ map g ys
    → slice_get xs k ≡ Some x → slice_get ys k ≡ Some y → f x ≡ g y
same_image {A} {B} {C} f g xs ys k x y e there too =
    some_same (sym (image_at f xs k (Some x) there) ∙ ap (λ (zs : List C). slice_get zs k) e ∙ image_at g ys k (Some y) too)

-- what belongs to a process that is there
pub belongs : {A X : Type 0} (f : A → List X) (xs : List A) (p : ℕ) (x : A) → slice_get xs p ≡ Some x → belonging (map f xs) p ≡ f x
belongs {A} {X} f xs p x there = ap (λ (o : Option (List X)). unwrap_or o []) (image_at f xs p (Some x) there)

-- a process that is kept in mind is one that is there
pub process_there : (m : Seen) (now : List ProcessWas) → processes_noted now ≡ (noted_now m).processes → (p : ℕ) (one : ProcessWas) → slice_get now p ≡ Some one
    → (q : Process Standing Copy) × (slice_get m.world.processes p ≡ Some q)
    × (noted_of one ≡ process_noted (process_shown (word_reading m.code m.groups []) m.world.memory q))
process_there m now same p one there =
    let shown = process_shown (word_reading m.code m.groups []) m.world.memory in
    let long : length now ≡ length m.world.processes =
    as_long noted_of process_noted now (map shown m.world.processes) same ∙ length-map m.world.processes shown in
    let q = slice_get-there m.world.processes p (omega (arith, long, slice_get_within now p one there)) in
    (q.0, q.1, same_image noted_of process_noted now (map shown m.world.processes) p one (shown q.0) same there (image_at shown m.world.processes p (Some q.0) q.1))

pub none_there : (m : Seen) (now : List ProcessWas) → processes_noted now ≡ (noted_now m).processes → (p : ℕ) → slice_get now p ≡ None
    → slice_get (shown_now m).processes p ≡ None
none_there m now same p none = by (slice_get (shown_now m).processes p) refl
  where
    by : (o : Option ProcessShown) → slice_get (shown_now m).processes p ≡ o → o ≡ None
    by None e = refl
    by (Some one) e =
        absurd (none_some (sym (image_at noted_of now p None none) ∙ ap (λ (all : List ProcessNoted). slice_get all p) same
        ∙ image_at process_noted (shown_now m).processes p (Some one) e))

-- the numbers of a channel
pub numbers_seen : (m : Seen) → IsSteady m → (channel : ℕ) (ends : Ends) (view : ChannelView) → slice_get m.code.channels channel ≡ Some ends
    → IsViewOn m.code m.groups m.world.processes channel view
    → record { sent = view.sent; taken = view.taken; seen = view.seen; free = view.free }
    ≡ (channel_of (word_reading m.code m.groups []) m.world.memory channel ends.size (slice_get m.world.processes ends.sender)
    (slice_get m.world.processes ends.receiver)).numbers
numbers_seen m h channel ends view there looks =
    let joins = h.channels channel ends there in
    let s = slice_get-there m.world.processes ends.sender (omega (arith, joins.sender, h.processes)) in
    let r = slice_get-there m.world.processes ends.receiver (omega (arith, joins.receiver, h.processes)) in
    let v = looks ends s.0 r.0 there s.1 r.1 in
    let numbers : Option (Process Standing Copy) → Option (Process Standing Copy) → Numbers =
    λ p q. (channel_of (word_reading m.code m.groups []) m.world.memory channel ends.size p q).numbers in
    let between : record { sent = view.sent; taken = view.taken; seen = view.seen; free = view.free } ≡ numbers (Some s.0) (Some r.0) =
    λ j. record { sent = v.sent j; taken = v.taken j; seen = v.seen j; free = v.free j } in
    between ∙ (λ j. numbers (sym s.1 j) (sym r.1 j))

-- the value that was sent last
last_between : (m : Seen) (s : Standing) (channel n : ℕ) → last_value (word_reading m.code m.groups []) m.world.memory s channel n
    ≡ last_in m.code.channels m.world.memory.slots channel n
last_between m s channel zero = refl
last_between m s channel (suc n) = refl

pub last_seen : (m : Seen) (channel size : ℕ) (p q : Option (Process Standing Copy))
    → last_in m.code.channels m.world.memory.slots channel (channel_of (word_reading m.code m.groups []) m.world.memory channel size p q).numbers.sent
    ≡ (channel_of (word_reading m.code m.groups []) m.world.memory channel size p q).last
last_seen m channel size None q = refl
last_seen m channel size (Some p) None = refl
last_seen m channel size (Some p) (Some q) = sym (last_between m p.state channel _)

pub last_some : (channels : List Ends) (slots : Slots) (channel n : ℕ) (value : ℤ) → (n ≡ 0 → ⊥) → slot_of channels slots channel (n - 1) ≡ value
    → value ≡ last_in channels slots channel n
last_some channels slots channel zero value some e = absurd (some refl)
last_some channels slots channel (suc n) value some e =
    let same : suc n - 1 ≡ n = omega arith in
    sym e ∙ ap (λ k. slot_of channels slots channel k) same

-- the words of a process's own variables, as a machine is read
pub words_here : (m : Seen) → IsSteady m → (p : ℕ) → p < length m.world.processes
    → length (belonging (variables_of m.code m.world.processes) p) ≡ (part_of m.code p).words
words_here m h p within =
    let q = slice_get-there m.world.processes p within in
    ap length (belongs (λ (one : Process Standing Copy). variable_words m.code one.state) m.world.processes p q.0 q.1) ∙ h.words p q.0 q.1

pub words_few : (m : Seen) → IsSteady m → (p : ℕ) → p < length m.world.processes → (part_of m.code p).words < 2 ^ 32
words_few m h p within =
    let part = slice_get-there m.code.processes p (omega (arith, h.processes, within)) in
    subst (λ (one : Part). one.words < 2 ^ 32) (sym (part_there m.code p part.0 part.1)) (h.short p part.0 part.1)

-- a level as it is seen
pub level_is : (m : Seen) (o : Option (Level Copy)) (level : Level Copy) (view : LevelView) (entered : ℕ) → o ≡ Some level → IsViewOf o view → IsEntryOf o entered
    → record { block = view.block; alternate = view.alternate; used = view.used; entered = entered }
    ≡ level_shown (word_reading m.code m.groups []) m.world.memory level
level_is m o level view entered is seen entry =
    let v = subst (λ (x : Option (Level Copy)). IsViewOf x view) is seen in
    let e = subst (λ (x : Option (Level Copy)). IsEntryOf x entered) is entry in
    λ j. record { block = (v.0 j).number; alternate = v.1 j; used = v.2 j; entered = e j }

-- one more of the images of a list
pub one_more : {A B : Type 0} (f : A → B) (xs : List A) (i : ℕ) (x : A) (ys : List B) (y : B) → slice_get xs i ≡ Some x → ys ≡ map f (take i xs) → y ≡ f x
    → ys ++ y ∷ [] ≡ map f (take (i + 1) xs)
one_more f xs i x ys y there so_far is =
    (λ j. so_far j ++ (is ∙ ap f (sym (get_or_from_slice_get xs i x x there))) j ∷ [])
    ∙ sym (map_more f xs i x (slice_get_within xs i x there))

-- the numbers of a channel among those of all
pub channel_there : (m : Seen) (channel : ℕ) → channel < length m.code.channels → (numbers : Numbers)
    → ((ends : Ends) → slice_get m.code.channels channel ≡ Some ends → numbers ≡ (channel_of (word_reading m.code m.groups []) m.world.memory channel
    ends.size (slice_get m.world.processes ends.sender) (slice_get m.world.processes ends.receiver)).numbers)
    → slice_get (noted_now m).channels channel ≡ Some numbers
channel_there m channel within numbers is =
    let r = word_reading m.code m.groups [] in
    let ends = slice_get-there m.code.channels channel within in
    let of : ℕ → ChannelShown = λ n. channel_of r m.world.memory n ends.0.size (slice_get m.world.processes ends.0.sender) (slice_get m.world.processes ends.0.receiver) in
    let same : 0 + channel ≡ channel = omega arith in
    image_at (λ (one : ChannelShown). one.numbers) (channels_shown r m.world 0 m.code.channels) channel (Some (of (0 + channel)))
    (channel_shown_at r m.world 0 channel m.code.channels ends.0 ends.1)
    ∙ ap (λ n. Some (of n).numbers) same
    ∙ ap Some (sym (is ends.0 ends.1))

-- and a process among those of all
pub process_kept : (m : Seen) (p : ℕ) → p < length m.world.processes → (one : ProcessNoted)
    → ((q : Process Standing Copy) → slice_get m.world.processes p ≡ Some q
    → one ≡ process_noted (process_shown (word_reading m.code m.groups []) m.world.memory q))
    → slice_get (noted_now m).processes p ≡ Some one
process_kept m p within one is =
    let shown = process_shown (word_reading m.code m.groups []) m.world.memory in
    let q = slice_get-there m.world.processes p within in
    image_at process_noted (map shown m.world.processes) p (Some (shown q.0)) (image_at shown m.world.processes p (Some q.0) q.1)
    ∙ ap Some (sym (is q.0 q.1))

-- as many processes are kept in mind as there are, each with as many words
module _ (m : Seen) (h : IsSteady m) (kept : List ProcessWas)
    (sized : map words_long (processes_noted kept) ≡ map (λ (part : Part). part.words) m.code.processes) where
  pub kept_long : length kept ≡ length m.world.processes
  kept_long =
      sym (length-map kept noted_of) ∙ as_long words_long (λ (part : Part). part.words) (processes_noted kept) m.code.processes sized ∙ sym h.processes

  pub as_many : (p : ℕ) → p < length kept → p < length m.world.processes
  as_many p within = omega (arith, kept_long, within)

  pub words_at : (p : ℕ) (one : ProcessWas) → slice_get kept p ≡ Some one → length one.words.items ≡ (part_of m.code p).words
  words_at p one there =
      let part = slice_get-there m.code.processes p (omega (arith, kept_long, h.processes, slice_get_within kept p one there)) in
      same_image words_long (λ (x : Part). x.words) (processes_noted kept) m.code.processes p (noted_of one) part.0 sized
      (image_at noted_of kept p (Some one) there) part.1
      ∙ ap (λ (x : Part). x.words) (sym (part_there m.code p part.0 part.1))

-- as long as before
pub kept_same : (xs ys : List ProcessWas) → map words_long (processes_noted xs) ≡ map words_long (processes_noted ys) → length xs ≡ length ys
kept_same xs ys e =
    sym (length-map xs noted_of) ∙ as_long words_long words_long (processes_noted xs) (processes_noted ys) e ∙ length-map ys noted_of

pub noted_long : (m : Seen) → length (noted_now m).processes ≡ length m.world.processes
noted_long m =
    length-map (shown_now m).processes process_noted
    ∙ length-map m.world.processes (process_shown (word_reading m.code m.groups []) m.world.memory)
