-- A process and a channel, by their number, as they are written.
use Rattle.std.proofs.Common.{◌≡◌, ℕ, zero, suc, ◌+◌, ◌<◌, ◌≤◌, ◌^◌, ℤ, List, [], ◌∷◌, get_or, length, slice_get, Some, None, ap, sym, ◌∙◌, subst, arith}
use Rattle.std.specs.List.{AllByRecursion, AllZip}
use Rattle.std.proofs.lemmas.List.{length-map}
use Rattle.std.proofs.lemmas.Option.{slice_get_past, slice_get_within}
use Rattle.rb_base.specs.declared.names.ProcessNames.{ProcessNames}
use Rattle.rb_trace.specs.Fitting.{LiesWithin, ProcessFits}
use Rattle.rb_world.specs.World.{Process}
use Rattle.rb_world.proofs.ListFacts.{none_some, slice_get-there, some_same}
use Rattle.rb_code.specs.Instructions.Plain.{Part}
use Rattle.rb_code.specs.Instructions.Variables.{VariablesLie}
use Rattle.rb_code.specs.WordMachine.Turn.{Copy, Standing}
use Rattle.rb_code.specs.WordMachine.Workspace.{part_of}
use Rattle.rb_machine.specs.Machine.{Seen}
use Rattle.rb_changes.specs.Noted.{IsCountable, noted_of, process_noted, shown_with}
use Rattle.rb_changes.specs.Shown.{ChannelShown, channel_of, process_shown}
use Rattle.rb_picture.specs.Trace.{word_reading}
use Rattle.rb_changes.specs.declared.noted.Numbers.{Numbers}
use Rattle.rb_changes.specs.declared.noted.ProcessWas.{ProcessWas}
use Rattle.rb_view.specs.Noting.{IsReady}
use Rattle.rb_view.specs.Steady.{IsSteady, last_in, noted_now, shown_now}
use Rattle.rb_view.proofs.Changed.{image_at}
use Rattle.rb_view.proofs.Kept.{last_seen}
use Rattle.rb_view.proofs.Shapes.{channel_shown_at, channels_long, part_there}

-- of two lists that go together, what stands at the same number
pub zip_at : {A B : Type 0} (Q : A → B → Type 0) (xs : List A) (ys : List B) (i : ℕ) (x d : A) (y : B) → AllZip Q xs ys → i < length xs
    → x ≡ get_or xs i d → slice_get ys i ≡ Some y → Q x y
zip_at Q [] ys i x d y all within is there = absurd (omega (arith, within))
zip_at Q (a ∷ xs) [] i x d y all within is there = absurd (none_some there)
zip_at Q (a ∷ xs) (b ∷ ys) zero x d y all within is there = subst (λ z. Q z y) (sym is) (subst (Q a) (some_same there) all.0)
zip_at Q (a ∷ xs) (b ∷ ys) (suc i) x d y all within is there = zip_at Q xs ys i x d y all.1 (omega (arith, within)) is there

-- the variables of a process lie within its words
fits_part : (names : ProcessNames) (part : Part) (words : List ℤ) → VariablesLie names part → length words ≡ part.words → part.words < 2 ^ 32
    → ProcessFits names words
fits_part names part words lie long few =
    (subst (λ (n : ℕ). AllByRecursion (LiesWithin n) names.variables.items) (sym long) lie, omega (arith, long, few))

pub fits_own : (m : Seen) → IsSteady m → (p : ℕ) (names : ProcessNames)
    → ((part : Part) → slice_get m.code.processes p ≡ Some part → VariablesLie names part)
    → p < length m.code.processes → (words : List ℤ) → length words ≡ (part_of m.code p).words → ProcessFits names words
fits_own m h p names fit within words long =
    let part = slice_get-there m.code.processes p within in
    fits_part names part.0 words (fit part.0 part.1) (long ∙ ap (λ (one : Part). one.words) (part_there m.code p part.0 part.1))
    (h.short p part.0 part.1)

-- it has room to count one more
pub countable : (one : ProcessWas) → IsReady one → IsCountable one
countable one h = (omega (arith, h.levels), omega (arith, h.held))

-- what is kept in mind of a process, with the lines that it holds, is what is shown of it
pub with_held : (m : Seen) (one : ProcessWas) (q : Process Standing Copy)
    → noted_of one ≡ process_noted (process_shown (word_reading m.code m.groups []) m.world.memory q)
    → shown_with q.state.held one ≡ process_shown (word_reading m.code m.groups []) m.world.memory q
with_held m one q e = λ j. record { words = (e j).words; levels = (e j).levels; held = q.state.held; stand = (e j).stand }

-- Numbers that are kept in mind of a channel are those of one that is shown, with the value that was sent last.
pub channel_kept : (m : Seen) (now : List Numbers) → now ≡ (noted_now m).channels → (k : ℕ) (one : Numbers) → slice_get now k ≡ Some one
    → slice_get (shown_now m).channels k ≡ Some (record { numbers = one; last = last_in m.code.channels m.world.memory.slots k one.sent })
channel_kept m now same k one there =
    let r = word_reading m.code m.groups [] in
    let shown = (shown_now m).channels in
    let numbers : ChannelShown → Numbers = λ channel. channel.numbers in
    let long : length now ≡ length m.code.channels = ap length same ∙ length-map shown numbers ∙ channels_long r m.world 0 m.code.channels in
    let ends = slice_get-there m.code.channels k (omega (arith, long, slice_get_within now k one there)) in
    let p = slice_get m.world.processes ends.0.sender in
    let q = slice_get m.world.processes ends.0.receiver in
    let at : slice_get shown k ≡ Some (channel_of r m.world.memory k ends.0.size p q) =
    channel_shown_at r m.world 0 k m.code.channels ends.0 ends.1
    ∙ ap (λ n. Some (channel_of r m.world.memory n ends.0.size p q)) {x = 0 + k} {y = k} (omega arith) in
    let is : (channel_of r m.world.memory k ends.0.size p q).numbers ≡ one =
    some_same (sym (image_at numbers shown k (Some (channel_of r m.world.memory k ends.0.size p q)) at)
    ∙ ap (λ (all : List Numbers). slice_get all k) (sym same) ∙ there) in
    let last : (channel_of r m.world.memory k ends.0.size p q).last ≡ last_in m.code.channels m.world.memory.slots k one.sent =
    sym (last_seen m k ends.0.size p q) ∙ ap (λ (n : Numbers). last_in m.code.channels m.world.memory.slots k n.sent) is in
    at ∙ (λ j. Some (record { numbers = is j; last = last j }))

pub no_channel : (m : Seen) (now : List Numbers) → now ≡ (noted_now m).channels → (k : ℕ) → length now ≤ k → slice_get (shown_now m).channels k ≡ None
no_channel m now same k past =
    let numbers : ChannelShown → Numbers = λ channel. channel.numbers in
    slice_get_past (shown_now m).channels k (omega (arith, ap length same, length-map (shown_now m).channels numbers, past))

pub channel_few : (m : Seen) → IsSteady m → (now : List Numbers) → now ≡ (noted_now m).channels → (k : ℕ) → k < length now → k < 2 ^ 32
channel_few m h now same k within =
    let numbers : ChannelShown → Numbers = λ channel. channel.numbers in
    omega (
      arith,
      within,
      ap length same,
      length-map (shown_now m).channels numbers,
      channels_long (word_reading m.code m.groups []) m.world 0 m.code.channels,
      h.few_channels,
    )
