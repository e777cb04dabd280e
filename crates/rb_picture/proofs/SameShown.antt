-- Worlds of related kinds are shown in the same way, but for the value that was sent last on a channel; and so are turns, where the values
-- that are told are the same.
use Rattle.std.proofs.Common.{◌≡◌, ◌<◌, ℕ, ℤ, ◌+◌, ◌-◌, suc, Bool, true, false, cond, List, [], ◌∷◌, ◌++◌, map, slice_get, Option, Some, None, nat_lt, ltb-true, refl, ap, ap₂, ◌∙◌, subst}
use Rattle.rb_base.specs.declared.event.TurnKind.{TurnKind}
use Rattle.rb_base.specs.declared.event.TurnKind.TheVariants.{Idle, Wait, Took, Undone}
use Rattle.rb_base.specs.declared.place.Place.{Place}
use Rattle.rb_world.specs.Kind.{Ends, Facts, Want, NothingLeft, SendsOn, ReceivesOn, MayReceiveOn, Enters, Starts, Acts}
use Rattle.rb_world.specs.World.{Level, Process, ProcessStatus, Running, Finished, FailedWith, World, is_shared, last_of}
use Rattle.rb_world.specs.Channels.{room_from, seen_copy, seen_count}
use Rattle.rb_world.specs.Text.{Naming, told_text}
use Rattle.rb_world.specs.Turn.{Told}
use Rattle.rb_world.proofs.Relating.ChannelsMeet.{CopiesMeet}
use Rattle.rb_world.proofs.Relating.MarksMeet.{OptionsMeet, SameMark, SameMarks, last_marks}
use Rattle.rb_world.proofs.Relating.ProcessesMeet.{ProcessesMeet, AllMeet, WorldsMeet, cond_meets, get_meets}
use Rattle.rb_world.proofs.Relating.Simulation.{Shared, Related, Knowing, IsSimulation, copies_of}
use Rattle.rb_changes.specs.Changes.{all_channels, all_processes, all_talks, change_of, changes, channel_changes, message_change, message_line, numbers_change}
use Rattle.rb_changes.specs.Noted.{WorldNoted, process_noted, world_noted}
use Rattle.rb_changes.specs.Numbered.{numbered}
use Rattle.rb_changes.specs.Shown.{ChannelShown, ProcessShown, Reading, WorldShown, channel_between, channel_of, channels_shown, level_shown, process_shown, stand_of, world_shown}
use Rattle.rb_picture.specs.Trace.{back_text, turn_text}
use Rattle.rb_picture.specs.Turns.{asked_first, asked_now, asked_of, line_asked, start_asked, turn_line}
use Rattle.rb_picture.specs.declared.asked.Asked.{Asked}
use Rattle.rb_picture.specs.declared.asked.Asked.TheVariants.{Line, Start}
use Rattle.rb_changes.specs.declared.noted.Numbers.{Numbers}
use Rattle.rb_changes.specs.declared.noted.OpenLevel.{OpenLevel}

-- What is read of related states, and of the copies of their levels.
pub record ReadsAlike {S C M T D N : Type 0} (r : Reading S C M) (l : Reading T D N) (related : Related S C M T D N) : Type 0 where
  pub words : (line : Bool) (m : M) (n : N) (cs : List C) (s : S) (ds : List D) (u : T) → related line m n cs s ds u → r.words s ≡ l.words u
  pub held : (line : Bool) (m : M) (n : N) (cs : List C) (s : S) (ds : List D) (u : T) → related line m n cs s ds u
      → r.kind.held s ≡ l.kind.held u
  pub entered : (line : Bool) (m : M) (n : N) (cs : List C) (s : S) (ds : List D) (u : T) (j : ℕ) (x : C) (y : D) → related line m n cs s ds u
      → slice_get cs j ≡ Some x → slice_get ds j ≡ Some y → r.entered m x ≡ l.entered n y

-- two channels are shown alike, but for their last values, which are the same where more than so many were sent
pub record ShownAlike (before : ℕ) (a b : ChannelShown) : Type 0 where
  pub numbers : a.numbers ≡ b.numbers
  pub last : before < a.numbers.sent → a.last ≡ b.last

-- the same words of all numbered things
pub numbered_same : {A : Type 0} (f g : ℕ → A → List ℕ) (n : ℕ) (xs : List A) → ((k : ℕ) (x : A) → f k x ≡ g k x) → numbered f n xs ≡ numbered g n xs
numbered_same f g n [] same = refl
numbered_same f g n (x ∷ xs) same = ap₂ ◌++◌ (same n x) (numbered_same f g (n + 1) xs same)

message_same : (t : ℕ) (name : List ℕ) (before sent : ℕ) (x y : ℤ) (more : Bool) → nat_lt before sent ≡ more → (before < sent → x ≡ y)
    → cond more (message_line t name sent x) [] ≡ cond more (message_line t name sent y) []
message_same t name before sent x y true e same = ap (message_line t name sent) (same (ltb-true before sent e))
message_same t name before sent x y false e same = refl

-- what is told of a channel
channel_same : (t : ℕ) (name : List ℕ) (before : Numbers) (a b : ChannelShown) → ShownAlike before.sent a b
    → channel_changes t name before a ≡ channel_changes t name before b
channel_same t name before a b alike =
    ap (λ (part : List ℕ). numbers_change t name before a.numbers ++ part)
    (message_same t name before.sent a.numbers.sent a.last b.last (nat_lt before.sent a.numbers.sent) refl alike.last)
    ∙ ap (λ (numbers : Numbers). numbers_change t name before numbers ++ message_change t name before.sent numbers.sent b.last) alike.numbers

-- of all channels, each as it was before
abbrev pub ChannelsAlike : List Numbers → List ChannelShown → List ChannelShown → Type 0
ChannelsAlike before after other = (c : ℕ) (was : Numbers) → slice_get before c ≡ Some was
    → OptionsMeet (ShownAlike was.sent) (slice_get after c) (slice_get other c)

change_same : (t : ℕ) (name : List ℕ) (was : Option Numbers) (a b : Option ChannelShown)
    → ((one : Numbers) → was ≡ Some one → OptionsMeet (ShownAlike one.sent) a b)
    → change_of (channel_changes t name) was a ≡ change_of (channel_changes t name) was b
change_same t name None a b alike = refl
change_same t name (Some was) None None alike = refl
change_same t name (Some was) None (Some b) alike = absurd (alike was refl)
change_same t name (Some was) (Some a) None alike = absurd (alike was refl)
change_same t name (Some was) (Some a) (Some b) alike = channel_same t name was a b (alike was refl)

pub channels_same : (t : ℕ) (names : List (List ℕ)) (before : List Numbers) (after other : List ChannelShown) → ChannelsAlike before after other
    → all_channels t names before after ≡ all_channels t names before other
channels_same t names before after other alike =
    numbered_same (λ c name. change_of (channel_changes t name) (slice_get before c) (slice_get after c))
    (λ c name. change_of (channel_changes t name) (slice_get before c) (slice_get other c)) 0 names
    (λ c name. change_same t name (slice_get before c) (slice_get after c) (slice_get other c) (alike c))

-- What two worlds are shown as, from the one that was before.
pub record WorldsShownAlike (before : List Numbers) (a b : WorldShown) : Type 0 where
  pub processes : a.processes ≡ b.processes
  pub channels : ChannelsAlike before a.channels b.channels
  pub talks : a.talks ≡ b.talks

pub changes_same : (t : ℕ) (names : Naming) (before : WorldNoted) (a b : WorldShown) → WorldsShownAlike before.channels a b
    → changes t names before a ≡ changes t names before b
changes_same t names before a b alike =
    ap₂ (λ (one : List ℕ) (other : List ℕ). one ++ other)
    (ap (all_processes t names.processes before.processes) alike.processes)
    (ap₂ (λ (one : List ℕ) (other : List ℕ). one ++ other)
    (channels_same t names.channels before.channels a.channels b.channels alike.channels)
    (ap (all_talks t names.conversations before.talks) alike.talks))

back_same : (kind : TurnKind) (t : ℕ) (names : Naming) (before : WorldNoted) (a b : WorldShown) → a.processes ≡ b.processes
    → back_text kind t names before a ≡ back_text kind t names before b
back_same Undone t names before a b e = ap (λ (shown : List ProcessShown). back_text Undone t names before (record a { processes = shown })) e
back_same Idle t names before a b e = refl
back_same Wait t names before a b e = refl
back_same Took t names before a b e = refl

-- the text of a turn
pub turn_same : (names : Naming) (t p : ℕ) (place place' : Option Place) (asked asked' : Asked) (before before' : WorldNoted) (told told' : Told)
    (a b : WorldShown) → place ≡ place' → asked ≡ asked' → before ≡ before' → told ≡ told' → WorldsShownAlike before.channels a b
    → turn_text names t p place asked before told a ≡ turn_text names t p place' asked' before' told' b
turn_same names t p place place' asked asked' before before' told told' a b at same noted one alike =
    ap₂ (λ (back : List ℕ) (changed : List ℕ). turn_text_of back changed) (back_same told.kind t names before a b alike.processes)
    (changes_same t names before a b alike)
    ∙ (λ i. turn_text names t p (at i) (same i) (noted i) (one i) b)
  where
    turn_text_of : List ℕ → List ℕ → List ℕ
    turn_text_of back changed = turn_line names t p place told.kind asked ++ (told_text names t told ++ (back ++ changed))

module _ {S C M T D N : Type 0} (r : Reading S C M) (l : Reading T D N) {shared : Shared M N} {related : Related S C M T D N} {known : Knowing S C M}
    (laws : IsSimulation r.kind l.kind shared related known) (reads : ReadsAlike r l related) where
  module _ (m : M) (n : N) where
    abbrev Meet : Process S C → Process T D → Type 0
    Meet q p = ProcessesMeet related m n q p

    -- levels, by the turns of their entries
    levels_same : (ls : List (Level C)) (ms : List (Level D)) → SameMarks ls ms
        → ((j : ℕ) (x : C) (y : D) → slice_get (copies_of ls) j ≡ Some x → slice_get (copies_of ms) j ≡ Some y → r.entered m x ≡ l.entered n y)
        → map (level_shown r m) ls ≡ map (level_shown l n) ms
    levels_same [] [] same at = refl
    levels_same [] (y ∷ ms) same at = absurd same
    levels_same (x ∷ ls) [] same at = absurd same
    levels_same (x ∷ ls) (y ∷ ms) same at =
        ap₂ (λ (one : OpenLevel) (others : List OpenLevel). one ∷ others)
        (λ i. record {
          block = (same.0.facts i).number;
          alternate = same.0.alternate i;
          used = same.0.used i;
          entered = at 0 x.copy y.copy refl refl i;
        })
        (levels_same ls ms same.1 (λ j. at (suc j)))

    process_same : (q : Process S C) (p : Process T D) → Meet q p → process_shown r m q ≡ process_shown l n p
    process_same q p both = λ i. record {
      words = reads.words q.at_line m n (copies_of q.levels) q.state (copies_of p.levels) p.state both.states i;
      levels = levels_same q.levels p.levels both.marks
          (λ j x y. reads.entered q.at_line m n (copies_of q.levels) q.state (copies_of p.levels) p.state j x y both.states) i;
      held = reads.held q.at_line m n (copies_of q.levels) q.state (copies_of p.levels) p.state both.states i;
      stand = stand_of (both.statuses i) (both.lines i);
    }

    processes_same : (qs : List (Process S C)) (ps : List (Process T D)) → AllMeet related m n qs ps
        → map (process_shown r m) qs ≡ map (process_shown l n) ps
    processes_same [] [] all = refl
    processes_same [] (p ∷ ps) all = absurd all
    processes_same (q ∷ qs) [] all = absurd all
    processes_same (q ∷ qs) (p ∷ ps) all =
        ap₂ (λ (one : ProcessShown) (others : List ProcessShown). one ∷ others) (process_same q p all.0) (processes_same qs ps all.1)

    -- a channel between two processes
    room_same : (line : Bool) (c : ℕ) (s : S) (ls : List (Level C)) (u : T) (ms : List (Level D)) → SameMarks ls ms
        → related line m n (copies_of ls) s (copies_of ms) u → room_from r.kind s ls c ≡ room_from l.kind u ms c
    room_same line c s [] u [] same both = laws.taken line m n [] s [] u c both
    room_same line c s [] u (y ∷ ms) same both = absurd same
    room_same line c s (x ∷ ls) u [] same both = absurd same
    room_same line c s (x ∷ ls) u (y ∷ ms) same both = laws.taken_then line m n x.copy (copies_of ls) s y.copy (copies_of ms) u c both

    further : {A B : Type 0} (a : A) (cs : List A) (b : B) (ds : List B) (x : Option A) (y : Option B) → CopiesMeet cs ds x y
        → CopiesMeet (a ∷ cs) (b ∷ ds) x y
    further a cs b ds None None e = tt
    further a cs b ds None (Some y) e = absurd e
    further a cs b ds (Some x) None e = absurd e
    further a cs b ds (Some x) (Some y) e = (suc e.0, e.1, e.2)

    seen_same : (ls : List (Level C)) (ms : List (Level D)) (ls' : List (Level C)) (ms' : List (Level D)) → SameMarks ls ms → SameMarks ls' ms'
        → CopiesMeet (copies_of ls) (copies_of ms) (seen_copy ls ls') (seen_copy ms ms')
    seen_same [] [] ls' ms' e f = tt
    seen_same [] (y ∷ ms) ls' ms' e f = absurd e
    seen_same (x ∷ ls) [] ls' ms' e f = absurd e
    seen_same (x ∷ ls) (y ∷ ms) [] [] e f = (0, refl, refl)
    seen_same (x ∷ ls) (y ∷ ms) [] (y' ∷ ms') e f = absurd f
    seen_same (x ∷ ls) (y ∷ ms) (x' ∷ ls') [] e f = absurd f
    seen_same (x ∷ ls) (y ∷ ms) (x' ∷ ls') (y' ∷ ms') e f =
        cond_meets (CopiesMeet (x.copy ∷ copies_of ls) (y.copy ∷ copies_of ms))
        (is_shared x.facts.conversation x'.facts.conversation) (is_shared y.facts.conversation y'.facts.conversation)
        (ap₂ (λ (one other : Facts). is_shared one.conversation other.conversation) e.0.facts f.0.facts)
        (λ _. further x.copy (copies_of ls) y.copy (copies_of ms) (seen_copy ls ls') (seen_copy ms ms') (seen_same ls ms ls' ms' e.1 f.1))
        (λ _. (0, refl, refl))

    count_same : (line : Bool) (c : ℕ) (cs : List C) (s : S) (ds : List D) (u : T) (x : Option C) (y : Option D)
        → related line m n cs s ds u → CopiesMeet cs ds x y → seen_count r.kind s x c ≡ seen_count l.kind u y c
    count_same line c cs s ds u None None both e = laws.sent line m n cs s ds u c both
    count_same line c cs s ds u None (Some y) both e = absurd e
    count_same line c cs s ds u (Some x) None both e = absurd e
    count_same line c cs s ds u (Some x) (Some y) both e = laws.sent_then line m n cs s ds u c e.0 x y both e.1 e.2

    numbers_between : (c size : ℕ) (q q' : Process S C) (p p' : Process T D) → Meet q p → Meet q' p'
        → (channel_between r m c size q q').numbers ≡ (channel_between l n c size p p').numbers
    numbers_between c size q q' p p' e f =
        let sent = laws.sent q.at_line m n (copies_of q.levels) q.state (copies_of p.levels) p.state c e.states in
        let room = room_same q'.at_line c q'.state q'.levels p'.state p'.levels f.marks f.states in
        λ i. record {
          sent = sent i;
          taken = laws.taken q'.at_line m n (copies_of q'.levels) q'.state (copies_of p'.levels) p'.state c f.states i;
          seen = count_same q.at_line c (copies_of q.levels) q.state (copies_of p.levels) p.state (seen_copy q.levels q'.levels)
              (seen_copy p.levels p'.levels) e.states (seen_same q.levels p.levels q'.levels p'.levels e.marks f.marks) i;
          free = size + room i - sent i;
        }

    pub numbers_same : (c size : ℕ) (q q' : Option (Process S C)) (p p' : Option (Process T D)) → OptionsMeet Meet q p → OptionsMeet Meet q' p'
        → (channel_of r m c size q q').numbers ≡ (channel_of l n c size p p').numbers
    numbers_same c size None q' None p' e f = refl
    numbers_same c size None q' (Some p) p' e f = absurd e
    numbers_same c size (Some q) q' None p' e f = absurd e
    numbers_same c size (Some q) None (Some p) None e f = refl
    numbers_same c size (Some q) None (Some p) (Some p') e f = absurd f
    numbers_same c size (Some q) (Some q') (Some p) None e f = absurd f
    numbers_same c size (Some q) (Some q') (Some p) (Some p') e f = numbers_between c size q q' p p' e f

    -- what is asked of a turn
    line_same : (x : Option (Level C)) (y : Option (Level D)) → OptionsMeet SameMark x y → line_asked x ≡ line_asked y
    line_same None None e = refl
    line_same None (Some y) e = absurd e
    line_same (Some x) None e = absurd e
    line_same (Some x) (Some y) e = ap (λ (facts : Facts). Line facts.conversation) e.facts

    start_same : (x : Option (Level C)) (y : Option (Level D)) → OptionsMeet SameMark x y → start_asked x ≡ start_asked y
    start_same None None e = refl
    start_same None (Some y) e = absurd e
    start_same (Some x) None e = absurd e
    start_same (Some x) (Some y) e = ap₂ (λ (facts : Facts) (alternate : ℕ). Start facts.number alternate) e.facts e.alternate

    first_same : (want : Want) (x : Option (Level C)) (y : Option (Level D)) → OptionsMeet SameMark x y → asked_first want x ≡ asked_first want y
    first_same NothingLeft x y e = refl
    first_same (SendsOn c) x y e = refl
    first_same (ReceivesOn c) x y e = refl
    first_same (MayReceiveOn c) x y e = refl
    first_same (Enters facts) x y e = refl
    first_same Starts x y e = start_same x y e
    first_same Acts x y e = refl

    now_same : (status : ProcessStatus) (line : Bool) (want want' : Want) (x : Option (Level C)) (y : Option (Level D)) → OptionsMeet SameMark x y
        → (line ≡ false → want ≡ want') → asked_now status line want x ≡ asked_now status line want' y
    now_same Running true want want' x y e same = line_same x y e
    now_same Running false want want' x y e same = first_same want x y e ∙ ap (λ (one : Want). asked_first one y) (same refl)
    now_same Finished line want want' x y e same = refl
    now_same (FailedWith cause) line want want' x y e same = refl

    pub asked_same : (q : Process S C) (p : Process T D) → Meet q p → asked_of r.kind q ≡ asked_of l.kind p
    asked_same q p both =
        now_same q.status q.at_line (r.kind.want q.state) (l.kind.want p.state) (last_of q.levels) (last_of p.levels)
        (last_marks q.levels p.levels both.marks)
        (λ away. laws.want m n (copies_of q.levels) q.state (copies_of p.levels) p.state
        (subst (λ (line : Bool). related line m n (copies_of q.levels) q.state (copies_of p.levels) p.state) away both.states))
        ∙ ap₂ (λ (status : ProcessStatus) (line : Bool). asked_now status line (l.kind.want p.state) (last_of p.levels)) both.statuses both.lines

  module _ (w : World S C M) (v : World T D N) (meets : WorldsMeet shared related w v) where
    -- the channels from number c on
    numbers_from : (c : ℕ) (channels : List Ends)
        → map (λ (channel : ChannelShown). channel.numbers) (channels_shown r w c channels)
        ≡ map (λ (channel : ChannelShown). channel.numbers) (channels_shown l v c channels)
    numbers_from c [] = refl
    numbers_from c (ends ∷ others) =
        ap₂ (λ (one : Numbers) (more : List Numbers). one ∷ more)
        (numbers_same w.memory v.memory c ends.size (slice_get w.processes ends.sender) (slice_get w.processes ends.receiver)
        (slice_get v.processes ends.sender) (slice_get v.processes ends.receiver)
        (get_meets related w.memory v.memory w.processes v.processes ends.sender meets.processes)
        (get_meets related w.memory v.memory w.processes v.processes ends.receiver meets.processes))
        (numbers_from (c + 1) others)

    pub all_processes_same : (world_shown r w).processes ≡ (world_shown l v).processes
    all_processes_same = processes_same w.memory v.memory w.processes v.processes meets.processes

    -- what is kept in mind of both is the same
    pub noted_same : world_noted (world_shown r w) ≡ world_noted (world_shown l v)
    noted_same = λ i. record {
      processes = map process_noted (all_processes_same i);
      channels = (numbers_from 0 r.kind.channels
          ∙ ap (λ (channels : List Ends). map (λ (channel : ChannelShown). channel.numbers) (channels_shown l v 0 channels)) laws.channels) i;
      talks = meets.talks i;
    }
