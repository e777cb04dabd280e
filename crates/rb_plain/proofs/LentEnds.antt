-- What a plain run's world says of a channel, by what stands in memory: the channel, and the processes at its two ends.
use Rattle.std.proofs.Common.{◌≡◌, ◌<◌, ◌≤◌, ℕ, false, List, length, map, Option, Some, None, option_map, get_or, refl, sym, ap, ◌∙◌}
use Rattle.std.specs.List.{slice_get}
use Rattle.std.proofs.lemmas.Option.{slice_get-get_or, slice_get-map, slice_get_past}
use Rattle.rb_syntax.specs.declared.program.Channel.{Channel}
use Rattle.rb_syntax.specs.declared.program.Program.{Program}
use Rattle.rb_syntax.specs.Plain.{channel_declaration, tree}
use Rattle.rb_world.specs.Kind.{Ends}
use Rattle.rb_world.specs.Channels.{has_room, has_room_for, has_room_on, message_between, message_on, message_there}
use Rattle.rb_meaning.specs.Environment.{natural}
use Rattle.rb_meaning.specs.Groups.{ends_of}
use Rattle.rb_levels.specs.declared.process.Process.{Process}
use Rattle.rb_levels.specs.Worlds.{process_of, unkept_kind, world_of}

-- the ends of a channel in memory
abbrev pub ends_in : Program → Channel → Ends
ends_in program declared = ends_of (tree program) (channel_declaration declared)

-- one view after another
viewed : {A B C : Type 0} (f : A → B) (g : B → C) (r : Option A) → option_map g (option_map f r) ≡ option_map (λ x. g (f x)) r
viewed f g None = refl
viewed f g (Some x) = refl

-- the process of a number that is there
pub there_at : (processes : List Process) (p : ℕ) (one : Process) → p < length processes → one ≡ get_or processes p one
    → slice_get (map process_of processes) p ≡ Some (process_of one)
there_at processes p one h e =
    slice_get-map process_of processes p ∙ ap (option_map process_of) (slice_get-get_or processes p one h ∙ ap (λ x. Some x) (sym e))

-- beyond the last one there is none
pub none_at : (processes : List Process) (p : ℕ) → length processes ≤ p → slice_get (map process_of processes) p ≡ None
none_at processes p h = slice_get-map process_of processes p ∙ ap (option_map process_of) (slice_get_past processes p h)

-- the ends of the channel of a number, or none
ends_looked_up : (program : Program) (channel : ℕ) → slice_get (unkept_kind (tree program)).channels channel
    ≡ option_map (ends_in program) (slice_get program.channels.items channel)
ends_looked_up program channel =
    slice_get-map (ends_of (tree program)) (map channel_declaration program.channels.items) channel
    ∙ ap (option_map (ends_of (tree program))) (slice_get-map channel_declaration program.channels.items channel)
    ∙ viewed channel_declaration (ends_of (tree program)) (slice_get program.channels.items channel)

module _ (program : Program) (processes : List Process) (channel : ℕ) (past : length program.channels.items ≤ channel) where
  no_ends : slice_get (unkept_kind (tree program)).channels channel ≡ None
  no_ends = ends_looked_up program channel ∙ ap (option_map (ends_in program)) (slice_get_past program.channels.items channel past)

  -- on a channel that is not there is no room
  pub no_room : has_room (unkept_kind (tree program)) (world_of (tree program) processes) channel ≡ false
  no_room = ap (has_room_on (unkept_kind (tree program)) (world_of (tree program) processes) channel) no_ends

  -- and no message
  pub no_message : message_there (unkept_kind (tree program)) (world_of (tree program) processes) channel ≡ None
  no_message = ap (message_on (unkept_kind (tree program)) (world_of (tree program) processes) channel) no_ends

module _ (program : Program) (processes : List Process) (channel : ℕ) (declared : Channel) (within : channel < length program.channels.items)
    (is : declared ≡ get_or program.channels.items channel declared) (m n : ℕ)
    (sends : m ≡ (ends_in program declared).sender) (takes : n ≡ (ends_in program declared).receiver) where
  -- the ends of the channel of this number
  ends_at : slice_get (unkept_kind (tree program)).channels channel ≡ Some (ends_in program declared)
  ends_at =
      ends_looked_up program channel
      ∙ ap (option_map (ends_in program))
      (slice_get-get_or program.channels.items channel declared within ∙ ap (λ one. Some one) (sym is))

  -- the room between what stands at both ends
  pub room_between : has_room (unkept_kind (tree program)) (world_of (tree program) processes) channel
      ≡ has_room_for (unkept_kind (tree program)) channel (record { sender = m; receiver = n; size = natural declared.size.value })
      (slice_get (map process_of processes) m) (slice_get (map process_of processes) n)
  room_between = rw (sends, takes) (ap (has_room_on (unkept_kind (tree program)) (world_of (tree program) processes) channel) ends_at)

  -- the message between them
  pub message_is : message_there (unkept_kind (tree program)) (world_of (tree program) processes) channel
      ≡ message_between (unkept_kind (tree program)) tt channel (slice_get (map process_of processes) m) (slice_get (map process_of processes) n)
  message_is = rw (sends, takes) (ap (message_on (unkept_kind (tree program)) (world_of (tree program) processes) channel) ends_at)
