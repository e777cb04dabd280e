-- In related worlds a sender has the same room, and a receiver the same message.
use Rattle.std.proofs.Common.{◌≡◌, ◌⊎◌, ℕ, ℤ, ◌+◌, suc, Bool, true, List, [], ◌∷◌, slice_get, Option, Some, None, refl, ap, ap₂, ◌∙◌, nat_lt, ltb-true}
use Rattle.rb_world.specs.Kind.{Ends, Facts, Kind, ReceivesOn, MayReceiveOn}
use Rattle.rb_world.specs.World.{Level, Process, World, is_shared}
use Rattle.rb_world.specs.Channels.{first_message, has_room, has_room_for, has_room_on, message_between, message_on, message_there, room_from, seen_copy, seen_count, seen_message}
use Rattle.rb_world.proofs.Relating.Simulation.{Shared, Related, Knowing, copies_of, IsActing, IsReceipt, IsPlainSimulation}
use Rattle.rb_world.proofs.Relating.MarksMeet.{OptionsMeet, SameMarks}
use Rattle.rb_world.proofs.Relating.ProcessesMeet.{ProcessesMeet, WorldsMeet, cond_meets, get_meets}

-- both are the present state, or copies of one number
abbrev pub CopiesMeet : {C D : Type 0} → List C → List D → Option C → Option D → Type 0
CopiesMeet cs ds None None = Unit {0}
CopiesMeet cs ds None (Some y) = ⊥
CopiesMeet cs ds (Some x) None = ⊥
CopiesMeet cs ds (Some x) (Some y) = (j : ℕ) × (slice_get cs j ≡ Some x) × (slice_get ds j ≡ Some y)

further_in : {C D : Type 0} (c : C) (cs : List C) (d : D) (ds : List D) (x : Option C) (y : Option D) → CopiesMeet cs ds x y
    → CopiesMeet (c ∷ cs) (d ∷ ds) x y
further_in c cs d ds None None e = tt
further_in c cs d ds None (Some y) e = absurd e
further_in c cs d ds (Some x) None e = absurd e
further_in c cs d ds (Some x) (Some y) e = (suc e.0, e.1, e.2)

seen_copies : {C D : Type 0} (ls : List (Level C)) (ms : List (Level D)) (ls' : List (Level C)) (ms' : List (Level D))
    → SameMarks ls ms → SameMarks ls' ms'
    → CopiesMeet (copies_of ls) (copies_of ms) (seen_copy ls ls') (seen_copy ms ms')
seen_copies [] [] ls' ms' e f = tt
seen_copies [] (m ∷ ms) ls' ms' e f = absurd e
seen_copies (l ∷ ls) [] ls' ms' e f = absurd e
seen_copies (l ∷ ls) (m ∷ ms) [] [] e f = (0, refl, refl)
seen_copies (l ∷ ls) (m ∷ ms) [] (m' ∷ ms') e f = absurd f
seen_copies (l ∷ ls) (m ∷ ms) (l' ∷ ls') [] e f = absurd f
seen_copies (l ∷ ls) (m ∷ ms) (l' ∷ ls') (m' ∷ ms') e f =
    cond_meets (CopiesMeet (l.copy ∷ copies_of ls) (m.copy ∷ copies_of ms))
    (is_shared l.facts.conversation l'.facts.conversation) (is_shared m.facts.conversation m'.facts.conversation)
    (ap₂ (λ (x y : Facts). is_shared x.conversation y.conversation) e.0.facts f.0.facts)
    (λ _. further_in l.copy (copies_of ls) m.copy (copies_of ms) (seen_copy ls ls') (seen_copy ms ms') (seen_copies ls ms ls' ms' e.1 f.1))
    (λ _. (0, refl, refl))

module _ {S C M T D N : Type 0} {k : Kind S C M} {l : Kind T D N} {shared : Shared M N} {related : Related S C M T D N} {known : Knowing S C M}
    (laws : IsPlainSimulation k l shared related known) where
  room_from-same : (line : Bool) (m : M) (n : N) (c : ℕ) (s : S) (ls : List (Level C)) (u : T) (ms : List (Level D)) → SameMarks ls ms
      → related line m n (copies_of ls) s (copies_of ms) u → room_from k s ls c ≡ room_from l u ms c
  room_from-same line m n c s [] u [] e meets = laws.taken line m n [] s [] u c meets
  room_from-same line m n c s [] u (y ∷ ms) e meets = absurd e
  room_from-same line m n c s (x ∷ ls) u [] e meets = absurd e
  room_from-same line m n c s (x ∷ ls) u (y ∷ ms) e meets =
      laws.taken_then line m n x.copy (copies_of ls) s y.copy (copies_of ms) u c meets

  has_room_for-same : (m : M) (n : N) (c : ℕ) (ends : Ends) (p : Option (Process S C)) (p' : Option (Process T D))
      (q : Option (Process S C)) (q' : Option (Process T D))
      → OptionsMeet (ProcessesMeet related m n) p p' → OptionsMeet (ProcessesMeet related m n) q q'
      → has_room_for k c ends p q ≡ has_room_for l c ends p' q'
  has_room_for-same m n c ends None None q q' e f = refl
  has_room_for-same m n c ends None (Some p') q q' e f = absurd e
  has_room_for-same m n c ends (Some p) None q q' e f = absurd e
  has_room_for-same m n c ends (Some p) (Some p') None None e f = refl
  has_room_for-same m n c ends (Some p) (Some p') None (Some q') e f = absurd f
  has_room_for-same m n c ends (Some p) (Some p') (Some q) None e f = absurd f
  has_room_for-same m n c ends (Some p) (Some p') (Some q) (Some q') e f =
      ap₂ (λ (sent from : ℕ). nat_lt sent (ends.size + from))
      (laws.sent p.at_line m n (copies_of p.levels) p.state (copies_of p'.levels) p'.state c e.states)
      (room_from-same q.at_line m n c q.state q.levels q'.state q'.levels f.marks f.states)

  has_room_on-same : (w : World S C M) (v : World T D N) (c : ℕ) (ends : Option Ends) → WorldsMeet shared related w v
      → has_room_on k w c ends ≡ has_room_on l v c ends
  has_room_on-same w v c None meets = refl
  has_room_on-same w v c (Some ends) meets =
      has_room_for-same w.memory v.memory c ends
      (slice_get w.processes ends.sender) (slice_get v.processes ends.sender) (slice_get w.processes ends.receiver)
      (slice_get v.processes ends.receiver)
      (get_meets related w.memory v.memory w.processes v.processes ends.sender meets.processes)
      (get_meets related w.memory v.memory w.processes v.processes ends.receiver meets.processes)

  pub has_room-same : (w : World S C M) (v : World T D N) (c : ℕ) → WorldsMeet shared related w v → has_room k w c ≡ has_room l v c
  has_room-same w v c meets =
      has_room_on-same w v c (slice_get k.channels c) meets
      ∙ ap (λ (channels : List Ends). has_room_on l v c (slice_get channels c)) laws.channels

  seen_count-same : (line : Bool) (m : M) (n : N) (c : ℕ) (cs : List C) (s : S) (ds : List D) (u : T) (x : Option C) (y : Option D)
      → related line m n cs s ds u → CopiesMeet cs ds x y → seen_count k s x c ≡ seen_count l u y c
  seen_count-same line m n c cs s ds u None None meets e = laws.sent line m n cs s ds u c meets
  seen_count-same line m n c cs s ds u None (Some y) meets e = absurd e
  seen_count-same line m n c cs s ds u (Some x) None meets e = absurd e
  seen_count-same line m n c cs s ds u (Some x) (Some y) meets e = laws.sent_then line m n cs s ds u c e.0 x y meets e.1 e.2

  -- the receiver q of channel c, which acts
  module _ (t p : ℕ) (q : Process S C) (w : World S C M) (c : ℕ) (acts : IsActing known t p q w)
      (wants : (k.want q.state ≡ ReceivesOn c) ⊎ (k.want q.state ≡ MayReceiveOn c)) where
    seen_message-same : (n : N) (sender receiver : Process S C) (r : Process T D) → IsReceipt k q w c sender receiver → shared w.memory n
        → ProcessesMeet related w.memory n sender r → (x : Option C) (y : Option D) → seen_copy sender.levels receiver.levels ≡ x
        → CopiesMeet (copies_of sender.levels) (copies_of r.levels) x y
        → nat_lt (k.taken receiver.state c) (seen_count k sender.state x c) ≡ true
        → seen_message k w.memory sender.state x c (k.taken receiver.state c) ≡ seen_message l n r.state y c (k.taken receiver.state c)
    seen_message-same n sender receiver r receipt memories meets None None e copies more =
        laws.message t p q w c sender receiver n (copies_of r.levels) r.state acts receipt memories meets.states e
        (ltb-true (k.taken receiver.state c) (k.sent sender.state c) more)
    seen_message-same n sender receiver r receipt memories meets None (Some y) e copies more = absurd copies
    seen_message-same n sender receiver r receipt memories meets (Some x) None e copies more = absurd copies
    seen_message-same n sender receiver r receipt memories meets (Some x) (Some y) e copies more =
        laws.message_then t p q w c sender receiver n (copies_of r.levels) r.state copies.0 x y acts receipt memories meets.states e copies.1 copies.2
        (ltb-true (k.taken receiver.state c) (k.sent_then sender.state x c) more)

    first_message-same : (n : N) (sender receiver : Process S C) (r : Process T D) → IsReceipt k q w c sender receiver → shared w.memory n
        → ProcessesMeet related w.memory n sender r → (y : Option D)
        → CopiesMeet (copies_of sender.levels) (copies_of r.levels) (seen_copy sender.levels receiver.levels) y
        → first_message k w.memory c sender.state (seen_copy sender.levels receiver.levels) (k.taken receiver.state c)
        ≡ first_message l n c r.state y (k.taken receiver.state c)
    first_message-same n sender receiver r receipt memories meets y copies =
        let x = seen_copy sender.levels receiver.levels in
        let i = k.taken receiver.state c in
        cond_meets (λ (v v' : Option ℤ). v ≡ v') (nat_lt i (seen_count k sender.state x c)) (nat_lt i (seen_count l r.state y c))
        (ap (nat_lt i)
        (seen_count-same sender.at_line w.memory n c (copies_of sender.levels) sender.state
        (copies_of r.levels) r.state x y meets.states copies))
        (λ more. ap Some (seen_message-same n sender receiver r receipt memories meets x y refl copies more))
        (λ _. refl)

    message_between-same : (n : N) (ends : Ends) → slice_get k.channels c ≡ Some ends → shared w.memory n
        → (x : Option (Process S C)) (x' : Option (Process T D)) (y : Option (Process S C)) (y' : Option (Process T D))
        → slice_get w.processes ends.sender ≡ x → slice_get w.processes ends.receiver ≡ y
        → OptionsMeet (ProcessesMeet related w.memory n) x x' → OptionsMeet (ProcessesMeet related w.memory n) y y'
        → message_between k w.memory c x y ≡ message_between l n c x' y'
    message_between-same n ends channel memories None None y y' sends receives e f = refl
    message_between-same n ends channel memories None (Some x') y y' sends receives e f = absurd e
    message_between-same n ends channel memories (Some x) None y y' sends receives e f = absurd e
    message_between-same n ends channel memories (Some x) (Some x') None None sends receives e f = refl
    message_between-same n ends channel memories (Some x) (Some x') None (Some y') sends receives e f = absurd f
    message_between-same n ends channel memories (Some x) (Some x') (Some y) None sends receives e f = absurd f
    message_between-same n ends channel memories (Some x) (Some x') (Some y) (Some y') sends receives e f =
        first_message-same n x y x' (record { ends = ends; channel = channel; sends = sends; receives = receives; wants = wants }) memories e
        (seen_copy x'.levels y'.levels) (seen_copies x.levels x'.levels y.levels y'.levels e.marks f.marks)
        ∙ ap (first_message l n c x'.state (seen_copy x'.levels y'.levels))
        (laws.taken y.at_line w.memory n (copies_of y.levels) y.state (copies_of y'.levels) y'.state c f.states)

    message_on-same : (v : World T D N) → WorldsMeet shared related w v → (ends : Option Ends) → slice_get k.channels c ≡ ends
        → message_on k w c ends ≡ message_on l v c ends
    message_on-same v meets None channel = refl
    message_on-same v meets (Some ends) channel =
        message_between-same v.memory ends channel meets.memories
        (slice_get w.processes ends.sender) (slice_get v.processes ends.sender) (slice_get w.processes ends.receiver)
        (slice_get v.processes ends.receiver)
        refl refl
        (get_meets related w.memory v.memory w.processes v.processes ends.sender meets.processes)
        (get_meets related w.memory v.memory w.processes v.processes ends.receiver meets.processes)

    pub message_there-same : (v : World T D N) → WorldsMeet shared related w v → message_there k w c ≡ message_there l v c
    message_there-same v meets =
        message_on-same v meets (slice_get k.channels c) refl
        ∙ ap (λ (channels : List Ends). message_on l v c (slice_get channels c)) laws.channels
