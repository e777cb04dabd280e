-- A turn that is idle or waits in one world does so in every world that is alike, unless a level is beyond its bound there; and it changes
-- nothing but turns used.
use Rattle.std.proofs.Common.{◌≡◌, ℕ, ◌+◌, ℤ, Bool, true, false, cond, List, [], length, map, Option, Some, None, slice_get, refl, sym, ap, ◌∙◌, subst}
use Rattle.std.specs.Prelude.{nat_le}
use Rattle.std.specs.Option.{option_map}
use Rattle.rb_base.specs.declared.event.Cause.{Cause}
use Rattle.rb_base.specs.declared.event.Cause.TheVariants.{Overrun, Depth, Broken}
use Rattle.rb_base.specs.declared.event.TurnKind.{TurnKind}
use Rattle.rb_world.specs.Channels.{has_room, message_there}
use Rattle.rb_world.specs.Kind.{Facts, Kind, Want, NothingLeft, SendsOn, ReceivesOn, MayReceiveOn, Enters, Starts, Acts, Stepped, Trapped, Went, Held}
use Rattle.rb_world.specs.Reject.{Happened, fallen, reject}
use Rattle.rb_world.specs.Turn.{Moved, accepted, accepted_at, acts, all_leave, all_stand, alternate_of, bounded, enter_either, enters, join, most_levels, open_at, passed, receives, stands_now, stepped, steps, took, trapped, tried_at, undone, waits}
use Rattle.rb_base.specs.declared.event.Event.TheVariants.{Pass}
use Rattle.rb_world.specs.World.{Level, Process, Talk, World, copy_of, last_of, process_levels, talk_at, with_memory, with_process}
use Rattle.rb_world.proofs.ListFacts.{none_some, some_same}
use Rattle.rb_stuck.specs.Alike.{IsAlike, unused}
use Rattle.rb_stuck.specs.Stuck.{is_still}
use Rattle.rb_stuck.proofs.Still.Uncounted.{copies_alike, lasts_alike, lengths_alike, message_alike, room_alike, tried_alike}

untrue : false ≡ true → ⊥
untrue e = cc

-- what a turn comes to that leaves a world as it is
abbrev pub at_rest : {S C M : Type 0} → World S C M → TurnKind → Moved S C M
at_rest w kind = record { world = w; kind = kind; rejections = []; passes = [] }

-- two processes, and the worlds that they are in, that differ in turns used alone
pub record Same {S C M : Type 0} (q r : Process S C) (w v : World S C M) : Type 0 where
  pub states : q.state ≡ r.state
  pub levels : map unused q.levels ≡ map unused r.levels
  pub lines : q.at_line ≡ r.at_line
  pub worlds : IsAlike w v

module _ {S C M : Type 0} (k : Kind S C M) (n m p : ℕ) where
  -- if the one is still, the other is so as well, and neither changes its world
  abbrev pub BothRest : World S C M → World S C M → Moved S C M → Moved S C M → Type 0
  BothRest w v one other = is_still one.kind ≡ true → (one ≡ at_rest w one.kind) × (other ≡ at_rest v one.kind)

  either : (b d : Bool) (w v : World S C M) (one other one' other' : Moved S C M) → b ≡ d → BothRest w v one one'
      → BothRest w v other other' → BothRest w v (cond b one other) (cond d one' other')
  either true true w v one other one' other' e h i = h
  either true false w v one other one' other' e h i = absurd (cc)
  either false true w v one other one' other' e h i = absurd (cc)
  either false false w v one other one' other' e h i = i

  both_wait : (w v : World S C M) → BothRest w v (waits w) (waits v)
  both_wait w v still = (refl, refl)

  -- where the one is not still there is nothing to show
  never : (w v : World S C M) (one other : Moved S C M) → is_still one.kind ≡ false → BothRest w v one other
  never w v one other not still = absurd (untrue (sym not ∙ still))

  undone_never : (w v : World S C M) (happened : Happened S C M) (other : Moved S C M) → BothRest w v (undone happened) other
  undone_never w v (after, events) other = never w v (undone (after, events)) other refl

  trapped_never : (cause : Cause) (w v : World S C M) (other : Moved S C M) → BothRest w v (trapped k p cause w) other
  trapped_never cause w v other = undone_never w v (reject k p (length (process_levels w p)) cause w) other

  joins : (facts : Facts) (q r : Process S C) (w v : World S C M) (talk talk' : Option Talk) → talk ≡ talk'
      → BothRest w v (join k n p facts q w talk) (join k m p facts r v talk')
  joins facts q r w v None None e = both_wait w v
  joins facts q r w v None (Some t) e = absurd (cc)
  joins facts q r w v (Some t) None e = absurd (cc)
  joins facts q r w v (Some t) (Some u) e =
      either t.is_broken u.is_broken w v (undone (with_process p (fallen k Broken) w, [])) (open_at k n p facts t.alternate q w)
      (undone (with_process p (fallen k Broken) v, [])) (open_at k m p facts u.alternate r v)
      (ap (λ (one : Talk). one.is_broken) (some_same e))
      (undone_never w v (with_process p (fallen k Broken) w, []) (undone (with_process p (fallen k Broken) v, [])))
      (never w v (open_at k n p facts t.alternate q w) (open_at k m p facts u.alternate r v) refl)

  enters_either : (facts : Facts) (conversation : Option ℕ) (q r : Process S C) (w v : World S C M) → Same q r w v
      → BothRest w v (enter_either k n p facts conversation q w) (enter_either k m p facts conversation r v)
  enters_either facts None q r w v same = never w v (open_at k n p facts 1 q w) (open_at k m p facts 1 r v) refl
  enters_either facts (Some c) q r w v same =
      joins facts q r w v (talk_at w c) (talk_at v c) (ap (λ (talks : List Talk). slice_get talks c) same.worlds.talks)

  both_enter : (facts : Facts) (q r : Process S C) (w v : World S C M) → Same q r w v
      → BothRest w v (enters k n p facts q w) (enters k m p facts r v)
  both_enter facts q r w v same =
      either (nat_le most_levels (length q.levels)) (nat_le most_levels (length r.levels)) w v
      (trapped k p Depth w) (enter_either k n p facts facts.conversation q w)
      (trapped k p Depth v) (enter_either k m p facts facts.conversation r v)
      (ap (nat_le most_levels) (lengths_alike q.levels r.levels same.levels))
      (trapped_never Depth w v (trapped k p Depth v)) (enters_either facts facts.conversation q r w v same)

  -- a test line is passed or reached: neither is still
  one_of : (b : Bool) (passes stands : Moved S C M) → is_still passes.kind ≡ false → is_still stands.kind ≡ false
      → is_still (cond b passes stands).kind ≡ false
  one_of true passes stands h i = h
  one_of false passes stands h i = i

  accepted_moves : (levels : List (Level C)) (conversation : Option ℕ) (w : World S C M) (after : S × M)
      → is_still (accepted_at k p levels conversation w after).kind ≡ false
  accepted_moves levels None w (s, memory) = refl
  accepted_moves levels (Some c) w (s, memory) =
      let stands : World S C M = with_memory memory (with_process p (λ _. stands_now s levels) w) in
      one_of (all_stand k c stands) (passed (Pass c (alternate_of (talk_at stands c))) (all_leave k c stands)) (took stands) refl refl

  -- without a level a test that held waits
  both_held : (last last' : Option (Level C)) (levels levels' : List (Level C)) (w v : World S C M) (after after' : S × M)
      → option_map unused last ≡ option_map unused last'
      → BothRest w v (accepted k p levels last w after) (accepted k p levels' last' v after')
  both_held None None levels levels' w v after after' e = both_wait w v
  both_held None (Some l) levels levels' w v after after' e = absurd (none_some e)
  both_held (Some l) last' levels levels' w v after after' e =
      never w v (accepted k p levels (Some l) w after) (accepted k p levels' last' v after')
      (accepted_moves levels l.facts.conversation w after)

  both_stepped : (alternate alternate' : ℕ) (levels levels' : List (Level C)) (w v : World S C M) (came came' : Stepped S M) → came ≡ came'
      → map unused levels ≡ map unused levels'
      → BothRest w v (stepped k n p alternate levels w came) (stepped k m p alternate' levels' v came')
  both_stepped alternate alternate' levels levels' w v (Trapped cause) came' e alike =
      trapped_never cause w v (stepped k m p alternate' levels' v came')
  both_stepped alternate alternate' levels levels' w v (Went s memory) came' e alike =
      never w v (stepped k n p alternate levels w (Went s memory)) (stepped k m p alternate' levels' v came') refl
  both_stepped alternate alternate' levels levels' w v (Held s) came' e alike =
      subst (λ (c : Stepped S M).
      BothRest w v (stepped k n p alternate levels w (Held s)) (stepped k m p alternate' levels' v c)) e
      (both_held (last_of levels) (last_of levels') levels levels' w v (k.keep n alternate s w.memory) (k.keep m alternate' s v.memory)
      (lasts_alike levels levels' alike))

  both_step : (alternate alternate' : ℕ) (message message' : Option ℤ) (q r : Process S C) (w v : World S C M) → Same q r w v
      → alternate ≡ alternate' → message ≡ message'
      → BothRest w v (steps k n p alternate message q w) (steps k m p alternate' message' r v)
  both_step alternate alternate' message message' q r w v same alternates messages =
      let copies : copy_of (last_of q.levels) ≡ copy_of (last_of r.levels) =
      copies_alike (last_of q.levels) (last_of r.levels) (lasts_alike q.levels r.levels same.levels) in
      both_stepped alternate alternate' q.levels r.levels w v
      (k.step alternate (copy_of (last_of q.levels)) q.state message w.memory)
      (k.step alternate' (copy_of (last_of r.levels)) r.state message' v.memory)
      (λ i. k.step (alternates i) (copies i) (same.states i) (messages i) (same.worlds.memory i)) same.levels

  both_receive : (q r : Process S C) (w v : World S C M) (message message' : Option ℤ) → Same q r w v → message ≡ message'
      → BothRest w v (receives k n p q w message) (receives k m p r v message')
  both_receive q r w v None None same e = both_wait w v
  both_receive q r w v None (Some x) same e = absurd (none_some e)
  both_receive q r w v (Some x) None same e = absurd (none_some (sym e))
  both_receive q r w v (Some x) (Some y) same e = both_step 0 0 (Some x) (Some y) q r w v same refl e

  both_act : (want : Want) (q r : Process S C) (w v : World S C M) → Same q r w v
      → BothRest w v (acts k n p q w want) (acts k m p r v want)
  both_act NothingLeft q r w v same = λ still. (refl, refl)
  both_act (SendsOn c) q r w v same =
      either (has_room k w c) (has_room k v c) w v (steps k n p 0 None q w) (waits w) (steps k m p 0 None r v) (waits v)
      (room_alike k w v same.worlds c) (both_step 0 0 None None q r w v same refl refl) (both_wait w v)
  both_act (ReceivesOn c) q r w v same =
      both_receive q r w v (message_there k w c) (message_there k v c) same (message_alike k w v same.worlds c)
  both_act (MayReceiveOn c) q r w v same =
      both_step 0 0 (message_there k w c) (message_there k v c) q r w v same refl (message_alike k w v same.worlds c)
  both_act (Enters facts) q r w v same = both_enter facts q r w v same
  both_act Starts q r w v same =
      both_step (tried_at (last_of q.levels)) (tried_at (last_of r.levels)) None None q r w v same
      (tried_alike (last_of q.levels) (last_of r.levels) (lasts_alike q.levels r.levels same.levels)) refl
  both_act Acts q r w v same = both_step 0 0 None None q r w v same refl refl

  pub both_bounded : (over : Option ℕ) (q r : Process S C) (w v : World S C M) → Same q r w v
      → BothRest w v (bounded k n p q w over) (bounded k m p r v None)
  both_bounded (Some j) q r w v same = undone_never w v (reject k p (j + 1) Overrun w) (bounded k m p r v None)
  both_bounded None q r w v same =
      either q.at_line r.at_line w v (waits w) (acts k n p q w (k.want q.state)) (waits v) (acts k m p r v (k.want r.state))
      same.lines (both_wait w v)
      (subst (λ (want : Want). BothRest w v (acts k n p q w (k.want q.state)) (acts k m p r v want)) (ap k.want same.states)
      (both_act (k.want q.state) q r w v same))
