-- A cascade of rejections, level by level: what the rejection of one level comes to, and that of the next level out.
use Rattle.std.proofs.Common.{◌≡◌, ◌+◌, ℕ, zero, suc, Bool, true, false, not, cond, ◌&&◌, List, [], ◌∷◌, map, nat_lt, Option, Some, None, slice_get, refl, ap, ◌∙◌, add-one}
use Rattle.std.specs.Option.{is_none}
use Rattle.rb_base.specs.declared.event.Cause.{Cause}
use Rattle.rb_base.specs.declared.event.Cause.TheVariants.{Inner}
use Rattle.rb_base.specs.declared.event.Event.{Event}
use Rattle.rb_base.specs.declared.event.Event.TheVariants.{Reject, RejectAll}
use Rattle.rb_world.specs.Kind.{Kind}
use Rattle.rb_world.specs.Reject.{after_event, all_back, broken_talk, exhausted_next, fallen_inside, next_talk, parent_of, private_next, put_back, raised, reject, reject_at, reject_either, reset_below, together_next, where_inside}
use Rattle.rb_world.specs.World.{Level, Process, World, change_at, process_levels, with_process}
use Rattle.rb_conv.specs.Laws.{talk_after}
use Rattle.rb_recovery.specs.Rejections.{IsRejection, tried_alone, tried_together}

-- two changes, one after the other, at one place and everywhere
pub change_twice : {A : Type 0} (p : ℕ) (f g : A → A) (xs : List A) → change_at p f (change_at p g xs) ≡ change_at p (λ x. f (g x)) xs
change_twice p f g [] = refl
change_twice zero f g (x ∷ xs) = refl
change_twice {A} (suc p) f g (x ∷ xs) = ap (λ (ys : List A). x ∷ ys) (change_twice p f g xs)

pub map_twice : {A : Type 0} (f g : A → A) (xs : List A) → map f (map g xs) ≡ map (λ x. f (g x)) xs
map_twice f g [] = refl
map_twice {A} f g (x ∷ xs) = ap (λ (ys : List A). f (g x) ∷ ys) (map_twice f g xs)

-- the same rejection, told of equal values
pub same_rejection : {S C M : Type 0} (k : Kind S C M) (p j : ℕ) (cause : Cause)
    (w : World S C M) {a b : Bool} {event other : Event} {v u : World S C M}
    → a ≡ b → event ≡ other → v ≡ u → IsRejection k p j cause a event w v → IsRejection k p j cause b other w u
same_rejection {S} {C} {M} k p j cause w {b = b} {event = event} {other = other} {v = v} spent told later is =
    is
    ∙ ap (λ (x : Bool). after_event event (cond x (reject k p j Inner v) (v, []))) spent
    ∙ ap (λ (x : Event). after_event x (cond b (reject k p j Inner v) (v, []))) told
    ∙ ap (λ (x : World S C M). after_event other (cond b (reject k p j Inner x) (x, []))) later

module _ {S C M : Type 0} (k : Kind S C M) (p j : ℕ) (cause : Cause) (w : World S C M) (level : Level C) where
  rejected_either : (there : slice_get (process_levels w p) j ≡ Some level) (conversation : Option ℕ) → level.facts.conversation ≡ conversation
      → reject k p (j + 1) cause w ≡ reject_either k p j cause level conversation w (reject k p j Inner)
  rejected_either there conversation e =
      ap (λ (n : ℕ). reject k p n cause w) (add-one j)
      ∙ ap (λ (o : Option (Level C)). reject_at k p j cause o w (reject k p j Inner)) there
      ∙ ap (λ (o : Option ℕ). reject_either k p j cause level o w (reject k p j Inner)) e

  -- a private level goes back, and on to its next alternate, or the next level out is rejected
  private_goes : (more : Bool) → private_next more p j (with_process p (put_back k j) w) (reject k p j Inner)
      ≡ cond (not more) (reject k p j Inner (with_process p (tried_alone k more j) w)) (with_process p (tried_alone k more j) w, [])
  private_goes true =
      ap (λ (qs : List (Process S C)). (record { processes = qs; talks = w.talks; memory = w.memory }, []))
      (change_twice p (raised j) (put_back k j) w.processes)
  private_goes false = refl

  pub rejected_alone : slice_get (process_levels w p) j ≡ Some level → level.facts.conversation ≡ None → (more : Bool)
      → nat_lt level.alternate level.facts.alternates ≡ more
      → IsRejection k p j cause (not more) (Reject p level.facts.line level.alternate cause) w (with_process p (tried_alone k more j) w)
  rejected_alone there e more is =
      rejected_either there None e
      ∙ ap (λ (b : Bool). after_event (Reject p level.facts.line level.alternate cause)
      (private_next b p j (with_process p (put_back k j) w) (reject k p j Inner))) is
      ∙ ap (after_event (Reject p level.facts.line level.alternate cause)) (private_goes more)

  -- the world once all that are inside a conversation were rejected
  abbrev pub all_tried : Bool → Option ℕ → ℕ → World S C M
  all_tried more parent c = record {
    processes = map (tried_together k more (is_none parent) c) w.processes;
    talks = change_at c (talk_after more parent) (reset_below k.groups c w.talks);
    memory = w.memory;
  }

  -- all that are inside go back, and on to the next alternate, or fail, or the next level out is rejected
  together_goes : (c : ℕ) (more : Bool) (parent : Option ℕ) → parent_of (slice_get k.groups c) ≡ parent
      → together_next k more c (all_back k c w) (reject k p j Inner)
      ≡ cond (not more && not (is_none parent)) (reject k p j Inner (all_tried more parent c)) (all_tried more parent c, [])
  together_goes c true parent e =
      ap (λ (qs : List (Process S C)).
      (record { processes = qs; talks = change_at c next_talk (reset_below k.groups c w.talks); memory = w.memory }, []))
      (map_twice (where_inside raised c) (where_inside (put_back k) c) w.processes)
  together_goes c false None e =
      ap (λ (o : Option ℕ). exhausted_next k o c (all_back k c w) (reject k p j Inner)) e
      ∙ ap (λ (qs : List (Process S C)).
      (record { processes = qs; talks = change_at c broken_talk (reset_below k.groups c w.talks); memory = w.memory }, []))
      (map_twice (fallen_inside k c) (where_inside (put_back k) c) w.processes)
  together_goes c false (Some parent) e =
      ap (λ (o : Option ℕ). exhausted_next k o c (all_back k c w) (reject k p j Inner)) e

  pub rejected_together : slice_get (process_levels w p) j ≡ Some level → (c : ℕ) → level.facts.conversation ≡ Some c → (more : Bool)
      → nat_lt level.alternate level.facts.alternates ≡ more → (parent : Option ℕ) → parent_of (slice_get k.groups c) ≡ parent
      → IsRejection k p j cause (not more && not (is_none parent)) (RejectAll c level.alternate p cause) w (all_tried more parent c)
  rejected_together there c e more is parent around =
      rejected_either there (Some c) e
      ∙ ap (λ (b : Bool). after_event (RejectAll c level.alternate p cause) (together_next k b c (all_back k c w) (reject k p j Inner))) is
      ∙ ap (after_event (RejectAll c level.alternate p cause)) (together_goes c more parent around)
