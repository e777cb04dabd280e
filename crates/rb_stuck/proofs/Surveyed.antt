-- A machine of which the first processes have taken a turn each, all of them idle or waits.
use Rattle.std.proofs.Common.{◌≡◌, ◌≤◌, ◌<◌, ℕ, suc, ◌+◌, Bool, true, false, ◌&&◌, List, [], ◌∷◌, drop, length, replicate, Option, Some, None, slice_get, refl, sym, ap, ap₂, ◌∙◌, subst, arith}
use Rattle.std.specs.List.{list_all}
use Rattle.std.specs.Option.{option_map}
use Rattle.std.proofs.lemmas.Option.{get_or_from_slice_get, slice_get-map, slice_get_within}
use Rattle.std.proofs.Math.Seq.{drop-cons}
use Rattle.rb_base.specs.declared.event.State.{State}
use Rattle.rb_base.specs.declared.event.State.TheVariants as state
use Rattle.rb_trace.specs.Ended.{state_of}
use Rattle.rb_world.specs.Kind.{Kind}
use Rattle.rb_world.specs.Turn.{Told, turn}
use Rattle.rb_world.specs.World.{Process, ProcessStatus, Running, Finished, FailedWith}
use Rattle.rb_world.proofs.ListFacts.{none_some, some_same}
use Rattle.rb_code.specs.WordMachine.Turn.{Common, Copy, Standing}
use Rattle.rb_code.specs.WordMachine.WordKind.{word_kind}
use Rattle.rb_code.specs.WordMachine.WordRun.{WordWorld}
use Rattle.rb_machine.specs.Machine.{HasTurned, Seen, turned}
use Rattle.rb_recovery.specs.Reading.{states_of}
use Rattle.rb_machine.specs.Telling.{AreFreed}
use Rattle.rb_stuck.specs.Alike.{IsAlike}
use Rattle.rb_stuck.specs.Stuck.{all_still, has_ended, is_final, is_still, is_stuck, stands_still}
use Rattle.rb_stuck.specs.Survey.{HasStood}
use Rattle.rb_stuck.proofs.Still.Stays.{as_many, below}
use Rattle.rb_stuck.proofs.Still.Turns.{alike_back, alike_self, alike_then, as_still, still_stays}
use Rattle.rb_stuck.proofs.WordsFreed.{all_hold_none}

pub record HasSurveyed (old : Seen) (p : ℕ) (new : Seen) : Type 0 where
  pub code : new.code ≡ old.code
  pub groups : new.groups ≡ old.groups
  pub most : new.most ≡ old.most
  pub taken : new.taken ≡ old.taken + p
  pub alike : IsAlike new.world old.world
  pub others : (r : ℕ) → p ≤ r → slice_get new.world.processes r ≡ slice_get old.world.processes r
  pub waits : new.waiting ≡ replicate (length new.world.processes) []
  pub still : all_still (word_kind old.code old.groups) (old.taken + 1) old.world p ≡ true

pub none_surveyed : (old : Seen) → old.waiting ≡ replicate (length old.world.processes) [] → HasSurveyed old 0 old
none_surveyed old waits = record {
  code = refl;
  groups = refl;
  most = refl;
  taken = omega arith;
  alike = alike_self old.world;
  others = λ r from. refl;
  waits = waits;
  still = refl;
}

-- one turn more
module _ (old m new : Seen) (p : ℕ) (told : Told) (so_far : HasSurveyed old p m) (took : HasTurned m p new told) where
  abbrev kind : Kind Standing Copy Common
  kind = word_kind old.code old.groups

  as_turned : turned m p ≡ turn kind (m.taken + 1) p m.world
  as_turned = λ i. turn (word_kind (so_far.code i) (so_far.groups i)) (m.taken + 1) p m.world

  kind_told : told.kind ≡ (turn kind (m.taken + 1) p m.world).1.kind
  kind_told = ap (λ (one : Told). one.kind) took.told_is ∙ ap (λ (end : WordWorld × Told). end.1.kind) as_turned

  -- it is still where it would have been so at first
  pub still_as_first : stands_still kind (old.taken + 1) old.world p ≡ is_still told.kind
  still_as_first =
      as_still kind (old.taken + 1) (m.taken + 1) p old.world m.world (alike_back so_far.alike) (sym (so_far.others p (omega arith)))
      ∙ sym (ap is_still kind_told)

  pub one_more : AreFreed m.world.processes → is_still told.kind ≡ true → HasSurveyed old (p + 1) new
  one_more free still =
      let stays = still_stays kind (m.taken + 1) p m.world (all_hold_none old.code old.groups m.world.processes free)
      (ap is_still (sym kind_told) ∙ still) in
      let after : WordWorld = (turn kind (m.taken + 1) p m.world).0 in
      let world : new.world ≡ after =
      ap (λ (seen : Seen). seen.world) took.machine ∙ ap (λ (end : WordWorld × Told). end.0) as_turned in
      let released : new.waiting ≡ replicate (length m.world.processes) [] =
      ap (λ (seen : Seen). seen.waiting) took.machine ∙ ap (λ (end : WordWorld × Told). end.1.released) as_turned
      ∙ ap (λ (one : Told). one.released) stays.tells in
      let alike : IsAlike new.world m.world = subst (λ (w : WordWorld). IsAlike w m.world) (sym world) stays.alike in
      let first : stands_still kind (old.taken + 1) old.world p ≡ true = still_as_first ∙ still in
      record {
        code = ap (λ (seen : Seen). seen.code) took.machine ∙ so_far.code;
        groups = ap (λ (seen : Seen). seen.groups) took.machine ∙ so_far.groups;
        most = ap (λ (seen : Seen). seen.most) took.machine ∙ so_far.most;
        taken = omega (arith, ap (λ (seen : Seen). seen.taken) took.machine, so_far.taken);
        alike = alike_then alike so_far.alike;
        others = λ r from.
            ap (λ (w : WordWorld). slice_get w.processes r) world
            ∙ stays.others r (λ same. omega (arith, from, same)) ∙ so_far.others r (omega (arith, from));
        waits = released ∙ ap (λ n. replicate n []) (sym (as_many new.world m.world alike));
        still = subst (λ b. all_still kind (old.taken + 1) old.world b ≡ true) {x = suc p} {y = p + 1} (omega arith) (ap₂ ◌&&◌ so_far.still first);
      }

-- a world in which a turn is not still is not stuck
pub not_stuck : (old : Seen) (p : ℕ) → p < length old.world.processes
    → stands_still (word_kind old.code old.groups) (old.taken + 1) old.world p ≡ false
    → is_stuck (word_kind old.code old.groups) (old.taken + 1) old.world ≡ false
not_stuck old p less moves = by (is_stuck (word_kind old.code old.groups) (old.taken + 1) old.world) refl
  where
    by : (b : Bool) → is_stuck (word_kind old.code old.groups) (old.taken + 1) old.world ≡ b → b ≡ false
    by false e = refl
    by true e =
        let stands = below (word_kind old.code old.groups) (old.taken + 1) old.world (length old.world.processes) p e less in
        absurd (let both : true ≡ false = sym stands ∙ moves in cc)

pub all_surveyed : (old new : Seen) (p : ℕ) → HasSurveyed old p new → p ≡ length old.world.processes
    → is_stuck (word_kind old.code old.groups) (old.taken + 1) old.world ≡ true
all_surveyed old new p done all = subst (λ b. all_still (word_kind old.code old.groups) (old.taken + 1) old.world b ≡ true) all done.still

pub has_stood : (old new : Seen) (p : ℕ) → HasSurveyed old p new → HasStood old new
has_stood old new p done = record { code = done.code; groups = done.groups; world = done.alike }

-- Whether all processes have ended is told by their states.
abbrev pub is_ended : State → Bool
is_ended (state.Running levels) = false
is_ended state.Done = true
is_ended state.Failed = true

pub ended_state : (status : ProcessStatus) (levels : ℕ) → is_ended (state_of (status, levels)) ≡ is_final status
ended_state Running levels = refl
ended_state Finished levels = refl
ended_state (FailedWith cause) levels = refl

abbrev state_seen : Process Standing Copy → State
state_seen q = state_of (q.status, length q.levels)

found : (o : Option (Process Standing Copy)) (one : State) → option_map state_seen o ≡ Some one
    → (q : Process Standing Copy) × (o ≡ Some q) × (state_seen q ≡ one)
found None one e = absurd (none_some e)
found (Some q) one e = (q, refl, some_same e)

-- a process of which the state is told
pub process_seen : (qs : List (Process Standing Copy)) (p : ℕ) (one : State) → slice_get (states_of qs) p ≡ Some one
    → (q : Process Standing Copy) × (slice_get qs p ≡ Some q) × (state_seen q ≡ one)
process_seen qs p one e = found (slice_get qs p) one (sym (slice_get-map state_seen qs p) ∙ e)

-- and what is left from it on
pub left_from : {A : Type 0} (xs : List A) (p : ℕ) (x : A) → slice_get xs p ≡ Some x → drop p xs ≡ x ∷ drop (p + 1) xs
left_from {A} xs p x there =
    drop-cons xs p x (slice_get_within xs p x there)
    ∙ ap₂ (λ (y : A) (n : ℕ). y ∷ drop n xs) {u = suc p} {v = p + 1} (get_or_from_slice_get xs p x x there) (omega arith)

pub ended_next : (qs : List (Process Standing Copy)) (p : ℕ) (one : State) → slice_get (states_of qs) p ≡ Some one
    → list_all has_ended (drop p qs) ≡ (is_ended one && list_all has_ended (drop (p + 1) qs))
ended_next qs p one told =
    let seen = process_seen qs p one told in
    let q = seen.0 in
    ap (list_all has_ended) (left_from qs p q seen.1)
    ∙ ap (λ b. b && list_all has_ended (drop (p + 1) qs)) (sym (ended_state q.status (length q.levels)) ∙ ap is_ended seen.2)

-- who does not run has ended
pub ended_unless : (one : State) → ((levels : ℕ) → one ≡ state.Running levels → ⊥) → is_ended one ≡ true
ended_unless (state.Running levels) not = absurd (not levels refl)
ended_unless state.Done not = refl
ended_unless state.Failed not = refl
