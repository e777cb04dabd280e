-- Where steps lead is reached, and what is reached has an entry once nothing is to be followed.
use Rattle.std.proofs.Common.{◌≡◌, inl, inr, ℕ, false, List, [], ◌∷◌, slice_get, Option, Some, None, refl, sym, subst}
use Rattle.rb_world.specs.Kind.{Membership}
use Rattle.rb_code.specs.Instructions.Plain.{Code}
use Rattle.rb_code.specs.declared.instr.Instr.{Instr}
use Rattle.rb_code.specs.SoundCode.Reached.{Reached, begins as start, leads, successors}
use Rattle.rb_code.specs.SoundCode.Sound.{Entry, Has, IsMember, Table, at_address}
use Rattle.rb_flow.specs.Flow.{Keeps, Step, Steps, Takes, begins, flow, flow_by, is_above}
use Rattle.rb_search.specs.Search.{Covers, HasEntry, HasStarts, IsLedTo, IsSettled, Pending}
use Rattle.rb_flow.proofs.Going.{GoTo, addresses, flow_goes, tested}

has_entry : (o : Option Entry) (e : Entry) → Has o e → HasEntry o
has_entry None e h = h
has_entry (Some g) e h = tt

led_member : (x : ℕ) (steps : List Step) → IsLedTo x steps → IsMember x (addresses steps)
led_member x [] h = h
led_member x (step ∷ steps) (inl e) = inl e
led_member x (step ∷ steps) (inr h) = inr (led_member x steps h)

module _ (c : Code) (groups : List Membership) where
  by_goes : (instr : Instr) (a : ℕ) (e : Entry) → GoTo (successors c instr a) (flow_by c groups (Some instr) a e)
  by_goes instr a e =
      (tested (successors c instr a) (is_above e.blocks e.words) (flow c groups instr a e) (flow_goes c groups a e instr)).to

  pub led_is_reached : (a : ℕ) (e : Entry) (o : Option Instr) (steps : List Step) → slice_get c.instrs a ≡ o → flow_by c groups o a e ≡ Some steps
      → (x : ℕ) → IsLedTo x steps → Reached c a → Reached c x
  led_is_reached a e None steps at is x led known = let wrong : ⊥ = cc in absurd wrong
  led_is_reached a e (Some instr) steps at is x led known =
      let go : addresses steps ≡ successors c instr a = subst (GoTo (successors c instr a)) is (by_goes instr a e)
      in leads instr known at (subst (IsMember x) go (led_member x steps led))

  -- a table that takes steps has an entry at each of their addresses
  taken_there : (f : Table) (x : ℕ) (steps : List Step) → Takes f steps → IsMember x (addresses steps) → HasEntry (f x)
  taken_there f x [] h m = absurd m
  taken_there f x (step ∷ steps) h (inl e) =
      subst (λ y. HasEntry (f y)) e (has_entry (f step.at) (at_address step.at step.entry) h.0)
  taken_there f x (step ∷ steps) h (inr m) = taken_there f x steps h.1 m

  kept_there : (f : Table) (x : ℕ) (xs : List ℕ) (s : Steps) → GoTo xs s → Keeps f s → IsMember x xs → HasEntry (f x)
  kept_there f x xs None go keeps m = absurd keeps
  kept_there f x xs (Some steps) go keeps m = taken_there f x steps keeps (subst (IsMember x) (sym go) m)

  -- what is reached has an entry
  pub covers : (f : Table) (pending : Pending) → IsSettled c groups f pending → HasStarts c groups f → ((a : ℕ) → pending a ≡ false)
      → Covers c groups f
  covers f pending settled starts done = all
    where
      on : (o : Option Entry) (a x : ℕ) (instr : Instr) → f a ≡ o → HasEntry o → slice_get c.instrs a ≡ Some instr
          → IsMember x (successors c instr a) → HasEntry (f x)
      on None a x instr is h at m = absurd h
      on (Some e) a x instr is h at m =
          kept_there f x (successors c instr a) (flow_by c groups (Some instr) a e) (by_goes instr a e)
          (subst (λ (o : Option Instr). Keeps f (flow_by c groups o a e)) at (settled a e is (done a))) m

      all : (a : ℕ) → Reached c a → HasEntry (f a)
      all a (start p part at here) = subst (λ y. HasEntry (f y)) here (has_entry (f part.start) (begins p None 0) (starts p part at))
      all x (leads {a} instr known at m) = on (f a) a x instr refl (all a known) at m
