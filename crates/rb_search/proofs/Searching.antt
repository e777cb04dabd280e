-- A search that has followed all addresses has found a table; and where it can't go on there is none.
use Rattle.std.proofs.Common.{◌≡◌, ◌⊎◌, inl, inr, ℕ, Bool, true, false, List, [], ◌∷◌, filter, slice_get, Option, Some, None, refl, sym, ap, ◌∙◌, subst, nat_eq, eqb-true, eq-eqb}
use Rattle.rb_code.specs.Instructions.Plain.{Code}
use Rattle.rb_world.specs.Kind.{Membership}
use Rattle.rb_code.specs.declared.instr.Instr.{Instr}
use Rattle.rb_code.specs.SoundCode.Sound.{Loop, Entry, FineAt, Has, HasTable, IsAbove, IsWeaker, Table, at_address, is_in}
use Rattle.rb_flow.specs.Flow.{Keeps, Step, Steps, Takes, begins, flow_at, flow_by, flow, is_above}
use Rattle.rb_entries.specs.Join.{joined}
use Rattle.rb_search.specs.Search.{Gains, HasGained, HasNoTable, HasEntry, HasStarts, IsBelow, IsLedTo, IsFollowing, IsFound, IsSearching, IsStrongest, LiesAround, Pending}
use Rattle.rb_flow.proofs.Tests.{above_tells}
use Rattle.rb_flow.proofs.Weaker.{begun_is, has_stronger, itself}
use Rattle.rb_flow.proofs.FlowIsFine.{fine_is_flow, when1}
use Rattle.rb_flow.proofs.Monotone.{flow_is_monotone}
use Rattle.rb_search.proofs.Led.{covers, led_is_reached}
use Rattle.rb_search.proofs.Joins.{joined_is_strongest, joined_is_weaker}

-- an address is another one, or it is this one
pub decided : (a b : ℕ) → (a ≡ b) ⊎ (a ≡ b → ⊥)
decided a b = by (nat_eq a b) refl
  where
    by : (t : Bool) → nat_eq a b ≡ t → (a ≡ b) ⊎ (a ≡ b → ⊥)
    by true e = inl (eqb-true a b e)
    by false e = inr (λ h. let k = eq-eqb a b h in cc)

-- a table that says at most what another has it takes with it
pub has_on : (f t : Table) (a : ℕ) (e : Entry) → IsBelow f t → Has (f a) e → Has (t a) e
has_on f t a e below h = by (f a) refl h
  where
    by : (o : Option Entry) → f a ≡ o → Has o e → Has (t a) e
    by None is h = absurd h
    by (Some g) is h = has_stronger (t a) e g h (below a g is)

pub takes_on : (f t : Table) (steps : List Step) → IsBelow f t → Takes f steps → Takes t steps
takes_on f t [] below h = tt
takes_on f t (step ∷ steps) below h =
    (has_on f t step.at (at_address step.at step.entry) below h.0, takes_on f t steps below h.1)

pub keeps_on : (f t : Table) (s : Steps) → IsBelow f t → Keeps f s → Keeps t s
keeps_on f t None below h = h
keeps_on f t (Some steps) below h = takes_on f t steps below h

pub below_itself : (f : Table) → IsBelow f f
below_itself f a e is = subst (λ o. Has o e) (sym is) (itself e)

pub below_on : (f g t : Table) → IsBelow f g → IsBelow g t → IsBelow f t
below_on f g t h k a e is = has_on g t a e k (h a e is)

module _ (c : Code) (groups : List Membership) where
  -- the rule at an address, and words above those of the innermost open block
  above_and_fine : (t : Table) (o : Option Instr) (a : ℕ) (e : Entry) → IsAbove e.blocks e.words → FineAt c groups t o a e
      → Keeps t (flow_by c groups o a e)
  above_and_fine t None a e above fine = fine
  above_and_fine t (Some instr) a e above fine =
      (when1 t (is_above e.blocks e.words) (flow c groups instr a e) (above_tells e.blocks e.words) (fine_is_flow c groups t instr a e)).0
      (above, fine)

  fine_and_above : (t : Table) (o : Option Instr) (a : ℕ) (e : Entry) → Keeps t (flow_by c groups o a e)
      → IsAbove e.blocks e.words × FineAt c groups t o a e
  fine_and_above t None a e h = absurd h
  fine_and_above t (Some instr) a e h =
      (when1 t (is_above e.blocks e.words) (flow c groups instr a e) (above_tells e.blocks e.words) (fine_is_flow c groups t instr a e)).1 h

  pub table_keeps : (t : Table) → HasTable c groups t → (a : ℕ) (e : Entry) → t a ≡ Some e → Keeps t (flow_at c groups a e)
  table_keeps t has a e is = let s = has.each a e is in above_and_fine t (slice_get c.instrs a) a e s.above s.fine

  has_begun : (o : Option Entry) (p : ℕ) → Has o (begins p None 0) → o ≡ Some (begins p None 0)
  has_begun None p h = absurd h
  has_begun (Some g) p h = ap Some (begun_is p 0 None g h)

  pub table_starts : (t : Table) → HasTable c groups t → HasStarts c groups t
  table_starts t has p part is = subst (λ o. Has o (begins p None 0)) (sym (has.mains p part is)) (itself (begins p None 0))

  -- what was found is a table if nothing is to be followed
  found_table : (f : Table) (pending : Pending) → IsSearching c groups f pending → ((a : ℕ) → pending a ≡ false) → HasTable c groups f
  found_table f pending s done = record {
    mains = λ p part is. has_begun (f part.start) p (s.starts p part is);
    each = λ a e is. let k = fine_and_above f (slice_get c.instrs a) a e (s.settled a e is (done a)) in record {
      fine = k.1;
      above = k.0;
      around = s.around a e is;
    };
  }

  pub found : (f : Table) (pending : Pending) → IsSearching c groups f pending → ((a : ℕ) → pending a ≡ false) → IsFound c groups f
  found f pending s done = record {
    has = found_table f pending s done;
    strongest = s.strongest;
    reached = s.reached;
    covers = covers c groups f pending s.settled s.starts done;
  }

  -- a rule that is broken by what was found is broken by every table
  pub broken : (f : Table) (a : ℕ) (e : Entry) → IsStrongest c groups f → f a ≡ Some e → flow_at c groups a e ≡ None → HasNoTable c groups
  broken f a e strongest is none t has = by (t a) refl (strongest t has a e is)
    where
      by : (o : Option Entry) → t a ≡ o → Has o e → ⊥
      by None at h = h
      by (Some g) at h = subst (Keeps t) none (flow_is_monotone c groups t a e g h (table_keeps t has a g at))

  -- every table takes the steps of what was found
  pub taken : (f t : Table) (a : ℕ) (e : Entry) (steps : List Step) → IsStrongest c groups f → f a ≡ Some e → flow_at c groups a e ≡ Some steps
      → HasTable c groups t → Takes t steps
  taken f t a e steps strongest is some has = by (t a) refl (strongest t has a e is)
    where
      by : (o : Option Entry) → t a ≡ o → Has o e → Takes t steps
      by None at h = absurd h
      by (Some g) at h = subst (Keeps t) some (flow_is_monotone c groups t a e g h (table_keeps t has a g at))

  -- an address is followed
  pub followed : (f g : Table) (pending after : Pending) (a : ℕ) (e : Entry) → IsFollowing c groups f pending a
      → f a ≡ Some e → HasGained (flow_at c groups a e) f pending g after → IsSearching c groups g after
  followed f g pending after a e s is all = by (flow_at c groups a e) refl all
    where
      old : (steps : List Step) → flow_at c groups a e ≡ Some steps → Takes g steps → IsBelow f g → (b : ℕ) (x : Entry) → f b ≡ Some x
          → pending b ≡ false → (b ≡ a) ⊎ (b ≡ a → ⊥) → Keeps g (flow_at c groups b x)
      old steps some takes keeps b x at done (inl e2) =
          let same : x ≡ e = (let p : f b ≡ Some e = ap f e2 ∙ is in cc)
          in subst (λ y. Keeps g (flow_at c groups y x)) (sym e2) (subst (λ y. Keeps g (flow_at c groups a y)) (sym same) (subst (Keeps g)
          (sym some) takes))
      old steps some takes keeps b x at done (inr other) = keeps_on f g (flow_at c groups b x) keeps (s.settled b x at done other)

      settled : (steps : List Step) → flow_at c groups a e ≡ Some steps → Takes g steps → IsBelow f g → (b : ℕ) (x : Entry) → g b ≡ Some x
          → after b ≡ false → (after b ≡ true) ⊎ ((g b ≡ f b) × (after b ≡ pending b)) → Keeps g (flow_at c groups b x)
      settled steps some takes keeps b x at done (inl on) = let wrong : ⊥ = cc in absurd wrong
      settled steps some takes keeps b x at done (inr same) = old steps some takes keeps b x (sym same.0 ∙ at) (sym same.1 ∙ done) (decided b a)

      by : (o : Steps) → flow_at c groups a e ≡ o → HasGained o f pending g after → IsSearching c groups g after
      by None some gains = absurd gains
      by (Some steps) some gains = record {
        settled = λ b x at done. settled steps some gains.takes gains.keeps b x at done (gains.others b);
        starts = λ p part at. has_on f g part.start (begins p None 0) gains.keeps (s.starts p part at);
        strongest = λ t has. gains.least t (taken f t a e steps s.strongest is some has) (s.strongest t has);
        around = gains.around s.around;
        reached = λ x h. elim (gains.only x h) [
          | inl k ↦ s.reached x k
          | inr k ↦ led_is_reached c groups a e (slice_get c.instrs a) steps refl some x k (s.reached a (subst HasEntry (sym is) tt))
        ];
      }

  -- where no table takes what was found to be led to, the code has none
  pub refused : (f : Table) (pending : Pending) (a : ℕ) (e : Entry) → IsFollowing c groups f pending a → f a ≡ Some e
      → ((t : Table) → HasTable c groups t → IsBelow f t → Keeps t (flow_at c groups a e) → ⊥) → HasNoTable c groups
  refused f pending a e s is none t has = by (t a) refl (s.strongest t has a e is)
    where
      by : (o : Option Entry) → t a ≡ o → Has o e → ⊥
      by None at h = h
      by (Some g) at h = none t has (s.strongest t has) (flow_is_monotone c groups t a e g h (table_keeps t has a g at))

-- gains, one step after another
pub gains_nothing : (f : Table) (pending : Pending) → Gains [] f pending f pending
gains_nothing f pending = record {
  takes = tt;
  keeps = below_itself f;
  others = λ a. inr (refl, refl);
  least = λ t h below. below;
  around = λ h. h;
  only = λ a h. inl h;
}

pub gains_more : (step : Step) (steps : List Step) (f g h : Table) (p q r : Pending) → Gains (step ∷ []) f p g q → Gains steps g q h r
    → Gains (step ∷ steps) f p h r
gains_more step steps f g h p q r x y = record {
  takes = (has_on g h step.at (at_address step.at step.entry) y.keeps x.takes.0, y.takes);
  keeps = below_on f g h x.keeps y.keeps;
  others = λ a. both a (x.others a) (y.others a);
  least = λ t k below. y.least t k.1 (x.least t (k.0, tt) below);
  around = λ k. y.around (x.around k);
  only = λ a k. led a (y.only a k);
}
  where
    led_first : (a : ℕ) → HasEntry (f a) ⊎ IsLedTo a (step ∷ []) → HasEntry (f a) ⊎ IsLedTo a (step ∷ steps)
    led_first a (inl k) = inl k
    led_first a (inr (inl k)) = inr (inl k)
    led_first a (inr (inr k)) = absurd k

    led : (a : ℕ) → HasEntry (g a) ⊎ IsLedTo a steps → HasEntry (f a) ⊎ IsLedTo a (step ∷ steps)
    led a (inl k) = led_first a (x.only a k)
    led a (inr k) = inr (inr k)

    both : (a : ℕ) → (q a ≡ true) ⊎ ((g a ≡ f a) × (q a ≡ p a)) → (r a ≡ true) ⊎ ((h a ≡ g a) × (r a ≡ q a))
        → (r a ≡ true) ⊎ ((h a ≡ f a) × (r a ≡ p a))
    both a k (inl e) = inl e
    both a (inl e) (inr l) = inl (l.1 ∙ e)
    both a (inr k) (inr l) = inr (l.0 ∙ k.0, l.1 ∙ k.1)

-- the loops that stay at an address lie around it
pub stay_around : (a : ℕ) (loops : List Loop) → filter (is_in a) (filter (is_in a) loops) ≡ filter (is_in a) loops
stay_around a [] = refl
stay_around a (loop ∷ around) = by (is_in a loop) refl (stay_around a around)
  where
    by : (b : Bool) → is_in a loop ≡ b → filter (is_in a) (filter (is_in a) around) ≡ filter (is_in a) around
        → filter (is_in a) (filter (is_in a) (loop ∷ around)) ≡ filter (is_in a) (loop ∷ around)
    by true e h = simp (e, h)
    by false e h = simp (e, h)

-- one step arrives where nothing was found
pub arrives_first : (b : ℕ) (x : Entry) (f g : Table) (p q : Pending) → f b ≡ None → g b ≡ Some (at_address b x) → q b ≡ true
    → ((a : ℕ) → (a ≡ b) ⊎ ((g a ≡ f a) × (q a ≡ p a))) → Gains (record { at = b; entry = x } ∷ []) f p g q
arrives_first b x f g p q none some on others = record {
  takes = (subst (λ o. Has o (at_address b x)) (sym some) (itself (at_address b x)), tt);
  keeps = λ a e is. keeps a e is (others a);
  others = λ a. elim (others a) [ inl e ↦ inl (ap q e ∙ on) | inr k ↦ inr k ];
  least = λ t h below a e is. least t h.0 below a e is (others a);
  around = λ h a e is. around h a e is (others a);
  only = λ a h. elim (others a) [ inl e ↦ inr (inl (sym e)) | inr k ↦ inl (subst HasEntry k.0 h) ];
}
  where
    keeps : (a : ℕ) (e : Entry) → f a ≡ Some e → (a ≡ b) ⊎ ((g a ≡ f a) × (q a ≡ p a)) → Has (g a) e
    keeps a e is (inl same) = let wrong : ⊥ = (let k = sym is ∙ ap f same ∙ none in cc) in absurd wrong
    keeps a e is (inr k) = subst (λ o. Has o e) (sym (k.0 ∙ is)) (itself e)

    least : (t : Table) → Has (t b) (at_address b x) → IsBelow f t → (a : ℕ) (e : Entry) → g a ≡ Some e → (a ≡ b) ⊎ ((g a ≡ f a) × (q a ≡ p a))
        → Has (t a) e
    least t h below a e is (inl same) =
        let k : e ≡ at_address b x = (let l = sym is ∙ ap g same ∙ some in cc)
        in subst (λ y. Has (t y) e) (sym same) (subst (Has (t b)) (sym k) h)
    least t h below a e is (inr k) = below a e (sym k.0 ∙ is)

    around : LiesAround f → (a : ℕ) (e : Entry) → g a ≡ Some e → (a ≡ b) ⊎ ((g a ≡ f a) × (q a ≡ p a)) → filter (is_in a) e.loops ≡ e.loops
    around h a e is (inl same) =
        let k : e ≡ at_address b x = (let l = sym is ∙ ap g same ∙ some in cc)
        in subst (λ y. filter (is_in y) e.loops ≡ e.loops) (sym same)
        (subst (λ y. filter (is_in b) y.loops ≡ y.loops) (sym k) (stay_around b x.loops))
    around h a e is (inr k) = h a e (sym k.0 ∙ is)

-- one step arrives where it meets what was found
pub arrives_again : (b : ℕ) (x y z : Entry) (f g : Table) (p q : Pending) → f b ≡ Some y → joined y (at_address b x) ≡ Some z → g b ≡ Some z
    → (q b ≡ true) ⊎ ((z ≡ y) × (q b ≡ p b))
    → ((a : ℕ) → (a ≡ b) ⊎ ((g a ≡ f a) × (q a ≡ p a))) → Gains (record { at = b; entry = x } ∷ []) f p g q
arrives_again b x y z f g p q is meet some on others = record {
  takes = (subst (λ o. Has o (at_address b x)) (sym some) (joined_is_weaker y (at_address b x) z meet).1, tt);
  keeps = λ a e at. keeps a e at (others a);
  others = λ a. elim (others a) [ inl same ↦ changed a same on | inr k ↦ inr k ];
  least = λ t h below a e at. least t h.0 below a e at (others a);
  around = λ h a e at. around h a e at (others a);
  only = λ a h. elim (others a) [ inl e ↦ inr (inl (sym e)) | inr k ↦ inl (subst HasEntry k.0 h) ];
}
  where
    keeps : (a : ℕ) (e : Entry) → f a ≡ Some e → (a ≡ b) ⊎ ((g a ≡ f a) × (q a ≡ p a)) → Has (g a) e
    keeps a e at (inl same) =
        let k : e ≡ y = (let l = sym at ∙ ap f same ∙ is in cc)
        in subst (λ o. Has o e) (sym (ap g same ∙ some)) (subst (λ u. IsWeaker u z) (sym k) (joined_is_weaker y (at_address b x) z meet).0)
    keeps a e at (inr k) = subst (λ o. Has o e) (sym (k.0 ∙ at)) (itself e)

    changed : (a : ℕ) → a ≡ b → (q b ≡ true) ⊎ ((z ≡ y) × (q b ≡ p b)) → (q a ≡ true) ⊎ ((g a ≡ f a) × (q a ≡ p a))
    changed a same (inl e) = inl (ap q same ∙ e)
    changed a same (inr k) = inr (ap g same ∙ some ∙ ap Some k.0 ∙ sym is ∙ ap f (sym same), ap q same ∙ k.1 ∙ ap p (sym same))

    strongest : (t : Table) → Has (t b) y → Has (t b) (at_address b x) → Has (t b) z
    strongest t h k = by (t b) h k
      where
        by : (o : Option Entry) → Has o y → Has o (at_address b x) → Has o z
        by None h k = h
        by (Some w) h k =
            let r = joined_is_strongest y (at_address b x) w h k
            in let same : r.0 ≡ z = (let l = sym r.1 ∙ meet in cc)
            in subst (λ u. IsWeaker u w) same r.2

    least : (t : Table) → Has (t b) (at_address b x) → IsBelow f t → (a : ℕ) (e : Entry) → g a ≡ Some e → (a ≡ b) ⊎ ((g a ≡ f a) × (q a ≡ p a))
        → Has (t a) e
    least t h below a e at (inl same) =
        let k : e ≡ z = (let l = sym at ∙ ap g same ∙ some in cc)
        in subst (λ u. Has (t u) e) (sym same) (subst (Has (t b)) (sym k) (strongest t (below b y is) h))
    least t h below a e at (inr k) = below a e (sym k.0 ∙ at)

    around : LiesAround f → (a : ℕ) (e : Entry) → g a ≡ Some e → (a ≡ b) ⊎ ((g a ≡ f a) × (q a ≡ p a)) → filter (is_in a) e.loops ≡ e.loops
    around h a e at (inl same) =
        let k : e ≡ z = (let l = sym at ∙ ap g same ∙ some in cc)
        in let loops : e.loops ≡ y.loops = ap (λ u. u.loops) k ∙ (joined_is_weaker y (at_address b x) z meet).0.loops
        in subst (λ u. filter (is_in u) e.loops ≡ e.loops) (sym same)
        (subst (λ u. filter (is_in b) u ≡ u) (sym loops) (h b y is))
    around h a e at (inr k) = h a e (sym k.0 ∙ at)

-- two entries that no entry is weaker than both can't be at one address of a table
pub apart : (b : ℕ) (y w : Entry) (t : Table) → joined y w ≡ None → Has (t b) y → Has (t b) w → ⊥
apart b y w t none h k = by (t b) h k
  where
    by : (o : Option Entry) → Has o y → Has o w → ⊥
    by None h k = h
    by (Some g) h k = let r = joined_is_strongest y w g h k in let l = sym none ∙ r.1 in cc
