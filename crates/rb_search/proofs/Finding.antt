-- What the search holds, where lists grow and an address gets another entry.
use Rattle.std.proofs.Common.{◌≡◌, ◌⊎◌, inl, inr, ℕ, ◌<◌, ◌≤◌, Bool, true, false, List, [], ◌∷◌, length, set, slice_get, Option, Some, None, option_map, Contains, refl, sym, ap, ◌∙◌, subst, arith}
use Rattle.std.proofs.lemmas.Option.{slice_get_past}
use Rattle.std.specs.List.Sorted.{IsPermutation}
use Rattle.rb_code.specs.Instructions.Plain.{Code}
use Rattle.rb_world.specs.Kind.{Membership}
use Rattle.rb_code.specs.SoundCode.Sound.{Entry, Has, FineAt, HasTable, Table, at_address}
use Rattle.rb_flow.specs.Flow.{Keeps, Steps, flow_at, goes, goes_both}
use Rattle.rb_entries.specs.Join.{joined}
use Rattle.rb_search.specs.Search.{Gains, HasGained, HasNoTable, IsBelow, IsFollowing, IsSearching, Pending}
use Rattle.rb_flow.specs.Held.{HasGrown, IsHeld, entry_of}
use Rattle.rb_flow.specs.Ways.{IsFlow, steps_of}
use Rattle.rb_search.specs.Found.{IfUnsound, IsTaking, IsWell, IsWithin, NoneTakes, found, held_in, pending, pending_in}
use Rattle.rb_entries.specs.declared.entry.Held.{Held}
use Rattle.rb_flow.specs.declared.lists.Lists.{Lists}
use Rattle.rb_entries.specs.declared.cell.Cell.{Cell}
use Rattle.rb_search.specs.declared.refusal.Refusal.{Refusal}
use Rattle.rb_search.specs.declared.refusal.Refusal.TheVariants.{Unsound, Memory}
use Rattle.rb_flow.specs.declared.way.Way.{Way}
use Rattle.rb_flow.proofs.Growing.{grown_entry, grown_held}
use Rattle.rb_search.proofs.Waiting.{taken}
use Rattle.rb_flow.proofs.Places.{set_here, set_there}
use Rattle.rb_search.proofs.Searching.{apart, arrives_again, arrives_first, decided, followed, gains_more, refused}

-- what was found is the same where lists grow
pub found_grown : (before after : Lists) (cells : List Cell) (work : List ℕ) → IsWell before cells work → HasGrown before after
    → found after cells ≡ found before cells
found_grown before after cells work well grown = λ i a. same a i
  where
    one : (o : Option Held) → ((h : Held) → o ≡ Some h → IsHeld before h) → option_map (entry_of after) o ≡ option_map (entry_of before) o
    one None held = refl
    one (Some h) held = ap Some (grown_entry before after h grown (held h refl))

    same : (a : ℕ) → found after cells a ≡ found before cells a
    same a = one (held_in (slice_get cells a)) (λ h is. well.held a h is)

pub well_grown : (before after : Lists) (cells : List Cell) (work : List ℕ) → IsWell before cells work → HasGrown before after
    → IsWell after cells work
well_grown before after cells work well grown = record {
  held = λ a h is. grown_held before after h grown (well.held a h is);
  listed = well.listed;
}

abbrev pub marked : Held → Cell
marked h = record { entry = Some h; pending = true }

module _ (lists : Lists) (cells : List Cell) (at : ℕ) (h : Held) (within : at < length cells) where
  pub mark_found : found lists (set cells at (marked h)) at ≡ Some (entry_of lists h)
  mark_found = ap (λ o. option_map (entry_of lists) (held_in o)) (set_here cells at (marked h) within)

  pub mark_pending : pending (set cells at (marked h)) at ≡ true
  mark_pending = ap pending_in (set_here cells at (marked h) within)

  pub mark_others : (a : ℕ) → (a ≡ at) ⊎ ((found lists (set cells at (marked h)) a ≡ found lists cells a)
      × (pending (set cells at (marked h)) a ≡ pending cells a))
  mark_others a = by (decided a at)
    where
      by : (a ≡ at) ⊎ (a ≡ at → ⊥) → (a ≡ at) ⊎ ((found lists (set cells at (marked h)) a ≡ found lists cells a)
          × (pending (set cells at (marked h)) a ≡ pending cells a))
      by (inl e) = inl e
      by (inr k) =
          let s = set_there cells at a (marked h) k
          in inr (ap (λ o. option_map (entry_of lists) (held_in o)) s, ap pending_in s)

  pub mark_well : (work after : List ℕ) → IsWell lists cells work → IsHeld lists h → ((a : ℕ) → Contains work a → Contains after a)
      → Contains after at → IsWell lists (set cells at (marked h)) after
  mark_well work after well held more has = record {
    held = λ a k is. kept a k is (decided a at);
    listed = λ a is. listed a is (decided a at);
  }
    where
      kept : (a : ℕ) (k : Held) → held_in (slice_get (set cells at (marked h)) a) ≡ Some k → (a ≡ at) ⊎ (a ≡ at → ⊥) → IsHeld lists k
      kept a k is (inl e) =
          let s : held_in (slice_get (set cells at (marked h)) a) ≡ Some h
          = ap (λ b. held_in (slice_get (set cells at (marked h)) b)) e ∙ ap held_in (set_here cells at (marked h) within)
          in let same : h ≡ k = cc
          in subst (IsHeld lists) same held
      kept a k is (inr e) = well.held a k (ap held_in (sym (set_there cells at a (marked h) e)) ∙ is)

      listed : (a : ℕ) → pending (set cells at (marked h)) a ≡ true → (a ≡ at) ⊎ (a ≡ at → ⊥) → Contains after a
      listed a is (inl e) = subst (Contains after) (sym e) has
      listed a is (inr e) = more a (well.listed a (ap pending_in (sym (set_there cells at a (marked h) e)) ∙ is))

-- a step arrives where nothing was known
pub first_gains : (lists : Lists) (cells : List Cell) (at : ℕ) (entry stay : Held) → at < length cells → held_in (slice_get cells at) ≡ None
    → entry_of lists stay ≡ at_address at (entry_of lists entry)
    → Gains (record { at = at; entry = entry_of lists entry } ∷ []) (found lists cells) (pending cells)
    (found lists (set cells at (marked stay))) (pending (set cells at (marked stay)))
first_gains lists cells at entry stay within none is =
    arrives_first at (entry_of lists entry) (found lists cells) (found lists (set cells at (marked stay))) (pending cells)
    (pending (set cells at (marked stay)))
    (ap (option_map (entry_of lists)) none)
    (mark_found lists cells at stay within ∙ ap Some is) (mark_pending lists cells at stay within) (mark_others lists cells at stay within)

-- a step arrives where it weakens what was known
pub weaker_gains : (before lists : Lists) (cells : List Cell) (work : List ℕ) (at : ℕ) (entry stay known weak : Held) → at < length cells
    → IsWell before cells work → HasGrown before lists → IsHeld before entry → IsHeld before known
    → held_in (slice_get cells at) ≡ Some known → entry_of before stay ≡ at_address at (entry_of before entry)
    → Some (entry_of lists weak) ≡ joined (entry_of before known) (entry_of before stay)
    → Gains (record { at = at; entry = entry_of before entry } ∷ []) (found before cells) (pending cells)
    (found lists (set cells at (marked weak))) (pending (set cells at (marked weak)))
weaker_gains before lists cells work at entry stay known weak within well grown held kept is stays meets =
    arrives_again at (entry_of before entry) (entry_of before known) (entry_of lists weak) (found before cells)
    (found lists (set cells at (marked weak))) (pending cells) (pending (set cells at (marked weak)))
    (ap (option_map (entry_of before)) is) (ap (joined (entry_of before known)) (sym stays) ∙ sym meets)
    (mark_found lists cells at weak within) (inl (mark_pending lists cells at weak within))
    (λ a. others a (mark_others lists cells at weak within a))
  where
    others : (a : ℕ) → (a ≡ at) ⊎ ((found lists (set cells at (marked weak)) a ≡ found lists cells a)
        × (pending (set cells at (marked weak)) a ≡ pending cells a))
        → (a ≡ at) ⊎ ((found lists (set cells at (marked weak)) a ≡ found before cells a) × (pending (set cells at
        (marked weak)) a ≡ pending cells a))
    others a (inl e) = inl e
    others a (inr k) = inr (k.0 ∙ ap (λ (f : Table). f a) (found_grown before lists cells work well grown), k.1)

-- a step arrives and changes nothing
pub same_gains : (before lists : Lists) (cells : List Cell) (work : List ℕ) (at : ℕ) (entry stay known : Held)
    → IsWell before cells work → HasGrown before lists → IsHeld before known
    → held_in (slice_get cells at) ≡ Some known → entry_of before stay ≡ at_address at (entry_of before entry)
    → Some (entry_of lists known) ≡ joined (entry_of before known) (entry_of before stay)
    → Gains (record { at = at; entry = entry_of before entry } ∷ []) (found before cells) (pending cells) (found lists cells) (pending cells)
same_gains before lists cells work at entry stay known well grown held is stays meets =
    let same = grown_entry before lists known grown held
    in let all = found_grown before lists cells work well grown
    in arrives_again at (entry_of before entry) (entry_of before known) (entry_of before known) (found before cells)
    (found lists cells) (pending cells) (pending cells)
    (ap (option_map (entry_of before)) is) (ap (joined (entry_of before known)) (sym stays) ∙ sym meets ∙ ap Some same)
    (ap (λ (f : Table). f at) all ∙ ap (option_map (entry_of before)) is) (inr (refl, refl))
    (λ a. inr (ap (λ (f : Table). f a) all, refl))

-- no table has both
pub meets_none : (lists : Lists) (cells : List Cell) (at : ℕ) (entry stay known : Held) → held_in (slice_get cells at) ≡ Some known
    → entry_of lists stay ≡ at_address at (entry_of lists entry) → None ≡ joined (entry_of lists known) (entry_of lists stay)
    → NoneTakes (length cells) (found lists cells) (goes at (entry_of lists entry))
meets_none lists cells at entry stay known is stays meets t within below keeps =
    apart at (entry_of lists known) (at_address at (entry_of lists entry)) t
    (ap (joined (entry_of lists known)) (sym stays) ∙ sym meets)
    (below at (entry_of lists known) (ap (option_map (entry_of lists)) is)) keeps.0

-- no table has an entry where there is no instruction
pub past_none : (cells : List Cell) (f : Table) (at : ℕ) (e : Entry) → length cells ≤ at → NoneTakes (length cells) f (goes at e)
past_none cells f at e past t within below keeps = subst (λ o. Has o (at_address at e)) (within at past) keeps.0

pub tables_within : (c : Code) (groups : List Membership) (t : Table) → HasTable c groups t → IsWithin (length c.instrs) t
tables_within c groups t has a past = by (t a) refl
  where
    by : (o : Option Entry) → t a ≡ o → o ≡ None
    by None is = refl
    by (Some e) is =
        let fine = (has.each a e is).fine
        in absurd (subst (λ o. FineAt c groups t o a e) (slice_get_past c.instrs a past) fine)

-- an address is taken from those that are to be followed
abbrev pub cleared : Held → Cell
cleared h = record { entry = Some h; pending = false }

module _ (lists : Lists) (cells : List Cell) (at : ℕ) (h : Held) (within : at < length cells) (is : held_in (slice_get cells at) ≡ Some h) where
  clear_held : (a : ℕ) → held_in (slice_get (set cells at (cleared h)) a) ≡ held_in (slice_get cells a)
  clear_held a = by (decided a at)
    where
      by : (a ≡ at) ⊎ (a ≡ at → ⊥) → held_in (slice_get (set cells at (cleared h)) a) ≡ held_in (slice_get cells a)
      by (inl e) =
          ap (λ b. held_in (slice_get (set cells at (cleared h)) b)) e ∙ ap held_in (set_here cells at (cleared h) within) ∙ sym is
          ∙ ap (λ b. held_in (slice_get cells b)) (sym e)
      by (inr k) = ap held_in (set_there cells at a (cleared h) k)

  pub clear_found : found lists (set cells at (cleared h)) ≡ found lists cells
  clear_found = λ i a. option_map (entry_of lists) (clear_held a i)

  clear_pending : (a : ℕ) → (a ≡ at → ⊥) → pending (set cells at (cleared h)) a ≡ pending cells a
  clear_pending a k = ap pending_in (set_there cells at a (cleared h) k)

  pub clear_well : (work : List ℕ) → IsTaking lists cells work at → IsWell lists (set cells at (cleared h)) work
  clear_well work taking = record {
    held = λ a k e. taking.held a k (sym (clear_held a) ∙ e);
    listed = λ a e. listed a e (decided a at);
  }
    where
      which : (a : ℕ) → (a ≡ at → ⊥) → (a ≡ at) ⊎ Contains work a → Contains work a
      which a k (inl e) = absurd (k e)
      which a k (inr m) = m

      listed : (a : ℕ) → pending (set cells at (cleared h)) a ≡ true → (a ≡ at) ⊎ (a ≡ at → ⊥) → Contains work a
      listed a e (inl same) =
          let off : pending (set cells at (cleared h)) a ≡ false
          = ap (pending (set cells at (cleared h))) same ∙ ap pending_in (set_here cells at (cleared h) within)
          in let wrong : ⊥ = cc in absurd wrong
      listed a e (inr k) = which a k (taking.listed a (sym (clear_pending a k) ∙ e))

  pub clear_following : (c : Code) (groups : List Membership) → IsSearching c groups (found lists cells) (pending cells)
      → IsFollowing c groups (found lists (set cells at (cleared h))) (pending (set cells at (cleared h))) at
  clear_following c groups s = subst (λ (f : Table). IsFollowing c groups f (pending (set cells at (cleared h))) at) (sym clear_found) (record {
    settled = λ b e at_is off k. s.settled b e at_is (sym (clear_pending b k) ∙ off);
    starts = s.starts;
    strongest = s.strongest;
    around = s.around;
    reached = s.reached;
  })

-- nothing is to be followed where the list of that is empty
pub none_pending : (lists : Lists) (cells : List Cell) (work : List ℕ) → IsWell lists cells work → work ≡ [] → (a : ℕ) → pending cells a ≡ false
none_pending lists cells work well empty a = by (pending cells a) refl
  where
    by : (b : Bool) → pending cells a ≡ b → b ≡ false
    by false e = refl
    by true e = absurd (nothing (subst (λ w. Contains w a) empty (well.listed a e)))
      where
        nothing : Contains [] a → ⊥
        nothing h = omega (arith, h.1)

-- an address is taken from the list
pub taking : (lists : Lists) (cells : List Cell) (work rest : List ℕ) (at : ℕ) → IsWell lists cells work → IsPermutation work (at ∷ rest)
    → IsTaking lists cells rest at
taking lists cells work rest at well is = record {
  held = well.held;
  listed = λ a e. taken work rest at a is (well.listed a e);
}

pub if_unsound : {X Y : Type 0} (r : Refusal) → (X → Y) → IfUnsound r X → IfUnsound r Y
if_unsound Unsound h x = h x
if_unsound Memory h x = tt

-- two steps, one after the other
pub both_none : (m n : ℕ) (f g : Table) (p q : Pending) (b d : ℕ) (x y z : Entry) → Gains (record { at = b; entry = x } ∷ []) f p g q → z ≡ y
    → m ≡ n → NoneTakes m g (goes d z) → NoneTakes n f (goes_both b x d y)
both_none m n f g p q b d x y z gains same size none t within below keeps =
    none t (subst (λ k. IsWithin k t) (sym size) within) (gains.least t (keeps.0, tt) below) (subst (λ e. Keeps t (goes d e)) (sym same) keeps.1)

pub one_of_both : (n : ℕ) (f : Table) (b d : ℕ) (x y : Entry) → NoneTakes n f (goes b x) → NoneTakes n f (goes_both b x d y)
one_of_both n f b d x y none t within below keeps = none t within below (keeps.0, tt)

pub both_gain : (f g h : Table) (p q r : Pending) (b d : ℕ) (x y z : Entry) → Gains (record { at = b; entry = x } ∷ []) f p g q → z ≡ y
    → Gains (record { at = d; entry = z } ∷ []) g q h r → Gains (record { at = b; entry = x } ∷ record { at = d; entry = y } ∷ []) f p h r
both_gain f g h p q r b d x y z one same two =
    gains_more (record { at = b; entry = x }) (record { at = d; entry = y } ∷ []) f g h p q r one
    (subst (λ (e : Entry). Gains (record { at = d; entry = e } ∷ []) g q h r) same two)

-- an address was followed from its entry
module _ (c : Code) (groups : List Membership) (before after : Lists) (cells : List Cell) (work : List ℕ) (at : ℕ) (held : Held) (way : Way)
    (well : IsWell before cells work) (is : held_in (slice_get cells at) ≡ Some held)
    (following : IsFollowing c groups (found before cells) (pending cells) at)
    (flow : IsFlow c before after way (flow_at c groups at (entry_of before held))) where
  here : found before cells at ≡ Some (entry_of before held)
  here = ap (option_map (entry_of before)) is

  pub no_table : length cells ≡ length c.instrs → NoneTakes (length cells) (found after cells) (steps_of c after way)
      → HasNoTable c groups
  no_table size none =
      refused c groups (found before cells) (pending cells) at (entry_of before held) following here
      (λ t has below keeps. none t (subst (λ n. IsWithin n t) (sym size) (tables_within c groups t has))
      (subst (λ (f : Table). IsBelow f t) (sym (found_grown before after cells work well flow.grown)) below)
      (subst (Keeps t) (sym flow.leads) keeps))

  pub goes_on : (g : Table) (q : Pending) → HasGained (steps_of c after way) (found after cells) (pending cells) g q
      → IsSearching c groups g q
  goes_on g q gains =
      followed c groups (found before cells) g (pending cells) q at (entry_of before held) following here
      (subst (λ (f : Table). HasGained (flow_at c groups at (entry_of before held)) f (pending cells) g q)
      (found_grown before after cells work well flow.grown)
      (subst (λ (s : Steps). HasGained s (found after cells) (pending cells) g q) flow.leads gains))
