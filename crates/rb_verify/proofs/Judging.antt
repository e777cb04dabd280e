-- What the found table has of sound code, every sound table says; so the code is sound exactly if the found table has it.
use Rattle.std.proofs.Common.{◌≡◌, ℕ, suc, ◌+◌, List, [], ◌∷◌, length, map, Option, Some, None, refl, sym, ap, ◌∙◌, subst}
use Rattle.rb_world.specs.Kind.{Membership}
use Rattle.rb_conv.specs.Conversations.{Conversation, memberships}
use Rattle.rb_code.specs.Instructions.Plain.{Code}
use Rattle.rb_code.specs.SoundCode.Reached.{Reached}
use Rattle.rb_code.specs.SoundCode.Sound.{Entry, Has, HasTable, IsWeaker, Table}
use Rattle.rb_code.specs.SoundCode.WellFormed.{IsSound, IsWellFormed, Joins, JoinsOnce, LoopsStayOpen}
use Rattle.rb_code.specs.SoundCode.Sound.{IsOpen}
use Rattle.rb_search.specs.Search.{HasEntry, HasNoTable, IsFound}

-- an entry that is weaker
record Weak (t : Table) (a : ℕ) (e : Entry) : Type 0 where
  pub entry : Entry
  pub there : t a ≡ Some entry
  pub weaker : IsWeaker e entry

weak_in : (t : Table) (a : ℕ) (e : Entry) → Has (t a) e → Weak t a e
weak_in t a e has = by (t a) refl has
  where
    by : (o : Option Entry) → t a ≡ o → Has o e → Weak t a e
    by None is h = absurd h
    by (Some g) is h = record { entry = g; there = is; weaker = h }

record There (f : Table) (a : ℕ) : Type 0 where
  pub entry : Entry
  pub there : f a ≡ Some entry

there_in : (f : Table) (a : ℕ) → HasEntry (f a) → There f a
there_in f a h = by (f a) refl h
  where
    by : (o : Option Entry) → f a ≡ o → HasEntry o → There f a
    by None is h = absurd h
    by (Some e) is h = record { entry = e; there = is }

module _ (c : Code) (groups : List Membership) (f : Table) (found : IsFound c groups f) where
  loops_of_sound : (t : Table) → HasTable c groups t → LoopsStayOpen c t → LoopsStayOpen c f
  loops_of_sound t has stay a k b last x e g range at ends low high there =
      let u = weak_in t a e (found.strongest t has a e at)
      in let v = weak_in t x g (found.strongest t has x g there)
      in subst (λ ls. IsOpen (record { counter = k; first = a + 1; last = last }) ls) v.weaker.loops
      (stay a k b last x u.entry v.entry range u.there ends low high v.there)

  -- who joins in the found table joins in every other one
  joins_on : (t : Table) → HasTable c groups t → (d m b : ℕ) → Joins c f d m b → Joins c t d m b
  joins_on t has d m b (one, a, e, block, conversation, instr, at, process) =
      let u = weak_in t a e (found.strongest t has a e at)
      in (one, a, u.entry, block, conversation, instr, u.there, ap (λ w. w.process) u.weaker.within ∙ process)

  -- and where addresses are reached the other way too
  joins_back : (t : Table) → HasTable c groups t → ((a : ℕ) (e : Entry) → t a ≡ Some e → Reached c a) → (d m b : ℕ) (joins : Joins c t d m b)
      → (back : Joins c f d m b) × (back.0 ≡ joins.0)
  joins_back t has reached d m b (one, a, e, block, conversation, instr, at, process) =
      let w = there_in f a (found.covers a (reached a e at))
      in let u = weak_in t a w.entry (found.strongest t has a w.entry w.there)
      in let same : u.entry ≡ e = (let x = sym u.there ∙ at in cc)
      in let body : w.entry.within.process ≡ m
      = ap (λ x. x.process) (sym u.weaker.within) ∙ ap (λ (x : Entry). x.within.process) same ∙ process
      in ((one, a, w.entry, block, conversation, instr, w.there, body), refl)

  joins_of_sound : (counts : List ℕ) (t : Table) → HasTable c groups t → ((a : ℕ) (e : Entry) → t a ≡ Some e → Reached c a)
      → JoinsOnce c groups counts t → JoinsOnce c groups counts f
  joins_of_sound counts t has reached once d m group at member =
      let r = once d m group at member
      in let back = joins_back t has reached d m r.0 r.1
      in (
        r.0,
        back.0,
        r.2 ∙ ap (λ x. Some (length x.alternates)) (sym back.1),
        (λ other k. r.3 other (joins_on t has d m other k)),
      )

  -- a sound code's loops stay open in the found table, and its members join once
  pub loops_leave : (counts : List ℕ) → (LoopsStayOpen c f → ⊥) → IsSound c groups counts → ⊥
  loops_leave counts leave s = leave (loops_of_sound s.table s.has s.loops)

  pub joins_fail : (counts : List ℕ) → (JoinsOnce c groups counts f → ⊥) → IsSound c groups counts → ⊥
  joins_fail counts fail s = fail (joins_of_sound counts s.table s.has s.reached s.joins)

  pub is_sound : (counts : List ℕ) → IsWellFormed c groups → length counts ≡ length groups → LoopsStayOpen c f → JoinsOnce c groups counts f
      → IsSound c groups counts
  is_sound counts well many loops joins = record {
    well = well;
    as_many = many;
    table = f;
    has = found.has;
    reached = λ a e is. found.reached a (subst HasEntry (sym is) tt);
    loops = loops;
    joins = joins;
  }

pub none_is_sound : (c : Code) (groups : List Membership) (counts : List ℕ) → HasNoTable c groups → IsSound c groups counts → ⊥
none_is_sound c groups counts none s = none s.table s.has

pub as_many : (conversations : List Conversation)
    → length (map (λ (one : Conversation). one.alternates) conversations) ≡ length (memberships conversations)
as_many [] = refl
as_many (one ∷ others) = ap (λ n. suc n) (as_many others)
