-- Where each instruction of sound code leads, by its rule; and that a table from which entries are left out is sound if the ways keep theirs.
use Rattle.std.proofs.Common.{◌≡◌, inl, inr, ℕ, ◌+◌, Bool, true, false, cond, List, [], ◌∷◌, filter, slice_get, Option, Some, None, refl, ap, sym, ◌∙◌, subst, true≢false}
use Rattle.rb_world.specs.Kind.{Membership}
use Rattle.rb_code.specs.Instructions.Plain.{Code}
use Rattle.rb_code.specs.SoundCode.Reached.{successors}
use Rattle.rb_code.specs.SoundCode.Sound.{BeginsAs, Each, EndIs, Entry, Fine, Has, InnermostIs, IsMember, IsOpen, LeadsTo, Loop, OpenBlock, Table, Takes2, TopIs, Within, alternates_at, at_address, end_of_loop, is_in, with_operands}
use Rattle.rb_code.specs.declared.instr.Spot.{Spot}
use Rattle.rb_code.specs.declared.instr.Instr.{Instr}
use Rattle.rb_code.specs.declared.instr.Instr.TheVariants.{Turn, Push, Load, Prior, Bound, LoadAt, PriorAt, Store, StoreAt, Add, Sub, Mul, Div, Rem, Eq, Ne, Lt, Le, Gt, Ge, Neg, Not, Bool as ToBool, Jump, JumpZero, Frame, Drop, Text, Item, Print, Room, Put, There, Take, Call, Return, Fail, Enter, Start, Test, Done, Range, Again, Counter, Absent}

-- the addresses to which an instruction may lead within its body: all but the procedure that it calls
abbrev pub ways : Code → Instr → ℕ → List ℕ
ways c (Call b p n) a = (a + 1) ∷ []
ways c instr a = successors c instr a

pub way_is_successor : (c : Code) (instr : Instr) (a x : ℕ) → IsMember x (ways c instr a) → IsMember x (successors c instr a)
way_is_successor c (Call b p n) a x member = inr member
way_is_successor c instr a x member = member

abbrev Operand : Type 0
Operand = Option ℕ

-- what is known of the top operand, or of the innermost block, with another conclusion
top_more : (os : List Operand) (P Q : Operand → List Operand → Type 0)
    → ((o : Operand) (ps : List Operand) → P o ps → Q o ps) → TopIs os P → TopIs os Q
top_more [] P Q h f = absurd f
top_more (o ∷ os) P Q h f = h o os f

of_top : (X : Type 0) (os : List Operand) (P : Operand → List Operand → Type 0) → ((o : Operand) (ps : List Operand) → P o ps → X) → TopIs os P → X
of_top X [] P h f = absurd f
of_top X (o ∷ os) P h f = h o os f

inner_more : (bs : List OpenBlock) (P Q : OpenBlock → List OpenBlock → Type 0) → ((b : OpenBlock) (around : List OpenBlock) → P b around → Q b around)
    → InnermostIs bs P → InnermostIs bs Q
inner_more [] P Q h f = absurd f
inner_more (b ∷ bs) P Q h f = h b bs f

of_end : (X : Type 0) (end : Option ℕ) (P : ℕ → Type 0) → ((last : ℕ) → P last → X) → EndIs end P → X
of_end X None P h f = absurd f
of_end X (Some last) P h f = h last f

end_more : (end : Option ℕ) (P Q : ℕ → Type 0) → ((last : ℕ) → P last → Q last) → EndIs end P → EndIs end Q
end_more None P Q h f = absurd f
end_more (Some last) P Q h f = h last f

of_inner : (X : Type 0) (bs : List OpenBlock) (P : OpenBlock → List OpenBlock → Type 0) → ((b : OpenBlock) (around : List OpenBlock) → P b around → X)
    → InnermostIs bs P → X
of_inner X [] P h f = absurd f
of_inner X (b ∷ bs) P h f = h b bs f

pub each_more : (xs : List ℕ) (P Q R : ℕ → Type 0) → ((x : ℕ) → P x → Q x → R x) → Each xs P → Each xs Q → Each xs R
each_more [] P Q R h p q = tt
each_more (x ∷ xs) P Q R h p q = (h x p.0 q.0, each_more xs P Q R h p.1 q.1)

-- in a loop that begins behind an address
abbrev in_loop : ℕ → Entry → ℕ → ℕ → List Operand → Entry
in_loop a e k last operands =
    record (with_operands operands e) { loops = record { counter = k; first = a + 1; last = last } ∷ e.loops }

-- a loop that lies around an address stays open there
stays_open : (x : ℕ) (loop : Loop) (loops : List Loop) → is_in x loop ≡ true → IsOpen loop loops → IsOpen loop (filter (is_in x) loops)
stays_open x loop [] around is_open = absurd is_open
stays_open x loop (inner ∷ loops) around is_open = by (is_in x inner) refl is_open (stays_open x loop loops around)
  where
    by : (b : Bool) → is_in x inner ≡ b → IsOpen loop (inner ∷ loops) → (IsOpen loop loops → IsOpen loop (filter (is_in x) loops))
        → IsOpen loop (cond b (inner ∷ filter (is_in x) loops) (filter (is_in x) loops))
    by true e (inl is) later = inl is
    by true e (inr behind) later = inr (later behind)
    by false e (inl is) later = absurd (true≢false (sym around ∙ ap (is_in x) (sym is) ∙ e))
    by false e (inr behind) later = later behind

module _ (c : Code) (groups : List Membership) (t : Table) where
  -- the table has an entry of this body there
  abbrev pub IsIn : Within → ℕ → Type 0
  IsIn within x = (g : Entry) × (t x ≡ Some g) × (g.within ≡ within)

  -- the table has an entry of this body there, in which those of these loops are open that lie around the address
  pub record Follows (within : Within) (loops : List Loop) (x : ℕ) : Type 0 where
    pub entry : Entry
    pub there : t x ≡ Some entry
    pub within_is : entry.within ≡ within
    pub stay : (loop : Loop) → is_in x loop ≡ true → IsOpen loop loops → IsOpen loop entry.loops

  led : (x : ℕ) (e : Entry) → LeadsTo c groups t x e → Follows e.within e.loops x
  led x e h = by (t x) refl h
    where
      by : (o : Option Entry) → t x ≡ o → Has o (at_address x e) → Follows e.within e.loops x
      by None at has = absurd has
      by (Some g) at has = record {
        entry = g;
        there = at;
        within_is = has.within;
        stay = λ loop around is_open. subst (IsOpen loop) (sym has.loops) (stays_open x loop e.loops around is_open);
      }

  -- with one loop less
  without_inner : (within : Within) (loop : Loop) (loops : List Loop) (x : ℕ) → Follows within (loop ∷ loops) x → Follows within loops x
  without_inner within inner loops x f = record {
    entry = f.entry;
    there = f.there;
    within_is = f.within_is;
    stay = λ loop around is_open. f.stay loop around (inr is_open);
  }

  module _ (a : ℕ) (e : Entry) where
    abbrev Goes : ℕ → Type 0
    Goes x = Follows e.within e.loops x

    -- behind one operand, and behind two
    one_top : (P : Operand → List Operand → Type 0) → ((o : Operand) (os : List Operand) → P o os → Goes (a + 1)) → TopIs e.operands P → Goes (a + 1)
    one_top P h f = of_top (Goes (a + 1)) e.operands P h f

    two_top : Takes2 c groups t a e → Goes (a + 1)
    two_top f =
        of_top (Goes (a + 1)) e.operands (λ o os. TopIs os (λ p ps. LeadsTo c groups t (a + 1) (with_operands (None ∷ ps) e)))
        (λ o os q. of_top (Goes (a + 1)) os (λ p ps. LeadsTo c groups t (a + 1) (with_operands (None ∷ ps) e)) (λ p ps r. led (a + 1) _ r) q) f

    -- behind a `range` its loop is open
    pub range_opens : (k b last : ℕ) → end_of_loop c k (a + 1) ≡ Some last → Fine c groups t (Range k b) a e
        → Follows e.within (record { counter = k; first = a + 1; last = last } ∷ e.loops) (a + 1)
    range_opens k b last end f =
        let Opened : Type 0 = Follows e.within (record { counter = k; first = a + 1; last = last } ∷ e.loops) (a + 1) in
        of_top Opened e.operands _
        (λ o os q. of_top Opened os _
        (λ p ps r. led (a + 1) (in_loop a e k last ps)
        (subst (λ i. EndIs i (λ x. LeadsTo c groups t (a + 1) (in_loop a e k x ps))) end r.2)) q) f.3

    branch : (b : ℕ) → Fine c groups t (JumpZero b) a e → Each (b ∷ (a + 1) ∷ []) Goes
    branch b f = of_top (Each (b ∷ (a + 1) ∷ []) Goes) e.operands _ (λ o os q. (led b _ q.1, (led (a + 1) _ q.2, tt))) f

    inside : (k last : ℕ) (ps : List Operand) → LeadsTo c groups t (a + 1) (in_loop a e k last ps) → Goes (a + 1)
    inside k last ps h =
        without_inner e.within record { counter = k; first = a + 1; last = last } e.loops (a + 1) (led (a + 1) (in_loop a e k last ps) h)

    begins : (k b : ℕ) → Fine c groups t (Range k b) a e → Each (b ∷ (a + 1) ∷ []) Goes
    begins k b f =
        of_top (Each (b ∷ (a + 1) ∷ []) Goes) e.operands _
        (λ o os q. of_top (Each (b ∷ (a + 1) ∷ []) Goes) os _
        (λ p ps r. (led b _ r.1, (of_end (Goes (a + 1)) (end_of_loop c k (a + 1)) _ (λ last h. inside k last ps h) r.2, tt))) q) f.3

    stored : (v : Spot) → Fine c groups t (StoreAt v) a e → Goes (a + 1)
    stored v f =
        of_top (Goes (a + 1)) e.operands _ (λ o os q. of_top (Goes (a + 1)) os _ (λ p ps r. led (a + 1) _ r.1) q) f

    accepts : (b : ℕ) → Fine c groups t (Test b) a e → Goes (a + 1)
    accepts b f =
        of_top (Goes (a + 1)) e.operands _ (λ o os q. of_inner (Goes (a + 1)) e.blocks _ (λ block around r. led (a + 1) _ r.2) q.1) f.3

    pub ways_known : (instr : Instr) → Fine c groups t instr a e → Each (ways c instr a) Goes
    ways_known Turn f = (led (a + 1) _ f.3, tt)
    ways_known (Push n) f = (led (a + 1) _ f.1, tt)
    ways_known (Load v) f = (led (a + 1) _ f.1.1, tt)
    ways_known (Prior v) f = (led (a + 1) _ f.1.1, tt)
    ways_known (Bound n) f = (one_top _ (λ o os q. led (a + 1) _ q) f.1, tt)
    ways_known (LoadAt v) f = (one_top _ (λ o os q. led (a + 1) _ q.1) f, tt)
    ways_known (PriorAt v) f = (one_top _ (λ o os q. led (a + 1) _ q.1) f, tt)
    ways_known (Store v) f = (one_top _ (λ o os q. led (a + 1) _ q.1) f, tt)
    ways_known (StoreAt v) f = (stored v f, tt)
    ways_known Add f = (two_top f.1, tt)
    ways_known Sub f = (two_top f.1, tt)
    ways_known Mul f = (two_top f.1, tt)
    ways_known Div f = (two_top f.1, tt)
    ways_known Rem f = (two_top f.1, tt)
    ways_known Eq f = (two_top f, tt)
    ways_known Ne f = (two_top f, tt)
    ways_known Lt f = (two_top f, tt)
    ways_known Le f = (two_top f, tt)
    ways_known Gt f = (two_top f, tt)
    ways_known Ge f = (two_top f, tt)
    ways_known Neg f = (one_top _ (λ o os q. led (a + 1) _ q) f.1, tt)
    ways_known Not f = (one_top _ (λ o os q. led (a + 1) _ q) f, tt)
    ways_known ToBool f = (one_top _ (λ o os q. led (a + 1) _ q) f, tt)
    ways_known (Jump b) f = (led b _ f.1, tt)
    ways_known (JumpZero b) f = branch b f
    ways_known (Frame n) f = (led (a + 1) _ f.1, tt)
    ways_known (Drop n) f = (led (a + 1) _ f.2, tt)
    ways_known (Text n) f = (led (a + 1) _ f.2, tt)
    ways_known Item f = (one_top _ (λ o os q. led (a + 1) _ q) f.1, tt)
    ways_known Print f = (led (a + 1) _ f.1, tt)
    ways_known (Room channel) f = (led (a + 1) _ f.3, tt)
    ways_known (Put channel) f = (one_top _ (λ o os q. led (a + 1) _ q) f.1, tt)
    ways_known (There channel) f = (led (a + 1) _ f.3, tt)
    ways_known (Take channel) f = (led (a + 1) _ f.2, tt)
    ways_known (Call b p n) f = (led (a + 1) _ f.6, tt)
    ways_known Return f = tt
    ways_known Fail f = (led (a + 1) _ f.1, tt)
    ways_known (Enter b) f = (led (a + 1) _ f.5, tt)
    ways_known (Start b) f = each_more (alternates_at (slice_get c.blocks b)) _ _ Goes (λ x p q. led x _ p) f.3 f.3
    ways_known (Test b) f = (accepts b f, tt)
    ways_known Done f = tt
    ways_known (Range k b) f = begins k b f
    ways_known (Again k b) f = (led b _ f.2, (led (a + 1) _ f.3, tt))
    ways_known (Counter k) f = (led (a + 1) _ f.1.1, tt)
    ways_known (Absent channel b) f = (led b _ f.4, (led (a + 1) _ f.5, tt))

  module _ (u : Table) where
    abbrev Same : ℕ → Type 0
    Same x = t x ≡ u x

    moved : (x : ℕ) (e : Entry) → Same x → LeadsTo c groups t x e → LeadsTo c groups u x e
    moved x e same f = subst (λ o. Has o (at_address x e)) same f

    module _ (a : ℕ) (e : Entry) where
      abbrev On : Type 0
      On = Each ((a + 1) ∷ []) Same

      takes2 : On → Takes2 c groups t a e → Takes2 c groups u a e
      takes2 s f = top_more e.operands _ _ (λ o os q. top_more os _ _ (λ p ps r. moved (a + 1) _ s.0 r) q) f

      -- An instruction keeps its rule in a table that has the same entries where it leads, and where it calls.
      pub fine_same : (instr : Instr) → Each (ways c instr a) Same
          → ((b p n : ℕ) → instr ≡ Call b p n → BeginsAs (t b) e.within.process b (p + n) → BeginsAs (u b) e.within.process b (p + n))
          → Fine c groups t instr a e → Fine c groups u instr a e
      fine_same Turn s calls f = (f.0, f.1, f.2, moved (a + 1) _ s.0 f.3)
      fine_same (Push n) s calls f = (f.0, moved (a + 1) _ s.0 f.1)
      fine_same (Load v) s calls f = (f.0, (f.1.0, moved (a + 1) _ s.0 f.1.1))
      fine_same (Prior v) s calls f = (f.0, (f.1.0, moved (a + 1) _ s.0 f.1.1))
      fine_same (Bound n) s calls f = (f.0, top_more e.operands _ _ (λ o os q. moved (a + 1) _ s.0 q) f.1)
      fine_same (LoadAt v) s calls f = top_more e.operands _ _ (λ o os q. (q.0, moved (a + 1) _ s.0 q.1)) f
      fine_same (PriorAt v) s calls f = top_more e.operands _ _ (λ o os q. (q.0, moved (a + 1) _ s.0 q.1)) f
      fine_same (Store v) s calls f = top_more e.operands _ _ (λ o os q. (q.0, moved (a + 1) _ s.0 q.1)) f
      fine_same (StoreAt v) s calls f = top_more e.operands _ _ (λ o os q. top_more os _ _ (λ p ps r. (r.0, moved (a + 1) _ s.0 r.1)) q) f
      fine_same Add s calls f = (f.0, takes2 s f.1)
      fine_same Sub s calls f = (f.0, takes2 s f.1)
      fine_same Mul s calls f = (f.0, takes2 s f.1)
      fine_same Div s calls f = (f.0, takes2 s f.1)
      fine_same Rem s calls f = (f.0, takes2 s f.1)
      fine_same Eq s calls f = takes2 s f
      fine_same Ne s calls f = takes2 s f
      fine_same Lt s calls f = takes2 s f
      fine_same Le s calls f = takes2 s f
      fine_same Gt s calls f = takes2 s f
      fine_same Ge s calls f = takes2 s f
      fine_same Neg s calls f = (f.0, top_more e.operands _ _ (λ o os q. moved (a + 1) _ s.0 q) f.1)
      fine_same Not s calls f = top_more e.operands _ _ (λ o os q. moved (a + 1) _ s.0 q) f
      fine_same ToBool s calls f = top_more e.operands _ _ (λ o os q. moved (a + 1) _ s.0 q) f
      fine_same (Jump b) s calls f = (f.0, moved b _ s.0 f.1)
      fine_same (JumpZero b) s calls f = top_more e.operands _ _ (λ o os q. (q.0, moved b _ s.0 q.1, moved (a + 1) _ s.1.0 q.2)) f
      fine_same (Frame n) s calls f = (f.0, moved (a + 1) _ s.0 f.1)
      fine_same (Drop n) s calls f = (f.0, f.1, moved (a + 1) _ s.0 f.2)
      fine_same (Text n) s calls f = (f.0, f.1, moved (a + 1) _ s.0 f.2)
      fine_same Item s calls f = (f.0, top_more e.operands _ _ (λ o os q. moved (a + 1) _ s.0 q) f.1)
      fine_same Print s calls f = (f.0, moved (a + 1) _ s.0 f.1)
      fine_same (Room channel) s calls f = (f.0, f.1, f.2, moved (a + 1) _ s.0 f.3)
      fine_same (Put channel) s calls f = (f.0, top_more e.operands _ _ (λ o os q. moved (a + 1) _ s.0 q) f.1)
      fine_same (There channel) s calls f = (f.0, f.1, f.2, moved (a + 1) _ s.0 f.3)
      fine_same (Take channel) s calls f = (f.0, f.1, moved (a + 1) _ s.0 f.2)
      fine_same (Call b p n) s calls f = (f.0, f.1, f.2, f.3, f.4, calls b p n refl f.5, moved (a + 1) _ s.0 f.6)
      fine_same Return s calls f = f
      fine_same Fail s calls f = (f.0, moved (a + 1) _ s.0 f.1)
      fine_same (Enter b) s calls f = (f.0, f.1, f.2, f.3, f.4, moved (a + 1) _ s.0 f.5)
      fine_same (Start b) s calls f = (f.0, f.1, f.2, each_more (alternates_at (slice_get c.blocks b)) _ _ _ (λ x p q. moved x _ q p) f.3 s)
      fine_same (Test b) s calls f = (
        f.0,
        f.1,
        f.2,
        top_more e.operands _ _
            (λ o os q. (q.0, inner_more e.blocks _ _ (λ block around r. (r.0, r.1, moved (a + 1) _ s.0 r.2)) q.1)) f.3,
      )
      fine_same Done s calls f = f
      fine_same (Range k b) s calls f = (
        f.0,
        f.1,
        f.2,
        top_more e.operands _ _
            (λ o os q. top_more os _ _
            (λ p ps r. (
              r.0,
              moved b _ s.0 r.1,
              end_more (end_of_loop c k (a + 1)) _ _ (λ last h. moved (a + 1) (in_loop a e k last ps) s.1.0 h) r.2,
            )) q) f.3,
      )
      fine_same (Again k b) s calls f = (f.0, f.1, moved b _ s.0 f.2, moved (a + 1) _ s.1.0 f.3)
      fine_same (Counter k) s calls f = (f.0, (f.1.0, moved (a + 1) _ s.0 f.1.1))
      fine_same (Absent channel b) s calls f = (f.0, f.1, f.2, f.3, moved b _ s.0 f.4, moved (a + 1) _ s.1.0 f.5)
