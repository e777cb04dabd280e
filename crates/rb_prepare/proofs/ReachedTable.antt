-- A table without the entries at addresses that are not reached: it is one of the code as well.
use Rattle.std.proofs.Common.{◌≡◌, inl, ℕ, ◌+◌, ◌<◌, Bool, true, false, cond, List, length, slice_get, Option, Some, None, refl, sym, ◌∙◌, subst, true≢false}
use Rattle.std.proofs.lemmas.Option.{slice_get_within}
use Rattle.rb_world.specs.Kind.{Membership}
use Rattle.rb_world.proofs.ListFacts.{none_some}
use Rattle.rb_code.specs.Instructions.Plain.{Code}
use Rattle.rb_code.specs.SoundCode.Reached.{Reached, begins, leads, successors}
use Rattle.rb_code.specs.SoundCode.Sound.{BeginsAs, Entry, FineAt, HasTable, IsMember, IsSoundAt, Table}
use Rattle.rb_code.specs.declared.instr.Instr.{Instr}
use Rattle.rb_code.specs.declared.instr.Instr.TheVariants.{Call}
use Rattle.rb_code.proofs.Reaching.ReachedDecided.{is_reached, is_reached_at, reached_is}
use Rattle.rb_prepare.proofs.Onward.{each_of_members}
use Rattle.rb_prepare.proofs.Walking.Ways.{fine_same, way_is_successor, ways}

-- the entries of a table at addresses that are reached
abbrev pub reached_table : Code → Table → Table
reached_table c t x = cond (is_reached c x) (t x) None

pub reached_entry : (c : Code) (t : Table) (x : ℕ) (e : Entry) → reached_table c t x ≡ Some e → (t x ≡ Some e) × Reached c x
reached_entry c t x e at = by (is_reached c x) refl at
  where
    by : (b : Bool) → is_reached c x ≡ b → cond b (t x) None ≡ Some e → (t x ≡ Some e) × Reached c x
    by true is there = (there, reached_is c x is)
    by false is there = absurd (none_some there)

module _ (c : Code) (groups : List Membership) (t : Table) (has : HasTable c groups t) where
  abbrev cut : Table
  cut = reached_table c t

  there_is_code : (x : ℕ) (o : Option Instr) (e : Entry) → slice_get c.instrs x ≡ o → FineAt c groups t o x e → x < length c.instrs
  there_is_code x None e at fine = absurd fine
  there_is_code x (Some instr) e at fine = slice_get_within c.instrs x instr at

  -- at an address that is reached the entry is the same
  pub cut_keeps : (x : ℕ) → Reached c x → t x ≡ cut x
  cut_keeps x known = by (is_reached c x) refl (t x) refl
    where
      by : (b : Bool) → is_reached c x ≡ b → (o : Option Entry) → t x ≡ o → t x ≡ cond b (t x) None
      by true is o at = refl
      by false is None at = at
      by false is (Some e) at =
          let low = there_is_code x (slice_get c.instrs x) e refl (has.each x e at).fine in
          absurd (true≢false (sym (is_reached_at c x low known) ∙ is))

  fine_cut : (a : ℕ) (e : Entry) → Reached c a → (o : Option Instr) → slice_get c.instrs a ≡ o → FineAt c groups t o a e → FineAt c groups cut o a e
  fine_cut a e known None at fine = fine
  fine_cut a e known (Some instr) at fine =
      fine_same c groups t cut a e instr
      (each_of_members (λ x. t x ≡ cut x) (ways c instr a) (λ x member. cut_keeps x (leads instr known at (way_is_successor c instr a x member))))
      calls fine
    where
      calls : (b p n : ℕ) → instr ≡ Call b p n → BeginsAs (t b) e.within.process b (p + n) → BeginsAs (cut b) e.within.process b (p + n)
      calls b p n is begun =
          let called : IsMember b (successors c instr a) = subst (λ i. IsMember b (successors c i a)) (sym is) (inl refl) in
          subst (λ o. BeginsAs o e.within.process b (p + n)) (cut_keeps b (leads instr known at called)) begun

  cut_sound : (a : ℕ) (e : Entry) → cut a ≡ Some e → IsSoundAt c groups cut a e
  cut_sound a e at =
      let known = reached_entry c t a e at in
      let sound = has.each a e known.0 in
      record { fine = fine_cut a e known.1 (slice_get c.instrs a) refl sound.fine; above = sound.above; around = sound.around }

  pub cut_has : HasTable c groups cut
  cut_has = record {
    mains = λ p part at. sym (cut_keeps part.start (begins p part at refl)) ∙ has.mains p part at;
    each = cut_sound;
  }
