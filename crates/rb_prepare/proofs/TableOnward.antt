-- What a sound table has along ways that lead ahead: entries of one body, in which loops stay open up to their ends.
use Rattle.std.proofs.Common.{◌≡◌, inl, ℕ, ◌+◌, ◌≤◌, true, List, slice_get, Some, sym, ◌∙◌, subst, refl, arith}
use Rattle.std.proofs.lemmas.Bool.{and_from, le-leb}
use Rattle.rb_world.specs.Kind.{Membership}
use Rattle.rb_world.proofs.ListFacts.{some_same}
use Rattle.rb_code.specs.Instructions.Plain.{Code}
use Rattle.rb_code.specs.SoundCode.Sound.{Entry, FineAt, HasTable, IsMember, IsOpen, Loop, Table, Within, is_in}
use Rattle.rb_code.specs.SoundCode.WellFormed.{LoopsStayOpen}
use Rattle.rb_code.specs.declared.instr.Instr.{Instr}
use Rattle.rb_code.specs.declared.instr.Instr.TheVariants.{Range}
use Rattle.rb_prepare.proofs.Walking.Laid.{LoopStays}
use Rattle.rb_prepare.proofs.Onward.{Onward, further, itself, member_of_each, onward_up}
use Rattle.rb_prepare.proofs.Walking.Ways.{Follows, IsIn, range_opens, ways, ways_known}

module _ (c : Code) (groups : List Membership) (t : Table) (has : HasTable c groups t) where
  -- the rule of an instruction
  known_at : (x : ℕ) (e : Entry) (instr : Instr) → t x ≡ Some e → slice_get c.instrs x ≡ Some instr → FineAt c groups t (Some instr) x e
  known_at x e instr there at = subst (λ o. FineAt c groups t o x e) at (has.each x e there).fine

  follows : (x y : ℕ) (e : Entry) (instr : Instr) → t x ≡ Some e → slice_get c.instrs x ≡ Some instr → IsMember y (ways c instr x)
      → Follows c groups t e.within e.loops y
  follows x y e instr there at member =
      member_of_each (Follows c groups t e.within e.loops) (ways c instr x) y
      (ways_known c groups t x e instr (known_at x e instr there at)) member

  pub in_onward : (within : Within) (from x : ℕ) → Onward c from x → IsIn c groups t within from → IsIn c groups t within x
  in_onward within from x itself begun = begun
  in_onward within from y (further {x} instr r at member ahead) begun = by (in_onward within from x r begun)
    where
      by : IsIn c groups t within x → IsIn c groups t within y
      by (e, there, is) = let next = follows x y e instr there at member in (next.entry, next.there, next.within_is ∙ is)

  -- the table has an entry in which a loop is open
  abbrev OpenAt : Loop → ℕ → Type 0
  OpenAt loop x = (g : Entry) × (t x ≡ Some g) × IsOpen loop g.loops

  around : (loop : Loop) (x : ℕ) → loop.first ≤ x → x ≤ loop.last → is_in x loop ≡ true
  around loop x low high = and_from _ _ (le-leb loop.first x low) (le-leb x loop.last high)

  open_onward : (loop : Loop) (x : ℕ) → Onward c loop.first x → x ≤ loop.last → OpenAt loop loop.first → OpenAt loop x
  open_onward loop x itself high begun = begun
  open_onward loop y (further {x} instr r at member ahead) high begun = by (open_onward loop x r (omega arith) begun)
    where
      by : OpenAt loop x → OpenAt loop y
      by (e, there, is_open) =
          let next = follows x y e instr there at member in
          let low = onward_up c loop.first x r in
          (next.entry, next.there, next.stay loop (around loop y (omega arith) high) is_open)

  pub loops_stay_open : ((a k b : ℕ) → slice_get c.instrs a ≡ Some (Range k b) → LoopStays c k (a + 1)) → LoopsStayOpen c t
  loops_stay_open stays a k b last x e g range there end low high at =
      let stay = stays a k b range in
      let same : stay.last ≡ last = some_same (sym stay.end ∙ end) in
      let loop : Loop = record { counter = k; first = a + 1; last = last } in
      let opened = range_opens c groups t a e k b last end (known_at a e (Range k b) there range) in
      let begun : OpenAt loop (a + 1) =
      (opened.entry, opened.there, opened.stay loop (around loop (a + 1) (omega arith) (omega arith)) (inl refl)) in
      let found = open_onward loop x (stay.all x (omega arith) (omega arith)) high begun in
      subst (λ (f : Entry). IsOpen loop f.loops) (some_same (sym found.1 ∙ at)) found.2
