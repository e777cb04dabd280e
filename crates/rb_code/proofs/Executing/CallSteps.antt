-- `call` and `return`: a process stands again, in another body.
use Rattle.std.proofs.Common.{◌≡◌, ℕ, zero, suc, ◌+◌, ◌<◌, ◌≤◌, ℤ, pos, nat_le, cond, List, [], ◌∷◌, ◌++◌, length, filter, replicate, Option, Some, None, refl, ap, sym, ◌∙◌, subst, arith, length-append, length-take-le, leb-false}
use Rattle.std.proofs.lemmas.List.{length-replicate}
use Rattle.rb_base.specs.declared.event.Cause.TheVariants.{Calls, Stack}
use Rattle.rb_world.specs.Kind.{Membership}
use Rattle.rb_meaning.specs.Step.{most_calls}
use Rattle.rb_code.specs.Instructions.Plain.{Code}
use Rattle.rb_code.specs.WordMachine.Workspace.{Workspace, OpenCall, base_of, called, ended}
use Rattle.rb_code.specs.WordMachine.Act.{Going, Outcome, Sight, Trapped, act, arguments, below, has_words_for, here, returned}
use Rattle.rb_code.specs.SoundCode.Sound.{Changed, BeginsAs, Entry, Fine, Has, IsOfProcedure, Table, at_address, changed, is_in}
use Rattle.rb_code.specs.SoundCode.Stands.{BeganBefore, BodyFits, Fits, Levels, LevelsFit, LoopsFit, ModeFits, OperandsFit, ReturnsTo}
use Rattle.rb_code.specs.declared.instr.Instr.TheVariants.{Call, Return}
use Rattle.rb_code.proofs.Looping.FallingNumbers.{high_falls}
use Rattle.rb_code.proofs.Looping.LoopSteps.{left_at}
use Rattle.rb_code.proofs.Executing.OpenLevels.{body_process}
use Rattle.rb_code.proofs.Executing.Weaker.{may_trap, rank, weaker_changed, weaker_none}
use Rattle.rb_code.proofs.Executing.Progress.{Most, Progress, cond_goes, distance, in_body, places}

arguments_long : (os : List (Option ℕ)) (xs : List ℤ) (p : ℕ) → OperandsFit os xs → length os ≡ p → length (arguments p xs) ≡ p
arguments_long [] xs zero h e = refl
arguments_long [] xs (suc p) h e = absurd (omega arith)
arguments_long (o ∷ os) xs zero h e = absurd (omega arith)
arguments_long (o ∷ os) [] (suc p) h e = absurd h
arguments_long (o ∷ os) (x ∷ xs) (suc p) h e =
    let r = arguments_long os xs p h.1 (omega arith) in omega (arith, length-append (arguments p xs) (x ∷ []))

none_below : (os : List (Option ℕ)) (xs : List ℤ) (p : ℕ) → OperandsFit os xs → length os ≡ p → below p xs ≡ []
none_below [] [] zero h e = refl
none_below [] (x ∷ xs) zero h e = absurd h
none_below [] xs (suc p) h e = absurd (omega arith)
none_below (o ∷ os) xs zero h e = absurd (omega arith)
none_below (o ∷ os) [] (suc p) h e = absurd h
none_below (o ∷ os) (x ∷ xs) (suc p) h e = none_below os xs p h.1 (omega arith)

module _ (c : Code) (groups : List Membership) (t : Table) (see : Sight) (levels : Levels) (P : Workspace → Type 0)
    (a : ℕ) (e : Entry) (operands : List ℤ) (m : Workspace) (in_code : a < length c.instrs)
    (fits : Fits c t see levels a e operands m) (began : BeganBefore (a + 1) e.loops) (clean : 2 ≤ rank e.mode → P m) where
  abbrev Goes : Outcome → Type 0
  Goes = Progress c groups t see levels P m (Most c groups t see levels P a e operands m in_code fits began)

  -- where a call goes back to, everything is as behind it
  comes_back : (o : Option Entry) → e.pieces ≡ 0 → e.loops ≡ [] → Has o (at_address (a + 1) (changed [] e.words e))
      → ReturnsTo o (λ g. (length m.words ≡ base_of (here c see) m.calls + g.words) × BodyFits c t see.process m.calls g.within g.blocks levels)
  comes_back None pieces loops l = absurd l
  comes_back (Some g) pieces loops l = (
    weaker_none g.operands l.operands,
    l.pieces ∙ pieces,
    l.loops ∙ ap (filter (is_in (a + 1))) loops,
    weaker_changed g.mode l.mode,
    (
      fits.layout.words_are ∙ ap (λ n. base_of (here c see) m.calls + n) (sym l.words),
      subst (λ blocks. BodyFits c t see.process m.calls g.within blocks levels) (sym l.blocks)
          (subst (λ within. BodyFits c t see.process m.calls within e.blocks levels) (sym l.within) fits.layout.body),
    ),
  )

  opens_call : (b p n : ℕ) → Fine c groups t (Call b p n) a e → length m.calls < most_calls → (o : Option Entry) → t b ≡ o
      → BeginsAs o e.within.process b (p + n) → Goes (Going b (below p operands) (called (a + 1) (arguments p operands) n m))
  opens_call b p n fine few None q h = absurd h
  opens_call b p n fine few (Some g) q h =
      let later = called (a + 1) (arguments p operands) n m in
      let start : Entry = record {
        within = record { process = e.within.process; procedure = Some b };
        operands = [];
        words = p + n;
        blocks = [];
        loops = [];
        pieces = 0;
        mode = Changed;
      } in
      let args = arguments_long e.operands operands p fits.operands_fit fine.1 in
      let one : 2 ≤ rank e.mode = may_trap e.mode fine.0 in
      record {
        entry = start;
        there = q ∙ ap Some h;
        fits = record {
          operands_fit = subst (λ xs. OperandsFit [] xs) (sym (none_below e.operands operands p fits.operands_fit fine.1)) tt;
          layout = record {
            words_are = length-append m.words (arguments p operands ++ replicate n (pos 0))
                ∙ ap (λ k. length m.words + k)
                (length-append (arguments p operands) (replicate n (pos 0)) ∙ (let r = length-replicate n (pos 0) in omega arith));
            calls_few = few;
            body = (
              body_process c t see.process m.calls e.within e.blocks levels fits.layout.body,
              tt,
              comes_back (t (a + 1)) fine.2 fine.3 fine.6,
            );
            heights = fits.layout.heights;
          };
          pieces_are = fits.pieces_are ∙ fine.2;
          counters_two = fits.counters_two;
          loops_fit = tt;
          mode_fits = tt;
        };
        less = high_falls (rank e.mode + length m.calls) (0 + length later.calls) (places c groups t see levels P)
            (left_at (length c.instrs) m e.loops a) (distance c groups t see levels P later [] b) (omega arith) (in_body c groups t see levels P later [] b tt);
        clean = λ k. absurd (omega arith);
      }

  pub call_goes : (b p n : ℕ) → Fine c groups t (Call b p n) a e → Goes (act c see (Call b p n) a operands m)
  call_goes b p n fine =
      let later = called (a + 1) (arguments p operands) n m in
      let same = clean (may_trap e.mode fine.0) in
      let goes = cond (has_words_for c (here c see) (length m.words + (p + n))) (Going b (below p operands) later) (Trapped Stack) in
      cond_goes c groups t see levels P m _ (nat_le most_calls (length m.calls)) (Trapped Calls) goes (λ q. same)
      (λ q. cond_goes c groups t see levels P m _ (has_words_for c (here c see) (length m.words + (p + n)))
      (Going b (below p operands) later) (Trapped Stack)
      (λ k. opens_call b p n fine (leb-false most_calls (length m.calls) q) (t b) refl fine.5) (λ k. same))

  -- back to where the call came from
  goes_back : (call : OpenCall) (calls : List OpenCall) → length (call ∷ calls) ≡ length m.calls → call.base ≤ length m.words
      → OperandsFit [] operands → e.pieces ≡ 0 → (o : Option Entry) → t call.back ≡ o
      → ReturnsTo o (λ g. (call.base ≡ base_of (here c see) calls + g.words) × BodyFits c t see.process calls g.within g.blocks levels)
      → Goes (Going call.back operands (ended call calls m))
  goes_back call calls same high none pieces None q h = absurd h
  goes_back call calls same high none pieces (Some g) q h =
      let later = ended call calls m in
      let zero_rank : rank g.mode ≡ 0 = ap rank h.3 in
      let few = fits.layout.calls_few in
      let fit : LoopsFit later g.loops = subst (LoopsFit later) (sym h.2) tt in
      record {
        entry = g;
        there = q;
        fits = record {
          operands_fit = subst (λ os. OperandsFit os operands) (sym h.0) none;
          layout = record {
            words_are = length-take-le call.base m.words high ∙ h.4.0;
            calls_few = omega arith;
            body = h.4.1;
            heights = fits.layout.heights;
          };
          pieces_are = fits.pieces_are ∙ (pieces ∙ sym h.1);
          counters_two = fits.counters_two;
          loops_fit = fit;
          mode_fits = subst (ModeFits c see call.back) (sym h.3) tt;
        };
        less = high_falls (rank e.mode + length m.calls) (rank g.mode + length later.calls) (places c groups t see levels P)
            (left_at (length c.instrs) m e.loops a) (distance c groups t see levels P later g.loops call.back) (omega arith)
            (in_body c groups t see levels P later g.loops call.back fit);
        clean = λ k. absurd (omega arith);
      }

  returns : (calls : List OpenCall) → length calls ≡ length m.calls → length m.words ≡ base_of (here c see) calls + e.words
      → BodyFits c t see.process calls e.within e.blocks levels → Fine c groups t Return a e → Goes (returned c see calls operands m)
  returns [] same words body fine = absurd (subst IsOfProcedure (ap (λ w. w.procedure) body.0) fine.0)
  returns (call ∷ calls) same words body fine =
      goes_back call calls same (omega arith) (subst (λ os. OperandsFit os operands) fine.1 fits.operands_fit) fine.2 (t call.back) refl
      (subst (λ bs. LevelsFit c t e.within call.base (call ∷ calls) bs levels (λ others.
      ReturnsTo (t call.back) (λ g. (call.base ≡ base_of (here c see) calls + g.words) × BodyFits c t see.process calls g.within g.blocks others)))
      fine.3 body.2)

  pub return_goes : Fine c groups t Return a e → Goes (act c see Return a operands m)
  return_goes fine = returns m.calls refl fits.layout.words_are fits.layout.body fine
