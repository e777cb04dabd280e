-- The loops of quantified expressions come to what the meaning counts.
use Rattle.std.proofs.Common.{◌≡◌, ◌<◌, ℕ, zero, suc, ◌+◌, ℤ, pos, ◌+ℤ◌, int_lt, cond, Bool, true, false, List, ◌∷◌, length, slice_get, slice_set, unwrap_or, Option, Some, None, Ok, refl, sym, ap, ◌∙◌, subst, arith}
use Rattle.rb_meaning.specs.Value.{Outcome as Value, and_then, every_from, fitting, is_zero, some_from, sum_from}
use Rattle.rb_code.specs.Instructions.Plain.{Code}
use Rattle.rb_code.specs.WordMachine.Workspace.{Counting, Workspace}
use Rattle.rb_code.specs.WordMachine.Act.{Going, Sight, counted_on, counting, if_there}
use Rattle.rb_code.specs.Agreement.Template.{One}
use Rattle.rb_code.specs.declared.instr.Instr.TheVariants.{Add, Again, Jump, JumpZero, Push}
use Rattle.rb_code.proofs.Agreeing.Leads.{Leads, goes, leads_on, passes, stays}
use Rattle.rb_code.proofs.Agreeing.ResultsReached.{Comes, KeptBelow, comes_from, comes_inside, kept_here, kept_on, passes_or_traps, recounted}
use Rattle.rb_code.proofs.Agreeing.CountersSet.{is_set, kept_set}
use Rattle.rb_code.proofs.Agreeing.Spans.{at_end, before_end, one_on}

-- a counter that stands at x, with its end
abbrev pub counter : ℤ → ℤ → Option Counting
counter x end = Some (record { now = x; end = end })

module _ (c : Code) (see : Sight) where
  -- a jump to a label that stands at an address
  pub jumps : (a b d : ℕ) (os : List ℤ) (m : Workspace) → One (Jump b) c a d → Leads c see a os m b os m
  jumps a b d os m h = goes c see (Jump b) a b os os m m h.0 refl

  -- a test is 0, or not
  pub jumps_zero : (a b d : ℕ) (v : ℤ) (os : List ℤ) (m : Workspace) → One (JumpZero b) c a d → is_zero v ≡ true → Leads c see a (v ∷ os) m b os m
  jumps_zero a b d v os m h e =
      goes c see (JumpZero b) a b (v ∷ os) os m m h.0 (ap (λ t. cond t (Going b os m) (Going (a + 1) os m)) e)

  pub passes_zero : (a b d : ℕ) (v : ℤ) (os : List ℤ) (m : Workspace) → One (JumpZero b) c a d → is_zero v ≡ false → Leads c see a (v ∷ os) m d os m
  passes_zero a b d v os m h e =
      passes c see (JumpZero b) a d (v ∷ os) os m m h (ap (λ t. cond t (Going b os m) (Going (a + 1) os m)) e)

  -- a number is pushed, and a jump may follow it
  pub pushes : (a d : ℕ) (n : ℤ) (os : List ℤ) (m : Workspace) → One (Push n) c a d → Leads c see a os m d (n ∷ os) m
  pushes a d n os m h = passes c see (Push n) a d os (n ∷ os) m m h refl

  -- from an address by another name, and to one
  pub from_there : (a b d : ℕ) (os ps : List ℤ) (m n : Workspace) → a ≡ b → Leads c see b os m d ps n → Leads c see a os m d ps n
  from_there a b d os ps m n e l = subst (λ x. Leads c see x os m d ps n) (sym e) l

  pub to_there : (a b d : ℕ) (os ps : List ℤ) (m n : Workspace) → b ≡ d → Leads c see a os m b ps n → Leads c see a os m d ps n
  to_there a b d os ps m n e l = subst (λ x. Leads c see a os m x ps n) e l

  -- a counter that is not at its end goes on, and the other goes
  pub again_on : (k loop a d : ℕ) (x end : ℤ) (os : List ℤ) (m : Workspace) → One (Again k loop) c a d → slice_get m.counters k ≡ Some (counter x end)
      → int_lt x end ≡ true → Leads c see a os m loop os (counting k (counter (x +ℤ pos 1) end) m)
  again_on k loop a d x end os m h e l =
      goes c see (Again k loop) a loop os os m (counting k (counter (x +ℤ pos 1) end) m) h.0
      (ap (λ o. if_there (unwrap_or o None) (λ one. counted_on k loop (a + 1) one os m)) e
      ∙ ap (λ b. cond b (Going loop os (counting k (counter (x +ℤ pos 1) end) m)) (Going (a + 1) os (counting k None m))) l)

  pub again_past : (k loop a d : ℕ) (x end : ℤ) (os : List ℤ) (m : Workspace) → One (Again k loop) c a d → slice_get m.counters k ≡ Some (counter x end)
      → int_lt x end ≡ false → Leads c see a os m d os (counting k None m)
  again_past k loop a d x end os m h e l =
      passes c see (Again k loop) a d os os m (counting k None m) h
      (ap (λ o. if_there (unwrap_or o None) (λ one. counted_on k loop (a + 1) one os m)) e
      ∙ ap (λ b. cond b (Going loop os (counting k (counter (x +ℤ pos 1) end) m)) (Going (a + 1) os (counting k None m))) l)

  -- A loop over counter k: its body, from `first` to `d`, comes to what f gives at the counter.
  module _ (k : ℕ) (m : Workspace) (base : List (Option Counting)) (there : k < length base) (end : ℤ) (f : ℤ → Value) (first d : ℕ)
      (body : (x : ℤ) (set : List (Option Counting)) (os : List ℤ) → KeptBelow k base set → slice_get set k ≡ Some (counter x end)
      → Comes c see (suc k) first os (recounted set m) d (λ v. v ∷ os) (λ v. m) (f x)) where
    -- the counter after the body, and after `again`
    pub still : (x : ℤ) (set later : List (Option Counting)) → KeptBelow (suc k) set later → slice_get set k ≡ Some (counter x end)
        → slice_get later k ≡ Some (counter x end)
    still x set later kept e = kept.same k (omega arith) ∙ e

    pub less_kept : (set later : List (Option Counting)) → KeptBelow (suc k) set later → KeptBelow k set later
    less_kept set later kept = record { many = kept.many; same = λ j h. kept.same j (omega arith) }

    pub set_on : (x : ℤ) (later : List (Option Counting)) → KeptBelow k base later
        → slice_get (slice_set later k (counter (x +ℤ pos 1) end)) k ≡ Some (counter (x +ℤ pos 1) end)
    set_on x later kept = is_set k later (counter (x +ℤ pos 1) end) (subst (λ n. k < n) (sym kept.many) there)

    module _ (b d1 d2 : ℕ) (again : One (Again k first) c d1 d2) where
      -- behind the body of the last number, and of one before it
      last_comes : (x : ℤ) (set later : List (Option Counting)) (os ps : List ℤ) (o : Value) → end ≡ x +ℤ pos 0 → KeptBelow (suc k) set later
          → slice_get set k ≡ Some (counter x end)
          → Comes c see k d2 os (recounted (slice_set later k None) m) b (λ v. v ∷ ps) (λ v. m) o
          → Comes c see k d1 os (recounted later m) b (λ v. v ∷ ps) (λ v. m) o
      last_comes x set later os ps o e more at next =
          comes_from c see k d1 d2 os os (recounted later m) (recounted (slice_set later k None) m) b (λ v. v ∷ ps) (λ v. m) o
          (again_past k first d1 d2 x end os (recounted later m) again (still x set later more at) (ap (int_lt x) e ∙ at_end x))
          (kept_set k later None) next

      other_comes : (n : ℕ) (x : ℤ) (set later : List (Option Counting)) (os ps : List ℤ) (o : Value)
          → end ≡ x +ℤ pos (suc n) → KeptBelow (suc k) set later
          → slice_get set k ≡ Some (counter x end)
          → Comes c see k first os (recounted (slice_set later k (counter (x +ℤ pos 1) end)) m) b (λ v. v ∷ ps) (λ v. m) o
          → Comes c see k d1 os (recounted later m) b (λ v. v ∷ ps) (λ v. m) o
      other_comes n x set later os ps o e more at next =
          comes_from c see k d1 first os os (recounted later m)
          (recounted (slice_set later k (counter (x +ℤ pos 1) end)) m) b (λ v. v ∷ ps) (λ v. m) o
          (again_on k first d1 d2 x end os (recounted later m) again (still x set later more at) (ap (int_lt x) e ∙ before_end x n))
          (kept_set k later (counter (x +ℤ pos 1) end)) next

      -- what is known where the loop begins again
      all_kept : (x : ℤ) (set later : List (Option Counting)) → KeptBelow k base set → KeptBelow (suc k) set later
          → KeptBelow k base (slice_set later k (counter (x +ℤ pos 1) end))
      all_kept x set later kept more = kept_on kept (kept_on (less_kept set later more) (kept_set k later (counter (x +ℤ pos 1) end)))

      now_set : (x : ℤ) (set later : List (Option Counting)) → KeptBelow k base set → KeptBelow (suc k) set later
          → slice_get (slice_set later k (counter (x +ℤ pos 1) end)) k ≡ Some (counter (x +ℤ pos 1) end)
      now_set x set later kept more = set_on x later (kept_on kept (less_kept set later more))

      -- a test of the body's value, by whether it is 0
      tested : (v : ℤ) (later : List (Option Counting)) (os ps : List ℤ) (zeroed other : Value)
          → (is_zero v ≡ true → Comes c see k d (v ∷ os) (recounted later m) b (λ v. v ∷ ps) (λ v. m) zeroed)
          → (is_zero v ≡ false → Comes c see k d (v ∷ os) (recounted later m) b (λ v. v ∷ ps) (λ v. m) other)
          → Comes c see k d (v ∷ os) (recounted later m) b (λ v. v ∷ ps) (λ v. m) (cond (is_zero v) zeroed other)
      tested v later os ps zeroed other if_zero if_not = by (is_zero v) refl
        where
          by : (t : Bool) → is_zero v ≡ t → Comes c see k d (v ∷ os) (recounted later m) b (λ v. v ∷ ps) (λ v. m) (cond t zeroed other)
          by true e = if_zero e
          by false e = if_not e

      -- `every`
      module _ (no : ℕ) (zero_test : One (JumpZero no) c d d1)
          (to_yes : (os : List ℤ) (n : Workspace) → Leads c see d2 os n b (pos 1 ∷ os) n)
          (to_no : (os : List ℤ) (n : Workspace) → Leads c see no os n b (pos 0 ∷ os) n) where
        every_body : (n : ℕ) (x : ℤ) (set : List (Option Counting)) (os : List ℤ) → KeptBelow k base set → slice_get set k ≡ Some (counter x end)
            → ((later : List (Option Counting)) → KeptBelow (suc k) set later
            → Comes c see k d1 os (recounted later m) b (λ v. v ∷ os) (λ v. m) (every_from n (x +ℤ pos 1) f))
            → Comes c see k first os (recounted set m) b (λ v. v ∷ os) (λ v. m) (every_from (suc n) x f)
        every_body n x set os kept at next =
            comes_inside c see k (suc k) first d b os (recounted set m) (λ v. v ∷ os) (λ v. m) (λ v. v ∷ os) (λ v. m) (f x)
            (λ v. cond (is_zero v) (Ok (pos 0)) (every_from n (x +ℤ pos 1) f)) (omega arith) (body x set os kept at)
            (λ v later more. tested v later os os (Ok (pos 0)) (every_from n (x +ℤ pos 1) f)
            (λ z. (later, kept_here k later, leads_on c see (jumps_zero d no d1 v os (recounted later m) zero_test z) (to_no os (recounted later m))))
            (λ z. comes_from c see k d d1 (v ∷ os) os (recounted later m) (recounted later m) b (λ v. v ∷ os) (λ v. m) _
            (passes_zero d no d1 v os (recounted later m) zero_test z) (kept_here k later) (next later more)))

        pub every_loop : (n : ℕ) (x : ℤ) (set : List (Option Counting)) (os : List ℤ) → end ≡ x +ℤ pos n → KeptBelow k base set
            → slice_get set k ≡ Some (counter x end)
            → Comes c see k first os (recounted set m) b (λ v. v ∷ os) (λ v. m) (every_from (suc n) x f)
        every_loop zero x set os e kept at = every_body zero x set os kept at (λ later more.
            last_comes x set later os os (Ok (pos 1)) e more at
            (slice_set later k None, kept_here k (slice_set later k None), to_yes os (recounted (slice_set later k None) m)))
        every_loop (suc n) x set os e kept at = every_body (suc n) x set os kept at (λ later more.
            other_comes n x set later os os (every_from (suc n) (x +ℤ pos 1) f) e more at
            (every_loop n (x +ℤ pos 1) (slice_set later k (counter (x +ℤ pos 1) end)) os (e ∙ one_on x n)
            (all_kept x set later kept more) (now_set x set later kept more)))

      -- `some`
      module _ (d0 : ℕ) (zero_test : One (JumpZero d1) c d d0)
          (to_yes : (os : List ℤ) (n : Workspace) → Leads c see d0 os n b (pos 1 ∷ os) n)
          (to_no : (os : List ℤ) (n : Workspace) → Leads c see d2 os n b (pos 0 ∷ os) n) where
        some_body : (n : ℕ) (x : ℤ) (set : List (Option Counting)) (os : List ℤ) → KeptBelow k base set → slice_get set k ≡ Some (counter x end)
            → ((later : List (Option Counting)) → KeptBelow (suc k) set later
            → Comes c see k d1 os (recounted later m) b (λ v. v ∷ os) (λ v. m) (some_from n (x +ℤ pos 1) f))
            → Comes c see k first os (recounted set m) b (λ v. v ∷ os) (λ v. m) (some_from (suc n) x f)
        some_body n x set os kept at next =
            comes_inside c see k (suc k) first d b os (recounted set m) (λ v. v ∷ os) (λ v. m) (λ v. v ∷ os) (λ v. m) (f x)
            (λ v. cond (is_zero v) (some_from n (x +ℤ pos 1) f) (Ok (pos 1))) (omega arith) (body x set os kept at)
            (λ v later more. tested v later os os (some_from n (x +ℤ pos 1) f) (Ok (pos 1))
            (λ z. comes_from c see k d d1 (v ∷ os) os (recounted later m) (recounted later m) b (λ v. v ∷ os) (λ v. m) _
            (jumps_zero d d1 d0 v os (recounted later m) zero_test z) (kept_here k later) (next later more))
            (λ z. (
              later,
              kept_here k later,
              leads_on c see (passes_zero d d1 d0 v os (recounted later m) zero_test z) (to_yes os (recounted later m)),
            )))

        pub some_loop : (n : ℕ) (x : ℤ) (set : List (Option Counting)) (os : List ℤ) → end ≡ x +ℤ pos n → KeptBelow k base set
            → slice_get set k ≡ Some (counter x end)
            → Comes c see k first os (recounted set m) b (λ v. v ∷ os) (λ v. m) (some_from (suc n) x f)
        some_loop zero x set os e kept at = some_body zero x set os kept at (λ later more.
            last_comes x set later os os (Ok (pos 0)) e more at
            (slice_set later k None, kept_here k (slice_set later k None), to_no os (recounted (slice_set later k None) m)))
        some_loop (suc n) x set os e kept at = some_body (suc n) x set os kept at (λ later more.
            other_comes n x set later os os (some_from (suc n) (x +ℤ pos 1) f) e more at
            (some_loop n (x +ℤ pos 1) (slice_set later k (counter (x +ℤ pos 1) end)) os (e ∙ one_on x n)
            (all_kept x set later kept more) (now_set x set later kept more)))

      -- `sum`, whose total stands below the body's operands
      module _ (adds : One Add c d d1) (is_past : d2 ≡ b) where
        sum_body : (n : ℕ) (x total : ℤ) (set : List (Option Counting)) (os : List ℤ) → KeptBelow k base set → slice_get set k ≡ Some (counter x end)
            → ((next : ℤ) (later : List (Option Counting)) → KeptBelow (suc k) set later
            → Comes c see k d1 (next ∷ os) (recounted later m) b (λ v. v ∷ os) (λ v. m) (sum_from n (x +ℤ pos 1) f next))
            → Comes c see k first (total ∷ os) (recounted set m) b (λ v. v ∷ os) (λ v. m) (sum_from (suc n) x f total)
        sum_body n x total set os kept at next =
            comes_inside c see k (suc k) first d b (total ∷ os) (recounted set m) (λ v. v ∷ total ∷ os) (λ v. m) (λ v. v ∷ os) (λ v. m) (f x)
            (λ v. and_then (fitting (total +ℤ v)) (sum_from n (x +ℤ pos 1) f)) (omega arith) (body x set (total ∷ os) kept at)
            (λ v later more. comes_inside c see k (suc k) d d1 b (v ∷ total ∷ os) (recounted later m) (λ v. v ∷ os)
            (λ v. recounted later m) (λ v. v ∷ os) (λ v. m)
            (fitting (total +ℤ v)) (sum_from n (x +ℤ pos 1) f) (omega arith)
            (passes_or_traps c see Add (suc k) d (v ∷ total ∷ os) (recounted later m) d1 (λ v. v ∷ os) (fitting (total +ℤ v)) adds refl)
            (λ w later2 more2. next w later2 (kept_on more more2)))

        pub sum_loop : (n : ℕ) (x total : ℤ) (set : List (Option Counting)) (os : List ℤ) → end ≡ x +ℤ pos n → KeptBelow k base set
            → slice_get set k ≡ Some (counter x end)
            → Comes c see k first (total ∷ os) (recounted set m) b (λ v. v ∷ os) (λ v. m) (sum_from (suc n) x f total)
        sum_loop zero x total set os e kept at = sum_body zero x total set os kept at (λ next later more.
            last_comes x set later (next ∷ os) os (Ok next) e more at (
              slice_set later k None,
              kept_here k (slice_set later k None),
              to_there d2 d2 b (next ∷ os) (next ∷ os) _ _ is_past (stays c see d2 (next ∷ os) (recounted (slice_set later k None) m)),
            ))
        sum_loop (suc n) x total set os e kept at = sum_body (suc n) x total set os kept at (λ next later more.
            other_comes n x set later (next ∷ os) os (sum_from (suc n) (x +ℤ pos 1) f next) e more at
            (sum_loop n (x +ℤ pos 1) next (slice_set later k (counter (x +ℤ pos 1) end)) os (e ∙ one_on x n)
            (all_kept x set later kept more) (now_set x set later kept more)))
