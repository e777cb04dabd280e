-- Where the machine comes to with what a result gives: to an address with a value, or to a trap. Counters of quantified expressions
-- around are as they were; what others hold is of no account.
use Rattle.std.proofs.Common.{◌≡◌, ◌<◌, ◌≤◌, ℕ, ◌+◌, ℤ, List, ◌∷◌, length, slice_get, Option, Result, Ok, Err, refl, ◌∙◌, subst, arith}
use Rattle.rb_base.specs.declared.event.Cause.{Cause}
use Rattle.rb_meaning.specs.Value.{and_then}
use Rattle.rb_code.specs.Instructions.Plain.{Code}
use Rattle.rb_code.specs.WordMachine.Workspace.{Counting, Workspace}
use Rattle.rb_code.specs.WordMachine.Act.{Going, Sight, Trapped, act, or_trap}
use Rattle.rb_code.specs.Agreement.Template.{One}
use Rattle.rb_code.specs.declared.instr.Instr.{Instr}
use Rattle.rb_code.proofs.Agreeing.Leads.{EndsIn, Leads, ends, leads_on, leads_to_end, passes}

-- other counters
abbrev pub recounted : List (Option Counting) → Workspace → Workspace
recounted counters m = record m { counters = counters }

-- there are as many counters as before, and those below a number are as before
pub record KeptBelow (q : ℕ) (old new : List (Option Counting)) : Type 0 where
  pub many : length new ≡ length old
  pub same : (k : ℕ) → k < q → slice_get new k ≡ slice_get old k

pub kept_here : (q : ℕ) (old : List (Option Counting)) → KeptBelow q old old
kept_here q old = record { many = refl; same = λ k l. refl }

pub kept_on : {q : ℕ} {old new newer : List (Option Counting)} → KeptBelow q old new → KeptBelow q new newer → KeptBelow q old newer
kept_on x y = record { many = y.many ∙ x.many; same = λ k l. y.same k l ∙ x.same k l }

pub kept_fewer : (q r : ℕ) (old new : List (Option Counting)) → q ≤ r → KeptBelow r old new → KeptBelow q old new
kept_fewer q r old new l x = record { many = x.many; same = λ k h. x.same k (omega arith) }

module _ (c : Code) (see : Sight) where
  -- to b, with the operands and the memory that a value gives, or to a trap
  abbrev pub Comes : {A : Type 0} → ℕ → ℕ → List ℤ → Workspace → ℕ → (A → List ℤ) → (A → Workspace) → Result A Cause → Type 0
  Comes q a os m b f g (Ok x) =
      (later : List (Option Counting)) × KeptBelow q m.counters later × Leads c see a os m b (f x) (recounted later (g x))
  Comes q a os m b f g (Err cause) = EndsIn c see a os m (Trapped cause)

  -- with the value on top of the operands
  abbrev pub Gives : ℕ → ℕ → List ℤ → Workspace → ℕ → Result ℤ Cause → Type 0
  Gives q a os m b o = Comes q a os m b (λ v. v ∷ os) (λ v. m) o

  -- behind what leads here
  pub comes_from : {A : Type 0} (q a d : ℕ) (os ps : List ℤ) (m n : Workspace) (b : ℕ) (f : A → List ℤ) (g : A → Workspace) (o : Result A Cause)
      → Leads c see a os m d ps n → KeptBelow q m.counters n.counters → Comes q d ps n b f g o → Comes q a os m b f g o
  comes_from q a d os ps m n b f g (Ok x) l k r = (r.0, kept_on k r.1, leads_on c see l r.2)
  comes_from q a d os ps m n b f g (Err cause) l k r = leads_to_end c see l r

  -- a value goes on, a trap is the end; at first more counters may be kept
  pub comes_inside : {A B : Type 0} (q r a d b : ℕ) (os : List ℤ) (m : Workspace) (f : A → List ℤ) (g : A → Workspace) (f' : B → List ℤ) (g' : B → Workspace)
      (o : Result A Cause) (h : A → Result B Cause) → q ≤ r → Comes r a os m d f g o
      → ((x : A) (later : List (Option Counting)) → KeptBelow r m.counters later → Comes q d (f x) (recounted later (g x)) b f' g' (h x))
      → Comes q a os m b f' g' (and_then o h)
  comes_inside q r a d b os m f g f' g' (Ok x) h e l n =
      comes_from q a d os (f x) m (recounted l.0 (g x)) b f' g' (h x) l.2 (kept_fewer q r m.counters l.0 e l.1) (n x l.0 l.1)
  comes_inside q r a d b os m f g f' g' (Err cause) h e l n = l

  pub comes_on : {A B : Type 0} (q a d b : ℕ) (os : List ℤ) (m : Workspace) (f : A → List ℤ) (g : A → Workspace) (f' : B → List ℤ) (g' : B → Workspace)
      (o : Result A Cause) (h : A → Result B Cause) → Comes q a os m d f g o
      → ((x : A) (later : List (Option Counting)) → KeptBelow q m.counters later → Comes q d (f x) (recounted later (g x)) b f' g' (h x))
      → Comes q a os m b f' g' (and_then o h)
  comes_on q a d b os m f g f' g' o h l n = comes_inside q q a d b os m f g f' g' o h (omega arith) l n

  -- where it leads, and what comes then leaves the counters
  pub comes_to : {A : Type 0} (q a : ℕ) (os : List ℤ) (m : Workspace) (b : ℕ) (f : A → List ℤ) (g : A → Workspace) (x : A) (later : List (Option Counting))
      → KeptBelow q m.counters later → Leads c see a os m b (f x) (recounted later (g x)) → Comes q a os m b f g (Ok x)
  comes_to q a os m b f g x later k l = (later, k, l)

  -- one instruction that may trap
  pub passes_or_traps : {A : Type 0} (instr : Instr) (q a : ℕ) (os : List ℤ) (m : Workspace) (b : ℕ) (f : A → List ℤ) (o : Result A Cause)
      → One instr c a b → act c see instr a os m ≡ or_trap o (λ x. Going (a + 1) (f x) m) → Comes q a os m b f (λ x. m) o
  passes_or_traps instr q a os m b f (Ok x) h e = (m.counters, kept_here q m.counters, passes c see instr a b os (f x) m m h e)
  passes_or_traps instr q a os m b f (Err cause) h e = ends c see instr a os m (Trapped cause) h.0 e refl

  -- the same result under another name
  pub same_comes : {A : Type 0} (q a : ℕ) (os : List ℤ) (m : Workspace) (b : ℕ) (f : A → List ℤ) (g : A → Workspace) (o p : Result A Cause) → o ≡ p
      → Comes q a os m b f g o → Comes q a os m b f g p
  same_comes q a os m b f g o p e l = subst (λ x. Comes q a os m b f g x) e l

  -- fewer counters are kept
  pub fewer_kept : {A : Type 0} (q r a : ℕ) (os : List ℤ) (m : Workspace) (b : ℕ) (f : A → List ℤ) (g : A → Workspace) (o : Result A Cause) → q ≤ r
      → Comes r a os m b f g o → Comes q a os m b f g o
  fewer_kept q r a os m b f g (Ok x) h l = (l.0, kept_fewer q r m.counters l.0 h l.1, l.2)
  fewer_kept q r a os m b f g (Err cause) h l = l
