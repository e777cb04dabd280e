-- Code from one address up to another for which a table is known: the table's entries there are sound wherever a whole table agrees with
-- them and has what is around.
use Rattle.std.proofs.Common.{◌≡◌, ℕ, ◌<◌, ◌≤◌, nat_eq, nat_lt, Bool, true, false, cond, List, [], ◌∷◌, filter, Option, Some, None, refl, ap, sym, ◌∙◌, subst, arith}
use Rattle.std.proofs.lemmas.Bool.{eq-eqb, le-ltb, lt-ltb, ltb-false, ltb-true}
use Rattle.rb_world.specs.Kind.{Membership}
use Rattle.rb_world.proofs.ListFacts.{some_same}
use Rattle.rb_code.specs.Instructions.Plain.{Code}
use Rattle.rb_code.specs.SoundCode.Sound.{Mode, Fresh, MayPut, MayTake, Begun, Free, Changed, Entry, Fine, FineAt}
use Rattle.rb_code.specs.SoundCode.Sound.{Has, IsAbove, IsSoundAt, IsWeaker, LeadsTo, Loop, Table, WeakerMode, WeakerOperands, at_address, is_in}
use Rattle.rb_code.specs.Agreement.Template.{One}
use Rattle.rb_code.specs.declared.instr.Instr.{Instr}

-- two tables have the same entries from one address up to another
abbrev pub AgreeBetween : ℕ → ℕ → Table → Table → Type 0
AgreeBetween a b t u = (x : ℕ) → a ≤ x → x < b → t x ≡ u x

-- What is known of a whole table outside: where what follows goes on, and where jumps out of it lead.
abbrev pub Around : Type 1
Around = Table → Type 0

-- From a up to b a table is known, which begins with this entry; what it asks of the whole table is `around`.
pub record Tabled (c : Code) (groups : List Membership) (around : Around) (a b : ℕ) (e : Entry) : Type 0 where
  pub forward : a ≤ b
  pub table : Table
  pub begins : (t : Table) → AgreeBetween a b t table → around t → LeadsTo c groups t a e
  pub sound : (t : Table) → AgreeBetween a b t table → around t → (x : ℕ) (g : Entry) → a ≤ x → x < b → t x ≡ Some g → IsSoundAt c groups t x g

-- The same of code with an instruction at least: its first entry is there, whatever is around.
pub record TabledFirst (c : Code) (groups : List Membership) (around : Around) (a b : ℕ) (e : Entry) : Type 0 where
  pub whole : Tabled c groups around a b e
  pub further : a < b
  pub at_once : (t : Table) → AgreeBetween a b t whole.table → LeadsTo c groups t a e

-- an entry is no weaker than itself
weaker_operands_same : (os : List (Option ℕ)) → WeakerOperands os os
weaker_operands_same [] = tt
weaker_operands_same (None ∷ os) = (tt, weaker_operands_same os)
weaker_operands_same (Some n ∷ os) = (refl, weaker_operands_same os)

weaker_mode_same : (mode : Mode) → WeakerMode mode mode
weaker_mode_same Changed = tt
weaker_mode_same Fresh = refl
weaker_mode_same (MayPut channel) = refl
weaker_mode_same (MayTake channel) = refl
weaker_mode_same Begun = refl
weaker_mode_same Free = refl

pub weaker_same : (e : Entry) → IsWeaker e e
weaker_same e = record {
  within = refl;
  operands = weaker_operands_same e.operands;
  words = refl;
  blocks = refl;
  loops = refl;
  pieces = refl;
  mode = weaker_mode_same e.mode;
}

-- the loops of an entry lie around an address
abbrev pub LieAround : ℕ → List Loop → Type 0
LieAround a loops = filter (is_in a) loops ≡ loops

-- where the table has an entry whose loops lie around the address, the address has it
pub leads_there : (c : Code) (groups : List Membership) (t : Table) (a : ℕ) (e : Entry) → LieAround a e.loops → t a ≡ Some e
    → LeadsTo c groups t a e
leads_there c groups t a e lies is =
    subst (λ o. Has o (at_address a e)) (sym is)
    (subst (λ loops. IsWeaker (record e { loops = loops }) e) (sym lies) (weaker_same e))

module _ (c : Code) (groups : List Membership) (R : Around) where
  -- one instruction
  pub one_tabled : (instr : Instr) (a b : ℕ) (e : Entry) → One instr c a b → LieAround a e.loops → IsAbove e.blocks e.words
      → ((t : Table) → R t → Fine c groups t instr a e) → TabledFirst c groups R a b e
  one_tabled instr a b e one lies above fine = record {
    whole = record {
      forward = let n = one.1 in omega arith;
      table = table;
      begins = λ t same r. leads_there c groups t a e lies (there t same);
      sound = λ t same r x g low high is.
          let at : x ≡ a = (let n = one.1 in omega arith) in
          let this : e ≡ g = some_same (sym (there t same) ∙ ap t (sym at) ∙ is) in
          subst (IsSoundAt c groups t x) this (subst (λ y. IsSoundAt c groups t y e) (sym at) (here t r));
    };
    further = let n = one.1 in omega arith;
    at_once = λ t same. leads_there c groups t a e lies (there t same);
  }
    where
      table : Table
      table x = cond (nat_eq x a) (Some e) None

      there : (t : Table) → AgreeBetween a b t table → t a ≡ Some e
      there t same = same a (omega arith) (let n = one.1 in omega arith) ∙ ap (λ p. cond p (Some e) None) (eq-eqb a a refl)

      here : (t : Table) → R t → IsSoundAt c groups t a e
      here t r = record {
        fine = subst (λ o. FineAt c groups t o a e) (sym one.0) (fine t r);
        above = above;
        around = lies;
      }

  -- no instruction
  pub none_tabled : (a b : ℕ) (e : Entry) → b ≡ a → ((t : Table) → R t → LeadsTo c groups t b e) → Tabled c groups R a b e
  none_tabled a b e is leads = record {
    forward = omega arith;
    table = λ x. None;
    begins = λ t same r. subst (λ x. LeadsTo c groups t x e) is (leads t r);
    sound = λ t same r x g low high at. absurd (omega arith);
  }

  -- one part after another, which begins with the entry to which the first leads
  module _ (a m b : ℕ) (first second : Table) (low : a ≤ m) (high : m ≤ b) (t : Table)
      (same : AgreeBetween a b t (λ x. cond (nat_lt x m) (first x) (second x))) where
    agree_first : AgreeBetween a m t first
    agree_first x p q = same x p (omega arith) ∙ ap (λ z. cond z (first x) (second x)) (lt-ltb x m q)

    agree_second : AgreeBetween m b t second
    agree_second x p q = same x (omega arith) q ∙ ap (λ z. cond z (first x) (second x)) (le-ltb x m p)

  pub joined_tabled : (a m b : ℕ) (e f : Entry) → Tabled c groups (λ t. LeadsTo c groups t m f × R t) a m e → Tabled c groups R m b f
      → Tabled c groups R a b e
  joined_tabled a m b e f p q = record {
    forward = let x = p.forward in let y = q.forward in omega arith;
    table = λ x. cond (nat_lt x m) (p.table x) (q.table x);
    begins = λ t same r. p.begins t (first t same) (on t same r, r);
    sound = λ t same r x g low high is. by t same r x g low high is (nat_lt x m) refl;
  }
    where
      first : (t : Table) → AgreeBetween a b t (λ x. cond (nat_lt x m) (p.table x) (q.table x)) → AgreeBetween a m t p.table
      first t same = agree_first a m b p.table q.table p.forward q.forward t same

      second : (t : Table) → AgreeBetween a b t (λ x. cond (nat_lt x m) (p.table x) (q.table x)) → AgreeBetween m b t q.table
      second t same = agree_second a m b p.table q.table p.forward q.forward t same

      on : (t : Table) → AgreeBetween a b t (λ x. cond (nat_lt x m) (p.table x) (q.table x)) → R t → LeadsTo c groups t m f
      on t same r = q.begins t (second t same) r

      by : (t : Table) → AgreeBetween a b t (λ x. cond (nat_lt x m) (p.table x) (q.table x)) → R t → (x : ℕ) (g : Entry) → a ≤ x → x < b
          → t x ≡ Some g → (s : Bool) → nat_lt x m ≡ s → IsSoundAt c groups t x g
      by t same r x g low high is true e = p.sound t (first t same) (on t same r, r) x g low (ltb-true x m e) is
      by t same r x g low high is false e = q.sound t (second t same) r x g (ltb-false x m e) high is

  pub joined_first : (a m b : ℕ) (e f : Entry) → TabledFirst c groups (λ t. LeadsTo c groups t m f × R t) a m e → Tabled c groups R m b f
      → TabledFirst c groups R a b e
  unfolding joined_tabled
  joined_first a m b e f p q = record {
    whole = joined_tabled a m b e f p.whole q;
    further = let x = p.further in let y = q.forward in omega arith;
    at_once = λ t same. p.at_once t (agree_first a m b p.whole.table q.table p.whole.forward q.forward t same);
  }

  -- code that jumps back to its first address
  pub again_first : (a b : ℕ) (e : Entry) → TabledFirst c groups (λ t. LeadsTo c groups t a e × R t) a b e → TabledFirst c groups R a b e
  again_first a b e p = record {
    whole = record {
      forward = p.whole.forward;
      table = p.whole.table;
      begins = λ t same r. p.at_once t same;
      sound = λ t same r x g low high is. p.whole.sound t same (p.at_once t same, r) x g low high is;
    };
    further = p.further;
    at_once = p.at_once;
  }

-- code for which less around is enough
module _ (c : Code) (groups : List Membership) (R S : Around) (less : (t : Table) → S t → R t) where
  pub around_more : (a b : ℕ) (e : Entry) → Tabled c groups R a b e → Tabled c groups S a b e
  around_more a b e p = record {
    forward = p.forward;
    table = p.table;
    begins = λ t same s. p.begins t same (less t s);
    sound = λ t same s x g low high is. p.sound t same (less t s) x g low high is;
  }
