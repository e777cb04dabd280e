-- A stretch of code for which a table is known, with what it asks of the whole table and what it tells of it. Stretches are put together
-- from the last to the first: what a jump ahead needs is told by the stretches behind it.
use Rattle.std.proofs.Common.{◌≡◌, ℕ, ◌<◌, ◌≤◌, nat_lt, cond, Bool, true, false, List, filter, Option, Some, None, refl, ap, sym, ◌∙◌, subst, arith}
use Rattle.rb_world.specs.Kind.{Membership}
use Rattle.rb_code.specs.Instructions.Plain.{Code}
use Rattle.rb_code.specs.SoundCode.Sound.{Entry, Fine, FineAt, IsAbove, IsSoundAt, LeadsTo, Table, is_in}
use Rattle.rb_code.specs.Agreement.Template.{One}
use Rattle.rb_code.specs.declared.instr.Instr.{Instr}
use Rattle.rb_code.proofs.Tables.Tabled.{AgreeBetween, Around, TabledFirst, leads_there}

-- one table up to an address, and another from there on
abbrev pub cut_at : ℕ → Table → Table → Table
cut_at m before behind x = cond (nat_lt x m) (before x) (behind x)

pub cut_before : (x m : ℕ) (before behind : Table) → x < m → cut_at m before behind x ≡ before x
cut_before x m before behind h = by (nat_lt x m) refl
  where
    by : (b : Bool) → nat_lt x m ≡ b → cond b (before x) (behind x) ≡ before x
    by true e = refl
    by false e = absurd (grind arith)

pub cut_behind : (x m : ℕ) (before behind : Table) → m ≤ x → cut_at m before behind x ≡ behind x
cut_behind x m before behind h = by (nat_lt x m) refl
  where
    by : (b : Bool) → nat_lt x m ≡ b → cond b (before x) (behind x) ≡ behind x
    by true e = absurd (grind arith)
    by false e = refl

agree_before : (a m b : ℕ) (t before behind : Table) → m ≤ b → AgreeBetween a b t (cut_at m before behind) → AgreeBetween a m t before
agree_before a m b t before behind h agree x low high =
    let there : x < b = omega arith in
    agree x low there ∙ cut_before x m before behind high

agree_behind : (a m b : ℕ) (t before behind : Table) → a ≤ m → AgreeBetween a b t (cut_at m before behind) → AgreeBetween m b t behind
agree_behind a m b t before behind h agree x low high =
    let there : a ≤ x = omega arith in
    agree x there high ∙ cut_behind x m before behind low

module _ (c : Code) (groups : List Membership) (P : Around) where
  -- From a up to b a table is known. It asks something of the whole table outside, and tells something of it; that it is sound may ask
  -- more of the table, wherever that is, which is P.
  pub record Stretch (asks tells : Around) (a b : ℕ) : Type 0 where
    pub ordered : a ≤ b
    pub table : Table
    pub told : (t : Table) → AgreeBetween a b t table → asks t → tells t
    pub sound : (t : Table) → AgreeBetween a b t table → P t → asks t → (x : ℕ) (g : Entry) → a ≤ x → x < b → t x ≡ Some g → IsSoundAt c groups t x g

  -- of code with an instruction at least, for which a table is known otherwise
  pub stretch_of : (asks around : Around) (a b : ℕ) (e : Entry) → TabledFirst c groups around a b e → ((t : Table) → P t → asks t → around t)
      → Stretch asks (λ t. LeadsTo c groups t a e) a b
  stretch_of asks around a b e known enough = record {
    ordered = known.whole.forward;
    table = known.whole.table;
    told = λ t agree asked. known.at_once t agree;
    sound = λ t agree all asked. known.whole.sound t agree (enough t all asked);
  }

  -- no instruction
  pub no_stretch : (asks : Around) (a : ℕ) → Stretch asks asks a a
  no_stretch asks a = record {
    ordered = omega arith;
    table = λ x. None;
    told = λ t agree asked. asked;
    sound = λ t agree all asked x g low high there. absurd (grind arith);
  }

  -- more asked, and less told
  pub told_less : (asks more tells less : Around) (a b : ℕ) → Stretch asks tells a b → ((t : Table) → more t → asks t)
      → ((t : Table) → tells t → more t → less t) → Stretch more less a b
  told_less asks more tells less a b known enough fewer = record {
    ordered = known.ordered;
    table = known.table;
    told = λ t agree asked. fewer t (known.told t agree (enough t asked)) asked;
    sound = λ t agree all asked. known.sound t agree all (enough t asked);
  }

  -- one stretch after another, which tells it what it asks
  pub in_order : (asks before tells behind : Around) (a m b : ℕ) → Stretch before tells a m → Stretch asks behind m b
      → ((t : Table) → behind t → asks t → before t) → Stretch asks (λ t. tells t × behind t) a b
  in_order asks before tells behind a m b first rest enough = record {
    ordered = up;
    table = whole;
    told = λ t agree asked. (first.told t (left t agree) (given t agree asked), rest.told t (right t agree) asked);
    sound = λ t agree all asked x g low high there. by t agree all asked x g low high there (nat_lt x m) refl;
  }
    where
      up : a ≤ b
      up = omega (arith, first.ordered, rest.ordered)

      whole : Table
      whole = cut_at m first.table rest.table

      left : (t : Table) → AgreeBetween a b t whole → AgreeBetween a m t first.table
      left t agree = agree_before a m b t first.table rest.table rest.ordered agree

      right : (t : Table) → AgreeBetween a b t whole → AgreeBetween m b t rest.table
      right t agree = agree_behind a m b t first.table rest.table first.ordered agree

      given : (t : Table) → AgreeBetween a b t whole → asks t → before t
      given t agree asked = enough t (rest.told t (right t agree) asked) asked

      by : (t : Table) → AgreeBetween a b t whole → P t → asks t → (x : ℕ) (g : Entry) → a ≤ x → x < b → t x ≡ Some g
          → (test : Bool) → nat_lt x m ≡ test
          → IsSoundAt c groups t x g
      by t agree all asked x g low high there true e =
          let here : x < m = grind arith in
          first.sound t (left t agree) all (given t agree asked) x g low here there
      by t agree all asked x g low high there false e =
          let here : m ≤ x = grind arith in
          rest.sound t (right t agree) all asked x g here high there

  same_entry : (o : Option Entry) (e g : Entry) → o ≡ Some e → o ≡ Some g → e ≡ g
  same_entry o e g h i = cc

  -- One instruction and what follows it. Where it begins is known to both, so that a jump may lead back there.
  pub begins_with : (asks behind asked_there : Around) (instr : Instr) (a m b : ℕ) (e : Entry) → One instr c a m
      → filter (is_in a) e.loops ≡ e.loops → IsAbove e.blocks e.words → Stretch asked_there behind m b
      → ((t : Table) → LeadsTo c groups t a e → asks t → asked_there t)
      → ((t : Table) → P t → LeadsTo c groups t a e → behind t → asks t → Fine c groups t instr a e)
      → Stretch asks (λ t. LeadsTo c groups t a e × behind t) a b
  begins_with asks behind asked_there instr a m b e (there, next) around above rest enough fine = record {
    ordered = up;
    table = whole;
    told = λ t agree asked. (here t agree, rest.told t (right t agree) (enough t (here t agree) asked));
    sound = λ t agree all asked x g low high is. by t agree all asked x g low high is (nat_lt x m) refl;
  }
    where
      up : a ≤ b
      up = omega (arith, next, rest.ordered)

      upward : a ≤ m
      upward = omega (arith, next)

      whole : Table
      whole = cut_at m (λ x. Some e) rest.table

      right : (t : Table) → AgreeBetween a b t whole → AgreeBetween m b t rest.table
      right t agree = agree_behind a m b t (λ x. Some e) rest.table upward agree

      entry : (t : Table) → AgreeBetween a b t whole → t a ≡ Some e
      entry t agree =
          let low : a ≤ a = omega arith in
          let high : a < m = omega (arith, next) in
          agree_before a m b t (λ x. Some e) rest.table rest.ordered agree a low high

      here : (t : Table) → AgreeBetween a b t whole → LeadsTo c groups t a e
      here t agree = leads_there c groups t a e around (entry t agree)

      own : (t : Table) → AgreeBetween a b t whole → P t → asks t → IsSoundAt c groups t a e
      own t agree all asked = record {
        fine = subst (λ o. FineAt c groups t o a e) (sym there)
            (fine t all (here t agree) (rest.told t (right t agree) (enough t (here t agree) asked)) asked);
        above = above;
        around = around;
      }

      by : (t : Table) → AgreeBetween a b t whole → P t → asks t → (x : ℕ) (g : Entry) → a ≤ x → x < b → t x ≡ Some g
          → (test : Bool) → nat_lt x m ≡ test
          → IsSoundAt c groups t x g
      by t agree all asked x g low high is true h =
          let same : a ≡ x = grind (arith, next) in
          subst (λ y. IsSoundAt c groups t y g) same
          (subst (IsSoundAt c groups t a) (same_entry (t a) e g (entry t agree) (ap t same ∙ is)) (own t agree all asked))
      by t agree all asked x g low high is false h =
          let behind_it : m ≤ x = grind arith in
          rest.sound t (right t agree) all (enough t (here t agree) asked) x g behind_it high is
