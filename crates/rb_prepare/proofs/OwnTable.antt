-- A table without the entries that are not of the process of their address: it is one of the code as well.
use Rattle.std.proofs.Common.{◌≡◌, ◌⊎◌, inl, inr, ℕ, ◌+◌, ◌-◌, ◌<◌, ◌≤◌, nat_eq, Bool, true, false, cond, List, length, slice_get, unwrap_or, Option, Some, None, refl, ap, sym, ◌∙◌, subst, arith}
use Rattle.std.proofs.lemmas.Bool.{eq-eqb, eqb-true}
use Rattle.std.proofs.lemmas.Option.{slice_get_within}
use Rattle.rb_syntax.specs.Tree.{ProcessDeclaration, Tree}
use Rattle.rb_world.proofs.ListFacts.{none_some, slice_get-there, some_same}
use Rattle.rb_meaning.specs.Groups.{groups_of}
use Rattle.rb_code.specs.Instructions.Plain.{Code, Part}
use Rattle.rb_code.specs.WordMachine.Workspace.{no_part, part_of}
use Rattle.rb_code.specs.SoundCode.Sound.{BeginsAs, Each, Entry, FineAt, HasTable, IsProcedureAt, IsSoundAt, MainBegins, Table, alternates_at}
use Rattle.rb_code.specs.declared.instr.Instr.{Instr}
use Rattle.rb_code.specs.declared.instr.Instr.TheVariants.{Jump, JumpZero, Call, Return, Start, Done, Range, Again, Absent}
use Rattle.rb_prepare.proofs.Walking.Laid.{Inside, Right, each_weaker}
use Rattle.rb_prepare.proofs.Walking.Ways.{Follows, each_more, fine_same, ways, ways_known}
use Rattle.rb_prepare.proofs.Joining.Weights.{Weight}
use Rattle.rb_prepare.proofs.Walking.ProcessWalks.{Ends, IsRow}
use Rattle.rb_prepare.proofs.Walking.WholeWalk.{Place, Spread, begin_at, end_at, found_at, owner, place_of, spread_long}

-- an entry of process n
abbrev pub of_process : ℕ → Option Entry → Option Entry
of_process n None = None
of_process n (Some e) = cond (nat_eq e.within.process n) (Some e) None

-- the entries of the process of their address
abbrev pub own_table : List ℕ → Table → Table
own_table ends t x = of_process (owner 0 ends x) (t x)

own_entry : (n : ℕ) (o : Option Entry) (e : Entry) → of_process n o ≡ Some e → (o ≡ Some e) × (e.within.process ≡ n)
own_entry n None e h = absurd (none_some h)
own_entry n (Some g) e h = by (nat_eq g.within.process n) refl h
  where
    by : (b : Bool) → nat_eq g.within.process n ≡ b → cond b (Some g) None ≡ Some e → (Some g ≡ Some e) × (e.within.process ≡ n)
    by true f h = (h, subst (λ (x : Entry). x.within.process ≡ n) (some_same h) (eqb-true g.within.process n f))
    by false f h = absurd (none_some h)

kept_entry : (n : ℕ) (o : Option Entry) (e : Entry) → o ≡ Some e → e.within.process ≡ n → of_process n o ≡ Some e
kept_entry n None e h is = absurd (none_some h)
kept_entry n (Some g) e h is =
    let same : g ≡ e = some_same h in
    ap (λ b. cond b (Some g) None) (eq-eqb g.within.process n (ap (λ (x : Entry). x.within.process) same ∙ is)) ∙ h

module _ (c : Code) (tree : Tree) (process low high : ℕ) where
  -- an instruction of a process leads to addresses of the process
  abbrev IsThere : ℕ → Type 0
  IsThere x = (low ≤ x) × (x < high)

  target : (x : ℕ) → low < high → Inside low (high - 1) x → IsThere x
  target x some h = (h.0, let k = h.1 in omega arith)

  next : (a : ℕ) (instr : Instr) → low ≤ a → (Ends instr → ⊥) → Ends instr ⊎ (a + 1 < high) → IsThere (a + 1)
  next a instr up goes (inl e) = absurd (goes e)
  next a instr up goes (inr h) = (omega (arith, up), h)

  ways_inside : (a : ℕ) (instr : Instr) → low ≤ a → low < high → Right c tree process low (high - 1) a instr → Ends instr ⊎ (a + 1 < high)
      → Each (ways c instr a) IsThere
  ways_inside a (Jump to) up some right ends = (target to some right, tt)
  ways_inside a (JumpZero to) up some right ends = (target to some right, (next a (JumpZero to) up (λ e. e) ends, tt))
  ways_inside a (Absent channel to) up some right ends = (target to some right.1, (next a (Absent channel to) up (λ e. e) ends, tt))
  ways_inside a (Range k to) up some right ends = (target to some right.1, (next a (Range k to) up (λ e. e) ends, tt))
  ways_inside a (Again k to) up some right ends = (target to some (let up = right.1.0 in omega arith, right.1.1), (next a (Again k to) up (λ e. e) ends, tt))
  ways_inside a (Start number) up some (block, at, lies) ends =
      subst (λ o. Each (alternates_at o) IsThere) (sym at)
      (each_weaker (Inside low (high - 1)) IsThere (λ x h. target x some h) block.alternates lies.alternates)
  ways_inside a Return up some right ends = tt
  ways_inside a Done up some right ends = tt
  ways_inside a other up some right ends = (next a other up (λ e. e) ends, tt)

module _ (c : Code) (tree : Tree) (f : Instr → Bool) (w : Weight) (ends : List ℕ)
    (spread : Spread c tree f w 0 tree.processes c.processes ends 0 (length c.instrs)) where
  -- the process of an address
  pub place_at : (x : ℕ) → x < length c.instrs → (n : ℕ) × (process : ProcessDeclaration)
      × (place : Place c tree f w c.processes ends 0 n n process 0 (length c.instrs)) × (begin_at 0 ends n ≤ x) × (x < end_at 0 ends n)
  place_at x below =
      let found = found_at c tree f w 0 tree.processes c.processes ends 0 (length c.instrs) spread x (omega arith) below in (
        found.index,
        found.process,
        place_of c tree f w 0 tree.processes c.processes ends 0
            (length c.instrs) spread found.index found.index found.process (omega arith) found.there,
        found.low,
        found.high,
      )

  module _ (t : Table) (has : HasTable c (groups_of tree) t) where
    abbrev own : Table
    own = own_table ends t

    begins_so : (n words : ℕ) (b : ℕ) → owner 0 ends b ≡ n → BeginsAs (t b) n b words → BeginsAs (own b) n b words
    begins_so n words b is h = by (t b) refl h
      where
        by : (o : Option Entry) → t b ≡ o → BeginsAs o n b words → BeginsAs (own b) n b words
        by None at h = absurd h
        by (Some g) at h =
            subst (λ o. BeginsAs o n b words) (sym (kept_entry (owner 0 ends b) (t b) g at (ap (λ (x : Entry). x.within.process) h ∙ sym is))) h

    module _ (a : ℕ) (e : Entry) (at : t a ≡ Some e) (of : e.within.process ≡ owner 0 ends a) (n : ℕ) (process : ProcessDeclaration)
        (place : Place c tree f w c.processes ends 0 n n process 0 (length c.instrs)) (low : begin_at 0 ends n ≤ a)
        (high : a < end_at 0 ends n) where
      abbrev first : ℕ
      first = begin_at 0 ends n

      abbrev last : ℕ
      last = end_at 0 ends n

      is_own : e.within.process ≡ n
      is_own = of ∙ place.owned a low high

      row : IsRow c tree n f first last a
      row = place.rows.rows.each a low high

      same : (x : ℕ) → Follows c (groups_of tree) t e.within e.loops x → IsThere c tree n first last x → t x ≡ own x
      same x follows (up, below) =
          follows.there
          ∙ sym (kept_entry (owner 0 ends x) (t x) follows.entry follows.there (ap (λ v. v.process) follows.within_is ∙ is_own ∙ sym (place.owned x up below)))

      called : (b p m : ℕ) → row.0 ≡ Call b p m → BeginsAs (t b) e.within.process b (p + m) → BeginsAs (own b) e.within.process b (p + m)
      called b p m is h =
          let call : IsProcedureAt (part_of c n).procedures b = subst (Right c tree n first (last - 1) a) is row.2 in
          let there = place.rows.inside b (subst (λ o. IsProcedureAt (unwrap_or o no_part).procedures b) place.listed call) in
          begins_so e.within.process (p + m) b (place.owned b there.0 there.1 ∙ sym is_own) h

      fine : FineAt c (groups_of tree) t (slice_get c.instrs a) a e → FineAt c (groups_of tree) own (slice_get c.instrs a) a e
      fine h =
          let here : FineAt c (groups_of tree) t (Some row.0) a e = subst (λ o. FineAt c (groups_of tree) t o a e) row.1 h in
          subst (λ o. FineAt c (groups_of tree) own o a e) (sym row.1)
          (fine_same c (groups_of tree) t own a e row.0
          (each_more (ways c row.0 a) (Follows c (groups_of tree) t e.within e.loops) (IsThere c tree n first last) (λ x. t x ≡ own x) same
          (ways_known c (groups_of tree) t a e row.0 here) (ways_inside c tree n first last a row.0 low (omega (arith, low, high)) row.2 row.3))
          called here)

    fine_there : (a : ℕ) (e : Entry) (o : Option Instr) → slice_get c.instrs a ≡ o → FineAt c (groups_of tree) t o a e → a < length c.instrs
    fine_there a e None is h = absurd h
    fine_there a e (Some instr) is h = slice_get_within c.instrs a instr is

    own_sound : (a : ℕ) (e : Entry) → own a ≡ Some e → IsSoundAt c (groups_of tree) own a e
    own_sound a e is =
        let known = own_entry (owner 0 ends a) (t a) e is in
        let sound = has.each a e known.0 in
        let found = place_at a (fine_there a e (slice_get c.instrs a) refl sound.fine) in
        record {
          fine = fine a e known.0 known.1 found.0 found.1 found.2 found.3 found.4 sound.fine;
          above = sound.above;
          around = sound.around;
        }

    -- process number p begins where its place does
    own_begins : (p : ℕ) (part : Part) → slice_get c.processes p ≡ Some part → MainBegins c (groups_of tree) own p part
    own_begins p part at =
        let long = spread_long c tree f w 0 tree.processes c.processes ends 0 (length c.instrs) spread in
        let within = slice_get_within c.processes p part at in
        let process = slice_get-there tree.processes p (omega arith) in
        let place = place_of c tree f w 0 tree.processes c.processes ends 0 (length c.instrs) spread p p process.0 (omega arith) process.1 in
        let same : place.part ≡ part = some_same (sym place.listed ∙ at) in
        let start : part.start ≡ begin_at 0 ends p = ap (λ (q : Part). q.start) (sym same) ∙ place.rows.start in
        let up = place.rows.upward in let below = place.rows.below in
        kept_entry (owner 0 ends part.start) (t part.start) _ (has.mains p part at)
        (sym (ap (owner 0 ends) start ∙ place.owned (begin_at 0 ends p) (omega arith) (omega arith)))

    pub own_has : HasTable c (groups_of tree) own
    own_has = record { mains = own_begins; each = own_sound }

    -- an entry of it is of the process of its address
    pub own_process : (a : ℕ) (e : Entry) → own a ≡ Some e → e.within.process ≡ owner 0 ends a
    own_process a e is = (own_entry (owner 0 ends a) (t a) e is).1
