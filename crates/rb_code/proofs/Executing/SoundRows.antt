-- The worked codes: tables of those that are sound, and why the others have none.
use Rattle.std.proofs.Common.{◌≡◌, ◌⊎◌, inl, inr, ℕ, zero, suc, ◌+◌, ◌<◌, Bool, true, false, List, [], ◌∷◌, filter, length, slice_get, Option, Some, None, refl, ap, sym, ◌∙◌, subst, arith, lit<, lit≤}
use Rattle.std.specs.List.{IsDistinct}
use Rattle.rb_world.proofs.ListFacts.{none_some, some_same}
use Rattle.rb_code.specs.Instructions.Plain.{Block, Code, Part}
use Rattle.rb_code.specs.SoundCode.Reached.{Reached, begins, leads, successors}
use Rattle.rb_code.specs.SoundCode.Sound.{Mode, Fresh, MayTake, Begun, Free, Changed, BeginsAs, Entry, Has, IsMember, IsOpen, IsSoundAt, IsWeaker, Loop, OpenBlock, Table, TopIs, Within, end_of_loop, is_in}
use Rattle.rb_code.specs.SoundCode.SoundRows.{IsTabled, IsUntabled, MiscountedAlternates, OneNameForTwo, ReservedNames, ThirdCounter, alternate_before_its_start, joined_code, jump_between_procedures, jump_into_a_loop, jump_over_an_entry, message_behind_fail, small_loop, two_ways_back}
use Rattle.rb_code.specs.SoundCode.WellFormed.{Joins, LoopsStayOpen}
use Rattle.rb_code.specs.declared.instr.Instr.{Instr}
use Rattle.rb_code.specs.declared.instr.Instr.TheVariants.{Turn, Jump, Done, Range}
use Rattle.rb_code.proofs.Tables.Tabled.{weaker_same}

-- a table by the list of its entries, from address 0 on
abbrev or_none : Option (Option Entry) → Option Entry
or_none None = None
or_none (Some o) = o

abbrev pub table_of : List (Option Entry) → Table
table_of es x = or_none (slice_get es x)

-- each entry keeps this, at its address
abbrev pub AllFrom : (ℕ → Entry → Type 0) → ℕ → List (Option Entry) → Type 0
AllFrom P a [] = Unit {0}
AllFrom P a (None ∷ es) = AllFrom P (a + 1) es
AllFrom P a (Some e ∷ es) = P a e × AllFrom P (a + 1) es

all_from : (P : ℕ → Entry → Type 0) (es : List (Option Entry)) (a k : ℕ) (e : Entry) → AllFrom P a es → or_none (slice_get es k) ≡ Some e → P (a + k) e
all_from P [] a k e all at = absurd (none_some at)
all_from P (None ∷ es) a zero e all at = absurd (none_some at)
all_from P (None ∷ es) a (suc k) e all at = subst (λ n. P n e) (omega arith) (all_from P es (a + 1) k e all at)
all_from P (Some g ∷ es) a zero e all at = subst (λ n. P n e) (omega arith) (subst (P a) (some_same at) all.0)
all_from P (Some g ∷ es) a (suc k) e all at = subst (λ n. P n e) (omega arith) (all_from P es (a + 1) k e all.1 at)

pub all_at : (P : ℕ → Entry → Type 0) (es : List (Option Entry)) → AllFrom P 0 es → (x : ℕ) (e : Entry) → table_of es x ≡ Some e → P x e
all_at P es all x e at = subst (λ n. P n e) (omega arith) (all_from P es 0 x e all at)

-- an entry of the main body of process 0
abbrev pub main_entry : List (Option ℕ) → List OpenBlock → List Loop → Mode → Entry
main_entry operands blocks loops mode = record {
  within = record { process = 0; procedure = None };
  operands = operands;
  words = 0;
  blocks = blocks;
  loops = loops;
  pieces = 0;
  mode = mode;
}

abbrev pub main_begin : ℕ → Entry
main_begin p = record (main_entry [] [] [] Changed) { within = record { process = p; procedure = None } }

-- code without a `range`
abbrev pub begins_loop : Instr → Bool
begins_loop (Range k b) = true
begins_loop _ = false

abbrev none_begins : List Instr → Type 0
none_begins [] = Unit {0}
none_begins (instr ∷ instrs) = (begins_loop instr ≡ false) × none_begins instrs

no_loop : (instrs : List Instr) (a k b : ℕ) → none_begins instrs → slice_get instrs a ≡ Some (Range k b) → ⊥
no_loop [] a k b none at = none_some at
no_loop (instr ∷ instrs) zero k b none at =
    let e : true ≡ false = sym (ap begins_loop (some_same at)) ∙ none.0 in cc
no_loop (instr ∷ instrs) (suc a) k b none at = no_loop instrs a k b none.1 at

loops_of_none : (c : Code) (t : Table) → none_begins c.instrs → LoopsStayOpen c t
loops_of_none c t none a k b last x e g at there end low high here = absurd (no_loop c.instrs a k b none at)

-- the entry to which something leads
led : (t : Table) (a : ℕ) (e : Entry) → Has (t a) e → (g : Entry) × (t a ≡ Some g) × IsWeaker e g
led t a e h = by (t a) refl h
  where
    by : (o : Option Entry) → t a ≡ o → Has o e → (g : Entry) × (t a ≡ Some g) × IsWeaker e g
    by None at has = absurd has
    by (Some g) at has = (g, at, has)

-- what follows whatever the top operand is
from_top : (X : Type 0) (os : List (Option ℕ)) (P : Option ℕ → List (Option ℕ) → Type 0) → ((o : Option ℕ) (ps : List (Option ℕ)) → P o ps → X)
    → TopIs os P → X
from_top X [] P h f = absurd f
from_top X (o ∷ os) P h f = h o os f

-- a loop that goes back once
abbrev the_loop : Loop
the_loop = record { counter = 0; first = 4; last = 4 }

abbrev loop_entries : List (Option Entry)
loop_entries =
    Some (main_entry [] [] [] Changed) ∷ Some (main_entry [] [] [] Fresh) ∷ Some (main_entry (None ∷ []) [] [] Free)
    ∷ Some (main_entry (None ∷ None ∷ []) [] [] Free) ∷ Some (main_entry [] [] (the_loop ∷ []) Free) ∷ Some (main_entry [] [] [] Free) ∷ []

loop_sound : AllFrom (IsSoundAt small_loop [] (table_of loop_entries)) 0 loop_entries
loop_sound = (
  record { fine = (refl, refl, refl, weaker_same _); above = tt; around = refl },
  (
    record { fine = (lit< tt, weaker_same _); above = tt; around = refl },
    (
      record { fine = (lit< tt, weaker_same _); above = tt; around = refl },
      (
        record { fine = (tt, lit< tt, (λ s. s), (inl (lit< tt), weaker_same _, weaker_same _)); above = tt; around = refl },
        (
          record { fine = (lit≤ tt, inl refl, weaker_same _, weaker_same _); above = tt; around = refl },
          (record { fine = (refl, refl, refl, refl); above = tt; around = refl }, tt),
        ),
      ),
    ),
  ),
)

loop_reached : AllFrom (λ a _. Reached small_loop a) 0 loop_entries
loop_reached =
    let r0 : Reached small_loop 0 = begins 0 _ refl refl in
    let r1 : Reached small_loop 1 = leads _ r0 refl (inl refl) in
    let r2 : Reached small_loop 2 = leads _ r1 refl (inl refl) in
    let r3 : Reached small_loop 3 = leads _ r2 refl (inl refl) in
    let r4 : Reached small_loop 4 = leads _ r3 refl (inr (inl refl)) in
    let r5 : Reached small_loop 5 = leads _ r3 refl (inl refl) in
    (r0, (r1, (r2, (r3, (r4, (r5, tt))))))

-- its only `range`
only_range : (a k b : ℕ) → slice_get small_loop.instrs a ≡ Some (Range k b) → (a ≡ 3) × (k ≡ 0)
only_range zero k b at = let e : true ≡ false = sym (ap begins_loop (some_same at)) in absurd (cc)
only_range (suc zero) k b at = let e : true ≡ false = sym (ap begins_loop (some_same at)) in absurd (cc)
only_range (suc (suc zero)) k b at = let e : true ≡ false = sym (ap begins_loop (some_same at)) in absurd (cc)
only_range (suc (suc (suc zero))) k b at = let e = some_same at in (refl, cc)
only_range (suc (suc (suc (suc zero)))) k b at = let e : true ≡ false = sym (ap begins_loop (some_same at)) in absurd (cc)
only_range (suc (suc (suc (suc (suc zero))))) k b at = let e : true ≡ false = sym (ap begins_loop (some_same at)) in absurd (cc)
only_range (suc (suc (suc (suc (suc (suc a)))))) k b at = absurd (none_some at)

loop_open : LoopsStayOpen small_loop (table_of loop_entries)
loop_open a k b last x e g at there end low high here = by (only_range a k b at)
  where
    at_end : last ≡ 4 → x ≡ 4 → IsOpen (record { counter = 0; first = 4; last = last }) g.loops
    at_end is same =
        let entry : main_entry [] [] (the_loop ∷ []) Free ≡ g = some_same (ap (table_of loop_entries) (sym same) ∙ here) in
        subst (λ l. IsOpen (record { counter = 0; first = 4; last = l }) g.loops) (sym is)
        (subst (λ (f : Entry). IsOpen the_loop f.loops) entry (inl refl))

    by : (a ≡ 3) × (k ≡ 0) → IsOpen (record { counter = k; first = a + 1; last = last }) g.loops
    by (is, zeroth) =
        let ends : Some 4 ≡ Some last = subst (λ n. end_of_loop small_loop 0 (n + 1) ≡ Some last) is
        (subst (λ j. end_of_loop small_loop j (a + 1) ≡ Some last) zeroth end) in
        let four : last ≡ 4 = sym (some_same ends) in
        subst (λ j. IsOpen (record { counter = j; first = a + 1; last = last }) g.loops) (sym zeroth)
        (subst (λ n. IsOpen (record { counter = 0; first = n + 1; last = last }) g.loops) (sym is) (at_end four (omega arith)))

pub small_loop_tabled : IsTabled small_loop
small_loop_tabled = record {
  table = table_of loop_entries;
  has = record {
    mains = begin;
    each = all_at (IsSoundAt small_loop [] (table_of loop_entries)) loop_entries loop_sound;
  };
  reached = all_at (λ a _. Reached small_loop a) loop_entries loop_reached;
  loops = loop_open;
}
  where
    begin : (p : ℕ) (part : Part) → slice_get small_loop.processes p ≡ Some part → table_of loop_entries part.start ≡ Some (main_begin p)
    begin zero part is = ap (λ (q : Part). table_of loop_entries q.start) (sym (some_same is))
    begin (suc p) part is = absurd (none_some is)

-- what stands behind a `fail` is as fresh as the `fail`
abbrev fail_entries : List (Option Entry)
fail_entries =
    Some (main_entry [] [] [] Changed) ∷ Some (main_entry [] [] [] Fresh) ∷ Some (main_entry [] [] [] Fresh)
    ∷ Some (main_entry [] [] [] (MayTake 0)) ∷ Some (main_entry (None ∷ []) [] [] Changed) ∷ Some (main_entry [] [] [] Changed) ∷ []

fail_sound : AllFrom (IsSoundAt message_behind_fail [] (table_of fail_entries)) 0 fail_entries
fail_sound = (
  record { fine = (refl, refl, refl, weaker_same _); above = tt; around = refl },
  (
    record { fine = (tt, weaker_same _); above = tt; around = refl },
    (
      record { fine = (refl, refl, refl, weaker_same _); above = tt; around = refl },
      (
        record { fine = (refl, lit< tt, weaker_same _); above = tt; around = refl },
        (
          record { fine = (lit≤ tt, weaker_same _); above = tt; around = refl },
          (record { fine = (refl, refl, refl, refl); above = tt; around = refl }, tt),
        ),
      ),
    ),
  ),
)

fail_reached : AllFrom (λ a _. Reached message_behind_fail a) 0 fail_entries
fail_reached =
    let r0 : Reached message_behind_fail 0 = begins 0 _ refl refl in
    let r1 : Reached message_behind_fail 1 = leads _ r0 refl (inl refl) in
    let r2 : Reached message_behind_fail 2 = leads _ r1 refl (inl refl) in
    let r3 : Reached message_behind_fail 3 = leads _ r2 refl (inl refl) in
    let r4 : Reached message_behind_fail 4 = leads _ r3 refl (inl refl) in
    let r5 : Reached message_behind_fail 5 = leads _ r4 refl (inl refl) in
    (r0, (r1, (r2, (r3, (r4, (r5, tt))))))

pub message_behind_fail_tabled : IsTabled message_behind_fail
message_behind_fail_tabled = record {
  table = table_of fail_entries;
  has = record {
    mains = begin;
    each = all_at (IsSoundAt message_behind_fail [] (table_of fail_entries)) fail_entries fail_sound;
  };
  reached = all_at (λ a _. Reached message_behind_fail a) fail_entries fail_reached;
  loops = loops_of_none message_behind_fail (table_of fail_entries) (refl, (refl, (refl, (refl, (refl, (refl, tt))))));
}
  where
    begin : (p : ℕ) (part : Part) → slice_get message_behind_fail.processes p ≡ Some part
        → table_of fail_entries part.start ≡ Some (main_begin p)
    begin zero part is = ap (λ (q : Part). table_of fail_entries q.start) (sym (some_same is))
    begin (suc p) part is = absurd (none_some is)

-- an alternate at address 0, and its `start` at 5
abbrev the_block : OpenBlock
the_block = record { number = 0; words = 0 }

abbrev alternate_entries : List (Option Entry)
alternate_entries =
    Some (main_entry [] (the_block ∷ []) [] Begun) ∷ Some (main_entry [] (the_block ∷ []) [] Changed)
    ∷ Some (main_entry [] [] [] Changed) ∷ Some (main_entry [] [] [] Fresh) ∷ Some (main_entry [] (the_block ∷ []) [] Changed)
    ∷ Some (main_entry [] (the_block ∷ []) [] Fresh) ∷ Some (main_entry [] (the_block ∷ []) [] Changed)
    ∷ Some (main_entry [] (the_block ∷ []) [] Fresh) ∷ Some (main_entry (None ∷ []) (the_block ∷ []) [] Free)
    ∷ Some (main_entry [] [] [] Changed) ∷ []

alternate_sound : AllFrom (IsSoundAt alternate_before_its_start [] (table_of alternate_entries)) 0 alternate_entries
alternate_sound = (
  record { fine = (tt, weaker_same _); above = lit≤ tt; around = refl },
  (
    record { fine = (inl (lit< tt), weaker_same _); above = lit≤ tt; around = refl },
    (
      record { fine = (refl, refl, refl, weaker_same _); above = tt; around = refl },
      (
        record { fine = (refl, refl, refl, refl, tt, weaker_same _); above = tt; around = refl },
        (
          record { fine = (refl, refl, refl, weaker_same _); above = lit≤ tt; around = refl },
          (
            record { fine = (refl, refl, (refl, refl), (weaker_same _, tt)); above = lit≤ tt; around = refl },
            (
              record { fine = (refl, refl, refl, weaker_same _); above = lit≤ tt; around = refl },
              (
                record { fine = (lit< tt, weaker_same _); above = lit≤ tt; around = refl },
                (
                  record { fine = (tt, refl, refl, (refl, (refl, refl, weaker_same _))); above = lit≤ tt; around = refl },
                  (record { fine = (refl, refl, refl, refl); above = tt; around = refl }, tt),
                ),
              ),
            ),
          ),
        ),
      ),
    ),
  ),
)

alternate_reached : AllFrom (λ a _. Reached alternate_before_its_start a) 0 alternate_entries
alternate_reached =
    let r2 : Reached alternate_before_its_start 2 = begins 0 _ refl refl in
    let r3 : Reached alternate_before_its_start 3 = leads _ r2 refl (inl refl) in
    let r4 : Reached alternate_before_its_start 4 = leads _ r3 refl (inl refl) in
    let r5 : Reached alternate_before_its_start 5 = leads _ r4 refl (inl refl) in
    let r0 : Reached alternate_before_its_start 0 = leads _ r5 refl (inl refl) in
    let r1 : Reached alternate_before_its_start 1 = leads _ r0 refl (inl refl) in
    let r6 : Reached alternate_before_its_start 6 = leads _ r1 refl (inl refl) in
    let r7 : Reached alternate_before_its_start 7 = leads _ r6 refl (inl refl) in
    let r8 : Reached alternate_before_its_start 8 = leads _ r7 refl (inl refl) in
    let r9 : Reached alternate_before_its_start 9 = leads _ r8 refl (inl refl) in
    (r0, (r1, (r2, (r3, (r4, (r5, (r6, (r7, (r8, (r9, tt))))))))))

pub alternate_before_its_start_tabled : IsTabled alternate_before_its_start
alternate_before_its_start_tabled = record {
  table = table_of alternate_entries;
  has = record {
    mains = begin;
    each = all_at (IsSoundAt alternate_before_its_start [] (table_of alternate_entries)) alternate_entries alternate_sound;
  };
  reached = all_at (λ a _. Reached alternate_before_its_start a) alternate_entries alternate_reached;
  loops =
      loops_of_none alternate_before_its_start (table_of alternate_entries)
      (refl, (refl, (refl, (refl, (refl, (refl, (refl, (refl, (refl, (refl, tt))))))))));
}
  where
    begin : (p : ℕ) (part : Part) → slice_get alternate_before_its_start.processes p ≡ Some part
        → table_of alternate_entries part.start ≡ Some (main_begin p)
    begin zero part is = ap (λ (q : Part). table_of alternate_entries q.start) (sym (some_same is))
    begin (suc p) part is = absurd (none_some is)

-- two ways back of one loop
pub two_ways_back_untabled : IsUntabled two_ways_back
two_ways_back_untabled tabled =
    let t = tabled.table in
    let has = tabled.has in
    let start = has.mains 0 _ refl in
    let one = led t 1 _ (has.each 0 _ start).fine.3 in
    let two = led t 2 _ (has.each 1 one.0 one.1).fine.1 in
    let three = led t 3 _ (has.each 2 two.0 two.1).fine.1 in
    let none1 : one.0.loops ≡ [] = one.2.loops in
    let none2 : two.0.loops ≡ [] = two.2.loops ∙ ap (filter (is_in 2)) none1 in
    let none3 : three.0.loops ≡ [] = three.2.loops ∙ ap (filter (is_in 3)) none2 in
    from_top ⊥ three.0.operands _
    (λ o os q. from_top ⊥ os _
    (λ p ps r.
    let four = led t 4 _ r.2 in
    let loops4 : four.0.loops ≡ the_loop ∷ [] = four.2.loops ∙ ap (λ ls. the_loop ∷ filter (is_in 4) ls) none3 in
    let five = led t 5 _ (has.each 4 four.0 four.1).fine.3 in
    let none5 : five.0.loops ≡ [] = five.2.loops ∙ ap (filter (is_in 5)) loops4 in
    subst (IsOpen (record { counter = 0; first = 4; last = 5 })) none5 (has.each 5 five.0 five.1).fine.1) q) (has.each 3 three.0 three.1).fine.3

-- a jump past a `range`
pub jump_into_a_loop_untabled : IsUntabled jump_into_a_loop
jump_into_a_loop_untabled tabled =
    let t = tabled.table in
    let has = tabled.has in
    let start = has.mains 0 _ refl in
    let one = led t 1 _ (has.each 0 _ start).fine.3 in
    let two = led t 2 _ (has.each 1 one.0 one.1).fine.1 in
    let none1 : one.0.loops ≡ [] = one.2.loops in
    let none2 : two.0.loops ≡ [] = two.2.loops ∙ ap (filter (is_in 2)) none1 in
    from_top ⊥ two.0.operands _
    (λ o os q.
    let seven = led t 7 _ q.1 in
    let none7 : seven.0.loops ≡ [] = seven.2.loops ∙ ap (filter (is_in 7)) none2 in
    let three = led t 3 _ q.2 in
    let four = led t 4 _ (has.each 3 three.0 three.1).fine.1 in
    let five = led t 5 _ (has.each 4 four.0 four.1).fine.1 in
    subst (IsOpen (record { counter = 0; first = 6; last = 8 })) none7
    (tabled.loops 5 0 9 8 7 five.0 seven.0 refl five.1 refl (lit< tt) (lit≤ tt) seven.1)) (has.each 2 two.0 two.1).fine

differ : (m n : ℕ) → n < m → ◌≡◌ {A = Option ℕ} (Some m) (Some n) → ⊥
differ m n low e = let same : m ≡ n = some_same e in absurd (omega arith)

-- a jump from one procedure into another
pub jump_between_procedures_untabled : IsUntabled jump_between_procedures
jump_between_procedures_untabled tabled =
    let t = tabled.table in
    let has = tabled.has in
    let start = has.mains 0 _ refl in
    let one = led t 1 _ (has.each 0 _ start).fine.3 in
    let two = led t 2 _ (has.each 1 one.0 one.1).fine.6 in
    let three = led t 3 _ (has.each 2 two.0 two.1).fine.3 in
    let five = begun t 5 one.0.within.process 0 (has.each 1 one.0 one.1).fine.5 in
    let seven = begun t 7 three.0.within.process 0 (has.each 3 three.0 three.1).fine.5 in
    let six = led t 6 _ (has.each 5 five.0 five.1).fine.3 in
    let on = led t 7 _ (has.each 6 six.0 six.1).fine.1 in
    let same : seven.0 ≡ on.0 = some_same (sym seven.1 ∙ on.1) in
    let is5 : six.0.within.procedure ≡ Some 5 = ap (λ (w : Within). w.procedure) six.2.within ∙ five.2 in
    let on5 : on.0.within.procedure ≡ Some 5 = ap (λ (w : Within). w.procedure) on.2.within ∙ is5 in
    differ 7 5 (lit< tt) (sym seven.2 ∙ ap (λ (e : Entry). e.within.procedure) same ∙ on5)
  where
    begun : (t : Table) (a p words : ℕ) → BeginsAs (t a) p a words → (g : Entry) × (t a ≡ Some g) × (g.within.procedure ≡ Some a)
    begun t a p words h = by (t a) refl h
      where
        by : (o : Option Entry) → t a ≡ o → BeginsAs o p a words → (g : Entry) × (t a ≡ Some g) × (g.within.procedure ≡ Some a)
        by None at is = absurd is
        by (Some g) at is = (g, at, ap (λ (e : Entry). e.within.procedure) is)

-- an address that is jumped over
abbrev IsNotOver : ℕ → Type 0
IsNotOver a = (a ≡ 0) ⊎ ((a ≡ 2) ⊎ (a ≡ 3))

not_over : (a : ℕ) → Reached jump_over_an_entry a → IsNotOver a
not_over a (begins zero part is at) = inl (sym at ∙ sym (ap (λ (q : Part). q.start) (some_same is)))
not_over a (begins (suc p) part is at) = absurd (none_some is)
not_over b (leads {a} instr r at way) = by (not_over a r)
  where
    by : IsNotOver a → IsNotOver b
    by (inl e) =
        let i : Jump 2 ≡ instr = some_same (subst (λ n. slice_get jump_over_an_entry.instrs n ≡ Some instr) e at) in
        at_two (subst (λ j. IsMember b (successors jump_over_an_entry j a)) (sym i) way)
      where
        at_two : IsMember b (2 ∷ []) → IsNotOver b
        at_two (inl w) = inr (inl (sym w))
        at_two (inr w) = absurd w
    by (inr (inl e)) =
        let i : Turn ≡ instr = some_same (subst (λ n. slice_get jump_over_an_entry.instrs n ≡ Some instr) e at) in
        at_three (subst (λ j. IsMember b (successors jump_over_an_entry j a)) (sym i) way)
      where
        at_three : IsMember b ((a + 1) ∷ []) → IsNotOver b
        at_three (inl w) = inr (inr (omega (arith, w, e)))
        at_three (inr w) = absurd w
    by (inr (inr e)) =
        let i : Done ≡ instr = some_same (subst (λ n. slice_get jump_over_an_entry.instrs n ≡ Some instr) e at) in
        absurd (subst (λ j. IsMember b (successors jump_over_an_entry j a)) (sym i) way)

pub entry_is_jumped_over : Reached jump_over_an_entry 1 → ⊥
entry_is_jumped_over r = by (not_over 1 r)
  where
    by : IsNotOver 1 → ⊥
    by (inl e) = absurd (omega arith)
    by (inr (inl e)) = absurd (omega arith)
    by (inr (inr e)) = absurd (omega arith)

pub miscounted_alternates : MiscountedAlternates
miscounted_alternates t joins = by (joins 0 0 _ refl (inl refl))
  where
    by : (b : ℕ) × (one : Joins joined_code t 0 0 b) × (slice_get (1 ∷ []) 0 ≡ Some (length one.0.alternates))
        × ((other : ℕ) → Joins joined_code t 0 0 other → other ≡ b) → ⊥
    by (zero, one, many, only) =
        let two : length one.0.alternates ≡ 2 = ap (λ (x : Block). length x.alternates) (sym (some_same one.3)) in
        let counted : 1 ≡ length one.0.alternates = some_same many in
        absurd (omega arith)
    by (suc b, one, many, only) = absurd (none_some one.3)

pub reserved_names : ReservedNames
reserved_names = ((refl, lit≤ tt, refl), λ h. let e : true ≡ false = h.2 in absurd (cc))

pub one_name_for_two : OneNameForTwo
unfolding IsDistinct
one_name_for_two h = let e : true ≡ false = h.0.0 in absurd (cc)

pub third_counter : ThirdCounter
third_counter h = absurd (omega arith)
