-- The table of two loops that overlap.
use Rattle.std.proofs.Common.{◌≡◌, ◌⊎◌, inl, inr, ℕ, zero, suc, ◌+◌, ◌≤◌, true, false, List, [], ◌∷◌, slice_get, Option, Some, None, refl, ap, sym, ◌∙◌, subst, arith, lit<, lit≤}
use Rattle.rb_world.proofs.ListFacts.{none_some, some_same}
use Rattle.rb_code.specs.Instructions.Plain.{Part}
use Rattle.rb_code.specs.SoundCode.Reached.{Reached, begins, leads}
use Rattle.rb_code.specs.SoundCode.Sound.{Fresh, Free, Changed, Entry, IsOpen, IsSet, IsSoundAt, Loop, end_of_loop}
use Rattle.rb_code.specs.SoundCode.SoundRows.{IsTabled, overlapping_loops}
use Rattle.rb_code.specs.SoundCode.WellFormed.{LoopsStayOpen}
use Rattle.rb_code.specs.declared.instr.Instr.TheVariants.{Range}
use Rattle.rb_code.proofs.Executing.SoundRows.{AllFrom, all_at, begins_loop, main_begin, main_entry, table_of}
use Rattle.rb_code.proofs.Tables.Tabled.{weaker_same}

abbrev outer : Loop
outer = record { counter = 0; first = 4; last = 7 }

abbrev inner : Loop
inner = record { counter = 1; first = 7; last = 9 }

-- nothing is known of 9, which is not reached
abbrev entries : List (Option Entry)
entries =
    Some (main_entry [] [] [] Changed) ∷ Some (main_entry [] [] [] Fresh) ∷ Some (main_entry (None ∷ []) [] [] Free)
    ∷ Some (main_entry (None ∷ None ∷ []) [] [] Free) ∷ Some (main_entry [] [] (outer ∷ []) Free)
    ∷ Some (main_entry (None ∷ []) [] (outer ∷ []) Free) ∷ Some (main_entry (None ∷ None ∷ []) [] (outer ∷ []) Free)
    ∷ Some (main_entry [] [] (inner ∷ outer ∷ []) Free) ∷ Some (main_entry [] [] (inner ∷ []) Free) ∷ None
    ∷ Some (main_entry [] [] [] Free) ∷ []

-- the inner loop's counter is not that of the outer one
not_set : IsSet 1 (outer ∷ []) → ⊥
not_set (inl e) = absurd (omega arith)
not_set (inr h) = h

sound : AllFrom (IsSoundAt overlapping_loops [] (table_of entries)) 0 entries
sound = (
  record { fine = (refl, refl, refl, weaker_same _); above = tt; around = refl },
  (
    record { fine = (lit< tt, weaker_same _); above = tt; around = refl },
    (
      record { fine = (lit< tt, weaker_same _); above = tt; around = refl },
      (
        record { fine = (tt, lit< tt, (λ s. s), (inl (lit< tt), weaker_same _, weaker_same _)); above = tt; around = refl },
        (
          record { fine = (lit< tt, weaker_same _); above = tt; around = refl },
          (
            record { fine = (lit< tt, weaker_same _); above = tt; around = refl },
            (
              record { fine = (tt, lit< tt, not_set, (inl (lit< tt), weaker_same _, weaker_same _)); above = tt; around = refl },
              (
                record { fine = (lit≤ tt, inr (inl refl), weaker_same _, weaker_same _); above = tt; around = refl },
                (
                  record { fine = (inl (lit< tt), weaker_same _); above = tt; around = refl },
                  (record { fine = (refl, refl, refl, refl); above = tt; around = refl }, tt),
                ),
              ),
            ),
          ),
        ),
      ),
    ),
  ),
)

reached : AllFrom (λ a _. Reached overlapping_loops a) 0 entries
reached =
    let r0 : Reached overlapping_loops 0 = begins 0 _ refl refl in
    let r1 : Reached overlapping_loops 1 = leads _ r0 refl (inl refl) in
    let r2 : Reached overlapping_loops 2 = leads _ r1 refl (inl refl) in
    let r3 : Reached overlapping_loops 3 = leads _ r2 refl (inl refl) in
    let r4 : Reached overlapping_loops 4 = leads _ r3 refl (inr (inl refl)) in
    let r5 : Reached overlapping_loops 5 = leads _ r4 refl (inl refl) in
    let r6 : Reached overlapping_loops 6 = leads _ r5 refl (inl refl) in
    let r7 : Reached overlapping_loops 7 = leads _ r6 refl (inr (inl refl)) in
    let r8 : Reached overlapping_loops 8 = leads _ r7 refl (inr (inl refl)) in
    let r10 : Reached overlapping_loops 10 = leads _ r8 refl (inl refl) in
    (r0, (r1, (r2, (r3, (r4, (r5, (r6, (r7, (r8, (r10, tt))))))))))

-- each loop is open at the addresses of the table from its first one to its end
abbrev IsOpenAt : Loop → ℕ → Entry → Type 0
IsOpenAt loop x g = loop.first ≤ x → x ≤ loop.last → IsOpen loop g.loops

outer_open : AllFrom (IsOpenAt outer) 0 entries
outer_open = (
  λ p q. absurd (omega arith),
  (
    λ p q. absurd (omega arith),
    (
      λ p q. absurd (omega arith),
      (
        λ p q. absurd (omega arith),
        (
          λ p q. inl refl,
          (
            λ p q. inl refl,
            (
              λ p q. inl refl,
              (
                λ p q. inr (inl refl),
                (λ p q. absurd (omega arith), (λ p q. absurd (omega arith), tt)),
              ),
            ),
          ),
        ),
      ),
    ),
  ),
)

inner_open : AllFrom (IsOpenAt inner) 0 entries
inner_open = (
  λ p q. absurd (omega arith),
  (
    λ p q. absurd (omega arith),
    (
      λ p q. absurd (omega arith),
      (
        λ p q. absurd (omega arith),
        (
          λ p q. absurd (omega arith),
          (
            λ p q. absurd (omega arith),
            (
              λ p q. absurd (omega arith),
              (
                λ p q. inl refl,
                (λ p q. inl refl, (λ p q. absurd (omega arith), tt)),
              ),
            ),
          ),
        ),
      ),
    ),
  ),
)

-- where a `range` stands, and over which counter
abbrev IsBegun : ℕ → ℕ → Type 0
IsBegun a k = ((a ≡ 3) × (k ≡ 0)) ⊎ ((a ≡ 6) × (k ≡ 1))

ranges : (a k b : ℕ) → slice_get overlapping_loops.instrs a ≡ Some (Range k b) → IsBegun a k
ranges zero k b at = let e : true ≡ false = sym (ap begins_loop (some_same at)) in absurd (cc)
ranges (suc zero) k b at = let e : true ≡ false = sym (ap begins_loop (some_same at)) in absurd (cc)
ranges (suc (suc zero)) k b at = let e : true ≡ false = sym (ap begins_loop (some_same at)) in absurd (cc)
ranges (suc (suc (suc zero))) k b at = let e = some_same at in inl (refl, cc)
ranges (suc (suc (suc (suc zero)))) k b at = let e : true ≡ false = sym (ap begins_loop (some_same at)) in absurd (cc)
ranges (suc (suc (suc (suc (suc zero))))) k b at = let e : true ≡ false = sym (ap begins_loop (some_same at)) in absurd (cc)
ranges (suc (suc (suc (suc (suc (suc zero)))))) k b at = let e = some_same at in inr (refl, cc)
ranges (suc (suc (suc (suc (suc (suc (suc zero))))))) k b at = let e : true ≡ false = sym (ap begins_loop (some_same at)) in absurd (cc)
ranges (suc (suc (suc (suc (suc (suc (suc (suc zero)))))))) k b at = let e : true ≡ false = sym (ap begins_loop (some_same at)) in absurd (cc)
ranges (suc (suc (suc (suc (suc (suc (suc (suc (suc zero))))))))) k b at = let e : true ≡ false = sym (ap begins_loop (some_same at)) in absurd (cc)
ranges (suc (suc (suc (suc (suc (suc (suc (suc (suc (suc zero)))))))))) k b at = let e : true ≡ false = sym (ap begins_loop (some_same at)) in absurd (cc)
ranges (suc (suc (suc (suc (suc (suc (suc (suc (suc (suc (suc a))))))))))) k b at = absurd (none_some at)

stay_open : LoopsStayOpen overlapping_loops (table_of entries)
stay_open a k b last x e g at there end low high here = by (ranges a k b at)
  where
    -- of the loop that begins at an address
    of : (loop : Loop) (ends : end_of_loop overlapping_loops loop.counter loop.first ≡ Some loop.last) → loop.counter ≡ k → loop.first ≡ a + 1
        → AllFrom (IsOpenAt loop) 0 entries → IsOpen (record { counter = k; first = a + 1; last = last }) g.loops
    of loop ends counter first all =
        let same : loop.last ≡ last =
        some_same (sym ends ∙ ap (end_of_loop overlapping_loops loop.counter) first ∙ ap (λ j. end_of_loop overlapping_loops j (a + 1)) counter ∙ end) in
        let found = all_at (IsOpenAt loop) entries all x g here (omega arith) (omega arith) in
        subst (λ l. IsOpen (record { counter = k; first = a + 1; last = l }) g.loops) same
        (subst (λ f. IsOpen (record { counter = k; first = f; last = loop.last }) g.loops) first
        (subst (λ j. IsOpen (record { counter = j; first = loop.first; last = loop.last }) g.loops) counter found))

    by : IsBegun a k → IsOpen (record { counter = k; first = a + 1; last = last }) g.loops
    by (inl (is, zeroth)) = of outer refl (sym zeroth) (omega arith) outer_open
    by (inr (is, first)) = of inner refl (sym first) (omega arith) inner_open

pub overlapping_loops_tabled : IsTabled overlapping_loops
overlapping_loops_tabled = record {
  table = table_of entries;
  has = record {
    mains = begin;
    each = all_at (IsSoundAt overlapping_loops [] (table_of entries)) entries sound;
  };
  reached = all_at (λ a _. Reached overlapping_loops a) entries reached;
  loops = stay_open;
}
  where
    begin : (p : ℕ) (part : Part) → slice_get overlapping_loops.processes p ≡ Some part → table_of entries part.start ≡ Some (main_begin p)
    begin zero part is = ap (λ (q : Part). table_of entries q.start) (sym (some_same is))
    begin (suc p) part is = absurd (none_some is)
