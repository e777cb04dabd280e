-- The parts of which a listing is written.
use Rattle.std.proofs.Common.{◌≡◌, ℕ, ◌+◌, ◌<◌, List, [], ◌∷◌, ◌++◌, length, map, drop, get_or, nat_eq, true, cond, codes, decimal, Option, Result, Ok, Err, IsErr, refl, sym, ap, ◌∙◌, append_assoc, rules, arith, drop-cons, add-one}
use Rattle.std.proofs.lemmas.Grind.{flat_map-append}
use Rattle.rb_outside.specs.Outside.{Faults}
use Rattle.rb_outside.specs.Puts.{Puts}
use Rattle.rb_outside.specs.declared.Failed.{Failed}
use Rattle.rb_outside.proofs.Puts.{puts_both, puts_same, puts_stopped_at}
use Rattle.rb_trace.proofs.Written.{Written, written_more}
use Rattle.rb_trace.proofs.Spaced.{line_of-spaced}
use Rattle.rb_trace.proofs.Ended.{from_item}
use Rattle.rb_trace.specs.Lines.{spaced, spaced_word}
use Rattle.rb_world.specs.Text.{Naming, line_of}
use Rattle.rb_code.specs.Instructions.Plain.{Block}
use Rattle.rb_code.specs.Instructions.Limits.{block_limits}
use Rattle.rb_code.specs.Instructions.Listing.{Head, block_kind, block_line, block_lines, heads_past, instr_line, instr_lines, lines_at}
use Rattle.rb_code.specs.declared.instr.Instr.{Instr}
use Rattle.rb_code.specs.declared.instr.Instr.TheVariants.{Turn}

-- what was put says nothing of the value that is answered
pub puts_as : {T U E : Type 0} (bytes : List ℕ) (w0 w1 : Option (List ℕ)) (f0 f1 : Faults) (v : T) (u : U) →
    Puts {T = T} {E = E} bytes w0 w1 f0 f1 (Ok v) → Puts {T = U} {E = E} bytes w0 w1 f0 f1 (Ok u)
puts_as bytes w0 w1 f0 f1 v u p = record { ok = p.ok; quiet = p.quiet; err = tt; failed = tt }

-- the next part stopped, whatever it would have answered, and the whole text with it
pub written_stopped : {T U : Type 0} (whole rest part after : List ℕ) (w0 w1 w2 : Option (List ℕ)) (f0 f1 f2 : Faults)
    (e : Failed) (r : Result T Failed) →
    Written whole rest w0 w1 f0 f1 → rest ≡ part ++ after → Puts {T = U} {E = Failed} part w1 w2 f1 f2 (Err e) → IsErr r
    → Puts {T = T} {E = Failed} whole w0 w2 f0 f2 r
written_stopped {T} {U} whole rest part after w0 w1 w2 f0 f1 f2 e r so_far is p failed =
    let both : Puts {T = U} {E = Failed} (so_far.front ++ part) w0 w2 f0 f2 (Err e) =
    puts_both so_far.front part w0 w1 w2 f0 f1 f2 tt (Err e) so_far.puts p in
    puts_same _ _ w0 w2 f0 f2 r (append_assoc so_far.front part after ∙ ap (λ (x : List ℕ). so_far.front ++ x) (sym is) ∙ so_far.splits)
    (puts_stopped_at (so_far.front ++ part) after w0 w2 f0 f2 e r failed both)

-- the next part was written, whatever it answers
pub written_further : {U : Type 0} (whole rest part after : List ℕ) (w0 w1 w2 : Option (List ℕ)) (f0 f1 f2 : Faults) (u : U) →
    Written whole rest w0 w1 f0 f1 → rest ≡ part ++ after → Puts {T = U} {E = Failed} part w1 w2 f1 f2 (Ok u) → Written whole after w0 w2 f0 f2
written_further whole rest part after w0 w1 w2 f0 f1 f2 u so_far is p =
    written_more whole rest part after w0 w1 w2 f0 f1 f2 so_far is (puts_as part w1 w2 f1 f2 u tt p)

same_number : (a : ℕ) → nat_eq a a ≡ true
same_number a = search rules

-- the next head stands before this address
pub lines_next : (a : ℕ) (words : List (List ℕ)) (heads : List Head) →
    lines_at a (record { at = a; words = words } ∷ heads) ≡ line_of words ++ lines_at a heads
lines_next a words heads = ap (λ b. cond b (line_of words ++ lines_at a heads) []) (same_number a)

pub past_next : (a : ℕ) (words : List (List ℕ)) (heads : List Head) →
    heads_past a (record { at = a; words = words } ∷ heads) ≡ heads_past a heads
past_next a words heads = ap (λ b. cond b (heads_past a heads) (record { at = a; words = words } ∷ heads)) (same_number a)

-- the first of the instructions that are left
instr_first : (texts : List (List ℕ)) (heads : List Head) (instrs : List Instr) (a : ℕ) → a < length instrs →
    instr_lines texts a heads (drop a instrs)
    ≡ lines_at a heads ++ (instr_line texts a (get_or instrs a Turn) ++ instr_lines texts (a + 1) (heads_past a heads) (drop (a + 1) instrs))
instr_first texts heads instrs a within =
    ap (instr_lines texts a heads) (drop-cons instrs a Turn within ∙ ap (λ (n : ℕ). get_or instrs a Turn ∷ drop n instrs) (sym (add-one a)))

-- the same, where texts and instructions are read behind references
pub instr_next : (texts read_texts : List (List ℕ)) (heads : List Head) (instrs read_instrs : List Instr) (a : ℕ)
    → read_texts ≡ texts → read_instrs ≡ instrs →
    a < length read_instrs → instr_lines texts a heads (drop a instrs)
    ≡ lines_at a heads
    ++ (instr_line read_texts a (get_or read_instrs a Turn) ++ instr_lines texts (a + 1) (heads_past a heads) (drop (a + 1) instrs))
instr_next texts read_texts heads instrs read_instrs a same_texts same_instrs within =
    let there : a < length instrs = omega (arith, within, ap length same_instrs) in
    instr_first texts heads instrs a there
    ∙ ap
    (λ (ts : List (List ℕ)). lines_at a heads
    ++ (instr_line ts a (get_or instrs a Turn) ++ instr_lines texts (a + 1) (heads_past a heads) (drop (a + 1) instrs)))
    (sym same_texts)
    ∙ ap
    (λ (xs : List Instr). lines_at a heads
    ++ (instr_line read_texts a (get_or xs a Turn) ++ instr_lines texts (a + 1) (heads_past a heads) (drop (a + 1) instrs)))
    (sym same_instrs)

-- the first of the recovery blocks that are left
pub block_next : {X : Type 0} (plain : X → Block) (names : Naming) (blocks : List X) (b : ℕ) (one : X) → b < length blocks
    → one ≡ get_or blocks b one →
    block_lines names b (map plain (drop b blocks)) ≡ block_line names b (plain one) ++ block_lines names (b + 1) (map plain (drop (b + 1) blocks))
block_next {X} plain names blocks b one within is = ap (λ (xs : List X). block_lines names b (map plain xs)) (from_item blocks b one within is)

spaced-append : (these those : List (List ℕ)) → spaced (these ++ those) ≡ spaced these ++ spaced those
spaced-append these those = flat_map-append spaced_word these those

regroup : (a b c d e f : List ℕ) → (a ++ b) ++ (c ++ (d ++ (e ++ f))) ≡ a ++ ((b ++ (c ++ (d ++ e))) ++ f)
regroup a b c d e f = simp append_assoc refl

-- the words of the line of a recovery block, but for the first
abbrev words_place : ℕ → ℕ → List (List ℕ)
words_place b line = decimal b ∷ codes "line" ∷ decimal line ∷ []

abbrev words_limits : ℕ → ℕ → ℕ → List (List ℕ)
words_limits bound restart test =
    codes "within" ∷ decimal bound ∷ codes "restart" ∷ decimal restart ∷ codes "test" ∷ decimal test ∷ codes "alternates" ∷ []

spaced_four : (p kind limits others : List (List ℕ))
    → spaced (p ++ (kind ++ (limits ++ others))) ≡ spaced p ++ (spaced kind ++ (spaced limits ++ spaced others))
spaced_four p kind limits others =
    spaced-append p (kind ++ (limits ++ others))
    ∙ ap (λ (x : List ℕ). spaced p ++ x) (spaced-append kind (limits ++ others) ∙ ap (λ (x : List ℕ). spaced kind ++ x) (spaced-append limits others))

-- the parts of that line
pub block_parts : (names : Naming) (b : ℕ) (one : Block) →
    (codes "block" ++ spaced (decimal b ∷ codes "line" ∷ decimal one.line ∷ []))
    ++ (spaced (block_kind names one.conversation)
    ++ (block_limits one.bound one.restart one.test ++ (spaced (map decimal one.alternates) ++ 10 ∷ [])))
    ≡ block_line names b one
block_parts names b one =
    let kind = block_kind names one.conversation in
    let place = words_place b one.line in
    let limits = words_limits one.bound one.restart one.test in
    let others = map decimal one.alternates in
    regroup (codes "block") (spaced place) (spaced kind) (spaced limits) (spaced others) (10 ∷ [])
    ∙ ap (λ (x : List ℕ). codes "block" ++ (x ++ 10 ∷ [])) (sym (spaced_four place kind limits others))
    ∙ sym (line_of-spaced (codes "block") (place ++ (kind ++ (limits ++ others))))
