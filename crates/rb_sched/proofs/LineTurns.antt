-- What the turns of one line are, however many came before.
use Rattle.std.proofs.Common.{◌≡◌, ℕ, zero, suc, ◌+◌, ◌≤◌, ◌<◌, List, [], ◌∷◌, ◌++◌, length, replicate, position, codes, nat_eq, Bool, true, false, cond, nat_lt, ◌==◌, ◌||◌, ◌&&◌, Option, Some, None, Result, Ok, Err, refl, ap, ◌∙◌, sym, subst, arith}
use Rattle.std.specs.List.{AllByRecursion}
use Rattle.std.specs.Cmp.Lexicographic.{pointwise}
use Rattle.std.proofs.lemmas.Bool.Decides.{nat_tests}
use Rattle.std.proofs.lemmas.List.{length-replicate}
use Rattle.std.proofs.lemmas.List.Quantifiers.{position-Some}
use Rattle.rb_base.specs.declared.fault.FaultName.{FaultName}
use Rattle.rb_base.specs.declared.fault.FaultName.TheVariants.{T1, T2, T3, T4}
use Rattle.rb_base.specs.declared.limits.TheConstants.{MOST_TURNS}
use Rattle.rb_base.specs.Bytes.{is_name, is_number, digits_value}
use Rattle.rb_base.specs.Naming.{first_named}
use Rattle.rb_sched.specs.Schedule.{Whose, One, Everyone, whose, numbers_from, rounds, turns_of, count_of, counted_line, line_of_words, line_turns, words_of}
use Rattle.rb_sched.specs.Lines.{counted, fitting}
use Rattle.rb_sched.proofs.TurnsLeft.{length_rounds}

-- every turn is that of one of so many processes
abbrev pub Known : ℕ → List ℕ → Type 0
Known processes turns = AllByRecursion (λ p. p < processes) turns

-- known turns may be joined
pub Known-append : (k : ℕ) (xs ys : List ℕ) → Known k xs → Known k ys → Known k (xs ++ ys)
Known-append k [] ys known more = more
Known-append k (x ∷ xs) ys known more = (known.0, Known-append k xs ys known.1 more)

-- turns of one process
Known-replicate : (k p n : ℕ) → p < k → Known k (replicate n p)
Known-replicate k p zero known = tt
Known-replicate k p (suc n) known = (known, Known-replicate k p n known)

-- a round, or the rest of one
Known-numbers_from : (k at n : ℕ) → at + n ≤ k → Known k (numbers_from at n)
Known-numbers_from k at zero within = tt
Known-numbers_from k at (suc n) within = (omega arith, Known-numbers_from k (at + 1) n (omega arith))

-- rounds of all
Known-rounds : (k n : ℕ) → Known k (rounds k n)
Known-rounds k zero = tt
Known-rounds k (suc n) = Known-append k (numbers_from 0 k) (rounds k n) (Known-numbers_from k 0 k (omega arith)) (Known-rounds k n)

-- turns that fit, and that they do
pub record AreTurns (before : ℕ) (turns us : List ℕ) : Type 0 where
  pub same : us ≡ turns
  pub few : before + length us ≤ MOST_TURNS

-- what was let through fits
pub fitting-Ok : (before : ℕ) (us turns : List ℕ) → fitting before us ≡ Ok turns → AreTurns before turns us
fitting-Ok before us turns e = by_test (nat_lt MOST_TURNS (before + length us)) refl e
  where
    by_test : (t : Bool) → t ≡ nat_lt MOST_TURNS (before + length us) → cond t (Err T4) (Ok us) ≡ Ok turns → AreTurns before turns us
    by_test true is e = absurd (cc)
    by_test false is e = record { same = cc; few = grind (arith, nat_tests) }

-- what fits is let through
fitting-fits : (before : ℕ) (us : List ℕ) → before + length us ≤ MOST_TURNS → fitting before us ≡ Ok us
fitting-fits before us few = by_test (nat_lt MOST_TURNS (before + length us)) refl
  where
    by_test : (t : Bool) → t ≡ nat_lt MOST_TURNS (before + length us) → cond t (Err T4) (Ok us) ≡ Ok us
    by_test true is = absurd (grind (arith, nat_tests))
    by_test false is = refl

-- what a line gives, by how many turns came before: the same fault, or the same turns where they fit
data Gives (processes : ℕ) (line : ℕ → Result (List ℕ) FaultName) : Type 0 where
  Fault : (name : FaultName) → ((before : ℕ) → line before ≡ Err name) → Gives processes line
  Turns : (turns : List ℕ) → Known processes turns → ((before : ℕ) → before ≤ MOST_TURNS → line before ≡ fitting before turns) → Gives processes line

-- what a name stands for is a process
abbrev IsWhose : ℕ → Option Whose → Type 0
IsWhose k None = Unit {0}
IsWhose k (Some (One p)) = p < k
IsWhose k (Some Everyone) = Unit {0}

-- whom a place stands for
abbrev named : Option ℕ → Option Whose
named None = None
named (Some p) = Some (One p)

-- a place is a process, whether or not the word is `all`
named_known : (k : ℕ) (all : Bool) (place : Option ℕ) → ((p : ℕ) → place ≡ Some p → p < k) → IsWhose k (cond all (Some Everyone) (named place))
named_known k true place within = tt
named_known k false None within = tt
named_known k false (Some p) within = within p refl

-- the look-up gives a process
whose_known : (names : List (List ℕ)) (word : List ℕ) → IsWhose (length names) (whose names word)
whose_known names word =
    named_known (length names) (pointwise nat_eq (codes "all") word) (position (λ name. pointwise nat_eq name word) names)
    (λ p found. (position-Some (λ name. pointwise nat_eq name word) names p [] found).0)

-- the turns of a process or of all
turns_of_known : (k : ℕ) (who : Whose) (n : ℕ) → IsWhose k (Some who) → Known k (turns_of k who n)
turns_of_known k (One p) n known = Known-replicate k p n known
turns_of_known k Everyone n known = Known-rounds k n

-- counted without listing them
length-turns_of : (k : ℕ) (who : Whose) (n : ℕ) → length (turns_of k who n) ≡ count_of k who n
length-turns_of k (One p) n = length-replicate n p
length-turns_of k Everyone n = length_rounds k n

-- a count that is not let through
pub counted_refused : (names : List (List ℕ)) (before : ℕ) (who : Whose) (n : ℕ) (fault : FaultName) → Err fault ≡ counted n
    → counted_line names before (Some who) n ≡ Err fault
counted_refused names before who n fault e = by_test (n == 0 || nat_lt MOST_TURNS n) e
  where
    by_test : (t : Bool) → Err fault ≡ cond t (Err T3) (Ok n)
        → cond t (Err T3)
        (cond (nat_lt MOST_TURNS (before + count_of (length names) who n)) (Err T4) (Ok (turns_of (length names) who n))) ≡ Err fault
    by_test true e = cc
    by_test false e = absurd (cc)

-- a count that is let through
pub counted_fits : (names : List (List ℕ)) (before : ℕ) (who : Whose) (n count : ℕ) → Ok count ≡ counted n
    → counted_line names before (Some who) n ≡ fitting before (turns_of (length names) who count)
counted_fits names before who n count e = by_test (n == 0 || nat_lt MOST_TURNS n) e
  where
    by_test : (t : Bool) → Ok count ≡ cond t (Err T3) (Ok n)
        → cond t (Err T3)
        (cond (nat_lt MOST_TURNS (before + count_of (length names) who n)) (Err T4) (Ok (turns_of (length names) who n)))
        ≡ fitting before (turns_of (length names) who count)
    by_test true e = absurd (cc)
    by_test false e =
        let same : n ≡ count = cc in
        ap (λ m. cond (nat_lt MOST_TURNS (before + m)) (Err T4) (Ok (turns_of (length names) who n))) (sym (length-turns_of (length names) who n))
        ∙ ap (λ m. fitting before (turns_of (length names) who m)) same

-- and is not above the greatest
pub counted_few : (n count : ℕ) → Ok count ≡ counted n → count ≤ MOST_TURNS
counted_few n count e = by_test (n == 0 || nat_lt MOST_TURNS n) refl e
  where
    by_test : (t : Bool) → t ≡ (n == 0 || nat_lt MOST_TURNS n) → Ok count ≡ cond t (Err T3) (Ok n) → count ≤ MOST_TURNS
    by_test true is e = absurd (cc)
    by_test false is e = let same : n ≡ count = cc in grind (arith, nat_tests)

-- the word that stands for all
pub all_named : (names : List (List ℕ)) (word all : List ℕ) → all ≡ codes "all" → true ≡ pointwise nat_eq all word
    → whose names word ≡ Some Everyone
all_named names word all is e =
    ap (λ t. cond t (Some Everyone) (named (first_named names word))) (sym (e ∙ ap (λ text. pointwise nat_eq text word) is))

-- the name of a process
pub one_named : (names : List (List ℕ)) (word all : List ℕ) (p : ℕ) → all ≡ codes "all" → false ≡ pointwise nat_eq all word
    → Some p ≡ first_named names word → whose names word ≡ Some (One p)
one_named names word all p is e first =
    ap (λ t. cond t (Some Everyone) (named (first_named names word))) (sym (e ∙ ap (λ text. pointwise nat_eq text word) is))
    ∙ ap named (sym first)

-- a line with a name and a count
counted_gives : (names : List (List ℕ)) (who : Option Whose) (n : ℕ) → IsWhose (length names) who
    → Gives (length names) (λ before. counted_line names before who n)
counted_gives names None n known = Fault T2 (λ before. refl)
counted_gives names (Some who) n known = by_test (n == 0 || nat_lt MOST_TURNS n)
  where
    by_test : (t : Bool)
        → Gives (length names)
        (λ before. cond t (Err T3)
        (cond (nat_lt MOST_TURNS (before + count_of (length names) who n)) (Err T4) (Ok (turns_of (length names) who n))))
    by_test true = Fault T3 (λ before. refl)
    by_test false = Turns (turns_of (length names) who n) (turns_of_known (length names) who n known)
        (λ before few. ap (λ m. cond (nat_lt MOST_TURNS (before + m)) (Err T4) (Ok (turns_of (length names) who n)))
        (sym (length-turns_of (length names) who n)))

-- the same, judged for its form first
formed_gives : (k : ℕ) (formed : Bool) (line : ℕ → Result (List ℕ) FaultName) → Gives k line → Gives k (λ before. cond formed (line before) (Err T1))
formed_gives k true line gives = gives
formed_gives k false line gives = Fault T1 (λ before. refl)

-- any line
words_give : (names words : List (List ℕ)) → Gives (length names) (λ before. line_of_words names before words)
words_give names [] = Turns [] tt (λ before few. sym (fitting-fits before [] (omega arith)))
words_give names (name ∷ []) = Fault T1 (λ before. refl)
words_give names (name ∷ count ∷ []) =
    formed_gives (length names) (is_name name && is_number count) (λ before. counted_line names before (whose names name) (digits_value 0 count))
    (counted_gives names (whose names name) (digits_value 0 count) (whose_known names name))
words_give names (name ∷ count ∷ more ∷ words) = Fault T1 (λ before. refl)

-- a line that has no fault where so many turns came before has the same turns where fewer did
pub record IsLine (names : List (List ℕ)) (line : List ℕ) (before : ℕ) (turns : List ℕ) : Type 0 where
  pub known : Known (length names) turns
  pub few : before + length turns ≤ MOST_TURNS
  pub earlier : (fewer : ℕ) → fewer ≤ before → line_turns names fewer line ≡ Ok turns

-- what is known of a line that has no fault
pub line_known : (names : List (List ℕ)) (line : List ℕ) (before : ℕ) (turns : List ℕ) → before ≤ MOST_TURNS
    → line_turns names before line ≡ Ok turns → IsLine names line before turns
line_known names line before turns few e = by_gives (words_give names (words_of line))
  where
    by_gives : Gives (length names) (λ b. line_of_words names b (words_of line)) → IsLine names line before turns
    by_gives (Fault name faulty) = absurd (let f = faulty before in cc)
    by_gives (Turns us known fits) =
        let are = fitting-Ok before us turns (sym (fits before few) ∙ e) in
        record {
          known = subst (Known (length names)) are.same known;
          few = subst (λ xs. before + length xs ≤ MOST_TURNS) are.same are.few;
          earlier = λ fewer less. fits fewer (omega arith) ∙ fitting-fits fewer us (omega (arith, are.few)) ∙ ap (λ xs. Ok xs) are.same;
        }
