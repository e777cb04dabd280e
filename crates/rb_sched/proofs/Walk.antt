-- How the turns of a text follow from those of its lines.
use Rattle.std.proofs.Common.{◌≡◌, ℕ, ◌+◌, ◌≤◌, ◌<◌, List, [], ◌∷◌, ◌++◌, length, vec_len, Result, Ok, Err, refl, ap, ◌∙◌, sym, subst, arith, append_assoc, length-append}
use Rattle.std.specs.List.{AllByRecursion}
use Rattle.std.specs.Result.{IsOk, is_ok}
use Rattle.rb_base.specs.declared.names.Names.{Names}
use Rattle.rb_base.specs.declared.fault.TextFault.{TextFault}
use Rattle.rb_base.specs.declared.fault.FaultName.{FaultName}
use Rattle.rb_base.specs.declared.limits.TheConstants.{MOST_TURNS}
use Rattle.rb_base.specs.Naming.{process_names}
use Rattle.rb_sched.specs.Schedule.{in_front, after_line, line_turns, lines_turns, lines_of, schedule_of}
use Rattle.rb_sched.specs.Lines.{fitting}
use Rattle.rb_sched.specs.Walk.{turns_in, GoesOn}
use Rattle.rb_base.proofs.Named.{length_process_names}
use Rattle.rb_sched.proofs.LineTurns.{Known, Known-append, fitting-Ok, line_known}

-- a text's turns are those of its first line, and of the others
record Splits (first : Result (List ℕ) FaultName) (others : ℕ → Result (List ℕ) TextFault) (turns : List ℕ) : Type 0 where
  front : List ℕ
  later : List ℕ
  first_is : first ≡ Ok front
  others_are : others (length front) ≡ Ok later
  joined : front ++ later ≡ turns

-- where a text has no fault, its first line has none, nor have the others
after_line-Ok : (first : Result (List ℕ) FaultName) (at : ℕ) (others : ℕ → Result (List ℕ) TextFault) (turns : List ℕ)
    → after_line first at others ≡ Ok turns → Splits first others turns
after_line-Ok (Ok front) at others turns e = by_others (others (length front)) refl e
  where
    by_others : (o : Result (List ℕ) TextFault) → others (length front) ≡ o → in_front front o ≡ Ok turns → Splits (Ok front) others turns
    by_others (Ok later) is joined = record { front = front; later = later; first_is = refl; others_are = is; joined = cc }
    by_others (Err fault) is joined = absurd (cc)
after_line-Ok (Err name) at others turns e = absurd (cc)

-- what is known of the turns of some lines, where so many came before
pub record AreLines (names : List (List ℕ)) (lines : List (List ℕ)) (before : ℕ) (turns : List ℕ) : Type 0 where
  pub known : Known (length names) turns
  pub few : before + length turns ≤ MOST_TURNS
  pub earlier : (fewer at : ℕ) → fewer ≤ before → lines_turns names fewer at lines ≡ Ok turns

-- where some lines have no fault, each turn is known, and fewer before leave them as they are
pub lines_known : (names : List (List ℕ)) (lines : List (List ℕ)) (before at : ℕ) (turns : List ℕ) → before ≤ MOST_TURNS
    → lines_turns names before at lines ≡ Ok turns → AreLines names lines before turns
lines_known names [] before at turns few e =
    let none : [] ≡ turns = cc in
    subst (AreLines names [] before) none (record { known = tt; few = omega arith; earlier = λ fewer n less. refl })
lines_known names (line ∷ lines) before at turns few e =
    let s = after_line-Ok (line_turns names before line) at (λ n. lines_turns names (before + n) (at + 1) lines) turns e in
    let l = line_known names line before s.front few s.first_is in
    let ls = lines_known names lines (before + length s.front) (at + 1) s.later l.few s.others_are in
    subst (AreLines names (line ∷ lines) before) s.joined (record {
      known = Known-append (length names) s.front s.later l.known ls.known;
      few = omega (arith, length-append s.front s.later, ls.few);
      earlier = λ fewer n less.
          ap (λ first. after_line first n (λ m. lines_turns names (fewer + m) (n + 1) lines)) (l.earlier fewer less)
          ∙ ap (in_front s.front) (ls.earlier (fewer + length s.front) (n + 1) (omega arith));
    })

-- each turn of a schedule is that of a process, and there are not too many
pub turns_known : (names : List (List ℕ)) (text turns : List ℕ) → schedule_of names text ≡ Ok turns
    → AllByRecursion (λ p. p < length names) turns × (length turns ≤ MOST_TURNS)
turns_known names text turns e =
    let ls = lines_known names (lines_of text) 0 1 turns (omega arith) e in
    (ls.known, omega (arith, ls.few))

-- the turns so far of a text that is read up to a line
pub record ReadUpTo (names : List (List ℕ)) (text : List ℕ) (total at : ℕ) (rest : List ℕ) : Type 0 where
  pub front : List ℕ
  pub goes_on : schedule_of names text ≡ in_front front (lines_turns names total at (lines_of rest))
  pub counted : total ≡ length front
  pub few : total ≤ MOST_TURNS

-- turns put in front twice
in_front_twice : (front turns : List ℕ) (r : Result (List ℕ) TextFault) → in_front front (in_front turns r) ≡ in_front (front ++ turns) r
in_front_twice front turns (Ok later) = ap (λ xs. Ok xs) (sym (append_assoc front turns later))
in_front_twice front turns (Err fault) = refl

-- a line more is read
pub read_more : (names : List (List ℕ)) (text line : List ℕ) (total at : ℕ) (rest after turns : List ℕ) (sum : ℕ)
    → ReadUpTo names text total at rest → lines_of rest ≡ line ∷ lines_of after → line_turns names total line ≡ Ok turns
    → sum ≡ total + length turns → sum ≤ MOST_TURNS → ReadUpTo names text sum (at + 1) after
read_more names text line total at rest after turns sum read cut given sum_is few = record {
  front = read.front ++ turns;
  goes_on =
      read.goes_on
      ∙ ap (λ lines. in_front read.front (lines_turns names total at lines)) cut
      ∙ ap (λ first. in_front read.front (after_line first at (λ n. lines_turns names (total + n) (at + 1) (lines_of after)))) given
      ∙ in_front_twice read.front turns (lines_turns names (total + length turns) (at + 1) (lines_of after))
      ∙ ap (λ n. in_front (read.front ++ turns) (lines_turns names n (at + 1) (lines_of after))) (sym sum_is);
  counted = omega (arith, length-append read.front turns, read.counted);
  few = few;
}

-- a text without a fault has none after its first line, whose turns come first
line_first : (names : List (List ℕ)) (text line after turns : List ℕ) → lines_of text ≡ line ∷ lines_of after
    → ((before : ℕ) → before ≤ MOST_TURNS → line_turns names before line ≡ fitting before turns)
    → IsOk (schedule_of names text) → GoesOn names text turns after
line_first names text line after turns cut given sound = by_turns (schedule_of names text) refl sound
  where
    by_turns : (r : Result (List ℕ) TextFault) → schedule_of names text ≡ r → IsOk r → GoesOn names text turns after
    by_turns (Err fault) is sound = absurd (cc)
    by_turns (Ok all) is sound =
        let first = ap (lines_turns names 0 1) (sym cut) ∙ is in
        let s = after_line-Ok (line_turns names 0 line) 1 (λ n. lines_turns names (0 + n) 2 (lines_of after)) all first in
        let few : 0 ≤ MOST_TURNS = omega arith in
        let are = fitting-Ok 0 turns s.front (sym (given 0 few) ∙ s.first_is) in
        let l = line_known names line 0 s.front few s.first_is in
        let ls = lines_known names (lines_of after) (0 + length s.front) 2 s.later l.few s.others_are in
        let later_is : schedule_of names after ≡ Ok s.later = ls.earlier 0 1 (omega arith) in
        record {
          sound = ap is_ok later_is;
          joined = ap turns_in is ∙ sym s.joined ∙ (λ i. sym are.same i ++ turns_in (sym later_is i));
        }

-- a line more is read off
pub goes_on_with : (names : List (List ℕ)) (text rest line after turns : List ℕ) → GoesOn names text [] rest
    → lines_of rest ≡ line ∷ lines_of after
    → ((before : ℕ) → before ≤ MOST_TURNS → line_turns names before line ≡ fitting before turns)
    → GoesOn names text turns after
goes_on_with names text rest line after turns so_far cut given =
    let next = line_first names rest line after turns cut given so_far.sound in
    record { sound = next.sound; joined = so_far.joined ∙ next.joined }

-- the same of the processes of a program
pub turns_known_in : (names : Names) (text turns none : List ℕ) → none ≡ []
    → schedule_of (process_names names) text ≡ Ok turns
    → AllByRecursion (λ p. p < vec_len names.processes) (none ++ turns_in (schedule_of (process_names names) text))
turns_known_in names text turns none is_none sound =
    let all : none ++ turns_in (schedule_of (process_names names) text) ≡ turns = λ i. is_none i ++ turns_in (sound i) in
    subst (λ k. Known k (none ++ turns_in (schedule_of (process_names names) text))) (length_process_names names)
    (subst (Known (length (process_names names))) (sym all) (turns_known (process_names names) text turns sound).0)
