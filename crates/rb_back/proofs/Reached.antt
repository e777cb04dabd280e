-- Sessions that steps and backs come to.
use Rattle.std.proofs.Common.{◌≡◌, ◌≤◌, ◌<◌, ◌+◌, ◌-◌, ℕ, Bool, true, false, cond, nat_lt, List, [], ◌∷◌, ◌++◌, length, take, slice_get, Some, refl, sym, ap, ◌∙◌, arith}
use Rattle.std.proofs.lemmas.Bool.Decides.{nat_tests}
use Rattle.std.proofs.lemmas.List.{length-append, take-append-le, take-take}
use Rattle.rb_world.specs.Kind.{Membership}
use Rattle.rb_code.specs.Instructions.Plain.{Code}
use Rattle.rb_code.specs.WordMachine.WordRun.{word_run}
use Rattle.rb_recovery.specs.Reading.{states_of, variables_of}
use Rattle.rb_back.specs.Course.{Course, stepped}
use Rattle.rb_back.specs.Laws.{BackBehindStep, Reaches, ViewIsOfRun, back, forth, loaded}
use Rattle.rb_back.proofs.Mixed.{take_next}

-- the turns that were taken are the first of a list, and the position lies among them
record IsFront (c : Code) (groups : List Membership) (turns : List ℕ) (s : Course) : Type 0 where
  code : s.code ≡ c
  groups_are : s.groups ≡ groups
  front : s.ran ≡ take (length s.ran) turns
  within : s.position ≤ length s.ran

-- the turns behind a step
record AreBehind (turns : List ℕ) (s : Course) (p : ℕ) : Type 0 where
  front : (stepped s p).ran ≡ take (length (stepped s p).ran) turns
  within : s.position + 1 ≤ length (stepped s p).ran

step_on : (turns : List ℕ) (s : Course) (p : ℕ) → s.ran ≡ take (length s.ran) turns → s.position ≤ length s.ran
    → slice_get turns s.position ≡ Some p → AreBehind turns s p
step_on turns s p front within there = by (nat_lt s.position (length s.ran)) refl
  where
    by : (b : Bool) → nat_lt s.position (length s.ran) ≡ b → AreBehind turns s p
    by true less =
        let same : (stepped s p).ran ≡ s.ran = ap (λ (d : Bool). cond d s.ran (s.ran ++ p ∷ [])) less in
        record {
          front = same ∙ front ∙ ap (λ n. take n turns) (sym (ap length same));
          within = (let e = ap length same in let lt : s.position < length s.ran = grind (arith, nat_tests) in omega arith);
        }
    by false past =
        let same : (stepped s p).ran ≡ s.ran ++ p ∷ [] = ap (λ (d : Bool). cond d s.ran (s.ran ++ p ∷ [])) past in
        let last : s.position ≡ length s.ran = (let no : length s.ran ≤ s.position = grind (arith, nat_tests) in omega arith) in
        let long : length (stepped s p).ran ≡ length s.ran + 1 = omega (arith, ap length same, length-append s.ran (p ∷ [])) in
        record {
          front = same ∙ ap (λ (xs : List ℕ). xs ++ p ∷ []) front
              ∙ sym (take_next turns (length s.ran) p (ap (slice_get turns) (sym last) ∙ there))
              ∙ ap (λ n. take n turns) (sym long);
          within = omega (arith, last, long);
        }

reached : (c : Code) (groups : List Membership) (turns : List ℕ) (s : Course) → Reaches c groups turns s → IsFront c groups turns s
reached c groups turns _ (loaded most) = record { code = refl; groups_are = refl; front = refl; within = omega arith }
reached c groups turns _ (forth {s} p so_far there) =
    let h = reached c groups turns s so_far in
    let next = step_on turns s p h.front h.within there in
    record { code = h.code; groups_are = h.groups_are; front = next.front; within = next.within }
reached c groups turns _ (back {s} so_far some) =
    let h = reached c groups turns s so_far in
    record { code = h.code; groups_are = h.groups_are; front = h.front; within = omega (arith, h.within) }

pub view_is_of_run : ViewIsOfRun
view_is_of_run c groups turns s reaches =
    let h = reached c groups turns s reaches in
    let same : take s.position s.ran ≡ take s.position turns =
    ap (take s.position) h.front ∙ take-take s.position (length s.ran) turns h.within in
    record {
      states = λ i. states_of (word_run (h.code i) (h.groups_are i) (same i)).0.processes;
      variables = λ i. variables_of (h.code i) (word_run (h.code i) (h.groups_are i) (same i)).0.processes;
    }

-- one back behind one forth
pub back_behind_step : BackBehindStep
back_behind_step s p within may =
    let at : s.position + 1 - 1 ≡ s.position = omega arith in
    let same : take (s.position + 1 - 1) (stepped s p).ran ≡ take s.position s.ran =
    ap (λ n. take n (stepped s p).ran) at ∙ front (nat_lt s.position (length s.ran)) in
    record {
      position = at;
      states = ap (λ (turns : List ℕ). states_of (word_run s.code s.groups turns).0.processes) same;
      variables = ap (λ (turns : List ℕ). variables_of s.code (word_run s.code s.groups turns).0.processes) same;
    }
  where
    front : (b : Bool) → take s.position (cond b s.ran (s.ran ++ p ∷ [])) ≡ take s.position s.ran
    front true = refl
    front false = take-append-le s.position s.ran (p ∷ []) within
