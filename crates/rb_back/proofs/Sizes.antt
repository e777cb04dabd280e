-- In every run of sound code there are as many processes as the code has, each with as many words as the code says.
use Rattle.std.proofs.Common.{◌≡◌, ◌≤◌, ◌<◌, ◌+◌, ◌*◌, ◌^◌, ℕ, suc, List, [], ◌∷◌, length, map, sum_by, slice_get, Option, Some, refl, ap, ◌∙◌, subst, arith}
use Rattle.std.specs.Option.{unwrap_or}
use Rattle.std.proofs.lemmas.List.{length-map}
use Rattle.std.proofs.lemmas.List.Sums.{sum_by-cons}
use Rattle.std.proofs.lemmas.Simd.{map-map}
use Rattle.rb_base.specs.Limits.{most_processes, most_words}
use Rattle.rb_base.specs.declared.edition.Edition.{Edition}
use Rattle.rb_base.specs.declared.edition.Edition.TheVariants.{First, Second}
use Rattle.rb_world.specs.Kind.{Membership}
use Rattle.rb_world.specs.Standing.{Each}
use Rattle.rb_world.specs.World.{Process}
use Rattle.rb_world.proofs.Keeping.StandingFacts.{run-size}
use Rattle.rb_code.specs.Instructions.Plain.{Code, Part}
use Rattle.rb_code.specs.SoundCode.WellFormed.{IsPart, IsSound}
use Rattle.rb_code.specs.WordMachine.Turn.{Copy, Standing}
use Rattle.rb_code.specs.WordMachine.WordKind.{word_kind}
use Rattle.rb_code.specs.WordMachine.WordRun.{opening_of, variable_words, word_run}
use Rattle.rb_code.specs.WordMachine.Workspace.{no_part, part_of}
use Rattle.rb_code.proofs.WholeRuns.ProcessesBegin.{all_there}
use Rattle.rb_recovery.specs.Reading.{states_of, variables_of}
use Rattle.rb_machine.proofs.Knowing.Sizes.{opening-processes}
use Rattle.rb_run.proofs.OwnWords.{HasOwnWords, runs_own, variables_long}
use Rattle.rb_back.specs.Journal.{words_of}

-- as many processes
pub run_processes : (c : Code) (groups : List Membership) (turns : List ℕ) → length (word_run c groups turns).0.processes ≡ length c.processes
run_processes c groups turns = (run-size (word_kind c groups) 1 turns (opening_of c groups)).of_processes ∙ opening-processes c groups

pub run_states : (c : Code) (groups : List Membership) (turns : List ℕ)
    → length (states_of (word_run c groups turns).0.processes) ≡ length c.processes
run_states c groups turns = length-map (word_run c groups turns).0.processes _ ∙ run_processes c groups turns

-- as many words each
own_words : (c : Code) (p : ℕ) (part : Part) (q : Process Standing Copy) → slice_get c.processes p ≡ Some part → HasOwnWords c p q
    → length (variable_words c q.state) ≡ part.words
own_words c p part q there h =
    variables_long c q.state h.own ∙ ap (λ (n : ℕ). (part_of c n).words) h.number
    ∙ ap (λ (o : Option Part). (unwrap_or o no_part).words) there

each_own : (c : Code) (p : ℕ) (parts : List Part) (qs : List (Process Standing Copy))
    → ((r : ℕ) (part : Part) → slice_get parts r ≡ Some part → slice_get c.processes (p + r) ≡ Some part) → length qs ≡ length parts
    → Each (λ r q. HasOwnWords c (p + r) q) qs
    → map length (map (λ (q : Process Standing Copy). variable_words c q.state) qs) ≡ map (λ (part : Part). part.words) parts
each_own c p [] [] from as_many own = refl
each_own c p [] (q ∷ qs) from as_many own = absurd (omega arith)
each_own c p (part ∷ parts) [] from as_many own = absurd (omega arith)
each_own c p (part ∷ parts) (q ∷ qs) from as_many own =
    let next : (r : ℕ) → p + suc r ≡ p + 1 + r = λ r. omega arith in
    ap (λ (n : ℕ). n ∷ map length (map (λ (q : Process Standing Copy). variable_words c q.state) qs)) (own_words c (p + 0) part q (from 0 part refl) (own 0 q refl))
    ∙ ap (λ (ns : List ℕ). part.words ∷ ns)
    (each_own c (p + 1) parts qs (λ r x e. subst (λ (n : ℕ). slice_get c.processes n ≡ Some x) (next r) (from (suc r) x e)) (omega arith)
    (λ r x e. subst (λ (n : ℕ). HasOwnWords c n x) (next r) (own (suc r) x e)))

pub run_words : (c : Code) (groups : List Membership) (counts : List ℕ) → IsSound c groups counts → (turns : List ℕ)
    → map length (variables_of c (word_run c groups turns).0.processes) ≡ map (λ (part : Part). part.words) c.processes
run_words c groups counts sound turns =
    let same : (r : ℕ) → r ≡ 0 + r = λ r. omega arith in
    each_own c 0 c.processes (word_run c groups turns).0.processes
    (λ r part e. subst (λ (n : ℕ). slice_get c.processes n ≡ Some part) (same r) e) (run_processes c groups turns)
    (λ r q e. subst (λ (n : ℕ). HasOwnWords c n q) (same r) (runs_own c groups counts sound turns r q e))

-- so in all
sum_alike : {A B : Type 0} (f : A → ℕ) (g : B → ℕ) (xs : List A) (ys : List B) → map f xs ≡ map g ys → sum_by f xs ≡ sum_by g ys
sum_alike f g [] [] e = refl
sum_alike f g [] (y ∷ ys) e = absurd (cc)
sum_alike f g (x ∷ xs) [] e = absurd (cc)
sum_alike f g (x ∷ xs) (y ∷ ys) e =
    let head : f x ≡ g y = cc in
    let tail : map f xs ≡ map g ys = cc in
    omega (arith, sum_by-cons f x xs, sum_by-cons g y ys, sum_alike f g xs ys tail)

pub run_all_words : (c : Code) (groups : List Membership) (counts : List ℕ) → IsSound c groups counts → (turns : List ℕ)
    → sum_by length (variables_of c (word_run c groups turns).0.processes) ≡ words_of c
run_all_words c groups counts sound turns =
    sum_alike length (λ (part : Part). part.words) (variables_of c (word_run c groups turns).0.processes) c.processes
    (run_words c groups counts sound turns)

-- 32 bits number all of them
few_in_all : (most : ℕ) (parts : List Part) → ((r : ℕ) (part : Part) → slice_get parts r ≡ Some part → part.words ≤ most)
    → sum_by (λ (part : Part). part.words) parts ≤ length parts * most
few_in_all most [] each = omega arith
few_in_all most (part ∷ parts) each =
    omega (
      arith,
      sum_by-cons (λ (one : Part). one.words) part parts,
      each 0 part refl,
      few_in_all most parts (λ r x e. each (suc r) x e),
    )

within_limits : (edition : Edition) (n words : ℕ) → n ≤ most_processes edition → words ≤ n * most_words edition → n + words < 2 ^ 20
within_limits First n words few total = omega (arith, few, total)
within_limits Second n words few total = omega (arith, few, total)

pub few_words : (c : Code) (groups : List Membership) (counts : List ℕ) → IsSound c groups counts → length c.processes + words_of c < 2 ^ 20
few_words c groups counts sound =
    within_limits c.edition (length c.processes) (words_of c) sound.well.few_processes
    (few_in_all (most_words c.edition) c.processes (λ r part e. (all_there (IsPart c) c.processes r part sound.well.processes e).words))

-- the sizes as a code in memory tells them
pub held_words : (c : Code) (groups : List Membership) (counts : List ℕ) → IsSound c groups counts → (turns : List ℕ)
    → {A : Type 0} (f : A → Part) (items : List A) → c.processes ≡ map f items
    → map length (variables_of c (word_run c groups turns).0.processes) ≡ map (λ (one : A). (f one).words) items
held_words c groups counts sound turns {A} f items e =
    run_words c groups counts sound turns ∙ ap (map (λ (part : Part). part.words)) e ∙ map-map (λ (part : Part). part.words) f items

pub held_sum : {A : Type 0} (f : A → Part) (items : List A) → sum_by (λ (part : Part). part.words) (map f items) ≡ sum_by (λ (one : A). (f one).words) items
held_sum {A} f items = sum_alike (λ (part : Part). part.words) (λ (one : A). (f one).words) (map f items) items (map-map (λ (part : Part). part.words) f items)
