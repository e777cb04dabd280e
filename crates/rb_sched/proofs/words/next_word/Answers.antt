use Rattle.std.proofs.lemmas.Grind.{common_steps}
use Rattle.std.proofs.Common.{◌≡◌, ◌≤◌, ◌-◌, ℕ, true, cond, List, [], ◌∷◌, length, drop, take, get_or, ap, sym, ◌∙◌, arith, length-take, length-drop}
use Rattle.std.proofs.Math.Seq.{take-length}
use Rattle.rb_sched.specs.Schedule.{is_space, words_from}
use Rattle.rb_sched.proofs.words.next_word.Goals as goal

-- a space before the first word is passed
space-passed : (rest : List ℕ) → 1 ≤ length rest → true ≡ is_space (get_or rest 0 0)
    → words_from [] rest ≡ words_from [] (take (length rest - 1) (drop 1 rest))
space-passed [] some space = absurd (omega arith)
space-passed (b ∷ bs) some space =
    let fewer : length (b ∷ bs) - 1 ≡ length bs = omega arith in
    ap (λ t. cond t (words_from [] bs) (words_from (b ∷ []) bs)) (sym space)
    ∙ ap (words_from []) (sym (ap (λ n. take n bs) fewer ∙ take-length bs))

pub loop-rest-preserved : goal.loop-rest-preserved
loop-rest-preserved c = record {
  within = simp (length-take, length-drop) (omega arith);
  read = c.loop-rest.invariant.read ∙ space-passed c.loop-rest.rest.now c.in-len1-up.len_at_least c.if-not-is_space.ensures;
}

pub returns-then-not-is_space : goal.returns-then-not-is_space
returns-then-not-is_space c = grind (arith, common_steps)

pub returns : goal.returns
returns c = grind (arith, common_steps)
