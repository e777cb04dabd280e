-- The whole text of a plain run, of which each turn can be taken: its lines, and then its values.
use Rattle.std.proofs.Common.{◌≡◌, ◌++◌, ℕ, List, Option, Some, None, Result, Ok, Err, refl, sym, ap, ap₂, ◌∙◌, subst, inl}
use Rattle.std.specs.Result.{IsErrAnd}
use Rattle.rb_base.specs.declared.names.Names.{Names}
use Rattle.rb_outside.specs.Outside.{Faults}
use Rattle.rb_syntax.specs.Tree.{Tree}
use Rattle.rb_trace.specs.Naming.{naming}
use Rattle.rb_world.specs.Text.{Naming, values_text}
use Rattle.rb_world.specs.World.{World}
use Rattle.rb_base.specs.declared.kept.Kept.{Kept}
use Rattle.rb_world.specs.Plain.{PlainEnd, Ended, StuckAt}
use Rattle.rb_world.proofs.ListFacts.{none_some, some_same}
use Rattle.rb_meaning.specs.State.{State}
use Rattle.rb_meaning.specs.Step.{Nothing}
use Rattle.rb_meaning.specs.Meaning.{final_of, naming_of}
use Rattle.rb_meaning.specs.PlainRun.{EntryPoint, PlainWorld, plain_text, plain_text_at}
use Rattle.rb_levels.specs.declared.answer.PlainAnswer.{PlainAnswer}
use Rattle.rb_levels.specs.declared.answer.PlainAnswer.TheVariants.{Stuck, WriteFault, Memory}
use Rattle.rb_plain.specs.Played.{Plays, Rehearses, outs_in, played, stuck_in, unkept_opening, world_in}
use Rattle.rb_plain.proofs.Unkept.{unnoted_tell_same}

-- a plain run that is stuck nowhere ends in a world
pub some_world : {S C M : Type 0} (end : PlainEnd S C M) → stuck_in end ≡ None → (w : World S C M) × (world_in end ≡ Some w)
some_world (Ended w lines) e = (w, refl)
some_world (StuckAt t) e = absurd (none_some (sym e))

end_text : (tree : Tree) (names : Naming) (end : PlainEnd State EntryPoint Nothing) (v : PlainWorld) → names ≡ naming_of tree → world_in end ≡ Some v
    → plain_text_at tree end ≡ Ok (outs_in names end ++ values_text names (final_of tree v))
end_text tree names (Ended w lines) v named e =
    sym (ap₂ (λ (n : Naming) (w : PlainWorld). Ok (outs_in n (Ended w lines) ++ values_text n (final_of tree w))) named (sym (some_same e)))
end_text tree names (StuckAt t) v named e = absurd (none_some e)

-- its text is what it prints, and then the values of that world
pub text_is : (tree : Tree) (names : Names) (turns : List Kept) (v : PlainWorld) → naming names ≡ naming_of tree
    → world_in (played tree turns (unkept_opening tree)) ≡ Some v
    → plain_text tree turns ≡ Ok (outs_in (naming names) (played tree turns (unkept_opening tree)) ++ values_text (naming names) (final_of tree v))
text_is tree names turns v named e =
    sym (unnoted_tell_same tree turns) ∙ end_text tree (naming names) (played tree turns (unkept_opening tree)) v named e

stuck_text : (tree : Tree) (end : PlainEnd State EntryPoint Nothing) (t : ℕ) → stuck_in end ≡ Some t → plain_text_at tree end ≡ Err t
stuck_text tree (Ended w lines) t e = absurd (none_some e)
stuck_text tree (StuckAt u) t e = ap Err (some_same e)

-- what is answered where a turn is stuck, or memory was wanting before anything was written
answered_plays : (tree : Tree) (turns : List Kept) (w : Option (List ℕ)) (f : Faults) (answer : PlainAnswer)
    → Rehearses (stuck_in (played tree turns (unkept_opening tree))) (Err answer) → Plays (plain_text tree turns) w w f f (Err answer)
answered_plays tree turns w f (Stuck t) e =
    (sym (unnoted_tell_same tree turns) ∙ stuck_text tree (played tree turns (unkept_opening tree)) t e, refl, refl)
answered_plays tree turns w f WriteFault e = absurd e
answered_plays tree turns w f Memory e = inl (refl, refl)

pub rehearsed_plays : (tree : Tree) (turns : List Kept) (w : Option (List ℕ)) (f : Faults) (answer : PlainAnswer) (r : Result (Unit {0}) PlainAnswer)
    → IsErrAnd r (λ x. x ≡ answer) → Rehearses (stuck_in (played tree turns (unkept_opening tree))) (Err answer)
    → Plays (plain_text tree turns) w w f f r
rehearsed_plays tree turns w f answer (Ok done) h p = absurd h
rehearsed_plays tree turns w f answer (Err x) h p =
    subst (λ y. Plays (plain_text tree turns) w w f f (Err y)) (sym h) (answered_plays tree turns w f answer p)
