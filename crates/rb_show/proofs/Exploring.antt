-- What is told of an answer to the search over all schedules of the code of a source.
use Rattle.std.proofs.Common.{◌≡◌, ℕ, List, [], Option, sym, subst, ap, ◌∙◌}
use Rattle.rb_world.specs.Kind.{Membership}
use Rattle.rb_world.specs.Text.{Naming}
use Rattle.rb_trace.specs.Naming.{naming}
use Rattle.rb_code.specs.Instructions.Plain.{code}
use Rattle.rb_code.specs.SoundCode.WellFormed.{IsSound}
use Rattle.rb_recovery.specs.Worlds.{counts_of}
use Rattle.rb_conv.specs.Conversations.{memberships, opening}
use Rattle.rb_explore.specs.System.{IsLawful}
use Rattle.rb_outcomes.specs.Programs.{system_of_code}
use Rattle.rb_outcomes.proofs.Lawful.{code_lawful}
use Rattle.rb_prepare.specs.declared.preparing.Prepared.{Prepared}
use Rattle.rb_hall.specs.Judgement.{Judgement}
use Rattle.rb_verdict.specs.Judging.{first_accepted}
use Rattle.rb_commands.specs.Held.{HoldsCompiled}
use Rattle.rb_commands.specs.declared.source.Compiled.TheVariants as compiled
use Rattle.rb_commands.proofs.Loaded.{groups_are, is_sound, made_for}
use Rattle.rb_schedules.specs.Answer.{Answer}
use Rattle.rb_schedules.specs.Promises.{AnswersCode}
use Rattle.rb_schedules.specs.declared.answer.TheConstants.{LIMITS}
use Rattle.rb_schedules.proofs.Meant.{code_answers}
use Rattle.rb_show.specs.Explored.{JudgesExplored, tells, told_of}

-- what is told of an answer to the search over the code of an accepted source is what `explore` makes of the source
pub explored_tells : (number : Option ℕ) (prepared : Prepared) (a : Answer)
    → AnswersCode (code prepared.code) (memberships (opening prepared.nested)) LIMITS a
    → (texts : List (List ℕ)) → HoldsCompiled texts (compiled.Program prepared)
    → (judgement : Judgement) → judgement ≡ told_of (naming prepared.code.names) number a → JudgesExplored number texts judgement
explored_tells number prepared a answers texts (source, e, is, short) judgement told =
    let c = code prepared.code in
    let of_code = subst (λ (groups : List Membership). AnswersCode c groups LIMITS a) (groups_are source prepared is) answers in
    subst (λ (ts : List (List ℕ)). JudgesExplored number ts judgement) (sym e)
    (first_accepted source is.tree [] judgement is.accepted
    (tells judgement a
    (record {
      code = c;
      made = made_for source prepared is;
      of_code = of_code;
      of_tree = code_answers source is.tree is.slots c is.accepted is.is_code.frames is.is_code.stands LIMITS a of_code;
    })
    (told ∙ ap (λ (names : Naming). told_of names number a) is.is_code.stands.names_are)))

-- the system of such code is lawful
pub explored_lawful : (prepared : Prepared) (texts : List (List ℕ)) → HoldsCompiled texts (compiled.Program prepared)
    → IsLawful (system_of_code (code prepared.code) (memberships (opening prepared.nested)))
explored_lawful prepared texts (source, e, is, short) =
    let c = code prepared.code in
    subst (λ (groups : List Membership). IsLawful (system_of_code c groups)) (sym (groups_are source prepared is))
    (code_lawful source is.tree is.slots c is.accepted is.is_code.frames is.is_code.stands)

-- and it is sound
pub explored_sound : (prepared : Prepared) (texts : List (List ℕ)) → HoldsCompiled texts (compiled.Program prepared)
    → IsSound (code prepared.code) (memberships (opening prepared.nested)) (counts_of (opening prepared.nested))
explored_sound prepared texts (source, e, is, short) = is_sound source prepared is
