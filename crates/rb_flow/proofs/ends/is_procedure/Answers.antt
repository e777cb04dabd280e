use Rattle.std.proofs.Common.{◌≡◌, ℕ, List, slice_get, Option, Some, None, sym, ap, ◌∙◌}
use Rattle.std.proofs.lemmas.Option.{slice_get-get_or, slice_get_past}
use Rattle.std.specs.BTreeSet.{BTreeSet}
use Rattle.rb_code.specs.Instructions.Plain.{code as plain}
use Rattle.rb_flow.specs.Ends.{has_start}
use Rattle.rb_flow.proofs.Starting.{at_process}
use Rattle.rb_flow.proofs.ends.is_procedure.Goals as goal

pub returns-in-None : goal.returns-in-None
returns-in-None c =
    let p = c.args.process
    in let found : slice_get c.args.ends.now.starts.items p ≡ None
    = ap (λ (xs : List (BTreeSet ℕ)). slice_get xs p) (sym c.deref.ensures.value)
    ∙ slice_get_past c.deref.result.now p c.in-None.ensures.lookup.3
    in ap (λ (o : Option (BTreeSet ℕ)). has_start o c.args.at) (sym found)
    ∙ at_process (plain c.args.code.now) c.args.ends.now.starts.items p c.args.at c.requires.ends.starts

pub returns-in-Some : goal.returns-in-Some
returns-in-Some c =
    let p = c.args.process
    in let set = c.in-Some.starts.now
    in let at = c.in-Some.ensures.lookup.3
    in let found : slice_get c.args.ends.now.starts.items p ≡ Some set
    = ap (λ (xs : List (BTreeSet ℕ)). slice_get xs p) (sym c.deref.ensures.value) ∙ slice_get-get_or c.deref.result.now p set at.0
    ∙ ap Some (sym (at.1 set))
    in c.contains.ensures ∙ ap (λ (o : Option (BTreeSet ℕ)). has_start o c.args.at) (sym found)
    ∙ at_process (plain c.args.code.now) c.args.ends.now.starts.items p c.args.at c.requires.ends.starts
