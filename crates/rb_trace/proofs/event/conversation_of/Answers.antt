use Rattle.std.proofs.Common.{ℕ, List, [], Option, length, refl, slice_get, ap, sym, ◌∙◌}
use Rattle.std.specs.Option.{unwrap_or}
use Rattle.std.proofs.lemmas.Bool.{ltb-false}
use Rattle.std.proofs.lemmas.Option.{slice_get_past, slice_get_read}
use Rattle.rb_trace.proofs.event.conversation_of.Goals as goal

pub returns-in-Some : goal.returns-in-Some
returns-in-Some c =
    let xs = c.deref.result.now in
    let found = c.in-Some.ensures.lookup in
    c.as_bytes.ensures
    ∙ sym
    (ap (λ (name : Option (List ℕ)). unwrap_or name [])
    (ap (λ names. slice_get names c.args.conversation) (sym c.deref.ensures.value)
    ∙ slice_get_read xs (length xs) c.args.conversation c.in-Some.name.now refl found.3.0 found.1))

pub returns-in-None : goal.returns-in-None
returns-in-None c =
    let xs = c.deref.result.now in
    let past = ltb-false c.args.conversation (length xs) (sym c.in-None.ensures.lookup.0) in
    sym
    (ap (λ (name : Option (List ℕ)). unwrap_or name [])
    (ap (λ names. slice_get names c.args.conversation) (sym c.deref.ensures.value) ∙ slice_get_past xs c.args.conversation past))
