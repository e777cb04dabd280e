use Rattle.std.proofs.Common.{List, ℕ, Bor, map, ap, ◌++◌, ◌∙◌}
use Rattle.rb_trace.specs.Naming.{naming}
use Rattle.rb_code.specs.SoundCode.WellFormed.{outer_names}
use Rattle.rb_lists.specs.Naming.{all_differ}
use Rattle.rb_lists.proofs.Differing.{tells_names}
use Rattle.rb_lists.proofs.distinct.names_differ.Goals as goal

pub returns : goal.returns
returns c =
    let none = ap (λ (names : List (Bor (List ℕ))). map (λ name. name.now) names ++ outer_names (naming c.args.names.now)) c.new-outer.ensures.items in
    tells_names c.all_differ.result _ (outer_names (naming c.args.names.now)) (c.in_ok-push_outer.ensures ∙ none)
    (c.all_differ.ensures ∙ ap all_differ c.deref.ensures.value)
