-- A source that is ready to be traced: what the trace of its code's run is.
use Rattle.std.proofs.Common.{◌≡◌, ℕ, List, Option, ap, ◌∙◌}
use Rattle.rb_base.specs.declared.place.Place.{Place}
use Rattle.rb_world.specs.Kind.{Membership}
use Rattle.rb_meaning.specs.Groups.{groups_of}
use Rattle.rb_code.specs.Instructions.Plain.{code}
use Rattle.rb_conv.specs.Conversations.{memberships, opening}
use Rattle.rb_recovery.specs.Worlds.{counts_of}
use Rattle.rb_nest.specs.Groups.{alternates}
use Rattle.rb_picture.specs.Meant.{tree_trace_text}
use Rattle.rb_picture.specs.Trace.{trace_text}
use Rattle.rb_view.proofs.AsMeant.{traces_as_meant}
use Rattle.rb_commands.proofs.Loaded.{groups_are, opened_counts}
use Rattle.rb_show.specs.Traced.{IsTraced}
use Rattle.rb_show.specs.declared.traced.Traced.{Traced}

-- the trace that is written of its code is that of its meaning
pub traced_for : (source : List ℕ) (traced : Traced) (ready : IsTraced source traced) (turns : List ℕ)
    → trace_text (code traced.prepared.code) (memberships (opening traced.prepared.nested)) (counts_of (opening traced.prepared.nested))
    traced.places.items turns
    ≡ tree_trace_text ready.prepared.tree turns
traced_for source traced ready turns =
    let c = code traced.prepared.code in
    let nested = traced.prepared.nested in
    let tree = ready.prepared.tree in
    ap (λ (groups : List Membership). trace_text c groups (counts_of (opening nested)) traced.places.items turns)
    (groups_are source traced.prepared ready.prepared)
    ∙ ap (λ (counts : List ℕ). trace_text c (groups_of tree) counts traced.places.items turns) (opened_counts nested)
    ∙ ap (λ (places : List (Option Place)). trace_text c (groups_of tree) (alternates nested) places turns) ready.places
    ∙ traces_as_meant source tree ready.prepared.slots c ready.prepared.accepted ready.prepared.is_code.frames ready.prepared.is_code.stands
    nested turns ready.prepared.conversations
