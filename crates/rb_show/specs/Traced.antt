-- A source that is ready to be traced.
use Rattle.std.specs.Prelude.{◌≡◌, ℕ, List}
use Rattle.rb_code.specs.Agreement.Places.{places_told}
use Rattle.rb_code.specs.Instructions.Plain.{code}
use Rattle.rb_conv.specs.Conversations.{memberships, opening}
use Rattle.rb_recovery.specs.Worlds.{counts_of}
use Rattle.rb_picture.specs.Trace.{trace_text}
use Rattle.rb_prepare.specs.Prepared.{IsPrepared}
use Rattle.rb_show.specs.declared.traced.Traced.{Traced}

-- It is accepted, with code that stands for its tree, and with the places of that code's turns in it.
pub record IsTraced (source : List ℕ) (traced : Traced) : Type 0 where
  pub prepared : IsPrepared source traced.prepared
  pub places : traced.places.items ≡ places_told prepared.tree traced.prepared.code.instrs.items

-- the trace of the run of its code over these turns
abbrev pub trace_over : Traced → List ℕ → List ℕ
trace_over traced turns =
    let groups = opening traced.prepared.nested in
    trace_text (code traced.prepared.code) (memberships groups) (counts_of groups) traced.places.items turns
