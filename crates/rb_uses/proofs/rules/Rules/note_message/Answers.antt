use Rattle.std.proofs.Common.{◌≡◌, ◌++◌, not, slice_get, ap, ◌∙◌}
use Rattle.rb_base.specs.declared.fault.FaultName.TheVariants.{N8, N9, N10}
use Rattle.rb_syntax.specs.Plain.{tree}
use Rattle.rb_meaning.specs.Groups.{channels_of}
use Rattle.rb_meaning.specs.Nesting.{is_end}
use Rattle.rb_scope.specs.Finding.{first_after}
use Rattle.rb_scope.specs.Rules.{where_broken}
use Rattle.rb_uses.specs.Memory.{deed_of}
use Rattle.rb_uses.specs.Summary.{speaks_within}
use Rattle.rb_uses.proofs.Noted.{then_noted}
use Rattle.rb_uses.proofs.rules.Rules.note_message.Goals as goal

pub returns : goal.returns
returns c =
    let whole = tree c.args.self.now.uses.now.program.now in
    let one = c.args.one.now in
    let place = one.name.place in
    let channel = slice_get (channels_of whole) one.number in
    let n8 = where_broken one.in_procedure N8 place in
    let n9 = where_broken (not (is_end (deed_of c.args.deed) one.process channel)) N9 place in
    let n10 = where_broken (not (speaks_within whole one.within channel)) N10 place in
    let at8 = c.note.new.first in
    let at9 = c.note-2.new.first in
    let end : at9 ≡ first_after at8 n9 =
    c.note-2.ensures ∙ ap (λ b. first_after at8 (where_broken (not b) N9 place)) c.is_end-is_end.ensures
    in
    let within : c.note-3.new.first ≡ first_after at9 n10 =
    c.note-3.ensures ∙ ap (λ b. first_after at9 (where_broken (not b) N10 place)) c.speaks_within-speaks_within.ensures
    in
    then_noted c.args.first.now at8 c.note-3.new.first n8 (n9 ++ n10) c.note.ensures (then_noted at8 at9 c.note-3.new.first n9 n10 end within)
