use Rattle.std.proofs.Common.{◌∙◌, ℕ, List, ◌++◌, codes, ap}
use Rattle.rb_tell.proofs.Joined.{joined_three}
use Rattle.rb_tell.proofs.end.unwritten.Goals as goal

pub returns : goal.returns
returns c =
    let said = c.in_ok-add_said.ensures in
    let t0 = c.new-told.result.items in
    let t1 = c.extend_from_slice.new.self.items in
    let t2 = c.extend_from_slice-2.new.self.items in (
      said.0,
      joined_three t0 t1 t2 c.add_said.new.told.items c.args.program.now (codes ": cannot write to standard output") (said.0 ++ codes "\n")
          c.new-told.ensures.items
          (c.in_ok-extend_from_slice.ensures.items ∙ ap (λ (x : List ℕ). t0 ++ x) c.as_bytes.ensures.value)
          c.in_ok-extend_from_slice-2.ensures.items said.1,
    )
