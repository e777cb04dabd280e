use Rattle.std.proofs.Common.{◌≡◌, ◌+◌, length}
use Rattle.rb_page.specs.Page.{place_of}
use Rattle.rb_page.proofs.Places.{counted_on}
use Rattle.rb_page.proofs.page.place_of.Given as goal

-- the mark stands nowhere before what is left
abbrev pub invariant-loop-rest : goal.invariant-loop-rest
invariant-loop-rest l = (place_of l.mark l.text ≡ counted_on l.at (place_of l.mark l.rest)) × (l.at + length l.rest ≡ length l.text)

abbrev pub decreases-loop-rest : goal.decreases-loop-rest
decreases-loop-rest l = length l.rest
