-- Each row is computed.
use Rattle.std.proofs.Common.{refl}
use Rattle.std.specs.Fmt.{digits}
use Rattle.rb_page.proofs.rows.pages.Goals as goal

pub returns-clause-all_marks : goal.returns-clause-all_marks
unfolding digits
returns-clause-all_marks c = refl

pub returns-clause-no_mark : goal.returns-clause-no_mark
unfolding digits
returns-clause-no_mark c = refl

pub returns-clause-mark_in_text : goal.returns-clause-mark_in_text
unfolding digits
returns-clause-mark_in_text c = refl

pub returns-clause-out_of_order : goal.returns-clause-out_of_order
unfolding digits
returns-clause-out_of_order c = refl

pub returns-clause-twice : goal.returns-clause-twice
unfolding digits
returns-clause-twice c = refl
