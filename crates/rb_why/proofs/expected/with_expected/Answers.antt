use Rattle.rb_why.proofs.Listing.{with_some}
use Rattle.rb_why.proofs.expected.with_expected.Goals as goal

pub returns-in_ok-told-2 : goal.returns-in_ok-told-2
returns-in_ok-told-2 c =
    with_some c.args.words.now c.in_ok-first.first.items c.as_slice.result.now c.in_ok-told-2.told.items c.args.may.now c.in-len1-up.len_at_least
    c.in_ok-first.ensures c.as_slice.ensures.value c.in_ok-told-2.ensures
