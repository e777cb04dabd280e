use Rattle.std.proofs.Common.{◌≡◌, ◌<◌, Bool, length, get_or, ap, ◌∙◌, arith}
use Rattle.std.proofs.lemmas.List.{get_or_default}
use Rattle.rb_world.specs.Reject.{is_below}
use Rattle.rb_conv.specs.Conversations.{memberships, nobody}
use Rattle.rb_conv.specs.Reject.{emptied_below, has_next, put_back}
use Rattle.rb_conv.proofs.EmptyBelow.{length-emptied_from, room_after}
use Rattle.rb_conv.proofs.Places.{written}
use Rattle.rb_conv.proofs.rejection.reject.Goals as goal

pub put_back-requires : goal.put_back-requires
put_back-requires c =
    let xs = c.args.conversations.now in
    λ is_left. room_after (is_below (memberships xs) (length xs) c.args.c) xs c.empty_below.new.conversations c.args.c
    c.index-conversations-c.result c.index-conversations-c-2.result _ c.empty_below.ensures c.requires (omega arith)
    (c.has_next-is_left.ensures.room is_left)

pub returns-clause-rejected : goal.returns-clause-rejected
returns-clause-rejected c =
    let xs = c.args.conversations.now in
    let ys = c.empty_below.new.conversations in
    let i = c.args.c in
    let old = get_or xs i c.index-conversations-c.result in
    let x = get_or ys i c.index-conversations-c-2.result in
    let same : length (emptied_below i xs) ≡ length xs = length-emptied_from (is_below (memberships xs) (length xs) i) 0 xs in
    let h : i < length (emptied_below i xs) = omega (arith, c.requires, same) in
    let h2 : i < length ys = omega (arith, h, ap length c.empty_below.ensures) in
    let left : c.has_next-is_left.result ≡ has_next (get_or xs i nobody) =
    c.has_next-is_left.ensures.answer ∙ ap has_next (get_or_default xs i c.index-conversations-c.result nobody c.requires) in
    written (put_back (has_next (get_or xs i nobody))) ys (emptied_below i xs) i x c.put_back.new.self c.empty_below.ensures h
    (get_or_default ys i c.index-conversations-c-2.result x h2)
    (c.put_back.ensures ∙ ap (λ (b : Bool). put_back b x) left)
