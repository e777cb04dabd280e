use Rattle.std.proofs.Common.{◌%◌, ℤ, List, [], length, map, w64, rules, arith, sym, ap, ◌∙◌}
use Rattle.std.specs.Prelude.{get_or, slice_set}
use Rattle.std.proofs.lemmas.Int.{to_z-of_z}
use Rattle.rb_proc.proofs.Mailed.{change_beyond, change_there, lengths_kept, sized_change}
use Rattle.rb_proc.proofs.channels.put_mail.Goals as goal

pub returns-then-channel-len-clause-put : goal.returns-then-channel-len-clause-put
returns-then-channel-len-clause-put c p sized =
    let mails = c.args.mails.now in
    let values = get_or mails c.args.channel [] in
    c.put.ensures
    ∙ ap (λ (v : ℤ). slice_set mails c.args.channel (slice_set values (c.args.index % length values) v))
    (to_z-of_z w64 c.args.value (search rules))
    ∙ sym (change_there c.args.channel (λ (vs : List ℤ). slice_set vs (c.args.index % length vs) c.args.value) mails [] (omega arith))
    ∙ sized_change mails p.channels c.args.channel c.args.index c.args.value sized

pub returns-else-channel-len-clause-put : goal.returns-else-channel-len-clause-put
returns-else-channel-len-clause-put c p sized = sym (change_beyond _ _ _ (omega arith))

pub returns-then-channel-len-clause-sized : goal.returns-then-channel-len-clause-sized
returns-then-channel-len-clause-sized c =
    let mails = c.args.mails.now in
    let values = get_or mails c.args.channel [] in
    ap (λ (xs : List (List ℤ)). map length xs)
    (c.put.ensures
    ∙ ap (λ (v : ℤ). slice_set mails c.args.channel (slice_set values (c.args.index % length values) v))
    (to_z-of_z w64 c.args.value (search rules))
    ∙ sym (change_there c.args.channel (λ (vs : List ℤ). slice_set vs (c.args.index % length vs) c.args.value) mails [] (omega arith)))
    ∙ lengths_kept c.args.channel (λ (vs : List ℤ). c.args.index % length vs) c.args.value mails
