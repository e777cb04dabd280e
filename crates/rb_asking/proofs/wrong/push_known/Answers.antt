use Rattle.std.proofs.Common.{[], ◌∷◌, codes}
use Rattle.rb_asking.specs.Misasked.{meant}
use Rattle.rb_asking.proofs.Appended.{put_between}
use Rattle.rb_asking.proofs.wrong.push_known.Goals as goal

pub returns : goal.returns
unfolding meant
returns c =
    put_between c.args.told.now.items c.push.new.text.items c.push_bytes.new.text.items c.push-2.new.text.items (codes "; did you mean `" ∷ [])
    c.args.name.now (codes "`?" ∷ []) c.in_ok-push.ensures c.in_ok-push_bytes.ensures c.in_ok-push-2.ensures
