use Rattle.std.proofs.Common.{[], ◌∷◌, map, codes, sym}
use Rattle.std.specs.List.{flat_map}
use Rattle.std.proofs.lemmas.List.{append-nil}
use Rattle.rb_asking.specs.Guides.{guide_of}
use Rattle.rb_asking.specs.Misasked.{command_missing, usage_row}
use Rattle.rb_asking.proofs.Appended.{put_between}
use Rattle.rb_asking.proofs.misasked.push_missing.Goals as goal

pub returns : goal.returns
unfolding command_missing
returns c =
    put_between c.args.told.now.items c.push.new.text.items c.push_usages.new.text.items c.push_usages.new.text.items
    (c.args.program.now ∷ codes ": a command is missing\n" ∷ [])
    (flat_map usage_row (map guide_of c.args.guides.now)) [] c.in_ok-push.ensures c.in_ok-push_usages.ensures
    (sym (append-nil c.push_usages.new.text.items))
