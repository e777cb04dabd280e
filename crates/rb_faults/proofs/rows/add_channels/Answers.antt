use Rattle.std.proofs.Common.{List, ℕ, map, ap, refl, ◌∙◌}
use Rattle.std.proofs.lemmas.List.{map_push}
use Rattle.rb_syntax.specs.declared.program.Channel.{Channel}
use Rattle.rb_syntax.specs.Plain.{channel_declaration}
use Rattle.rb_scope.specs.Memory.{held, all_held}
use Rattle.rb_scope.specs.Scopes.{Declared, channels_from}
use Rattle.rb_faults.proofs.Named.{counted_step, fewer_left, named_end}
use Rattle.rb_faults.proofs.rows.add_channels.Goals as goal

abbrev others : ℕ → List Channel → List Declared
others k xs = channels_from k (map channel_declaration xs)

pub channels-preserved : goal.channels-preserved
channels-preserved c =
    let before = c.channels.declared.items in
    counted_step others c.channels.rest.now _ _ _ _ _ _ (all_held before) _ _ (λ xs. refl) c.in-len1-up.len_at_least refl
    (ap all_held c.in_ok-push.ensures.items ∙ map_push held before _) c.in_ok-number.ensures c.channels.invariant

pub channels-smaller : goal.channels-smaller
channels-smaller c = fewer_left c.channels.rest.now c.in-len1-up.len_at_least

pub returns : goal.returns
returns c =
    named_end (others c.channels.number) c.channels.rest.now (all_held c.channels.declared.items) _ refl c.in_default.len_below c.channels.invariant
