-- What is known of a recovery block in memory, once the number of its conversation is known.
use Rattle.std.proofs.Common.{◌≡◌, ℕ, Option, option_map, ap, sym, ◌∙◌}
use Rattle.rb_syntax.specs.declared.statement.Recovery.{Recovery, out-Recovery}
use Rattle.rb_syntax.specs.Tree.{Tree}
use Rattle.rb_syntax.specs.Plain.{identifier, recovery_block}
use Rattle.rb_syntax.proofs.Bridge.{recovery_layer, recovery_out}
use Rattle.rb_meaning.specs.Groups.{conversation_of, facts_of}
use Rattle.rb_levels.specs.Worlds.{facts_with}

pub facts_are : (tree : Tree) (block : Recovery) (n : Option ℕ) → n ≡ conversation_of tree (option_map identifier (out-Recovery block).conversation)
    → facts_with n (recovery_block block) ≡ facts_of tree (recovery_block block)
facts_are tree block n e =
    ap (facts_with n) (recovery_out block)
    ∙ ap (λ m. facts_with m (recovery_layer (out-Recovery block))) e
    ∙ ap (facts_of tree) (sym (recovery_out block))
